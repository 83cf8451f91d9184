use Rattle.std.proofs.Common.{◌≡◌, ◌≤◌, take, vec_capacity}
use Rattle.claim_book.specs.Legal.{seeded}
use Rattle.claim_book.specs.Claims.{IsMap}
use Rattle.claim_book.specs.Index.{IsPaths}
use Rattle.claim_book.proofs.starting.seed.Given as goal

abbrev pub invariant-loop-i : goal.invariant-loop-i
invariant-loop-i l = record {
  items : l.journal.items ≡ seeded l.setting.per_address l.setting.paths (take l.i l.seeds);
  room : vec_capacity l.initial.journal ≤ vec_capacity l.journal;
  claims : IsMap l.setting (seeded l.setting.per_address l.setting.paths (take l.i l.seeds)) l.claims;
  paths : IsPaths l.setting (seeded l.setting.per_address l.setting.paths (take l.i l.seeds)) l.paths.items;
}
