use Rattle.std.proofs.Common.{take}
use Rattle.std.specs.List.{All}
use Rattle.claim_book.specs.declared.types.Thing.TheVariants.{Told}
use Rattle.claim_book.specs.Claims.{IsKnown, Keeps}
use Rattle.claim_book.proofs.claim_map.learn_each.Given as goal

abbrev pub invariant-loop-report : goal.invariant-loop-report
invariant-loop-report l = record {
  kept : Keeps l.initial.claims l.claims;
  known : All (λ r. IsKnown l.setting l.path l.claims (Told r)) (take l.report-index l.reports);
}
