use Rattle.std.proofs.Common.{◌≡◌, ◌*◌, length}
use Rattle.id_puzzles.specs.Minting.{HasNoKey}
use Rattle.id_puzzles.proofs.minting.first_key.Given as goal

abbrev pub invariant-loop : goal.invariant-loop
invariant-loop l = record {
  words : l.words ≡ record { seed = l.seed; place = 8 * l.counter };
  len : length l.key ≡ 32;
  none_before : HasNoKey l.seed l.bits l.counter;
}
