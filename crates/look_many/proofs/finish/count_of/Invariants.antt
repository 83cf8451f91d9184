use Rattle.std.proofs.Common.{◌≡◌, ◌≤◌, take}
use Rattle.look_many.specs.ManyLooked.{how_often}
use Rattle.look_many.proofs.finish.count_of.Given as goal

abbrev pub invariant-loop-one : goal.invariant-loop-one
invariant-loop-one l = record {
  count : l.count ≡ how_often l.number (take l.one-index l.numbers);
  few : l.count ≤ l.one-index;
}
