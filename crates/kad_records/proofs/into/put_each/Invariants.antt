use Rattle.std.proofs.Common.{take}
use Rattle.std.specs.Prelude.{flat_map}
use Rattle.kad_bencode.specs.Written.{Puts}
use Rattle.kad_records.proofs.into.put_each.Given as goal

abbrev pub invariant-loop-item : goal.invariant-loop-item
invariant-loop-item g l = Puts l.initial.buf l.buf l.from (flat_map g.R.Record.writes (take l.item-index l.items)) l.at
