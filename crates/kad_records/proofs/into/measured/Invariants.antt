use Rattle.std.proofs.Common.{◌≡◌, min, take, length}
use Rattle.std.specs.Prelude.{flat_map}
use Rattle.kad_bencode.specs.Written.{last_place}
use Rattle.kad_records.proofs.into.measured.Given as goal

abbrev pub invariant-loop-item : goal.invariant-loop-item
invariant-loop-item g l = l.size ≡ min (length (flat_map g.R.Record.writes (take l.item-index l.items))) last_place
