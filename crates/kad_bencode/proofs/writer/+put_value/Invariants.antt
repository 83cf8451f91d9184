use Rattle.std.proofs.Common.{◌∷◌, take, map}
use Rattle.std.specs.List.{concat}
use Rattle.kad_bencode.specs.Spelling.{text_of, depth_of}
use Rattle.kad_bencode.specs.Written.{Puts, PutsOpen}
use Rattle.kad_bencode.proofs.writer.+put_value.Given as goal

abbrev pub decreases-put_value : goal.decreases-put_value
decreases-put_value l = depth_of l.value.now

abbrev pub invariant-values : goal.invariant-values
invariant-values l = Puts l.fn.buf l.buf l.from (108 ∷ concat (map text_of (take l.item-index l.item-items))) l.at

abbrev pub invariant-pairs : goal.invariant-pairs
invariant-pairs l = PutsOpen l.fn.buf l.buf l.from (take l.pair-index l.pair-items) l.at
