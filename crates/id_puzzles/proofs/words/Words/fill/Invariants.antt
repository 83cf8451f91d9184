use Rattle.std.proofs.Common.{◌≡◌, ◌+◌, ◌*◌, take, length}
use Rattle.kad_base.specs.Words.{drawn_bytes}
use Rattle.id_puzzles.proofs.words.Words.fill.Given as goal

abbrev pub invariant-loop-i : goal.invariant-loop-i
invariant-loop-i l = record {
  len : length l.bytes ≡ length l.fn.bytes;
  words : l.self ≡ record l.fn.self { place = l.fn.self.place + l.i };
  drawn : take (4 * l.i) l.bytes ≡ drawn_bytes l.fn.self.seed l.fn.self.place l.i;
}
