use Rattle.std.proofs.Common.{take}
use Rattle.std.specs.Prelude.{flat_map}
use Rattle.kad_bencode.specs.Spelling.{string_text}
use Rattle.kad_bencode.specs.Written.{Puts}
use Rattle.kad_records.specs.Records.{addr_bytes}
use Rattle.kad_records.proofs.into.put_each_peer.Given as goal

abbrev pub invariant-loop-peer : goal.invariant-loop-peer
invariant-loop-peer l = Puts l.initial.buf l.buf l.from (flat_map (λ peer. string_text (addr_bytes peer)) (take l.peer-index l.peers)) l.at
