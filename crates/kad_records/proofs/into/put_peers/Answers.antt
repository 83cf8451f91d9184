use Rattle.std.proofs.Common.{◌∷◌, refl}
use Rattle.std.specs.Prelude.{flat_map}
use Rattle.kad_bencode.specs.Spelling.{string_text}
use Rattle.kad_bencode.proofs.Putting.{puts_then}
use Rattle.kad_records.specs.Records.{addr_bytes}
use Rattle.kad_records.proofs.Peers.{peers_text}
use Rattle.kad_records.proofs.into.put_peers.Goals as goal

pub returns : goal.returns
returns c =
    let open_list = puts_then {all = 108 ∷ flat_map (λ peer. string_text (addr_bytes peer)) c.args.peers.now} refl c.put_part-at.ensures c.put_each_peer-at.ensures in
    puts_then (peers_text c.args.peers.now) open_list c.put_part.ensures
