use Rattle.std.proofs.Common.{subst, sym, ap}
use Rattle.kad_bencode.specs.Spelling.{text_of}
use Rattle.kad_bencode.specs.Written.{PutsPairs}
use Rattle.kad_bencode.proofs.Putting.{puts_pair, puts_same}
use Rattle.kad_krpc.specs.Fields.{maybe}
use Rattle.kad_records.specs.Records.{peers_value}
use Rattle.kad_krpc.proofs.fields.put_maybe_peers.Goals as goal

pub returns-in-Some : goal.returns-in-Some
returns-in-Some c =
    subst (λ o. PutsPairs c.args.buf.now c.put_peers.new.buf c.args.at (maybe c.args.key.now peers_value o) c.put_peers.result) (sym c.in-Some.is)
    (puts_pair c.args.key.now (peers_value c.in-Some.peers) c.put_string-at.ensures (puts_same (ap (λ l. text_of (peers_value l)) (sym c.as_slice.ensures)) c.put_peers.ensures))
