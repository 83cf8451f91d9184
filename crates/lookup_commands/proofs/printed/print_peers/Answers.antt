use Rattle.std.proofs.Common.{◌∙◌, refl}
use Rattle.lookup_commands.proofs.Printing.{peer_more, peers_end}
use Rattle.lookup_commands.proofs.printed.print_peers.Goals as goal

pub loop-peer-preserved : goal.loop-peer-preserved
loop-peer-preserved c =
    peer_more c.args.peers.now c.loop-peer.output c.add_addr.new.output c.loop-peer.peer-index _ _ c.loop-peer-test.true c.loop-peer.invariant refl c.in_ok-add_addr.ensures

pub returns : goal.returns
returns c =
    peers_end c.args.peers.now c.loop-peer.output c.add_line.new.output _ c.loop-peer.peer-index _ _ _ _ _ c.loop-peer-test.false c.loop-peer.invariant (c.as_str.ensures.value ∙ c.in-Ok.ensures) c.in_ok-add_line.ensures
