use Rattle.std.proofs.Common.{string_bytes}
use Rattle.command_base.proofs.Printing.{pieces_are}
use Rattle.lookup_commands.proofs.Printing.{peers_pieces}
use Rattle.lookup_commands.proofs.printed.print_peer_counts.Goals as goal

pub returns : goal.returns
returns c = pieces_are c.format.result _ _ c.format.ensures.ok (peers_pieces c.args.peers c.args.found _ _ _ c.args.announced (string_bytes c.in_ok-counts.counts) c.in_ok-counts.ensures)
