use Rattle.std.proofs.Common.{string_bytes}
use Rattle.command_base.proofs.Printing.{pieces_are}
use Rattle.plain_commands.proofs.Minting.{minted_pieces}
use Rattle.plain_commands.proofs.mint.print_minted.Goals as goal

pub returns : goal.returns
returns c = pieces_are c.format.result _ _ c.format.ensures.ok (minted_pieces _ _ _ (string_bytes c.in_ok-id.id) (string_bytes c.in_ok-key.key) (string_bytes c.in_ok-x.x) c.in_ok-id.ensures c.in_ok-key.ensures c.in_ok-x.ensures)
