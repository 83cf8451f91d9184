use Rattle.serve_commands.proofs.Saving.{can_be_written}
use Rattle.serve_commands.proofs.printed.table_text.Goals as goal

pub write-requires : goal.write-requires
write-requires c = can_be_written c.in_ok-saved.saved _ c.sound.ensures c.in_ok-saved.ensures
