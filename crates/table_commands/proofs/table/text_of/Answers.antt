use Rattle.table_commands.proofs.Tabling.{can_be_written}
use Rattle.table_commands.proofs.table.text_of.Goals as goal

pub write-requires : goal.write-requires
write-requires c = can_be_written c.in_ok-saved.saved _ c.sound.ensures c.in_ok-saved.ensures
