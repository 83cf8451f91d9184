use Rattle.table_refresh.proofs.Determined.{one_standing, standing_sound, one_table}
use Rattle.table_refresh.proofs.laws.one_refresh.Goals as goal

pub returns : goal.returns
returns c = record { standing = one_standing; sound = standing_sound; table = one_table }
