use Rattle.contact_table.proofs.StaysSound.{limited-sound, new-sound, step-sound, run-sound}
use Rattle.contact_table.proofs.laws.stays_sound.Goals as goal

pub returns : goal.returns
returns c = record { new = new-sound; limited = limited-sound; step = step-sound; run = run-sound }
