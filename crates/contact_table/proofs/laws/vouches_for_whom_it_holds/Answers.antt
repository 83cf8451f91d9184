use Rattle.contact_table.proofs.Beside.{first-noted, limited-vouched, step-stays, step-vouched, run-vouched, shown}
use Rattle.contact_table.proofs.laws.vouches_for_whom_it_holds.Goals as goal

pub returns : goal.returns
returns c = record { limited = limited-vouched; step = step-vouched; run = run-vouched; shown = shown; first = first-noted; stays = step-stays }
