-- What callers save of a table, as the state of a table without a limit and without proofs.
use Rattle.std.specs.Prelude.{[]}
use Rattle.bucket_tree.specs.States.{states_of}
use Rattle.contact_table.specs.declared.saved.Saved.{Saved}
use Rattle.contact_table.specs.TableState.{TableState}

abbrev pub state_of : Saved → TableState
state_of saved = record { own = saved.own; k = saved.k; b = saved.b; rows = states_of saved.rows; siblings = saved.siblings; per_address = 0; proofs = [] }
