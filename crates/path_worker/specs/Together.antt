-- What the workers of all paths leave of the book and of the routing table, and which calls they made on the table.
use Rattle.std.specs.Prelude.{◌≡◌, ◌≢◌, ℕ, ◌<◌, ◌≤◌, List, [], ◌++◌, map, true}
use Rattle.std.specs.List.{All, flat_map}
use Rattle.kad_base.specs.declared.serial.Made.{Made}
use Rattle.kad_base.specs.Serial.{calls_of, left_by, IsRun}
use Rattle.contact_table.specs.declared.calls.TableCall.{TableCall}
use Rattle.contact_table.specs.declared.calls.TableReply.{TableReply}
use Rattle.contact_table.specs.declared.calls.TableReply.TheVariants.{NoMemory}
use Rattle.contact_table.specs.TableState.{TableState}
use Rattle.contact_table.specs.TableStep.{TableMay, TableStep, table_after}
use Rattle.claim_book.specs.declared.types.Entry.{Entry}
use Rattle.claim_book.specs.Journal.{settles_on, settled, unsettled}
use Rattle.claim_book.specs.State.{BookState}
use Rattle.path_worker.specs.Settling.{role_of, seen_with}

-- the entry settles something on one of so many paths
abbrev pub IsSettling : ℕ → Entry → Type 0
IsSettling paths e = (p : ℕ) × (p < paths) × (settles_on p e ≡ true)

-- the call is that of the worker of one of so many paths
abbrev pub IsWorkers : {C R : Type 0} → ℕ → Made C R → Type 0
IsWorkers {C} {R} paths m = (0 < m.role) × (m.role ≤ paths)

-- what was settled of all paths, in whatever order, and the calls on the table in the order in which they were made:
-- one sequential run that leads from the table before to the one after (Herlihy and Wing, 1990)
pub record StopsTogether (old new : BookState) (before after : TableState) : Type 0 where
  pub more : List Entry
  pub setting : new.setting ≡ old.setting
  pub journal : new.journal ≡ old.journal ++ more
  pub settles : All (IsSettling old.setting.paths) more
  pub run : List (Made TableCall TableReply)
  pub is_run : IsRun TableMay TableStep table_after before run
  pub leaves : after ≡ left_by table_after before run
  pub roles : All (IsWorkers old.setting.paths) run

-- nothing is left to settle on any path; of each path the table was told of each contact that is noted, in order, by the
-- path's own worker, and had memory each time
pub record SettlesTogether (old new : BookState) (before after : TableState) : Type 0 where
  pub settling : StopsTogether old new before after
  pub none_left : (p : ℕ) → p < old.setting.paths → unsettled p new.journal ≡ []
  pub tells : (p : ℕ) → p < old.setting.paths → map (λ m. m.call) (calls_of (role_of p) settling.run) ≡ flat_map seen_with (settled p settling.more)
  pub kept : All (λ m. m.reply ≢ NoMemory) settling.run
