-- What comes back once the three turns are closed, and where nothing was begun.
use Rattle.std.proofs.Common.{◌≡◌, ◌<◌, List, [], Option, Result, Ok, Err, IfOk, inl, refl}
use Rattle.std.specs.Prelude.{IfErr}
use Rattle.kad_base.specs.declared.types.Event.{Event}
use Rattle.kad_base.proofs.Grown.{grows_none}
use Rattle.id_puzzles.specs.Drawn.{WordsState}
use Rattle.contact_table.specs.TableState.{TableState}
use Rattle.serve_crew.specs.Opening.{AreClosed, Opens}
use Rattle.serve_crew.specs.declared.turns.Turns.{Turns}
use Rattle.serve_crew.specs.declared.turns.Rows.{Rows}
use Rattle.lookup_crowd.specs.declared.seeker.ManyFault.{ManyFault}
use Rattle.lookup_crowd.specs.declared.seeker.ManyFault.TheVariants.{NoMemory}
use Rattle.look_many.specs.declared.found.Many.{Many}
use Rattle.look_many.specs.ManyLooked.{ManyLooked, ManyStopped, NoneBegan, IsWithinLimits}
use Rattle.look_many.specs.inner.Ends.{Task, FoundBack, StoppedBack}
use Rattle.look_many.proofs.Promised.{many_looked, many_began}

pub none_began : (before after : TableState) (words : WordsState) (told : Option (List Event)) → after ≡ before → NoneBegan before after words words told told NoMemory
none_began before after words told is = record { fault_is = refl; no_events = grows_none told (λ events. events ≡ []) refl; same_words = refl; same_table = is }

module _ (k : Task) (turns : Turns) (rows : Rows) (before after : TableState) (opened : Opens before turns) (closed : AreClosed turns rows after) (limits : IsWithinLimits k.setting) (small : k.server.k < 256)
    (words words' : WordsState) (told told' : Option (List Event)) where
  pub ok_looked : (x : Result Many ManyFault) → IfOk x (FoundBack k turns rows words words' told told') → IfOk x (ManyLooked k.accepts k.tags k.server k.setting k.jobs k.lasting before after words words' told told')
  ok_looked (Ok many) h = many_looked k turns rows before after opened closed limits small words words' told told' many h
  ok_looked (Err fault) h = tt

  pub err_stopped : (x : Result Many ManyFault) → IfErr x (StoppedBack k turns rows words words' told told') → IfErr x (ManyStopped k.accepts k.tags k.server k.setting k.jobs k.lasting before after words words' told told')
  err_stopped (Ok many) h = tt
  err_stopped (Err fault) h = inl (many_began k turns rows before after opened closed limits small words words' told told' fault h)
