-- The search for the next event, after the first n of the script.
use Rattle.std.specs.Prelude.{◌≡◌, ℕ, ◌<◌, ◌≤◌, List, Option, Some, slice_get, MatchOption}
use Rattle.std.specs.List.{AllWithin}
use Rattle.fake_net.specs.declared.script.SentQuery.{SentQuery}
use Rattle.fake_net.specs.declared.script.ScriptEvent.{ScriptEvent}
use Rattle.fake_net.specs.Scripts.{IsReady, moment_of}

-- the event at the place is ready by then; each ready one before it is later, and of the first n no ready one is sooner
pub record IsBest (queries : List SentQuery) (until : ℕ) (script : List ScriptEvent) (n place : ℕ) : Type 0 where
  pub event : ScriptEvent
  pub here : slice_get script place ≡ Some event
  pub ready : IsReady queries event
  pub soon : moment_of event ≤ until
  pub first : AllWithin (λ e. IsReady queries e → moment_of event < moment_of e) script 0 place
  pub earliest : AllWithin (λ e. IsReady queries e → moment_of event ≤ moment_of e) script 0 n

-- the best of the first n, if one of them is ready by then
abbrev pub FindsOf : List SentQuery → ℕ → List ScriptEvent → ℕ → Option ℕ → Type 0
FindsOf queries until script n best = MatchOption best (AllWithin (λ e. IsReady queries e → until < moment_of e) script 0 n) (IsBest queries until script n)
