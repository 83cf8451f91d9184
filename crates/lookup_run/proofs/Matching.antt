-- What a datagram that the lookup took, or that is a stray, leaves of all that the driver keeps.
use Rattle.std.proofs.Common.{◌≡◌, ◌+◌, ℕ, List, Result, Ok, Err, inr}
use Rattle.std.specs.Prelude.{OnOk, IfErr, IsErrOf}
use Rattle.kad_base.specs.declared.types.Addr.{Addr}
use Rattle.kad_base.specs.Limits.{max_strays}
use Rattle.lookup_core.specs.LookupSteps.{RepliesToNone}
use Rattle.lookup_run.specs.declared.types.LookFault.{LookFault}
use Rattle.lookup_run.specs.declared.types.LookFault.TheVariants.{Strays}
use Rattle.lookup_run.specs.declared.types.LookSetting.{LookSetting}
use Rattle.lookup_run.specs.declared.types.LookupState.{LookupState}
use Rattle.lookup_run.specs.Lookup.{quest_of}
use Rattle.lookup_run.specs.inner.RoundSteps.{TakesStray, TakesDatagram, IsLastStray}
use Rattle.lookup_core.specs.Sealed.{Accepts}

-- a stray is one more, or the last
pub takes_stray : {F : Type 0} (look : LookSetting) (accepts : Accepts) (from : Addr) (bytes : List ℕ) (old new : LookupState) (result : Result F LookFault) → RepliesToNone (quest_of look) accepts from bytes old.lookup → OnOk result (TakesStray old.progress new.progress) → new.lookup ≡ old.lookup → new.table ≡ old.table → new.gathered ≡ old.gathered
    → OnOk result (TakesDatagram look accepts from bytes old new)
takes_stray look accepts from bytes old new (Ok x) none takes lookup table gathered = inr (record { none = none; takes = takes; lookup = lookup; table = table; gathered = gathered })
takes_stray look accepts from bytes old new (Err e) none takes lookup table gathered = tt

pub is_last_stray : {F : Type 0} (look : LookSetting) (accepts : Accepts) (from : Addr) (bytes : List ℕ) (old : LookupState) (result : Result F LookFault) → RepliesToNone (quest_of look) accepts from bytes old.lookup → IfErr result (λ fault. (fault ≡ Strays) × (old.progress.strays + 1 ≡ max_strays)) → IsErrOf result Strays → IsLastStray look accepts from bytes old
is_last_stray look accepts from bytes old (Ok x) none last is = absurd cc
is_last_stray look accepts from bytes old (Err e) none last is = record { none = none; last = last.1 }
