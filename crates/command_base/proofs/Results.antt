-- What holds of a result holds of the value that it is.
use Rattle.std.proofs.Common.{◌≡◌, Result, Ok, Err, ◌⊎◌, inl, subst}
use Rattle.std.specs.Prelude.{IfOk, IfErr}
use Rattle.command_base.specs.declared.status.Status.{Status}
use Rattle.command_base.specs.declared.status.Status.TheVariants.{NoMemory}

pub ok_at : {T F : Type 0} (r : Result T F) (x : T) (P : T → Type 0) → r ≡ Ok x → IfOk r P → P x
ok_at r x P e h = subst (λ s. IfOk s P) e h

pub err_at : {T F : Type 0} (r : Result T F) (x : F) (P : F → Type 0) → r ≡ Err x → IfErr r P → P x
err_at r x P e h = subst (λ s. IfErr s P) e h

pub err_began : {T : Type 0} (r : Result T Status) (X Y : Type 0) → X → IfErr r (λ status. status ≡ NoMemory → X ⊎ Y)
err_began (Ok x) X Y h = tt
err_began (Err e) X Y h = λ same. inl h

pub ok_then : {T F : Type 0} (r : Result T F) (P Q : T → Type 0) → IfOk r P → ((x : T) → P x → Q x) → IfOk r Q
ok_then (Ok x) P Q h k = k x h
ok_then (Err e) P Q h k = tt

pub err_then : {T F : Type 0} (r : Result T F) (P Q : F → Type 0) → IfErr r P → ((x : F) → P x → Q x) → IfErr r Q
err_then (Ok x) P Q h k = tt
err_then (Err e) P Q h k = k e h

pub both_err : {T F : Type 0} (r : Result T F) (P Q : F → Type 0) → IfErr r P → IfErr r Q → IfErr r (λ x. P x × Q x)
both_err (Ok x) P Q h k = tt
both_err (Err e) P Q h k = (h, k)
