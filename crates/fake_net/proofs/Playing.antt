-- One event more is played: what each call of a link to a network leaves.
use Rattle.std.proofs.Common.{◌≡◌, ℕ, ◌+◌, List, [], ◌∷◌, ◌++◌, Bool, true, Option, Some, None, sym, subst, ap, ◌∙◌}
use Rattle.std.specs.Prelude.{IfSome, ◌&&◌, nat_eq}
use Rattle.std.proofs.lemmas.Bool.{and_parts, eqb-true}
use Rattle.kad_base.specs.declared.types.Addr.{Addr}
use Rattle.kad_base.specs.declared.types.Came.{Came}
use Rattle.kad_base.specs.declared.types.Event.{Event}
use Rattle.kad_base.specs.declared.types.Event.TheVariants.{Now, Sent}
use Rattle.kad_base.specs.Limits.{max_datagram}
use Rattle.kad_base.specs.Outside.{Grows, EventOf, came_at}
use Rattle.fake_net.specs.declared.waiting.Waiting.{Waiting}
use Rattle.fake_net.specs.Network.{Network}
use Rattle.fake_net.specs.Queue.{Gets, QueuedBy}
use Rattle.fake_net.specs.Plays.{PlaysTo, begins, tells, sends, receives}

pub begins_played : (net : Network) (wide : Bool) (events : List Event) (waiting : List Waiting) → events ≡ [] → waiting ≡ [] → PlaysTo net wide events 0 waiting
begins_played net wide events waiting none_told none_waits =
    subst (λ (l : List Event). PlaysTo net wide l 0 waiting) (sym none_told) (subst (λ (l : List Waiting). PlaysTo net wide [] 0 l) (sym none_waits) begins)

-- where it is told after, so was it before, and the step leads from there
grown : (net : Network) (was_wide wide : Bool) (e : Event) (moment moment' : ℕ) (waiting waiting' : List Waiting) (old held new : Option (List Event))
    → ((events : List Event) → PlaysTo net was_wide events moment waiting → PlaysTo net wide (events ++ e ∷ []) moment' waiting') → held ≡ old
    → IfSome old (λ events. PlaysTo net was_wide events moment waiting) → Grows held new (λ t. t ≡ e ∷ []) → IfSome new (λ events. PlaysTo net wide events moment' waiting')
grown net was_wide wide e moment moment' waiting waiting' old held None step same before grows = tt
grown net was_wide wide e moment moment' waiting waiting' old held (Some after) step same before grows =
    let was = subst (λ (o : Option (List Event)). IfSome o (λ events. PlaysTo net was_wide events moment waiting)) (sym same ∙ grows.was) before in
    subst (λ (l : List Event). PlaysTo net wide l moment' waiting') (sym (grows.sum_is ∙ ap (λ (l : List Event). grows.before ++ l) grows.holds)) (step grows.before was)

pub now_played : (net : Network) (wide : Bool) (moment : ℕ) (waiting : List Waiting) (old held new : Option (List Event)) → held ≡ old
    → IfSome old (λ events. PlaysTo net wide events moment waiting) → Grows held new (λ t. t ≡ Now moment ∷ []) → IfSome new (λ events. PlaysTo net wide events moment waiting)
now_played net wide moment waiting old held new same before grows = grown net wide wide (Now moment) moment moment waiting waiting old held new (λ events p. tells p) same before grows

pub sent_played : (net : Network) (wide : Bool) (moment : ℕ) (to : Addr) (bytes : List ℕ) (waiting after : List Waiting) (old held new : Option (List Event)) → QueuedBy net moment to bytes waiting after → held ≡ old
    → IfSome old (λ events. PlaysTo net wide events moment waiting) → Grows held new (λ t. t ≡ Sent to bytes ∷ []) → IfSome new (λ events. PlaysTo net wide events moment after)
sent_played net wide moment to bytes waiting after old held new queued same before grows =
    grown net wide wide (Sent to bytes) moment moment waiting after old held new (λ events p. sends to bytes p queued) same before grows

-- what is played with wide receives alone is also played where some aren't
played_wide : (net : Network) (was_wide wide : Bool) (events : List Event) (moment : ℕ) (waiting : List Waiting) → (wide ≡ true → was_wide ≡ true) → PlaysTo net was_wide events moment waiting → PlaysTo net wide events moment waiting
played_wide net was_wide wide events moment waiting less begins = begins
played_wide net was_wide wide events moment waiting less (tells {events = es} p) = tells (played_wide net was_wide wide es moment waiting less p)
played_wide net was_wide wide events moment waiting less (sends {events = es} {moment = at} {waiting = held} to bytes p queued) = sends to bytes (played_wide net was_wide wide es at held less p) queued
played_wide net was_wide wide events moment waiting less (receives {events = es} {moment = last} {waiting = held} until room buf came has_room p gets) =
    receives until room buf came (λ is. has_room (less is)) (played_wide net was_wide wide es last held less p) gets

-- whether all receives were wide, and of this one that it was
both_wide : (was_wide wide : Bool) (room : ℕ) → wide ≡ (was_wide && nat_eq room (max_datagram + 1)) → wide ≡ true → (was_wide ≡ true) × (room ≡ max_datagram + 1)
both_wide was_wide wide room e is =
    let both = and_parts was_wide (nat_eq room (max_datagram + 1)) (sym e ∙ is) in
    (both.0, eqb-true room (max_datagram + 1) both.1)

pub came_played : (net : Network) (was_wide wide : Bool) (moment at until room : ℕ) (buf : List ℕ) (came : Came) (waiting after : List Waiting) (old held new : Option (List Event)) → wide ≡ (was_wide && nat_eq room (max_datagram + 1))
    → Gets waiting moment until room buf after came → at ≡ came_at came → held ≡ old → IfSome old (λ events. PlaysTo net was_wide events moment waiting) → Grows held new (λ t. t ≡ EventOf came until buf ∷ [])
    → IfSome new (λ events. PlaysTo net wide events at after)
came_played net was_wide wide moment at until room buf came waiting after old held new is_wide gets is same before grows =
    subst (λ (n : ℕ). IfSome new (λ events. PlaysTo net wide events n after)) (sym is)
    (grown net was_wide wide (EventOf came until buf) moment (came_at came) waiting after old held new
    (λ events p. receives until room buf came (λ on. (both_wide was_wide wide room is_wide on).1) (played_wide net was_wide wide events moment waiting (λ on. (both_wide was_wide wide room is_wide on).0) p) gets) same before grows)
