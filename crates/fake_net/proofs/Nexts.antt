-- One event at most is the next.
use Rattle.std.proofs.Common.{◌≡◌, ℕ, ◌<◌, ◌≤◌, List, get_or, subst, arith}
use Rattle.std.proofs.lemmas.Option.{slice_get_within, get_or_from_slice_get}
use Rattle.fake_net.specs.declared.script.SentQuery.{SentQuery}
use Rattle.fake_net.specs.declared.script.ScriptEvent.{ScriptEvent}
use Rattle.fake_net.specs.Scripts.{IsReady, IsNext, NoneNext, moment_of}

-- the next is before each place that another is said to be at
not_before : (queries : List SentQuery) (until : ℕ) (script : List ScriptEvent) (p q : ℕ) (a b : ScriptEvent) → IsNext queries until script p a → IsNext queries until script q b → ¬ (p < q)
not_before queries until script p q a b is other lt =
    let at_p : get_or script p a ≡ a = get_or_from_slice_get script p a a is.here in
    let at_q : get_or script q b ≡ b = get_or_from_slice_get script q b b other.here in
    let later : moment_of b < moment_of a = subst (λ (e : ScriptEvent). IsReady queries e → moment_of b < moment_of e) at_p (other.first p a (omega arith) lt) is.ready in
    let sooner : moment_of a ≤ moment_of b = subst (λ (e : ScriptEvent). IsReady queries e → moment_of a ≤ moment_of e) at_q (is.earliest q b (slice_get_within script q b other.here)) other.ready in
    omega arith

pub next_once : (queries : List SentQuery) (until : ℕ) (script : List ScriptEvent) (p q : ℕ) (a b : ScriptEvent) → IsNext queries until script p a → IsNext queries until script q b → p ≡ q
next_once queries until script p q a b is other =
    let no_less = not_before queries until script p q a b is other in
    let no_more = not_before queries until script q p b a other is in
    omega arith

pub next_none : (queries : List SentQuery) (until : ℕ) (script : List ScriptEvent) (p : ℕ) (a : ScriptEvent) → NoneNext queries until script → ¬ IsNext queries until script p a
next_none queries until script p a nothing is =
    let at_p : get_or script p a ≡ a = get_or_from_slice_get script p a a is.here in
    let late : until < moment_of a = subst (λ (e : ScriptEvent). IsReady queries e → until < moment_of e) at_p (nothing p a (slice_get_within script p a is.here)) is.ready in
    let soon = is.soon in
    omega arith
