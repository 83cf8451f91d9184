-- What is left of a script.
use Rattle.std.proofs.Common.{◌≡◌, ℕ, suc, ◌+◌, ◌<◌, List, [], ◌∷◌, ◌++◌, length, take, drop, get_or, set, sym, ap, subst, ◌∙◌, arith}
use Rattle.std.specs.Prelude.{All}
use Rattle.std.specs.List.{HoldsAt}
use Rattle.std.proofs.lemmas.List.{set_split, append_assoc}
use Rattle.std.proofs.lemmas.List.Elements.{All-append, All-take, All-drop, All-nil, All-cons}
use Rattle.fake_net.specs.declared.script.ScriptEvent.{ScriptEvent}
use Rattle.fake_net.specs.declared.script.ScriptEvent.TheVariants.{Deliver, ToQuery}
use Rattle.fake_net.specs.Scripts.{IsWritableEvent, left_of, spent}

set_at : (xs : List ScriptEvent) (k : ℕ) (y : ScriptEvent) → k < length xs → set xs k y ≡ (take k xs ++ y ∷ []) ++ drop (k + 1) xs
set_at xs k y lt =
    let next : drop (suc k) xs ≡ drop (k + 1) xs = (let n : suc k ≡ k + 1 = omega arith in ap (λ (m : ℕ). drop m xs) n) in
    set_split xs k y lt ∙ ap (λ (l : List ScriptEvent). take k xs ++ y ∷ l) next ∙ sym (append_assoc (take k xs) (y ∷ []) (drop (k + 1) xs))

-- one event that stays stands in the place of what it was
pub stays_at : (script : List ScriptEvent) (place : ℕ) (event after : ScriptEvent) → place < length script → left_of event ≡ after ∷ []
    → set script place after ≡ spent script place event
stays_at script place event after lt e =
    set_at script place after lt ∙ ap (λ (l : List ScriptEvent). (take place script ++ l) ++ drop (place + 1) script) (sym e)

left_kept : (event : ScriptEvent) → All IsWritableEvent (left_of event)
left_kept (Deliver at from bytes times) = All-cons IsWritableEvent _ [] tt (All-nil IsWritableEvent)
left_kept (ToQuery to at from m) = All-nil IsWritableEvent

-- each message that is left can be written
pub spent_kept : (script after : List ScriptEvent) (place : ℕ) → place < length script → All IsWritableEvent script
    → HoldsAt (λ e. after ≡ spent script place e) script place → All IsWritableEvent after
spent_kept [] after place lt all is = absurd (omega arith)
spent_kept (x ∷ xs) after place lt all is =
    let script = x ∷ xs in
    let event = get_or script place x in
    subst (λ (l : List ScriptEvent). All IsWritableEvent l) (sym (is x))
    (All-append IsWritableEvent (take place script ++ left_of event) (drop (place + 1) script)
    (All-append IsWritableEvent (take place script) (left_of event) (All-take IsWritableEvent place script all) (left_kept event))
    (All-drop IsWritableEvent (place + 1) script all))
