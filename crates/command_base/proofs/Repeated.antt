-- Two calls of one command that were given the same input, or a link that told the same.
use Rattle.std.proofs.Common.{◌≡◌, ◌≢◌, ℕ, List, ◌++◌, Option, Some, None, refl, sym, ap, subst, ◌∙◌}
use Rattle.kad_base.specs.declared.types.Event.{Event}
use Rattle.kad_base.specs.declared.types.Report.{Report}
use Rattle.kad_base.specs.Outside.{Grows}
use Rattle.command_base.specs.Input.{ReadsAll, Lists}
use Rattle.kad_text.specs.Lines.{lines, Reporting}
use Rattle.command_base.specs.Shown.{SameInput, Shown}
use Rattle.std.proofs.lemmas.List.{append_cancel_left}
use Rattle.kad_text.proofs.TextLaws.{reading_once}

pub input_once : (old old' new new' : Option (List ℕ)) (i j : List ℕ) → old ≡ old' → new ≢ None → new' ≢ None → ReadsAll old new i → ReadsAll old' new' j → i ≡ j
input_once old old' None new' i j same told told' h k = absurd (told refl)
input_once old old' (Some rest) None i j same told told' h k = absurd (told' refl)
input_once old old' (Some rest) (Some rest') i j same told told' h k =
    let both : ◌≡◌ {A = Option (List ℕ)} (Some i) (Some j) = sym h.1 ∙ same ∙ k.1 in
    cc

pub lists_once : (source again : Shown ℕ) (a b : List Report) → SameInput source again → Lists source a → Lists again b → a ≡ b
lists_once source again a b same h k =
    let input = input_once source.before again.before source.after again.after h.input k.input same.held same.told same.told_again h.read k.read in
    reading_once (lines k.input) a b (subst (λ (i : List ℕ). Reporting (lines i) a) input h.good_lines) k.good_lines

-- what a link told between two moments
pub added_once : (old old' new new' : Option (List Event)) (P Q : List Event → Type 0) → old ≡ old' → new ≡ new' → new ≢ None → Grows old new P → Grows old' new' Q → (es : List Event) × P es × Q es
added_once old old' None new' P Q before after told h k = absurd (told refl)
added_once old old' (Some all) None P Q before after told h k = absurd cc
added_once old old' (Some all) (Some all') P Q before after told h k =
    let whole : ◌≡◌ {A = Option (List Event)} (Some all) (Some all') = after in
    let same : all ≡ all' = cc in
    let fronts : ◌≡◌ {A = Option (List Event)} (Some h.before) (Some k.before) = sym h.was ∙ before ∙ k.was in
    let front : h.before ≡ k.before = cc in
    let added : h.added ≡ k.added = append_cancel_left k.before h.added k.added (ap (λ (l : List Event). l ++ h.added) (sym front) ∙ sym h.sum_is ∙ same ∙ k.sum_is) in
    (h.added, h.holds, subst Q (sym added) k.holds)
