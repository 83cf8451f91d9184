-- The verdicts on the contacts of an input, one by one, and their text.
use Rattle.std.proofs.Common.{◌≡◌, ℕ, ◌+◌, ◌<◌, ◌≤◌, List, [], ◌∷◌, ◌++◌, length, take, get_or, Bool, refl, sym, ap, subst, ◌∙◌}
use Rattle.std.specs.Prelude.{codes, decimal, flat_map}
use Rattle.std.specs.List.{AllZip}
use Rattle.std.proofs.lemmas.Grind.{flat_map-append}
use Rattle.std.proofs.lemmas.List.{append_assoc, append-nil, take_more, take_all}
use Rattle.kad_base.specs.declared.types.Report.{Report}
use Rattle.kad_base.specs.declared.types.Policy.{Policy}
use Rattle.plain_commands.specs.Checked.{Judges, passed_of, passed_text, verdict_text, verdicts_printed}
use Rattle.command_base.specs.Printed.{line_of}
use Rattle.kad_text.proofs.LineLaws.{AllZip-push}

-- one report more
pub judged_more : (policy : Policy) (rs : List Report) (i : ℕ) (d : Report) (old new : List Bool) (v : Bool) → i < length rs
    → AllZip (Judges policy) (take i rs) old → Judges policy (get_or rs i d) v → new ≡ old ++ v ∷ [] → AllZip (Judges policy) (take (i + 1) rs) new
judged_more policy rs i d old new v lt h j n =
    subst (λ (l : List Report). AllZip (Judges policy) l new) (sym (take_more rs i d lt))
    (subst (λ (l : List Bool). AllZip (Judges policy) (take i rs ++ get_or rs i d ∷ []) l) (sym n) (AllZip-push (Judges policy) (take i rs) old (get_or rs i d) v h j))

pub judged_all : (policy : Policy) (rs : List Report) (i : ℕ) (vs : List Bool) → length rs ≤ i → AllZip (Judges policy) (take i rs) vs → AllZip (Judges policy) rs vs
judged_all policy rs i vs le h = subst (λ (l : List Report). AllZip (Judges policy) l vs) (take_all i rs le) h

pub passed_pieces : (passed all : ℕ) → codes "passed " ++ (decimal passed ++ (codes " of " ++ decimal all)) ≡ passed_text passed all
passed_pieces passed all = sym (append_assoc (codes "passed " ++ decimal passed) (codes " of ") (decimal all) ∙ append_assoc (codes "passed ") (decimal passed) (codes " of " ++ decimal all))

-- one verdict more
pub verdict_more : (vs : List Bool) (output after : List ℕ) (k : ℕ) (d : Bool) (text : List ℕ) → k < length vs
    → output ≡ flat_map (λ v. line_of (verdict_text v)) (take k vs) → text ≡ verdict_text (get_or vs k d) → after ≡ output ++ line_of text
    → after ≡ flat_map (λ v. line_of (verdict_text v)) (take (k + 1) vs)
verdict_more vs output after k d text lt o t a =
    let f : Bool → List ℕ = λ v. line_of (verdict_text v) in
    let more = flat_map-append f (take k vs) (get_or vs k d ∷ []) in
    let one = append-nil (f (get_or vs k d)) in
    a ∙ rw (o, t) (ap (λ (l : List ℕ). flat_map f (take k vs) ++ l) (sym one)) ∙ sym more ∙ ap (flat_map f) (sym (take_more vs k d lt))

-- every verdict is printed, and then how many passed
pub verdicts_end : (vs : List Bool) (output after text : List ℕ) (k : ℕ) → length vs ≤ k → output ≡ flat_map (λ v. line_of (verdict_text v)) (take k vs)
    → text ≡ passed_text (passed_of vs) (length vs) → after ≡ output ++ line_of text → after ≡ verdicts_printed vs
verdicts_end vs output after text k le o t a = a ∙ rw (o, t, take_all k vs le) refl
