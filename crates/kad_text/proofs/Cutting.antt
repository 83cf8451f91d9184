-- A text is cut at the first byte of a value.
use Rattle.std.proofs.Common.{◌≡◌, ℕ, ◌+◌, ◌-◌, ◌<◌, ◌≤◌, List, ◌∷◌, ◌++◌, length, take, drop, get_or, sym, ap, ◌∙◌, arith}
use Rattle.std.proofs.lemmas.List.{drop_more, get_or-take, get_or_default, length-drop, length-take-le, take-append-drop, take_all}
use Rattle.kad_text.specs.Cut.{IsCut, Lacks}

all_behind : (text : List ℕ) (n : ℕ) → take (length text - n) (drop n text) ≡ drop n text
all_behind text n = take_all (length text - n) (drop n text) (let l = length-drop n text in omega arith)

pub cut_here : (text : List ℕ) (b i : ℕ) → i < length text → get_or text i 0 ≡ b → ((k : ℕ) → k < i → get_or text k 0 ≡ b → ⊥) → IsCut b text (take i text) (take (length text - (i + 1)) (drop (i + 1) text))
cut_here text b i lt here before = rw (all_behind text (i + 1)) (record {
  lacks = λ k d below e.
      let len : length (take i text) ≡ i = length-take-le i text (omega arith) in
      let low : k < i = omega arith in
      before k low (get_or_default text k 0 d (omega arith) ∙ sym (get_or-take i text k d low) ∙ e);
  split = sym (take-append-drop i text) ∙ ap (λ (l : List ℕ). take i text ++ l) (drop_more text i 0 lt ∙ ap (λ (c : ℕ). c ∷ drop (i + 1) text) here);
})

pub cut_nowhere : (text : List ℕ) (b n : ℕ) → length text ≤ n → ((k : ℕ) → k < n → get_or text k 0 ≡ b → ⊥) → Lacks b text
cut_nowhere text b n le before k d lt e = before k (omega arith) (get_or_default text k 0 d lt ∙ e)
