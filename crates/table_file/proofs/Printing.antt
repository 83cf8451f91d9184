-- What was put behind an output, piece by piece.
use Rattle.std.proofs.Common.{◌≡◌, ℕ, ◌+◌, List, [], ◌++◌, refl, sym, ap, ◌∙◌}
use Rattle.std.proofs.lemmas.List.{append_assoc, append-nil}

-- a word, what stands behind it, and the line feed
pub line3 : (o a b c : List ℕ) → ((o ++ a) ++ b) ++ c ≡ o ++ ((a ++ b) ++ c)
line3 o a b c = simp append_assoc refl

-- a word, three parts behind it, and the line feed
pub line5 : (o w a b c e : List ℕ) → ((((o ++ w) ++ a) ++ b) ++ c) ++ e ≡ o ++ ((w ++ ((a ++ b) ++ c)) ++ e)
line5 o w a b c e = simp append_assoc refl

pub line7 : (o w a b c d f e : List ℕ) → ((((((o ++ w) ++ a) ++ b) ++ c) ++ d) ++ f) ++ e ≡ o ++ ((w ++ ((((a ++ b) ++ c) ++ d) ++ f)) ++ e)
line7 o w a b c d f e = simp append_assoc refl

-- the parts of a saved text
pub saved_parts : (t r s e o : List ℕ) → o ≡ ((t ++ r) ++ s) ++ e → o ≡ t ++ (r ++ (s ++ (e ++ [])))
saved_parts t r s e o h = h ∙ simp append_assoc (ap (λ (l : List ℕ). t ++ (r ++ (s ++ l))) (sym (append-nil e)))
