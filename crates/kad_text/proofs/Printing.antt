-- What was put behind an output, piece by piece.
use Rattle.std.proofs.Common.{◌≡◌, ℕ, ◌+◌, ◌*◌, ◌<◌, List, [], ◌∷◌, ◌++◌, length, drop, get_or, refl, sym, ap, ◌∙◌, arith}
use Rattle.std.proofs.lemmas.List.{append_assoc, drop_more}
use Rattle.hex.specs.Hex.{encode_lower}
use Rattle.kad_text.specs.Text.{groups_after}

pub seven : (o a b c d e f g : List ℕ) → ((((((o ++ a) ++ b) ++ c) ++ d) ++ e) ++ f) ++ g ≡ o ++ ((((((a ++ b) ++ c) ++ d) ++ e) ++ f) ++ g)
seven o a b c d e f g = simp append_assoc refl

-- one group more
pub group_more : (bytes text after group : List ℕ) (lead i : ℕ) (end : List ℕ) → length bytes ≡ 16 → i < 8 → group ≡ encode_lower (get_or bytes (2 * i) 0 ∷ get_or bytes (2 * i + 1) 0 ∷ [])
    → text ++ groups_after (lead ∷ []) (drop (2 * i) bytes) ≡ end → after ≡ text ++ ((lead ∷ []) ++ group)
    → after ++ groups_after (58 ∷ []) (drop (2 * (i + 1)) bytes) ≡ end
group_more bytes text after group lead i end len lt g inv a =
    let one = drop_more bytes (2 * i) 0 (omega arith) in
    let two = drop_more bytes (2 * i + 1) 0 (omega arith) in
    let next : 2 * (i + 1) ≡ 2 * i + 1 + 1 = omega arith in
    let rest : List ℕ = groups_after (58 ∷ []) (drop (2 * (i + 1)) bytes) in
    let d : groups_after (lead ∷ []) (drop (2 * i) bytes) ≡ (lead ∷ []) ++ group ++ rest = rw (one, two, next, g) refl in
    ap (λ (l : List ℕ). l ++ rest) a ∙ append_assoc text ((lead ∷ []) ++ group) rest ∙ ap (λ (l : List ℕ). text ++ l) (sym d) ∙ inv
