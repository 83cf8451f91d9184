-- A text behind its length, which was measured before.
use Rattle.std.proofs.Common.{◌≡◌, ℕ, inl, inr, ◌<◌, min, List, [], ◌∷◌, ◌++◌, length, sym, ap, ◌∙◌, arith, length-append, append_assoc}
use Rattle.std.proofs.lemmas.Bool.{cases_lt}
use Rattle.kad_bencode.specs.Spelling.{numeral, string_text}
use Rattle.kad_bencode.specs.Written.{Puts, last_place}
use Rattle.kad_bencode.proofs.Putting.{puts_then}

-- where the text is longer than any buffer, so is all of it
pub puts_sized : {old mid new : List ℕ} {at n next size : ℕ} {text : List ℕ} → length old < last_place → size ≡ min (length text) last_place → Puts old mid at (numeral size ++ 58 ∷ []) n → Puts mid new n text next → Puts old new at (string_text text) next
puts_sized {old} {mid} {new} {at} {n} {next} {size} {text} small long f g =
    elim (cases_lt (length text) last_place) as (λ _. Puts old new at (string_text text) next) [
      | inl h ↦
          let same : size ≡ length text = omega (arith, long, h) in
          puts_then (ap (λ k. numeral k ++ 58 ∷ text) (sym same) ∙ sym (append_assoc (numeral size) (58 ∷ []) text)) f g
      | inr h ↦
          let p = g.place in
          let l = length-append (numeral (length text)) (58 ∷ text) in record {
            place = omega (arith, p, l, h);
            text_is = λ k. absurd (let e : ⊥ = omega (arith, p, h, k, small) in e);
            room = g.room ∙ f.room;
          }
    ]
