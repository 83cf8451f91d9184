-- Texts that are put one behind another.
use Rattle.std.proofs.Common.{◌≡◌, ℕ, ◌+◌, ◌<◌, ◌≤◌, ◌^◌, min, List, [], ◌∷◌, ◌++◌, length, take, decimal, sym, ap, ◌∙◌, arith, length-append, append_assoc, append-nil}
use Rattle.std.proofs.lemmas.Grind.{flat_map-append}
use Rattle.std.proofs.lemmas.List.{map-append, take_all}
use Rattle.std.proofs.Math.Seq.{take-append_seam}
use Rattle.kad_bencode.specs.Spelling.{numeral, string_text, pairs_text, text_of}
use Rattle.kad_bencode.specs.Faults.{pairs_of}
use Rattle.kad_bencode.specs.Written.{Puts, PutsPairs, PutsOpen, last_place}
use Rattle.kad_bencode.specs.declared.entries.Pair.{Pair}
use Rattle.kad_bencode.specs.declared.value.Value.{Value}
use Rattle.kad_bencode.specs.declared.value.Value.TheVariants.{Dict}
use Rattle.kad_bencode.proofs.Folds.{text_of-dict}
use Rattle.kad_bencode.proofs.Writing.{decimal_numeral}

-- one text behind another
pub puts_then : {old mid new : List ℕ} {at n next : ℕ} {front text all : List ℕ} → all ≡ front ++ text → Puts old mid at front n → Puts mid new n text next → Puts old new at all next
puts_then {old} {mid} {new} {at} {n} {next} {front} {text} {all} e f g =
    let l = f.room in
    let lf = length-append front text in
    let la : length all ≡ length front + length text = ap length e ∙ lf in
    let p = f.place in
    let q = g.place in record {
      place = omega (arith, la, p, q);
      text_is = λ h.
          let small : n ≤ length old = omega (arith, p, q, h) in
          let fits : next ≤ length mid = omega (arith, l, h) in
          g.text_is fits ∙ ap (λ xs. xs ++ text) (f.text_is small) ∙ append_assoc (take at old) front text ∙ ap (λ xs. take at old ++ xs) (sym e);
      room = g.room ∙ l;
    }

-- a text that is the same
pub puts_same : {old new : List ℕ} {at next : ℕ} {text other : List ℕ} → other ≡ text → Puts old new at text next → Puts old new at other next
puts_same {old} {new} {at} {next} {text} {other} e p = record {
  place = p.place ∙ ap (λ xs. min (at + length xs) last_place) (sym e);
  text_is = λ h. p.text_is h ∙ ap (λ xs. take at old ++ xs) (sym e);
  room = p.room;
}

-- a text put behind what was there, into room that was made for it
pub appended : (old filler rest : List ℕ) {mid new text : List ℕ} {from end next n : ℕ} → from ≡ length old → from ≤ last_place
    → end ≡ min (from + length text) last_place → mid ≡ take end old ++ filler → length mid ≡ end → n ≡ end
    → Puts mid new from text next → take n (new ++ rest) ≡ old ++ text
appended old filler rest {mid} {new} {text} {from} {end} {next} {n} f few e m l k p =
    let q = p.place in
    let r = p.room in
    let long : n ≡ length new = omega (arith, k, l, r) in
    let front : take end old ≡ old = take_all end old (omega (arith, e, f, few)) in
    ap (λ n. take n (new ++ rest)) long ∙ take-append_seam new rest
    ∙ sym (take_all next new (omega (arith, e, l, q, r)))
    ∙ p.text_is (omega (arith, e, l, q))
    ∙ ap (λ xs. xs ++ text) (ap (take from) (m ∙ ap (λ xs. xs ++ filler) front) ∙ ap (λ n. take n (old ++ filler)) f ∙ take-append_seam old filler)

pub length_written : (n : ℕ) (mid : List ℕ) → n < 2 ^ 64 → mid ≡ decimal n → numeral n ++ 58 ∷ [] ≡ mid ++ 58 ∷ []
length_written n mid f h = ap (λ l. l ++ 58 ∷ []) (sym (decimal_numeral n f) ∙ sym h)

-- ---- dictionaries

pub pairs_behind : (ps qs : List (Pair Value)) → pairs_text (pairs_of (ps ++ qs)) ≡ pairs_text (pairs_of ps) ++ pairs_text (pairs_of qs)
pairs_behind ps qs =
    ap pairs_text (map-append (λ (p : Pair Value). record { key = p.key; value = text_of p.value }) ps qs)
    ∙ flat_map-append (λ (p : Pair (List ℕ)). string_text p.key ++ p.value) (pairs_of ps) (pairs_of qs)

-- a key and its value
pub puts_pair : {old mid new : List ℕ} {at n next : ℕ} (key : List ℕ) (v : Value) → Puts old mid at (string_text key) n → Puts mid new n (text_of v) next → PutsPairs old new at (record { key = key; value = v } ∷ []) next
puts_pair key v f g = puts_then (append-nil (string_text key ++ text_of v)) f g

pub puts_more : {old mid new : List ℕ} {at n next : ℕ} (ps qs : List (Pair Value)) → PutsOpen old mid at ps n → PutsPairs mid new n qs next → PutsOpen old new at (ps ++ qs) next
puts_more ps qs f g = puts_then (ap (λ l. 100 ∷ l) (pairs_behind ps qs)) f g

pub puts_closed : {old mid new : List ℕ} {at n next : ℕ} (ps : List (Pair Value)) → PutsOpen old mid at ps n → Puts mid new n (101 ∷ []) next → Puts old new at (text_of (Dict ps)) next
puts_closed ps f g = puts_then (text_of-dict ps) f g

-- a dictionary was opened with its first key, and that key's value was put
pub puts_first : {old mid new : List ℕ} {at n next : ℕ} (key : List ℕ) (v : Value) → Puts old mid at (100 ∷ string_text key) n → Puts mid new n (text_of v) next → PutsOpen old new at (record { key = key; value = v } ∷ []) next
puts_first key v f g = puts_then (ap (λ l. 100 ∷ l) (append-nil (string_text key ++ text_of v))) f g

-- the last pairs of a dictionary were put with its end
pub puts_last : {old mid new : List ℕ} {at n next : ℕ} (ps qs : List (Pair Value)) (text : List ℕ) → pairs_text (pairs_of qs) ≡ text → PutsOpen old mid at ps n → Puts mid new n (text ++ 101 ∷ []) next → Puts old new at (text_of (Dict (ps ++ qs))) next
puts_last ps qs text e f g =
    puts_then (text_of-dict (ps ++ qs) ∙ ap (λ l. 100 ∷ l ++ 101 ∷ []) (pairs_behind ps qs ∙ ap (λ l. pairs_text (pairs_of ps) ++ l) e) ∙ append_assoc (100 ∷ pairs_text (pairs_of ps)) text (101 ∷ [])) f g
