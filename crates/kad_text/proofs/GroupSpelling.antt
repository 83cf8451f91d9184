-- The groups of an IPv6 address: where a text has them, and that it has them in one way.
use Rattle.std.proofs.Common.{◌≡◌, ℕ, zero, suc, ◌+◌, ◌*◌, ◌<◌, ◌≤◌, inl, inr, List, [], ◌∷◌, ◌++◌, length, take, drop, get_or, set, length-set, refl, sym, ap, ◌∙◌, arith}
use Rattle.std.specs.Prelude.{codes}
use Rattle.std.specs.Char.{to_ascii_lowercase}
use Rattle.std.specs.Str.{str_to_ascii_lowercase}
use Rattle.std.proofs.lemmas.List.{append_assoc, append-nil, drop_more, drop-map, get_or-map, length-append, length-map, take-map, take_all, take_more_set}
use Rattle.hex.specs.Hex.{IsBytes, encode_lower, encode_with}
use Rattle.kad_text.specs.Groups.{IsMark, SpellsGroup, SpellsGroups}
use Rattle.kad_text.specs.Text.{SpellsHex, groups_after}
use Rattle.kad_text.proofs.AddrSpelling.{bytes_two}
use Rattle.kad_text.proofs.AddrText.{low_one}
use Rattle.kad_text.proofs.OneSpelling.{pair_length, take_pair}

-- ---- a group, in lower case

pub record IsGrouped (lead : ℕ) (text bytes rest : List ℕ) : Type 0 where
  pub room : 5 ≤ length text
  pub first : get_or text 0 0 ≡ lead
  pub middle : take 4 (drop 1 text) ≡ encode_lower bytes
  pub behind : drop 5 text ≡ rest

grouped_pair : (lead a b : ℕ) (text rest : List ℕ) → text ≡ lead ∷ (encode_lower (a ∷ b ∷ []) ++ rest) → IsGrouped lead text (a ∷ b ∷ []) rest
unfolding encode_with
grouped_pair lead a b text rest e = record {
  room = rw e (omega arith);
  first = rw e refl;
  middle = rw e refl;
  behind = rw e refl;
}

pub grouped : (lead : ℕ) (text bytes rest : List ℕ) → SpellsGroup lead text bytes rest → IsGrouped lead text bytes rest
grouped lead text [] rest s = (let long = s.long in absurd (omega arith))
grouped lead text (a ∷ []) rest s = (let long = s.long in absurd (omega arith))
grouped lead text (a ∷ b ∷ []) rest s = grouped_pair lead a b text rest s.digits
grouped lead text (a ∷ b ∷ c ∷ bytes) rest s = (let long = s.long in absurd (omega arith))

five : (text : List ℕ) → 5 ≤ length text → text ≡ get_or text 0 0 ∷ (take 4 (drop 1 text) ++ drop 5 text)
five [] h = absurd (omega arith)
five (a ∷ []) h = absurd (omega arith)
five (a ∷ b ∷ []) h = absurd (omega arith)
five (a ∷ b ∷ c ∷ []) h = absurd (omega arith)
five (a ∷ b ∷ c ∷ d ∷ []) h = absurd (omega arith)
five (a ∷ b ∷ c ∷ d ∷ e ∷ rest) h = refl

-- ---- a group, of either case

-- where a text in lower case has a group, so has the text
pub cased : (lead : ℕ) (text bytes rest : List ℕ) → IsMark lead → SpellsGroup lead (str_to_ascii_lowercase text) bytes rest
    → (5 ≤ length text) × (get_or text 0 0 ≡ lead) × SpellsHex 2 (take 4 (drop 1 text)) bytes
cased lead text bytes rest mark s =
    let g = grouped lead (str_to_ascii_lowercase text) bytes rest s in
    let room : 5 ≤ length text = rw (length-map text to_ascii_lowercase) at g.room in
    let first : to_ascii_lowercase (get_or text 0 0) ≡ lead = sym (get_or-map to_ascii_lowercase text 0 0 0 (omega arith)) ∙ g.first in
    let middle : str_to_ascii_lowercase (take 4 (drop 1 text)) ≡ encode_lower bytes = sym (take-map to_ascii_lowercase 4 (drop 1 text)) ∙ ap (take 4) (sym (drop-map to_ascii_lowercase 1 text)) ∙ g.middle in
    (room, low_one (get_or text 0 0) lead (small mark) first, record { long = s.long; fit = s.fit; digits = middle })
  where
    small : IsMark lead → lead < 97
    small (inl e) = omega (arith, e)
    small (inr e) = omega (arith, e)

-- ---- eight groups

-- some groups were read, and the next begins with `lead`
pub record HasGroups (text bytes rest : List ℕ) (lead n : ℕ) : Type 0 where
  pub mark : IsMark lead
  pub long : length bytes ≡ 16
  pub fit : IsBytes bytes
  pub done : List ℕ
  pub split : text ≡ done ++ rest
  pub so_far : (more : List ℕ) → groups_after (codes "[") (take (2 * n) bytes ++ more) ≡ done ++ groups_after (lead ∷ []) more
  pub left : (other behind : List ℕ) → SpellsGroups text other behind → rest ≡ groups_after (lead ∷ []) (drop (2 * n) other) ++ behind

set_bytes : (xs : List ℕ) (i v : ℕ) → v < 256 → IsBytes xs → IsBytes (set xs i v)
set_bytes [] i v lt h k = h k
set_bytes (x ∷ xs) zero v lt h zero = lt
set_bytes (x ∷ xs) zero v lt h (suc k) = h (suc k)
set_bytes (x ∷ xs) (suc i) v lt h zero = h zero
set_bytes (x ∷ xs) (suc i) v lt h (suc k) = set_bytes xs i v lt (λ j. h (suc j)) k

-- the next group of the bytes that a text spells
pub next_group : (text bytes rest other behind : List ℕ) (lead n : ℕ) → n < 8 → HasGroups text bytes rest lead n → SpellsGroups text other behind
    → (tail : List ℕ) × SpellsGroup lead rest (get_or other (2 * n) 0 ∷ get_or other (2 * n + 1) 0 ∷ []) tail × (tail ≡ groups_after (58 ∷ []) (drop (2 * (n + 1)) other) ++ behind)
next_group text bytes rest other behind lead n lt h s =
    let long = s.long in
    let one = drop_more other (2 * n) 0 (omega arith) in
    let two = drop_more other (2 * n + 1) 0 (omega arith) in
    let next : 2 * (n + 1) ≡ 2 * n + 1 + 1 = omega arith in
    let a = get_or other (2 * n) 0 in
    let b = get_or other (2 * n + 1) 0 in
    let tail : List ℕ = groups_after (58 ∷ []) (drop (2 * (n + 1)) other) ++ behind in
    let d : groups_after (lead ∷ []) (drop (2 * n) other) ≡ (lead ∷ []) ++ encode_lower (a ∷ b ∷ []) ++ groups_after (58 ∷ []) (drop (2 * (n + 1)) other) = rw (one, two, next) refl in
    let shape : rest ≡ lead ∷ (encode_lower (a ∷ b ∷ []) ++ tail) =
    h.left other behind s ∙ ap (λ (x : List ℕ). x ++ behind) d ∙ ap (λ (x : List ℕ). lead ∷ x) (append_assoc (encode_lower (a ∷ b ∷ [])) (groups_after (58 ∷ []) (drop (2 * (n + 1)) other)) behind) in
    (tail, record { long = refl; fit = bytes_two a b (s.fit (2 * n)) (s.fit (2 * n + 1)); digits = shape }, refl)

pair_taken : (bytes : List ℕ) (a b i : ℕ) → i + 1 < length bytes → take (i + 1 + 1) (set (set bytes i a) (i + 1) b) ≡ take i bytes ++ a ∷ b ∷ []
pair_taken bytes a b i lt =
    let len : length (set bytes i a) ≡ length bytes = length-set bytes i a in
    let here : i < length bytes = omega arith in
    let there : i + 1 < length (set bytes i a) = omega arith in
    take_more_set (set bytes i a) (i + 1) b there ∙ ap (λ (x : List ℕ). x ++ b ∷ []) (take_more_set bytes i a here) ∙ append_assoc (take i bytes) (a ∷ []) (b ∷ [])

pub groups_more : (text bytes rest after : List ℕ) (a b lead n : ℕ) → n < 8 → HasGroups text bytes rest lead n → SpellsGroup lead rest (a ∷ b ∷ []) after
    → HasGroups text (set (set bytes (2 * n) a) (2 * n + 1) b) after 58 (n + 1)
groups_more text bytes rest after a b lead n lt h g =
    let len = h.long in
    let one = length-set bytes (2 * n) a in
    let two = length-set (set bytes (2 * n) a) (2 * n + 1) b in
    let digits : List ℕ = lead ∷ encode_lower (a ∷ b ∷ []) in
    let taken : take (2 * (n + 1)) (set (set bytes (2 * n) a) (2 * n + 1) b) ≡ take (2 * n) bytes ++ a ∷ b ∷ [] =
    (let e : 2 * (n + 1) ≡ 2 * n + 1 + 1 = omega arith in rw e (pair_taken bytes a b (2 * n) (omega arith))) in
    let whole : rest ≡ digits ++ after = g.digits in
    record {
      mark = inr refl;
      long = omega arith;
      fit = set_bytes (set bytes (2 * n) a) (2 * n + 1) b (g.fit 1) (set_bytes bytes (2 * n) a (g.fit 0) h.fit);
      done = h.done ++ digits;
      split = h.split ∙ ap (λ (x : List ℕ). h.done ++ x) whole ∙ sym (append_assoc h.done digits after);
      so_far = λ more. ap (λ (x : List ℕ). groups_after (codes "[") (x ++ more)) taken ∙ ap (groups_after (codes "[")) (append_assoc (take (2 * n) bytes) (a ∷ b ∷ []) more)
          ∙ h.so_far (a ∷ b ∷ more) ∙ sym (append_assoc h.done digits (groups_after (58 ∷ []) more));
      left = λ other behind s.
          let x = next_group text bytes rest other behind lead n lt h s in
          let p = grouped lead rest (a ∷ b ∷ []) after g in
          let q = grouped lead rest (get_or other (2 * n) 0 ∷ get_or other (2 * n + 1) 0 ∷ []) x.0 x.1 in
          sym p.behind ∙ q.behind ∙ x.2;
    }

pub groups_read : (text bytes rest : List ℕ) (lead n : ℕ) → n ≡ 8 → HasGroups text bytes rest lead n → SpellsGroups text bytes rest
groups_read text bytes rest lead n e h =
    let len = h.long in
    let all : take (2 * n) bytes ≡ bytes = take_all (2 * n) bytes (omega arith) in
    let done : groups_after (codes "[") bytes ≡ h.done = ap (groups_after (codes "[")) (sym (append-nil bytes) ∙ ap (λ (x : List ℕ). x ++ []) (sym all)) ∙ h.so_far [] ∙ append-nil h.done in
    record { long = len; fit = h.fit; digits = h.split ∙ ap (λ (x : List ℕ). x ++ rest) (sym done) }

pub no_group : (text bytes rest : List ℕ) (lead n : ℕ) → n < 8 → HasGroups text bytes rest lead n → ((pair tail : List ℕ) → SpellsGroup lead rest pair tail → ⊥) → (other behind : List ℕ) → SpellsGroups text other behind → ⊥
no_group text bytes rest lead n lt h bad other behind s =
    let x = next_group text bytes rest other behind lead n lt h s in
    bad _ _ x.1

groups_length : (n lead : ℕ) (xs : List ℕ) → length xs ≡ 2 * n → length (groups_after (lead ∷ []) xs) ≡ 5 * n
groups_length n lead [] e = omega arith
groups_length n lead (a ∷ []) e = absurd (omega arith)
groups_length zero lead (a ∷ b ∷ xs) e = absurd (omega arith)
groups_length (suc n) lead (a ∷ b ∷ xs) e =
    let ih = groups_length n 58 xs (omega arith) in
    let four = pair_length a b in
    let both : length (lead ∷ (encode_lower (a ∷ b ∷ []) ++ groups_after (58 ∷ []) xs)) ≡ 1 + (length (encode_lower (a ∷ b ∷ [])) + length (groups_after (58 ∷ []) xs)) = (let l = length-append (encode_lower (a ∷ b ∷ [])) (groups_after (58 ∷ []) xs) in omega arith) in
    both ∙ omega arith

-- a text has eight groups in one way
pub groups_same : (text a b x y : List ℕ) → SpellsGroups text a x → SpellsGroups text b y → x ≡ y
groups_same text a b x y s t =
    let len : length (groups_after (codes "[") a) ≡ length (groups_after (codes "[") b) = groups_length 8 91 a s.long ∙ sym (groups_length 8 91 b t.long) in
    (take_pair 0 (groups_after (codes "[") a) (groups_after (codes "[") b) x y len (sym s.digits ∙ t.digits)).1
