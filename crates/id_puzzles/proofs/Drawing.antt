-- Bytes that are drawn, word after word.
use Rattle.std.proofs.Common.{◌≡◌, ◌↔◌, ℕ, zero, suc, ◌+◌, ◌*◌, ◌/◌, ◌≤◌, List, [], ◌++◌, length, take, refl, sym, ap, subst, ◌∙◌, arith}
use Rattle.std.specs.Int.{w32, to_le_bytes}
use Rattle.std.proofs.lemmas.List.{append-nil, append_assoc}
use Rattle.std.proofs.lemmas.Slice.{take-put_mid}
use borrow.Rule.Slice.PartMut.{put_mid}
use Rattle.kad_base.specs.Bits.{BeginsWithZeros}
use Rattle.kad_base.specs.Puzzles.{hash}
use Rattle.kad_base.specs.Words.{word, word_bytes, drawn_bytes}
use Rattle.id_puzzles.specs.Drawn.{WordsState}
use Rattle.id_puzzles.specs.Minting.{key_at, KeySolves}

pub drawn_bytes-none : (seed : List ℕ) (place : ℕ) → drawn_bytes seed place 0 ≡ []
unfolding drawn_bytes
drawn_bytes-none seed place = refl

-- one word more
drawn_bytes-suc : (seed : List ℕ) (place n : ℕ) → drawn_bytes seed place (suc n) ≡ drawn_bytes seed place n ++ word_bytes (word seed (place + n))
unfolding drawn_bytes
drawn_bytes-suc seed place zero =
    let f : place ≡ place + 0 = omega arith in
    append-nil (word_bytes (word seed place)) ∙ ap (λ (k : ℕ). word_bytes (word seed k)) f
drawn_bytes-suc seed place (suc n) =
    let f : place + 1 + n ≡ place + suc n = omega arith in
    ap (λ (l : List ℕ). word_bytes (word seed place) ++ l) (drawn_bytes-suc seed (place + 1) n)
    ∙ sym (append_assoc (word_bytes (word seed place)) (drawn_bytes seed (place + 1) n) (word_bytes (word seed (place + 1 + n))))
    ∙ ap (λ (k : ℕ). word_bytes (word seed place) ++ drawn_bytes seed (place + 1) n ++ word_bytes (word seed k)) f

pub drawn_bytes-push : (seed : List ℕ) (place n : ℕ) → drawn_bytes seed place (n + 1) ≡ drawn_bytes seed place n ++ word_bytes (word seed (place + n))
drawn_bytes-push seed place n =
    let e : n + 1 ≡ suc n = omega arith in
    ap (λ (k : ℕ). drawn_bytes seed place k) e ∙ drawn_bytes-suc seed place n

-- the bytes of word i, written behind those before it
pub drawn_bytes-written : (seed : List ℕ) (place i k w : ℕ) (bytes part : List ℕ) → take (4 * i) bytes ≡ drawn_bytes seed place i → 4 * i ≤ length bytes
    → w ≡ word seed (place + i) → part ≡ to_le_bytes w32 w → take (4 * (i + 1)) (put_mid (4 * i) k bytes part) ≡ drawn_bytes seed place (i + 1)
unfolding word_bytes
drawn_bytes-written seed place i k w bytes part before le w_is part_is =
    let n : 4 * (i + 1) ≡ 4 * i + length part = ap (λ (x : ℕ). x) (rw part_is (omega arith)) in
    take-put_mid (4 * i) k bytes part (4 * (i + 1)) n le
    ∙ ap (λ (l : List ℕ). l ++ part) before
    ∙ ap (λ (l : List ℕ). drawn_bytes seed place i ++ l) (part_is ∙ ap (λ (x : ℕ). to_le_bytes w32 x) w_is)
    ∙ sym (drawn_bytes-push seed place i)

-- a key that is drawn at its place
pub key_drawn : (seed : List ℕ) (i : ℕ) (at : WordsState) (old new : List ℕ) → at ≡ record { seed = seed; place = 8 * i } → length old ≡ 32
    → new ≡ drawn_bytes at.seed at.place (length old / 4) → new ≡ key_at seed i
unfolding key_at
key_drawn seed i at old new at_is len new_is =
    new_is ∙ ap (λ (n : ℕ). drawn_bytes at.seed at.place (n / 4)) len ∙ ap (λ (d : WordsState). drawn_bytes d.seed d.place 8) at_is

-- the test of its identifier
pub key_tested : (seed : List ℕ) (bits i : ℕ) (key id : List ℕ) → key ≡ key_at seed i → id ≡ hash key → BeginsWithZeros bits (hash id) ↔ KeySolves seed bits i
key_tested seed bits i key id key_is id_is =
    let e : hash id ≡ hash (hash (key_at seed i)) = ap hash (id_is ∙ ap hash key_is) in
    (subst (BeginsWithZeros bits) e, subst (BeginsWithZeros bits) (sym e))
