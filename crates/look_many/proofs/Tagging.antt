-- A query whose transaction id is written last: it stands before the last seven bytes.
use Rattle.std.proofs.Common.{◌≡◌, ℕ, Option, ◌+◌, ◌-◌, ◌≤◌, List, [], ◌∷◌, ◌++◌, length, take, drop, false, refl, sym, ap, ◌∙◌, arith, append-nil, append_assoc, w32}
use Rattle.std.specs.Prelude.{codes}
use Rattle.std.specs.Int.{to_le_bytes}
use Rattle.std.proofs.lemmas.List.{length-append, length-drop, length-take-le, take-append-drop}
use Rattle.std.proofs.Math.Seq.{take-append_seam, drop-append_seam}
use Rattle.kad_base.specs.Words.{word_bytes}
use Rattle.kad_base.specs.declared.types.Proof.{Proof}
use Rattle.kad_bencode.specs.Spelling.{numeral, string_text, pairs_text, text_of}
use Rattle.kad_bencode.specs.declared.value.Value.TheVariants.{Text, Dict}
use Rattle.kad_bencode.proofs.Folds.{text_of-text, text_of-dict}
use Rattle.kad_krpc.specs.declared.message.Message.TheVariants as message
use Rattle.kad_krpc.specs.declared.message.Ask.{Ask}
use Rattle.kad_krpc.specs.Form.{arguments_of, name_of, message_pairs, form}
use Rattle.lookup_crowd.specs.Many.{follow_bytes}

-- ---- the text

-- a string of this many bytes
text_long : (s : List ℕ) (n : ℕ) → length s ≡ n → text_of (Text s) ≡ numeral n ++ 58 ∷ s
text_long s n e = text_of-text s ∙ ap (λ k. numeral k ++ 58 ∷ s) e

four_joined : (j u k v m x n y e : List ℕ) → ((j ++ u) ++ ((k ++ v) ++ ((m ++ x) ++ ((n ++ y) ++ [])))) ++ e ≡ (j ++ (u ++ (k ++ (v ++ m)))) ++ (x ++ (n ++ (y ++ e)))
four_joined j u k v m x n y e = simp (append_assoc, append-nil)

-- what stands before the length of the transaction id
before_tx : Option Proof → Ask → List ℕ
before_tx proof ask = codes "1:a" ++ (text_of (Dict (arguments_of proof ask)) ++ (codes "1:q" ++ (string_text (name_of ask) ++ codes "1:t")))

query_text : (tx : List ℕ) (proof : Option Proof) (ask : Ask) → length tx ≡ 4 → form (message.Query tx false proof ask) ≡ (codes "d" ++ (before_tx proof ask ++ codes "4:")) ++ (tx ++ codes "1:y1:qe")
unfolding form before_tx
query_text tx proof ask t =
    text_of-dict (message_pairs (message.Query tx false proof ask))
    ∙ (λ i. codes "d" ++ pairs_text (
    record { key = codes "a"; value = text_of (Dict (arguments_of proof ask)) }
    ∷ record { key = codes "q"; value = text_of-text (name_of ask) i }
    ∷ record { key = codes "t"; value = text_long tx 4 t i }
    ∷ record { key = codes "y"; value = text_of-text (codes "q") i }
    ∷ []) ++ codes "e")
    ∙ ap (λ l. codes "d" ++ l) (four_joined (codes "1:a") (text_of (Dict (arguments_of proof ask))) (codes "1:q") (string_text (name_of ask)) (codes "1:t") (codes "4:" ++ tx) (codes "1:y") (codes "1:q") (codes "e"))
    ∙ regroup (codes "d") (before_tx proof ask) (codes "4:") tx (codes "1:y1:qe")
  where
    regroup : (a b c x y : List ℕ) → a ++ (b ++ ((c ++ x) ++ y)) ≡ (a ++ (b ++ c)) ++ (x ++ y)
    regroup a b c x y = simp (append_assoc)

four_bytes : (w : ℕ) → length (word_bytes w) ≡ 4
unfolding word_bytes
four_bytes w = refl

-- ---- writing it

-- what stands in the place of the four bytes before the last seven
pub written_tx : (front old new tail : List ℕ) → length old ≡ 4 → length tail ≡ 7 → (xs : List ℕ) → xs ≡ front ++ (old ++ tail) → take (length xs - 11) xs ++ new ++ drop (length xs - 7) xs ≡ front ++ (new ++ tail)
written_tx front old new tail o t xs is =
    let long = ap length is ∙ length-append front (old ++ tail) in
    let both = length-append old tail in
    let here : length xs - 11 ≡ length front = omega (arith, long, both, o, t) in
    let ends = length-append front old in
    let there : length xs - 7 ≡ length (front ++ old) = omega (arith, long, both, o, t, ends) in
    let first : take (length xs - 11) xs ≡ front = ap (λ n. take n xs) here ∙ ap (take (length front)) is ∙ take-append_seam front (old ++ tail) in
    let last : drop (length xs - 7) xs ≡ tail = ap (λ n. drop n xs) there ∙ ap (drop (length (front ++ old))) (is ∙ sym (append_assoc front old tail)) ∙ drop-append_seam (front ++ old) tail in
    ap (λ l. l ++ new ++ drop (length xs - 7) xs) first ∙ ap (λ l. front ++ new ++ l) last ∙ append_assoc front new tail

pub tx_long : (xs tx : List ℕ) (proof : Option Proof) (ask : Ask) → length tx ≡ 4 → xs ≡ form (message.Query tx false proof ask) → 11 ≤ length xs
tx_long xs tx proof ask t is =
    let front = codes "d" ++ (before_tx proof ask ++ codes "4:") in
    let tail = codes "1:y1:qe" in
    let long = ap length (is ∙ query_text tx proof ask t) ∙ length-append front (tx ++ tail) in
    let both = length-append tx tail in
    let seven : length tail ≡ 7 = refl in
    omega (arith, long, both, t, seven)

pub tx_written : (xs ys tx : List ℕ) (w : ℕ) (proof : Option Proof) (ask : Ask) → length tx ≡ 4 → xs ≡ form (message.Query tx false proof ask) → ys ≡ take (length xs - 11) xs ++ word_bytes w ++ drop (length xs - 7) xs → ys ≡ follow_bytes proof w ask
tx_written xs ys tx w proof ask t is after =
    after ∙ written_tx (codes "d" ++ (before_tx proof ask ++ codes "4:")) tx (word_bytes w) (codes "1:y1:qe") t refl xs (is ∙ query_text tx proof ask t) ∙ sym (query_text (word_bytes w) proof ask (four_bytes w))

-- where the word was put
pub put_tx : (old new part : List ℕ) (w at : ℕ) → part ≡ to_le_bytes w32 w → 11 ≤ length old → at ≡ length old - 11 + length part → take at new ≡ take (length old - 11) old ++ part → drop at new ≡ drop at old → new ≡ take (length old - 11) old ++ word_bytes w ++ drop (length old - 7) old
unfolding word_bytes
put_tx old new part w at is long place first rest =
    let four : length part ≡ 4 = ap length is in
    let there : at ≡ length old - 7 = omega (arith, place, four, long) in
    sym (take-append-drop at new) ∙ ap (λ l. l ++ drop at new) first ∙ ap (λ l. take (length old - 11) old ++ part ++ l) (rest ∙ ap (λ n. drop n old) there) ∙ ap (λ l. take (length old - 11) old ++ l ++ drop (length old - 7) old) is

-- what was written through a slice of the whole
pub whole_again : (n : ℕ) (xs ys : List ℕ) → n ≡ length ys → take n (ys ++ drop (length ys) xs) ≡ ys
whole_again n xs ys is = ap (λ k. take k (ys ++ drop (length ys) xs)) is ∙ take-append_seam ys (drop (length ys) xs)

-- it is as long as before
pub tx_same : (xs ys : List ℕ) (w : ℕ) → 11 ≤ length xs → ys ≡ take (length xs - 11) xs ++ word_bytes w ++ drop (length xs - 7) xs → length ys ≡ length xs
tx_same xs ys w long is =
    let four = four_bytes w in
    let one = length-append (take (length xs - 11) xs) (word_bytes w) in
    let all = length-append (take (length xs - 11) xs ++ word_bytes w) (drop (length xs - 7) xs) in
    let front = length-take-le (length xs - 11) xs (omega arith) in
    let back = length-drop (length xs - 7) xs in
    let here = ap length is in
    omega (arith, here, four, one, all, front, back, long)
