-- Texts of messages that are put one behind another.
use Rattle.std.proofs.Common.{◌≡◌, ℕ, ◌<◌, ◌≤◌, true, false, List, [], ◌∷◌, ◌++◌, map, take, length, ℤ, pos, sym, ap, ◌∙◌, arith, append-nil}
use Rattle.std.specs.Prelude.{codes}
use Rattle.std.specs.List.{concat}
use Rattle.kad_bencode.specs.declared.value.Value.{Value}
use Rattle.kad_bencode.specs.Spelling.{integer_text, string_text, pairs_text, text_of}
use Rattle.std.proofs.lemmas.List.{take_all}
use Rattle.std.proofs.Math.Seq.{take-append_seam}
use Rattle.kad_bencode.specs.Faults.{pairs_of}
use Rattle.kad_bencode.specs.Written.{Puts, last_place}
use Rattle.kad_bencode.specs.declared.value.Value.TheVariants.{Int, Text, List as Values}
use Rattle.kad_bencode.proofs.Folds.{text_of-int, text_of-text, text_of-list}
use Rattle.kad_krpc.specs.Form.{pair, want_pair}
use Rattle.kad_krpc.proofs.Queries.{text_long}

-- a pair whose value is 1, and one whose value is a string
pub one_text : (key : List ℕ) → pairs_text (pairs_of (pair key (Int (pos 1)))) ≡ string_text key ++ codes "i1e"
one_text key = append-nil (string_text key ++ text_of (Int (pos 1))) ∙ ap (λ l. string_text key ++ l) (text_of-int (pos 1))

pub string_pair : (key s : List ℕ) → pairs_text (pairs_of (pair key (Text s))) ≡ string_text key ++ string_text s
string_pair key s = append-nil (string_text key ++ text_of (Text s)) ∙ ap (λ l. string_text key ++ l) (text_of-text s)

-- the pair of an identifier
pub id_text : (id : List ℕ) → length id ≡ 20 → pairs_text (pairs_of (pair (codes "id") (Text id))) ≡ codes "2:id20:" ++ id
id_text id e = append-nil (codes "2:id" ++ text_of (Text id)) ∙ ap (λ l. codes "2:id" ++ l) (text_long id 20 e)

-- an error's code and text
pub error_text : (code : ℤ) (said : List ℕ) → text_of (Values (Int code ∷ Text said ∷ [])) ≡ ((108 ∷ integer_text code) ++ string_text said) ++ 101 ∷ []
error_text code said =
    text_of-list (Int code ∷ Text said ∷ [])
    ∙ (λ i. 108 ∷ (text_of-int code i ++ append-nil (text_of-text said i) i) ++ 101 ∷ [])

-- whose contacts are wanted
list_pair : (key : List ℕ) (vs : List Value) → pairs_text (pairs_of (pair key (Values vs))) ≡ string_text key ++ (108 ∷ concat (map text_of vs) ++ 101 ∷ [])
list_pair key vs = append-nil (string_text key ++ text_of (Values vs)) ∙ ap (λ l. string_text key ++ l) (text_of-list vs)

word_text : (word : List ℕ) → text_of (Text word) ++ [] ≡ string_text word
word_text word = append-nil (text_of (Text word)) ∙ text_of-text word

pub four_text : pairs_text (pairs_of (want_pair (record { four = true; six = false }))) ≡ codes "4:wantl2:n4e"
four_text = list_pair (codes "want") (Text (codes "n4") ∷ []) ∙ (λ i. codes "4:want" ++ (108 ∷ word_text (codes "n4") i ++ 101 ∷ []))

pub six_text : pairs_text (pairs_of (want_pair (record { four = false; six = true }))) ≡ codes "4:wantl2:n6e"
six_text = list_pair (codes "want") (Text (codes "n6") ∷ []) ∙ (λ i. codes "4:want" ++ (108 ∷ word_text (codes "n6") i ++ 101 ∷ []))

pub both_text : pairs_text (pairs_of (want_pair (record { four = true; six = true }))) ≡ codes "4:wantl2:n42:n6e"
both_text = list_pair (codes "want") (Text (codes "n4") ∷ Text (codes "n6") ∷ []) ∙ (λ i. codes "4:want" ++ (108 ∷ (text_of-text (codes "n4") i ++ word_text (codes "n6") i) ++ 101 ∷ []))

-- ---- a message that is measured first

pub measured : {old new text : List ℕ} {size : ℕ} → Puts old new 0 text size → (size ≡ last_place → ⊥) → size ≡ length text
measured p n = let e = p.place in omega (arith, e, n)

-- and then put into as many bytes
pub all_put : {old new text : List ℕ} {size next : ℕ} → length old ≡ size → size ≡ length text → size < last_place → Puts old new 0 text next → new ≡ text
all_put {old} {new} {text} {size} {next} l e small p =
    let place = p.place in
    let room = p.room in
    let there : next ≤ length old = omega (arith, place, e, l, small) in
    let whole : length new ≤ next = omega (arith, place, room, e, l, small) in
    sym (take_all next new whole) ∙ p.text_is there

-- a vector whose bytes were all put
pub whole_vec : (result xs ys : List ℕ) (n : ℕ) → n ≡ length xs → result ≡ take n (xs ++ ys) → result ≡ xs
whole_vec result xs ys n e r = r ∙ ap (λ k. take k (xs ++ ys)) e ∙ take-append_seam xs ys
