-- The queries of a lookup, spelled out: an identifier has 20 bytes, a proof 52, and a transaction id four.
use Rattle.std.proofs.Common.{◌≡◌, ℕ, ◌+◌, ◌<◌, Bool, true, false, cond, is_some, List, [], ◌∷◌, ◌++◌, length, pos, Option, Some, None, refl, ap, sym, ◌∙◌, append-nil, append_assoc, arith}
use Rattle.std.specs.Prelude.{codes}
use Rattle.kad_base.specs.declared.types.Id.{Id}
use Rattle.kad_base.specs.declared.types.Proof.{Proof}
use Rattle.kad_bencode.specs.Faults.{pairs_of}
use Rattle.kad_bencode.specs.Spelling.{numeral, string_text, pairs_text, text_of}
use Rattle.kad_bencode.specs.declared.entries.Pair.{Pair}
use Rattle.kad_bencode.specs.declared.value.Value.{Value}
use Rattle.kad_bencode.specs.declared.value.Value.TheVariants.{Text, List as Values, Dict}
use Rattle.kad_bencode.proofs.Writing.{one_digit}
use Rattle.kad_bencode.proofs.Folds.{text_of-int, text_of-text, text_of-list, text_of-dict}
use Rattle.kad_bencode.proofs.Putting.{pairs_behind}
use Rattle.kad_records.specs.Records.{proof_bytes, IsWellProof}
use Rattle.kad_records.proofs.Cut.{proof_one}
use Rattle.kad_krpc.specs.declared.message.Message.TheVariants as message
use Rattle.kad_krpc.specs.declared.message.Ask.{Ask}
use Rattle.kad_krpc.specs.Form.{pair, arguments_of, name_of, two_ids, only, proof_value, proof_pair, proof_text, want_pair, message_pairs, form}

-- ---- lists one behind another

args_joined : (k u f s m v g w e : List ℕ) → ((k ++ u) ++ f ++ (s ++ (m ++ v)) ++ (g ++ w)) ++ e ≡ k ++ (u ++ (f ++ (s ++ (m ++ (v ++ (g ++ (w ++ e)))))))
args_joined k u f s m v g w e = simp append_assoc

five_joined : (j u k v l w m x n y e : List ℕ) → ((j ++ u) ++ ((k ++ v) ++ ((l ++ w) ++ ((m ++ x) ++ ((n ++ y) ++ []))))) ++ e ≡ j ++ (u ++ (k ++ (v ++ (l ++ (w ++ (m ++ (x ++ (n ++ (y ++ e)))))))))
five_joined j u k v l w m x n y e = simp (append_assoc, append-nil)

four_joined : (j u k v m x n y e : List ℕ) → ((j ++ u) ++ ((k ++ v) ++ ((m ++ x) ++ ((n ++ y) ++ [])))) ++ e ≡ j ++ (u ++ (k ++ (v ++ (m ++ (x ++ (n ++ (y ++ e)))))))
four_joined j u k v m x n y e = simp (append_assoc, append-nil)

whole_joined : (a f k c b g w e m n o r t z : List ℕ) → (a ++ (f ++ (k ++ (c ++ (b ++ (g ++ (w ++ e))))))) ++ (m ++ (n ++ (o ++ (r ++ (t ++ z))))) ≡ a ++ f ++ k ++ c ++ b ++ g ++ w ++ (e ++ m) ++ n ++ o ++ r ++ t ++ z
whole_joined a f k c b g w e m n o r t z = simp append_assoc

-- two bytes in front of a text
pub two_before : (a : List ℕ) (x y : ℕ) (text : List ℕ) → (a ++ x ∷ y ∷ []) ++ text ≡ a ++ x ∷ y ∷ text
two_before a x y text = append_assoc a (x ∷ y ∷ []) text

-- ---- texts

-- a string of this many bytes
pub text_long : (s : List ℕ) (n : ℕ) → length s ≡ n → text_of (Text s) ≡ numeral n ++ 58 ∷ s
text_long s n e = text_of-text s ∙ ap (λ k. numeral k ++ 58 ∷ s) e

-- a short name as a string
pub name_text : (name : List ℕ) → length name < 10 → string_text name ≡ (48 + length name) ∷ 58 ∷ name
name_text name short = ap (λ (l : List ℕ). l ++ 58 ∷ name) (sym (one_digit (length name) short))

-- the pair of an identifier under a key
id_pair : (key id : List ℕ) → length id ≡ 20 → pairs_text (pairs_of (pair key (Text id))) ≡ string_text key ++ (codes "20:" ++ id)
id_pair key id e = append-nil (string_text key ++ text_of (Text id)) ∙ ap (λ l. string_text key ++ l) (text_long id 20 e)

-- the list of the one word that asks for contacts of IPv6
six_text : text_of (Values (Text (codes "n6") ∷ [])) ≡ codes "l2:n6e"
six_text = text_of-list (Text (codes "n6") ∷ []) ∙ (λ i. 108 ∷ append-nil (text_of-text (codes "n6") i) i ++ 101 ∷ [])

-- that word, where it is said
pub only_text : (six : Bool) → pairs_text (pairs_of (want_pair (only six))) ≡ cond six (codes "4:wantl2:n6e") []
only_text true = append-nil (string_text (codes "want") ++ text_of (Values (Text (codes "n6") ∷ []))) ∙ ap (λ l. string_text (codes "want") ++ l) six_text
only_text false = refl

-- the pair of a proof
pub sk_text : (proof : Proof) → length (proof_bytes (Some proof)) ≡ 52 → pairs_text (pairs_of (proof_pair (Some proof))) ≡ codes "2:sk52:" ++ proof_bytes (Some proof)
sk_text proof long = append-nil (string_text (codes "sk") ++ text_of (proof_value proof)) ∙ ap (λ l. string_text (codes "sk") ++ l) (text_long (proof_bytes (Some proof)) 52 long)

-- it is of 59 bytes
pub proof_long : (proof : Option Proof) → IsWellProof proof → length (proof_text proof) ≡ cond (is_some proof) 59 0
unfolding proof_text
proof_long None w = refl
proof_long (Some proof) w =
    let long = (proof_one proof w).0 in
    let all = ap (λ (l : List ℕ). length l) (sk_text proof long) in
    omega (arith, all, long)

five_behind : (a b c d e : List (Pair Value)) → pairs_text (pairs_of (a ++ b ++ c ++ (d ++ e)))
    ≡ pairs_text (pairs_of a) ++ pairs_text (pairs_of b) ++ pairs_text (pairs_of c) ++ (pairs_text (pairs_of d) ++ pairs_text (pairs_of e))
five_behind a b c d e =
    pairs_behind (a ++ b ++ c) (d ++ e)
    ∙ (λ i. (pairs_behind (a ++ b) c ∙ ap (λ l. l ++ pairs_text (pairs_of c)) (pairs_behind a b)) i ++ pairs_behind d e i)

-- the arguments that are two identifiers, a proof between them or behind them, and that word
pub ids_text : (own other : Id) (key behind : List ℕ) (front back : Option Proof) (six : Bool) → length own.0 ≡ 20 → length other.0 ≡ 20
    → cond six (codes "4:wantl2:n6e") [] ≡ behind
    → text_of (Dict (two_ids own (proof_pair front) key other (proof_pair back ++ want_pair (only six))))
    ≡ codes "d2:id20:" ++ (own.0 ++ (proof_text front ++ (string_text key ++ (codes "20:" ++ (other.0 ++ (proof_text back ++ (behind ++ codes "e")))))))
unfolding proof_text
ids_text own other key behind front back six a b w =
    text_of-dict (two_ids own (proof_pair front) key other (proof_pair back ++ want_pair (only six)))
    ∙ ap (λ l. 100 ∷ l ++ 101 ∷ []) (
    five_behind (pair (codes "id") (Text own.0)) (proof_pair front) (pair key (Text other.0)) (proof_pair back) (want_pair (only six))
    ∙ (λ i. id_pair (codes "id") own.0 a i ++ proof_text front ++ id_pair key other.0 b i ++ (proof_text back ++ (only_text six ∙ w) i)))
    ∙ ap (λ l. 100 ∷ l) (args_joined (codes "2:id20:") own.0 (proof_text front) (string_text key) (codes "20:") other.0 (proof_text back) behind (codes "e"))

-- a query with these arguments
query_text : (tx args : List ℕ) (read_only : Bool) (proof : Option Proof) (ask : Ask) → length tx ≡ 4 → text_of (Dict (arguments_of proof ask)) ≡ args
    → form (message.Query tx read_only proof ask) ≡ codes "d1:a" ++ (args ++ (codes "1:q" ++ (string_text (name_of ask) ++ (cond read_only (codes "2:roi1e") [] ++ (codes "1:t4:" ++ (tx ++ codes "1:y1:qe"))))))
unfolding form
query_text tx args true proof ask t a =
    text_of-dict (message_pairs (message.Query tx true proof ask))
    ∙ (λ i. codes "d" ++ pairs_text (
    record { key = codes "a"; value = a i }
    ∷ record { key = codes "q"; value = text_of-text (name_of ask) i }
    ∷ record { key = codes "ro"; value = text_of-int (pos 1) i }
    ∷ record { key = codes "t"; value = text_long tx 4 t i }
    ∷ record { key = codes "y"; value = text_of-text (codes "q") i }
    ∷ []) ++ codes "e")
    ∙ ap (λ l. codes "d" ++ l) (five_joined (codes "1:a") args (codes "1:q") (string_text (name_of ask)) (codes "2:ro") (codes "i1e") (codes "1:t") (codes "4:" ++ tx) (codes "1:y") (codes "1:q") (codes "e"))
query_text tx args false proof ask t a =
    text_of-dict (message_pairs (message.Query tx false proof ask))
    ∙ (λ i. codes "d" ++ pairs_text (
    record { key = codes "a"; value = a i }
    ∷ record { key = codes "q"; value = text_of-text (name_of ask) i }
    ∷ record { key = codes "t"; value = text_long tx 4 t i }
    ∷ record { key = codes "y"; value = text_of-text (codes "q") i }
    ∷ []) ++ codes "e")
    ∙ ap (λ l. codes "d" ++ l) (four_joined (codes "1:a") args (codes "1:q") (string_text (name_of ask)) (codes "1:t") (codes "4:" ++ tx) (codes "1:y") (codes "1:q") (codes "e"))

-- a query whose arguments are two identifiers, with what stands between them and behind them
pub two_ids_query : (own other : Id) (front key back behind name tx : List ℕ) (read_only : Bool) (proof : Option Proof) (ask : Ask) → length tx ≡ 4
    → text_of (Dict (arguments_of proof ask)) ≡ codes "d2:id20:" ++ (own.0 ++ (front ++ (string_text key ++ (codes "20:" ++ (other.0 ++ (back ++ (behind ++ codes "e"))))))) → name_of ask ≡ name
    → form (message.Query tx read_only proof ask)
    ≡ codes "d1:ad2:id20:" ++ own.0 ++ front ++ string_text key ++ codes "20:" ++ other.0 ++ back ++ behind ++ codes "e1:q" ++ string_text name ++ cond read_only (codes "2:roi1e") [] ++ codes "1:t4:" ++ tx ++ codes "1:y1:qe"
two_ids_query own other front key back behind name tx read_only proof ask t arguments named =
    query_text tx _ read_only proof ask t arguments
    ∙ ap (λ l. codes "d1:ad2:id20:" ++ l) (whole_joined own.0 front (string_text key) (codes "20:") other.0 back behind (codes "e") (codes "1:q") (string_text (name_of ask)) (cond read_only (codes "2:roi1e") []) (codes "1:t4:") tx (codes "1:y1:qe"))
    ∙ ap (λ n. codes "d1:ad2:id20:" ++ own.0 ++ front ++ string_text key ++ codes "20:" ++ other.0 ++ back ++ behind ++ codes "e1:q" ++ string_text n ++ cond read_only (codes "2:roi1e") [] ++ codes "1:t4:" ++ tx ++ codes "1:y1:qe") named
