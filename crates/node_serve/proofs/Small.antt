-- A reply with few parts is short, and with its tag too.
use Rattle.std.proofs.Common.{◌≡◌, false, ℕ, suc, zero, ◌+◌, ◌*◌, ◌<◌, ◌≤◌, List, [], ◌∷◌, ◌++◌, length, map, ℤ, refl, ap, ◌∙◌, arith, length-append, Option, Some, None}
use Rattle.std.specs.Prelude.{codes, IfSome}
use Rattle.std.specs.List.{concat}
use Rattle.std.specs.Int.Digits.{digits_of}
use Rattle.std.specs.Ordering.{match_ordering}
use Rattle.std.specs.declared.cmp.Ordering.TheVariants.{Less, Equal, Greater}
use Rattle.std.proofs.lemmas.Int.Digits.{length-digits_of-le}
use Rattle.std.proofs.lemmas.Grind.{flat_map-append}
use Rattle.std.proofs.lemmas.List.{map-append, length-map}
use Rattle.kad_base.specs.Limits.{max_datagram, max_answered_tx}
use Rattle.kad_base.specs.declared.types.Addr.{Addr}
use Rattle.kad_base.specs.declared.types.Contact.{Contact}
use Rattle.kad_base.specs.declared.types.Report.{Report}
use Rattle.kad_bencode.specs.Keys.{key_cmp, put}
use Rattle.kad_bencode.specs.Naming.{named}
use Rattle.kad_bencode.specs.Spelling.{numeral, integer_text, string_text, pairs_text, text_of}
use Rattle.kad_bencode.specs.Faults.{pairs_of}
use Rattle.kad_bencode.specs.declared.entries.Pair.{Pair}
use Rattle.kad_bencode.specs.declared.value.Value.{Value}
use Rattle.kad_bencode.specs.declared.value.Value.TheVariants as value
use Rattle.kad_bencode.proofs.Numerals.{numeral_positive}
use Rattle.kad_bencode.proofs.Folds.{text_of-int, text_of-text, text_of-list, text_of-dict}
use Rattle.kad_krpc.specs.declared.message.Answer.{Answer}
use Rattle.kad_krpc.specs.declared.message.Message.{Message}
use Rattle.kad_krpc.specs.declared.message.Message.TheVariants as message
use Rattle.kad_bencode.proofs.Formed.{named_text}
use Rattle.kad_krpc.specs.Form.{IsCarried, HasForms, is_mutable, pair, maybe, nodes_value, snodes_value, peers_value, answer_pairs, message_pairs, form}
use Rattle.kad_krpc.specs.Records.{addr_bytes, nodes_bytes, snodes_bytes}
use Rattle.kad_krpc.specs.Seal.{tagged}
use Rattle.node_serve.specs.Sizes.{HasFew, IsSmall, IsCompact, count, max_reply, nodes_size, peers_bytes, snodes_size, values_size}

-- ---- strings

pub numeral_short : (n : ℕ) → n < 100000 → length (numeral n) ≤ 5
numeral_short zero h = omega arith
numeral_short (suc n) h =
    let l = length-map (digits_of 10 (suc n)) (λ d. 48 + d) in
    let m = length-digits_of-le 10 5 (suc n) (omega arith) h in
    let e = ap length (numeral_positive (suc n) (omega arith)) in
    omega (arith, e, l, m)

string_short : (s : List ℕ) (m : ℕ) → length s ≤ m → m < 100000 → length (string_text s) ≤ 6 + m
string_short s m h k =
    let a = length-append (numeral (length s)) (58 ∷ s) in
    let b = numeral_short (length s) (omega arith) in
    omega (arith, a, b)

text_short : (s : List ℕ) (m : ℕ) → length s ≤ m → m < 100000 → length (text_of (value.Text s)) ≤ 6 + m
text_short s m h k = let e = ap length (text_of-text s) in let l = string_short s m h k in omega (arith, e, l)

-- ---- pairs

abbrev size : List (Pair Value) → ℕ
size ps = length (pairs_text (pairs_of ps))

size_append : (ps qs : List (Pair Value)) → size (ps ++ qs) ≡ size ps + size qs
size_append ps qs =
    ap (λ l. length (pairs_text l)) (map-append (λ (p : Pair Value). record { key = p.key; value = text_of p.value }) ps qs)
    ∙ ap length (flat_map-append (λ (p : Pair (List ℕ)). string_text p.key ++ p.value) (pairs_of ps) (pairs_of qs))
    ∙ length-append (pairs_text (pairs_of ps)) (pairs_text (pairs_of qs))

size_pair : (key : List ℕ) (v : Value) (m : ℕ) → length key < 100000 → length (text_of v) ≤ m → size (pair key v) ≤ 6 + length key + m
size_pair key v m h k =
    let a = length-append (string_text key ++ text_of v) [] in
    let b = length-append (string_text key) (text_of v) in
    let l = string_short key (length key) (omega arith) h in
    omega (arith, a, b, l)

size_dict : (ps : List (Pair Value)) (m : ℕ) → size ps ≤ m → length (text_of (value.Dict ps)) ≤ 2 + m
size_dict ps m h =
    let e = ap length (text_of-dict ps) in
    let a = length-append (pairs_text (pairs_of ps)) (101 ∷ []) in
    omega (arith, e, a, h)

-- ---- the parts of an answer

size_nodes : (o : Option (List Contact)) → nodes_size o ≤ 760 → size (maybe (codes "nodes") nodes_value o) ≤ 777
size_nodes None h = omega arith
size_nodes (Some nodes) h = size_pair (codes "nodes") (nodes_value nodes) 766 (omega arith) (text_short (nodes_bytes nodes) 760 h (omega arith))

size_snodes : (o : Option (List Report)) → snodes_size o ≤ 1800 → size (maybe (codes "snodes") snodes_value o) ≤ 1818
size_snodes None h = omega arith
size_snodes (Some snodes) h = size_pair (codes "snodes") (snodes_value snodes) 1806 (omega arith) (text_short (snodes_bytes snodes) 1800 h (omega arith))

-- a part that is missing takes nothing
size_none : {A : Type 0} (key : List ℕ) (value_of : A → Value) (o : Option A) → o ≡ None → size (maybe key value_of o) ≡ 0
size_none key value_of None e = refl
size_none key value_of (Some x) e = absurd cc

size_token : (o : Option (List ℕ)) → count o ≤ 8 → size (maybe (codes "token") value.Text o) ≤ 25
size_token None h = omega arith
size_token (Some token) h = size_pair (codes "token") (value.Text token) 14 (omega arith) (text_short token 8 h (omega arith))

peers_short : (peers : List Addr) → length (peers_bytes peers) < 100000 → length (concat (map text_of (map (λ peer. value.Text (addr_bytes peer)) peers))) ≤ 6 * length peers + length (peers_bytes peers)
peers_short [] h = omega arith
peers_short (peer ∷ peers) h =
    let a = length-append (addr_bytes peer) (peers_bytes peers) in
    let b = length-append (text_of (value.Text (addr_bytes peer))) (concat (map text_of (map (λ peer. value.Text (addr_bytes peer)) peers))) in
    let t = text_short (addr_bytes peer) (length (addr_bytes peer)) (omega arith) (omega (arith, a, h)) in
    let r = peers_short peers (omega (arith, a, h)) in
    omega (arith, a, b, t, r)

size_values : (o : Option (List Addr)) → count o ≤ 50 → values_size o ≤ 18 * count o → size (maybe (codes "values") peers_value o) ≤ 14 + 24 * count o
size_values None h k = omega arith
size_values (Some peers) h k =
    let e = ap length (text_of-list (map (λ peer. value.Text (addr_bytes peer)) peers)) in
    let a = length-append (concat (map text_of (map (λ peer. value.Text (addr_bytes peer)) peers))) (101 ∷ []) in
    let p = peers_short peers (omega (arith, h, k)) in
    let whole : size (maybe (codes "values") peers_value (Some peers)) ≤ 12 + (2 + 24 * length peers) = size_pair (codes "values") (peers_value peers) (2 + 24 * length peers) (omega arith) (omega (arith, e, a, p, h, k)) in
    omega (arith, whole)

-- a value stands as it is
size_form : (o : Option (List ℕ)) → IfSome o IsCarried → size (maybe (codes "v") named o) ≤ 7 + count o
size_form None f = omega arith
size_form (Some v) f = (let e = ap length (named_text 2 v f) in size_pair (codes "v") (named v) (length v) (omega arith) (omega (arith, e)))

size_answer : (a : Answer) → HasFew a → IsCompact a → length (text_of (value.Dict (answer_pairs a))) ≤ 3877
size_answer a f c =
    let ids = pair (codes "id") (value.Text a.id.0) in
    let nodes = maybe (codes "nodes") nodes_value a.nodes in
    let nodes6 = maybe (codes "nodes6") nodes_value a.nodes6 in
    let snodes = maybe (codes "snodes") snodes_value a.snodes in
    let snodes6 = maybe (codes "snodes6") snodes_value a.snodes6 in
    let token = maybe (codes "token") value.Text a.token in
    let carried = maybe (codes "v") named a.v in
    let values = maybe (codes "values") peers_value a.values in
    let fn = f.nodes in let fs = f.snodes in let fv = f.values in
    let cn = c.nodes in let cs = c.snodes in let cv = c.values in
    let i : size ids ≤ 34 = size_pair (codes "id") (value.Text a.id.0) 26 (omega arith) (text_short a.id.0 20 c.id (omega arith)) in
    let n = size_nodes a.nodes (omega (arith, fn, cn)) in
    let n6 = size_none (codes "nodes6") nodes_value a.nodes6 f.nodes6 in
    let s = size_snodes a.snodes (omega (arith, fs, cs)) in
    let s6 = size_none (codes "snodes6") snodes_value a.snodes6 f.snodes6 in
    let t = size_token a.token f.token in
    let x = size_form a.v f.v in
    let v = size_values a.values (omega (arith, fv)) cv in
    let e0 = size_append (ids ++ nodes ++ nodes6 ++ snodes ++ snodes6 ++ token ++ carried) values in
    let e1 = size_append (ids ++ nodes ++ nodes6 ++ snodes ++ snodes6 ++ token) carried in
    let e2 = size_append (ids ++ nodes ++ nodes6 ++ snodes ++ snodes6) token in
    let e3 = size_append (ids ++ nodes ++ nodes6 ++ snodes) snodes6 in
    let e4 = size_append (ids ++ nodes ++ nodes6) snodes in
    let e5 = size_append (ids ++ nodes) nodes6 in
    let e6 = size_append ids nodes in
    size_dict (answer_pairs a) 3875 (omega (arith, fv, i, n, n6, s, s6, t, x, v, e0, e1, e2, e3, e4, e5, e6))

-- ---- messages

size_ends : (first : List (Pair Value)) (tx kind : List ℕ) → length tx ≤ max_answered_tx → length kind ≤ 1 → size (first ++ pair (codes "t") (value.Text tx) ++ pair (codes "y") (value.Text kind)) ≤ size first + 59
size_ends first tx kind h k =
    let t : size (pair (codes "t") (value.Text tx)) ≤ 45 = size_pair (codes "t") (value.Text tx) 38 (omega arith) (text_short tx 32 h (omega arith)) in
    let y : size (pair (codes "y") (value.Text kind)) ≤ 14 = size_pair (codes "y") (value.Text kind) 7 (omega arith) (text_short kind 1 k (omega arith)) in
    let e1 = size_append (first ++ pair (codes "t") (value.Text tx)) (pair (codes "y") (value.Text kind)) in
    let e2 = size_append first (pair (codes "t") (value.Text tx)) in
    omega (arith, t, y, e1, e2)

-- a reply with few parts gives its value by its written form
pub small_forms : (m : Message) → IsSmall m → HasForms m
small_forms (message.Query tx read_only proof ask) h = absurd h
small_forms (message.Answer tx answer) h = h.1.v
small_forms (message.Fault tx code text) h = tt

pub small_immutable : (m : Message) → IsSmall m → is_mutable m ≡ false
small_immutable (message.Query tx read_only proof ask) h = absurd h
small_immutable (message.Answer tx answer) h = refl
small_immutable (message.Fault tx code text) h = refl

pub answer_short : (tx : List ℕ) (a : Answer) → length tx ≤ max_answered_tx → HasFew a → IsCompact a → length (form (message.Answer tx a)) ≤ max_reply
unfolding form
answer_short tx a h f c =
    let first = pair (codes "r") (value.Dict (answer_pairs a)) in
    let r : size first ≤ 3884 = size_pair (codes "r") (value.Dict (answer_pairs a)) 3877 (omega arith) (size_answer a f c) in
    let e = size_ends first tx (codes "r") h (omega arith) in
    let d = size_dict (message_pairs (message.Answer tx a)) 3943 (omega (arith, r, e)) in
    omega (arith, d)

pub fault_short : (tx text : List ℕ) (code : ℤ) → length tx ≤ max_answered_tx → length (integer_text code) ≤ 7 → length text ≤ 25 → length (form (message.Fault tx code text)) ≤ max_reply
unfolding form
fault_short tx text code h i k =
    let listed = value.List (value.Int code ∷ value.Text text ∷ []) in
    let first = pair (codes "e") listed in
    let e = ap length (text_of-list (value.Int code ∷ value.Text text ∷ [])) in
    let a = length-append (text_of (value.Int code) ++ (text_of (value.Text text) ++ [])) (101 ∷ []) in
    let b = length-append (text_of (value.Int code)) (text_of (value.Text text) ++ []) in
    let b2 = length-append (text_of (value.Text text)) [] in
    let n = ap length (text_of-int code) in
    let t = text_short text 25 k (omega arith) in
    let l : length (text_of listed) ≤ 40 = omega (arith, e, a, b, b2, n, t, i) in
    let r : size first ≤ 47 = size_pair (codes "e") listed 40 (omega arith) l in
    let m = size_ends first tx (codes "e") h (omega arith) in
    let d = size_dict (message_pairs (message.Fault tx code text)) 106 (omega (arith, r, m)) in
    omega (arith, d)

-- ---- the tag

-- a pair that is put among others adds no more than its own text
size_put : (ps : List (Pair Value)) (key : List ℕ) (v : Value) → size (put ps key v) ≤ size ps + size (pair key v)
size_put [] key v = omega arith
size_put (p ∷ ps) key v =
    let q : Pair Value = record { key = key; value = v } in
    let own = size_append (p ∷ []) ps in
    elim (key_cmp key p.key) as (λ o. size (match_ordering o (q ∷ p ∷ ps) (q ∷ ps) (p ∷ put ps key v)) ≤ size (p ∷ ps) + size (pair key v)) [
      | Less ↦ let e = size_append (q ∷ []) (p ∷ ps) in omega (arith, e)
      | Equal ↦ let e = size_append (q ∷ []) ps in omega (arith, e, own)
      | Greater ↦ let e = size_append (p ∷ []) (put ps key v) in let h = size_put ps key v in omega (arith, e, own, h)
    ]

-- a tag adds at most 78 bytes to a dictionary
pub tagged_short : (ps : List (Pair Value)) (tag : List ℕ) → length tag ≤ 64 → length (text_of (value.Dict ps)) ≤ max_reply → length (tagged ps tag) ≤ max_datagram
tagged_short ps tag h k =
    let e = ap length (text_of-dict ps) in
    let a = length-append (pairs_text (pairs_of ps)) (101 ∷ []) in
    let p = size_put ps (codes "sg") (value.Text tag) in
    let t : size (pair (codes "sg") (value.Text tag)) ≤ 78 = size_pair (codes "sg") (value.Text tag) 70 (omega arith) (text_short tag 64 h (omega arith)) in
    let d = size_dict (put ps (codes "sg") (value.Text tag)) (size ps + 78) (omega (arith, p, t)) in
    omega (arith, e, a, d, k)
