-- What a query asks, by each law of a message: a method more is a line in each.
use Rattle.std.proofs.Common.{◌≡◌, ◌≢◌, ℕ, ◌<◌, ◌≤◌, Bool, true, false, cond, ◌&&◌, ◌||◌, List, [], ◌∷◌, ◌++◌, map, length, nat_le, nat_lt, ℤ, pos, negsuc, Option, Some, None, Ok, refl, sym, ap, ◌∙◌, eq-eqb, arith}
use Rattle.std.specs.Prelude.{codes, bytes_eq, option_map}
use Rattle.std.specs.List.{AllByRecursion, list_any}
use Rattle.std.proofs.lemmas.Bool.{lt-ltb, le-leb}
use Rattle.std.proofs.lemmas.Bool.Decides.{nat_tests}
use Rattle.kad_base.specs.declared.types.Id.{Id}
use Rattle.kad_base.specs.declared.types.Proof.{Proof}
use Rattle.kad_bencode.specs.Faults.{InList}
use Rattle.kad_bencode.specs.Keys.{keys_of, value_of}
use Rattle.kad_bencode.specs.Spelling.{depth_of, greatest, each_once, put_all}
use Rattle.kad_bencode.specs.declared.entries.Pair.{Pair}
use Rattle.kad_bencode.proofs.Folds.{depth_of-list}
use Rattle.kad_bencode.proofs.Formed.{IsSound, sound_form, named_text}
use Rattle.kad_bencode.proofs.Layers.{dict_is}
use Rattle.kad_records.specs.Records.{proof_at, proof_bytes, IsWellProof}
use Rattle.kad_records.proofs.Cut.{proof_one}
use Rattle.kad_bencode.specs.Naming.{named}
use Rattle.kad_bencode.specs.Parts.{bytes_of, integer_of, member_in}
use Rattle.kad_bencode.specs.declared.value.Value.{Value}
use Rattle.kad_bencode.specs.declared.value.Value.TheVariants.{Int, Text, Dict}
use Rattle.kad_krpc.specs.declared.message.Ask.{Ask}
use Rattle.kad_krpc.specs.declared.message.Ask.TheVariants.{Ping, FindNode, GetPeers, AnnouncePeer, Get, Put, Other}
use Rattle.kad_krpc.specs.declared.message.Port.{Port}
use Rattle.kad_krpc.specs.declared.message.Port.TheVariants.{Given, Implied}
use Rattle.kad_krpc.specs.declared.message.Want.{Want}
use Rattle.kad_krpc.specs.declared.message.Method.{Method}
use Rattle.kad_krpc.specs.declared.message.Method.TheVariants as method
use Rattle.kad_krpc.specs.declared.message.Key.{Key}
use Rattle.kad_krpc.specs.declared.message.Key.TheVariants as key
use Rattle.kad_krpc.specs.Fields.{Step, Look, then, of_kind, needed, optional, look_of, id_of, IsCarried, pair}
use Rattle.kad_krpc.specs.Asking.{is_text, is_word, is_named, names, want_of, word_if, want_value, some_want, want_pair, two_ids, port_in, port_of, is_implied, port_by, rest_at, arguments_at, ask_by, ask_of, method_in, proof_from, proof_by, proof_of, arguments_read, announced, proof_value, proof_pair, put_pairs, arguments_of, name_of, IsGivenPort, IsUnknown, is_mutable_ask, CarriesForm, IsWritableAsk, IsWellPort, IsWellAsk}
use Rattle.kad_krpc.proofs.Stepping.{NotBad, both, either, needs, options, Gets, Any, any, after, gets_either, none_some, bytes_text, integer_int, list_list, look_dict, id_text, stepped, had, had_some, differs}
use Rattle.kad_krpc.proofs.Pairing.{Below, Good, good_text, good_int, good_list, good_dict, GoodPairs, good_more, good_maybe, once_maybe, next_filed, small, Within, more, text_within, int_within, maybe_within, missed, hit, good_carried, carried_within}
use Rattle.kad_krpc.proofs.Carried.{SoundLook, SoundOption, needs_look, needs_any}

-- ---- no step of it fails as bencode does

ports : (i p : Option Value) → NotBad (port_by i p)
ports i p = both (optional integer_of key.ImpliedPort i) _ (options integer_of key.ImpliedPort i) (λ n. either (is_implied n) _ _ tt (both (needed port_of key.Port p) _ (needs port_of key.Port p) (λ x. tt)))

rests_not_bad : (m : Method) (a : Look) (id : Id) → NotBad (rest_at m a id)
rests_not_bad method.Ping a id = tt
rests_not_bad method.FindNode a id = both (needed id_of key.Target (a (codes "target"))) _ (needs id_of key.Target (a (codes "target"))) (λ x. tt)
rests_not_bad method.GetPeers a id = both (needed id_of key.InfoHash (a (codes "info_hash"))) _ (needs id_of key.InfoHash (a (codes "info_hash"))) (λ x. tt)
rests_not_bad method.AnnouncePeer a id =
    both (needed id_of key.InfoHash (a (codes "info_hash"))) _ (needs id_of key.InfoHash (a (codes "info_hash"))) (λ h.
    both (needed bytes_of key.Token (a (codes "token"))) _ (needs bytes_of key.Token (a (codes "token"))) (λ t.
    both (port_by (a (codes "implied_port")) (a (codes "port"))) _ (ports (a (codes "implied_port")) (a (codes "port"))) (λ p. tt)))
rests_not_bad method.Get a id = both (needed id_of key.Target (a (codes "target"))) _ (needs id_of key.Target (a (codes "target"))) (λ x. tt)
rests_not_bad method.Put a id =
    both (needed bytes_of key.Token (a (codes "token"))) _ (needs bytes_of key.Token (a (codes "token"))) (λ t.
    both (needed Some key.V (a (codes "v"))) _ (needs Some key.V (a (codes "v"))) (λ v. tt))

pub asks_not_bad : (m : Option Method) (name : List ℕ) (a : Option Value) → NotBad (ask_by m name a)
asks_not_bad None name a = tt
asks_not_bad (Some m) name a = both (needed look_of key.A a) _ (needs look_of key.A a) (λ d. both (needed id_of key.Id (d (codes "id"))) _ (needs id_of key.Id (d (codes "id"))) (λ id. rests_not_bad m d id))

-- ---- what is read has a written form

port_there : (k : Key) (i : Option ℤ) → Gets (λ n. n ≢ 0) (of_kind k (port_in i))
port_there k None = tt
port_there k (Some (negsuc n)) = tt
port_there k (Some (pos n)) =
    elim (nat_le 1 n && nat_lt n 65536) as (λ b. (nat_le 1 n && nat_lt n 65536) ≡ b → Gets (λ m. m ≢ 0) (of_kind k (cond b (Some n) None))) [
      | true ↦ λ e. λ z. grind (arith, nat_tests)
      | false ↦ λ e. tt
    ] refl

needs_port : (k : Key) (o : Option Value) → Gets (λ n. n ≢ 0) (needed port_of k o)
needs_port k None = tt
needs_port k (Some v) = port_there k (integer_of v)

given_port : (i p : Option Value) → Gets IsGivenPort (port_by i p)
given_port i p =
    after Any IsGivenPort (optional integer_of key.ImpliedPort i) _ (any (optional integer_of key.ImpliedPort i)) (λ n u.
    gets_either IsGivenPort (is_implied n) (Ok Implied) (then (needed port_of key.Port p) (λ given. Ok (Given given))) tt
    (after (λ n. n ≢ 0) IsGivenPort (needed port_of key.Port p) (λ given. Ok (Given given)) (needs_port key.Port p) (λ given h. h)))

-- a query that puts no mutable item has a written form, with no proof at least
abbrev IsSaid : Ask → Type 0
IsSaid ask = is_mutable_ask ask ≡ false → IsWritableAsk None ask

rests_get : (m : Method) (a : Look) (id : Id) → SoundLook 2 a → Gets IsSaid (rest_at m a id)
rests_get method.Ping a id s = λ e. tt
rests_get method.FindNode a id s = after Any IsSaid (needed id_of key.Target (a (codes "target"))) _ (any (needed id_of key.Target (a (codes "target")))) (λ x u e. tt)
rests_get method.GetPeers a id s = after Any IsSaid (needed id_of key.InfoHash (a (codes "info_hash"))) _ (any (needed id_of key.InfoHash (a (codes "info_hash")))) (λ x u e. tt)
rests_get method.AnnouncePeer a id s =
    after Any IsSaid (needed id_of key.InfoHash (a (codes "info_hash"))) _ (any (needed id_of key.InfoHash (a (codes "info_hash")))) (λ h u.
    after Any IsSaid (needed bytes_of key.Token (a (codes "token"))) _ (any (needed bytes_of key.Token (a (codes "token")))) (λ t w.
    after IsGivenPort IsSaid (port_by (a (codes "implied_port")) (a (codes "port"))) _ (given_port (a (codes "implied_port")) (a (codes "port"))) (λ p g e. g)))
rests_get method.Get a id s = after Any IsSaid (needed id_of key.Target (a (codes "target"))) _ (any (needed id_of key.Target (a (codes "target")))) (λ x u e. tt)
rests_get method.Put a id s =
    after Any IsSaid (needed bytes_of key.Token (a (codes "token"))) _ (any (needed bytes_of key.Token (a (codes "token")))) (λ t u.
    after (IsSound 2) IsSaid (needed Some key.V (a (codes "v"))) _ (needs_any 2 key.V (a (codes "v")) (s (codes "v"))) (λ v h e. record { form = sound_form 2 v h; immutable = e }))

arguments_get : (m : Method) (a : Option Value) → SoundOption 1 a → Gets IsSaid (arguments_at m a)
arguments_get m a s =
    after (SoundLook 2) IsSaid (needed look_of key.A a) _ (needs_look (InList [] ∷ []) key.A a s) (λ ps h.
    after Any IsSaid (needed id_of key.Id (ps (codes "id"))) _ (any (needed id_of key.Id (ps (codes "id")))) (λ id w. rests_get m ps id h))

unknown : (name : List ℕ) → method_in name ≡ None → IsUnknown name
unknown name e = record {
  ping = λ h. none_some (sym e ∙ ap method_in h);
  find_node = λ h. none_some (sym e ∙ ap method_in h);
  get_peers = λ h. none_some (sym e ∙ ap method_in h);
  announce_peer = λ h. none_some (sym e ∙ ap method_in h);
  get = λ h. none_some (sym e ∙ ap method_in h);
  put = λ h. none_some (sym e ∙ ap method_in h);
}

pub asks_get : (m : Option Method) (name : List ℕ) (a : Option Value) → method_in name ≡ m → SoundOption 1 a → Gets (λ ask. is_mutable_ask ask ≡ false → IsWritableAsk None ask) (ask_by m name a)
asks_get None name a e s = λ n. record { unknown = unknown name e; no_proof = refl }
asks_get (Some m) name a e s = arguments_get m a s

-- ---- what is written is a value that bencode reads back, and is shallow

good_word : (said : Bool) (word : List ℕ) → AllByRecursion Good (word_if said word)
good_word true word = (good_text word, tt)
good_word false word = tt

good_words : (xs ys : List Value) → AllByRecursion Good xs → AllByRecursion Good ys → AllByRecursion Good (xs ++ ys)
good_words [] ys p q = q
good_words (x ∷ xs) ys p q = (p.0, good_words xs ys p.1 q)

good_want : (want : Want) → Good (want_value want)
good_want want =
    let four = word_if want.four (codes "n4") in
    let six = word_if want.six (codes "n6") in
    good_list (four ++ six) (good_words four six (good_word want.four (codes "n4")) (good_word want.six (codes "n6")))

-- arguments, and whose contacts are wanted
wanting : (ps : List (Pair Value)) (want : Want) → GoodPairs ps → each_once (keys_of ps) ≡ true → put_all [] ps ≡ ps → Below (codes "want") ps → Good (Dict (ps ++ want_pair want))
wanting ps want good once filed below =
    good_dict (ps ++ want_pair want)
    (good_more ps (want_pair want) good (good_maybe (codes "want") want_value (some_want want) good_want))
    (once_maybe ps (codes "want") want_value (some_want want) once below)
    (next_filed ps (codes "want") want_value (some_want want) filed below)

-- a target, with a proof before it or without
targeting : (proof : Option Proof) (id target : Id) (want : Want) → Good (Dict (two_ids id (proof_pair proof) (codes "target") target (want_pair want)))
targeting None id target want = wanting (pair (codes "id") (Text id.0) ++ pair (codes "target") (Text target.0)) want (good_text id.0, (good_text target.0, tt)) refl refl (refl, (refl, tt))
targeting (Some p) id target want =
    wanting (pair (codes "id") (Text id.0) ++ proof_pair (Some p) ++ pair (codes "target") (Text target.0)) want
    (good_text id.0, (good_text (proof_bytes (Some p)), (good_text target.0, tt))) refl refl (refl, (refl, (refl, tt)))

-- an info hash, in the same way
hashing : (proof : Option Proof) (id info_hash : Id) (want : Want) → Good (Dict (two_ids id [] (codes "info_hash") info_hash (proof_pair proof ++ want_pair want)))
hashing None id info_hash want = wanting (pair (codes "id") (Text id.0) ++ pair (codes "info_hash") (Text info_hash.0)) want (good_text id.0, (good_text info_hash.0, tt)) refl refl (refl, (refl, tt))
hashing (Some p) id info_hash want =
    wanting (pair (codes "id") (Text id.0) ++ pair (codes "info_hash") (Text info_hash.0) ++ proof_pair (Some p)) want
    (good_text id.0, (good_text info_hash.0, (good_text (proof_bytes (Some p)), tt))) refl refl (refl, (refl, (refl, tt)))

-- a port, in the same way
announcing : (proof : Option Proof) (id info_hash : Id) (port : Port) (token : List ℕ) → IsWellPort port → Good (Dict (announced proof id info_hash port token))
announcing None id info_hash (Given port) token w = good_dict (announced None id info_hash (Given port) token) (good_text id.0, (good_text info_hash.0, (good_int (pos port) (small port w), (good_text token, tt)))) refl refl
announcing (Some p) id info_hash (Given port) token w =
    good_dict (announced (Some p) id info_hash (Given port) token)
    (good_text id.0, (good_text info_hash.0, (good_int (pos port) (small port w), (good_text (proof_bytes (Some p)), (good_text token, tt))))) refl refl
announcing None id info_hash Implied token w = good_dict (announced None id info_hash Implied token) (good_text id.0, (good_int (pos 1) refl, (good_text info_hash.0, (good_int (pos 1) refl, (good_text token, tt))))) refl refl
announcing (Some p) id info_hash Implied token w =
    good_dict (announced (Some p) id info_hash Implied token)
    (good_text id.0, (good_int (pos 1) refl, (good_text info_hash.0, (good_int (pos 1) refl, (good_text (proof_bytes (Some p)), (good_text token, tt)))))) refl refl

-- a token and a value, in the same way
putting : (proof : Option Proof) (id : Id) (token v : List ℕ) → IsCarried v → Good (Dict (put_pairs proof id token v))
putting None id token v f = good_dict (put_pairs None id token v) (good_text id.0, (good_text token, (good_carried v f, tt))) refl refl
putting (Some p) id token v f = good_dict (put_pairs (Some p) id token v) (good_text id.0, (good_text (proof_bytes (Some p)), (good_text token, (good_carried v f, tt)))) refl refl

pub good_ask : (proof : Option Proof) (ask : Ask) → IsWellAsk ask → CarriesForm ask → Good (Dict (arguments_of proof ask))
good_ask None (Ping id) w f = good_dict (arguments_of None (Ping id)) (good_text id.0, tt) refl refl
good_ask (Some p) (Ping id) w f = good_dict (arguments_of (Some p) (Ping id)) (good_text id.0, (good_text (proof_bytes (Some p)), tt)) refl refl
good_ask proof (FindNode id target want) w f = targeting proof id target want
good_ask proof (GetPeers id info_hash want) w f = hashing proof id info_hash want
good_ask proof (AnnouncePeer id info_hash port token) w f = announcing proof id info_hash port token w.1.1
good_ask proof (Get id target want) w f = targeting proof id target want
good_ask proof (Put id token v mutable) w f = putting proof id token v f
good_ask proof (Other method) w f = good_dict [] tt refl refl

words_flat : (four six : Bool) → greatest (map depth_of (word_if four (codes "n4") ++ word_if six (codes "n6"))) ≤ 0
words_flat true true = let a = text_within 0 (codes "n4") in let b = text_within 0 (codes "n6") in omega arith
words_flat true false = let a = text_within 0 (codes "n4") in omega arith
words_flat false true = let b = text_within 0 (codes "n6") in omega arith
words_flat false false = grind arith

want_shallow : (want : Want) → depth_of (want_value want) ≤ 1
want_shallow want = let a = words_flat want.four want.six in let e = depth_of-list (word_if want.four (codes "n4") ++ word_if want.six (codes "n6")) in omega arith

want_within : (want : Want) → Within 14 (want_pair want)
want_within want = maybe_within 14 (codes "want") want_value (some_want want) (λ w. let a = want_shallow w in omega arith)

proof_within : (proof : Option Proof) → Within 14 (proof_pair proof)
proof_within proof = maybe_within 14 (codes "sk") proof_value proof (λ p. text_within 14 (proof_bytes (Some p)))

-- pairs, a proof, and a pair behind it
around : (proof : Option Proof) (ps qs : List (Pair Value)) → Within 14 ps → Within 14 qs → Within 14 (ps ++ proof_pair proof ++ qs)
around proof ps qs p q = more 14 (ps ++ proof_pair proof) qs (more 14 ps (proof_pair proof) p (proof_within proof)) q

target_within : (proof : Option Proof) (id target : Id) (want : Want) → Within 14 (two_ids id (proof_pair proof) (codes "target") target (want_pair want))
target_within proof id target want =
    let i = pair (codes "id") (Text id.0) in
    let t = pair (codes "target") (Text target.0) in
    more 14 (i ++ proof_pair proof ++ t) (want_pair want) (around proof i t (text_within 14 id.0, tt) (text_within 14 target.0, tt)) (want_within want)

pub ask_within : (proof : Option Proof) (ask : Ask) → CarriesForm ask → Within 14 (arguments_of proof ask)
ask_within proof (Ping id) f = more 14 (pair (codes "id") (Text id.0)) (proof_pair proof) (text_within 14 id.0, tt) (proof_within proof)
ask_within proof (FindNode id target want) f = target_within proof id target want
ask_within proof (GetPeers id info_hash want) f =
    more 14 (two_ids id [] (codes "info_hash") info_hash []) (proof_pair proof ++ want_pair want) (text_within 14 id.0, (text_within 14 info_hash.0, tt))
    (more 14 (proof_pair proof) (want_pair want) (proof_within proof) (want_within want))
ask_within proof (AnnouncePeer id info_hash (Given port) token) f =
    around proof (pair (codes "id") (Text id.0) ++ pair (codes "info_hash") (Text info_hash.0) ++ pair (codes "port") (Int (pos port))) (pair (codes "token") (Text token))
    (text_within 14 id.0, (text_within 14 info_hash.0, (int_within 14 (pos port), tt))) (text_within 14 token, tt)
ask_within proof (AnnouncePeer id info_hash Implied token) f =
    around proof (pair (codes "id") (Text id.0) ++ pair (codes "implied_port") (Int (pos 1)) ++ pair (codes "info_hash") (Text info_hash.0) ++ pair (codes "port") (Int (pos 1))) (pair (codes "token") (Text token))
    (text_within 14 id.0, (int_within 14 (pos 1), (text_within 14 info_hash.0, (int_within 14 (pos 1), tt)))) (text_within 14 token, tt)
ask_within proof (Get id target want) f = target_within proof id target want
ask_within proof (Put id token v mutable) f =
    more 14 (pair (codes "id") (Text id.0) ++ proof_pair proof ++ pair (codes "token") (Text token)) (pair (codes "v") (named v))
    (around proof (pair (codes "id") (Text id.0)) (pair (codes "token") (Text token)) (text_within 14 id.0, tt) (text_within 14 token, tt)) (carried_within v f, tt)
ask_within proof (Other method) f = tt

-- ---- what is written is read back

port_int : (p : ℕ) → p ≢ 0 → p < 65536 → port_of (Int (pos p)) ≡ Some p
port_int p n h =
    let one : 1 ≤ p = omega (arith, λ (e : p ≡ 0). n e) in
    ap port_in (integer_int (pos p)) ∙ (λ i. cond (le-leb 1 p one i && lt-ltb p 65536 h i) (Some p) None)

given_back : (p : ℕ) → p ≢ 0 → p < 65536 → port_by None (Some (Int (pos p))) ≡ Ok (Given p)
given_back p n h = ap (λ s. then s (λ given. Ok (Given given))) (had port_of key.Port (Int (pos p)) p (port_int p n h))

implied_back : (v : Option Value) → port_by (Some (Int (pos 1))) v ≡ Ok Implied
implied_back v = ap (λ (s : Step (Option ℤ)). then s (λ implied. cond (is_implied implied) (Ok Implied) (then (needed port_of key.Port v) (λ given. Ok (Given given))))) (had_some integer_of key.ImpliedPort (Int (pos 1)) (pos 1) (integer_int (pos 1)))

no_method : (name : List ℕ) → IsUnknown name → method_in name ≡ None
no_method name u =
    (λ i. cond (differs name (codes "ping") u.ping i) (Some method.Ping)
    (cond (differs name (codes "find_node") u.find_node i) (Some method.FindNode)
    (cond (differs name (codes "get_peers") u.get_peers i) (Some method.GetPeers)
    (cond (differs name (codes "announce_peer") u.announce_peer i) (Some method.AnnouncePeer)
    (cond (differs name (codes "get") u.get i) (Some method.Get)
    (cond (differs name (codes "put") u.put i) (Some method.Put) None))))))

-- the words of a list that is written
named_back : (word : List ℕ) (four six : Bool) (r : Bool) → list_any (is_word word) (word_if four (codes "n4") ++ word_if six (codes "n6")) ≡ r → names word (want_value (record { four = four; six = six })) ≡ r
named_back word four six r e = ap (is_named word) (list_list (word_if four (codes "n4") ++ word_if six (codes "n6"))) ∙ e

word_is : (word s : List ℕ) → is_word word (Text s) ≡ bytes_eq s word
word_is word s = ap (is_text word) (bytes_text s)

-- whose contacts are wanted is read back
want_back : (four six : Bool) → want_of (option_map want_value (some_want (record { four = four; six = six }))) ≡ record { four = four; six = six }
want_back true true = (λ i. record {
  four = named_back (codes "n4") true true true (λ j. word_is (codes "n4") (codes "n4") j || list_any (is_word (codes "n4")) (Text (codes "n6") ∷ [])) i;
  six = named_back (codes "n6") true true true (λ j. word_is (codes "n6") (codes "n4") j || (word_is (codes "n6") (codes "n6") j || false)) i;
})
want_back true false = (λ i. record {
  four = named_back (codes "n4") true false true (λ j. word_is (codes "n4") (codes "n4") j || false) i;
  six = named_back (codes "n6") true false false (λ j. word_is (codes "n6") (codes "n4") j || false) i;
})
want_back false true = (λ i. record {
  four = named_back (codes "n4") false true false (λ j. word_is (codes "n4") (codes "n6") j || false) i;
  six = named_back (codes "n6") false true true (λ j. word_is (codes "n6") (codes "n6") j || false) i;
})
want_back false false = refl

-- what a query asks that brings no proof
bare_back : (ask : Ask) → IsWellAsk ask → IsWritableAsk None ask → ask_of (name_of ask) (Some (Dict (arguments_of None ask))) ≡ Ok ask
bare_back (Ping id) w n =
    stepped _ (value_of (arguments_of None (Ping id))) _ _ (had look_of key.A _ _ (look_dict (arguments_of None (Ping id))))
    (stepped _ id _ _ (had id_of key.Id _ _ (id_text id w)) refl)
bare_back (FindNode id target want) w n =
    stepped _ (value_of (arguments_of None (FindNode id target want))) _ _ (had look_of key.A _ _ (look_dict (arguments_of None (FindNode id target want))))
    (stepped _ id _ _ (had id_of key.Id _ _ (id_text id w.0))
    (stepped _ target _ _ (had id_of key.Target _ _ (id_text target w.1)) (ap (λ o. Ok (FindNode id target (want_of o))) (hit want_value (some_want want) (codes "want") refl) ∙ ap (λ x. Ok (FindNode id target x)) (want_back want.four want.six))))
bare_back (GetPeers id info_hash want) w n =
    stepped _ (value_of (arguments_of None (GetPeers id info_hash want))) _ _ (had look_of key.A _ _ (look_dict (arguments_of None (GetPeers id info_hash want))))
    (stepped _ id _ _ (had id_of key.Id _ _ (id_text id w.0))
    (stepped _ info_hash _ _ (had id_of key.InfoHash _ _ (id_text info_hash w.1)) (ap (λ o. Ok (GetPeers id info_hash (want_of o))) (hit want_value (some_want want) (codes "want") refl) ∙ ap (λ x. Ok (GetPeers id info_hash x)) (want_back want.four want.six))))
bare_back (AnnouncePeer id info_hash (Given port) token) w n =
    stepped _ (value_of (arguments_of None (AnnouncePeer id info_hash (Given port) token))) _ _ (had look_of key.A _ _ (look_dict (arguments_of None (AnnouncePeer id info_hash (Given port) token))))
    (stepped _ id _ _ (had id_of key.Id _ _ (id_text id w.0))
    (stepped _ info_hash _ _ (had id_of key.InfoHash _ _ (id_text info_hash w.1.0))
    (stepped _ token _ _ (had bytes_of key.Token _ _ (bytes_text token))
    (stepped _ (Given port) (λ p. Ok (AnnouncePeer id info_hash p token)) _ (given_back port n w.1.1) refl))))
bare_back (AnnouncePeer id info_hash Implied token) w n =
    stepped _ (value_of (arguments_of None (AnnouncePeer id info_hash Implied token))) _ _ (had look_of key.A _ _ (look_dict (arguments_of None (AnnouncePeer id info_hash Implied token))))
    (stepped _ id _ _ (had id_of key.Id _ _ (id_text id w.0))
    (stepped _ info_hash _ _ (had id_of key.InfoHash _ _ (id_text info_hash w.1.0))
    (stepped _ token _ _ (had bytes_of key.Token _ _ (bytes_text token))
    (stepped _ Implied (λ p. Ok (AnnouncePeer id info_hash p token)) _ (implied_back (value_of (arguments_of None (AnnouncePeer id info_hash Implied token)) (codes "port"))) refl))))
bare_back (Get id target want) w n =
    stepped _ (value_of (arguments_of None (Get id target want))) _ _ (had look_of key.A _ _ (look_dict (arguments_of None (Get id target want))))
    (stepped _ id _ _ (had id_of key.Id _ _ (id_text id w.0))
    (stepped _ target _ _ (had id_of key.Target _ _ (id_text target w.1)) (ap (λ o. Ok (Get id target (want_of o))) (hit want_value (some_want want) (codes "want") refl) ∙ ap (λ x. Ok (Get id target x)) (want_back want.four want.six))))
bare_back (Put id token v mutable) w n =
    stepped _ (value_of (put_pairs None id token v)) _ _ (had look_of key.A _ _ (look_dict (put_pairs None id token v)))
    (stepped _ id _ _ (had id_of key.Id _ _ (id_text id w))
    (stepped _ token _ _ (had bytes_of key.Token _ _ (bytes_text token))
    (λ i. Ok (Put id token (named_text 2 v n.form i) (sym n.immutable i)))))
bare_back (Other name) w n = ap (λ m. ask_by m name (Some (Dict []))) (no_method name n.unknown)

-- no step looks at the key of a proof
arguments_are : (m : Method) (ps : List (Pair Value)) (r : Step Ask) → then (needed id_of key.Id (value_of ps (codes "id"))) (λ id. rest_at m (value_of ps) id) ≡ r → arguments_at m (Some (Dict ps)) ≡ r
arguments_are m ps r e = stepped _ (value_of ps) _ _ (had look_of key.A _ _ (look_dict ps)) e

same_ask : (p : Proof) (ask : Ask) → IsWritableAsk (Some p) ask → ask_of (name_of ask) (Some (Dict (arguments_of (Some p) ask))) ≡ ask_of (name_of ask) (Some (Dict (arguments_of None ask)))
same_ask p (Ping id) n = arguments_are method.Ping (arguments_of (Some p) (Ping id)) _ (sym (arguments_are method.Ping (arguments_of None (Ping id)) _ refl))
same_ask p (FindNode id target want) n = arguments_are method.FindNode (arguments_of (Some p) (FindNode id target want)) _ (sym (arguments_are method.FindNode (arguments_of None (FindNode id target want)) _ refl))
same_ask p (GetPeers id info_hash want) n = arguments_are method.GetPeers (arguments_of (Some p) (GetPeers id info_hash want)) _ (sym (arguments_are method.GetPeers (arguments_of None (GetPeers id info_hash want)) _ refl))
same_ask p (AnnouncePeer id info_hash (Given port) token) n = arguments_are method.AnnouncePeer (announced (Some p) id info_hash (Given port) token) _ (sym (arguments_are method.AnnouncePeer (announced None id info_hash (Given port) token) _ refl))
same_ask p (AnnouncePeer id info_hash Implied token) n = arguments_are method.AnnouncePeer (announced (Some p) id info_hash Implied token) _ (sym (arguments_are method.AnnouncePeer (announced None id info_hash Implied token) _ refl))
same_ask p (Get id target want) n = arguments_are method.Get (arguments_of (Some p) (Get id target want)) _ (sym (arguments_are method.Get (arguments_of None (Get id target want)) _ refl))
same_ask p (Put id token v mutable) n = arguments_are method.Put (put_pairs (Some p) id token v) _ (sym (arguments_are method.Put (put_pairs None id token v) _ refl))
same_ask p (Other name) n = refl

-- a query without its proof has a written form too
without_proof : (proof : Option Proof) (ask : Ask) → IsWritableAsk proof ask → IsWritableAsk None ask
without_proof proof (Ping id) n = tt
without_proof proof (FindNode id target want) n = tt
without_proof proof (GetPeers id info_hash want) n = tt
without_proof proof (AnnouncePeer id info_hash port token) n = n
without_proof proof (Get id target want) n = tt
without_proof proof (Put id token v mutable) n = n
without_proof proof (Other name) n = record { unknown = n.unknown; no_proof = refl }

pub ask_back : (proof : Option Proof) (ask : Ask) → IsWellAsk ask → IsWritableAsk proof ask → ask_of (name_of ask) (Some (Dict (arguments_of proof ask))) ≡ Ok ask
ask_back None ask w n = bare_back ask w n
ask_back (Some p) ask w n = same_ask p ask n ∙ bare_back ask w (without_proof (Some p) ask n)

-- ---- the proof that a query brings

sk_read : (ps : List (Pair Value)) (r : Option Proof) → proof_by (value_of ps (codes "sk")) ≡ r → proof_of (Some (Dict ps)) ≡ r
sk_read ps r e = ap proof_by (dict_is (λ y. member_in y (codes "sk")) ps) ∙ e

-- the value of a written proof
written_proof : (p : Proof) → IsWellProof (Some p) → proof_by (Some (proof_value p)) ≡ Some p
written_proof p w =
    let one = proof_one p w in
    ap proof_from (bytes_text (proof_bytes (Some p)))
    ∙ ap (λ b. cond b (Some (proof_at 0 (proof_bytes (Some p)))) None) (eq-eqb (length (proof_bytes (Some p))) 52 one.0)
    ∙ ap Some one.1

no_sk : (want : Want) → value_of (want_pair want) (codes "sk") ≡ None
no_sk want = missed (codes "want") want_value (some_want want) (codes "sk") refl

pub proof_back : (proof : Option Proof) (ask : Ask) → IsWellProof proof → IsWritableAsk proof ask → proof_of (arguments_read ask (Some (Dict (arguments_of proof ask)))) ≡ proof
proof_back None (Ping id) w n = sk_read (arguments_of None (Ping id)) _ refl
proof_back None (FindNode id target want) w n = sk_read (arguments_of None (FindNode id target want)) _ (ap proof_by (no_sk want))
proof_back None (GetPeers id info_hash want) w n = sk_read (arguments_of None (GetPeers id info_hash want)) _ (ap proof_by (no_sk want))
proof_back None (AnnouncePeer id info_hash (Given port) token) w n = sk_read (announced None id info_hash (Given port) token) _ refl
proof_back None (AnnouncePeer id info_hash Implied token) w n = sk_read (announced None id info_hash Implied token) _ refl
proof_back None (Get id target want) w n = sk_read (arguments_of None (Get id target want)) _ (ap proof_by (no_sk want))
proof_back None (Put id token v mutable) w n = sk_read (put_pairs None id token v) _ refl
proof_back (Some p) (Ping id) w n = sk_read (arguments_of (Some p) (Ping id)) _ (written_proof p w)
proof_back (Some p) (FindNode id target want) w n = sk_read (arguments_of (Some p) (FindNode id target want)) _ (written_proof p w)
proof_back (Some p) (GetPeers id info_hash want) w n = sk_read (arguments_of (Some p) (GetPeers id info_hash want)) _ (written_proof p w)
proof_back (Some p) (AnnouncePeer id info_hash (Given port) token) w n = sk_read (announced (Some p) id info_hash (Given port) token) _ (written_proof p w)
proof_back (Some p) (AnnouncePeer id info_hash Implied token) w n = sk_read (announced (Some p) id info_hash Implied token) _ (written_proof p w)
proof_back (Some p) (Get id target want) w n = sk_read (arguments_of (Some p) (Get id target want)) _ (written_proof p w)
proof_back (Some p) (Put id token v mutable) w n = sk_read (put_pairs (Some p) id token v) _ (written_proof p w)
proof_back proof (Other name) w n = sym n.no_proof
