-- What an answer's dictionary is, by each law of a message: a key more is a line in each.
use Rattle.std.proofs.Common.{◌≡◌, ℕ, ◌<◌, ◌≤◌, true, false, cond, List, [], ◌∷◌, ◌++◌, map, length, is_eq, Option, Some, None, Ok, refl, ap, ◌∙◌, nat_eq, eq-eqb, arith}
use Rattle.std.specs.Prelude.{codes, flat_map, option_to_list, option_map, IfSome}
use Rattle.std.specs.List.{AllByRecursion}
use Rattle.kad_base.specs.declared.types.Addr.{Addr}
use Rattle.kad_base.specs.declared.types.Family.{Family}
use Rattle.kad_base.specs.declared.types.Family.TheVariants.{Four, Six}
use Rattle.kad_base.specs.declared.types.Ip.{Ip}
use Rattle.kad_base.specs.declared.types.Ip.TheVariants.{V4, V6}
use Rattle.kad_base.specs.declared.types.Contact.{Contact}
use Rattle.kad_base.specs.declared.types.Report.{Report}
use Rattle.kad_bencode.specs.Keys.{key_cmp, keys_of, value_of}
use Rattle.kad_bencode.specs.Parts.{bytes_of, list_of}
use Rattle.kad_bencode.specs.Naming.{named}
use Rattle.kad_bencode.specs.Spelling.{depth_of, greatest, each_once, put_all, text_of}
use Rattle.kad_bencode.specs.declared.entries.Pair.{Pair}
use Rattle.kad_bencode.specs.declared.value.Value.{Value}
use Rattle.kad_bencode.specs.declared.value.Value.TheVariants.{Text, Dict}
use Rattle.kad_bencode.proofs.Folds.{depth_of-list}
use Rattle.kad_bencode.proofs.Formed.{sound_form, named_text}
use Rattle.std.specs.declared.cmp.Ordering.TheVariants.{Greater}
use Rattle.kad_krpc.specs.declared.message.Answer.{Answer}
use Rattle.kad_krpc.specs.declared.message.Key.{Key}
use Rattle.kad_krpc.specs.declared.message.Key.TheVariants as key
use Rattle.kad_records.specs.Records.{addr_bytes, ip_bytes, port_bytes, node_bytes, proved_bytes, nodes_bytes, snodes_bytes, peers_value, node_in, proved_in, addr_at, IsNodeOf, IsProvedOf, IsWellContact, IsWellReport, IsWellAddr}
use Rattle.kad_records.proofs.Cut.{node_size, proved_size, node_one, proved_one, addr_one, cut_apart, whole_records}
use Rattle.kad_krpc.specs.Fields.{Look, needed, optional, id_of, records_by, peer_of, peer_in, IsCarried, pair, maybe, Each}
use Rattle.kad_krpc.specs.Answering.{nodes_by, snodes_by, nodes6_by, snodes6_by, values_by, answer_by, answer_at, nodes_value, snodes_value, answer_pairs, BearsForm, IsWritableAnswer, IsWellAnswer}
use Rattle.kad_krpc.proofs.Stepping.{NotBad, both, needs, options, strings, Gets, Any, any, after, gets_strings, bytes_text, list_list, id_text, stepped, had, had_some, strings_back}
use Rattle.kad_krpc.proofs.Carried.{SoundLook, SoundOption}
use Rattle.kad_krpc.proofs.Pairing.{Below, below_more, below_maybe, Good, good_text, good_list, good_dict, GoodPairs, good_more, good_maybe, good_form, once_maybe, next_filed, Within, more, text_within, maybe_within, form_within, or_else, looked, missed, hit, or_none}

-- ---- no step of it fails as bencode does

answer_not_bad_by : (i n s m z t x v : Option Value) → NotBad (answer_by i n s m z t x v)
answer_not_bad_by i n s m z t x v =
    both (needed id_of key.Id i) _ (needs id_of key.Id i) (λ id.
    both (nodes_by n) _ (strings 26 (node_in Four) key.Nodes n) (λ nodes.
    both (snodes_by s) _ (strings 78 (proved_in Four) key.Snodes s) (λ snodes.
    both (nodes6_by m) _ (strings 38 (node_in Six) key.Nodes6 m) (λ nodes6.
    both (snodes6_by z) _ (strings 90 (proved_in Six) key.Snodes6 z) (λ snodes6.
    both (optional bytes_of key.Token t) _ (options bytes_of key.Token t) (λ token.
    both (values_by v) _ (both (optional list_of key.Values v) _ (options list_of key.Values v) (λ vs. tt)) (λ values. tt)))))))

pub answer_not_bad : (r : Look) → NotBad (answer_at r)
answer_not_bad r = answer_not_bad_by (r (codes "id")) (r (codes "nodes")) (r (codes "snodes")) (r (codes "nodes6")) (r (codes "snodes6")) (r (codes "token")) (r (codes "v")) (r (codes "values"))

-- ---- what is read has a written form

form_there : (o : Option Value) → SoundOption 2 o → IfSome (option_map text_of o) IsCarried
form_there None s = tt
form_there (Some v) s = sound_form 2 v (s v refl)

answer_gets_by : (i n s m z t x v : Option Value) → SoundOption 2 x → Gets IsWritableAnswer (answer_by i n s m z t x v)
answer_gets_by i n s m z t x v sound =
    after Any IsWritableAnswer (needed id_of key.Id i) _ (any (needed id_of key.Id i)) (λ id u.
    after (Each (IsNodeOf Four)) IsWritableAnswer (nodes_by n) _ (gets_strings (IsNodeOf Four) 26 (node_in Four) key.Nodes (λ b. tt) n) (λ nodes hn.
    after (Each (IsProvedOf Four)) IsWritableAnswer (snodes_by s) _ (gets_strings (IsProvedOf Four) 78 (proved_in Four) key.Snodes (λ b. (tt, tt)) s) (λ snodes hs.
    after (Each (IsNodeOf Six)) IsWritableAnswer (nodes6_by m) _ (gets_strings (IsNodeOf Six) 38 (node_in Six) key.Nodes6 (λ b. tt) m) (λ nodes6 hm.
    after (Each (IsProvedOf Six)) IsWritableAnswer (snodes6_by z) _ (gets_strings (IsProvedOf Six) 90 (proved_in Six) key.Snodes6 (λ b. (tt, tt)) z) (λ snodes6 hz.
    after Any IsWritableAnswer (optional bytes_of key.Token t) _ (any (optional bytes_of key.Token t)) (λ token w.
    after Any IsWritableAnswer (values_by v) _ (any (values_by v)) (λ values u. record { nodes = hn; snodes = hs; nodes6 = hm; snodes6 = hz; v = form_there x sound })))))))

pub answer_gets : (r : Look) → SoundLook 2 r → Gets IsWritableAnswer (answer_at r)
answer_gets r sound = answer_gets_by (r (codes "id")) (r (codes "nodes")) (r (codes "snodes")) (r (codes "nodes6")) (r (codes "snodes6")) (r (codes "token")) (r (codes "v")) (r (codes "values")) (sound (codes "v"))

-- ---- what is written is a value that bencode reads back, and is shallow

module _ (a : Answer) where
  abbrev pub one : List (Pair Value)
  one = pair (codes "id") (Text a.id.0)

  abbrev pub two : List (Pair Value)
  two = one ++ maybe (codes "nodes") nodes_value a.nodes

  abbrev pub three : List (Pair Value)
  three = two ++ maybe (codes "nodes6") nodes_value a.nodes6

  abbrev pub four : List (Pair Value)
  four = three ++ maybe (codes "snodes") snodes_value a.snodes

  abbrev pub five : List (Pair Value)
  five = four ++ maybe (codes "snodes6") snodes_value a.snodes6

  abbrev pub six : List (Pair Value)
  six = five ++ maybe (codes "token") Text a.token

  abbrev pub seven : List (Pair Value)
  seven = six ++ maybe (codes "v") named a.v

  -- a key is above those that a front of them has
  below_two : (key : List ℕ) → key_cmp key (codes "id") ≡ Greater → key_cmp key (codes "nodes") ≡ Greater → Below key two
  below_two key i n = below_more key one (maybe (codes "nodes") nodes_value a.nodes) (i, tt) (below_maybe key (codes "nodes") nodes_value a.nodes n)

  below_three : (key : List ℕ) → Below key two → key_cmp key (codes "nodes6") ≡ Greater → Below key three
  below_three key b m = below_more key two (maybe (codes "nodes6") nodes_value a.nodes6) b (below_maybe key (codes "nodes6") nodes_value a.nodes6 m)

  below_four : (key : List ℕ) → Below key three → key_cmp key (codes "snodes") ≡ Greater → Below key four
  below_four key b s = below_more key three (maybe (codes "snodes") snodes_value a.snodes) b (below_maybe key (codes "snodes") snodes_value a.snodes s)

  below_five : (key : List ℕ) → Below key four → key_cmp key (codes "snodes6") ≡ Greater → Below key five
  below_five key b z = below_more key four (maybe (codes "snodes6") snodes_value a.snodes6) b (below_maybe key (codes "snodes6") snodes_value a.snodes6 z)

  below_six : (key : List ℕ) → Below key five → key_cmp key (codes "token") ≡ Greater → Below key six
  below_six key b t = below_more key five (maybe (codes "token") Text a.token) b (below_maybe key (codes "token") Text a.token t)

  nodes6_last : Below (codes "nodes6") two
  nodes6_last = below_two (codes "nodes6") refl refl

  snodes_last : Below (codes "snodes") three
  snodes_last = below_three (codes "snodes") (below_two (codes "snodes") refl refl) refl

  snodes6_last : Below (codes "snodes6") four
  snodes6_last = below_four (codes "snodes6") (below_three (codes "snodes6") (below_two (codes "snodes6") refl refl) refl) refl

  token_last : Below (codes "token") five
  token_last = below_five (codes "token") (below_four (codes "token") (below_three (codes "token") (below_two (codes "token") refl refl) refl) refl) refl

  v_last : Below (codes "v") six
  v_last = below_six (codes "v") (below_five (codes "v") (below_four (codes "v") (below_three (codes "v") (below_two (codes "v") refl refl) refl) refl) refl) refl

  values_last : Below (codes "values") seven
  values_last =
      below_more (codes "values") six (maybe (codes "v") named a.v)
      (below_six (codes "values") (below_five (codes "values") (below_four (codes "values") (below_three (codes "values") (below_two (codes "values") refl refl) refl) refl) refl) refl)
      (below_maybe (codes "values") (codes "v") named a.v refl)

good_peers : (peers : List Addr) → AllByRecursion Good (map (λ peer. Text (addr_bytes peer)) peers)
good_peers [] = tt
good_peers (p ∷ ps) = (good_text (addr_bytes p), good_peers ps)

good_answer : (a : Answer) → BearsForm a → GoodPairs (answer_pairs a)
good_answer a f =
    good_more (seven a) (maybe (codes "values") peers_value a.values)
    (good_more (six a) (maybe (codes "v") named a.v)
    (good_more (five a) (maybe (codes "token") Text a.token)
    (good_more (four a) (maybe (codes "snodes6") snodes_value a.snodes6)
    (good_more (three a) (maybe (codes "snodes") snodes_value a.snodes)
    (good_more (two a) (maybe (codes "nodes6") nodes_value a.nodes6)
    (good_more (one a) (maybe (codes "nodes") nodes_value a.nodes)
    (good_text a.id.0, tt)
    (good_maybe (codes "nodes") nodes_value a.nodes (λ x. good_text _)))
    (good_maybe (codes "nodes6") nodes_value a.nodes6 (λ x. good_text _)))
    (good_maybe (codes "snodes") snodes_value a.snodes (λ x. good_text _)))
    (good_maybe (codes "snodes6") snodes_value a.snodes6 (λ x. good_text _)))
    (good_maybe (codes "token") Text a.token good_text))
    (good_form (codes "v") a.v f))
    (good_maybe (codes "values") peers_value a.values (λ x. good_list (map (λ peer. Text (addr_bytes peer)) x) (good_peers x)))

once_answer : (a : Answer) → each_once (keys_of (answer_pairs a)) ≡ true
once_answer a =
    once_maybe (seven a) (codes "values") peers_value a.values
    (once_maybe (six a) (codes "v") named a.v
    (once_maybe (five a) (codes "token") Text a.token
    (once_maybe (four a) (codes "snodes6") snodes_value a.snodes6
    (once_maybe (three a) (codes "snodes") snodes_value a.snodes
    (once_maybe (two a) (codes "nodes6") nodes_value a.nodes6
    (once_maybe (one a) (codes "nodes") nodes_value a.nodes refl (refl, tt))
    (nodes6_last a))
    (snodes_last a))
    (snodes6_last a))
    (token_last a))
    (v_last a))
    (values_last a)

filed_answer : (a : Answer) → put_all [] (answer_pairs a) ≡ answer_pairs a
filed_answer a =
    next_filed (seven a) (codes "values") peers_value a.values
    (next_filed (six a) (codes "v") named a.v
    (next_filed (five a) (codes "token") Text a.token
    (next_filed (four a) (codes "snodes6") snodes_value a.snodes6
    (next_filed (three a) (codes "snodes") snodes_value a.snodes
    (next_filed (two a) (codes "nodes6") nodes_value a.nodes6
    (next_filed (one a) (codes "nodes") nodes_value a.nodes refl (refl, tt))
    (nodes6_last a))
    (snodes_last a))
    (snodes6_last a))
    (token_last a))
    (v_last a))
    (values_last a)

pub good_answer_dict : (a : Answer) → BearsForm a → Good (Dict (answer_pairs a))
good_answer_dict a f = good_dict (answer_pairs a) (good_answer a f) (once_answer a) (filed_answer a)

peers_flat : (peers : List Addr) → greatest (map depth_of (map (λ peer. Text (addr_bytes peer)) peers)) ≤ 0
peers_flat [] = grind arith
peers_flat (p ∷ ps) = let a = text_within 0 (addr_bytes p) in let b = peers_flat ps in omega arith

peers_within : (peers : List Addr) → depth_of (peers_value peers) ≤ 1
peers_within peers = let a = peers_flat peers in let e = depth_of-list (map (λ peer. Text (addr_bytes peer)) peers) in omega arith

pub answer_within : (a : Answer) → BearsForm a → Within 14 (answer_pairs a)
answer_within a f =
    more 14 (seven a) (maybe (codes "values") peers_value a.values)
    (more 14 (six a) (maybe (codes "v") named a.v)
    (more 14 (five a) (maybe (codes "token") Text a.token)
    (more 14 (four a) (maybe (codes "snodes6") snodes_value a.snodes6)
    (more 14 (three a) (maybe (codes "snodes") snodes_value a.snodes)
    (more 14 (two a) (maybe (codes "nodes6") nodes_value a.nodes6)
    (more 14 (one a) (maybe (codes "nodes") nodes_value a.nodes)
    (text_within 14 a.id.0, tt)
    (maybe_within 14 (codes "nodes") nodes_value a.nodes (λ x. text_within 14 _)))
    (maybe_within 14 (codes "nodes6") nodes_value a.nodes6 (λ x. text_within 14 _)))
    (maybe_within 14 (codes "snodes") snodes_value a.snodes (λ x. text_within 14 _)))
    (maybe_within 14 (codes "snodes6") snodes_value a.snodes6 (λ x. text_within 14 _)))
    (maybe_within 14 (codes "token") Text a.token (λ x. text_within 14 x)))
    (form_within (codes "v") a.v f))
    (maybe_within 14 (codes "values") peers_value a.values (λ x. let p = peers_within x in omega arith))

-- ---- what is written is read back

one_nodes : (f : Family) (nodes : List Contact) → AllByRecursion IsWellContact nodes → AllByRecursion (IsNodeOf f) nodes → AllByRecursion (λ c. (length (node_bytes c) ≡ node_size f) × (node_in f (node_bytes c) ≡ c)) nodes
one_nodes f [] w n = tt
one_nodes f (c ∷ cs) w n = (node_one f c w.0 n.0, one_nodes f cs w.1 n.1)

one_snodes : (f : Family) (snodes : List Report) → AllByRecursion IsWellReport snodes → AllByRecursion (IsProvedOf f) snodes → AllByRecursion (λ r. (length (proved_bytes r) ≡ proved_size f) × (proved_in f (proved_bytes r) ≡ r)) snodes
one_snodes f [] w n = tt
one_snodes f (r ∷ rs) w n = (proved_one f r w.0 n.0, one_snodes f rs w.1 n.1)

nodes_back : (f : Family) (k : Key) (some : 0 < node_size f) (nodes : Option (List Contact)) → Each IsWellContact nodes → Each (IsNodeOf f) nodes → records_by (node_size f) (node_in f) k (option_map nodes_value nodes) ≡ Ok nodes
nodes_back f k some None w n = refl
nodes_back f k some (Some nodes) w n =
    let each = one_nodes f nodes w n in
    strings_back (node_size f) (node_in f) k (nodes_bytes nodes) nodes (whole_records (node_size f) some node_bytes (node_in f) nodes each) (cut_apart (node_size f) some node_bytes (node_in f) nodes each)

snodes_back : (f : Family) (k : Key) (some : 0 < proved_size f) (snodes : Option (List Report)) → Each IsWellReport snodes → Each (IsProvedOf f) snodes → records_by (proved_size f) (proved_in f) k (option_map snodes_value snodes) ≡ Ok snodes
snodes_back f k some None w n = refl
snodes_back f k some (Some snodes) w n =
    let each = one_snodes f snodes w n in
    strings_back (proved_size f) (proved_in f) k (snodes_bytes snodes) snodes (whole_records (proved_size f) some proved_bytes (proved_in f) snodes each) (cut_apart (proved_size f) some proved_bytes (proved_in f) snodes each)

token_back : (token : Option (List ℕ)) → optional bytes_of key.Token (option_map Text token) ≡ Ok token
token_back None = refl
token_back (Some token) = had_some bytes_of key.Token _ _ (bytes_text token)

one_peer : (ip : Ip) (p : ℕ) → IsWellAddr (record { ip = ip; port = p }) → peer_of (ip_bytes ip ++ port_bytes p) ≡ Some (record { ip = ip; port = p })
one_peer (V4 b) p w =
    let a : Addr = record { ip = V4 b; port = p } in
    let this = addr_one Four a w tt in
    ap (λ t. cond t (Some (addr_at Four 0 (addr_bytes a))) (cond (nat_eq (length (addr_bytes a)) 18) (Some (addr_at Six 0 (addr_bytes a))) None)) (eq-eqb (length (addr_bytes a)) 6 this.0) ∙ ap Some this.1
one_peer (V6 b) p w =
    let a : Addr = record { ip = V6 b; port = p } in
    let this = addr_one Six a w tt in
    ap (λ n. cond (nat_eq n 6) (Some (addr_at Four 0 (addr_bytes a))) (cond (nat_eq n 18) (Some (addr_at Six 0 (addr_bytes a))) None)) this.0 ∙ ap Some this.1

peers_back : (peers : List Addr) → AllByRecursion IsWellAddr peers → flat_map (λ v. option_to_list (peer_in (bytes_of v))) (map (λ peer. Text (addr_bytes peer)) peers) ≡ peers
peers_back [] w = refl
peers_back (a ∷ rest) w =
    let here : peer_in (bytes_of (Text (addr_bytes a))) ≡ Some a = ap peer_in (bytes_text (addr_bytes a)) ∙ one_peer a.ip a.port w.0 in
    (λ i. option_to_list (here i) ++ peers_back rest w.1 i)

values_back : (values : Option (List Addr)) → Each IsWellAddr values → values_by (option_map peers_value values) ≡ Ok values
values_back None w = refl
values_back (Some values) w =
    stepped _ (Some (map (λ peer. Text (addr_bytes peer)) values)) _ _ (had_some list_of key.Values _ _ (list_list (map (λ peer. Text (addr_bytes peer)) values)))
    (ap (λ l. Ok (Some l)) (peers_back values w))

form_back : (v : Option (List ℕ)) → IfSome v IsCarried → option_map text_of (option_map named v) ≡ v
form_back None f = refl
form_back (Some v) f = ap Some (named_text 2 v f)

module _ (a : Answer) where
  -- the values of the keys behind `id`, each by its key
  abbrev nodes_of : List ℕ → Option Value
  nodes_of k = value_of (maybe (codes "nodes") nodes_value a.nodes) k

  abbrev nodes6_of : List ℕ → Option Value
  nodes6_of k = value_of (maybe (codes "nodes6") nodes_value a.nodes6) k

  abbrev snodes_of : List ℕ → Option Value
  snodes_of k = value_of (maybe (codes "snodes") snodes_value a.snodes) k

  abbrev snodes6_of : List ℕ → Option Value
  snodes6_of k = value_of (maybe (codes "snodes6") snodes_value a.snodes6) k

  abbrev token_of : List ℕ → Option Value
  token_of k = value_of (maybe (codes "token") Text a.token) k

  abbrev v_of : List ℕ → Option Value
  v_of k = value_of (maybe (codes "v") named a.v) k

  abbrev values_of : List ℕ → Option Value
  values_of k = value_of (maybe (codes "values") peers_value a.values) k

  abbrev joined : Option Value → Option Value → Option Value → Option Value → Option Value → Option Value → Option Value → Option Value → Option Value
  joined i n m s z t x v = or_else (or_else (or_else (or_else (or_else (or_else (or_else i n) m) s) z) t) x) v

  -- looked up part by part
  parts : (k : List ℕ) → value_of (answer_pairs a) k ≡ joined (value_of (one a) k) (nodes_of k) (nodes6_of k) (snodes_of k) (snodes6_of k) (token_of k) (v_of k) (values_of k)
  parts k =
      looked (seven a) (maybe (codes "values") peers_value a.values) k
      ∙ ap (λ o. or_else o (values_of k)) (looked (six a) (maybe (codes "v") named a.v) k
      ∙ ap (λ o. or_else o (v_of k)) (looked (five a) (maybe (codes "token") Text a.token) k
      ∙ ap (λ o. or_else o (token_of k)) (looked (four a) (maybe (codes "snodes6") snodes_value a.snodes6) k
      ∙ ap (λ o. or_else o (snodes6_of k)) (looked (three a) (maybe (codes "snodes") snodes_value a.snodes) k
      ∙ ap (λ o. or_else o (snodes_of k)) (looked (two a) (maybe (codes "nodes6") nodes_value a.nodes6) k
      ∙ ap (λ o. or_else o (nodes6_of k)) (looked (one a) (maybe (codes "nodes") nodes_value a.nodes) k))))))

  -- where a key is none of these
  nodes_missed : (k : List ℕ) → is_eq (key_cmp k (codes "nodes")) ≡ false → nodes_of k ≡ None
  nodes_missed k e = missed (codes "nodes") nodes_value a.nodes k e

  nodes6_missed : (k : List ℕ) → is_eq (key_cmp k (codes "nodes6")) ≡ false → nodes6_of k ≡ None
  nodes6_missed k e = missed (codes "nodes6") nodes_value a.nodes6 k e

  snodes_missed : (k : List ℕ) → is_eq (key_cmp k (codes "snodes")) ≡ false → snodes_of k ≡ None
  snodes_missed k e = missed (codes "snodes") snodes_value a.snodes k e

  snodes6_missed : (k : List ℕ) → is_eq (key_cmp k (codes "snodes6")) ≡ false → snodes6_of k ≡ None
  snodes6_missed k e = missed (codes "snodes6") snodes_value a.snodes6 k e

  token_missed : (k : List ℕ) → is_eq (key_cmp k (codes "token")) ≡ false → token_of k ≡ None
  token_missed k e = missed (codes "token") Text a.token k e

  v_missed : (k : List ℕ) → is_eq (key_cmp k (codes "v")) ≡ false → v_of k ≡ None
  v_missed k e = missed (codes "v") named a.v k e

  values_missed : (k : List ℕ) → is_eq (key_cmp k (codes "values")) ≡ false → values_of k ≡ None
  values_missed k e = missed (codes "values") peers_value a.values k e

  -- nothing behind
  closed : (o : Option Value) → or_else (or_else o None) None ≡ o
  closed o = or_none (or_else o None) ∙ or_none o

  nodes_there : value_of (answer_pairs a) (codes "nodes") ≡ option_map nodes_value a.nodes
  nodes_there =
      let k = codes "nodes" in
      parts k ∙ (λ i. joined None (hit nodes_value a.nodes k refl i) (nodes6_missed k refl i) (snodes_missed k refl i) (snodes6_missed k refl i) (token_missed k refl i) (v_missed k refl i) (values_missed k refl i))
      ∙ closed _ ∙ closed _ ∙ closed _

  nodes6_there : value_of (answer_pairs a) (codes "nodes6") ≡ option_map nodes_value a.nodes6
  nodes6_there =
      let k = codes "nodes6" in
      parts k ∙ (λ i. joined None (nodes_missed k refl i) (hit nodes_value a.nodes6 k refl i) (snodes_missed k refl i) (snodes6_missed k refl i) (token_missed k refl i) (v_missed k refl i) (values_missed k refl i))
      ∙ closed _ ∙ closed _ ∙ or_none _

  snodes_there : value_of (answer_pairs a) (codes "snodes") ≡ option_map snodes_value a.snodes
  snodes_there =
      let k = codes "snodes" in
      parts k ∙ (λ i. joined None (nodes_missed k refl i) (nodes6_missed k refl i) (hit snodes_value a.snodes k refl i) (snodes6_missed k refl i) (token_missed k refl i) (v_missed k refl i) (values_missed k refl i))
      ∙ closed _ ∙ closed _

  snodes6_there : value_of (answer_pairs a) (codes "snodes6") ≡ option_map snodes_value a.snodes6
  snodes6_there =
      let k = codes "snodes6" in
      parts k ∙ (λ i. joined None (nodes_missed k refl i) (nodes6_missed k refl i) (snodes_missed k refl i) (hit snodes_value a.snodes6 k refl i) (token_missed k refl i) (v_missed k refl i) (values_missed k refl i))
      ∙ closed _ ∙ or_none _

  token_there : value_of (answer_pairs a) (codes "token") ≡ option_map Text a.token
  token_there =
      let k = codes "token" in
      parts k ∙ (λ i. joined None (nodes_missed k refl i) (nodes6_missed k refl i) (snodes_missed k refl i) (snodes6_missed k refl i) (hit Text a.token k refl i) (v_missed k refl i) (values_missed k refl i))
      ∙ closed _

  v_there : value_of (answer_pairs a) (codes "v") ≡ option_map named a.v
  v_there =
      let k = codes "v" in
      parts k ∙ (λ i. joined None (nodes_missed k refl i) (nodes6_missed k refl i) (snodes_missed k refl i) (snodes6_missed k refl i) (token_missed k refl i) (hit named a.v k refl i) (values_missed k refl i))
      ∙ or_none _

  values_there : value_of (answer_pairs a) (codes "values") ≡ option_map peers_value a.values
  values_there =
      let k = codes "values" in
      parts k ∙ (λ i. joined None (nodes_missed k refl i) (nodes6_missed k refl i) (snodes_missed k refl i) (snodes6_missed k refl i) (token_missed k refl i) (v_missed k refl i) (hit peers_value a.values k refl i))

  -- what stands under `id` is found first
  id_there : value_of (answer_pairs a) (codes "id") ≡ Some (Text a.id.0)
  id_there = parts (codes "id")

  pub answer_back : IsWellAnswer a → IsWritableAnswer a → answer_at (value_of (answer_pairs a)) ≡ Ok a
  answer_back w n =
      stepped _ a.id _ _ (ap (needed id_of key.Id) id_there ∙ had id_of key.Id _ _ (id_text a.id w.id))
      (stepped _ a.nodes _ _ (ap nodes_by nodes_there ∙ nodes_back Four key.Nodes (grind arith) a.nodes w.nodes n.nodes)
      (stepped _ a.snodes _ _ (ap snodes_by snodes_there ∙ snodes_back Four key.Snodes (grind arith) a.snodes w.snodes n.snodes)
      (stepped _ a.nodes6 _ _ (ap nodes6_by nodes6_there ∙ nodes_back Six key.Nodes6 (grind arith) a.nodes6 w.nodes6 n.nodes6)
      (stepped _ a.snodes6 _ _ (ap snodes6_by snodes6_there ∙ snodes_back Six key.Snodes6 (grind arith) a.snodes6 w.snodes6 n.snodes6)
      (stepped _ a.token _ _ (ap (optional bytes_of key.Token) token_there ∙ token_back a.token)
      (stepped _ a.values _ _ (ap values_by values_there ∙ values_back a.values w.values)
      (λ i. Ok (record { id = a.id; nodes = a.nodes; snodes = a.snodes; nodes6 = a.nodes6; snodes6 = a.snodes6; token = a.token; v = (ap (option_map text_of) v_there ∙ form_back a.v n.v) i; values = a.values }))))))))
