-- Both ways to say what a node answers are one.
use Rattle.std.proofs.Common.{◌≡◌, ◌↔◌, ℕ, List, [], ◌∷◌, ◌++◌, map, length, Bool, true, false, cond, nat_le, inl, inr, ◌⊎◌, refl, sym, ap, subst, ◌∙◌, All}
use Rattle.std.specs.Prelude.{Option, Some, None}
use Rattle.std.specs.List.{list_any}
use Rattle.std.specs.Map.{keys_of}
use Rattle.std.specs.Ordering.{is_eq}
use Rattle.std.proofs.lemmas.Bool.{le-leb, lt-leb, leb-true, leb-false}
use Rattle.std.proofs.lemmas.List.{map-append}
use Rattle.std.proofs.lemmas.List.Elements.{All-nil, All-cons, All-head, All-tail, All-append}
use Rattle.kad_base.specs.declared.types.Id.{Id}
use Rattle.kad_base.specs.declared.types.Addr.{Addr}
use Rattle.kad_krpc.specs.declared.message.Ask.{Ask}
use Rattle.kad_krpc.specs.declared.message.Ask.TheVariants.{Ping, FindNode, GetPeers, AnnouncePeer, Get as GetItem, Put as PutItem, Other}
use Rattle.kad_krpc.specs.declared.message.Port.{Port}
use Rattle.kad_krpc.specs.declared.message.Want.{Want}
use Rattle.kad_krpc.specs.declared.message.Message.{Message}
use Rattle.kad_krpc.specs.Records.{ip_bytes}
use Rattle.contact_table.specs.TableState.{TableState}
use Rattle.contact_table.specs.TableStep.{TableStep, table_after}
use Rattle.contact_table.specs.Told.{HasMemory}
use Rattle.contact_table.specs.declared.calls.TableCall.{TableCall}
use Rattle.contact_table.specs.declared.calls.TableReply.{TableReply}
use Rattle.aged_map.specs.declared.aged.Stored.{Stored}
use Rattle.aged_map.specs.declared.aged.Stored.TheVariants.{New, Renewed}
use Rattle.peer_store.specs.Peers.{PeersState, Pair, pair_cmp, purged, with_add, listed_from}
use Rattle.node_serve.specs.AnswerOf.{AnswerOf, IsTold, notify_by}
use Rattle.item_store.specs.Items.{ItemsState, IsItems, Holds, max_length, key_cmp, key_of, handed_out, purged as purged_items, with_item}
use Rattle.item_store.specs.ItemSteps.{ItemStep, StoredStep, item_after}
use Rattle.item_store.specs.declared.calls.ItemCall.TheVariants.{Get as Get_call, Put as Keep_call}
use Rattle.item_store.specs.declared.calls.ItemReply.{ItemReply}
use Rattle.item_store.specs.declared.calls.ItemReply.TheVariants.{Held as Held_reply, Absent, Stored as Kept_reply, Crowded as Host_crowded, Full as Crowded, NoMemory as No_item_memory}
use Rattle.item_store.proofs.Looking.{handed_item}
use Rattle.node_serve.specs.NodeState.{NodeState, Stores, stores_of}
use Rattle.node_serve.specs.Replies.{Announces, Puts, IsTaken, Outcome, RepliesWith, refused, full, added, strange, changing, long, crowded, kept, named, bad_token, too_big, server_error, point_for, peer_for, with_peers, with_items, RefusesItem}
use Rattle.peer_store.specs.declared.calls.PeerCall.TheVariants.{List as List_call, Put}
use Rattle.peer_store.specs.declared.calls.PeerReply.{PeerReply}
use Rattle.peer_store.specs.declared.calls.PeerReply.TheVariants.{Listed, Stored as Stored_reply, Crowded as Host_full, Full, NoMemory}
use Rattle.node_serve.specs.declared.nodes.Near.{Near}
use Rattle.node_serve.specs.declared.setting.ServeSetting.{ServeSetting}
use Rattle.node_serve.specs.Calls.{of_peers, of_items, Reply, by_peers, by_items, Did, on_table, on_peers, on_items, call_of, reply_of, HadMemory, HasItemRoom, is_accepted, near_call, put_calls, calls_for, calls_told, near_by, peers_by, item_by, peers_from, item_from, put_in, kept_in, put_reply, answer_with}
use Rattle.node_serve.specs.Gains.{item_reply, near_reply}
use Rattle.node_serve.specs.AnswerBy.{setting_of, Steps, AnswerBy}
use Rattle.peer_store.specs.PeersStep.{peers_after}
use Rattle.node_serve.proofs.Accepting.{accepted, fails}
use Rattle.node_serve.proofs.Inverting.{cut, made_none, one_table, one_peer, one_item, peer_and_table, item_and_table, listed_is, item_is, had_memory, not_wanting}
use Rattle.node_serve.proofs.Nearby.{near_at, asks_near, near_step, near_after, near_back, near_given, found_of, peers_of, item_of}
use Rattle.node_serve.proofs.Wanted.{near_memory}

-- ---- steps in two parts

pub steps_both : (t u v : TableState) (p q r : Stores) (xs ys : List Did) → Steps t p xs u q → Steps u q ys v r → Steps t p (xs ++ ys) v r
steps_both t u v p q r [] ys s e = subst (λ x. Steps x p ys v r) s.0 (subst (λ x. Steps u x ys v r) s.1 e)
steps_both t u v p q r (on_table call reply ∷ xs) ys s e = (s.0, steps_both (table_after t 0 call reply) u v p q r xs ys s.1 e)
steps_both t u v p q r (on_peers call reply ∷ xs) ys s e = (s.0, steps_both t u v (record { peers = peers_after p.peers 0 call reply; items = p.items }) q r xs ys s.1 e)
steps_both t u v p q r (on_items call reply ∷ xs) ys s e = (s.0, steps_both t u v (record { peers = p.peers; items = item_after p.items 0 call reply }) q r xs ys s.1 e)

-- ---- from the rules to the calls

-- the calls of a query itself: they leave the table, and their replies give its reply whatever comes behind
pub record Part (s : NodeState) (from : Addr) (at : ℕ) (tx : List ℕ) (ask : Ask) (o : Outcome) : Type 0 where
  did : List Did
  calls : map call_of did ≡ calls_for (setting_of s) from at ask
  memory : All HadMemory did
  steps : Steps s.table (stores_of s) did s.table o.stores
  reply : (more : List Reply) → o.message ≡ answer_with (setting_of s) from at tx ask (map reply_of did ++ more)

-- whether a pair is held
abbrev stored_as : PeersState → Pair → Stored
stored_as s pair = cond (list_any (λ p. is_eq (pair_cmp pair p)) (keys_of s.held)) Renewed New

stored_is : (b : Bool) → (cond b Renewed New ≡ Renewed) ↔ (b ≡ true)
stored_is true = (λ e. refl, λ e. refl)
stored_is false = (λ e. absurd cc, λ e. absurd cc)

neither : {A B : Type 0} → ¬ A → ¬ B → ¬ (A ⊎ B)
neither a b (inl x) = a x
neither a b (inr y) = b y

outcome_is : (m n : Message) (p q : Stores) → m ≡ n → p ≡ q → ◌≡◌ {A = Outcome} (record { message = m; stores = p }) (record { message = n; stores = q })
outcome_is m n p q e f = ap (λ x. record { message = x; stores = p }) e ∙ ap (λ y. record { message = n; stores = y }) f

-- whether an item of the key is held
abbrev kept_as : ItemsState → Id → Stored
kept_as s key = cond (list_any (λ k. is_eq (key_cmp key k)) (keys_of s.held)) Renewed New

kept_step : (s : ItemsState) (key : Id) (from : Addr) (b : Bool) → list_any (λ k. is_eq (key_cmp key k)) (keys_of s.held) ≡ b → ¬ RefusesItem s key from → StoredStep s key from (cond b Renewed New)
kept_step s key from true e n = e
kept_step s key from false e n = (let absent : ¬ Holds s key = λ h. not_true (sym e ∙ h) in record { absent = absent; free = λ f. n (inl f); room = λ f. n (inr f) })
  where
    not_true : false ≡ true → ⊥
    not_true e = cc

has_room : (s : ItemsState) (key : Id) (from : Addr) (stored : Stored) → StoredStep s key from stored → ¬ RefusesItem s key from
has_room s key from New h (inl c) = h.free c
has_room s key from New h (inr n) = h.room n
has_room s key from Renewed h (inl c) = c.0 h
has_room s key from Renewed h (inr n) = n.absent h

get_step : (held : ItemsState) (key : Id) (at : ℕ) → IsItems held → (o : Option (List ℕ)) → handed_out held key at ≡ o → ItemStep held 0 (Get_call key at) (item_reply o)
get_step held key at sound None e = e
get_step held key at sound (Some v) e = (e, handed_item held key at v sound.sound e)

got_memory : (call : Did) (o : Option (List ℕ)) → HasItemRoom (item_reply o)
got_memory call None = tt
got_memory call (Some v) = tt

got_same : (o : Option (List ℕ)) → o ≡ item_by (item_reply o)
got_same None = refl
got_same (Some v) = refl

module _ (s : NodeState) (from : Addr) (at : ℕ) (tx : List ℕ) where
  abbrev S : ServeSetting
  S = setting_of s

  near_stepped : (target : Id) → TableStep s.table 0 (near_call s.policy target s.k) (near_reply (near_at s target))
  near_stepped target = near_step s.policy s.table target s.k

  near_left : (target : Id) → s.table ≡ table_after s.table 0 (near_call s.policy target s.k) (near_reply (near_at s target))
  near_left target = sym (near_after s.policy s.table target s.k (near_reply (near_at s target)))

  abbrev takes : List ℕ → Bool
  takes token = is_accepted s.tokens (ip_bytes from.ip) at token

  announced_part : (id key : Id) (port : Port) (token : List ℕ) (o : Outcome) → Announces s from at tx key (peer_for from port) token o → Part s from at tx (AnnouncePeer id key port token) o
  announced_part id key port token o (refused h e) =
      let off : takes token ≡ false = fails (takes token) (accepted s.tokens (ip_bytes from.ip) at token) h in
      record {
        did = [];
        calls = sym (ap (λ b. cond b (of_peers (Put key (peer_for from port) at) ∷ []) []) off);
        memory = All-nil HadMemory;
        steps = (refl, ap (λ (x : Outcome). x.stores) e);
        reply = λ more. ap (λ (x : Outcome). x.message) e ∙ sym (ap (λ b. cond b (put_in tx s.own more) (bad_token tx)) off);
      }
  announced_part id key port token o (full h (inl n) e) =
      let on : takes token ≡ true = (accepted s.tokens (ip_bytes from.ip) at token).1 h in
      record {
        did = on_peers (Put key (peer_for from port) at) Host_full ∷ [];
        calls = sym (ap (λ b. cond b (of_peers (Put key (peer_for from port) at) ∷ []) []) on);
        memory = All-cons HadMemory (on_peers (Put key (peer_for from port) at) Host_full) [] tt (All-nil HadMemory);
        steps = (n, (refl, ap (λ (x : Outcome). x.stores) e));
        reply = λ more. ap (λ (x : Outcome). x.message) e ∙ sym (ap (λ b. cond b (put_in tx s.own (by_peers Host_full ∷ more)) (bad_token tx)) on);
      }
  announced_part id key port token o (full h (inr n) e) =
      let on : takes token ≡ true = (accepted s.tokens (ip_bytes from.ip) at token).1 h in
      record {
        did = on_peers (Put key (peer_for from port) at) Full ∷ [];
        calls = sym (ap (λ b. cond b (of_peers (Put key (peer_for from port) at) ∷ []) []) on);
        memory = All-cons HadMemory (on_peers (Put key (peer_for from port) at) Full) [] tt (All-nil HadMemory);
        steps = (n, (refl, ap (λ (x : Outcome). x.stores) e));
        reply = λ more. ap (λ (x : Outcome). x.message) e ∙ sym (ap (λ b. cond b (put_in tx s.own (by_peers Full ∷ more)) (bad_token tx)) on);
      }
  announced_part id key port token o (added h n e) =
      let on : takes token ≡ true = (accepted s.tokens (ip_bytes from.ip) at token).1 h in
      let peer : Addr = peer_for from port in
      let pair : Pair = (key, peer) in
      let stored : Stored = stored_as (purged s.peers at) pair in
      record {
        did = on_peers (Put key peer at) (Stored_reply stored) ∷ [];
        calls = sym (ap (λ b. cond b (of_peers (Put key peer at) ∷ []) []) on);
        memory = All-cons HadMemory (on_peers (Put key peer at) (Stored_reply stored)) [] tt (All-nil HadMemory);
        steps = ((stored_is (list_any (λ p. is_eq (pair_cmp pair p)) (keys_of (purged s.peers at).held)), (λ f. n (inl f)), (λ f. n (inr f))), (refl, ap (λ (x : Outcome). x.stores) e));
        reply = λ more. ap (λ (x : Outcome). x.message) e ∙ sym (ap (λ b. cond b (put_in tx s.own (by_peers (Stored_reply stored) ∷ more)) (bad_token tx)) on);
      }

  item_part : (id key : Id) (want : Want) (o : Outcome) → IsItems s.items → RepliesWith s from at tx (GetItem id key want) o → Part s from at tx (GetItem id key want) o
  item_part id key want o sound e =
      let found = handed_out s.items key at in
      let d : Did = on_items (Get_call key at) (item_reply found) in
      let n : Near = near_at s key in
      let f : Did = asks_near s key in
      record {
        did = d ∷ f ∷ [];
        calls = refl;
        memory = All-cons HadMemory d (f ∷ []) (got_memory d found) (All-cons HadMemory f [] (near_memory n) (All-nil HadMemory));
        steps = (get_step s.items key at sound found refl, (near_stepped key, (near_left key, ap (λ (x : Outcome). x.stores) e)));
        reply = λ more. ap (λ (x : Outcome). x.message) e ∙ sym (item_of s from at tx key found (near_by (near_reply n)) (near_back n)) ∙ ap (λ v. item_from tx S from at v (near_by (near_reply n))) (got_same found);
      }

  put_part : (id : Id) (token v : List ℕ) (mutable : Bool) (o : Outcome) → Puts s from at tx token v mutable o → Part s from at tx (PutItem id token v mutable) o
  put_part id token v mutable o (strange h e) =
      let off : takes token ≡ false = fails (takes token) (accepted s.tokens (ip_bytes from.ip) at token) h in
      record {
        did = [];
        calls = sym (λ i. put_calls (off i) mutable from at v);
        memory = All-nil HadMemory;
        steps = (refl, ap (λ (x : Outcome). x.stores) e);
        reply = λ more. ap (λ (x : Outcome). x.message) e ∙ sym (λ i. put_reply (off i) mutable tx s.own v more);
      }
  put_part id token v mutable o (changing h m e) =
      let on : takes token ≡ true = (accepted s.tokens (ip_bytes from.ip) at token).1 h in
      record {
        did = [];
        calls = sym (λ i. put_calls (on i) (m i) from at v);
        memory = All-nil HadMemory;
        steps = (refl, ap (λ (x : Outcome). x.stores) e);
        reply = λ more. ap (λ (x : Outcome). x.message) e ∙ sym (λ i. put_reply (on i) (m i) tx s.own v more);
      }
  put_part id token v mutable o (long h m l e) =
      let on : takes token ≡ true = (accepted s.tokens (ip_bytes from.ip) at token).1 h in
      let big : nat_le (length v) max_length ≡ false = lt-leb (length v) max_length l in
      record {
        did = [];
        calls = sym ((λ i. put_calls (on i) (m i) from at v) ∙ ap (λ b. cond b (of_items (Keep_call v from at) ∷ []) []) big);
        memory = All-nil HadMemory;
        steps = (refl, ap (λ (x : Outcome). x.stores) e);
        reply = λ more. ap (λ (x : Outcome). x.message) e ∙ sym ((λ i. put_reply (on i) (m i) tx s.own v more) ∙ ap (λ b. cond b (kept_in tx s.own more) (too_big tx)) big);
      }
  put_part id token v mutable o (crowded t (inl n) e) =
      let on : takes token ≡ true = (accepted s.tokens (ip_bytes from.ip) at token).1 t.own_token in
      let m = t.immutable in
      let fits : nat_le (length v) max_length ≡ true = le-leb (length v) max_length t.short in
      record {
        did = on_items (Keep_call v from at) Host_crowded ∷ [];
        calls = sym ((λ i. put_calls (on i) (m i) from at v) ∙ ap (λ b. cond b (of_items (Keep_call v from at) ∷ []) []) fits);
        memory = All-cons HadMemory (on_items (Keep_call v from at) Host_crowded) [] tt (All-nil HadMemory);
        steps = (n, (refl, ap (λ (x : Outcome). x.stores) e));
        reply = λ more. ap (λ (x : Outcome). x.message) e ∙ sym ((λ i. put_reply (on i) (m i) tx s.own v (by_items Host_crowded ∷ more)) ∙ ap (λ b. cond b (kept_in tx s.own (by_items Host_crowded ∷ more)) (too_big tx)) fits);
      }
  put_part id token v mutable o (crowded t (inr n) e) =
      let on : takes token ≡ true = (accepted s.tokens (ip_bytes from.ip) at token).1 t.own_token in
      let m = t.immutable in
      let fits : nat_le (length v) max_length ≡ true = le-leb (length v) max_length t.short in
      record {
        did = on_items (Keep_call v from at) Crowded ∷ [];
        calls = sym ((λ i. put_calls (on i) (m i) from at v) ∙ ap (λ b. cond b (of_items (Keep_call v from at) ∷ []) []) fits);
        memory = All-cons HadMemory (on_items (Keep_call v from at) Crowded) [] tt (All-nil HadMemory);
        steps = (n, (refl, ap (λ (x : Outcome). x.stores) e));
        reply = λ more. ap (λ (x : Outcome). x.message) e ∙ sym ((λ i. put_reply (on i) (m i) tx s.own v (by_items Crowded ∷ more)) ∙ ap (λ b. cond b (kept_in tx s.own (by_items Crowded ∷ more)) (too_big tx)) fits);
      }
  put_part id token v mutable o (kept t n e) =
      let on : takes token ≡ true = (accepted s.tokens (ip_bytes from.ip) at token).1 t.own_token in
      let m = t.immutable in
      let fits : nat_le (length v) max_length ≡ true = le-leb (length v) max_length t.short in
      let held = purged_items s.items at in
      let stored : Stored = kept_as held (key_of v) in
      record {
        did = on_items (Keep_call v from at) (Kept_reply stored) ∷ [];
        calls = sym ((λ i. put_calls (on i) (m i) from at v) ∙ ap (λ b. cond b (of_items (Keep_call v from at) ∷ []) []) fits);
        memory = All-cons HadMemory (on_items (Keep_call v from at) (Kept_reply stored)) [] tt (All-nil HadMemory);
        steps = (kept_step held (key_of v) from (list_any (λ k. is_eq (key_cmp (key_of v) k)) (keys_of held.held)) refl n, (refl, ap (λ (x : Outcome). x.stores) e));
        reply = λ more. ap (λ (x : Outcome). x.message) e ∙ sym ((λ i. put_reply (on i) (m i) tx s.own v (by_items (Kept_reply stored) ∷ more)) ∙ ap (λ b. cond b (kept_in tx s.own (by_items (Kept_reply stored) ∷ more)) (too_big tx)) fits);
      }

  part : (ask : Ask) (o : Outcome) → IsItems s.items → RepliesWith s from at tx ask o → Part s from at tx ask o
  part (Ping id) o sound e = record { did = []; calls = refl; memory = All-nil HadMemory; steps = (refl, ap (λ (x : Outcome). x.stores) e); reply = λ more. ap (λ (x : Outcome). x.message) e }
  part (FindNode id target want) o sound e =
      let n : Near = near_at s target in
      let d : Did = asks_near s target in
      record {
        did = d ∷ [];
        calls = refl;
        memory = All-cons HadMemory d [] (near_memory n) (All-nil HadMemory);
        steps = (near_stepped target, (near_left target, ap (λ (x : Outcome). x.stores) e));
        reply = λ more. ap (λ (x : Outcome). x.message) e ∙ sym (found_of s from at tx target (near_by (near_reply n)) (near_back n));
      }
  part (GetPeers id key want) o sound e =
      let first : List ℕ = point_for s.tokens from at key in
      let d : Did = on_peers (List_call key at first) (Listed (listed_from s.peers key at first)) in
      let n : Near = near_at s key in
      let f : Did = asks_near s key in
      record {
        did = d ∷ f ∷ [];
        calls = refl;
        memory = All-cons HadMemory d (f ∷ []) tt (All-cons HadMemory f [] (near_memory n) (All-nil HadMemory));
        steps = (refl, (near_stepped key, (near_left key, ap (λ (x : Outcome). x.stores) e)));
        reply = λ more. ap (λ (x : Outcome). x.message) e ∙ sym (peers_of s from at tx key (listed_from s.peers key at first) (near_by (near_reply n)) (near_back n));
      }
  part (AnnouncePeer id key port token) o sound e = announced_part id key port token o e
  part (GetItem id key want) o sound e = item_part id key want o sound e
  part (PutItem id token v mutable) o sound e = put_part id token v mutable o e
  part (Other method) o sound e = record { did = []; calls = refl; memory = All-nil HadMemory; steps = (refl, ap (λ (x : Outcome). x.stores) e); reply = λ more. ap (λ (x : Outcome). x.message) e }

-- the table is told of the asker
pub record ToldPart (o : Option TableCall) (t u : TableState) (p : Stores) : Type 0 where
  pub did : List Did
  pub calls : map call_of did ≡ calls_told o
  pub memory : All HadMemory did
  pub steps : Steps t p did u p

pub told_part : (o : Option TableCall) (t u : TableState) (p : Stores) → IsTold o t u → ToldPart o t u p
told_part None t u p h = record { did = []; calls = refl; memory = All-nil HadMemory; steps = (h, refl) }
told_part (Some call) t u p h =
    let d : Did = on_table call h.reply in
    record { did = d ∷ []; calls = refl; memory = All-cons HadMemory d [] (had_memory h.reply h.kept) (All-nil HadMemory); steps = (h.step, (h.leaves, refl)) }

pub by_calls : (s : NodeState) (from : Addr) (bytes : List ℕ) (at : ℕ) (m : Message) (x : NodeState) → AnswerOf s from bytes at m x → IsItems s.items → AnswerBy s from bytes at m x
by_calls s from bytes at m x a sound =
    let S = setting_of s in
    let main = part s from at a.tx a.ask (record { message = m; stores = stores_of x }) sound a.replies in
    let told = told_part (notify_by s.policy a.read_only a.proof a.ask from) s.table x.table (stores_of x) a.told in
    record {
      tx = a.tx;
      read_only = a.read_only;
      proof = a.proof;
      ask = a.ask;
      query = a.query;
      did = main.did ++ told.did;
      calls = map-append call_of main.did told.did ∙ ap (λ l. l ++ map call_of told.did) main.calls ∙ ap (λ l. calls_for S from at a.ask ++ l) told.calls;
      memory = All-append HadMemory main.did told.did main.memory told.memory;
      steps = steps_both s.table s.table x.table (stores_of s) (stores_of x) (stores_of x) main.did told.did main.steps told.steps;
      reply_is = main.reply (map reply_of told.did) ∙ ap (answer_with S from at a.tx a.ask) (sym (map-append reply_of main.did told.did));
      rest = a.rest;
    }

-- ---- from the calls to the rules

pub record Mid (t v : TableState) (p r : Stores) (xs ys : List Did) : Type 0 where
  pub table : TableState
  pub stores : Stores
  pub first : Steps t p xs table stores
  pub rest : Steps table stores ys v r

pub steps_cut : (t v : TableState) (p r : Stores) (xs ys : List Did) → Steps t p (xs ++ ys) v r → Mid t v p r xs ys
steps_cut t v p r [] ys st = record { table = t; stores = p; first = (refl, refl); rest = st }
steps_cut t v p r (on_table call reply ∷ xs) ys st =
    let m = steps_cut (table_after t 0 call reply) v p r xs ys st.1 in
    record { table = m.table; stores = m.stores; first = (st.0, m.first); rest = m.rest }
steps_cut t v p r (on_peers call reply ∷ xs) ys st =
    let m = steps_cut t v (record { peers = peers_after p.peers 0 call reply; items = p.items }) r xs ys st.1 in
    record { table = m.table; stores = m.stores; first = (st.0, m.first); rest = m.rest }
steps_cut t v p r (on_items call reply ∷ xs) ys st =
    let m = steps_cut t v (record { peers = p.peers; items = item_after p.items 0 call reply }) r xs ys st.1 in
    record { table = m.table; stores = m.stores; first = (st.0, m.first); rest = m.rest }

all_front : (xs ys : List Did) → All HadMemory (xs ++ ys) → All HadMemory xs
all_front [] ys a = All-nil HadMemory
all_front (x ∷ xs) ys a = All-cons HadMemory x xs (All-head HadMemory x (xs ++ ys) a) (all_front xs ys (All-tail HadMemory x (xs ++ ys) a))

all_back : (xs ys : List Did) → All HadMemory (xs ++ ys) → All HadMemory ys
all_back [] ys a = a
all_back (x ∷ xs) ys a = all_back xs ys (All-tail HadMemory x (xs ++ ys) a)

module _ (s : NodeState) (from : Addr) (at : ℕ) (tx : List ℕ) (u : TableState) (q : Stores) where
  -- the calls of the query itself left the table, and their replies give the one of the rules
  pub record Replied (ask : Ask) (did : List Did) : Type 0 where
    pub table : u ≡ s.table
    pub replies : (more : List Reply) → RepliesWith s from at tx ask (record { message = answer_with (setting_of s) from at tx ask (map reply_of did ++ more); stores = q })

  abbrev pub Shows : Ask → List Did → Type 0
  Shows ask did = All HadMemory did → Steps s.table (stores_of s) did u q → Replied ask did

  -- what the question for the closest contacts gave
  given_near : (target : Id) (reply : TableReply) → TableStep s.table 0 (near_call s.policy target s.k) reply → HasMemory reply → near_by reply ≡ near_at s target
  given_near target reply step memory = near_given s.policy s.table target s.k reply step memory

  found_shows : (id target : Id) (want : Want) (reply : TableReply) → Shows (FindNode id target want) (on_table (near_call s.policy target s.k) reply ∷ [])
  found_shows id target want reply memory st =
      let is = given_near target reply st.0 (All-head HadMemory (on_table (near_call s.policy target s.k) reply) [] memory) in
      record {
        table = st.1.0 ∙ near_after s.policy s.table target s.k reply;
        replies = λ more. outcome_is _ _ q (stores_of s) (found_of s from at tx target (near_by reply) is) st.1.1;
      }

  peers_shows : (id key : Id) (want : Want) (peers : PeerReply) (nodes : TableReply) → Shows (GetPeers id key want) (on_peers (List_call key at (point_for s.tokens from at key)) peers ∷ on_table (near_call s.policy key s.k) nodes ∷ [])
  peers_shows id key want peers nodes memory st =
      let point : List ℕ = point_for s.tokens from at key in
      let d : Did = on_peers (List_call key at point) peers in
      let f : Did = on_table (near_call s.policy key s.k) nodes in
      let first = listed_is s.peers key at point peers st.0 (All-head HadMemory d (f ∷ []) memory) in
      let second = given_near key nodes st.1.0 (All-head HadMemory f [] (All-tail HadMemory d (f ∷ []) memory)) in
      record {
        table = st.1.1.0 ∙ near_after s.policy s.table key s.k nodes;
        replies = λ more. outcome_is _ _ q (stores_of s)
            (ap (λ x. peers_from tx (setting_of s) from at (peers_by x) (near_by nodes)) first ∙ peers_of s from at tx key (listed_from s.peers key at point) (near_by nodes) second)
            st.1.1.1;
      }

  item_shows : (id key : Id) (want : Want) (item : ItemReply) (nodes : TableReply) → Shows (GetItem id key want) (on_items (Get_call key at) item ∷ on_table (near_call s.policy key s.k) nodes ∷ [])
  item_shows id key want item nodes memory st =
      let d : Did = on_items (Get_call key at) item in
      let f : Did = on_table (near_call s.policy key s.k) nodes in
      let first = item_is s.items key at item st.0 (All-head HadMemory d (f ∷ []) memory) in
      let second = given_near key nodes st.1.0 (All-head HadMemory f [] (All-tail HadMemory d (f ∷ []) memory)) in
      record {
        table = st.1.1.0 ∙ near_after s.policy s.table key s.k nodes;
        replies = λ more. outcome_is _ _ q (stores_of s)
            (ap (λ x. item_from tx (setting_of s) from at x (near_by nodes)) first ∙ item_of s from at tx key (handed_out s.items key at) (near_by nodes) second)
            st.1.1.1;
      }

  keep_shows : (id : Id) (token v : List ℕ) (mutable : Bool) (reply : ItemReply) → is_accepted s.tokens (ip_bytes from.ip) at token ≡ true → mutable ≡ false → nat_le (length v) max_length ≡ true
      → Shows (PutItem id token v mutable) (on_items (Keep_call v from at) reply ∷ [])
  keep_shows id token v mutable (Kept_reply stored) on m fits memory st =
      let taken : IsTaken s from at token v mutable = record { own_token = (accepted s.tokens (ip_bytes from.ip) at token).0 on; immutable = m; short = leb-true (length v) max_length fits } in
      record {
        table = st.1.0;
        replies = λ more. kept taken (has_room (purged_items s.items at) (key_of v) from stored st.0)
            (outcome_is _ _ q (with_items s (with_item (purged_items s.items at) v from at))
            ((λ i. put_reply (on i) (m i) tx s.own v (by_items (Kept_reply stored) ∷ more)) ∙ ap (λ b. cond b (named tx s.own) (too_big tx)) fits) st.1.1);
      }
  keep_shows id token v mutable Host_crowded on m fits memory st =
      let taken : IsTaken s from at token v mutable = record { own_token = (accepted s.tokens (ip_bytes from.ip) at token).0 on; immutable = m; short = leb-true (length v) max_length fits } in
      record {
        table = st.1.0;
        replies = λ more. crowded taken (inl st.0)
            (outcome_is _ _ q (with_items s (purged_items s.items at))
            ((λ i. put_reply (on i) (m i) tx s.own v (by_items Host_crowded ∷ more)) ∙ ap (λ b. cond b (server_error tx) (too_big tx)) fits) st.1.1);
      }
  keep_shows id token v mutable Crowded on m fits memory st =
      let taken : IsTaken s from at token v mutable = record { own_token = (accepted s.tokens (ip_bytes from.ip) at token).0 on; immutable = m; short = leb-true (length v) max_length fits } in
      record {
        table = st.1.0;
        replies = λ more. crowded taken (inr st.0)
            (outcome_is _ _ q (with_items s (purged_items s.items at))
            ((λ i. put_reply (on i) (m i) tx s.own v (by_items Crowded ∷ more)) ∙ ap (λ b. cond b (server_error tx) (too_big tx)) fits) st.1.1);
      }
  keep_shows id token v mutable No_item_memory on m fits memory st = absurd (All-head HadMemory (on_items (Keep_call v from at) No_item_memory) [] memory)
  keep_shows id token v mutable (Held_reply w) on m fits memory st = absurd st.0
  keep_shows id token v mutable Absent on m fits memory st = absurd st.0

  fits_shows : (id : Id) (token v : List ℕ) (mutable : Bool) (did : List Did) (b : Bool) → is_accepted s.tokens (ip_bytes from.ip) at token ≡ true → mutable ≡ false → nat_le (length v) max_length ≡ b
      → map call_of did ≡ cond b (of_items (Keep_call v from at) ∷ []) [] → Shows (PutItem id token v mutable) did
  fits_shows id token v mutable did true on m fits calls =
      let one = one_item (Keep_call v from at) did calls in
      subst (Shows (PutItem id token v mutable)) (sym one.is) (keep_shows id token v mutable one.reply on m fits)
  fits_shows id token v mutable did false on m big calls =
      subst (Shows (PutItem id token v mutable)) (sym (made_none did calls)) (λ memory st. record {
        table = st.0;
        replies = λ more. long ((accepted s.tokens (ip_bytes from.ip) at token).0 on) m (leb-false (length v) max_length big)
            (outcome_is _ _ q (stores_of s) ((λ i. put_reply (on i) (m i) tx s.own v more) ∙ ap (λ b. cond b (kept_in tx s.own more) (too_big tx)) big) st.1);
      })

  puts_shows : (id : Id) (token v : List ℕ) (mutable : Bool) (did : List Did) (b m : Bool) → is_accepted s.tokens (ip_bytes from.ip) at token ≡ b → mutable ≡ m
      → map call_of did ≡ put_calls b m from at v → Shows (PutItem id token v mutable) did
  puts_shows id token v mutable did false m off is calls =
      subst (Shows (PutItem id token v mutable)) (sym (made_none did calls)) (λ memory st. record {
        table = st.0;
        replies = λ more. strange (λ h. (let on = (accepted s.tokens (ip_bytes from.ip) at token).1 h in absurd cc))
            (outcome_is _ _ q (stores_of s) (λ i. put_reply (off i) mutable tx s.own v more) st.1);
      })
  puts_shows id token v mutable did true true on is calls =
      subst (Shows (PutItem id token v mutable)) (sym (made_none did calls)) (λ memory st. record {
        table = st.0;
        replies = λ more. changing ((accepted s.tokens (ip_bytes from.ip) at token).0 on) is
            (outcome_is _ _ q (stores_of s) (λ i. put_reply (on i) (is i) tx s.own v more) st.1);
      })
  puts_shows id token v mutable did true false on is calls = fits_shows id token v mutable did (nat_le (length v) max_length) on is refl calls

  put_shows : (id key : Id) (port : Port) (token : List ℕ) (reply : PeerReply) → is_accepted s.tokens (ip_bytes from.ip) at token ≡ true → Shows (AnnouncePeer id key port token) (on_peers (Put key (peer_for from port) at) reply ∷ [])
  put_shows id key port token (Stored_reply stored) on memory st = record {
    table = st.1.0;
    replies = λ more. added ((accepted s.tokens (ip_bytes from.ip) at token).0 on) (neither st.0.1 st.0.2)
        (outcome_is _ _ q (with_peers s (with_add (purged s.peers at) (key, peer_for from port) at)) (ap (λ b. cond b (named tx s.own) (bad_token tx)) on) st.1.1);
  }
  put_shows id key port token Host_full on memory st = record {
    table = st.1.0;
    replies = λ more. full ((accepted s.tokens (ip_bytes from.ip) at token).0 on) (inl st.0)
        (outcome_is _ _ q (with_peers s (purged s.peers at)) (ap (λ b. cond b (server_error tx) (bad_token tx)) on) st.1.1);
  }
  put_shows id key port token Full on memory st = record {
    table = st.1.0;
    replies = λ more. full ((accepted s.tokens (ip_bytes from.ip) at token).0 on) (inr st.0)
        (outcome_is _ _ q (with_peers s (purged s.peers at)) (ap (λ b. cond b (server_error tx) (bad_token tx)) on) st.1.1);
  }
  put_shows id key port token NoMemory on memory st = absurd (All-head HadMemory (on_peers (Put key (peer_for from port) at) NoMemory) [] memory)
  put_shows id key port token (Listed list) on memory st = absurd st.0

  announced_shows : (id key : Id) (port : Port) (token : List ℕ) (did : List Did) (b : Bool) → is_accepted s.tokens (ip_bytes from.ip) at token ≡ b
      → map call_of did ≡ cond b (of_peers (Put key (peer_for from port) at) ∷ []) [] → Shows (AnnouncePeer id key port token) did
  announced_shows id key port token did true on calls =
      let one = one_peer (Put key (peer_for from port) at) did calls in
      subst (Shows (AnnouncePeer id key port token)) (sym one.is) (put_shows id key port token one.reply on)
  announced_shows id key port token did false off calls =
      subst (Shows (AnnouncePeer id key port token)) (sym (made_none did calls)) (λ memory st. record {
        table = st.0;
        replies = λ more. refused (λ h. (let on = (accepted s.tokens (ip_bytes from.ip) at token).1 h in absurd cc))
            (outcome_is _ _ q (stores_of s) (ap (λ b. cond b (put_in tx s.own more) (bad_token tx)) off) st.1);
      })

  pub shows : (ask : Ask) (did : List Did) → map call_of did ≡ calls_for (setting_of s) from at ask → Shows ask did
  shows (Ping id) did calls = subst (Shows (Ping id)) (sym (made_none did calls)) (λ memory st. record { table = st.0; replies = λ more. outcome_is _ _ q (stores_of s) refl st.1 })
  shows (FindNode id target want) did calls =
      let one = one_table (near_call s.policy target s.k) did calls in
      subst (Shows (FindNode id target want)) (sym one.is) (found_shows id target want one.reply)
  shows (GetPeers id key want) did calls =
      let two = peer_and_table (List_call key at (point_for s.tokens from at key)) (near_call s.policy key s.k) did calls in
      subst (Shows (GetPeers id key want)) (sym two.is) (peers_shows id key want two.peers two.nodes)
  shows (AnnouncePeer id key port token) did calls = announced_shows id key port token did (is_accepted s.tokens (ip_bytes from.ip) at token) refl calls
  shows (GetItem id key want) did calls =
      let two = item_and_table (Get_call key at) (near_call s.policy key s.k) did calls in
      subst (Shows (GetItem id key want)) (sym two.is) (item_shows id key want two.items two.nodes)
  shows (PutItem id token v mutable) did calls = puts_shows id token v mutable did (is_accepted s.tokens (ip_bytes from.ip) at token) mutable refl refl calls
  shows (Other method) did calls = subst (Shows (Other method)) (sym (made_none did calls)) (λ memory st. record { table = st.0; replies = λ more. outcome_is _ _ q (stores_of s) refl st.1 })

pub record WasTold (o : Option TableCall) (t v : TableState) (q r : Stores) : Type 0 where
  pub told : IsTold o t v
  pub stores : r ≡ q

made_shows : (call : TableCall) (t v : TableState) (q r : Stores) (reply : TableReply) → All HadMemory (on_table call reply ∷ []) → Steps t q (on_table call reply ∷ []) v r → WasTold (Some call) t v q r
made_shows call t v q r reply memory st = record {
  told = record { reply = reply; step = st.0; kept = not_wanting reply (All-head HadMemory (on_table call reply) [] memory); leaves = st.1.0 };
  stores = st.1.1;
}

told_shows : (o : Option TableCall) (t v : TableState) (q r : Stores) (did : List Did) → map call_of did ≡ calls_told o → All HadMemory did → Steps t q did v r → WasTold o t v q r
told_shows None t v q r did calls memory st =
    let none : Steps t q [] v r = subst (λ l. Steps t q l v r) (made_none did calls) st in
    record { told = none.0; stores = none.1 }
told_shows (Some call) t v q r did calls memory st =
    let one = one_table call did calls in
    made_shows call t v q r one.reply (subst (All HadMemory) one.is memory) (subst (λ l. Steps t q l v r) one.is st)

pub by_rules : (s : NodeState) (from : Addr) (bytes : List ℕ) (at : ℕ) (m : Message) (x : NodeState) → AnswerBy s from bytes at m x → AnswerOf s from bytes at m x
by_rules s from bytes at m x b =
    let S = setting_of s in
    let o = notify_by s.policy b.read_only b.proof b.ask from in
    let c = cut (calls_for S from at b.ask) (calls_told o) b.did b.calls in
    let memory : All HadMemory (c.front ++ c.back) = subst (All HadMemory) c.whole b.memory in
    let mid = steps_cut s.table x.table (stores_of s) (stores_of x) c.front c.back (subst (λ l. Steps s.table (stores_of s) l x.table (stores_of x)) c.whole b.steps) in
    let main = shows s from at b.tx mid.table mid.stores b.ask c.front c.first (all_front c.front c.back memory) mid.first in
    let told = told_shows o mid.table x.table mid.stores (stores_of x) c.back c.rest (all_back c.front c.back memory) mid.rest in
    let message : answer_with S from at b.tx b.ask (map reply_of c.front ++ map reply_of c.back) ≡ m =
    sym (b.reply_is ∙ ap (λ l. answer_with S from at b.tx b.ask (map reply_of l)) c.whole ∙ ap (answer_with S from at b.tx b.ask) (map-append reply_of c.front c.back)) in
    record {
      tx = b.tx;
      read_only = b.read_only;
      proof = b.proof;
      ask = b.ask;
      query = b.query;
      replies = subst (λ (z : Outcome). RepliesWith s from at b.tx b.ask z) (outcome_is _ m mid.stores (stores_of x) message (sym told.stores)) (main.replies (map reply_of c.back));
      told = subst (λ t. IsTold o t x.table) main.table told.told;
      rest = b.rest;
    }
