-- What want of memory leaves of a node.
use Rattle.std.proofs.Common.{◌≡◌, ◌≢◌, ℕ, List, [], ◌∷◌, ◌++◌, map, length, Bool, true, false, cond, nat_le, take, Result, Ok, Err, IfOk, inl, inr, refl, sym, ap, subst, ◌∙◌, Option, None}
use Rattle.std.proofs.lemmas.Bool.{leb-true}
use Rattle.std.specs.Prelude.{Option, Some, None, OnErr}
use Rattle.kad_base.specs.declared.types.Proof.{Proof}
use Rattle.kad_base.specs.declared.types.Id.{Id}
use Rattle.kad_base.specs.declared.types.Addr.{Addr}
use Rattle.kad_base.specs.declared.types.NoMemory.{NoMemory as Lacks}
use Rattle.kad_krpc.specs.Records.{ip_bytes}
use Rattle.kad_krpc.specs.Asking.{proof_of}
use Rattle.kad_krpc.specs.Views.{ask_seen}
use Rattle.kad_krpc.specs.declared.message.Ask.{Ask}
use Rattle.kad_krpc.specs.declared.message.Ask.TheVariants.{Ping, FindNode, GetPeers, AnnouncePeer, Get as GetItem, Put as PutItem, Other}
use Rattle.contact_table.specs.TableState.{TableState}
use Rattle.contact_table.specs.declared.calls.TableCall.{TableCall}
use Rattle.contact_table.specs.declared.calls.TableReply.TheVariants.{NoMemory}
use Rattle.node_tokens.specs.Tokens.{IsAccepted}
use Rattle.node_serve.specs.declared.asked.Asked.{Asked}
use Rattle.node_serve.specs.declared.composing.Gained.{Gained}
use Rattle.node_serve.specs.declared.composing.Gained.TheVariants as gained
use Rattle.node_serve.specs.declared.holder.Own.{Own}
use Rattle.node_serve.specs.declared.planning.Wants.{Wants}
use Rattle.node_serve.specs.declared.planning.Wants.TheVariants.{Name, Nodes, Peers, Place, Item, Keep, RefuseToken, RefuseMutable, RefuseBig, RefuseMethod}
use Rattle.node_serve.specs.declared.setting.ServeSetting.{ServeSetting}
use Rattle.node_serve.specs.AnswerBy.{Steps, setting_of}
use Rattle.node_serve.specs.AnswerOf.{IsTokenAccepted, IsPutTaken, LeavesStores, all, peers_purged, items_purged, whole, EndsEarly, notify_by}
use Rattle.node_serve.specs.Asked.{IsAsked}
use Rattle.node_serve.specs.Calls.{Did, on_table, on_peers, on_items, near_call, reply_of, is_accepted, answer_with}
use Rattle.item_store.specs.Items.{max_length}
use Rattle.item_store.specs.declared.calls.ItemCall.TheVariants.{Get as Get_call, Put as Keep_call}
use Rattle.item_store.specs.declared.calls.ItemReply.TheVariants.{NoMemory as No_item_memory}
use Rattle.peer_store.specs.declared.calls.PeerCall.TheVariants.{List as List_call, Put}
use Rattle.peer_store.specs.declared.calls.PeerReply.TheVariants.{Listed, NoMemory as No_peer_memory}
use Rattle.node_serve.specs.Gains.{IsFor, FailsBy, MayFail, did_for, item_reply, near_reply, put_wants, wants_of}
use Rattle.node_serve.specs.Gathered.{AnswersAsked, EndsAsked, node_of, own_does, own_stores}
use Rattle.node_serve.specs.NodeState.{NodeState, Stores, stores_of, with_parts}
use Rattle.node_serve.specs.Replies.{IsTaken, RepliesWith, peer_for}
use Rattle.node_serve.specs.Responses.{Ends, unasked, gathering, composing, telling, RepliesTo, StopsAt}
use Rattle.node_serve.specs.Sealing.{Tags}
use Rattle.node_serve.proofs.Accepting.{accepted}
use Rattle.node_serve.proofs.Answering.{answered, kept_own, own_steps}
use Rattle.node_serve.proofs.Nearby.{near_after, none_after}
use Rattle.node_serve.proofs.Responding.{main_calls}
use Rattle.node_serve.proofs.Same.{shows, steps_cut}
use Rattle.node_serve.proofs.Wanted.{did_memory}

some_is : {A : Type 0} (o : Option A) (x : A) → o ≡ Some x → o ≢ None
some_is None x e n = absurd cc
some_is (Some y) x e n = absurd cc

-- a peer is to be placed
abbrev IsPlace : Wants → Type 0
IsPlace (Place key peer) = Unit {0}
IsPlace other = ⊥

-- an item is to be kept
abbrev IsKeep : Wants → Type 0
IsKeep (Keep v from) = Unit {0}
IsKeep other = ⊥

module _ (s : NodeState) (from : Addr) (at : ℕ) where
  takes_place : (key : Id) (peer : Addr) (token : List ℕ) (b : Bool) → is_accepted s.tokens (ip_bytes from.ip) at token ≡ b → IsPlace (cond b (Place key peer) RefuseToken) → IsAccepted s.tokens (ip_bytes from.ip) at token
  takes_place key peer token true on h = (accepted s.tokens (ip_bytes from.ip) at token).0 on
  takes_place key peer token false off h = absurd h

  fits_place : (v : List ℕ) (b : Bool) → IsPlace (cond b (Keep v from) RefuseBig) → ⊥
  fits_place v true h = h
  fits_place v false h = h

  puts_place : (v : List ℕ) (b m : Bool) → IsPlace (put_wants b m v from) → ⊥
  puts_place v false m h = h
  puts_place v true true h = h
  puts_place v true false h = fits_place v (nat_le (length v) max_length) h

  fits_keep : (token v : List ℕ) (mutable b : Bool) → IsAccepted s.tokens (ip_bytes from.ip) at token → mutable ≡ false → nat_le (length v) max_length ≡ b → IsKeep (cond b (Keep v from) RefuseBig) → IsTaken s from at token v mutable
  fits_keep token v mutable true a m fits h = record { own_token = a; immutable = m; short = leb-true (length v) max_length fits }
  fits_keep token v mutable false a m fits h = absurd h

  takes_keep : (token v : List ℕ) (mutable b m : Bool) → is_accepted s.tokens (ip_bytes from.ip) at token ≡ b → mutable ≡ m → IsKeep (put_wants b m v from) → IsTaken s from at token v mutable
  takes_keep token v mutable false m off is h = absurd h
  takes_keep token v mutable true true on is h = absurd h
  takes_keep token v mutable true false on is h = fits_keep token v mutable (nat_le (length v) max_length) ((accepted s.tokens (ip_bytes from.ip) at token).0 on) is refl h

  announced_keep : (key : Id) (peer : Addr) (b : Bool) → IsKeep (cond b (Place key peer) RefuseToken) → ⊥
  announced_keep key peer true h = h
  announced_keep key peer false h = h

  keeping : (ask : Ask) → IsKeep (wants_of (setting_of s) from at ask) → IsPutTaken s from at ask
  keeping (Ping id) h = absurd h
  keeping (FindNode id target want) h = absurd h
  keeping (GetPeers id key want) h = absurd h
  keeping (AnnouncePeer id key port token) h = absurd (announced_keep key (peer_for from port) (is_accepted s.tokens (ip_bytes from.ip) at token) h)
  keeping (GetItem id key want) h = absurd h
  keeping (PutItem id token v mutable) h = takes_keep token v mutable (is_accepted s.tokens (ip_bytes from.ip) at token) mutable refl refl h
  keeping (Other method) h = absurd h

  placing : (ask : Ask) → IsPlace (wants_of (setting_of s) from at ask) → IsTokenAccepted s from at ask
  placing (Ping id) h = absurd h
  placing (FindNode id target want) h = absurd h
  placing (GetPeers id key want) h = absurd h
  placing (AnnouncePeer id key port token) h = takes_place key (peer_for from port) token (is_accepted s.tokens (ip_bytes from.ip) at token) refl h
  placing (GetItem id key want) h = absurd h
  placing (PutItem id token v mutable) h = absurd (puts_place v (is_accepted s.tokens (ip_bytes from.ip) at token) mutable h)
  placing (Other method) h = absurd h

  module _ (tx : List ℕ) (ask : Ask) (told : Option TableCall) (t : TableState) (q : Stores) where
    -- the table is as it was, and what is kept is one of what want of memory may leave
    pub record Leaves : Type 0 where
      pub table : t ≡ s.table
      pub stores : LeavesStores s from at tx ask told q

    -- the calls were made from the node's state on
    abbrev pub Came : List Did → Type 0
    Came did = Steps s.table (stores_of s) did t q

    came : (did ds : List Did) → did ≡ ds → Came did → Came ds
    came did ds e st = subst Came e st

    fails_leaves : (w : Wants) → (IsPlace w → IsTokenAccepted s from at ask) → (IsKeep w → IsPutTaken s from at ask) → (did : List Did) → FailsBy (setting_of s) at w did → Came did → Leaves
    fails_leaves (Nodes target) may keeps did h st =
        let e = came did (on_table (near_call s.policy target s.k) NoMemory ∷ []) h st in
        record { table = e.1.0 ∙ none_after s.table (near_call s.policy target s.k); stores = all e.1.1 }
    fails_leaves (Peers key first) may keeps did (inl h) st =
        let e = came did (on_peers (List_call key at first) No_peer_memory ∷ []) h st in
        record { table = e.1.0; stores = all e.1.1 }
    fails_leaves (Peers key first) may keeps did (inr h) st =
        let e = came did (on_peers (List_call key at first) (Listed h.0) ∷ on_table (near_call s.policy key s.k) NoMemory ∷ []) h.1 st in
        record { table = e.1.1.0 ∙ none_after s.table (near_call s.policy key s.k); stores = all e.1.1.1 }
    fails_leaves (Place key peer) may keeps did h st =
        let e = came did (on_peers (Put key peer at) No_peer_memory ∷ []) h st in
        record { table = e.1.0; stores = peers_purged (may tt) e.1.1 }
    fails_leaves (Item key) may keeps did (inl h) st =
        let e = came did (on_items (Get_call key at) No_item_memory ∷ []) h st in
        record { table = e.1.0; stores = all e.1.1 }
    fails_leaves (Item key) may keeps did (inr h) st =
        let e = came did (on_items (Get_call key at) (item_reply h.0) ∷ on_table (near_call s.policy key s.k) NoMemory ∷ []) h.1 st in
        record { table = e.1.1.0 ∙ none_after s.table (near_call s.policy key s.k); stores = all e.1.1.1 }
    fails_leaves (Keep v source) may keeps did h st =
        let e = came did (on_items (Keep_call v source at) No_item_memory ∷ []) h st in
        record { table = e.1.0; stores = items_purged (keeps tt) e.1.1 }
    fails_leaves w may keeps did h st = absurd h

    gained_leaves : (w : Wants) (g : Gained) → IsFor w g → (IsPlace w → IsTokenAccepted s from at ask) → (IsKeep w → IsPutTaken s from at ask) → MayFail g → Came (did_for (setting_of s) at w g) → Leaves
    gained_leaves Name gained.Name is may keeps fails st = record { table = st.0; stores = all st.1 }
    gained_leaves (Nodes target) (gained.Nodes nodes) is may keeps fails st = record { table = st.1.0 ∙ near_after s.policy s.table target s.k (near_reply nodes); stores = all st.1.1 }
    gained_leaves (Peers key first) (gained.Peers list nodes) is may keeps fails st = record { table = st.1.1.0 ∙ near_after s.policy s.table key s.k (near_reply nodes); stores = all st.1.1.1 }
    gained_leaves (Place key peer) (gained.Placed stored) is may keeps fails st = absurd fails
    gained_leaves (Place key peer) gained.HostFull is may keeps fails st = record { table = st.1.0; stores = peers_purged (may tt) st.1.1 }
    gained_leaves (Place key peer) gained.Full is may keeps fails st = record { table = st.1.0; stores = peers_purged (may tt) st.1.1 }
    gained_leaves (Item key) (gained.Item v nodes) is may keeps fails st = record { table = st.1.1.0 ∙ near_after s.policy s.table key s.k (near_reply nodes); stores = all st.1.1.1 }
    gained_leaves (Keep v source) (gained.Kept stored) is may keeps fails st = absurd fails
    gained_leaves (Keep v source) gained.HostCrowded is may keeps fails st = record { table = st.1.0; stores = items_purged (keeps tt) st.1.1 }
    gained_leaves (Keep v source) gained.Crowded is may keeps fails st = record { table = st.1.0; stores = items_purged (keeps tt) st.1.1 }
    gained_leaves RefuseToken gained.RefuseToken is may keeps fails st = record { table = st.0; stores = all st.1 }
    gained_leaves RefuseMutable gained.RefuseMutable is may keeps fails st = record { table = st.0; stores = all st.1 }
    gained_leaves RefuseBig gained.RefuseBig is may keeps fails st = record { table = st.0; stores = all st.1 }
    gained_leaves RefuseMethod gained.RefuseMethod is may keeps fails st = record { table = st.0; stores = all st.1 }
    gained_leaves w g is may keeps fails st = absurd is

module _ (s : NodeState) (asked : Asked) (at : ℕ) (t : TableState) (q : Stores) where
  abbrev ask : Ask
  ask = ask_seen asked.ask

  abbrev told : Option TableCall
  told = notify_by s.policy asked.read_only (proof_of asked.arguments) ask asked.from

  abbrev Left : Type 0
  Left = Leaves s asked.from at asked.tx.now ask told t q

  told_leaves : (call : TableCall) (g : Gained) (did : List Did) → told ≡ Some call → IsFor (wants_of (setting_of s) asked.from at ask) g
      → Steps s.table (stores_of s) (did_for (setting_of s) at (wants_of (setting_of s) asked.from at ask) g ++ on_table call NoMemory ∷ []) t q → Left
  told_leaves call g did is fits st =
      let S = setting_of s in
      let ds = did_for (setting_of s) at (wants_of S asked.from at ask) g in
      let mid = steps_cut s.table t (stores_of s) q ds (on_table call NoMemory ∷ []) st in
      let shown = shows s asked.from at asked.tx.now mid.table mid.stores ask ds (main_calls S asked at g fits) (did_memory (setting_of s) at (wants_of S asked.from at ask) g fits) mid.first in
      let m = answer_with S asked.from at asked.tx.now ask (map reply_of ds ++ []) in
      record {
        table = mid.rest.1.0 ∙ none_after mid.table call ∙ shown.table;
        stores = whole m (some_is told call is) (subst (λ x. RepliesWith s asked.from at asked.tx.now ask (record { message = m; stores = x })) (sym mid.rest.1.1) (shown.replies []));
      }

  ends_leaves : (did : List Did) → Ends (setting_of s) asked at did → Steps s.table (stores_of s) did t q → Left
  ends_leaves did (unasked e) st =
      let none : Steps s.table (stores_of s) [] t q = subst (λ d. Steps s.table (stores_of s) d t q) e st in
      record { table = none.0; stores = all none.1 }
  ends_leaves did (gathering h) st = fails_leaves s asked.from at asked.tx.now ask told t q (wants_of (setting_of s) asked.from at ask) (placing s asked.from at ask) (keeping s asked.from at ask) did h st
  ends_leaves did (composing g fits fails e) st =
      gained_leaves s asked.from at asked.tx.now ask told t q (wants_of (setting_of s) asked.from at ask) g fits (placing s asked.from at ask) (keeping s asked.from at ask) fails (subst (λ d. Steps s.table (stores_of s) d t q) e st)
  ends_leaves did (telling call g is fits e) st = told_leaves call g did is fits (subst (λ d. Steps s.table (stores_of s) d t q) e st)

pub ended : (s : ServeSetting) (o u : Own) (asked : Asked) (at : ℕ) → s.proof ≡ None → StopsAt own_does s asked at o u → EndsAsked (node_of s o) asked at (node_of s u)
ended s o u asked at none h =
    let same = ap (λ (p : Option Proof). record { own = s.own; k = s.k; policy = s.policy; proofs = s.proofs; tokens = s.tokens; sealed = s.sealed; proof = p }) none in
    let ends = subst (λ (x : ServeSetting). Ends x asked at h.did) same h.ends in
    let left = ends_leaves (node_of s o) asked at u.table (own_stores u) h.did ends (own_steps o u h.did h.run) in
    record { stores = left.stores; rest = ap (λ t. with_parts (node_of s o) t (own_stores u)) left.table }

pub ends_of : (s : NodeState) (from : Addr) (bytes : List ℕ) (asked : Asked) (at : ℕ) (next : NodeState) → IsAsked from bytes asked → EndsAsked s asked at next → EndsEarly s from bytes at next
ends_of s from bytes asked at next is ends = record {
  tx = asked.tx.now;
  read_only = asked.read_only;
  proof = proof_of asked.arguments;
  ask = ask_seen asked.ask;
  query = is.query;
  stores = subst (λ (f : Addr). LeavesStores s f at asked.tx.now (ask_seen asked.ask) (notify_by s.policy asked.read_only (proof_of asked.arguments) (ask_seen asked.ask) f) (stores_of next)) is.from_is ends.stores;
  rest = ends.rest;
}

-- what a node's own answer is, by how it ended
module _ (tag_of : Tags) (s : ServeSetting) (o u : Own) (asked : Asked) (at : ℕ) (out : List ℕ) (none : s.proof ≡ None) where
  pub answers_own : (r : Result ℕ Lacks) → IfOk r (λ n. RepliesTo own_does tag_of s asked at (take n out) o u) → OnErr r (StopsAt own_does s asked at o u)
      → (u.table.own ≡ o.table.own) × IfOk r (λ n. AnswersAsked tag_of (node_of s o) asked at (take n out) (node_of s u)) × OnErr r (EndsAsked (node_of s o) asked at (node_of s u))
  answers_own (Ok n) ok err = (kept_own o u ok.did ok.run, answered tag_of s o u asked at (take n out) ok, tt)
  answers_own (Err e) ok err = (kept_own o u err.did err.run, tt, ended s o u asked at none err)
