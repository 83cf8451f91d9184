-- What a query wants has its calls and its reply.
use Rattle.std.proofs.Common.{◌≡◌, ℕ, List, [], ◌∷◌, ◌++◌, length, map, Bool, true, false, cond, nat_le, Option, Some, None, All, inl, inr, refl, ap}
use Rattle.std.proofs.lemmas.List.Elements.{All-nil, All-cons}
use Rattle.kad_base.specs.declared.types.Id.{Id}
use Rattle.kad_base.specs.declared.types.Addr.{Addr}
use Rattle.kad_krpc.specs.declared.message.Ask.{Ask}
use Rattle.kad_krpc.specs.declared.message.Ask.TheVariants.{Ping, FindNode, GetPeers, AnnouncePeer, Get as GetItem, Put as PutItem, Other}
use Rattle.kad_krpc.specs.Records.{ip_bytes}
use Rattle.item_store.specs.Items.{max_length}
use Rattle.item_store.specs.declared.calls.ItemCall.TheVariants.{Get as Get_call, Put as Keep_call}
use Rattle.item_store.specs.declared.calls.ItemReply.TheVariants.{Stored as Kept_reply, Crowded as Host_crowded, Full as No_room}
use Rattle.contact_table.specs.Told.{HasMemory}
use Rattle.node_serve.specs.Replies.{peer_for, bad_token, too_big}
use Rattle.peer_store.specs.declared.calls.PeerCall.TheVariants.{List as List_call, Put}
use Rattle.peer_store.specs.declared.calls.PeerReply.TheVariants.{Listed, Stored as Stored_reply, Crowded as Crowded_reply, Full as Full_reply}
use Rattle.node_serve.specs.declared.nodes.Near.{Near}
use Rattle.node_serve.specs.declared.nodes.Near.TheVariants as near
use Rattle.node_serve.specs.declared.setting.ServeSetting.{ServeSetting}
use Rattle.node_serve.specs.declared.planning.Wants.{Wants}
use Rattle.node_serve.specs.declared.planning.Wants.TheVariants.{Name, Nodes, Peers, Place, Item, Keep, RefuseToken, RefuseMutable, RefuseBig, RefuseMethod}
use Rattle.node_serve.specs.Calls.{Call, Did, on_table, on_peers, on_items, Reply, of_table, of_peers, of_items, call_of, reply_of, HadMemory, HasItemRoom, near_call, is_accepted, put_calls, calls_for, put_in, kept_in, put_reply, answer_with}
use Rattle.node_serve.specs.declared.composing.Gained.{Gained}
use Rattle.node_serve.specs.declared.composing.Gained.TheVariants as gained
use Rattle.node_serve.specs.Gains.{IsFor, FailsBy, did_for, put_wants, wants_of, calls_wanted, item_reply as item_of, near_reply, reply_gained, reply_wanted}

place_calls : (s : ServeSetting) (at : ℕ) (key : Id) (peer : Addr) (b : Bool) → calls_wanted s at (cond b (Place key peer) RefuseToken) ≡ cond b (of_peers (Put key peer at) ∷ []) []
place_calls s at key peer true = refl
place_calls s at key peer false = refl

keep_calls : (s : ServeSetting) (from : Addr) (at : ℕ) (v : List ℕ) (b : Bool) → calls_wanted s at (cond b (Keep v from) RefuseBig) ≡ cond b (of_items (Keep_call v from at) ∷ []) []
keep_calls s from at v true = refl
keep_calls s from at v false = refl

item_calls : (s : ServeSetting) (from : Addr) (at : ℕ) (v : List ℕ) (accepted mutable : Bool) → calls_wanted s at (put_wants accepted mutable v from) ≡ put_calls accepted mutable from at v
item_calls s from at v true true = refl
item_calls s from at v true false = keep_calls s from at v (nat_le (length v) max_length)
item_calls s from at v false mutable = refl

pub wanted_calls : (s : ServeSetting) (from : Addr) (at : ℕ) (ask : Ask) → calls_wanted s at (wants_of s from at ask) ≡ calls_for s from at ask
wanted_calls s from at (Ping id) = refl
wanted_calls s from at (FindNode id target want) = refl
wanted_calls s from at (GetPeers id key want) = refl
wanted_calls s from at (AnnouncePeer id key port token) = place_calls s at key (peer_for from port) (is_accepted s.tokens (ip_bytes from.ip) at token)
wanted_calls s from at (GetItem id target want) = refl
wanted_calls s from at (PutItem id token v mutable) = item_calls s from at v (is_accepted s.tokens (ip_bytes from.ip) at token) mutable
wanted_calls s from at (Other method) = refl

place_reply : (s : ServeSetting) (from : Addr) (at : ℕ) (tx : List ℕ) (key : Id) (peer : Addr) (rs : List Reply) (b : Bool) → reply_wanted s from at tx (cond b (Place key peer) RefuseToken) rs ≡ cond b (put_in tx s.own rs) (bad_token tx)
place_reply s from at tx key peer rs true = refl
place_reply s from at tx key peer rs false = refl

keep_reply : (s : ServeSetting) (from : Addr) (at : ℕ) (tx v : List ℕ) (rs : List Reply) (b : Bool) → reply_wanted s from at tx (cond b (Keep v from) RefuseBig) rs ≡ cond b (kept_in tx s.own rs) (too_big tx)
keep_reply s from at tx v rs true = refl
keep_reply s from at tx v rs false = refl

item_reply : (s : ServeSetting) (from : Addr) (at : ℕ) (tx v : List ℕ) (rs : List Reply) (accepted mutable : Bool) → reply_wanted s from at tx (put_wants accepted mutable v from) rs ≡ put_reply accepted mutable tx s.own v rs
item_reply s from at tx v rs true true = refl
item_reply s from at tx v rs true false = keep_reply s from at tx v rs (nat_le (length v) max_length)
item_reply s from at tx v rs false mutable = refl

pub wanted_reply : (s : ServeSetting) (from : Addr) (at : ℕ) (tx : List ℕ) (ask : Ask) (rs : List Reply) → reply_wanted s from at tx (wants_of s from at ask) rs ≡ answer_with s from at tx ask rs
wanted_reply s from at tx (Ping id) rs = refl
wanted_reply s from at tx (FindNode id target want) rs = refl
wanted_reply s from at tx (GetPeers id key want) rs = refl
wanted_reply s from at tx (AnnouncePeer id key port token) rs = place_reply s from at tx key (peer_for from port) rs (is_accepted s.tokens (ip_bytes from.ip) at token)
wanted_reply s from at tx (GetItem id target want) rs = refl
wanted_reply s from at tx (PutItem id token v mutable) rs = item_reply s from at tx v rs (is_accepted s.tokens (ip_bytes from.ip) at token) mutable
wanted_reply s from at tx (Other method) rs = refl

-- ---- what was gained

got_memory : (o : Option (List ℕ)) → HasItemRoom (item_of o)
got_memory None = tt
got_memory (Some v) = tt

pub near_memory : (n : Near) → HasMemory (near_reply n)
near_memory (near.Listed list) = tt
near_memory (near.Reported reports) = tt

one_had : (d : Did) → HadMemory d → All HadMemory (d ∷ [])
one_had d h = All-cons HadMemory d [] h (All-nil HadMemory)

pub did_calls : (s : ServeSetting) (at : ℕ) (w : Wants) (g : Gained) → IsFor w g → map call_of (did_for s at w g) ≡ calls_wanted s at w
did_calls s at Name gained.Name h = refl
did_calls s at (Nodes target) (gained.Nodes nodes) h = refl
did_calls s at (Peers key first) (gained.Peers list nodes) h = refl
did_calls s at (Place key peer) (gained.Placed stored) h = refl
did_calls s at (Place key peer) gained.HostFull h = refl
did_calls s at (Place key peer) gained.Full h = refl
did_calls s at (Item key) (gained.Item v nodes) h = refl
did_calls s at (Keep v from) (gained.Kept stored) h = refl
did_calls s at (Keep v from) gained.HostCrowded h = refl
did_calls s at (Keep v from) gained.Crowded h = refl
did_calls s at RefuseToken gained.RefuseToken h = refl
did_calls s at RefuseMutable gained.RefuseMutable h = refl
did_calls s at RefuseBig gained.RefuseBig h = refl
did_calls s at RefuseMethod gained.RefuseMethod h = refl
did_calls s at w g h = absurd h

pub did_memory : (s : ServeSetting) (at : ℕ) (w : Wants) (g : Gained) → IsFor w g → All HadMemory (did_for s at w g)
did_memory s at Name gained.Name h = All-nil HadMemory
did_memory s at (Nodes target) (gained.Nodes nodes) h = one_had (on_table (near_call s.policy target s.k) (near_reply nodes)) (near_memory nodes)
did_memory s at (Peers key first) (gained.Peers list nodes) h = All-cons HadMemory (on_peers (List_call key at first) (Listed list)) (on_table (near_call s.policy key s.k) (near_reply nodes) ∷ []) tt (one_had (on_table (near_call s.policy key s.k) (near_reply nodes)) (near_memory nodes))
did_memory s at (Place key peer) (gained.Placed stored) h = one_had (on_peers (Put key peer at) (Stored_reply stored)) tt
did_memory s at (Place key peer) gained.HostFull h = one_had (on_peers (Put key peer at) Crowded_reply) tt
did_memory s at (Place key peer) gained.Full h = one_had (on_peers (Put key peer at) Full_reply) tt
did_memory s at (Item key) (gained.Item v nodes) h = All-cons HadMemory (on_items (Get_call key at) (item_of v)) (on_table (near_call s.policy key s.k) (near_reply nodes) ∷ []) (got_memory v) (one_had (on_table (near_call s.policy key s.k) (near_reply nodes)) (near_memory nodes))
did_memory s at (Keep v from) (gained.Kept stored) h = one_had (on_items (Keep_call v from at) (Kept_reply stored)) tt
did_memory s at (Keep v from) gained.HostCrowded h = one_had (on_items (Keep_call v from at) Host_crowded) tt
did_memory s at (Keep v from) gained.Crowded h = one_had (on_items (Keep_call v from at) No_room) tt
did_memory s at RefuseToken gained.RefuseToken h = All-nil HadMemory
did_memory s at RefuseMutable gained.RefuseMutable h = All-nil HadMemory
did_memory s at RefuseBig gained.RefuseBig h = All-nil HadMemory
did_memory s at RefuseMethod gained.RefuseMethod h = All-nil HadMemory
did_memory s at w g h = absurd h

-- the reply to what was gained is that to what was wanted, whatever is replied to later calls
pub gained_reply : (s : ServeSetting) (from : Addr) (at : ℕ) (tx : List ℕ) (w : Wants) (g : Gained) → IsFor w g → (more : List Reply) → reply_gained s from at tx g ≡ reply_wanted s from at tx w (map reply_of (did_for s at w g) ++ more)
gained_reply s from at tx Name gained.Name h more = refl
gained_reply s from at tx (Nodes target) (gained.Nodes (near.Listed nodes)) h more = refl
gained_reply s from at tx (Nodes target) (gained.Nodes (near.Reported nodes)) h more = refl
gained_reply s from at tx (Peers key first) (gained.Peers list (near.Listed nodes)) h more = refl
gained_reply s from at tx (Peers key first) (gained.Peers list (near.Reported nodes)) h more = refl
gained_reply s from at tx (Place key peer) (gained.Placed stored) h more = refl
gained_reply s from at tx (Place key peer) gained.HostFull h more = refl
gained_reply s from at tx (Place key peer) gained.Full h more = refl
gained_reply s from at tx (Item key) (gained.Item None (near.Listed nodes)) h more = refl
gained_reply s from at tx (Item key) (gained.Item None (near.Reported nodes)) h more = refl
gained_reply s from at tx (Item key) (gained.Item (Some v) (near.Listed nodes)) h more = refl
gained_reply s from at tx (Item key) (gained.Item (Some v) (near.Reported nodes)) h more = refl
gained_reply s from at tx (Keep v source) (gained.Kept stored) h more = refl
gained_reply s from at tx (Keep v source) gained.HostCrowded h more = refl
gained_reply s from at tx (Keep v source) gained.Crowded h more = refl
gained_reply s from at tx RefuseToken gained.RefuseToken h more = refl
gained_reply s from at tx RefuseMutable gained.RefuseMutable h more = refl
gained_reply s from at tx RefuseBig gained.RefuseBig h more = refl
gained_reply s from at tx RefuseMethod gained.RefuseMethod h more = refl
gained_reply s from at tx w g h more = absurd h

-- ---- what found no memory

pub fails_first : (s : ServeSetting) (at : ℕ) (w : Wants) (did : List Did) → FailsBy s at w did → (left : List Call) × (map call_of did ++ left ≡ calls_wanted s at w)
fails_first s at (Nodes target) did h = ([], ap (λ d. map call_of d ++ []) h)
fails_first s at (Peers key first) did (inl h) = (of_table (near_call s.policy key s.k) ∷ [], ap (λ d. map call_of d ++ of_table (near_call s.policy key s.k) ∷ []) h)
fails_first s at (Peers key first) did (inr h) = ([], ap (λ d. map call_of d ++ []) h.1)
fails_first s at (Place key peer) did h = ([], ap (λ d. map call_of d ++ []) h)
fails_first s at (Item key) did (inl h) = (of_table (near_call s.policy key s.k) ∷ [], ap (λ d. map call_of d ++ of_table (near_call s.policy key s.k) ∷ []) h)
fails_first s at (Item key) did (inr h) = ([], ap (λ d. map call_of d ++ []) h.1)
fails_first s at (Keep v from) did h = ([], ap (λ d. map call_of d ++ []) h)
fails_first s at w did h = absurd h
