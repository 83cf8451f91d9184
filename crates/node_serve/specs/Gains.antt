-- What a query wants, and what its calls gave, as whoever makes the calls has them: the code between the calls of a
-- datagram and its reply.
use Rattle.std.specs.Prelude.{◌≡◌, ◌⊎◌, ℕ, ◌≤◌, Bool, true, false, cond, nat_le, List, [], ◌∷◌, drop, length, Option, Some, None, IfSome}
use Rattle.kad_base.specs.declared.types.Addr.{Addr}
use Rattle.kad_krpc.specs.declared.message.Ask.{Ask}
use Rattle.kad_krpc.specs.declared.message.Ask.TheVariants.{Ping, FindNode, GetPeers, AnnouncePeer, Get as GetItem, Put as PutItem, Other}
use Rattle.kad_krpc.specs.declared.message.Message.{Message}
use Rattle.kad_krpc.specs.Records.{ip_bytes}
use Rattle.contact_table.specs.declared.calls.TableReply.{TableReply}
use Rattle.contact_table.specs.declared.calls.TableReply.TheVariants.{List as List_reply, Reports as Reports_reply, NoMemory as No_table_memory}
use Rattle.node_serve.specs.Replies.{point_for, peer_for, named, server_error, bad_token, no_mutable, too_big, method_unknown}
use Rattle.peer_store.specs.declared.calls.PeerCall.TheVariants.{List as List_call, Put}
use Rattle.peer_store.specs.declared.calls.PeerReply.TheVariants.{Listed, Stored as Stored_reply, Crowded as Crowded_reply, Full as Full_reply, NoMemory as No_peer_memory}
use Rattle.item_store.specs.Items.{IsItem, max_length}
use Rattle.item_store.specs.declared.calls.ItemCall.TheVariants.{Get as Get_call, Put as Keep_call}
use Rattle.item_store.specs.declared.calls.ItemReply.{ItemReply}
use Rattle.item_store.specs.declared.calls.ItemReply.TheVariants.{Held as Held_reply, Absent, Stored as Kept_reply, Crowded as Host_full, Full as No_room, NoMemory as No_item_memory}
use Rattle.node_serve.specs.declared.nodes.Near.{Near}
use Rattle.node_serve.specs.declared.nodes.Near.TheVariants as near
use Rattle.node_serve.specs.declared.setting.ServeSetting.{ServeSetting}
use Rattle.node_serve.specs.declared.planning.Wants.{Wants}
use Rattle.node_serve.specs.declared.planning.Wants.TheVariants.{Name, Nodes, Peers, Place, Item, Keep, RefuseToken, RefuseMutable, RefuseBig, RefuseMethod}
use Rattle.node_serve.specs.declared.composing.Gained.{Gained}
use Rattle.node_serve.specs.declared.composing.Gained.TheVariants as gained
use Rattle.node_serve.specs.Calls.{Call, of_table, of_peers, of_items, Reply, Did, on_table, on_peers, on_items, near_call, is_accepted, found_from, peers_from, item_from, near_in, peers_in, item_in, put_in, kept_in}

-- what a put wants, by whether its token is accepted and whether it is mutable
abbrev pub put_wants : Bool → Bool → List ℕ → Addr → Wants
put_wants false mutable v from = RefuseToken
put_wants true true v from = RefuseMutable
put_wants true false v from = cond (nat_le (length v) max_length) (Keep v from) RefuseBig

-- what a query wants
abbrev pub wants_of : ServeSetting → Addr → ℕ → Ask → Wants
wants_of s from at (Ping id) = Name
wants_of s from at (FindNode id target want) = Nodes target
wants_of s from at (GetPeers id key want) = Peers key (point_for s.tokens from at key)
wants_of s from at (AnnouncePeer id key port token) =
    cond (is_accepted s.tokens (ip_bytes from.ip) at token) (Place key (peer_for from port)) RefuseToken
wants_of s from at (GetItem id key want) = Item key
wants_of s from at (PutItem id token v mutable) = put_wants (is_accepted s.tokens (ip_bytes from.ip) at token) mutable v from
wants_of s from at (Other method) = RefuseMethod

-- what is to be kept is an item
abbrev pub KeepsItem : Wants → Type 0
KeepsItem (Keep v from) = IsItem v
KeepsItem other = Unit {0}

-- the calls for it, by a node of this setting
abbrev pub calls_wanted : ServeSetting → ℕ → Wants → List Call
calls_wanted s at Name = []
calls_wanted s at (Nodes target) = of_table (near_call s.policy target s.k) ∷ []
calls_wanted s at (Peers key first) = of_peers (List_call key at first) ∷ of_table (near_call s.policy key s.k) ∷ []
calls_wanted s at (Place key peer) = of_peers (Put key peer at) ∷ []
calls_wanted s at (Item key) = of_items (Get_call key at) ∷ of_table (near_call s.policy key s.k) ∷ []
calls_wanted s at (Keep v from) = of_items (Keep_call v from at) ∷ []
calls_wanted s at RefuseToken = []
calls_wanted s at RefuseMutable = []
calls_wanted s at RefuseBig = []
calls_wanted s at RefuseMethod = []

-- the reply to it, from the replies to these
abbrev pub reply_wanted : ServeSetting → Addr → ℕ → List ℕ → Wants → List Reply → Message
reply_wanted s from at tx Name replies = named tx s.own
reply_wanted s from at tx (Nodes target) replies = found_from tx s (near_in replies)
reply_wanted s from at tx (Peers key first) replies = peers_from tx s from at (peers_in replies) (near_in (drop 1 replies))
reply_wanted s from at tx (Place key peer) replies = put_in tx s.own replies
reply_wanted s from at tx (Item key) replies = item_from tx s from at (item_in replies) (near_in (drop 1 replies))
reply_wanted s from at tx (Keep v source) replies = kept_in tx s.own replies
reply_wanted s from at tx RefuseToken replies = bad_token tx
reply_wanted s from at tx RefuseMutable replies = no_mutable tx
reply_wanted s from at tx RefuseBig replies = too_big tx
reply_wanted s from at tx RefuseMethod replies = method_unknown tx

-- the reply that has an item, or none
abbrev pub item_reply : Option (List ℕ) → ItemReply
item_reply None = Absent
item_reply (Some v) = Held_reply v

-- the reply that gives the closest contacts
abbrev pub near_reply : Near → TableReply
near_reply (near.Listed list) = List_reply list
near_reply (near.Reported reports) = Reports_reply reports

-- the calls for it with what was gained, as their replies
abbrev pub did_for : ServeSetting → ℕ → Wants → Gained → List Did
did_for s at (Nodes target) (gained.Nodes nodes) = on_table (near_call s.policy target s.k) (near_reply nodes) ∷ []
did_for s at (Peers key first) (gained.Peers list nodes) = on_peers (List_call key at first) (Listed list) ∷ on_table (near_call s.policy key s.k) (near_reply nodes) ∷ []
did_for s at (Place key peer) (gained.Placed stored) = on_peers (Put key peer at) (Stored_reply stored) ∷ []
did_for s at (Place key peer) gained.HostFull = on_peers (Put key peer at) Crowded_reply ∷ []
did_for s at (Place key peer) gained.Full = on_peers (Put key peer at) Full_reply ∷ []
did_for s at (Item key) (gained.Item v nodes) = on_items (Get_call key at) (item_reply v) ∷ on_table (near_call s.policy key s.k) (near_reply nodes) ∷ []
did_for s at (Keep v from) (gained.Kept stored) = on_items (Keep_call v from at) (Kept_reply stored) ∷ []
did_for s at (Keep v from) gained.HostCrowded = on_items (Keep_call v from at) Host_full ∷ []
did_for s at (Keep v from) gained.Crowded = on_items (Keep_call v from at) No_room ∷ []
did_for s at wants g = []

-- these are the first calls for it, and the last of them found no memory
abbrev pub FailsBy : ServeSetting → ℕ → Wants → List Did → Type 0
FailsBy s at (Nodes target) did = did ≡ on_table (near_call s.policy target s.k) No_table_memory ∷ []
FailsBy s at (Peers key first) did =
    (did ≡ on_peers (List_call key at first) No_peer_memory ∷ [])
    ⊎ ((list : List Addr) × (did ≡ on_peers (List_call key at first) (Listed list) ∷ on_table (near_call s.policy key s.k) No_table_memory ∷ []))
FailsBy s at (Place key peer) did = did ≡ on_peers (Put key peer at) No_peer_memory ∷ []
FailsBy s at (Item key) did =
    (did ≡ on_items (Get_call key at) No_item_memory ∷ [])
    ⊎ ((v : Option (List ℕ)) × (did ≡ on_items (Get_call key at) (item_reply v) ∷ on_table (near_call s.policy key s.k) No_table_memory ∷ []))
FailsBy s at (Keep v from) did = did ≡ on_items (Keep_call v from at) No_item_memory ∷ []
FailsBy s at other did = ⊥

-- it is what the calls for this gain
abbrev pub IsFor : Wants → Gained → Type 0
IsFor Name gained.Name = Unit {0}
IsFor (Nodes target) (gained.Nodes nodes) = Unit {0}
IsFor (Peers key first) (gained.Peers list nodes) = Unit {0}
IsFor (Place key peer) (gained.Placed stored) = Unit {0}
IsFor (Place key peer) gained.HostFull = Unit {0}
IsFor (Place key peer) gained.Full = Unit {0}
IsFor (Item key) (gained.Item v nodes) = Unit {0}
IsFor (Keep v from) (gained.Kept stored) = Unit {0}
IsFor (Keep v from) gained.HostCrowded = Unit {0}
IsFor (Keep v from) gained.Crowded = Unit {0}
IsFor RefuseToken gained.RefuseToken = Unit {0}
IsFor RefuseMutable gained.RefuseMutable = Unit {0}
IsFor RefuseBig gained.RefuseBig = Unit {0}
IsFor RefuseMethod gained.RefuseMethod = Unit {0}
IsFor other g = ⊥

-- how many contacts there are
abbrev pub count_near : Near → ℕ
count_near (near.Listed list) = length list
count_near (near.Reported reports) = length reports

-- it is no more than a reply has room for
abbrev pub IsFew : Gained → Type 0
IsFew (gained.Nodes nodes) = count_near nodes ≤ 20
IsFew (gained.Peers list nodes) = (length list ≤ 50) × (count_near nodes ≤ 20)
IsFew (gained.Item v nodes) = IfSome v IsItem × (count_near nodes ≤ 20)
IsFew other = Unit {0}

-- the reply to what was gained
abbrev pub reply_gained : ServeSetting → Addr → ℕ → List ℕ → Gained → Message
reply_gained s from at tx gained.Name = named tx s.own
reply_gained s from at tx (gained.Nodes nodes) = found_from tx s nodes
reply_gained s from at tx (gained.Peers list nodes) = peers_from tx s from at list nodes
reply_gained s from at tx (gained.Placed stored) = named tx s.own
reply_gained s from at tx gained.HostFull = server_error tx
reply_gained s from at tx gained.Full = server_error tx
reply_gained s from at tx (gained.Item v nodes) = item_from tx s from at v nodes
reply_gained s from at tx (gained.Kept stored) = named tx s.own
reply_gained s from at tx gained.HostCrowded = server_error tx
reply_gained s from at tx gained.Crowded = server_error tx
reply_gained s from at tx gained.RefuseToken = bad_token tx
reply_gained s from at tx gained.RefuseMutable = no_mutable tx
reply_gained s from at tx gained.RefuseBig = too_big tx
reply_gained s from at tx gained.RefuseMethod = method_unknown tx

-- there may be no memory for it: for all but the reply that says that a peer or an item is held
abbrev pub MayFail : Gained → Type 0
MayFail (gained.Placed stored) = ⊥
MayFail (gained.Kept stored) = ⊥
MayFail other = Unit {0}
