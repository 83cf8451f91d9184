-- What was done, from the calls that were made.
use Rattle.std.proofs.Common.{◌≡◌, ◌≢◌, ℕ, List, [], ◌∷◌, ◌++◌, map, refl, sym, ap, subst, ◌∙◌}
use Rattle.kad_base.specs.declared.types.Id.{Id}
use Rattle.contact_table.specs.Told.{HasMemory}
use Rattle.contact_table.specs.declared.calls.TableCall.{TableCall}
use Rattle.contact_table.specs.declared.calls.TableReply.{TableReply}
use Rattle.contact_table.specs.declared.calls.TableReply.TheVariants.{Seen, Gone, List as List_reply, Reports as Reports_reply, Crowded as Host_turned_away, NoMemory}
use Rattle.peer_store.specs.Peers.{PeersState, listed_from}
use Rattle.peer_store.specs.declared.calls.PeerCall.{PeerCall}
use Rattle.peer_store.specs.declared.calls.PeerCall.TheVariants.{List as List_call}
use Rattle.peer_store.specs.declared.calls.PeerReply.{PeerReply}
use Rattle.peer_store.specs.declared.calls.PeerReply.TheVariants.{Listed, Stored, Crowded as Host_full, Full, NoMemory as No_room}
use Rattle.item_store.specs.Items.{ItemsState, handed_out}
use Rattle.item_store.specs.ItemSteps.{ItemStep}
use Rattle.item_store.specs.declared.calls.ItemCall.{ItemCall}
use Rattle.item_store.specs.declared.calls.ItemCall.TheVariants.{Get as Get_call}
use Rattle.item_store.specs.declared.calls.ItemReply.{ItemReply}
use Rattle.item_store.specs.declared.calls.ItemReply.TheVariants.{Held as Held_reply, Absent, Stored as Kept_reply, Crowded as Host_crowded, Full as Crowded, NoMemory as No_item_memory}
use Rattle.node_serve.specs.Calls.{Call, of_table, of_peers, of_items, Did, on_table, on_peers, on_items, call_of, HasRoom, HasItemRoom, item_by}
use Rattle.peer_store.specs.PeersStep.{PeersStep}

-- in two parts
pub record Cut (xs ys : List Call) (did : List Did) : Type 0 where
  pub front : List Did
  pub back : List Did
  pub whole : did ≡ front ++ back
  pub first : map call_of front ≡ xs
  pub rest : map call_of back ≡ ys

pub cut : (xs ys : List Call) (did : List Did) → map call_of did ≡ xs ++ ys → Cut xs ys did
cut [] ys did e = record { front = []; back = did; whole = refl; first = refl; rest = e }
cut (x ∷ xs) ys [] e = absurd cc
cut (x ∷ xs) ys (d ∷ did) e =
    let same : call_of d ≡ x = cc in
    let others : map call_of did ≡ xs ++ ys = cc in
    let c = cut xs ys did others in
    record {
      front = d ∷ c.front;
      back = c.back;
      whole = ap (λ l. d ∷ l) c.whole;
      first = ap (λ y. y ∷ map call_of c.front) same ∙ ap (λ l. x ∷ l) c.first;
      rest = c.rest;
    }

pub made_none : (did : List Did) → map call_of did ≡ [] → did ≡ []
made_none [] e = refl
made_none (d ∷ did) e = absurd cc

-- one call of the table
pub record IsTable (call : TableCall) (d : Did) : Type 0 where
  pub reply : TableReply
  pub is : d ≡ on_table call reply

pub is_table : (call : TableCall) (d : Did) → call_of d ≡ of_table call → IsTable call d
is_table call (on_table other reply) e = (let same : other ≡ call = cc in record { reply = reply; is = ap (λ c. on_table c reply) same })
is_table call (on_peers other reply) e = absurd cc
is_table call (on_items other reply) e = absurd cc

-- one call of the peers
pub record IsPeer (call : PeerCall) (d : Did) : Type 0 where
  pub reply : PeerReply
  pub is : d ≡ on_peers call reply

pub is_peer : (call : PeerCall) (d : Did) → call_of d ≡ of_peers call → IsPeer call d
is_peer call (on_table other reply) e = absurd cc
is_peer call (on_peers other reply) e = (let same : other ≡ call = cc in record { reply = reply; is = ap (λ c. on_peers c reply) same })
is_peer call (on_items other reply) e = absurd cc

-- one call of the items
pub record IsItemCall (call : ItemCall) (d : Did) : Type 0 where
  pub reply : ItemReply
  pub is : d ≡ on_items call reply

pub is_item : (call : ItemCall) (d : Did) → call_of d ≡ of_items call → IsItemCall call d
is_item call (on_table other reply) e = absurd cc
is_item call (on_peers other reply) e = absurd cc
is_item call (on_items other reply) e = (let same : other ≡ call = cc in record { reply = reply; is = ap (λ c. on_items c reply) same })

pub record OneTable (call : TableCall) (did : List Did) : Type 0 where
  pub reply : TableReply
  pub is : did ≡ on_table call reply ∷ []

pub one_table : (call : TableCall) (did : List Did) → map call_of did ≡ of_table call ∷ [] → OneTable call did
one_table call [] e = absurd cc
one_table call (d ∷ did) e =
    let same : call_of d ≡ of_table call = cc in
    let none_left : map call_of did ≡ [] = cc in
    let t = is_table call d same in
    record { reply = t.reply; is = ap (λ l. d ∷ l) (made_none did none_left) ∙ ap (λ x. x ∷ []) t.is }

pub record OnePeer (call : PeerCall) (did : List Did) : Type 0 where
  pub reply : PeerReply
  pub is : did ≡ on_peers call reply ∷ []

pub one_peer : (call : PeerCall) (did : List Did) → map call_of did ≡ of_peers call ∷ [] → OnePeer call did
one_peer call [] e = absurd cc
one_peer call (d ∷ did) e =
    let same : call_of d ≡ of_peers call = cc in
    let none_left : map call_of did ≡ [] = cc in
    let t = is_peer call d same in
    record { reply = t.reply; is = ap (λ l. d ∷ l) (made_none did none_left) ∙ ap (λ x. x ∷ []) t.is }

-- one of the peers, and then one of the table
pub record PeerAndTable (peer : PeerCall) (table : TableCall) (did : List Did) : Type 0 where
  pub peers : PeerReply
  pub nodes : TableReply
  pub is : did ≡ on_peers peer peers ∷ on_table table nodes ∷ []

pub peer_and_table : (peer : PeerCall) (table : TableCall) (did : List Did) → map call_of did ≡ of_peers peer ∷ of_table table ∷ [] → PeerAndTable peer table did
peer_and_table peer table [] e = absurd cc
peer_and_table peer table (d ∷ did) e =
    let same : call_of d ≡ of_peers peer = cc in
    let others : map call_of did ≡ of_table table ∷ [] = cc in
    let p = is_peer peer d same in
    let t = one_table table did others in
    record { peers = p.reply; nodes = t.reply; is = ap (λ l. d ∷ l) t.is ∙ ap (λ x. x ∷ on_table table t.reply ∷ []) p.is }

pub record OneItem (call : ItemCall) (did : List Did) : Type 0 where
  pub reply : ItemReply
  pub is : did ≡ on_items call reply ∷ []

pub one_item : (call : ItemCall) (did : List Did) → map call_of did ≡ of_items call ∷ [] → OneItem call did
one_item call [] e = absurd cc
one_item call (d ∷ did) e =
    let same : call_of d ≡ of_items call = cc in
    let none_left : map call_of did ≡ [] = cc in
    let t = is_item call d same in
    record { reply = t.reply; is = ap (λ l. d ∷ l) (made_none did none_left) ∙ ap (λ x. x ∷ []) t.is }

-- one of the items, and then one of the table
pub record ItemAndTable (item : ItemCall) (table : TableCall) (did : List Did) : Type 0 where
  pub items : ItemReply
  pub nodes : TableReply
  pub is : did ≡ on_items item items ∷ on_table table nodes ∷ []

pub item_and_table : (item : ItemCall) (table : TableCall) (did : List Did) → map call_of did ≡ of_items item ∷ of_table table ∷ [] → ItemAndTable item table did
item_and_table item table [] e = absurd cc
item_and_table item table (d ∷ did) e =
    let same : call_of d ≡ of_items item = cc in
    let others : map call_of did ≡ of_table table ∷ [] = cc in
    let p = is_item item d same in
    let t = one_table table did others in
    record { items = p.reply; nodes = t.reply; is = ap (λ l. d ∷ l) t.is ∙ ap (λ x. x ∷ on_table table t.reply ∷ []) p.is }

-- ---- what was replied, where there was memory

pub listed_is : (held : PeersState) (key : Id) (at : ℕ) (first : List ℕ) (reply : PeerReply) → PeersStep held 0 (List_call key at first) reply → HasRoom reply → reply ≡ Listed (listed_from held key at first)
listed_is held key at first (Listed list) step memory = ap Listed step
listed_is held key at first No_room step memory = absurd memory
listed_is held key at first (Stored stored) step memory = absurd step
listed_is held key at first Host_full step memory = absurd step
listed_is held key at first Full step memory = absurd step

pub item_is : (held : ItemsState) (key : Id) (at : ℕ) (reply : ItemReply) → ItemStep held 0 (Get_call key at) reply → HasItemRoom reply → item_by reply ≡ handed_out held key at
item_is held key at (Held_reply v) step memory = sym step.0
item_is held key at Absent step memory = sym step
item_is held key at No_item_memory step memory = absurd memory
item_is held key at (Kept_reply stored) step memory = absurd step
item_is held key at Host_crowded step memory = absurd step
item_is held key at Crowded step memory = absurd step

pub had_memory : (x : TableReply) → x ≢ NoMemory → HasMemory x
had_memory (Seen seen) h = tt
had_memory (Gone gone) h = tt
had_memory (List_reply list) h = tt
had_memory (Reports_reply reports) h = tt
had_memory Host_turned_away h = tt
had_memory NoMemory h = absurd (h refl)

pub not_wanting : (x : TableReply) → HasMemory x → x ≢ NoMemory
not_wanting x h e = subst HasMemory e h
