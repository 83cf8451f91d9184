-- A worker's own calls grow by some, and then by others.
use Rattle.std.proofs.Common.{◌≡◌, ℕ, List, [], ◌∷◌, ◌++◌, refl, sym, ap, subst, ◌∙◌, append_assoc, append-nil}
use Rattle.std.specs.List.{flat_map}
use Rattle.std.proofs.lemmas.Grind.{flat_map-append}
use Rattle.kad_base.specs.declared.serial.Made.{Made}
use Rattle.kad_base.specs.Serial.{made, left_by, IsRun}
use Rattle.turn_book.specs.Turns.{PassState, GoesOnTo, mine}
use Rattle.contact_table.specs.declared.calls.TableCall.{TableCall}
use Rattle.contact_table.specs.declared.calls.TableReply.{TableReply}
use Rattle.peer_store.specs.declared.calls.PeerCall.{PeerCall}
use Rattle.peer_store.specs.declared.calls.PeerReply.{PeerReply}
use Rattle.item_store.specs.declared.calls.ItemCall.{ItemCall}
use Rattle.item_store.specs.declared.calls.ItemReply.{ItemReply}
use Rattle.node_serve.specs.Calls.{Did, on_table, on_peers, on_items}
use Rattle.node_serve.specs.Holding.{Runs}
use Rattle.serve_crew.specs.Hands.{Hands, TablePass, PeersPass, ItemsPass, SamePass, SameHands, Grew, Replied, at_table, at_peers, at_items, does, hands}

grows : {A B : Type 0} (f : A → List B) (old mid new : List B) (xs ys : List A) → mid ≡ old ++ flat_map f xs → new ≡ mid ++ flat_map f ys → new ≡ old ++ flat_map f (xs ++ ys)
grows f old mid new xs ys e g =
    g ∙ ap (λ l. l ++ flat_map f ys) e ∙ append_assoc old (flat_map f xs) (flat_map f ys) ∙ ap (λ l. old ++ l) (sym (flat_map-append f xs ys))

pub grew_none : (h : Hands) → Grew h h []
grew_none h = record { table = sym (append-nil (mine h.table)); peers = sym (append-nil (mine h.peers)); items = sym (append-nil (mine h.items)) }

pub grew_more : (old mid new : Hands) (xs ys : List Did) → SameHands old mid → Grew old mid xs → Grew mid new ys → Grew old new (xs ++ ys)
grew_more old mid new xs ys same a b = record {
  table = grows (at_table old.table.role) (mine old.table) (mine mid.table) (mine new.table) xs ys a.table (b.table ∙ ap (λ r. mine mid.table ++ flat_map (at_table r) ys) same.table.role);
  peers = grows (at_peers old.peers.role) (mine old.peers) (mine mid.peers) (mine new.peers) xs ys a.peers (b.peers ∙ ap (λ r. mine mid.peers ++ flat_map (at_peers r) ys) same.peers.role);
  items = grows (at_items old.items.role) (mine old.items) (mine mid.items) (mine new.items) xs ys a.items (b.items ∙ ap (λ r. mine mid.items ++ flat_map (at_items r) ys) same.items.role);
}

same_pass_more : {C R : Type 0} (old mid new : PassState C R) → SamePass old mid → SamePass mid new → SamePass old new
same_pass_more old mid new a b = record { turn = b.turn ∙ a.turn; role = b.role ∙ a.role }

pub same_pass_none : {C R : Type 0} (p : PassState C R) → SamePass p p
same_pass_none p = record { turn = refl; role = refl }

pub same_none : (h : Hands) → SameHands h h
same_none h = record { table = same_pass_none h.table; peers = same_pass_none h.peers; items = same_pass_none h.items }

pub same_more : (old mid new : Hands) → SameHands old mid → SameHands mid new → SameHands old new
same_more old mid new a b = record {
  table = same_pass_more old.table mid.table new.table a.table b.table;
  peers = same_pass_more old.peers mid.peers new.peers a.peers b.peers;
  items = same_pass_more old.items mid.items new.items a.items b.items;
}

-- ---- a call that one of the passes made

pub does_table : (t u : TablePass) (p : PeersPass) (i : ItemsPass) (call : TableCall) (reply : TableReply) → SamePass t u → Replied call reply t u → does (hands t p i) (on_table call reply) (hands u p i)
does_table t u p i call reply same h = (
  record { table = same; peers = same_pass_none p; items = same_pass_none i },
  record { table = h; peers = sym (append-nil (mine p)); items = sym (append-nil (mine i)) },
)

pub does_peers : (t : TablePass) (p q : PeersPass) (i : ItemsPass) (call : PeerCall) (reply : PeerReply) → SamePass p q → Replied call reply p q → does (hands t p i) (on_peers call reply) (hands t q i)
does_peers t p q i call reply same h = (
  record { table = same_pass_none t; peers = same; items = same_pass_none i },
  record { table = sym (append-nil (mine t)); peers = h; items = sym (append-nil (mine i)) },
)

pub does_items : (t : TablePass) (p : PeersPass) (i j : ItemsPass) (call : ItemCall) (reply : ItemReply) → SamePass i j → Replied call reply i j → does (hands t p i) (on_items call reply) (hands t p j)
does_items t p i j call reply same h = (
  record { table = same_pass_none t; peers = same_pass_none p; items = same },
  record { table = sym (append-nil (mine t)); peers = sym (append-nil (mine p)); items = h },
)

-- what the worker did is what its own calls grew by
pub runs_grew : (old new : Hands) (did : List Did) → Runs does old did new → SameHands old new × Grew old new did
runs_grew old new [] run = subst (λ h. SameHands old h × Grew old h []) (sym run) (same_none old, grew_none old)
runs_grew old new (d ∷ did) run =
    let one = run.1 in
    let rest = runs_grew run.0 new did run.2 in
    (same_more old run.0 new one.0 rest.0, grew_more old run.0 new (d ∷ []) did one.0 one.1 rest.1)

-- the last call of a run is a step
module _ {S C R : Type 0} (may : ℕ → C → Type 0) (step : S → ℕ → C → R → Type 0) (after : S → ℕ → C → R → S) where
  run_back : (s : S) (xs ys : List (Made C R)) → IsRun may step after s (xs ++ ys) → IsRun may step after (left_by after s xs) ys
  run_back s [] ys r = r
  run_back s (x ∷ xs) ys r = run_back (after s x.role x.call x.reply) xs ys r.2

  pub last_step : (s : S) (role : ℕ) (call : C) (reply : R) (old new : List (Made C R)) → IsRun may step after s new → (g : GoesOnTo (made role call reply) old new) → step (left_by after s (old ++ g.0)) role call reply
  last_step s role call reply old new run g = (run_back s (old ++ g.0) (made role call reply ∷ []) (subst (IsRun may step after s) g.1 run)).1
