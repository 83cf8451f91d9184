-- What is kept stays so through an add and a purge.
use Rattle.std.proofs.Common.{◌≡◌, ◌↔◌, ℕ, ◌≤◌, List, [], ◌∷◌, length, Result, Ok, Err, sym, subst, arith}
use Rattle.std.specs.List.{All}
use Rattle.std.specs.List.Sorted.{IsStrictlySortedBy}
use Rattle.std.specs.Map.{keys_of}
use Rattle.std.specs.BTreeMap.{insert_entry}
use Rattle.std.specs.Ordering.{match_ordering}
use Rattle.std.specs.declared.cmp.Ordering.{Ordering}
use Rattle.std.specs.declared.cmp.Ordering.TheVariants.{Less, Equal, Greater}
use Rattle.std.proofs.lemmas.List.Elements.{All-nil, All-cons, All-head, All-tail, All-filter}
use Rattle.kad_base.specs.Limits.{max_peers}
use Rattle.aged_map.specs.declared.aged.Stored.{Stored}
use Rattle.aged_map.specs.declared.aged.Stored.TheVariants.{Renewed}
use Rattle.peer_store.specs.Between.{IsBetween, AreBetween, IsKept}
use Rattle.peer_store.specs.Peers.{Pair, Held, PeersState, Holds, IsCrowded, HasNoPlace, HasPlace, pair_cmp, pair_host, is_fresh, with_add, purged}
use Rattle.aged_map.specs.PerHost.{HasFewOfEach}
use Rattle.peer_store.specs.declared.peers.PeerFault.{PeerFault}
use Rattle.peer_store.specs.declared.peers.PeerFault.TheVariants as fault

-- what holds of all, of the pair that is added, and whatever its last add is, holds after the add
All-with_add : (P : Held → Type 0) (held : List Held) (pair : Pair) (at : ℕ) → ((h : Held) → P h → P (h.0, at)) → P (pair, at) → All P held → All P (insert_entry pair_cmp held pair at)
All-with_add P [] pair at again here all = All-cons P (pair, at) [] here (All-nil P)
All-with_add P (h ∷ held) pair at again here all =
    by (pair_cmp pair h.0) (All-with_add P held pair at again here (All-tail P h held all))
  where
    by : (o : Ordering) → All P (insert_entry pair_cmp held pair at) → All P (match_ordering o ((pair, at) ∷ h ∷ held) ((h.0, at) ∷ held) (h ∷ insert_entry pair_cmp held pair at))
    by Less more = All-cons P (pair, at) (h ∷ held) here all
    by Equal more = All-cons P (h.0, at) held (again h (All-head P h held all)) (All-tail P h held all)
    by Greater more = All-cons P h (insert_entry pair_cmp held pair at) (All-head P h held all) more

pub kept_add : (s new : PeersState) (pair : Pair) (at : ℕ) → IsKept s → IsBetween pair.1 → new ≡ with_add s pair at
    → IsStrictlySortedBy pair_cmp (keys_of new.held) → length new.held ≤ max_peers → HasFewOfEach pair_host new → IsKept new
kept_add s new pair at kept between is sorted few each = record {
  peers = record { sorted = sorted; few = few; few_of_a_host = each };
  between = subst (λ n. AreBetween n.held) (sym is) (All-with_add (λ h. IsBetween h.0.1) s.held pair at (λ h b. b) between kept.between);
}

pub kept_purge : (s new : PeersState) (at : ℕ) → IsKept s → new ≡ purged s at → length new.held ≤ length s.held → IsStrictlySortedBy pair_cmp (keys_of new.held)
    → HasFewOfEach pair_host new → IsKept new
kept_purge s new at kept is fewer sorted each =
    let few : length new.held ≤ max_peers = let old : length s.held ≤ max_peers = kept.peers.few in omega arith in
    record {
      peers = record { sorted = sorted; few = few; few_of_a_host = each };
      between = subst (λ n. AreBetween n.held) (sym is) (All-filter (is_fresh at) (λ h. IsBetween h.0.1) s.held kept.between);
    }

-- memory runs out only if the pair isn't held and isn't refused
pub comes_new : (s : PeersState) (pair : Pair) (r : Result Stored PeerFault) → ◌≡◌ {A = Result Stored PeerFault} r (Err fault.NoMemory)
    → (◌≡◌ {A = Result Stored PeerFault} r (Ok Renewed)) ↔ Holds s pair → (◌≡◌ {A = Result Stored PeerFault} r (Err fault.Crowded)) ↔ IsCrowded s pair
    → (◌≡◌ {A = Result Stored PeerFault} r (Err fault.Full)) ↔ HasNoPlace s pair → HasPlace s pair
comes_new s pair r e renewed crowded full = record { absent = absent; free = λ l. (let f = crowded.1 l in absurd cc); room = λ l. (let f = full.1 l in absurd cc) }
  where
    absent : ¬ (Holds s pair)
    absent h = (let f = renewed.1 h in absurd cc)
