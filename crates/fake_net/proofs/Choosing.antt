-- The identifiers of the nodes, and the closest of those that are looked at one after the other.
use Rattle.std.proofs.Common.{◌≡◌, ℕ, ◌+◌, ◌*◌, ◌<◌, List, [], ◌∷◌, ◌++◌, length, get_or, sym, ap, ◌∙◌, arith}
use Rattle.std.specs.Prelude.{map, replicate}
use Rattle.std.proofs.lemmas.List.{length-replicate, get_or-replicate}
use Rattle.std.proofs.lemmas.List.FromFn.{map-range_with_len_more, get_or-map-range_with_len}
use Rattle.kad_base.specs.declared.types.Id.{Id}
use Rattle.kad_base.specs.declared.types.Contact.{Contact}
use Rattle.kad_base.specs.Words.{drawn_bytes}
use Rattle.kad_distance.specs.KClosest.{k_closest}
use Rattle.kad_distance.proofs.Chosen.{closest_after}
use Rattle.fake_net.specs.Network.{Network, id_of, numbers}
use Rattle.fake_net.specs.Counting.{CountsBelow}

pub ids_one : (seed : List ℕ) (i n : ℕ) (ids new : List Id) (id : Id) → ids ≡ map (id_of seed) (numbers i) → n ≡ i
    → id ≡ record { 0 = drawn_bytes seed (1000005 + 5 * n) 5 } → new ≡ ids ++ id ∷ [] → new ≡ map (id_of seed) (numbers (i + 1))
ids_one seed i n ids new id was at drawn is =
    let z : 0 + i ≡ i = omega arith in
    let here : id ≡ id_of seed i = drawn ∙ ap (λ (m : ℕ). id_of seed m) at in
    is
    ∙ ap (λ (l : List Id). l ++ id ∷ []) was
    ∙ ap (λ (x : Id). map (id_of seed) (numbers i) ++ x ∷ []) here
    ∙ sym (map-range_with_len_more (id_of seed) 0 i i z)

pub id_at : (seed : List ℕ) (count i : ℕ) (ids : List Id) (id : Id) → ids ≡ map (id_of seed) (numbers count) → i < count
    → id ≡ get_or ids i id → id ≡ id_of seed i
id_at seed count i ids id are lt is =
    let z : 0 + i ≡ i = omega arith in
    is ∙ ap (λ (l : List Id). get_or l i id) are ∙ get_or-map-range_with_len (id_of seed) 0 count i i id lt z

abbrev pub network : List ℕ → ℕ → ℕ → Network
network seed hostile count = record { seed = seed; count = count; hostile = hostile }

pub took_one : (target : Id) (k : ℕ) (S T : List Contact) (c d : Contact) (old new : List Contact) → T ≡ S ++ d ∷ [] → c ≡ d
    → old ≡ k_closest target k S → new ≡ k_closest target k (old ++ c ∷ []) → new ≡ k_closest target k T
took_one target k S T c d old new more same was is =
    is
    ∙ ap (λ (l : List Contact). k_closest target k (l ++ c ∷ [])) was
    ∙ ap (λ (x : Contact). k_closest target k (k_closest target k S ++ x ∷ [])) same
    ∙ sym (closest_after target k S (d ∷ []))
    ∙ ap (λ (l : List Contact). k_closest target k l) (sym more)

pub counts_start : (seed : List ℕ) (i : ℕ) (counts : List ℕ) → counts ≡ replicate 161 0 → CountsBelow seed i 0 counts
counts_start seed i counts e = record {
  long = ap (λ (l : List ℕ). length l) e ∙ length-replicate {A = ℕ} 161 0;
  counted = λ bits le. (let lt : bits < 161 = omega arith in ap (λ (l : List ℕ). get_or l bits 0) e ∙ get_or-replicate {A = ℕ} 161 bits 0 0 lt);
}
