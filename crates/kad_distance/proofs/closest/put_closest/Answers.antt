use Rattle.std.proofs.Common.{◌≡◌, ℕ, ◌≤◌, List, [], ◌∷◌, ◌++◌, Bool, true, length, take, sym, ap, subst, ◌∙◌, arith}
use Rattle.std.specs.Prelude.{filter, insert}
use Rattle.std.specs.List.Sorted.{IsStrictlySortedBy}
use Rattle.std.specs.Ordering.{is_lt}
use Rattle.kad_base.specs.declared.types.Id.{Id}
use Rattle.kad_base.specs.declared.types.Contact.{Contact}
use Rattle.kad_distance.specs.Order.{closeness}
use Rattle.kad_distance.specs.KClosest.{place_in, new_at, k_closest}
use Rattle.kad_distance.proofs.Orders.{closeness_total}
use Rattle.kad_distance.proofs.Least.{place_count, put_past, put_old, put_new}
use Rattle.kad_distance.proofs.Chosen.{closest_put, closest_rises}
use Rattle.kad_distance.proofs.closest.put_closest.Goals as goal

-- the number that was counted in the slice is the place in the list
at_place : (target : Id) (S L : List Contact) (x : Contact) (n : ℕ) → IsStrictlySortedBy (closeness target) S → L ≡ S → n ≡ length (filter (λ y. is_lt (closeness target y x)) L) → n ≡ place_in (closeness target) S x
at_place target S L x n sorted same count =
    count ∙ ap (λ (l : List Contact). length (filter (λ y. is_lt (closeness target y x)) l)) same ∙ place_count (closeness_total target) S x sorted

-- what was seen of the slice at that place holds of the list
new_there : (target : Id) (S L : List Contact) (x : Contact) (n : ℕ) (b : Bool) → L ≡ S → n ≡ place_in (closeness target) S x → b ≡ new_at (closeness target) L n x → new_at (closeness target) S (place_in (closeness target) S x) x ≡ b
new_there target S L x n b same placed seen =
    ap (λ (m : ℕ). new_at (closeness target) S m x) (sym placed) ∙ ap (λ (l : List Contact). new_at (closeness target) l n x) (sym same) ∙ sym seen

-- a new contact that was put in its place
put_there : (target : Id) (k : ℕ) (S new : List Contact) (x : Contact) (n : ℕ) → IsStrictlySortedBy (closeness target) S → n ≡ place_in (closeness target) S x → new_at (closeness target) S (place_in (closeness target) S x) x ≡ true → new ≡ take k (insert S n x) → new ≡ k_closest target k (S ++ x ∷ [])
put_there target k S new x n sorted placed is_new is =
    is
    ∙ ap (λ (m : ℕ). take k (insert S m x)) placed
    ∙ ap (take k) (put_new (closeness target) S x is_new)
    ∙ sym (closest_put target k S x sorted)

pub returns-then-at-k-clause-items : goal.returns-then-at-k-clause-items
returns-then-at-k-clause-items c =
    let target = c.args.target.now in
    let S = c.args.near.now.items in
    let x = c.args.contact.now in
    let placed : c.place_from_end-at.result ≡ place_in (closeness target) S x = at_place target S _ x _ c.requires.sorted c.as_slice-2.ensures.value c.place_from_end-at.ensures.count in
    let few : length S ≤ c.args.k = grind (arith, c.requires.few) in
    let far : c.args.k ≤ place_in (closeness target) S x = grind (arith, placed, c.if-at-k.true) in
    put_past (closeness target) c.args.k S x few far ∙ sym (closest_put target c.args.k S x c.requires.sorted)

pub returns-then-is_new-clause-items : goal.returns-then-is_new-clause-items
returns-then-is_new-clause-items c =
    let target = c.args.target.now in
    let S = c.args.near.now.items in
    let x = c.args.contact.now in
    let placed = at_place target S _ x _ c.requires.sorted c.as_slice-2.ensures.value c.place_from_end-at.ensures.count in
    let new = new_there target S _ x _ _ c.as_slice-3.ensures.value placed c.if-is_new.ensures in
    put_there target c.args.k S _ x _ c.requires.sorted placed new c.insert_at.ensures.items

pub returns-then-is_new-clause-sorted : goal.returns-then-is_new-clause-sorted
returns-then-is_new-clause-sorted c =
    let target = c.args.target.now in
    let S = c.args.near.now.items in
    let x = c.args.contact.now in
    let placed = at_place target S _ x _ c.requires.sorted c.as_slice-2.ensures.value c.place_from_end-at.ensures.count in
    let new = new_there target S _ x _ _ c.as_slice-3.ensures.value placed c.if-is_new.ensures in
    subst (IsStrictlySortedBy (closeness target)) (sym (put_there target c.args.k S _ x _ c.requires.sorted placed new c.insert_at.ensures.items))
    (closest_rises target c.args.k (S ++ x ∷ []))

pub returns-else-is_new-clause-items : goal.returns-else-is_new-clause-items
returns-else-is_new-clause-items c =
    let target = c.args.target.now in
    let S = c.args.near.now.items in
    let x = c.args.contact.now in
    let placed = at_place target S _ x _ c.requires.sorted c.as_slice-2.ensures.value c.place_from_end-at.ensures.count in
    let old = new_there target S _ x _ _ c.as_slice-3.ensures.value placed c.if-is_new.ensures in
    put_old (closeness target) c.args.k S x (grind (arith, c.requires.few)) old ∙ sym (closest_put target c.args.k S x c.requires.sorted)
