-- Contacts that are siblings, put in one by one, give themselves.
use Rattle.std.proofs.Common.{◌≡◌, ◌≢◌, ℕ, ◌+◌, ◌<◌, ◌≤◌, List, [], ◌∷◌, ◌++◌, length, take, get_or, Bool, true, false, cond, refl, sym, ap, subst, ◌∙◌, arith}
use Rattle.std.specs.List.Sorted.{IsStrictlySortedBy}
use Rattle.std.specs.Str.{bytes_eq}
use Rattle.std.proofs.lemmas.List.{take_more, length-take}
use Rattle.std.proofs.lemmas.Slice.Eq.{bytes_eq-Decides}
use Rattle.kad_base.specs.Limits.{max_siblings}
use Rattle.kad_base.specs.declared.types.Id.{Id}
use Rattle.kad_base.specs.declared.types.Contact.{Contact}
use Rattle.kad_distance.specs.Order.{closeness}
use Rattle.kad_distance.specs.KClosest.{k_closest}
use Rattle.kad_distance.proofs.Chosen.{closest_rises, closest_front, closest_kept}
use Rattle.sibling_list.specs.Siblings.{SiblingList, IsSiblings, with_one}

unlike : (xs ys : List ℕ) → xs ≢ ys → bytes_eq xs ys ≡ false
unlike xs ys ne = go (bytes_eq xs ys) refl
  where
    go : (t : Bool) → bytes_eq xs ys ≡ t → t ≡ false
    go true e = absurd (ne ((bytes_eq-Decides xs ys).0 e))
    go false e = refl

abbrev id_of : List ℕ → Id
id_of bytes = record { 0 = bytes }

take_sorted : (own : Id) (n : ℕ) (S : List Contact) → IsStrictlySortedBy (closeness own) S → IsStrictlySortedBy (closeness own) (take n S)
take_sorted own n S s = subst (IsStrictlySortedBy (closeness own)) (closest_front own n S s) (closest_rises own n S)

pub next_put : (own : Id) (S : List Contact) (i : ℕ) (c d : Contact) (old new : SiblingList) → IsSiblings (record { own = own; list = S }) → i < length S → c ≡ get_or S i d
    → old.own ≡ own → old.list ≡ take i S → new.list ≡ with_one old c → new.list ≡ take (i + 1) S
next_put own S i c d old new s lt is same so_far put =
    let other : c.id ≢ old.own = λ e. s.others i d lt (ap (λ (x : Contact). x.id) (sym is) ∙ e ∙ same) in
    let differs : bytes_eq c.id.0 old.own.0 ≡ false = unlike c.id.0 old.own.0 (λ e. other (ap id_of e)) in
    let more : take (i + 1) S ≡ take i S ++ c ∷ [] = take_more S i d lt ∙ ap (λ (x : Contact). take i S ++ x ∷ []) (sym is) in
    let few : length (take (i + 1) S) ≤ max_siblings = (let l = length-take (i + 1) S in let f = s.few in grind arith) in
    put ∙ ap (λ (t : Bool). cond t old.list (k_closest old.own max_siblings (old.list ++ c ∷ []))) differs
    ∙ ap (λ (x : Id). k_closest x max_siblings (old.list ++ c ∷ [])) same
    ∙ ap (λ (l : List Contact). k_closest own max_siblings (l ++ c ∷ [])) so_far
    ∙ ap (k_closest own max_siblings) (sym more)
    ∙ closest_kept own max_siblings (take (i + 1) S) (take_sorted own (i + 1) S s.sorted) few
