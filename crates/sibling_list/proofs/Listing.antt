-- The siblings after a contact was put in or taken out.
use Rattle.std.proofs.Common.{◌≡◌, ◌≢◌, ℕ, ◌≤◌, List, [], ◌∷◌, ◌++◌, length, filter, Bool, not, cond, false, refl, sym, ap, ◌∙◌, subst, arith}
use Rattle.std.specs.List.Sorted.{IsStrictlySortedBy}
use Rattle.std.specs.Str.{bytes_eq}
use Rattle.std.proofs.lemmas.List.Kept.{IsStrictlySortedBy-filter}
use Rattle.std.proofs.lemmas.List.Elements.{All-filter, All-nil, All-push}
use Rattle.std.proofs.lemmas.List.Filters.{length-filter_both}
use Rattle.std.proofs.lemmas.Bool.Decides.{not_from_Decides}
use Rattle.std.proofs.lemmas.Slice.Eq.{bytes_eq-Decides}
use Rattle.kad_base.specs.Limits.{max_siblings}
use Rattle.kad_base.specs.declared.types.Id.{Id}
use Rattle.kad_base.specs.declared.types.Contact.{Contact}
use Rattle.kad_base.specs.Contacts.{same}
use Rattle.kad_distance.specs.Order.{closeness}
use Rattle.kad_distance.specs.KClosest.{k_closest}
use Rattle.kad_distance.proofs.Chosen.{closest_rises, closest_few, closest_all}
use Rattle.sibling_list.specs.Siblings.{SiblingList, IsSiblings, with_one}

pub none_yet : (own : Id) (S : List Contact) → S ≡ [] → IsSiblings (record { own = own; list = S })
unfolding IsStrictlySortedBy
none_yet own S e = subst (λ l. IsSiblings (record { own = own; list = l })) (sym e) (record { sorted = tt; few = grind arith; others = All-nil _ })

fewer : {K : Type 0} (p : K → Bool) (xs : List K) (n : ℕ) → length xs ≤ n → length (filter p xs) ≤ n
fewer p xs n f = let e = length-filter_both p (λ x. not (p x)) (λ x. refl) xs in omega arith

-- an identifier whose bytes differ is another
another : (c : Contact) (own : Id) → false ≡ bytes_eq c.id.0 own.0 → c.id ≢ own
another c own e same = not_from_Decides (bytes_eq c.id.0 own.0) (bytes_eq-Decides c.id.0 own.0) (sym e) (ap (λ (i : Id). i.0) same)

pub stays : (own : Id) (S T : List Contact) (n m : ℕ) (c : Contact) → T ≡ filter (λ other. not (same other c)) S → IsSiblings (record { own = own; list = S }) × (max_siblings ≤ n) → m ≡ n → IsSiblings (record { own = own; list = T }) × (max_siblings ≤ m)
stays own S T n m c e k same_room = (
  subst (λ l. IsSiblings (record { own = own; list = l })) (sym e)
      (record {
        sorted = IsStrictlySortedBy-filter (closeness own) _ S k.0.sorted;
        few = fewer (λ other. not (same other c)) S max_siblings k.0.few;
        others = All-filter (λ other. not (same other c)) (λ (x : Contact). x.id ≢ own) S k.0.others;
      }),
  grind (arith, k.1, same_room),
)

pub grows : (own : Id) (S T : List Contact) (n : ℕ) (c : Contact) → false ≡ bytes_eq c.id.0 own.0 → T ≡ k_closest own max_siblings (S ++ c ∷ []) → IsSiblings (record { own = own; list = S }) → max_siblings ≤ n → IsSiblings (record { own = own; list = T }) × (max_siblings ≤ n)
grows own S T n c d e k room = (
  subst (λ l. IsSiblings (record { own = own; list = l })) (sym e)
      (record {
        sorted = closest_rises own max_siblings (S ++ c ∷ []);
        few = closest_few own max_siblings (S ++ c ∷ []);
        others = closest_all own max_siblings (S ++ c ∷ []) (λ (x : Contact). x.id ≢ own) (All-push (λ (x : Contact). x.id ≢ own) S c k.others (another c own d));
      }),
  room,
)

-- what putting a contact in leaves is the definition's list
pub put_is : (s : SiblingList) (T : List Contact) (c : Contact) → false ≡ bytes_eq c.id.0 s.own.0 → T ≡ k_closest s.own max_siblings (s.list ++ c ∷ []) → T ≡ with_one s c
put_is s T c d e = e ∙ ap (λ b. cond b s.list (k_closest s.own max_siblings (s.list ++ c ∷ []))) d
