-- The k closest that are gathered a part at a time.
use Rattle.std.proofs.Common.{◌≡◌, ℕ, ◌+◌, ◌<◌, inl, inr, List, [], ◌∷◌, ◌++◌, length, take, map, get_or, sym, ap, ◌∙◌}
use Rattle.std.specs.List.{Contains}
use Rattle.std.proofs.lemmas.List.{append_assoc, take_more, map-append}
use Rattle.bucket_tree.specs.declared.types.Live.{Live}
use Rattle.bucket_tree.specs.Rows.{contact_of}
use Rattle.std.proofs.lemmas.List.Elements.{Contains-append_cases, Contains-append_left, Contains-append_right}
use Rattle.kad_base.specs.declared.types.Id.{Id}
use Rattle.kad_base.specs.declared.types.Contact.{Contact}
use Rattle.kad_distance.specs.KClosest.{k_closest}
use Rattle.kad_distance.proofs.Chosen.{closest_after, closest_same}

-- the second half was gathered first
pub closest_swapped : (target : Id) (k : ℕ) (S T U N M : List Contact) → N ≡ k_closest target k (S ++ U) → M ≡ k_closest target k (N ++ T) → M ≡ k_closest target k (S ++ (T ++ U))
closest_swapped target k S T U N M e f =
    f ∙ ap (λ (l : List Contact). k_closest target k (l ++ T)) e ∙ sym (closest_after target k (S ++ U) T)
    ∙ closest_same target k (S ++ U ++ T) (S ++ (T ++ U)) (λ c. (there c, back c))
  where
    there : (c : Contact) → Contains (S ++ U ++ T) c → Contains (S ++ (T ++ U)) c
    there c h = elim (Contains-append_cases (S ++ U) T c h) [
      | inl g ↦ elim (Contains-append_cases S U c g) [ inl s ↦ Contains-append_left S (T ++ U) c s | inr u ↦ Contains-append_right S (T ++ U) c (Contains-append_right T U c u) ]
      | inr t ↦ Contains-append_right S (T ++ U) c (Contains-append_left T U c t)
    ]

    back : (c : Contact) → Contains (S ++ (T ++ U)) c → Contains (S ++ U ++ T) c
    back c h = elim (Contains-append_cases S (T ++ U) c h) [
      | inl s ↦ Contains-append_left (S ++ U) T c (Contains-append_left S U c s)
      | inr g ↦ elim (Contains-append_cases T U c g) [ inl t ↦ Contains-append_right (S ++ U) T c t | inr u ↦ Contains-append_left (S ++ U) T c (Contains-append_right S U c u) ]
    ]

-- the first half was
pub closest_in_turn : (target : Id) (k : ℕ) (S T U N M : List Contact) → N ≡ k_closest target k (S ++ T) → M ≡ k_closest target k (N ++ U) → M ≡ k_closest target k (S ++ (T ++ U))
closest_in_turn target k S T U N M e f =
    f ∙ ap (λ (l : List Contact). k_closest target k (l ++ U)) e ∙ sym (closest_after target k (S ++ T) U) ∙ ap (k_closest target k) (append_assoc S T U)

-- a step of a loop over entries
pub closest_entry : (target : Id) (k : ℕ) (S : List Contact) (es : List Live) (i : ℕ) (d : Live) (old new : List Contact) → i < length es → old ≡ k_closest target k (S ++ map contact_of (take i es)) → new ≡ k_closest target k (old ++ (get_or es i d).contact ∷ [])
    → new ≡ k_closest target k (S ++ map contact_of (take (i + 1) es))
closest_entry target k S es i d old new lt was is =
    let x = (get_or es i d).contact in
    is ∙ ap (λ (l : List Contact). k_closest target k (l ++ x ∷ [])) was
    ∙ sym (closest_after target k (S ++ map contact_of (take i es)) (x ∷ []))
    ∙ ap (k_closest target k) (append_assoc S (map contact_of (take i es)) (x ∷ []) ∙ ap (λ (l : List Contact). S ++ l) (sym (ap (map contact_of) (take_more es i d lt) ∙ map-append contact_of (take i es) (get_or es i d ∷ []))))

-- a step of a loop over contacts
pub closest_more : (target : Id) (k : ℕ) (S T : List Contact) (i : ℕ) (d : Contact) (old new : List Contact) → i < length T → old ≡ k_closest target k (S ++ take i T) → new ≡ k_closest target k (old ++ get_or T i d ∷ []) → new ≡ k_closest target k (S ++ take (i + 1) T)
closest_more target k S T i d old new lt was is =
    is ∙ ap (λ (l : List Contact). k_closest target k (l ++ get_or T i d ∷ [])) was
    ∙ sym (closest_after target k (S ++ take i T) (get_or T i d ∷ []))
    ∙ ap (k_closest target k) (append_assoc S (take i T) (get_or T i d ∷ []) ∙ ap (λ (l : List Contact). S ++ l) (sym (take_more T i d lt)))

-- the live contacts, and then the others
pub closest_both : (target : Id) (k : ℕ) (S T near found : List Contact) → near ≡ k_closest target k S → found ≡ k_closest target k (near ++ T) → found ≡ k_closest target k (S ++ T)
closest_both target k S T near found e f = f ∙ ap (λ (l : List Contact). k_closest target k (l ++ T)) e ∙ sym (closest_after target k S T)
