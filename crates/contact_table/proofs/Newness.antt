-- Whether an identifier is new to the buckets, and what a contact whose identifier isn't does to a table.
use Rattle.std.proofs.Common.{◌≡◌, ◌≢◌, ◌↔◌, ℕ, ◌||◌, List, [], ◌∷◌, Bool, true, false, not, refl, sym, ap, subst, ◌∙◌}
use Rattle.std.specs.List.{All, list_any}
use Rattle.std.proofs.lemmas.List.Elements.{All-head, All-tail, All-cons, All-nil}
use Rattle.kad_base.specs.declared.types.Id.{Id}
use Rattle.kad_base.specs.declared.types.Contact.{Contact}
use Rattle.kad_base.specs.Contacts.{same, among}
use Rattle.kad_base.proofs.Contacts.{same_exact}
use Rattle.bucket_tree.specs.Rows.{RowState, SoundRows, contact_of, live_of, same_id}
use Rattle.bucket_tree.specs.BucketSteps.{knows_id}
use Rattle.bucket_tree.specs.Trees.{IsRowOf}
use Rattle.bucket_tree.proofs.Counted.{any-map}
use Rattle.bucket_tree.proofs.Found.{known_there}
use Rattle.bucket_tree.proofs.Ids.{same_id-exact, same_id-itself}
use Rattle.contact_table.specs.Crowded.{IsNew}

module _ {X : Type 0} (q : X → Bool) where
  pub all-none : (P : X → Type 0) → ((x : X) → q x ≡ false → P x) → (xs : List X) → list_any q xs ≡ false → All P xs
  all-none P f [] e = All-nil P
  all-none P f (x ∷ xs) e = go (q x) refl e (all-none P f xs)
    where
      go : (t : Bool) → q x ≡ t → (t || list_any q xs) ≡ false → (list_any q xs ≡ false → All P xs) → All P (x ∷ xs)
      go true h e r = absurd cc
      go false h e r = All-cons P x xs (f x h) (r e)

  pub some-passes : (P : X → Type 0) (R : Type 0) → ((x : X) → q x ≡ true → P x → R) → (xs : List X) → list_any q xs ≡ true → All P xs → R
  some-passes P R f [] e a = absurd cc
  some-passes P R f (x ∷ xs) e a = go (q x) refl e (λ h. some-passes P R f xs h (All-tail P x xs a))
    where
      go : (t : Bool) → q x ≡ t → (t || list_any q xs) ≡ true → (list_any q xs ≡ true → R) → R
      go true h e r = f x h (All-head P x xs a)
      go false h e r = r e

apart : (x y : Id) → same_id x y ≡ false → x ≢ y
apart x y e f = let t : same_id x y ≡ true = ap (same_id x) (sym f) ∙ same_id-itself x in absurd cc

-- a contact of a list
pub passes-among : (P : Contact → Type 0) (cs : List Contact) (c : Contact) → among cs c ≡ true → All P cs → P c
passes-among P cs c e a = some-passes (same c) P (P c) (λ x h p. subst P (sym (same_exact c x h)) p) cs e a

pub own-old : (own : Id) (rows : List RowState) (c : Contact) → same_id c.id own ≡ true → ¬ IsNew own rows c
own-old own rows c e new = new.other (same_id-exact c.id own e)

pub known-old : (own : Id) (rows : List RowState) (c : Contact) → list_any (λ (x : Contact). same_id x.id c.id) (live_of rows) ≡ true → ¬ IsNew own rows c
known-old own rows c e new = some-passes (λ (x : Contact). same_id x.id c.id) (λ (x : Contact). x.id ≢ c.id) ⊥ (λ x h other. other (same_id-exact x.id c.id h)) (live_of rows) e new.unknown

pub unknown-new : (own : Id) (rows : List RowState) (c : Contact) → same_id c.id own ≡ false → list_any (λ (x : Contact). same_id x.id c.id) (live_of rows) ≡ false → IsNew own rows c
unknown-new own rows c other none = record {
  other = apart c.id own other;
  unknown = all-none (λ (x : Contact). same_id x.id c.id) (λ (x : Contact). x.id ≢ c.id) (λ x h. apart x.id c.id h) (live_of rows) none;
}

-- what its own row has decides
pub row-new : (own : Id) (k b : ℕ) (rows : List RowState) (row : RowState) (c : Contact) → SoundRows own k b rows → IsRowOf c.id rows row → same_id c.id own ≡ false → knows_id row c.id ≡ false → IsNew own rows c
row-new own k b rows row c s r other none =
    unknown-new own rows c other (sym (known_there own k b c.id rows row s r) ∙ any-map contact_of (λ (x : Contact). same_id x.id c.id) row.live ∙ none)

-- a contact is new or isn't
pub new-or-old : (R : Type 0) (own : Id) (rows : List RowState) (c : Contact) → (IsNew own rows c → R) → ((¬ IsNew own rows c) → R) → R
new-or-old R own rows c f g = go (same_id c.id own) (list_any (λ (x : Contact). same_id x.id c.id) (live_of rows)) refl refl
  where
    go : (s t : Bool) → same_id c.id own ≡ s → list_any (λ (x : Contact). same_id x.id c.id) (live_of rows) ≡ t → R
    go true t e h = g (own-old own rows c e)
    go false true e h = g (known-old own rows c h)
    go false false e h = f (unknown-new own rows c e h)

-- an identifier that isn't the own one is new exactly if no live contact has it
pub known-if : (own : Id) (rows : List RowState) (c : Contact) (t : Bool) → same_id c.id own ≡ false → t ≡ list_any (λ (x : Contact). same_id x.id c.id) (live_of rows) → (not t ≡ true) ↔ IsNew own rows c
known-if own rows c true e is = (λ h. absurd cc, λ new. absurd (known-old own rows c (sym is) new))
known-if own rows c false e is = (λ h. unknown-new own rows c e (sym is), λ new. refl)
