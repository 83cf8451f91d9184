-- What settles on a path goes by the path's own entries and by who was asked, where only an ask is a claim.
use Rattle.std.proofs.Common.{◌≡◌, ℕ, ◌<◌, ◌≤◌, List, [], ◌∷◌, ◌++◌, length, Bool, true, false, cond, inl, inr, refl, sym, ap, subst, ◌∙◌}
use Rattle.std.specs.Prelude.{filter, drop, slice_get}
use Rattle.std.proofs.lemmas.Bool.{eqb-true}
use Rattle.kad_base.specs.Limits.{max_path_contacts}
use Rattle.kad_base.specs.declared.types.ClaimRule.{ClaimRule}
use Rattle.kad_base.specs.declared.types.ClaimRule.TheVariants.{Asked}
use Rattle.kad_base.specs.declared.types.Contact.{Contact}
use Rattle.kad_base.specs.Contacts.{among}
use Rattle.kad_base.specs.Hosts.{host, at_host}
use Rattle.claim_book.specs.declared.types.Setting.{Setting}
use Rattle.claim_book.specs.declared.types.Entry.{Entry}
use Rattle.claim_book.specs.declared.types.Entry.TheVariants.{Seed, Heard, Note, Taken, Held, Turned, Rejected, Skipped}
use Rattle.claim_book.specs.Journal.{path_of, things_in, things_of, settles_on, path, things, settled, unsettled, first_unsettled}
use Rattle.claim_book.specs.Crowded.{IsCrowded}
use Rattle.claim_book.specs.Legal.{Believed, Fits, IsFree, IsHeldBy, is_of}
use Rattle.claim_book.specs.Lineage.{IsAlike, SettlesByAsks}

-- what is not of path p gives it nothing and settles nothing there
path_only : (p : ℕ) (e : Entry) → is_of p e ≡ false → path_of p e ≡ []
path_only p (Seed q c) h = ap (λ b. cond b (c ∷ []) []) h
path_only p (Taken q c) h = ap (λ b. cond b (c ∷ []) []) h
path_only p other h = refl

things_only : (p : ℕ) (e : Entry) → is_of p e ≡ false → things_of p e ≡ []
things_only p (Heard q c reports) h = ap (λ b. cond b (things_in c reports) []) h
things_only p other h = refl

settles_only : (p : ℕ) (e : Entry) → is_of p e ≡ false → settles_on p e ≡ false
settles_only p (Note q c) h = h
settles_only p (Taken q c) h = h
settles_only p (Held q c by) h = h
settles_only p (Turned q c) h = h
settles_only p (Rejected q r) h = h
settles_only p (Skipped q r) h = h
settles_only p other h = refl

path_own : (p : ℕ) (J : List Entry) → path p (filter (is_of p) J) ≡ path p J
unfolding path
path_own p [] = refl
path_own p (e ∷ J) = by_test (is_of p e) refl (path_own p J)
  where
    by_test : (b : Bool) → is_of p e ≡ b → path p (filter (is_of p) J) ≡ path p J → path p (cond b (e ∷ filter (is_of p) J) (filter (is_of p) J)) ≡ path_of p e ++ path p J
    by_test true t rest = ap (λ l. path_of p e ++ l) rest
    by_test false t rest = rest ∙ ap (λ l. l ++ path p J) (sym (path_only p e t))

things_own : (p : ℕ) (J : List Entry) → things p (filter (is_of p) J) ≡ things p J
unfolding things
things_own p [] = refl
things_own p (e ∷ J) = by_test (is_of p e) refl (things_own p J)
  where
    by_test : (b : Bool) → is_of p e ≡ b → things p (filter (is_of p) J) ≡ things p J → things p (cond b (e ∷ filter (is_of p) J) (filter (is_of p) J)) ≡ things_of p e ++ things p J
    by_test true t rest = ap (λ l. things_of p e ++ l) rest
    by_test false t rest = rest ∙ ap (λ l. l ++ things p J) (sym (things_only p e t))

settled_own : (p : ℕ) (J : List Entry) → settled p (filter (is_of p) J) ≡ settled p J
unfolding settled
settled_own p [] = refl
settled_own p (e ∷ J) = by_test (is_of p e) refl (settled_own p J)
  where
    by_test : (b : Bool) → is_of p e ≡ b → settled p (filter (is_of p) J) ≡ settled p J → settled p (cond b (e ∷ filter (is_of p) J) (filter (is_of p) J)) ≡ cond (settles_on p e) (e ∷ settled p J) (settled p J)
    by_test true t rest = ap (λ l. cond (settles_on p e) (e ∷ l) l) rest
    by_test false t rest = rest ∙ ap (λ b. cond b (e ∷ settled p J) (settled p J)) (sym (settles_only p e t))

path_alike : (p : ℕ) (J K : List Entry) → IsAlike p J K → path p J ≡ path p K
path_alike p J K a = sym (path_own p J) ∙ ap (path p) a.on_path ∙ path_own p K

first_alike : (p : ℕ) (J K : List Entry) → IsAlike p J K → first_unsettled p J ≡ first_unsettled p K
unfolding first_unsettled unsettled
first_alike p J K a =
    let gives = sym (things_own p J) ∙ ap (things p) a.on_path ∙ things_own p K in
    let took = sym (settled_own p J) ∙ ap (settled p) a.on_path ∙ settled_own p K in
    ap (λ l. slice_get (drop (length l) (things p J)) 0) took ∙ ap (λ l. slice_get (drop (length (settled p K)) l) 0) gives

believed_alike : (s : Setting) (p : ℕ) (J K : List Entry) (c : Contact) → IsAlike p J K → Believed s J p c → Believed s K p c
believed_alike s p J K c a b = record { report = b.report; contact = b.contact; first = sym (first_alike p J K a) ∙ b.first; usable = b.usable; passes = b.passes }

crowded_alike : (s : Setting) (p : ℕ) (J K : List Entry) (c : Contact) → path p J ≡ path p K → IsCrowded s J p c → IsCrowded s K p c
crowded_alike s p J K c same x = record { limited = x.limited; as_many = subst (λ l. s.per_address ≤ length (at_host (host c.addr) l)) same x.as_many }

held_alike : (p : ℕ) (J K : List Entry) (c : Contact) (by : ℕ) → IsAlike p J K → IsHeldBy Asked J p c by → IsHeldBy Asked K p c by
held_alike p J K c by a (inl h) = inl (h.0, ap (λ l. among l c) (sym (path_alike p J K a)) ∙ h.1)
held_alike p J K c by a (inr h) = inr (ap (λ l. among l c) (sym (path_alike p J K a)) ∙ h.0, ap (λ l. among l c) (sym (a.asks by)) ∙ h.1)

free_alike : (p : ℕ) (J K : List Entry) (c : Contact) → IsAlike p J K → IsFree Asked J p c → IsFree Asked K p c
free_alike p J K c a h = (ap (λ l. among l c) (sym (path_alike p J K a)) ∙ h.0, ap (λ l. among l c) (sym a.asked) ∙ h.1)

by_rule : (s : Setting) (P Q : ClaimRule → Type 0) → s.claim ≡ Asked → (P Asked → Q Asked) → P s.claim → Q s.claim
by_rule s P Q is f h = subst Q (sym is) (f (subst P is h))

fits_alike : (s : Setting) (J K : List Entry) (e : Entry) (p : ℕ) → s.claim ≡ Asked → IsAlike p J K → settles_on p e ≡ true → Fits s J e → Fits s K e
fits_alike s J K (Note q c) p is a h f = subst (λ n. Fits s K (Note n c)) (sym (eqb-true q p h)) (sym (first_alike p J K a) ∙ subst (λ n. Fits s J (Note n c)) (eqb-true q p h) f)
fits_alike s J K (Taken q c) p is a h f =
    let g = subst (λ n. Fits s J (Taken n c)) (eqb-true q p h) f in
    let same = path_alike p J K a in
    subst (λ n. Fits s K (Taken n c)) (sym (eqb-true q p h))
    (believed_alike s p J K c a g.0, by_rule s (λ r. IsFree r J p c) (λ r. IsFree r K p c) is (free_alike p J K c a) g.1, subst (λ l. length l < max_path_contacts) same g.2, λ x. g.3 (crowded_alike s p K J c (sym same) x))
fits_alike s J K (Held q c by) p is a h f =
    let g = subst (λ n. Fits s J (Held n c by)) (eqb-true q p h) f in
    subst (λ n. Fits s K (Held n c by)) (sym (eqb-true q p h))
    (believed_alike s p J K c a g.0, by_rule s (λ r. IsHeldBy r J p c by) (λ r. IsHeldBy r K p c by) is (held_alike p J K c by a) g.1)
fits_alike s J K (Turned q c) p is a h f =
    let g = subst (λ n. Fits s J (Turned n c)) (eqb-true q p h) f in
    let same = path_alike p J K a in
    subst (λ n. Fits s K (Turned n c)) (sym (eqb-true q p h)) (
      believed_alike s p J K c a g.0,
      by_rule s (λ r. IsFree r J p c) (λ r. IsFree r K p c) is (free_alike p J K c a) g.1,
      elim g.2 [ inl full ↦ inl (subst (λ l. length l ≡ max_path_contacts) same full) | inr crowded ↦ inr (crowded_alike s p J K c same crowded) ],
    )
fits_alike s J K (Rejected q r) p is a h f =
    let g = subst (λ n. Fits s J (Rejected n r)) (eqb-true q p h) f in
    subst (λ n. Fits s K (Rejected n r)) (sym (eqb-true q p h)) (sym (first_alike p J K a) ∙ g.0, g.1, g.2)
fits_alike s J K (Skipped q r) p is a h f =
    let g = subst (λ n. Fits s J (Skipped n r)) (eqb-true q p h) f in
    subst (λ n. Fits s K (Skipped n r)) (sym (eqb-true q p h)) (sym (first_alike p J K a) ∙ g.0, g.1)
fits_alike s J K other p is a h f = absurd cc

pub settles_by_asks : (s : Setting) → SettlesByAsks s
unfolding SettlesByAsks
settles_by_asks s is J K e p a h f = fits_alike s J K e p is a h f
