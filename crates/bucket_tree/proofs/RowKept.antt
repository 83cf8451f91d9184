-- What a row keeps, it keeps when a contact is seen or fails, and its halves keep it.
use Rattle.std.proofs.Common.{◌≡◌, ◌≢◌, ℕ, ◌+◌, ◌<◌, ◌≤◌, ◌||◌, List, [], ◌∷◌, ◌++◌, length, drop, Bool, true, false, cond, not, map, Some, None, refl, sym, ap, subst, ◌∙◌, inl, inr, arith}
use Rattle.std.specs.Prelude.{filter, find, nat_le, option_map}
use Rattle.std.specs.List.{All, list_any}
use Rattle.std.proofs.lemmas.Bool.{cases_lt}
use Rattle.std.proofs.lemmas.List.{length-append, append-nil, map-append, length-map}
use Rattle.std.proofs.lemmas.List.Filters.{length-filter_both}
use Rattle.std.proofs.lemmas.List.Elements.{All-append, All-filter, All-drop, All-head, All-tail, All-push, filter_passes}
use Rattle.kad_base.specs.declared.types.Id.{Id}
use Rattle.kad_base.specs.declared.types.Contact.{Contact}
use Rattle.kad_base.specs.Contacts.{same, among}
use Rattle.kad_base.proofs.Contacts.{same_exact}
use Rattle.bucket_tree.specs.declared.types.Live.{Live}
use Rattle.bucket_tree.specs.declared.types.Gone.{Gone}
use Rattle.bucket_tree.specs.declared.types.Gone.TheVariants.{Kept, Removed, Replaced, Unknown}
use Rattle.bucket_tree.specs.Partition.{id_bits, begins}
use Rattle.bucket_tree.specs.Rows.{RowState, IsRow, contact_of, live_in, same_id}
use Rattle.bucket_tree.specs.BucketSteps.{knows_id, fresh, without, with_room, half, failures_of, RowFailed}
use Rattle.bucket_tree.specs.Refills.{Refilled}
use Rattle.bucket_tree.proofs.Begun.{begins-whole}
use Rattle.bucket_tree.proofs.OneBit.{id_bits-length}
use Rattle.bucket_tree.proofs.Counted.{filter-few, filter-fewer, filter-map, any-map}
use Rattle.bucket_tree.proofs.Ids.{same_id-exact, same_id-contact}
use Rattle.bucket_tree.proofs.Every.{all-left, all-right, all-one, count-append, count-one, count-filter, count-drop, count-none, any-count, count-implies}

-- a row from its parts
abbrev pub row_of : List Bool → List Live → List Contact → RowState
row_of prefix live spares = record { prefix = prefix; live = live; spares = spares }

-- a prefix that covers two identifiers has fewer bits than they
pub two-ids : (prefix : List Bool) (live : List Live) (id : Id) → 0 < length live → All (λ c. begins prefix (id_bits c.id) ≡ true) (map contact_of live) → begins prefix (id_bits id) ≡ true
    → All (λ e. id_bits e.contact.id ≢ id_bits id) live → length prefix < 160
two-ids prefix [] id some all here apart = absurd (omega arith)
two-ids prefix (e ∷ live) id some all here apart = elim (cases_lt (length prefix) 160) [
  | inl lt ↦ lt
  | inr le ↦
      let first = All-head (λ (c : Contact). begins prefix (id_bits c.id) ≡ true) e.contact (map contact_of live) all in
      let a : prefix ≡ id_bits e.contact.id = begins-whole prefix (id_bits e.contact.id) first (omega (arith, id_bits-length e.contact.id)) in
      let b : prefix ≡ id_bits id = begins-whole prefix (id_bits id) here (omega (arith, id_bits-length id)) in
      absurd (All-head (λ (x : Live). id_bits x.contact.id ≢ id_bits id) e live apart (sym a ∙ b))
]

-- one entry fewer, and a contact at the end
module _ (P : Contact → Type 0) where
  pub all-without : (c : Contact) (live : List Live) → All P (map contact_of live) → All P (map contact_of (without c live))
  all-without c live a = subst (All P) (filter-map contact_of (λ x. not (same c x)) live) (All-filter (λ x. not (same c x)) P (map contact_of live) a)

  pub all-ended : (live : List Live) (c : Contact) → All P (map contact_of live) → P c → All P (map contact_of (live ++ fresh c ∷ []))
  all-ended live c a p = subst (All P) (sym (map-append contact_of live (fresh c ∷ []))) (All-append P (map contact_of live) (c ∷ []) a (all-one P c p))

  pub all-room : (k : ℕ) (cs : List Contact) → All P cs → All P (with_room k cs)
  all-room k cs a = go (nat_le k (length cs))
    where
      go : (t : Bool) → All P (cond t (drop 1 cs) cs)
      go true = All-drop P 1 cs a
      go false = a

module _ (q : Contact → Bool) where
  pub count-ended : (live : List Live) (c : Contact) → length (filter q (map contact_of (live ++ fresh c ∷ []))) ≡ length (filter q (map contact_of live)) + cond (q c) 1 0
  count-ended live c =
      let one = count-one q c in
      let parts = count-append q (map contact_of live) (c ∷ []) in
      ap (λ (l : List Contact). length (filter q l)) (map-append contact_of live (fresh c ∷ [])) ∙ parts ∙ ap (λ (n : ℕ). length (filter q (map contact_of live)) + n) one

  pub count-without : (c : Contact) (live : List Live) → length (filter q (map contact_of (without c live))) ≤ length (filter q (map contact_of live))
  count-without c live = subst (λ (l : List Contact). length (filter q l) ≤ length (filter q (map contact_of live))) (filter-map contact_of (λ x. not (same c x)) live) (count-filter q (λ x. not (same c x)) (map contact_of live))

  -- the entry of the contact itself is gone
  pub count-gone : (c : Contact) (live : List Live) → list_any (λ e. same c e.contact) live ≡ true → length (filter q (map contact_of (without c live))) + cond (q c) 1 0 ≤ length (filter q (map contact_of live))
  count-gone c [] known = absurd cc
  count-gone c (e ∷ live) known = go (same c e.contact) refl known (count-gone c live) (count-without c live)
    where
      go : (t : Bool) → same c e.contact ≡ t → (t || list_any (λ x. same c x.contact) live) ≡ true
          → (list_any (λ x. same c x.contact) live ≡ true → length (filter q (map contact_of (without c live))) + cond (q c) 1 0 ≤ length (filter q (map contact_of live)))
          → length (filter q (map contact_of (without c live))) ≤ length (filter q (map contact_of live))
          → length (filter q (map contact_of (cond (not t) (e ∷ without c live) (without c live)))) + cond (q c) 1 0 ≤ length (cond (q e.contact) (e.contact ∷ filter q (map contact_of live)) (filter q (map contact_of live)))
      go true s k f le = rw (← same_exact c e.contact s) (here (q c))
        where
          here : (t : Bool) → length (filter q (map contact_of (without c live))) + cond t 1 0 ≤ length (cond t (c ∷ filter q (map contact_of live)) (filter q (map contact_of live)))
          here true = omega arith
          here false = omega arith
      go false s k f le = there (q e.contact) (f k)
        where
          there : (t : Bool) → length (filter q (map contact_of (without c live))) + cond (q c) 1 0 ≤ length (filter q (map contact_of live))
              → length (cond t (e.contact ∷ filter q (map contact_of (without c live))) (filter q (map contact_of (without c live)))) + cond (q c) 1 0 ≤ length (cond t (e.contact ∷ filter q (map contact_of live)) (filter q (map contact_of live)))
          there true g = omega arith
          there false g = g

  pub count-room : (k : ℕ) (cs : List Contact) → length (filter q (with_room k cs)) ≤ length (filter q cs)
  count-room k cs = go (nat_le k (length cs))
    where
      go : (t : Bool) → length (filter q (cond t (drop 1 cs) cs)) ≤ length (filter q cs)
      go true = count-drop q cs
      go false = omega arith

-- the entries of the others are fewer than 20
pub without-room : (c : Contact) (live kept : List Live) (n : ℕ) → kept ≡ without c live → among (map contact_of live) c ≡ true → length live ≤ n → length kept < n
without-room c live kept n e known le =
    let fewer = filter-fewer (λ x. same c x.contact) live (sym (any-map contact_of (same c) live) ∙ known) in
    omega (arith, ap length e, fewer)

find-any : (p : Live → Bool) (xs : List Live) (n : ℕ) → option_map (λ e. e.failures) (find p xs) ≡ Some n → list_any p xs ≡ true
find-any p [] n e = absurd cc
find-any p (x ∷ xs) n e = go (p x) e (find-any p xs n)
  where
    go : (t : Bool) → option_map (λ y. y.failures) (cond t (Some x) (find p xs)) ≡ Some n → (option_map (λ y. y.failures) (find p xs) ≡ Some n → list_any p xs ≡ true) → (t || list_any p xs) ≡ true
    go true f g = refl
    go false f g = g f

find-all : (p : Live → Bool) (xs : List Live) (n : ℕ) → option_map (λ e. e.failures) (find p xs) ≡ Some n → All (λ e. e.failures ≤ 1) xs → n ≤ 1
find-all p [] n e a = absurd cc
find-all p (x ∷ xs) n e a = go (p x) e (λ f. find-all p xs n f (All-tail (λ (y : Live). y.failures ≤ 1) x xs a))
  where
    go : (t : Bool) → option_map (λ y. y.failures) (cond t (Some x) (find p xs)) ≡ Some n → (option_map (λ y. y.failures) (find p xs) ≡ Some n → n ≤ 1) → n ≤ 1
    go true f g = let h : x.failures ≡ n = cc in let le = All-head (λ (y : Live). y.failures ≤ 1) x xs a in omega (arith, h, le)
    go false f g = g f

pub find-none : (p : Live → Bool) (xs : List Live) → option_map (λ e. e.failures) (find p xs) ≡ None → list_any p xs ≡ false
find-none p [] e = refl
find-none p (x ∷ xs) e = go (p x) e (find-none p xs)
  where
    go : (t : Bool) → option_map (λ y. y.failures) (cond t (Some x) (find p xs)) ≡ None → (option_map (λ y. y.failures) (find p xs) ≡ None → list_any p xs ≡ false) → (t || list_any p xs) ≡ false
    go true f g = absurd cc
    go false f g = g f

pub failed-known : (row : RowState) (c : Contact) (n : ℕ) → failures_of row c ≡ Some n → list_any (λ e. same c e.contact) row.live ≡ true
failed-known row c n e = find-any (λ x. same c x.contact) row.live n e

pub failed-room : (c : Contact) (live kept : List Live) (n m : ℕ) → option_map (λ e. e.failures) (find (λ e. same c e.contact) live) ≡ Some m → kept ≡ without c live → length live ≤ n → length kept < n
failed-room c live kept n m e f le =
    let fewer = filter-fewer (λ x. same c x.contact) live (find-any (λ x. same c x.contact) live m e) in
    omega (arith, ap length f, fewer)

-- the second failure
pub refilled : (c : Contact) (row : RowState) (n : ℕ) (live' : List Live) (spares' : List Contact) (gone : Gone) → failures_of row c ≡ Some n → n ≢ 0 → All (λ e. e.failures ≤ 1) row.live
    → Refilled (without c row.live) row.spares gone live' spares' → RowFailed c row gone (record { prefix = row.prefix; live = live'; spares = spares' })
refilled c row n live' spares' Kept f ne a r = absurd r
refilled c row n live' spares' Unknown f ne a r = absurd r
refilled c row n live' spares' Removed f ne a r =
    let le = find-all (λ x. same c x.contact) row.live n f a in
    let second : n ≡ 1 = omega arith in
    let none = r.0 in
    (f ∙ ap Some second, none, rw (r.1, r.2, none) refl)
refilled c row n live' spares' Replaced f ne a r =
    let le = find-all (λ x. same c x.contact) row.live n f a in
    let second : n ≡ 1 = omega arith in
    (f ∙ ap Some second, record { older = spares'; newest = r.newest; spares = r.spares_are; after_is = ap (λ (l : List Live). row_of row.prefix l spares') r.live_are })

-- a half of a row
pub half-kept : (own : Id) (k b : ℕ) (bit : Bool) (row : RowState) → IsRow own k b row → IsRow own k b (half bit row)
half-kept own k b bit row is =
    let p = λ (e : Live). begins (row.prefix ++ bit ∷ []) (id_bits e.contact.id) in
    let kept = filter p row.live in
    let all : map contact_of kept ++ [] ≡ map contact_of kept = append-nil (map contact_of kept) in
    let back : filter (λ (c : Contact). begins (row.prefix ++ bit ∷ []) (id_bits c.id)) (live_in row) ≡ map contact_of kept = filter-map contact_of (λ (c : Contact). begins (row.prefix ++ bit ∷ []) (id_bits c.id)) row.live in
    record {
      few = (let le = filter-few p row.live in omega (arith, le, is.few));
      few_spares = omega arith;
      failed_once = All-filter p (λ (e : Live). e.failures ≤ 1) row.live is.failed_once;
      covered = subst (All (λ (c : Contact). begins (row.prefix ++ bit ∷ []) (id_bits c.id) ≡ true)) (back ∙ sym all) (filter_passes (λ (c : Contact). begins (row.prefix ++ bit ∷ []) (id_bits c.id)) (live_in row));
      others = subst (All (λ (c : Contact). same_id c.id own ≡ false)) (back ∙ sym all)
          (All-filter (λ (c : Contact). begins (row.prefix ++ bit ∷ []) (id_bits c.id)) (λ (c : Contact). same_id c.id own ≡ false) (live_in row) (all-left (λ (c : Contact). same_id c.id own ≡ false) (live_in row) row.spares is.others));
      once = λ id. (
          let q = λ (c : Contact). same_id c.id id in
          let le = count-filter q (λ (c : Contact). begins (row.prefix ++ bit ∷ []) (id_bits c.id)) (live_in row) in
          let same_count = ap (λ (l : List Contact). length (filter q l)) (back ∙ sym all) in
          let parts = count-append q (live_in row) row.spares in
          let whole = is.once id in
          omega (arith, le, same_count, parts, whole)
          );
      spares_full = λ lt. absurd (omega arith);
      spares_stay = λ lt. absurd (omega arith);
    }

-- one entry less
without-len : (own : Id) (k b : ℕ) (c : Contact) (row : RowState) → IsRow own k b row → list_any (λ e. same c e.contact) row.live ≡ true → length (without c row.live) + 1 ≡ length row.live
without-len own k b c row is known =
    let p = λ (e : Live). same c e.contact in
    let both = length-filter_both p (λ (e : Live). not (p e)) (λ _. refl) row.live in
    let some = any-count p row.live known in
    let le = count-implies p (λ (e : Live). same_id e.contact.id c.id) (λ e s. same_id-contact c e.contact s) row.live in
    let mapped = ap length (filter-map contact_of (λ (x : Contact). same_id x.id c.id) row.live) ∙ length-map (filter (λ (e : Live). same_id e.contact.id c.id) row.live) contact_of in
    let parts = count-append (λ (x : Contact). same_id x.id c.id) (live_in row) row.spares in
    let once = is.once c.id in
    omega (arith, both, some, le, mapped, parts, once)

-- the identifier is at no live contact
pub none-live : (row : RowState) (c : Contact) (id : Id) → knows_id row c.id ≡ false → same_id c.id id ≡ true → length (filter (λ x. same_id x.id id) (live_in row)) ≡ 0
none-live row c id new e =
    let f : c.id ≡ id = same_id-exact c.id id e in
    let none = any-map contact_of (λ (x : Contact). same_id x.id c.id) row.live ∙ new in
    subst (λ (i : Id). length (filter (λ (x : Contact). same_id x.id i) (live_in row)) ≡ 0) f (count-none (λ (x : Contact). same_id x.id c.id) (live_in row) none)

-- a contact that takes the place of one that was live, with these spares
pub ended-kept : (own : Id) (k b : ℕ) (c d : Contact) (row : RowState) (spares : List Contact) → IsRow own k b row → list_any (λ e. same c e.contact) row.live ≡ true
    → begins row.prefix (id_bits d.id) ≡ true → same_id d.id own ≡ false → length spares ≤ length row.spares → ((P : Contact → Type 0) → All P row.spares → All P spares)
    → ((q : Contact → Bool) → length (filter q (map contact_of (without c row.live))) + cond (q d) 1 0 + length (filter q spares) ≤ length (filter q (live_in row)) + length (filter q row.spares))
    → IsRow own k b (row_of row.prefix (without c row.live ++ fresh d ∷ []) spares)
ended-kept own k b c d row spares is known here other le stay count =
    let len : length (without c row.live) + 1 ≡ length row.live = without-len own k b c row is known in
    let grown : length (without c row.live ++ fresh d ∷ []) ≡ length (without c row.live) + 1 = length-append (without c row.live) (fresh d ∷ []) in
    let every = λ (P : Contact → Type 0) (a : All P (live_in row ++ row.spares)) (p : P d). (
    All-append P (map contact_of (without c row.live ++ fresh d ∷ [])) spares (all-ended P (without c row.live) d (all-without P c row.live (all-left P (live_in row) row.spares a)) p) (stay P (all-right P (live_in row) row.spares a))
    ) in
    record {
      few = omega (arith, len, grown, is.few);
      few_spares = omega (arith, le, is.few_spares);
      failed_once = All-push (λ (e : Live). e.failures ≤ 1) (without c row.live) (fresh d) (All-filter (λ (e : Live). not (same c e.contact)) (λ (e : Live). e.failures ≤ 1) row.live is.failed_once) (omega arith);
      covered = every (λ (x : Contact). begins row.prefix (id_bits x.id) ≡ true) is.covered here;
      others = every (λ (x : Contact). same_id x.id own ≡ false) is.others other;
      once = λ id. (
          let q = λ (x : Contact). same_id x.id id in
          let now = count-append q (map contact_of (without c row.live ++ fresh d ∷ [])) spares in
          let live = count-ended q (without c row.live) d in
          let parts = count-append q (live_in row) row.spares in
          let whole = is.once id in
          let all = count q in
          omega (arith, now, live, parts, whole, all)
          );
      spares_full = λ lt. (let full = is.spares_full (omega (arith, lt, le)) in omega (arith, full, len, grown));
      spares_stay = λ lt. is.spares_stay (omega (arith, lt, le));
    }
