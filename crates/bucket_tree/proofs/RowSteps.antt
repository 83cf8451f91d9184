-- A row keeps what it keeps when a contact is seen and when one fails.
use Rattle.std.proofs.Common.{◌≡◌, ℕ, zero, suc, ◌+◌, ◌<◌, ◌≤◌, List, [], ◌∷◌, ◌++◌, length, drop, Bool, true, false, cond, not, map, refl, sym, ap, subst, ◌∙◌, inl, inr, arith, leb-true}
use Rattle.std.specs.Prelude.{filter, nat_le}
use Rattle.std.specs.List.{All, list_any}
use Rattle.std.proofs.lemmas.Bool.{le-leb, cases_lt}
use Rattle.std.proofs.lemmas.List.{length-append, length-map, length-drop}
use Rattle.std.proofs.lemmas.List.Elements.{All-append, All-filter, All-push, All-map, All-nil, All-cons, All-head, All-tail}
use Rattle.kad_base.specs.declared.types.Id.{Id}
use Rattle.kad_base.specs.declared.types.Contact.{Contact}
use Rattle.kad_base.specs.Contacts.{same}
use Rattle.bucket_tree.specs.declared.types.Live.{Live}
use Rattle.bucket_tree.specs.declared.types.Seen.{Seen}
use Rattle.bucket_tree.specs.declared.types.Seen.TheVariants.{Added, Moved, Spared, Conflict, Own}
use Rattle.bucket_tree.specs.declared.types.Gone.{Gone}
use Rattle.bucket_tree.specs.declared.types.Gone.TheVariants.{Kept, Removed, Replaced, Unknown}
use Rattle.bucket_tree.specs.Partition.{id_bits, begins}
use Rattle.bucket_tree.specs.Rows.{RowState, IsRow, contact_of, live_in, same_id, may_split}
use Rattle.bucket_tree.specs.BucketSteps.{knows_id, fresh, without, added, with_room, spared, NeedsSplit, RowSeen, mark, marked, removed, IsReplaced, RowFailed}
use Rattle.bucket_tree.proofs.Counted.{filter-few, any-map}
use Rattle.bucket_tree.proofs.Every.{all-left, all-right, all-here, count-append, count-one, count-filter, count-not}
use Rattle.bucket_tree.proofs.Ids.{same_id-exact}
use Rattle.bucket_tree.proofs.RowKept.{all-ended, all-without, all-room, count-ended, count-gone, count-without, count-room, none-live, ended-kept, failed-known}

added-kept : (own : Id) (k b : ℕ) (c : Contact) (row : RowState) → IsRow own k b row → begins row.prefix (id_bits c.id) ≡ true → same_id c.id own ≡ false
    → knows_id row c.id ≡ false → length row.live < k → IsRow own k b (added c row)
added-kept own k b c row is here other new lt =
    let grown : length (row.live ++ fresh c ∷ []) ≡ length row.live + 1 = length-append row.live (fresh c ∷ []) in
    let every = λ (P : Contact → Type 0) (a : All P (live_in row ++ row.spares)) (p : P c). (
    All-append P (map contact_of (row.live ++ fresh c ∷ [])) row.spares (all-ended P row.live c (all-left P (live_in row) row.spares a) p) (all-right P (live_in row) row.spares a)
    ) in
    let full = is.spares_full in
    record {
      few = omega (arith, grown, lt);
      few_spares = is.few_spares;
      failed_once = All-push (λ (e : Live). e.failures ≤ 1) row.live (fresh c) is.failed_once (omega arith);
      covered = every (λ (x : Contact). begins row.prefix (id_bits x.id) ≡ true) is.covered here;
      others = every (λ (x : Contact). same_id x.id own ≡ false) is.others other;
      once = λ id. (
          let q = λ (x : Contact). same_id x.id id in
          let now = count-append q (map contact_of (row.live ++ fresh c ∷ [])) row.spares in
          let live = count-ended q row.live c in
          let parts = count-append q (live_in row) row.spares in
          let whole = is.once id in
          let none = filter-few q row.spares in
          go id (q c) refl (omega (arith, now, live)) (omega (arith, parts, whole)) none
          );
      spares_full = λ some. (let e = is.spares_full some in absurd (omega (arith, e, lt)));
      spares_stay = is.spares_stay;
    }
  where
    go : (id : Id) (t : Bool) → same_id c.id id ≡ t
        → length (filter (λ x. same_id x.id id) (map contact_of (row.live ++ fresh c ∷ []) ++ row.spares)) ≡ length (filter (λ x. same_id x.id id) (live_in row)) + cond (same_id c.id id) 1 0 + length (filter (λ x. same_id x.id id) row.spares)
        → length (filter (λ x. same_id x.id id) (live_in row)) + length (filter (λ x. same_id x.id id) row.spares) ≤ 1
        → length (filter (λ x. same_id x.id id) row.spares) ≤ length row.spares
        → length (filter (λ x. same_id x.id id) (map contact_of (row.live ++ fresh c ∷ []) ++ row.spares)) ≤ 1
    go id true e now old few =
        let none = none-live row c id new e in
        let one : ◌≡◌ {A = ℕ} (cond (same_id c.id id) 1 0) 1 = ap (λ (t : Bool). cond {A = ℕ} t 1 0) e in
        let no_spares : length row.spares ≡ 0 = spareless (length row.spares) refl in
        omega (arith, now, none, one, few, no_spares)
      where
        spareless : (n : ℕ) → length row.spares ≡ n → length row.spares ≡ 0
        spareless zero f = f
        spareless (suc n) f = let full = is.spares_full (omega (arith, f)) in absurd (omega (arith, full, lt))
    go id false e now old few =
        let none : ◌≡◌ {A = ℕ} (cond (same_id c.id id) 1 0) 0 = ap (λ (t : Bool). cond {A = ℕ} t 1 0) e in
        omega (arith, now, none, old)

with_room-few : (k : ℕ) (cs : List Contact) → 0 < k → length cs ≤ k → length (with_room k cs) + 1 ≤ k
with_room-few k cs some le = go (nat_le k (length cs)) refl
  where
    go : (t : Bool) → nat_le k (length cs) ≡ t → length (cond t (drop 1 cs) cs) + 1 ≤ k
    go true e = let n = leb-true k (length cs) e in let d = length-drop 1 cs in omega (arith, n, d)
    go false e = elim (cases_lt (length cs) k) [ inl lt ↦ omega arith | inr ge ↦ (let f = le-leb k (length cs) ge in absurd cc) ]

spared-kept : (own : Id) (k b : ℕ) (c : Contact) (row : RowState) → 0 < k → IsRow own k b row → begins row.prefix (id_bits c.id) ≡ true → same_id c.id own ≡ false
    → knows_id row c.id ≡ false → k ≤ length row.live → may_split own b row.prefix ≡ false → IsRow own k b (spared k c row)
spared-kept own k b c row some is here other new full stays =
    let others = filter (λ (x : Contact). not (same_id x.id c.id)) row.spares in
    let kept = with_room k others in
    let le : length others ≤ length row.spares = filter-few (λ (x : Contact). not (same_id x.id c.id)) row.spares in
    let room : length kept + 1 ≤ k = with_room-few k others some (omega (arith, le, is.few_spares)) in
    let grown : length (kept ++ c ∷ []) ≡ length kept + 1 = length-append kept (c ∷ []) in
    let every = λ (P : Contact → Type 0) (a : All P (live_in row ++ row.spares)) (p : P c). (
    All-append P (live_in row) (kept ++ c ∷ []) (all-left P (live_in row) row.spares a)
    (All-push P kept c (all-room P k others (All-filter (λ (x : Contact). not (same_id x.id c.id)) P row.spares (all-right P (live_in row) row.spares a))) p)
    ) in
    record {
      few = is.few;
      few_spares = omega (arith, grown, room);
      failed_once = is.failed_once;
      covered = every (λ (x : Contact). begins row.prefix (id_bits x.id) ≡ true) is.covered here;
      others = every (λ (x : Contact). same_id x.id own ≡ false) is.others other;
      once = λ id. (
          let q = λ (x : Contact). same_id x.id id in
          let now = count-append q (live_in row) (kept ++ c ∷ []) in
          let ended = count-append q kept (c ∷ []) in
          let one = count-one q c in
          let fewer = count-room q k others in
          let parts = count-append q (live_in row) row.spares in
          let whole = is.once id in
          go id (q c) refl (omega (arith, now, ended, one)) fewer (omega (arith, parts, whole))
          );
      spares_full = λ lt. (let few = is.few in omega (arith, few, full));
      spares_stay = λ lt. stays;
    }
  where
    go : (id : Id) (t : Bool) → same_id c.id id ≡ t
        → length (filter (λ x. same_id x.id id) (live_in row ++ (with_room k (filter (λ x. not (same_id x.id c.id)) row.spares) ++ c ∷ []))) ≡ length (filter (λ x. same_id x.id id) (live_in row)) + (length (filter (λ x. same_id x.id id) (with_room k (filter (λ x. not (same_id x.id c.id)) row.spares))) + cond (same_id c.id id) 1 0)
        → length (filter (λ x. same_id x.id id) (with_room k (filter (λ x. not (same_id x.id c.id)) row.spares))) ≤ length (filter (λ x. same_id x.id id) (filter (λ x. not (same_id x.id c.id)) row.spares))
        → length (filter (λ x. same_id x.id id) (live_in row)) + length (filter (λ x. same_id x.id id) row.spares) ≤ 1
        → length (filter (λ x. same_id x.id id) (live_in row ++ (with_room k (filter (λ x. not (same_id x.id c.id)) row.spares) ++ c ∷ []))) ≤ 1
    go id true e now fewer old =
        let none = none-live row c id new e in
        let same_one : c.id ≡ id = same_id-exact c.id id e in
        let gone : length (filter (λ (x : Contact). same_id x.id id) (filter (λ (x : Contact). not (same_id x.id c.id)) row.spares)) ≡ 0 =
        subst (λ (i : Id). length (filter (λ (x : Contact). same_id x.id i) (filter (λ (x : Contact). not (same_id x.id c.id)) row.spares)) ≡ 0) same_one (count-not (λ (x : Contact). same_id x.id c.id) row.spares) in
        let one : ◌≡◌ {A = ℕ} (cond (same_id c.id id) 1 0) 1 = ap (λ (t : Bool). cond {A = ℕ} t 1 0) e in
        omega (arith, now, none, one, gone, fewer)
    go id false e now fewer old =
        let none : ◌≡◌ {A = ℕ} (cond (same_id c.id id) 1 0) 0 = ap (λ (t : Bool). cond {A = ℕ} t 1 0) e in
        let less = count-filter (λ (x : Contact). same_id x.id id) (λ (x : Contact). not (same_id x.id c.id)) row.spares in
        omega (arith, now, none, fewer, less, old)

stays-whole : (own : Id) (k b : ℕ) (id : Id) (row : RowState) → (NeedsSplit own k b id row → ⊥) → knows_id row id ≡ false → k ≤ length row.live → may_split own b row.prefix ≡ false
stays-whole own k b id row not_needed new full = go (may_split own b row.prefix) refl
  where
    go : (t : Bool) → may_split own b row.prefix ≡ t → may_split own b row.prefix ≡ false
    go true e = absurd (not_needed (record { new = new; full = full; splits = e }))
    go false e = e

pub seen-kept : (own : Id) (k b : ℕ) (c : Contact) (row : RowState) (seen : Seen) (after : RowState) → 0 < k → IsRow own k b row → begins row.prefix (id_bits c.id) ≡ true → same_id c.id own ≡ false
    → (NeedsSplit own k b c.id row → ⊥) → RowSeen k c row seen after → IsRow own k b after × (after.prefix ≡ row.prefix)
seen-kept own k b c row Moved after some is here other whole s =
    let known = sym (any-map contact_of (same c) row.live) ∙ s.0 in
    rw (s.1) (ended-kept own k b c c row row.spares is known here other (omega arith) (λ P a. a) (λ q. (let g = count-gone q c row.live known in omega (arith, g))), refl)
seen-kept own k b c row Conflict after some is here other whole s = rw (s.2) (is, refl)
seen-kept own k b c row Added after some is here other whole s = rw (s.2) (added-kept own k b c row is here other s.0 s.1, refl)
seen-kept own k b c row Spared after some is here other whole s =
    rw (s.2) (spared-kept own k b c row some is here other s.0 s.1 (stays-whole own k b c.id row whole s.0 s.1), refl)
seen-kept own k b c row Own after some is here other whole s = absurd s

pub mark-contacts : (c : Contact) (live : List Live) → map contact_of (map (mark c) live) ≡ map contact_of live
mark-contacts c [] = refl
mark-contacts c (e ∷ live) = go (same c e.contact) (mark-contacts c live)
  where
    go : (t : Bool) → map contact_of (map (mark c) live) ≡ map contact_of live → contact_of (cond t (record { contact = e.contact; failures = 1 }) e) ∷ map contact_of (map (mark c) live) ≡ e.contact ∷ map contact_of live
    go true f = ap (λ (l : List Contact). e.contact ∷ l) f
    go false f = ap (λ (l : List Contact). e.contact ∷ l) f

mark-once : (c : Contact) (live : List Live) → All (λ e. e.failures ≤ 1) live → All (λ e. e.failures ≤ 1) (map (mark c) live)
mark-once c live a = All-map (λ (e : Live). e.failures ≤ 1) (mark c) live (go live a)
  where
    one : (e : Live) (t : Bool) → e.failures ≤ 1 → (cond t (record { contact = e.contact; failures = 1 }) e).failures ≤ 1
    one e true le = omega arith
    one e false le = le

    go : (xs : List Live) → All (λ e. e.failures ≤ 1) xs → All (λ e. (mark c e).failures ≤ 1) xs
    go [] a = All-nil (λ (e : Live). (mark c e).failures ≤ 1)
    go (x ∷ xs) a = All-cons (λ (e : Live). (mark c e).failures ≤ 1) x xs (one x (same c x.contact) (All-head (λ (e : Live). e.failures ≤ 1) x xs a)) (go xs (All-tail (λ (e : Live). e.failures ≤ 1) x xs a))

marked-kept : (own : Id) (k b : ℕ) (c : Contact) (row : RowState) → IsRow own k b row → IsRow own k b (marked c row)
marked-kept own k b c row is =
    let contacts = mark-contacts c row.live in
    let len = length-map row.live (mark c) in
    let all = ap (λ (l : List Contact). l ++ row.spares) (sym contacts) in
    record {
      few = omega (arith, len, is.few);
      few_spares = is.few_spares;
      failed_once = mark-once c row.live is.failed_once;
      covered = subst (All (λ (x : Contact). begins row.prefix (id_bits x.id) ≡ true)) all is.covered;
      others = subst (All (λ (x : Contact). same_id x.id own ≡ false)) all is.others;
      once = λ id. subst (λ (l : List Contact). length (filter (λ (x : Contact). same_id x.id id) l) ≤ 1) all (is.once id);
      spares_full = λ lt. len ∙ is.spares_full lt;
      spares_stay = is.spares_stay;
    }

removed-kept : (own : Id) (k b : ℕ) (c : Contact) (row : RowState) → IsRow own k b row → row.spares ≡ [] → IsRow own k b (removed c row)
removed-kept own k b c row is none =
    let p = λ (e : Live). not (same c e.contact) in
    let every = λ (P : Contact → Type 0) (a : All P (live_in row ++ row.spares)). (
    All-append P (map contact_of (without c row.live)) row.spares (all-without P c row.live (all-left P (live_in row) row.spares a)) (all-right P (live_in row) row.spares a)
    ) in
    record {
      few = (let le = filter-few p row.live in omega (arith, le, is.few));
      few_spares = is.few_spares;
      failed_once = All-filter p (λ (e : Live). e.failures ≤ 1) row.live is.failed_once;
      covered = every (λ (x : Contact). begins row.prefix (id_bits x.id) ≡ true) is.covered;
      others = every (λ (x : Contact). same_id x.id own ≡ false) is.others;
      once = λ id. (
          let q = λ (x : Contact). same_id x.id id in
          let now = count-append q (map contact_of (without c row.live)) row.spares in
          let parts = count-append q (live_in row) row.spares in
          let le = count-without q c row.live in
          let whole = is.once id in
          omega (arith, now, parts, le, whole)
          );
      spares_full = λ lt. (let e = ap length none in absurd (omega (arith, e, lt)));
      spares_stay = is.spares_stay;
    }

replaced-kept : (own : Id) (k b : ℕ) (c : Contact) (row after : RowState) → IsRow own k b row → list_any (λ e. same c e.contact) row.live ≡ true → IsReplaced c row after → IsRow own k b after × (after.prefix ≡ row.prefix)
replaced-kept own k b c row after is known r =
    let spares : row.spares ≡ r.older ++ r.newest ∷ [] = r.spares in
    let len : length row.spares ≡ length r.older + 1 = ap length spares ∙ length-append r.older (r.newest ∷ []) in
    let here = all-here (λ (x : Contact). begins row.prefix (id_bits x.id) ≡ true) r.older r.newest [] (subst (All (λ (x : Contact). begins row.prefix (id_bits x.id) ≡ true)) spares (all-right (λ (x : Contact). begins row.prefix (id_bits x.id) ≡ true) (live_in row) row.spares is.covered)) in
    let other = all-here (λ (x : Contact). same_id x.id own ≡ false) r.older r.newest [] (subst (All (λ (x : Contact). same_id x.id own ≡ false)) spares (all-right (λ (x : Contact). same_id x.id own ≡ false) (live_in row) row.spares is.others)) in
    rw (r.after_is) (
      ended-kept own k b c r.newest row r.older is known here other (omega (arith, len)) (λ P a. all-left P r.older (r.newest ∷ []) (subst (All P) spares a))
          (λ q. (
          let live = count-without q c row.live in
          let parts = ap (λ (l : List Contact). length (filter q l)) spares ∙ count-append q r.older (r.newest ∷ []) in
          let one = count-one q r.newest in
          omega (arith, live, parts, one)
          )),
      refl,
    )

pub failed-kept : (own : Id) (k b : ℕ) (c : Contact) (row : RowState) (gone : Gone) (after : RowState) → IsRow own k b row → RowFailed c row gone after → IsRow own k b after × (after.prefix ≡ row.prefix)
failed-kept own k b c row Kept after is s = rw (s.1) (marked-kept own k b c row is, refl)
failed-kept own k b c row Removed after is s = rw (s.2) (removed-kept own k b c row is s.1, refl)
failed-kept own k b c row Replaced after is s = replaced-kept own k b c row after is (failed-known row c 1 s.0) s.1
failed-kept own k b c row Unknown after is s = rw (s.1) (is, refl)
