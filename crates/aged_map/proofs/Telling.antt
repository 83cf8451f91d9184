-- The index by host through a put and a purge: each key that is held stays told, once.
use Rattle.std.proofs.Common.{◌≡◌, ◌↔◌, ℕ, ◌+◌, ◌<◌, ◌≤◌, List, [], ◌∷◌, ◌++◌, length, filter, nat_lt, Bool, true, false, ◌||◌, ◌&&◌, cond, Option, Some, None, Result, Ok, Err, OnOk, OnErr, inl, inr, ◌⊎◌, refl, sym, ap, ◌∙◌, subst, arith}
use Rattle.std.specs.Cmp.{IsTotalOrder}
use Rattle.std.specs.Option.{IfSome, is_some}
use Rattle.std.specs.List.{IsDistinct, list_any}
use Rattle.std.specs.List.Sorted.{IsStrictlySortedBy}
use Rattle.std.specs.Map.{keys_of, lookup}
use Rattle.std.specs.Set.{is_member}
use Rattle.std.specs.Map.Calls.{RetainsPairs}
use Rattle.std.specs.Global.{Vec}
use Rattle.std.specs.Ordering.{eq_by_cmp}
use Rattle.std.specs.BTreeMap.{insert_entry, is_at}
use Rattle.std.specs.declared.cmp.Ordering.{Ordering}
use Rattle.std.specs.declared.cmp.Ordering.TheVariants.{Equal}
use Rattle.std.proofs.lemmas.Bool.{false≢true, or_right, cases_lt, lt-ltb}
use Rattle.std.proofs.lemmas.Cmp.{eq_by_cmp_equiv}
use Rattle.std.proofs.lemmas.List.Folds.{list_any-append}
use Rattle.std.proofs.lemmas.Map.{lookup-none}
use Rattle.std.proofs.lemmas.Map.Keys.{IsDistinct-push, IsDistinct-tail}
use Rattle.std.proofs.lemmas.Map.Entries.{lookup-filter-values, option_filter, none_past_head}
use Rattle.std.proofs.lemmas.Map.Keys.{IsDistinct-from_sorted}
use Rattle.std.proofs.lemmas.Map.Made.{is_member-filter, is_some-lookup}
use Rattle.kad_base.specs.declared.host.Host.{Host}
use Rattle.kad_base.specs.Hosts.{same_host}
use Rattle.kad_base.specs.declared.types.NoMemory.{NoMemory}
use Rattle.aged_map.specs.declared.aged.Stored.{Stored}
use Rattle.aged_map.specs.declared.hosted.Refused.{Refused}
use Rattle.aged_map.specs.declared.hosted.Refused.TheVariants.{Crowded}
use Rattle.aged_map.specs.Ages.{Holds, is_young, purged}
use Rattle.aged_map.specs.PerHost.{limited, at_host, HasNoPlaceAt, HasNoPlaceAmong, has_host, is_of, keys_in, told_of, host_cmp, cleaned, Tells, IsAdmitted, IsTold}
use Rattle.aged_map.proofs.Crowds.{host_exact, host_tie, host_ties, host_equiv, is_eq_tie, distinct_filter, alike_of, crowd_is, crowd_falls, of_put, crowd_put}

not_true : (b : Bool) → (b ≡ true → ⊥) → b ≡ false
not_true true f = absurd (f refl)
not_true false f = refl

and_known : (a b : Bool) → (b ≡ true → a ≡ true) → (a && b) ≡ b
and_known true b f = refl
and_known false true f = f refl
and_known false false f = refl

module _ {K V : Type 0} {cmp : K → K → Ordering} (o : IsTotalOrder cmp) (host : K → V → Host) (alike : (a b : K) (v : V) → cmp a b ≡ Equal → host a v ≡ host b v) where
  -- of a key that isn't held nothing is anybody's
  absent_of : (held : List (K × V)) (h : Host) (q : K) → ¬ Holds cmp held q → is_of cmp host held h q ≡ false
  absent_of held h q absent = by (lookup (is_at (cmp q)) held) (is_some-lookup (is_at (cmp q)) held)
    where
      by : (v : Option V) → is_some v ≡ list_any (is_at (cmp q)) (keys_of held) → has_host host h q v ≡ false
      by None e = refl
      by (Some v) e = absurd (absent (sym e))

  module _ (n : ℕ) (held : List (K × V)) (index : List (Host × Vec K)) (t : IsTold cmp host n held index) (limit : 0 < n) where
    -- what is told of a host and is its still is what is its
    pub cleaned_is : (h : Host) (q : K) → is_member (eq_by_cmp cmp) (cleaned cmp host held index h) q ≡ is_of cmp host held h q
    cleaned_is h q =
        is_member-filter (eq_by_cmp_equiv o) (is_of cmp host held h) q (λ x f. alike_of o host alike held h q x f) (told_of index h)
        ∙ and_known (is_member (eq_by_cmp cmp) (told_of index h) q) (is_of cmp host held h q) (t.told limit h q)

    once_cleaned : (h : Host) → IsDistinct (eq_by_cmp cmp) (cleaned cmp host held index h)
    once_cleaned h = distinct_filter (eq_by_cmp cmp) (is_of cmp host held h) (told_of index h) (t.once h)

    pub crowd_cleaned : (h : Host) → length (cleaned cmp host held index h) ≡ length (at_host host h held)
    crowd_cleaned h = crowd_is o host alike (cleaned cmp host held index h) held h (once_cleaned h) t.sorted (cleaned_is h)

    -- after an index has these keys of a host, among them all that are its, each once
    told_with : (h : Host) (keys : List K) (new : List (Host × Vec K)) → Tells index h keys new → IsDistinct (eq_by_cmp cmp) keys
        → ((q : K) → is_of cmp host held h q ≡ true → is_member (eq_by_cmp cmp) keys q ≡ true) → IsTold cmp host n held new
    told_with h keys new tells once has = record {
      sorted = t.sorted;
      told = λ z g q m. by_told g q m (is_at (host_cmp h) g) refl;
      once = λ g. by_once g (is_at (host_cmp h) g) refl;
      few = t.few;
    }
      where
        at : (g : Host) (b : Bool) → is_at (host_cmp h) g ≡ b → told_of new g ≡ cond b keys (told_of index g)
        at g b f = tells g ∙ ap (λ c. cond c keys (told_of index g)) f

        by_told : (g : Host) (q : K) → is_of cmp host held g q ≡ true → (b : Bool) → is_at (host_cmp h) g ≡ b → is_member (eq_by_cmp cmp) (told_of new g) q ≡ true
        by_told g q m true f = ap (λ l. is_member (eq_by_cmp cmp) l q) (at g true f) ∙ has q (ap (λ x. is_of cmp host held x q) (host_tie h g f) ∙ m)
        by_told g q m false f = ap (λ l. is_member (eq_by_cmp cmp) l q) (at g false f) ∙ t.told limit g q m

        by_once : (g : Host) (b : Bool) → is_at (host_cmp h) g ≡ b → IsDistinct (eq_by_cmp cmp) (told_of new g)
        by_once g true f = subst (IsDistinct (eq_by_cmp cmp)) (sym (at g true f)) once
        by_once g false f = subst (IsDistinct (eq_by_cmp cmp)) (sym (at g false f)) (t.once g)

    pub told_cleaned : (h : Host) (new : List (Host × Vec K)) → Tells index h (cleaned cmp host held index h) new → IsTold cmp host n held new
    told_cleaned h new tells = told_with h (cleaned cmp host held index h) new tells (once_cleaned h) (λ q m. cleaned_is h q ∙ m)

    pub told_added : (h : Host) (key : K) (new : List (Host × Vec K)) → Tells index h (cleaned cmp host held index h ++ key ∷ []) new → ¬ Holds cmp held key → IsTold cmp host n held new
    told_added h key new tells absent =
        told_with h (cleaned cmp host held index h ++ key ∷ []) new tells
        (IsDistinct-push (eq_by_cmp_equiv o) (cleaned cmp host held index h) key (once_cleaned h) (cleaned_is h key ∙ absent_of held h key absent))
        (λ q m. list_any-append (eq_by_cmp cmp q) (cleaned cmp host held index h) (key ∷ []) ∙ ap (λ b. b || list_any (eq_by_cmp cmp q) (key ∷ [])) (cleaned_is h q ∙ m))

    -- the key that was added is told
    pub added_told : (h : Host) (key : K) (new : List (Host × Vec K)) → Tells index h (cleaned cmp host held index h ++ key ∷ []) new → (q : K) → is_at (cmp key) q ≡ true
        → is_member (eq_by_cmp cmp) (told_of new h) q ≡ true
    added_told h key new tells q f =
        ap (λ l. is_member (eq_by_cmp cmp) l q) (tells h ∙ ap (λ b. cond b (cleaned cmp host held index h ++ key ∷ []) (told_of index h)) (host_ties h))
        ∙ list_any-append (eq_by_cmp cmp q) (cleaned cmp host held index h) (key ∷ [])
        ∙ or_right (list_any (eq_by_cmp cmp q) (cleaned cmp host held index h)) (list_any (eq_by_cmp cmp q) (key ∷ [])) (ap (λ b. b || false) ((eq_by_cmp_equiv o).symm q key ∙ f))

    pub told_either : (h : Host) (key : K) (new : List (Host × Vec K)) (r : Result (Unit {0}) Refused) → ¬ Holds cmp held key
        → OnOk r (Tells index h (cleaned cmp host held index h ++ key ∷ []) new) → OnErr r (Tells index h (cleaned cmp host held index h) new) → IsTold cmp host n held new
    told_either h key new (Ok u) absent added left = told_added h key new added absent
    told_either h key new (Err f) absent added left = told_cleaned h new left

    pub admitted : (h : Host) (key : K) (new : List (Host × Vec K)) (r : Result (Unit {0}) Refused) → OnOk r (Tells index h (cleaned cmp host held index h ++ key ∷ []) new)
        → (◌≡◌ {A = Result (Unit {0}) Refused} r (Err Crowded)) ↔ (n ≤ length (cleaned cmp host held index h)) → OnOk r (IsAdmitted cmp host (limited n held) key h new)
    admitted h key new (Ok u) added crowded = record {
      told = λ z absent q f. added_told h key new added q f;
      room = λ z absent. subst (λ m. m < n) (crowd_cleaned h) (by (cases_lt (length (cleaned cmp host held index h)) n));
    }
      where
        by : (length (cleaned cmp host held index h) < n) ⊎ (n ≤ length (cleaned cmp host held index h)) → length (cleaned cmp host held index h) < n
        by (inl lt) = lt
        by (inr le) = absurd (let e = crowded.1 le in cc)
    admitted h key new (Err f) added crowded = tt

    pub crowded_by : (key : K) (h : Host) (A : Type 0) → ¬ Holds cmp held key → A ↔ (n ≤ length (cleaned cmp host held index h)) → A ↔ HasNoPlaceAt cmp host (limited n held) key h
    crowded_by key h A absent is = (
      λ a. (absent, record { limited = limit; as_many = subst (λ m. n ≤ m) (crowd_cleaned h) (is.0 a) }),
      λ p. is.1 (subst (λ m. n ≤ m) (sym (crowd_cleaned h)) p.1.as_many),
    )

    pub full_by : (key : K) (h : Host) (most : ℕ) (A : Type 0) (b : Bool) → ¬ Holds cmp held key → (b ≡ true) ↔ (most ≤ length held)
        → A ↔ ((length (cleaned cmp host held index h) < n) × (b ≡ true)) → A ↔ HasNoPlaceAmong cmp host (limited n held) key h most
    full_by key h most A b absent test is = (
      λ a.
          (let p = is.0 a in
          let lt = p.0 in
          record {
            absent = absent;
            free = λ c. (let le : n ≤ length (cleaned cmp host held index h) = subst (λ m. n ≤ m) (sym (crowd_cleaned h)) c.as_many in absurd (omega (arith, lt, le)));
            full = test.0 p.1;
          }),
      λ p. is.1 (by p (cases_le (length (cleaned cmp host held index h))), test.1 p.full),
    )
      where
        cases_le : (m : ℕ) → (m < n) ⊎ (n ≤ m)
        cases_le m = cases_lt m n

        by : HasNoPlaceAmong cmp host (limited n held) key h most → (length (cleaned cmp host held index h) < n) ⊎ (n ≤ length (cleaned cmp host held index h)) → length (cleaned cmp host held index h) < n
        by p (inl lt) = lt
        by p (inr le) = absurd (p.free (record { limited = limit; as_many = subst (λ m. n ≤ m) (crowd_cleaned h) le }))

  -- where each host has just what is its still
  pub told_anew : (n : ℕ) (held : List (K × V)) (index new : List (Host × Vec K)) → IsTold cmp host n held index
      → ((h : Host) → told_of new h ≡ cleaned cmp host held index h) → IsTold cmp host n held new
  told_anew n held index new t same = record {
    sorted = t.sorted;
    told = λ z h q m. ap (λ l. is_member (eq_by_cmp cmp) l q) (same h) ∙ cleaned_is n held index t z h q ∙ m;
    once = λ h. subst (IsDistinct (eq_by_cmp cmp)) (sym (same h)) (distinct_filter (eq_by_cmp cmp) (is_of cmp host held h) (told_of index h) (t.once h));
    few = t.few;
  }

  -- ---- after a put and a purge

  -- what is put in the place of the same host's is its
  was_of : (held : List (K × V)) (key : K) (v w : V) → lookup (is_at (cmp key)) held ≡ Some w → host key w ≡ host key v
      → (h : Host) (q : K) → is_of cmp host (insert_entry cmp held key v) h q ≡ true → is_of cmp host held h q ≡ true
  was_of held key v w found same h q m = by (eq_by_cmp cmp key q) refl (sym (of_put o host alike held key v h q) ∙ m)
    where
      by : (b : Bool) → eq_by_cmp cmp key q ≡ b → cond b (same_host (host q v) h) (is_of cmp host held h q) ≡ true → is_of cmp host held h q ≡ true
      by true f s =
          sym (alike_of o host alike held h key q f)
          ∙ ap (has_host host h key) found
          ∙ ap (λ x. same_host x h) (same ∙ alike key q v (is_eq_tie (cmp key q) f))
          ∙ s
      by false f s = s

  -- what is put under a key that isn't held is told
  told_new : (n : ℕ) (held : List (K × V)) (index : List (Host × Vec K)) (key : K) (v : V) → IsTold cmp host n held index
      → ((q : K) → is_at (cmp key) q ≡ true → is_member (eq_by_cmp cmp) (told_of index (host key v)) q ≡ true) → 0 < n
      → (h : Host) (q : K) → is_of cmp host (insert_entry cmp held key v) h q ≡ true → is_member (eq_by_cmp cmp) (told_of index h) q ≡ true
  told_new n held index key v t here z h q m = by (eq_by_cmp cmp key q) refl (sym (of_put o host alike held key v h q) ∙ m)
    where
      by : (b : Bool) → eq_by_cmp cmp key q ≡ b → cond b (same_host (host q v) h) (is_of cmp host held h q) ≡ true → is_member (eq_by_cmp cmp) (told_of index h) q ≡ true
      by true f s =
          let at : host key v ≡ h = alike key q v (is_eq_tie (cmp key q) f) ∙ host_exact (host q v) h s in
          subst (λ x. is_member (eq_by_cmp cmp) (told_of index x) q ≡ true) at (here q f)
      by false f s = t.told z h q s

  -- and its host has room for it
  few_new : (n : ℕ) (held : List (K × V)) (key : K) (v : V) (h : Host) → length (at_host host (host key v) held) < n → length (at_host host h held) ≤ n
      → length (at_host host h (insert_entry cmp held key v)) ≤ n
  few_new n held key v h room few = by (same_host (host key v) h) refl (crowd_put o host alike held key v h)
    where
      by : (b : Bool) → same_host (host key v) h ≡ b → length (at_host host h (insert_entry cmp held key v)) ≤ length (at_host host h held) + cond b 1 0
          → length (at_host host h (insert_entry cmp held key v)) ≤ n
      by true f le =
          let lt : length (at_host host h held) < n = subst (λ x. length (at_host host x held) < n) (host_exact (host key v) h f) room in
          omega (arith, le, lt)
      by false f le = omega (arith, le, few)

  pub told_put : (n : ℕ) (held new : List (K × V)) (index : List (Host × Vec K)) (key : K) (v : V) → IsTold cmp host n held index
      → IsAdmitted cmp host (limited n held) key (host key v) index → IfSome (lookup (is_at (cmp key)) held) (λ w. host key w ≡ host key v)
      → new ≡ insert_entry cmp held key v → IsStrictlySortedBy cmp (keys_of new) → IsTold cmp host n new index
  told_put n held new index key v t a same is sorted = by (lookup (is_at (cmp key)) held) refl (is_some-lookup (is_at (cmp key)) held) same
    where
      after : List (K × V)
      after = insert_entry cmp held key v

      by : (x : Option V) → lookup (is_at (cmp key)) held ≡ x → is_some x ≡ list_any (is_at (cmp key)) (keys_of held) → IfSome x (λ w. host key w ≡ host key v) → IsTold cmp host n new index
      by None found has same =
          let absent : ¬ Holds cmp held key = λ h. false≢true (has ∙ h) in
          record {
            sorted = sorted;
            told = λ z h q m. told_new n held index key v t (a.told z absent) z h q (ap (λ l. is_of cmp host l h q) (sym is) ∙ m);
            once = t.once;
            few = λ z h. subst (λ l. length (at_host host h l) ≤ n) (sym is) (few_new n held key v h (a.room z absent) (t.few z h));
          }
      by (Some w) found has same =
          let was : (h : Host) (q : K) → is_of cmp host new h q ≡ true → is_of cmp host held h q ≡ true =
          λ h q m. was_of held key v w found same h q (ap (λ l. is_of cmp host l h q) (sym is) ∙ m) in
          record {
            sorted = sorted;
            told = λ z h q m. t.told z h q (was h q m);
            once = t.once;
            few = λ z h. (let le = crowd_falls o host alike held new h t.sorted sorted (was h) in let few = t.few z h in omega (arith, le, few));
          }

  -- the same where there may have been no memory
  pub told_by : (n : ℕ) (held new : List (K × V)) (index : List (Host × Vec K)) (key : K) (v : V) (h : Host) (r : Result Stored NoMemory) → IsTold cmp host n held index
      → IsAdmitted cmp host (limited n held) key h index → h ≡ host key v → IfSome (lookup (is_at (cmp key)) held) (λ w. host key w ≡ host key v)
      → OnOk r (new ≡ insert_entry cmp held key v) → OnErr r (new ≡ held) → IsStrictlySortedBy cmp (keys_of new) → IsTold cmp host n new index
  told_by n held new index key v h (Ok stored) t a at same is kept sorted =
      told_put n held new index key v t (subst (λ x. IsAdmitted cmp host (limited n held) key x index) at a) same is sorted
  told_by n held new index key v h (Err f) t a at same is kept sorted = subst (λ l. IsTold cmp host n l index) (sym kept) t

  pub told_purge : (moment : V → ℕ) (age at n : ℕ) (held new : List (K × V)) (index : List (Host × Vec K)) → IsTold cmp host n held index
      → new ≡ purged moment age at held → IsStrictlySortedBy cmp (keys_of new) → IsTold cmp host n new index
  told_purge moment age at n held new index t is sorted = record {
    sorted = sorted;
    told = λ z h q m. t.told z h q (was h q m);
    once = t.once;
    few = λ z h. (let le = crowd_falls o host alike held new h t.sorted sorted (was h) in let few = t.few z h in omega (arith, le, few));
  }
    where
      young : V → Bool
      young v = is_young age at (moment v)

      by : (h : Host) (q : K) (x : Option V) → has_host host h q (option_filter young x) ≡ true → has_host host h q x ≡ true
      by h q None m = m
      by h q (Some v) m = kept (young v) m
        where
          kept : (b : Bool) → has_host host h q (cond b (Some v) None) ≡ true → same_host (host q v) h ≡ true
          kept true m = m
          kept false m = absurd (false≢true m)

      was : (h : Host) (q : K) → is_of cmp host new h q ≡ true → is_of cmp host held h q ≡ true
      was h q m =
          by h q (lookup (is_at (cmp q)) held)
          (sym (ap (has_host host h q) (lookup-filter-values (eq_by_cmp_equiv o) young q held (IsDistinct-from_sorted cmp (keys_of held) t.sorted)))
          ∙ ap (λ l. is_of cmp host l h q) (sym is) ∙ m)

-- nothing is held, and nothing told
pub told_none : {K V : Type 0} (cmp : K → K → Ordering) (host : K → V → Host) (n : ℕ) (held : List (K × V)) (index : List (Host × Vec K)) → held ≡ [] → index ≡ [] → IsTold cmp host n held index
unfolding IsDistinct IsStrictlySortedBy
told_none {K} {V} cmp host n held index e f = record {
  sorted = subst (λ l. IsStrictlySortedBy cmp (keys_of l)) (sym e) tt;
  told = λ z h q m. absurd (false≢true (sym (ap (λ (l : List (K × V)). is_of cmp host l h q) e) ∙ m));
  once = λ h. subst (λ (l : List (Host × Vec K)). IsDistinct (eq_by_cmp cmp) (told_of l h)) (sym f) tt;
  few = λ z h. subst (λ (l : List (K × V)). length (at_host host h l) ≤ n) (sym e) (omega arith);
}

-- a host of which nothing is told
pub none_left : {K V : Type 0} (cmp : K → K → Ordering) (host : K → V → Host) (held : List (K × V)) (index new : List (Host × Vec K)) (h : Host) (r : Result (Unit {0}) Refused)
    → ◌≡◌ {A = Option (Vec K)} None (lookup (is_at (host_cmp h)) index) → OnErr r (new ≡ index) → OnErr r (Tells index h (cleaned cmp host held index h) new)
none_left cmp host held index new h (Ok u) is same = tt
none_left {K} cmp host held index new h (Err f) is same = λ g. ap (λ l. told_of l g) same ∙ by g (is_at (host_cmp h) g) refl
  where
    empty : told_of index h ≡ []
    empty = ap keys_in (sym is)

    by : (g : Host) (b : Bool) → is_at (host_cmp h) g ≡ b → told_of index g ≡ cond b (cleaned cmp host held index h) (told_of index g)
    by g true f = ap (told_of index) (sym (host_tie h g f)) ∙ empty ∙ sym (ap (filter (is_of cmp host held h)) empty)
    by g false f = refl

-- of an index whose lists are cleaned, and of which those stay that have a key left
module _ {K : Type 0} (T : Host → K → Bool) {F : Type 0} (C : F → Host → Vec K → Bool → Vec K → F → Type 0)
    (f : F) (does : (h : Host) (v : Vec K) (b : Bool) (w : Vec K) (g : F) → C f h v b w g → (b ≡ nat_lt 0 (length (filter (T h) v.items))) × (w.items ≡ filter (T h) v.items) × (g ≡ f)) where
  pub told_kept : (index kept : List (Host × Vec K)) → IsDistinct (eq_by_cmp host_cmp) (keys_of index) → RetainsPairs C f index kept → (h : Host) → told_of kept h ≡ filter (T h) (told_of index h)
  told_kept [] kept d r h = ap (λ l. told_of l h) r
  told_kept (x ∷ xs) kept d r h =
      ap (λ l. told_of l h) r.6
      ∙ by r.0 (does x.0 x.1 r.0 r.1 r.2 r.4).0 (eq_by_cmp host_cmp h x.0) refl
      (told_kept xs r.3 (IsDistinct-tail (eq_by_cmp host_cmp) x.0 (keys_of xs) d) (subst (λ g. RetainsPairs C g xs r.3) (does x.0 x.1 r.0 r.1 r.2 r.4).2 r.5) h)
    where
      items : r.1.items ≡ filter (T x.0) x.1.items
      items = (does x.0 x.1 r.0 r.1 r.2 r.4).1

      empty : (l : List K) → false ≡ nat_lt 0 (length l) → l ≡ []
      empty [] e = refl
      empty (y ∷ ys) e = absurd (false≢true (e ∙ lt-ltb 0 (length (y ∷ ys)) (omega arith)))

      rest : List (Host × Vec K)
      rest = r.3

      by : (b : Bool) → b ≡ nat_lt 0 (length (filter (T x.0) x.1.items)) → (s : Bool) → eq_by_cmp host_cmp h x.0 ≡ s → told_of rest h ≡ filter (T h) (told_of xs h)
          → told_of (cond b ((x.0, r.1) ∷ rest) rest) h ≡ filter (T h) (keys_in (cond s (Some x.1) (lookup (is_at (host_cmp h)) xs)))
      by true e true at ih = ap (λ c. keys_in (cond c (Some r.1) (lookup (is_at (host_cmp h)) rest))) at ∙ items ∙ ap (λ g. filter (T g) x.1.items) (sym (host_tie h x.0 at))
      by true e false at ih = ap (λ c. keys_in (cond c (Some r.1) (lookup (is_at (host_cmp h)) rest))) at ∙ ih
      by false e true at ih =
          ih
          ∙ ap (λ o. filter (T h) (keys_in o)) (lookup-none (eq_by_cmp host_cmp h) xs (none_past_head host_equiv h x xs d at))
          ∙ sym (ap (λ g. filter (T g) x.1.items) (host_tie h x.0 at) ∙ empty (filter (T x.0) x.1.items) e)
      by false e false at ih = ih
