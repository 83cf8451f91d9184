-- What a book keeps of each path, after one more entry.
use Rattle.std.proofs.Common.{◌≡◌, ℕ, ◌+◌, ◌<◌, ◌≤◌, List, [], ◌∷◌, ◌++◌, length, Bool, true, false, not, Some, refl, sym, ap, subst, ◌∙◌, arith, set, get_or, inl, inr}
use Rattle.std.specs.Prelude.{drop, vec_capacity}
use Rattle.std.specs.List.{All}
use Rattle.std.specs.List.Sorted.{IsStrictlySortedBy}
use Rattle.std.proofs.lemmas.List.{length-append, length-set, get_or-set_same, get_or-set_other}
use Rattle.std.proofs.lemmas.Bool.{eq-eqb, ne_eqb, eqb-true, cases_eq}
use Rattle.kad_base.specs.Limits.{max_path_contacts}
use Rattle.kad_base.specs.declared.types.ClaimRule.TheVariants.{Named}
use Rattle.kad_base.specs.declared.types.Contact.{Contact}
use Rattle.kad_base.specs.declared.types.Report.{Report}
use Rattle.kad_base.specs.Contacts.{among, without}
use Rattle.kad_distance.specs.Order.{closeness}
use Rattle.kad_distance.specs.KClosest.{put, each_once}
use Rattle.kad_distance.proofs.Orders.{closeness_total}
use Rattle.kad_distance.proofs.Least.{each_once_rises}
use Rattle.claim_book.specs.declared.types.Setting.{Setting}
use Rattle.claim_book.specs.declared.types.Cause.{Cause}
use Rattle.claim_book.specs.declared.types.Entry.{Entry}
use Rattle.claim_book.specs.declared.types.Entry.TheVariants.{Seed, Ask, Heard, Lost, Note, Taken, Held, Turned, Rejected, Skipped}
use Rattle.claim_book.specs.declared.path.Path.{Path}
use Rattle.claim_book.specs.Journal.{path_of, ask_of, ask_on, ask_elsewhere, answer_of, fail_of, holder_of, things_in, things_of, settles_on, took, path, asked, asked_on, answered, failed, open_on, theirs, own, alive, things, settled, unsettled, may_ask}
use Rattle.claim_book.specs.Legal.{Fits, Legal, is_of}
use Rattle.claim_book.specs.declared.claim_map.Claims.{Claims}
use Rattle.claim_book.specs.Claims.{shown_on}
use Rattle.claim_book.specs.Index.{IsPath, IsPaths, IsEmptyPath, IsSettledOnly, HasPlace, Lent}
use Rattle.claim_book.proofs.More.{path_more}
use Rattle.claim_book.proofs.Among.{among_one}
use Rattle.claim_book.proofs.Claims.{no_true, may_ask_says, may_ask_on_path, open_says, asked_on_asked, one_path, theirs_asked, fresh_free}
use Rattle.claim_book.proofs.Unsettled.{unsettled_settle, unsettled_other, unsettled_kept}
use Rattle.claim_book.proofs.Kept.{IsOwed}
use Rattle.claim_book.proofs.Forever.{elsewhere, alive_lent}
use Rattle.claim_book.proofs.Lists.{once_more, once_few, once_without, few_kept}
use Rattle.claim_book.proofs.Filters.{same_list, own_path, open_kept, open_asked, open_heard, open_lost, open_stays, none_ended, none_asked, none_failed}
use Rattle.claim_book.proofs.Owned.{alive_kept, alive_asked, alive_lost, alive_gains, alive_apart, fresh_on, fresh_kept, fresh_asked, fresh_lost, fresh_lent, fresh_gains, fresh_apart}

abbrev once : Setting → List Contact → List Contact
once s cs = each_once (closeness s.target) cs

-- a path after another path's entry, which asks none that this path has
path_other : (s : Setting) (J : List Entry) (e : Entry) (p : ℕ) (x : Path) → Legal s J → Fits s J e → is_of p e ≡ false → ((c : Contact) → among (ask_of e) c ≡ true → among (path p J) c ≡ false) → IsPath s J p x → IsPath s (J ++ e ∷ []) p x
path_other s J e p x l f off apart h =
    let away = elsewhere p e off in
    record {
      sorted = h.sorted ∙ ap (once s) (sym (alive_apart s J e p f off apart));
      unasked = h.unasked ∙ ap (once s) (sym (fresh_apart s J e p f off apart));
      counted = h.counted ∙ ap length (sym (path_more p J e ∙ same_list (path p J) (path_of p e) away.no_path));
      opened = h.opened ∙ ap length (sym (open_stays s J e p l f off));
      queued = h.queued ∙ sym (unsettled_kept s p J e l away.no_settling away.no_things);
      near_room = h.near_room;
      fresh_room = h.fresh_room;
    }

of_one : (p q : ℕ) (e : Entry) → is_of p e ≡ true → (q ≡ p → ⊥) → is_of q e ≡ false
of_one p q (Seed n c) h ne = ne_eqb n q (λ e. ne (sym e ∙ eqb-true n p h))
of_one p q (Ask n c) h ne = ne_eqb n q (λ e. ne (sym e ∙ eqb-true n p h))
of_one p q (Heard n c reports) h ne = ne_eqb n q (λ e. ne (sym e ∙ eqb-true n p h))
of_one p q (Lost n c cause) h ne = ne_eqb n q (λ e. ne (sym e ∙ eqb-true n p h))
of_one p q (Note n c) h ne = ne_eqb n q (λ e. ne (sym e ∙ eqb-true n p h))
of_one p q (Taken n c) h ne = ne_eqb n q (λ e. ne (sym e ∙ eqb-true n p h))
of_one p q (Held n c by) h ne = ne_eqb n q (λ e. ne (sym e ∙ eqb-true n p h))
of_one p q (Turned n c) h ne = ne_eqb n q (λ e. ne (sym e ∙ eqb-true n p h))
of_one p q (Rejected n r) h ne = ne_eqb n q (λ e. ne (sym e ∙ eqb-true n p h))
of_one p q (Skipped n r) h ne = ne_eqb n q (λ e. ne (sym e ∙ eqb-true n p h))

put_at : (s : Setting) (K : List Entry) (p : ℕ) (xs : List Path) (y : Path) → length xs ≡ s.paths → p < length xs → IsPath s K p y → ((q : ℕ) (d : Path) → (q ≡ p → ⊥) → q < length xs → IsPath s K q (get_or xs q d)) → IsPaths s K (set xs p y)
put_at s K p xs y enough lt mine others = record {
  enough = length-set xs p y ∙ enough;
  each = λ q d within. elim (cases_eq q p) [
    | inl same_path ↦ subst (λ r. IsPath s K r (get_or (set xs p y) r d)) (sym same_path) (subst (IsPath s K p) (sym (get_or-set_same xs p y d lt)) mine)
    | inr other ↦ subst (IsPath s K q) (sym (get_or-set_other xs p q y d other)) (others q d other (let b = length-set xs p y in omega arith))
  ];
}

-- all paths after an entry of path p that asks none, which leaves y there
pub paths_put : (s : Setting) (J : List Entry) (e : Entry) (p : ℕ) (xs : List Path) (y : Path) → Legal s J → Fits s J e → ask_of e ≡ [] → is_of p e ≡ true → p < length xs → IsPaths s J xs → IsPath s (J ++ e ∷ []) p y → IsPaths s (J ++ e ∷ []) (set xs p y)
paths_put s J e p xs y l f asks of_p lt h mine =
    put_at s (J ++ e ∷ []) p xs y h.enough lt mine
    (λ q d ne within. path_other s J e q (get_or xs q d) l f (of_one p q e of_p ne) (λ c t. let u = ap (λ cs. among cs c) asks in absurd cc) (h.each q d within))

-- and after an ask, where a contact is on one path alone
pub paths_asked : (s : Setting) (J : List Entry) (p : ℕ) (c : Contact) (xs : List Path) (y : Path) → s.claim ≡ Named → Legal s J → may_ask s p J ≡ Some c → p < length xs → IsPaths s J xs → IsPath s (J ++ Ask p c ∷ []) p y → IsPaths s (J ++ Ask p c ∷ []) (set xs p y)
paths_asked s J p c xs y named l f lt h mine =
    put_at s (J ++ Ask p c ∷ []) p xs y h.enough lt mine
    (λ q d ne within. path_other s J (Ask p c) q (get_or xs q d) l f (of_one p q (Ask p c) (eq-eqb p p refl) ne) (λ a t. subst (λ b. among (path q J) b ≡ false) (sym (among_one a c t)) (apart q ne)) (h.each q d within))
  where
    apart : (q : ℕ) → (q ≡ p → ⊥) → among (path q J) c ≡ false
    apart q ne = no_true (among (path q J) c) (λ t. ne (one_path s J named l q p c t (may_ask_on_path s p J c f)))

-- a path that another path's ask takes the contact from
path_lent : (s : Setting) (J : List Entry) (p q : ℕ) (c : Contact) (x y : Path) → Legal s J → may_ask s p J ≡ Some c → (q ≡ p → ⊥) → IsPath s J q x
    → y.near.items ≡ without x.near.items (c ∷ []) → vec_capacity x.near ≤ vec_capacity y.near → y.fresh.items ≡ without x.fresh.items (c ∷ []) → vec_capacity x.fresh ≤ vec_capacity y.fresh
    → y.count ≡ x.count → y.opens ≡ x.opens → y.queue ≡ x.queue
    → IsPath s (J ++ Ask p c ∷ []) q y
path_lent s J p q c x y l f ne h near near_room fresh fresh_room count opens queue =
    let e = Ask p c in
    let off = ne_eqb p q (λ i. ne (sym i)) in
    record {
      sorted = near ∙ ap (λ l. without l (c ∷ [])) h.sorted ∙ sym (once_without s.target (alive q J) c) ∙ ap (once s) (sym (alive_lent s J q p c f off));
      unasked = fresh ∙ ap (λ l. without l (c ∷ [])) h.unasked ∙ sym (once_without s.target (fresh_on q J) c) ∙ ap (once s) (sym (fresh_lent s J q p c f off));
      counted = count ∙ h.counted ∙ ap length (sym (path_more q J e ∙ same_list (path q J) [] refl));
      opened = opens ∙ h.opened ∙ ap length (sym (open_stays s J e q l f off));
      queued = ap (λ v. v.items) queue ∙ h.queued ∙ sym (unsettled_kept s q J e l refl refl);
      near_room = (let a = h.near_room in omega arith);
      fresh_room = (let a = h.fresh_room in omega arith);
    }

-- and a path after another path's ask, whether it has the contact or not
path_after_ask : (s : Setting) (J : List Entry) (p q : ℕ) (c : Contact) (m : Claims) (x y : Path) → Legal s J → may_ask s p J ≡ Some c → (q ≡ p → ⊥) → shown_on m q c ≡ among (path q J) c → IsPath s J q x → Lent m p c q x y → IsPath s (J ++ Ask p c ∷ []) q y
path_after_ask s J p q c m x y l f ne shows h lent = by (shown_on m q c) refl
  where
    by : (b : Bool) → shown_on m q c ≡ b → IsPath s (J ++ Ask p c ∷ []) q y
    by true e = path_lent s J p q c x y l f ne h (lent.near ne e) lent.near_room (lent.fresh ne e) lent.fresh_room lent.count lent.opens lent.queue
    by false e = subst (IsPath s (J ++ Ask p c ∷ []) q) (sym (lent.stays (inr e)))
        (path_other s J (Ask p c) q x l f (ne_eqb p q (λ i. ne (sym i))) (λ a t. subst (λ b. among (path q J) b ≡ false) (sym (among_one a c t)) (sym shows ∙ e)) h)

-- all paths after an ask, where several may have the contact
pub paths_lent : (s : Setting) (J : List Entry) (p : ℕ) (c : Contact) (m : Claims) (xs zs : List Path) (y : Path) → Legal s J → may_ask s p J ≡ Some c → ((q : ℕ) → shown_on m q c ≡ among (path q J) c) → p < length xs → IsPaths s J xs → IsPath s (J ++ Ask p c ∷ []) p y
    → length zs ≡ length (set xs p y) → ((q : ℕ) (d : Path) → q < length zs → Lent m p c q (get_or (set xs p y) q d) (get_or zs q d))
    → IsPaths s (J ++ Ask p c ∷ []) zs
paths_lent s J p c m xs zs y l f shows lt h mine as_many lent = record {
  enough = as_many ∙ length-set xs p y ∙ h.enough;
  each = λ q d within. elim (cases_eq q p) [
    | inl same_path ↦ subst (λ r. IsPath s (J ++ Ask p c ∷ []) r (get_or zs r d)) (sym same_path)
        (subst (IsPath s (J ++ Ask p c ∷ []) p) (sym ((lent p d (subst (λ r. r < length zs) same_path within)).stays (inl refl) ∙ get_or-set_same xs p y d lt)) mine)
    | inr other ↦ path_after_ask s J p q c m (get_or xs q d) (get_or zs q d) l f other (shows q) (h.each q d (let b = length-set xs p y in omega arith))
        (subst (λ x. Lent m p c q x (get_or zs q d)) (get_or-set_other xs p q y d other) (lent q d within))
  ];
}

-- and where one path has another form
pub paths_like : (s : Setting) (J : List Entry) (p : ℕ) (xs : List Path) (y : Path) → p < length xs → IsPaths s J xs → IsPath s J p y → IsPaths s J (set xs p y)
paths_like s J p xs y lt h mine = put_at s J p xs y h.enough lt mine (λ q d ne within. h.each q d within)

-- the path at a place
pub path_at : (s : Setting) (J : List Entry) (xs : List Path) (p : ℕ) (x : Path) → IsPaths s J xs → p < length xs → x ≡ get_or xs p x → IsPath s J p x
path_at s J xs p x h lt is = subst (IsPath s J p) (sym is) (h.each p x lt)

-- ---- the path that the entry is of

pub path_asked : (s : Setting) (J : List Entry) (p : ℕ) (c : Contact) (x y : Path) → Legal s J → may_ask s p J ≡ Some c → IsPath s J p x
    → y.near ≡ x.near → y.fresh.items ≡ without x.fresh.items (c ∷ []) → vec_capacity x.fresh ≤ vec_capacity y.fresh → y.count ≡ x.count → y.opens ≡ x.opens + 1 → y.queue ≡ x.queue
    → IsPath s (J ++ Ask p c ∷ []) p y
path_asked s J p c x y l fits h near fresh fresh_room count opens queue =
    let e = Ask p c in
    let new = (may_ask_says s p J c fits).new in
    record {
      sorted = ap (λ v. v.items) near ∙ h.sorted ∙ ap (once s) (sym (alive_asked p J c));
      unasked = fresh ∙ ap (λ l. without l (c ∷ [])) h.unasked ∙ sym (once_without s.target (fresh_on p J) c) ∙ ap (once s) (sym (fresh_asked p J c));
      counted = count ∙ h.counted ∙ ap length (sym (path_more p J e ∙ same_list (path p J) [] refl));
      opened = (let a = h.opened in let b = open_asked p J c (none_ended s J l c new) in omega arith);
      queued = ap (λ v. v.items) queue ∙ h.queued ∙ sym (unsettled_kept s p J e l refl refl);
      near_room = (let a = h.near_room in let b = ap (λ v. vec_capacity v) near in omega arith);
      fresh_room = (let a = h.fresh_room in omega arith);
    }

pub path_heard : (s : Setting) (J : List Entry) (p : ℕ) (c : Contact) (reports : List Report) (x y : Path) → Legal s J → among (open_on p J) c ≡ true → IsPath s J p x
    → y.near ≡ x.near → y.fresh ≡ x.fresh → y.count ≡ x.count → y.opens + 1 ≡ x.opens → y.queue.items ≡ x.queue.items ++ things_in c reports
    → IsPath s (J ++ Heard p c reports ∷ []) p y
path_heard s J p c reports x y l was h near fresh count opens queue =
    let e = Heard p c reports in
    record {
      sorted = ap (λ v. v.items) near ∙ h.sorted ∙ ap (once s) (sym (alive_kept p J e refl refl refl));
      unasked = ap (λ v. v.items) fresh ∙ h.unasked ∙ ap (once s) (sym (fresh_kept p J e refl refl refl refl));
      counted = count ∙ h.counted ∙ ap length (sym (path_more p J e ∙ same_list (path p J) [] refl));
      opened = (let a = h.opened in let b = open_heard s p J c reports l was in omega arith);
      queued = queue ∙ ap (λ q. q ++ things_in c reports) h.queued ∙ sym (unsettled_other s p J e l refl ∙ ap (λ t. unsettled p J ++ t) (own_path p (things_in c reports)));
      near_room = (let a = h.near_room in let b = ap (λ v. vec_capacity v) near in omega arith);
      fresh_room = (let a = h.fresh_room in let b = ap (λ v. vec_capacity v) fresh in omega arith);
    }

pub path_lost : (s : Setting) (J : List Entry) (p : ℕ) (c : Contact) (cause : Cause) (x y : Path) → Legal s J → among (open_on p J) c ≡ true → IsPath s J p x
    → y.near.items ≡ without x.near.items (c ∷ []) → vec_capacity x.near ≤ vec_capacity y.near → y.fresh ≡ x.fresh → y.count ≡ x.count → y.opens + 1 ≡ x.opens → y.queue ≡ x.queue
    → IsPath s (J ++ Lost p c cause ∷ []) p y
path_lost s J p c cause x y l was h near near_room fresh count opens queue =
    let e = Lost p c cause in
    record {
      sorted = near ∙ ap (λ l. without l (c ∷ [])) h.sorted ∙ sym (once_without s.target (alive p J) c) ∙ ap (once s) (sym (alive_lost p J c cause));
      unasked = ap (λ v. v.items) fresh ∙ h.unasked ∙ ap (once s) (sym (fresh_lost p J c cause (asked_on_asked p J c (open_says p J c was).0)));
      counted = count ∙ h.counted ∙ ap length (sym (path_more p J e ∙ same_list (path p J) [] refl));
      opened = (let a = h.opened in let b = open_lost s p J c cause l was in omega arith);
      queued = ap (λ v. v.items) queue ∙ h.queued ∙ sym (unsettled_kept s p J e l refl refl);
      near_room = (let a = h.near_room in omega arith);
      fresh_room = (let a = h.fresh_room in let b = ap (λ v. vec_capacity v) fresh in omega arith);
    }

-- an entry of path p that settles the first thing, and says nothing more
pub record Quiet (p : ℕ) (e : Entry) : Type 0 where
  pub of_path : is_of p e ≡ true
  pub owed : IsOwed e
  pub settles : settles_on p e ≡ true
  pub none_held : (c : Contact) → holder_of c e ≡ []
  pub no_path : (q : ℕ) → path_of q e ≡ []
  pub none_asked : ask_of e ≡ []
  pub no_asks : (q : ℕ) → ask_on q e ≡ []
  pub none_lent : (q : ℕ) → ask_elsewhere q e ≡ []
  pub no_answer : answer_of e ≡ []
  pub no_fail : fail_of e ≡ []
  pub no_things : (q : ℕ) → things_of q e ≡ []

pub quiet : (p : ℕ) (e : Entry) → IsSettledOnly p e → Quiet p e
quiet p (Note q c) h = record { of_path = eq-eqb q p h; owed = tt; settles = eq-eqb q p h; none_held = λ c. refl; no_path = λ q. refl; none_asked = refl; no_asks = λ q. refl; none_lent = λ q. refl; no_answer = refl; no_fail = refl; no_things = λ q. refl }
quiet p (Held q c by) h = record { of_path = eq-eqb q p h; owed = tt; settles = eq-eqb q p h; none_held = λ c. refl; no_path = λ q. refl; none_asked = refl; no_asks = λ q. refl; none_lent = λ q. refl; no_answer = refl; no_fail = refl; no_things = λ q. refl }
quiet p (Rejected q r) h = record { of_path = eq-eqb q p h; owed = tt; settles = eq-eqb q p h; none_held = λ c. refl; no_path = λ q. refl; none_asked = refl; no_asks = λ q. refl; none_lent = λ q. refl; no_answer = refl; no_fail = refl; no_things = λ q. refl }
quiet p (Skipped q r) h = record { of_path = eq-eqb q p h; owed = tt; settles = eq-eqb q p h; none_held = λ c. refl; no_path = λ q. refl; none_asked = refl; no_asks = λ q. refl; none_lent = λ q. refl; no_answer = refl; no_fail = refl; no_things = λ q. refl }
quiet p other h = absurd h

pub quiet_turned : (p : ℕ) (c : Contact) → Quiet p (Turned p c)
quiet_turned p c = record { of_path = eq-eqb p p refl; owed = tt; settles = eq-eqb p p refl; none_held = λ c. refl; no_path = λ q. refl; none_asked = refl; no_asks = λ q. refl; none_lent = λ q. refl; no_answer = refl; no_fail = refl; no_things = λ q. refl }

pub path_passed : (s : Setting) (J : List Entry) (e : Entry) (p : ℕ) (x y : Path) → Quiet p e → IsPath s J p x
    → y.near ≡ x.near → y.fresh ≡ x.fresh → y.count ≡ x.count → y.opens ≡ x.opens → y.queue.items ≡ drop 1 x.queue.items
    → IsPath s (J ++ e ∷ []) p y
path_passed s J e p x y w h near fresh count opens queue = record {
  sorted = ap (λ v. v.items) near ∙ h.sorted ∙ ap (once s) (sym (alive_kept p J e (w.no_path p) (w.none_lent p) w.no_fail));
  unasked = ap (λ v. v.items) fresh ∙ h.unasked ∙ ap (once s) (sym (fresh_kept p J e (w.no_path p) (w.none_lent p) w.no_fail w.none_asked));
  counted = count ∙ h.counted ∙ ap length (sym (path_more p J e ∙ same_list (path p J) (path_of p e) (w.no_path p)));
  opened = opens ∙ h.opened ∙ ap length (sym (open_kept p J e (w.no_asks p) w.no_answer w.no_fail));
  queued = queue ∙ ap (drop 1) h.queued ∙ sym (unsettled_settle p J e w.settles (w.no_things p));
  near_room = (let a = h.near_room in let b = ap (λ v. vec_capacity v) near in omega arith);
  fresh_room = (let a = h.fresh_room in let b = ap (λ v. vec_capacity v) fresh in omega arith);
}

-- an entry by which path p gets a contact that nobody asked
gained : (s : Setting) (J : List Entry) (e : Entry) (p : ℕ) (c : Contact) (x y : Path) → Legal s J → among (asked J) c ≡ false → path_of p e ≡ c ∷ [] → ask_of e ≡ [] → ask_on p e ≡ [] → ask_elsewhere p e ≡ [] → answer_of e ≡ [] → fail_of e ≡ [] → IsPath s J p x
    → y.near.items ≡ put (closeness s.target) x.near.items c → vec_capacity x.near ≤ vec_capacity y.near → y.fresh.items ≡ put (closeness s.target) x.fresh.items c → vec_capacity x.fresh ≤ vec_capacity y.fresh
    → y.count ≡ x.count + 1 → y.opens ≡ x.opens → y.queue.items ≡ unsettled p (J ++ e ∷ [])
    → IsPath s (J ++ e ∷ []) p y
gained s J e p c x y l new gets asks asks_on lent answers fails h near near_room fresh fresh_room count opens queue =
    let out = none_failed J c (none_ended s J l c new) in
    let mine = no_true (among (theirs p J) c) (λ t. let was = theirs_asked p J c t in absurd cc) in
    record {
      sorted = near ∙ ap (λ l. put (closeness s.target) l c) h.sorted ∙ sym (once_more s.target (alive p J) c) ∙ ap (once s) (sym (alive_gains p J e c gets lent fails mine out));
      unasked = fresh ∙ ap (λ l. put (closeness s.target) l c) h.unasked ∙ sym (once_more s.target (fresh_on p J) c) ∙ ap (once s) (sym (fresh_gains p J e c gets lent fails asks mine out new));
      counted = (let a = h.counted in let b = ap length (path_more p J e ∙ ap (λ l. path p J ++ l) gets) in omega (arith, length-append (path p J) (c ∷ [])));
      opened = opens ∙ h.opened ∙ ap length (sym (open_kept p J e asks_on answers fails));
      queued = queue;
      near_room = (let a = h.near_room in omega arith);
      fresh_room = (let a = h.fresh_room in omega arith);
    }

pub path_taken : (s : Setting) (J : List Entry) (p : ℕ) (c : Contact) (x y : Path) → Legal s J → Fits s J (Taken p c) → IsPath s J p x
    → y.near.items ≡ put (closeness s.target) x.near.items c → vec_capacity x.near ≤ vec_capacity y.near → y.fresh.items ≡ put (closeness s.target) x.fresh.items c → vec_capacity x.fresh ≤ vec_capacity y.fresh
    → y.count ≡ x.count + 1 → y.opens ≡ x.opens → y.queue.items ≡ drop 1 x.queue.items
    → IsPath s (J ++ Taken p c ∷ []) p y
path_taken s J p c x y l f h near near_room fresh fresh_room count opens queue =
    gained s J (Taken p c) p c x y l (fresh_free s J p c l f.1).1 (own_path p (c ∷ [])) refl refl refl refl refl h near near_room fresh fresh_room count opens
    (queue ∙ ap (drop 1) h.queued ∙ sym (unsettled_settle p J (Taken p c) (eq-eqb p p refl) refl))

pub path_seeded : (s : Setting) (J : List Entry) (p : ℕ) (c : Contact) (x y : Path) → Legal s J → among (took J) c ≡ false → IsPath s J p x
    → y.near.items ≡ put (closeness s.target) x.near.items c → vec_capacity x.near ≤ vec_capacity y.near → y.fresh.items ≡ put (closeness s.target) x.fresh.items c → vec_capacity x.fresh ≤ vec_capacity y.fresh
    → y.count ≡ x.count + 1 → y.opens ≡ x.opens → y.queue ≡ x.queue
    → IsPath s (J ++ Seed p c ∷ []) p y
path_seeded s J p c x y l out h near near_room fresh fresh_room count opens queue =
    gained s J (Seed p c) p c x y l (none_asked s J l c out) (own_path p (c ∷ [])) refl refl refl refl refl h near near_room fresh fresh_room count opens
    (ap (λ q. q.items) queue ∙ h.queued ∙ sym (unsettled_kept s p J (Seed p c) l refl refl))

-- with more room for its queue
pub path_wider : (s : Setting) (J : List Entry) (p : ℕ) (x y : Path) → IsPath s J p x → y.near ≡ x.near → y.fresh ≡ x.fresh → y.count ≡ x.count → y.opens ≡ x.opens → y.queue.items ≡ x.queue.items → IsPath s J p y
path_wider s J p x y h near fresh count opens queue = record {
  sorted = ap (λ v. v.items) near ∙ h.sorted;
  unasked = ap (λ v. v.items) fresh ∙ h.unasked;
  counted = count ∙ h.counted;
  opened = opens ∙ h.opened;
  queued = queue ∙ h.queued;
  near_room = (let a = h.near_room in let b = ap (λ v. vec_capacity v) near in omega arith);
  fresh_room = (let a = h.fresh_room in let b = ap (λ v. vec_capacity v) fresh in omega arith);
}

-- of an empty journal
empty_path : (s : Setting) (p : ℕ) (x : Path) → IsEmptyPath x → IsPath s [] p x
unfolding path own theirs alive asked asked_on answered failed open_on things settled unsettled
empty_path s p x h = record {
  sorted = h.none_near;
  unasked = h.none_fresh;
  counted = h.no_count;
  opened = h.no_opens;
  queued = h.no_queue;
  near_room = h.near_room;
  fresh_room = h.fresh_room;
}

pub paths_new : (s : Setting) (xs : List Path) → length xs ≡ s.paths → All IsEmptyPath xs → IsPaths s [] xs
paths_new s xs enough all = record {
  enough = enough;
  each = λ p d lt. empty_path s p (get_or xs p d) (all p d lt);
}

-- ---- what the lists of a path are

rises : (s : Setting) (S cs : List Contact) → cs ≡ once s S → IsStrictlySortedBy (closeness s.target) cs
rises s S cs e = subst (IsStrictlySortedBy (closeness s.target)) (sym e) (each_once_rises (closeness_total s.target) S)

pub near_rises : (s : Setting) (J : List Entry) (p : ℕ) (x : Path) → IsPath s J p x → IsStrictlySortedBy (closeness s.target) x.near.items
near_rises s J p x h = rises s (alive p J) x.near.items h.sorted

fresh_rises : (s : Setting) (J : List Entry) (p : ℕ) (x : Path) → IsPath s J p x → IsStrictlySortedBy (closeness s.target) x.fresh.items
fresh_rises s J p x h = rises s (fresh_on p J) x.fresh.items h.unasked

near_few : (p : ℕ) (J : List Entry) → length (alive p J) ≤ length (path p J)
unfolding own alive
near_few p J = (let a = few_kept (λ c. not (among (theirs p J) c)) (path p J) in let b = few_kept (λ c. not (among (failed J) c)) (own p J) in omega arith)

fresh_few : (p : ℕ) (J : List Entry) → length (fresh_on p J) ≤ length (path p J)
fresh_few p J = (let a = near_few p J in let b = few_kept (λ c. not (among (asked J) c)) (alive p J) in omega arith)

-- where the path isn't full there is room in both
near_fits : (s : Setting) (J : List Entry) (p : ℕ) (x : Path) → IsPath s J p x → length (path p J) < max_path_contacts → length x.near.items < vec_capacity x.near
near_fits s J p x h few = (let a = ap length h.sorted in let b = once_few (closeness s.target) (alive p J) in let d = near_few p J in let r = h.near_room in omega arith)

fresh_fits : (s : Setting) (J : List Entry) (p : ℕ) (x : Path) → IsPath s J p x → length (path p J) < max_path_contacts → length x.fresh.items < vec_capacity x.fresh
fresh_fits s J p x h few = (let a = ap length h.unasked in let b = once_few (closeness s.target) (fresh_on p J) in let d = fresh_few p J in let r = h.fresh_room in omega arith)

pub has_place : (s : Setting) (J : List Entry) (p : ℕ) (x : Path) → IsPath s J p x → length (path p J) < max_path_contacts → HasPlace s x
has_place s J p x h few = record {
  near_sorted = near_rises s J p x h;
  fresh_sorted = fresh_rises s J p x h;
  near_room = near_fits s J p x h few;
  fresh_room = fresh_fits s J p x h few;
  few = (let a = h.counted in omega arith);
}
