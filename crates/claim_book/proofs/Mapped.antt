-- The map of claims, after one more entry.
use Rattle.std.proofs.Common.{◌≡◌, ℕ, ◌+◌, ◌<◌, List, [], ◌∷◌, ◌++◌, inl, inr, arith, Bool, true, false, ◌||◌, ◌&&◌, cond, Option, Some, None, unwrap_or, refl, sym, ap, subst, ◌∙◌, eqb}
use Rattle.std.specs.Prelude.{IsSome, slice_get, drop, map}
use Rattle.std.specs.List.{All}
use Rattle.std.specs.Map.{lookup}
use Rattle.std.proofs.lemmas.List.Elements.{All-weaker, All-head, All-drop, All-same, All-append, All-nil, All-cons, All-map}
use Rattle.std.specs.declared.random_state.RandomState.{RandomState}
use Rattle.std.proofs.lemmas.Bool.{eqb-true, or_right, or_cases, or_parts, cases_lt}
use Rattle.indexmap.specs.IndexMap.{IndexMap, get}
use Rattle.kad_base.specs.declared.types.ClaimRule.{ClaimRule}
use Rattle.kad_base.specs.declared.types.ClaimRule.TheVariants.{Named, Asked}
use Rattle.kad_base.specs.declared.types.Contact.{Contact}
use Rattle.kad_base.specs.declared.types.Report.{Report}
use Rattle.kad_base.specs.Contacts.{same, among, IsUsable}
use Rattle.kad_base.proofs.Contacts.{same_back, same_itself, among_more}
use Rattle.claim_book.specs.declared.types.Setting.{Setting}
use Rattle.claim_book.specs.declared.types.Cause.{Cause}
use Rattle.claim_book.specs.declared.types.Thing.{Thing}
use Rattle.claim_book.specs.declared.types.Thing.TheVariants.{Responder, Told}
use Rattle.claim_book.specs.declared.types.Entry.{Entry}
use Rattle.claim_book.specs.declared.types.Entry.TheVariants.{Seed, Ask, Heard, Lost, Taken}
use Rattle.kad_base.specs.declared.host.Host.{Host}
use Rattle.claim_book.specs.declared.claim_map.Claim.{Claim}
use Rattle.claim_book.specs.declared.claim_map.Claims.{Claims}
use Rattle.claim_book.specs.declared.claim_map.Seat.{Seat}
use Rattle.claim_book.specs.declared.claim_map.Spot.{Spot}
use Rattle.claim_book.specs.Journal.{on_path, path_of, ask_of, asker_of, answer_of, fail_of, holder_of, things_in, things_of, settles_on, took, path, asked, askers, holders, answered, failed, open_on, things, settled, unsettled, may_ask}
use Rattle.claim_book.specs.Legal.{Fits, Legal}
use Rattle.kad_base.specs.Hosts.{host}
use Rattle.claim_book.specs.Crowded.{crowd, IsCrowded}
use Rattle.claim_book.specs.Claims.{key_eq, seat_eq, seat, spot_eq, spot, blank, shown, shown_crowd, shown_on, by_of, claim_of, HasRoom, IsKnown, asked_claim, ended_claim, taken_claim, Sets, Takes, Keeps, IsMap}
use Rattle.claim_book.proofs.Crowds.{seat_exact, one_of, crowd_gains, crowd_kept}
use Rattle.claim_book.proofs.More.{path_more, asked_more, askers_more, holders_more, answered_more, failed_more}
use Rattle.claim_book.proofs.Among.{among_itself, among_one}
use Rattle.claim_book.proofs.Claims.{may_ask_says, may_ask_on_path, path_took, asked_on_path, open_says, on_path_in, free_named, among_left, among_right}
use Rattle.claim_book.proofs.Deciding.{some_holder}
use Rattle.claim_book.proofs.Unsettled.{front_of, settles, unsettled_settle, unsettled_other}
use Rattle.claim_book.proofs.Keys.{key_exact, key_itself, key_same, spot_same}
use Rattle.claim_book.proofs.Filters.{same_list}

-- a write at one contact
abbrev SetsAt : Claims → Claims → Contact → Claim → Type 0
SetsAt m n c k = (d : Contact) → get key_eq n.contacts d ≡ cond (key_eq c d) (Some k) (get key_eq m.contacts d)

-- where the journal's new entry is about that contact alone
claims_set : (rule : ClaimRule) (m n : Claims) (J K : List Entry) (c : Contact) (k : Claim) → SetsAt m n c k → ((d : Contact) → shown m d ≡ claim_of rule d J) → k ≡ claim_of rule c K → ((d : Contact) → same c d ≡ false → claim_of rule d K ≡ claim_of rule d J) → (d : Contact) → shown n d ≡ claim_of rule d K
claims_set rule m n J K c k sets was here apart d = by (key_eq c d) refl
  where
    by : (b : Bool) → key_eq c d ≡ b → shown n d ≡ claim_of rule d K
    by true e =
        let at : get key_eq n.contacts d ≡ Some k = sets d ∙ ap (λ b. cond b (Some k) (get key_eq m.contacts d)) e in
        ap (λ (o : Option Claim). unwrap_or o blank) at ∙ here ∙ ap (λ x. claim_of rule x K) (key_exact c d e)
    by false e =
        let at : get key_eq n.contacts d ≡ get key_eq m.contacts d = sets d ∙ ap (λ b. cond b (Some k) (get key_eq m.contacts d)) e in
        ap (λ (o : Option Claim). unwrap_or o blank) at ∙ was d ∙ sym (apart d (sym (key_same c d) ∙ e))

-- n has the contacts of m, the hosts where the lookup has a limit, and the spots where several paths may have a contact
pub record Has (s : Setting) (m n : Claims) : Type 0 where
  pub contacts : (d : Contact) → IsSome (get key_eq m.contacts d) → IsSome (get key_eq n.contacts d)
  pub hosts : 0 < s.per_address → (k : Seat) → IsSome (get seat_eq m.crowds k) → IsSome (get seat_eq n.crowds k)
  pub spots : s.claim ≡ Asked → (k : Spot) → IsSome (get spot_eq m.spots k) → IsSome (get spot_eq n.spots k)

still_some : {A : Type 0} (b : Bool) (a : A) (o : Option A) → IsSome o → IsSome (cond b (Some a) o)
still_some true a o h = refl
still_some false a o h = h

knows_on : (m n : Claims) (c : Contact) (k : Claim) → SetsAt m n c k → (d : Contact) → IsSome (get key_eq m.contacts d) → IsSome (get key_eq n.contacts d)
knows_on m n c k sets d h = subst (λ (o : Option Claim). IsSome o) (sym (sets d)) (still_some (key_eq c d) k (get key_eq m.contacts d) h)

knows_here : (m n : Claims) (c : Contact) (k : Claim) → SetsAt m n c k → IsSome (get key_eq n.contacts c)
knows_here m n c k sets = subst (λ (o : Option Claim). IsSome o) (sym (sets c ∙ ap (λ b. cond b (Some k) (get key_eq m.contacts c)) (key_itself c))) refl

has_set : (s : Setting) (m n : Claims) (c : Contact) (k : Claim) → Sets m n c k → Has s m n
has_set s m n c k sets = record {
  contacts = knows_on m n c k sets.contacts;
  hosts = λ z k h. subst (λ (x : IndexMap Seat ℕ RandomState). IsSome (get seat_eq x k)) (sym sets.crowds) h;
  spots = λ r k h. subst (λ (x : IndexMap Spot Bool RandomState). IsSome (get spot_eq x k)) (sym sets.spots) h;
}

has_taken : (s : Setting) (m n : Claims) (p : ℕ) (c : Contact) → Takes s m n p c → Has s m n
has_taken s m n p c t = record {
  contacts = knows_on m n c (taken_claim s.claim p (shown m c)) t.contacts;
  hosts = λ z k h. subst (λ (o : Option ℕ). IsSome o) (sym (t.crowds z k)) (still_some (seat_eq (seat p (host c.addr)) k) (shown_crowd m p (host c.addr) + 1) (get seat_eq m.crowds k) h);
  spots = λ r k h. subst (λ (o : Option Bool). IsSome o) (sym (t.spots r k)) (still_some (spot_eq (spot p c) k) true (get spot_eq m.spots k) h);
}

pub has_kept : (s : Setting) (m n : Claims) → Keeps m n → Has s m n
has_kept s m n kept = record { contacts = kept.contacts; hosts = λ z. kept.crowds; spots = λ r. kept.spots }

-- what it says of hosts, after a contact is taken
crowds_taken : (s : Setting) (J : List Entry) (e : Entry) (m n : Claims) (p : ℕ) (c : Contact) → Takes s m n p c → ((q : ℕ) → path_of q e ≡ on_path q p (c ∷ [])) → (0 < s.per_address → (q : ℕ) (h : Host) → shown_crowd m q h ≡ crowd q h J) → 0 < s.per_address → (q : ℕ) (h : Host) → shown_crowd n q h ≡ crowd q h (J ++ e ∷ [])
crowds_taken s J e m n p c t gets was z q h = by (seat_eq (seat p (host c.addr)) (seat q h)) refl
  where
    by : (b : Bool) → seat_eq (seat p (host c.addr)) (seat q h) ≡ b → shown_crowd n q h ≡ crowd q h (J ++ e ∷ [])
    by true f =
        let at : shown_crowd n q h ≡ shown_crowd m p (host c.addr) + 1 = ap (λ (o : Option ℕ). unwrap_or o 0) (t.crowds z (seat q h) ∙ ap (λ b. cond b (Some (shown_crowd m p (host c.addr) + 1)) (get seat_eq m.crowds (seat q h))) f) in
        let same_seat = seat_exact (seat p (host c.addr)) (seat q h) f in
        let is : shown_crowd m p (host c.addr) ≡ shown_crowd m q h = ap (λ n. shown_crowd m n (host c.addr)) same_seat.0 ∙ ap (shown_crowd m q) same_seat.1 in
        let one : one_of p c q h ≡ 1 = ap (λ b. cond b 1 0) f in
        let old = was z q h in
        omega (arith, crowd_gains q p h c J e (gets q))
    by false f =
        let at : shown_crowd n q h ≡ shown_crowd m q h = ap (λ (o : Option ℕ). unwrap_or o 0) (t.crowds z (seat q h) ∙ ap (λ b. cond b (Some (shown_crowd m p (host c.addr) + 1)) (get seat_eq m.crowds (seat q h))) f) in
        let one : one_of p c q h ≡ 0 = ap (λ b. cond b 1 0) f in
        let old = was z q h in
        omega (arith, crowd_gains q p h c J e (gets q))

-- and after an entry by which no path gets one
crowds_like : (s : Setting) (J : List Entry) (e : Entry) (m n : Claims) → n.crowds ≡ m.crowds → ((q : ℕ) → path_of q e ≡ []) → (0 < s.per_address → (q : ℕ) (h : Host) → shown_crowd m q h ≡ crowd q h J) → 0 < s.per_address → (q : ℕ) (h : Host) → shown_crowd n q h ≡ crowd q h (J ++ e ∷ [])
crowds_like s J e m n is none_ was z q h = ap (λ (x : IndexMap Seat ℕ RandomState). unwrap_or (get seat_eq x (seat q h)) 0) is ∙ was z q h ∙ sym (crowd_kept q h J e (none_ q))

or_no : (b : Bool) → (b || false) ≡ b
or_no true = refl
or_no false = refl

-- which paths have a contact, after one is taken
spots_taken : (s : Setting) (J : List Entry) (e : Entry) (m n : Claims) (p : ℕ) (c : Contact) → Takes s m n p c → ((q : ℕ) → path_of q e ≡ on_path q p (c ∷ [])) → (s.claim ≡ Asked → (q : ℕ) (d : Contact) → shown_on m q d ≡ among (path q J) d) → s.claim ≡ Asked → (q : ℕ) (d : Contact) → shown_on n q d ≡ among (path q (J ++ e ∷ [])) d
spots_taken s J e m n p c t gets was r q d =
    ap (λ (o : Option Bool). unwrap_or o false) (t.spots r (spot q d) ∙ ap (λ b. cond b (Some true) (get spot_eq m.spots (spot q d))) (spot_same p q c d))
    ∙ by (eqb p q) (get spot_eq m.spots (spot q d))
    ∙ ap (λ b. b || among (on_path q p (c ∷ [])) d) (was r q d)
    ∙ sym (ap (λ l. among l d) (path_more q J e) ∙ among_more (path q J) (path_of q e) d ∙ ap (λ l. among (path q J) d || among l d) (gets q))
  where
    by : (a : Bool) (o : Option Bool) → unwrap_or (cond (a && same d c) (Some true) o) false ≡ (unwrap_or o false || among (cond a (c ∷ []) []) d)
    by true o = elim (same d c) as (λ b. unwrap_or (cond b (Some true) o) false ≡ (unwrap_or o false || (b || false))) [
      | true ↦ sym (or_right (unwrap_or o false) true refl)
      | false ↦ sym (or_no (unwrap_or o false))
    ]
    by false o = sym (or_no (unwrap_or o false))

among_kept : (J : List Entry) (e : Entry) (q : ℕ) (d : Contact) → path_of q e ≡ [] → among (path q (J ++ e ∷ [])) d ≡ among (path q J) d
among_kept J e q d none_ = ap (λ l. among l d) (path_more q J e ∙ same_list (path q J) (path_of q e) none_)

spots_like : (s : Setting) (J : List Entry) (e : Entry) (m n : Claims) → n.spots ≡ m.spots → ((q : ℕ) → path_of q e ≡ []) → (s.claim ≡ Asked → (q : ℕ) (d : Contact) → shown_on m q d ≡ among (path q J) d) → s.claim ≡ Asked → (q : ℕ) (d : Contact) → shown_on n q d ≡ among (path q (J ++ e ∷ [])) d
spots_like s J e m n is none_ was r q d = ap (λ (x : IndexMap Spot Bool RandomState). unwrap_or (get spot_eq x (spot q d)) false) is ∙ was r q d ∙ sym (among_kept J e q d (none_ q))

-- the map has each contact that a path has, after an entry by which none gets another one
has_on : (s : Setting) (J : List Entry) (e : Entry) (m n : Claims) (c : Contact) (k : Claim) → SetsAt m n c k → ((q : ℕ) (d : Contact) → among (path_of q e) d ≡ true → d ≡ c) → ((q : ℕ) (d : Contact) → among (path q J) d ≡ true → IsSome (get key_eq m.contacts d)) → (q : ℕ) (d : Contact) → among (path q (J ++ e ∷ [])) d ≡ true → IsSome (get key_eq n.contacts d)
has_on s J e m n c k sets gets was q d h =
    elim (or_cases (among (path q J) d) (among (path_of q e) d) (sym (ap (λ l. among l d) (path_more q J e) ∙ among_more (path q J) (path_of q e) d) ∙ h)) [
      | inl old ↦ knows_on m n c k sets d (was q d old)
      | inr new ↦ subst (λ x. IsSome (get key_eq n.contacts x)) (sym (gets q d new)) (knows_here m n c k sets)
    ]

gets_one : (e : Entry) (p : ℕ) (c : Contact) → ((q : ℕ) → path_of q e ≡ on_path q p (c ∷ [])) → (q : ℕ) (d : Contact) → among (path_of q e) d ≡ true → d ≡ c
gets_one e p c gets q d h = among_one d c (on_path_in q p (c ∷ []) d (ap (λ l. among l d) (sym (gets q)) ∙ h)).1

gets_none : (e : Entry) (c : Contact) → ((q : ℕ) → path_of q e ≡ []) → (q : ℕ) (d : Contact) → among (path_of q e) d ≡ true → d ≡ c
gets_none e c none_ q d h = (let no : false ≡ true = sym (ap (λ l. among l d) (none_ q)) ∙ h in absurd cc)

pub known_on : (s : Setting) (p : ℕ) (m n : Claims) → Has s m n → (t : Thing) → IsKnown s p m t → IsKnown s p n t
known_on s p m n f (Responder c) h = tt
known_on s p m n f (Told r) h = λ u. (let old = h u in record { contact = f.contacts r.contact old.contact; seated = λ z. f.hosts z (seat p (host r.contact.addr)) (old.seated z); spotted = λ a. f.spots a (spot p r.contact) (old.spotted a) })

pub knows_each : (s : Setting) (p : ℕ) (m n : Claims) (ts : List Thing) → Has s m n → All (IsKnown s p m) ts → All (IsKnown s p n) ts
knows_each s p m n ts f all = All-weaker (IsKnown s p m) (IsKnown s p n) (known_on s p m n f) ts all

abbrev claim_with : Option ℕ → Bool → Bool → Claim
claim_with by asked ended = record { by = by; asked = asked; ended = ended }

claim_parts : (i j : Option ℕ) (a b x y : Bool) → i ≡ j → a ≡ b → x ≡ y → claim_with i a x ≡ claim_with j b y
claim_parts i j a b x y f g h = cc

by_kept : (rule : ClaimRule) (J : List Entry) (e : Entry) (d : Contact) → holder_of d e ≡ [] → asker_of d e ≡ [] → by_of rule d (J ++ e ∷ []) ≡ by_of rule d J
by_kept Named J e d h a = ap (λ (q : List ℕ). slice_get q 0) (holders_more d J e ∙ same_list (holders d J) (holder_of d e) h)
by_kept Asked J e d h a = ap (λ (q : List ℕ). slice_get q 0) (askers_more d J e ∙ same_list (askers d J) (asker_of d e) a)

-- what the journal says of a contact that an entry isn't about
claim_kept : (rule : ClaimRule) (J : List Entry) (e : Entry) (d : Contact) → holder_of d e ≡ [] → asker_of d e ≡ [] → among (ask_of e) d ≡ false → among (answer_of e) d ≡ false → among (fail_of e) d ≡ false → claim_of rule d (J ++ e ∷ []) ≡ claim_of rule d J
claim_kept rule J e d h q a n l =
    let by = by_kept rule J e d h q in
    let ask = ap (λ (x : List Contact). among x d) (asked_more J e) ∙ among_more (asked J) (ask_of e) d ∙ ap (λ b. among (asked J) d || b) a ∙ or_no (among (asked J) d) in
    let answer = ap (λ (x : List Contact). among x d) (answered_more J e) ∙ among_more (answered J) (answer_of e) d ∙ ap (λ b. among (answered J) d || b) n ∙ or_no (among (answered J) d) in
    let fail = ap (λ (x : List Contact). among x d) (failed_more J e) ∙ among_more (failed J) (fail_of e) d ∙ ap (λ b. among (failed J) d || b) l ∙ or_no (among (failed J) d) in
    let ended : among (answered (J ++ e ∷ []) ++ failed (J ++ e ∷ [])) d ≡ among (answered J ++ failed J) d =
    among_more (answered (J ++ e ∷ [])) (failed (J ++ e ∷ [])) d ∙ ap (λ b. b || among (failed (J ++ e ∷ [])) d) answer ∙ ap (λ b. among (answered J) d || b) fail ∙ sym (among_more (answered J) (failed J) d) in
    claim_parts _ _ _ _ _ _ by ask ended

none_holds : (J : List Entry) (c : Contact) → among (took J) c ≡ false → slice_get (holders c J) 0 ≡ None
none_holds J c out = by (slice_get (holders c J) 0) refl
  where
    by : (o : Option ℕ) → slice_get (holders c J) 0 ≡ o → slice_get (holders c J) 0 ≡ None
    by None e = e
    by (Some q) e = let in_took = path_took q J c (some_holder J c q (sym e)) in absurd cc

none_asks : (J : List Entry) (c : Contact) → among (asked J) c ≡ false → askers c J ≡ []
unfolding asked askers
none_asks [] c out = refl
none_asks (Ask n d ∷ J) c out =
    let parts = or_parts (same c d) (among (asked J) c) out in
    ap (λ b. cond b (n ∷ []) [] ++ askers c J) parts.0 ∙ none_asks J c parts.1
none_asks (e ∷ J) c out = none_asks J c out

after_none : (xs ys : List ℕ) → slice_get xs 0 ≡ None → slice_get (xs ++ ys) 0 ≡ slice_get ys 0
after_none [] ys e = refl
after_none (x ∷ xs) ys e = absurd cc

-- of the contact that an entry is about
claim_asked : (rule : ClaimRule) (p : ℕ) (J : List Entry) (c : Contact) → among (asked J) c ≡ false → claim_of rule c (J ++ Ask p c ∷ []) ≡ asked_claim rule p (claim_of rule c J)
claim_asked rule p J c new = by rule
  where
    ask : among (asked (J ++ Ask p c ∷ [])) c ≡ true
    ask = ap (λ (x : List Contact). among x c) (asked_more J (Ask p c)) ∙ among_right (asked J) (c ∷ []) c (among_itself c)

    ended : among (answered (J ++ Ask p c ∷ []) ++ failed (J ++ Ask p c ∷ [])) c ≡ among (answered J ++ failed J) c
    ended = ap (λ x. among (x ++ failed (J ++ Ask p c ∷ [])) c) (answered_more J (Ask p c) ∙ same_list (answered J) [] refl) ∙ ap (λ x. among (answered J ++ x) c) (failed_more J (Ask p c) ∙ same_list (failed J) [] refl)

    by : (r : ClaimRule) → claim_of r c (J ++ Ask p c ∷ []) ≡ asked_claim r p (claim_of r c J)
    by Named = claim_parts _ _ _ _ _ _ (ap (λ (q : List ℕ). slice_get q 0) (holders_more c J (Ask p c) ∙ same_list (holders c J) [] refl)) ask ended
    by Asked =
        claim_parts _ _ _ _ _ _ (ap (λ (q : List ℕ). slice_get q 0) (askers_more c J (Ask p c) ∙ ap (λ l. l ++ asker_of c (Ask p c)) (none_asks J c new)) ∙ ap (λ b. slice_get (cond b (p ∷ []) []) 0) (same_itself c)) ask ended

claim_heard : (rule : ClaimRule) (p : ℕ) (J : List Entry) (c : Contact) (reports : List Report) → claim_of rule c (J ++ Heard p c reports ∷ []) ≡ ended_claim (claim_of rule c J)
claim_heard rule p J c reports =
    let e = Heard p c reports in
    let ask = ap (λ (x : List Contact). among x c) (asked_more J e ∙ same_list (asked J) [] refl) in
    let ended = among_left (answered (J ++ e ∷ [])) (failed (J ++ e ∷ [])) c (ap (λ (x : List Contact). among x c) (answered_more J e) ∙ among_right (answered J) (c ∷ []) c (among_itself c)) in
    claim_parts _ _ _ _ _ _ (by_kept rule J e c refl refl) ask ended

claim_lost : (rule : ClaimRule) (p : ℕ) (J : List Entry) (c : Contact) (cause : Cause) → claim_of rule c (J ++ Lost p c cause ∷ []) ≡ ended_claim (claim_of rule c J)
claim_lost rule p J c cause =
    let e = Lost p c cause in
    let ask = ap (λ (x : List Contact). among x c) (asked_more J e ∙ same_list (asked J) [] refl) in
    let ended = among_right (answered (J ++ e ∷ [])) (failed (J ++ e ∷ [])) c (ap (λ (x : List Contact). among x c) (failed_more J e) ∙ among_right (failed J) (c ∷ []) c (among_itself c)) in
    claim_parts _ _ _ _ _ _ (by_kept rule J e c refl refl) ask ended

-- an entry by which a path gets the contact
claim_gained : (rule : ClaimRule) (p : ℕ) (J : List Entry) (e : Entry) (c : Contact) → (rule ≡ Named → among (took J) c ≡ false) → holder_of c e ≡ p ∷ [] → asker_of c e ≡ [] → ask_of e ≡ [] → answer_of e ≡ [] → fail_of e ≡ [] → claim_of rule c (J ++ e ∷ []) ≡ taken_claim rule p (claim_of rule c J)
claim_gained rule p J e c out held q a n l = by rule out
  where
    ask : among (asked (J ++ e ∷ [])) c ≡ among (asked J) c
    ask = ap (λ (x : List Contact). among x c) (asked_more J e ∙ same_list (asked J) (ask_of e) a)

    ended : among (answered (J ++ e ∷ []) ++ failed (J ++ e ∷ [])) c ≡ among (answered J ++ failed J) c
    ended = ap (λ x. among (x ++ failed (J ++ e ∷ [])) c) (answered_more J e ∙ same_list (answered J) (answer_of e) n) ∙ ap (λ x. among (answered J ++ x) c) (failed_more J e ∙ same_list (failed J) (fail_of e) l)

    by : (r : ClaimRule) → (r ≡ Named → among (took J) c ≡ false) → claim_of r c (J ++ e ∷ []) ≡ taken_claim r p (claim_of r c J)
    by Named out = claim_parts _ _ _ _ _ _ (ap (λ (q : List ℕ). slice_get q 0) (holders_more c J e) ∙ after_none (holders c J) (holder_of c e) (none_holds J c (out refl)) ∙ ap (λ (q : List ℕ). slice_get q 0) held) ask ended
    by Asked out = claim_parts _ _ _ _ _ _ (ap (λ (x : List ℕ). slice_get x 0) (askers_more c J e ∙ same_list (askers c J) (asker_of c e) q)) ask ended

-- what holds of all that is unsettled, and of what the entry gives, holds of all that is unsettled then
all_unsettled : (P : Thing → Type 0) (s : Setting) (J : List Entry) (e : Entry) (p : ℕ) → Legal s J → Fits s J e → All P (unsettled p J) → All P (things_of p e) → All P (unsettled p (J ++ e ∷ []))
all_unsettled P s J e p l f h g = by (settles_on p e) refl
  where
    by : (b : Bool) → settles_on p e ≡ b → All P (unsettled p (J ++ e ∷ []))
    by true t = All-same P (unsettled p (J ++ e ∷ [])) (drop 1 (unsettled p J)) (unsettled_settle p J e t ((settles s J e p f t).no_things p)) (All-drop P 1 (unsettled p J) h)
    by false t = All-same P (unsettled p (J ++ e ∷ [])) (unsettled p J ++ things_of p e) (unsettled_other s p J e l t) (All-append P (unsettled p J) (things_of p e) h g)

-- ---- the map after each kind of entry

-- what an entry about one contact gives
record Puts (s : Setting) (J : List Entry) (e : Entry) (m n : Claims) (c : Contact) (k : Claim) : Type 0 where
  at : SetsAt m n c k
  more : Has s m n
  here : k ≡ claim_of s.claim c (J ++ e ∷ [])
  apart : (d : Contact) → same c d ≡ false → claim_of s.claim d (J ++ e ∷ []) ≡ claim_of s.claim d J
  counts : 0 < s.per_address → (q : ℕ) (h : Host) → shown_crowd n q h ≡ crowd q h (J ++ e ∷ [])
  on_paths : s.claim ≡ Asked → (q : ℕ) (d : Contact) → shown_on n q d ≡ among (path q (J ++ e ∷ [])) d
  gets : (q : ℕ) (d : Contact) → among (path_of q e) d ≡ true → d ≡ c
  gives : (p : ℕ) → All (IsKnown s p n) (things_of p e)

map_put : (s : Setting) (J : List Entry) (e : Entry) (m n : Claims) (c : Contact) (k : Claim) → Legal s J → Fits s J e → IsMap s J m → Puts s J e m n c k → IsMap s (J ++ e ∷ []) n
map_put s J e m n c k l f x puts = record {
  claims = claims_set s.claim m n J (J ++ e ∷ []) c k puts.at x.claims puts.here puts.apart;
  counts = puts.counts;
  on_paths = puts.on_paths;
  has = has_on s J e m n c k puts.at puts.gets x.has;
  known = λ p. all_unsettled (IsKnown s p n) s J e p l f (knows_each s p m n (unsettled p J) puts.more (x.known p)) (puts.gives p);
}

nothing : (s : Setting) (p : ℕ) (m : Claims) → All (IsKnown s p m) []
nothing s p m = All-nil (IsKnown s p m)

-- one by which no path gets a contact
puts_set : (s : Setting) (J : List Entry) (e : Entry) (m n : Claims) (c : Contact) (k : Claim) → IsMap s J m → Sets m n c k → ((q : ℕ) → path_of q e ≡ []) → k ≡ claim_of s.claim c (J ++ e ∷ []) → ((d : Contact) → same c d ≡ false → claim_of s.claim d (J ++ e ∷ []) ≡ claim_of s.claim d J)
    → ((p : ℕ) → All (IsKnown s p n) (things_of p e)) → Puts s J e m n c k
puts_set s J e m n c k x sets none_ here apart gives = record {
  at = sets.contacts;
  more = has_set s m n c k sets;
  here = here;
  apart = apart;
  counts = crowds_like s J e m n sets.crowds none_ x.counts;
  on_paths = spots_like s J e m n sets.spots none_ x.on_paths;
  gets = gets_none e c none_;
  gives = gives;
}

other_no : (c d : Contact) → same c d ≡ false → among (c ∷ []) d ≡ false
other_no c d a = ap (λ b. b || false) (same_back d c ∙ a)

pub map_asked : (s : Setting) (J : List Entry) (p : ℕ) (c : Contact) (m n : Claims) → Legal s J → may_ask s p J ≡ Some c → IsMap s J m → Sets m n c (asked_claim s.claim p (shown m c)) → IsMap s (J ++ Ask p c ∷ []) n
map_asked s J p c m n l f x sets =
    map_put s J (Ask p c) m n c (asked_claim s.claim p (shown m c)) l f x
    (puts_set s J (Ask p c) m n c (asked_claim s.claim p (shown m c)) x sets (λ q. refl) (ap (asked_claim s.claim p) (x.claims c) ∙ sym (claim_asked s.claim p J c (may_ask_says s p J c f).new))
    (λ d a. claim_kept s.claim J (Ask p c) d refl (ap (λ b. cond b (p ∷ []) []) (same_back d c ∙ a)) (other_no c d a) refl refl) (λ q. nothing s q n))

pub map_lost : (s : Setting) (J : List Entry) (p : ℕ) (c : Contact) (cause : Cause) (m n : Claims) → Legal s J → among (open_on p J) c ≡ true → IsMap s J m → Sets m n c (ended_claim (shown m c)) → IsMap s (J ++ Lost p c cause ∷ []) n
map_lost s J p c cause m n l f x sets =
    map_put s J (Lost p c cause) m n c (ended_claim (shown m c)) l f x
    (puts_set s J (Lost p c cause) m n c (ended_claim (shown m c)) x sets (λ q. refl) (ap ended_claim (x.claims c) ∙ sym (claim_lost s.claim p J c cause))
    (λ d a. claim_kept s.claim J (Lost p c cause) d refl refl refl refl (other_no c d a)) (λ q. nothing s q n))

known_reports : (s : Setting) (p : ℕ) (m : Claims) (c : Contact) (reports : List Report) → All (λ r. IsKnown s p m (Told r)) reports → All (IsKnown s p m) (things_in c reports)
known_reports s p m c reports all = All-cons (IsKnown s p m) (Responder c) (map Told reports) tt (All-map (IsKnown s p m) Told reports all)

pub map_heard : (s : Setting) (J : List Entry) (p : ℕ) (c : Contact) (reports : List Report) (m n : Claims) → Legal s J → Fits s J (Heard p c reports) → IsMap s J m → All (λ r. IsKnown s p m (Told r)) reports → Sets m n c (ended_claim (shown m c)) → IsMap s (J ++ Heard p c reports ∷ []) n
map_heard s J p c reports m n l f x knows sets =
    map_put s J (Heard p c reports) m n c (ended_claim (shown m c)) l f x
    (puts_set s J (Heard p c reports) m n c (ended_claim (shown m c)) x sets (λ q. refl) (ap ended_claim (x.claims c) ∙ sym (claim_heard s.claim p J c reports))
    (λ d a. claim_kept s.claim J (Heard p c reports) d refl refl refl (other_no c d a) refl) (λ q. gives q (eqb p q) refl))
  where
    gives : (q : ℕ) (b : Bool) → eqb p q ≡ b → All (IsKnown s q n) (cond b (things_in c reports) [])
    gives q true e = subst (λ r. All (IsKnown s r n) (things_in c reports)) (eqb-true p q e) (knows_each s p m n (things_in c reports) (has_set s m n c (ended_claim (shown m c)) sets) (known_reports s p m c reports knows))
    gives q false e = nothing s q n

-- one by which a path gets one
map_gained : (s : Setting) (J : List Entry) (e : Entry) (p : ℕ) (c : Contact) (m n : Claims) → Legal s J → Fits s J e → IsMap s J m → Takes s m n p c → ((q : ℕ) → path_of q e ≡ on_path q p (c ∷ [])) → taken_claim s.claim p (claim_of s.claim c J) ≡ claim_of s.claim c (J ++ e ∷ [])
    → ((d : Contact) → same c d ≡ false → claim_of s.claim d (J ++ e ∷ []) ≡ claim_of s.claim d J) → ((q : ℕ) → All (IsKnown s q n) (things_of q e)) → IsMap s (J ++ e ∷ []) n
map_gained s J e p c m n l f x takes gets here apart gives =
    map_put s J e m n c (taken_claim s.claim p (shown m c)) l f x (record {
      at = takes.contacts;
      more = has_taken s m n p c takes;
      here = ap (taken_claim s.claim p) (x.claims c) ∙ here;
      apart = apart;
      counts = crowds_taken s J e m n p c takes gets x.counts;
      on_paths = spots_taken s J e m n p c takes gets x.on_paths;
      gets = gets_one e p c gets;
      gives = gives;
    })

pub map_taken : (s : Setting) (J : List Entry) (p : ℕ) (c : Contact) (m n : Claims) → Legal s J → Fits s J (Taken p c) → IsMap s J m → Takes s m n p c → IsMap s (J ++ Taken p c ∷ []) n
map_taken s J p c m n l f x takes =
    map_gained s J (Taken p c) p c m n l f x takes (λ q. refl)
    (sym (claim_gained s.claim p J (Taken p c) c (λ e. free_named s J p c e f.1) (ap (λ b. cond b (p ∷ []) []) (same_itself c)) refl refl refl refl))
    (λ d a. claim_kept s.claim J (Taken p c) d (ap (λ b. cond b (p ∷ []) []) (same_back d c ∙ a)) refl refl refl refl) (λ q. nothing s q n)

pub map_seeded : (s : Setting) (J : List Entry) (p : ℕ) (c : Contact) (m n : Claims) → Legal s J → Fits s J (Seed p c) → among (took J) c ≡ false → IsMap s J m → Takes s m n p c → IsMap s (J ++ Seed p c ∷ []) n
map_seeded s J p c m n l f new x takes =
    map_gained s J (Seed p c) p c m n l f x takes (λ q. refl)
    (sym (claim_gained s.claim p J (Seed p c) c (λ e. new) (ap (λ b. cond b (p ∷ []) []) (same_itself c)) refl refl refl refl))
    (λ d a. claim_kept s.claim J (Seed p c) d (ap (λ b. cond b (p ∷ []) []) (same_back d c ∙ a)) refl refl refl refl) (λ q. nothing s q n)

no_asker : (e : Entry) (d : Contact) → ask_of e ≡ [] → asker_of d e ≡ []
no_asker (Ask q c) d a = absurd cc
no_asker other d a = refl

-- an entry that is about no claim
pub map_quiet : (s : Setting) (J : List Entry) (e : Entry) (m : Claims) → Legal s J → Fits s J e → ((d : Contact) → holder_of d e ≡ []) → ((q : ℕ) → path_of q e ≡ []) → ask_of e ≡ [] → answer_of e ≡ [] → fail_of e ≡ [] → ((p : ℕ) → things_of p e ≡ []) → IsMap s J m → IsMap s (J ++ e ∷ []) m
map_quiet s J e m l f h o a n k g x = record {
  claims = λ d. x.claims d ∙ sym (claim_kept s.claim J e d (h d) (no_asker e d a) (ap (λ l. among l d) a) (ap (λ l. among l d) n) (ap (λ l. among l d) k));
  counts = crowds_like s J e m m refl o x.counts;
  on_paths = spots_like s J e m m refl o x.on_paths;
  has = λ q d t. x.has q d (sym (among_kept J e q d (o q)) ∙ t);
  known = λ p. all_unsettled (IsKnown s p m) s J e p l f (x.known p) (All-same (IsKnown s p m) (things_of p e) [] (g p) (nothing s p m));
}

-- a map that has more, and shows the same
pub map_wider : (s : Setting) (J : List Entry) (m n : Claims) → IsMap s J m → Keeps m n → IsMap s J n
map_wider s J m n x kept = record {
  claims = λ c. kept.same_claims c ∙ x.claims c;
  counts = λ z q h. kept.same_crowds q h ∙ x.counts z q h;
  on_paths = λ r q c. kept.same_spots q c ∙ x.on_paths r q c;
  has = λ q c t. kept.contacts c (x.has q c t);
  known = λ p. knows_each s p m n (unsettled p J) (has_kept s m n kept) (x.known p);
}

new_claim : (rule : ClaimRule) (c : Contact) → blank ≡ claim_of rule c []
unfolding holders askers asked answered failed
new_claim Named c = refl
new_claim Asked c = refl

pub map_new : (s : Setting) (m : Claims) → m.contacts.entries ≡ [] → m.crowds.entries ≡ [] → m.spots.entries ≡ [] → IsMap s [] m
unfolding path things settled unsettled
map_new s m e f g = record {
  claims = λ c. ap (λ es. unwrap_or (lookup (key_eq c) es) blank) e ∙ new_claim s.claim c;
  counts = λ z q h. ap (λ es. unwrap_or (lookup (seat_eq (seat q h)) es) 0) f;
  on_paths = λ r q c. ap (λ es. unwrap_or (lookup (spot_eq (spot q c)) es) false) g;
  has = λ q c t. absurd cc;
  known = λ p. nothing s p m;
}

-- ---- what the map has

-- a contact that may be asked
pub knows_near : (s : Setting) (p : ℕ) (J : List Entry) (m : Claims) (c : Contact) → IsMap s J m → may_ask s p J ≡ Some c → IsSome (get key_eq m.contacts c)
knows_near s p J m c x fits = x.has p c (may_ask_on_path s p J c fits)

-- one that is open
pub knows_open : (s : Setting) (p : ℕ) (J : List Entry) (m : Claims) (c : Contact) → Legal s J → IsMap s J m → among (open_on p J) c ≡ true → IsSome (get key_eq m.contacts c)
knows_open s p J m c l x h = x.has p c (asked_on_path s J l p c (open_says p J c h).0)

-- and one that may be taken, which has its room
pub knows_front : (s : Setting) (p : ℕ) (J : List Entry) (m : Claims) (c : Contact) → IsMap s J m → Fits s J (Taken p c) → HasRoom s m p c
knows_front s p J m c x fits =
    let r = fits.0.report in
    let front = front_of p J (Told r) fits.0.first in
    let knows = All-head (IsKnown s p m) (Told r) front.rest (All-same (IsKnown s p m) (Told r ∷ front.rest) (unsettled p J) (sym front.is) (x.known p)) in
    subst (HasRoom s m p) fits.0.contact (knows (subst (IsUsable s.own) (sym fits.0.contact) fits.0.usable))

-- as long as its host doesn't crowd the path, one more can be counted
pub counts_free : (s : Setting) (p : ℕ) (J : List Entry) (m : Claims) (c : Contact) → IsMap s J m → ¬ IsCrowded s J p c → 0 < s.per_address → shown_crowd m p (host c.addr) < s.per_address
counts_free s p J m c x free z = elim (cases_lt (shown_crowd m p (host c.addr)) s.per_address) [
  | inl lt ↦ lt
  | inr ge ↦ absurd (free (record { limited = z; as_many = (let is = x.counts z p (host c.addr) in omega arith) }))
]
