-- What a book answers by its index.
use Rattle.std.proofs.Common.{◌≡◌, ℕ, ◌<◌, ◌≤◌, List, [], length, take, Bool, true, false, not, ◌||◌, ◌&&◌, Option, Some, None, is_none, is_some, inr, refl, sym, ap, ◌∙◌, arith}
use Rattle.std.specs.Prelude.{filter, find, slice_get, MatchOption}
use Rattle.std.proofs.lemmas.List.{nil_from_length}
use Rattle.std.proofs.lemmas.Bool.{false_from_ne_true}
use Rattle.std.proofs.lemmas.Option.{get_or_from_slice_get}
use Rattle.kad_base.specs.declared.types.ClaimRule.{ClaimRule}
use Rattle.kad_base.specs.declared.types.ClaimRule.TheVariants.{Named, Asked}
use Rattle.kad_base.specs.declared.types.Contact.{Contact}
use Rattle.kad_base.specs.Contacts.{among}
use Rattle.kad_base.proofs.Contacts.{among_more}
use Rattle.kad_distance.specs.KClosest.{k_closest}
use Rattle.kad_distance.proofs.Orders.{closeness_total}
use Rattle.kad_distance.proofs.Least.{least_take}
use Rattle.claim_book.specs.declared.types.Setting.{Setting}
use Rattle.claim_book.specs.declared.types.Thing.{Thing}
use Rattle.claim_book.specs.declared.types.Entry.{Entry}
use Rattle.claim_book.specs.declared.path.Path.{Path}
use Rattle.claim_book.specs.Journal.{path, asked, answered, failed, open_any, open_on, alive, unsettled, first_unsettled, first_unasked, may_ask, askers}
use Rattle.claim_book.specs.Legal.{Legal, IsHeldBy, IsFree}
use Rattle.claim_book.specs.RunOut.{RunOut}
use Rattle.claim_book.specs.Calls.{asker}
use Rattle.claim_book.specs.declared.claim_map.Claims.{Claims}
use Rattle.claim_book.specs.Claims.{shown, shown_on, by_of, IsMap}
use Rattle.claim_book.specs.Index.{IsPath}
use Rattle.claim_book.proofs.Among.{among_none, none_found, found_among, found_passes}
use Rattle.claim_book.proofs.Closest.{closest_within}
use Rattle.claim_book.proofs.Claims.{may_ask_on_path, answered_asked, one_path, asked_on_path, path_took}
use Rattle.claim_book.proofs.Ends.{all_from_each, each_from_all, alive_asked_answered, asked_by_some, held_by_some, beyond}
use Rattle.claim_book.proofs.Deciding.{open_any_is, some_holder, no_holder, some_asker, may_ask_near, may_ask_full}
use Rattle.claim_book.proofs.Lists.{once_filter}
use Rattle.claim_book.proofs.Fronts.{none_first}

abbrev unasked : List Entry → Contact → Bool
unasked J c = not (among (asked J) c)

-- the fresh ones are those of the near ones that nobody asked
pub fresh_of : (s : Setting) (J : List Entry) (p : ℕ) (x : Path) → IsPath s J p x → x.fresh.items ≡ filter (λ c. not (among (asked J) c)) x.near.items
fresh_of s J p x h = h.unasked ∙ once_filter s.target (unasked J) (alive p J) ∙ ap (filter (unasked J)) (sym h.sorted)

pub near_k : (s : Setting) (J : List Entry) (p : ℕ) (x : Path) → IsPath s J p x → take s.k x.near.items ≡ k_closest s.target s.k (alive p J)
near_k s J p x h = ap (take s.k) h.sorted ∙ sym (least_take (closeness_total s.target) s.k (alive p J))

-- the first fresh one among the k nearest is the first that nobody asked
pub first_of : (s : Setting) (J : List Entry) (p : ℕ) (x : Path) → IsPath s J p x → find (λ c. not (among (asked J) c)) (take s.k x.near.items) ≡ first_unasked s p J
first_of s J p x h = ap (find (unasked J)) (near_k s J p x h)

-- it is whom the path may ask, where fewer are open than may be
pub asks : (s : Setting) (J : List Entry) (p : ℕ) (x : Path) → IsPath s J p x → x.opens < s.alpha → first_unasked s p J ≡ may_ask s p J
asks s J p x h few = may_ask_near s p J (let a = h.opened in omega arith)

pub asks_full : (s : Setting) (J : List Entry) (p : ℕ) (x : Path) → IsPath s J p x → s.alpha ≤ x.opens → None ≡ may_ask s p J
asks_full s J p x h le = sym (may_ask_full s p J (let a = h.opened in omega arith))

-- a path past the last may ask none
pub past_asks : (s : Setting) (J : List Entry) (p : ℕ) → 0 < s.paths → Legal s J → s.paths ≤ p → None ≡ may_ask s p J
past_asks s J p z l le = by (may_ask s p J) refl
  where
    by : (o : Option Contact) → may_ask s p J ≡ o → None ≡ may_ask s p J
    by None e = sym e
    by (Some c) e =
        let on = may_ask_on_path s p J c e in
        let none = among_none (path p J) (beyond s J z l p le).no_path c in
        absurd cc

-- ---- whether a path has run out

pub runs_while_open : (s : Setting) (J : List Entry) (p : ℕ) (x : Path) → IsPath s J p x → 0 < x.opens → RunOut s p J → ⊥
runs_while_open s J p x h some over = (let z = ap length over.none_open in let a = h.opened in absurd (omega arith))

pub runs_while_left : (s : Setting) (J : List Entry) (p : ℕ) (x : Path) (o : Option Thing) → IsPath s J p x → o ≡ slice_get x.queue.items 0 → is_some o ≡ true → RunOut s p J → ⊥
runs_while_left s J p x o h is some over = gone o (is ∙ ap (λ q. slice_get q 0) (h.queued ∙ over.settled)) some
  where
    gone : (o : Option Thing) → o ≡ None → is_some o ≡ true → ⊥
    gone None e f = absurd cc
    gone (Some t) e f = absurd cc

runs_out : (s : Setting) (p : ℕ) (J : List Entry) (o : Option Contact) → Legal s J → open_on p J ≡ [] → unsettled p J ≡ [] → o ≡ find (λ c. not (among (asked J) c)) (k_closest s.target s.k (alive p J)) → (is_none o ≡ true → RunOut s p J) × (RunOut s p J → is_none o ≡ true)
runs_out s p J None l none_open none_left e = (
  λ h. record {
    none_open = none_open;
    settled = none_left;
    all_answered = all_from_each (λ c. among (answered J) c ≡ true) (k_closest s.target s.k (alive p J))
        (λ c here. alive_asked_answered s p J c l none_open (closest_within s.target s.k (alive p J) c here) (turned (among (asked J) c) (none_found (λ d. not (among (asked J) d)) (k_closest s.target s.k (alive p J)) (sym e) c here)));
  },
  λ over. refl,
)
  where
    turned : (b : Bool) → not b ≡ false → b ≡ true
    turned true e = refl
    turned false e = absurd cc
runs_out s p J (Some c) l none_open none_left e = (
  λ h. absurd cc,
  λ over.
      let t = λ (d : Contact). not (among (asked J) d) in
      let cs = k_closest s.target s.k (alive p J) in
      let new = found_passes t cs c (sym e) in
      let old = answered_asked s J l c (each_from_all (λ d. among (answered J) d ≡ true) cs over.all_answered c (found_among t cs c (sym e))) in
      absurd (clash (among (asked J) c) new old),
)
  where
    clash : (b : Bool) → not b ≡ true → b ≡ true → ⊥
    clash true e f = absurd cc
    clash false e f = absurd cc

pub path_runs_out : (s : Setting) (J : List Entry) (p : ℕ) (x : Path) (o : Option Contact) → Legal s J → IsPath s J p x → x.opens ≤ 0 → (f : Option Thing) → f ≡ slice_get x.queue.items 0 → is_some f ≡ false → o ≡ first_unasked s p J → (is_none o ≡ true → RunOut s p J) × (RunOut s p J → is_none o ≡ true)
path_runs_out s J p x o l h shut f is none e =
    let few = h.opened in
    runs_out s p J o l (nil_from_length (open_on p J) (omega arith)) (sym h.queued ∙ none_first x.queue.items (sym is ∙ no_one f none)) e
  where
    no_one : (f : Option Thing) → is_some f ≡ false → f ≡ None
    no_one None e = refl
    no_one (Some t) e = absurd cc

-- ---- who is open

-- a contact that is ended isn't open, nor is one that was never asked
pub ended_not_open : (s : Setting) (J : List Entry) (m : Claims) (c : Contact) → IsMap s J m → (shown m c).ended ≡ true → among (open_any J) c ≡ false
ended_not_open s J m c x h =
    let ended : (among (answered J) c || among (failed J) c) ≡ true = sym (ap (λ k. k.ended) (x.claims c) ∙ among_more (answered J) (failed J) c) ∙ h in
    open_any_is J c ∙ ap (λ b. among (asked J) c && not b) ended ∙ neither (among (asked J) c)
  where
    neither : (b : Bool) → (b && false) ≡ false
    neither true = refl
    neither false = refl

pub unasked_not_open : (s : Setting) (J : List Entry) (m : Claims) (c : Contact) → IsMap s J m → (shown m c).asked ≡ false → among (open_any J) c ≡ false
unasked_not_open s J m c x h = open_any_is J c ∙ ap (λ b. b && not (among (answered J) c || among (failed J) c)) (sym (ap (λ k. k.asked) (x.claims c)) ∙ h)

-- one that is asked and not ended is open, on the path whose it is
pub is_open : (s : Setting) (J : List Entry) (m : Claims) (c : Contact) (o : Option ℕ) → Legal s J → IsMap s J m → (shown m c).ended ≡ false → (shown m c).asked ≡ true → o ≡ (shown m c).by → MatchOption o (among (open_any J) c ≡ false) (λ p. (among (open_any J) c ≡ true) × (p ≡ asker c J))
is_open s J m c o l x e a b = by s.claim refl o (b ∙ ap (λ k. k.by) (x.claims c))
  where
    was : among (asked J) c ≡ true
    was = sym (ap (λ k. k.asked) (x.claims c)) ∙ a

    still : among (open_any J) c ≡ true
    still = open_any_is J c ∙ ap (λ b. b && not (among (answered J) c || among (failed J) c)) was ∙ ap not (sym (ap (λ k. k.ended) (x.claims c) ∙ among_more (answered J) (failed J) c) ∙ e)

    by : (rule : ClaimRule) → s.claim ≡ rule → (o : Option ℕ) → o ≡ by_of rule c J → MatchOption o (among (open_any J) c ≡ false) (λ p. (among (open_any J) c ≡ true) × (p ≡ asker c J))
    by Named named None f =
        let ask = asked_by_some c J was in
        let held = held_by_some c J (path_took ask.0 J c (asked_on_path s J l ask.0 c ask.2)) in
        let clash = held.1 in
        absurd cc
    by Named named (Some p) f = let ask = asked_by_some c J was in (still, one_path s J named l p ask.0 c (some_holder J c p f) (asked_on_path s J l ask.0 c ask.2) ∙ sym (get_or_from_slice_get (askers c J) 0 ask.0 0 ask.1))
    by Asked by_ask None f = let ask = asked_by_some c J was in let clash = ask.1 in absurd cc
    by Asked by_ask (Some p) f = (still, sym (get_or_from_slice_get (askers c J) 0 p 0 (sym f)))

-- ---- who holds a contact against a path

-- where path p doesn't have it, the path whose it is
pub held_by : (s : Setting) (J : List Entry) (m : Claims) (p : ℕ) (c : Contact) (o : Option ℕ) → IsMap s J m → (s.claim ≡ Asked → shown_on m p c ≡ false) → o ≡ (shown m c).by → MatchOption o (IsFree s.claim J p c) (λ q. IsHeldBy s.claim J p c q)
held_by s J m p c o x off b = by s.claim refl o (b ∙ ap (λ k. k.by) (x.claims c))
  where
    out : s.claim ≡ Asked → among (path p J) c ≡ false
    out by_ask = sym (x.on_paths by_ask p c) ∙ off by_ask

    by : (rule : ClaimRule) → s.claim ≡ rule → (o : Option ℕ) → o ≡ by_of rule c J → MatchOption o (IsFree rule J p c) (λ q. IsHeldBy rule J p c q)
    by Named named None f = no_holder J c f
    by Named named (Some q) f = some_holder J c q f
    by Asked by_ask None f = (out by_ask, false_from_ne_true (among (asked J) c) (λ t. let ask = asked_by_some c J t in let clash = ask.1 in absurd cc))
    by Asked by_ask (Some q) f = inr (out by_ask, some_asker J c q f)

-- the first of the queue is the first that is unsettled
pub front_is : (s : Setting) (J : List Entry) (p : ℕ) (x : Path) → IsPath s J p x → slice_get x.queue.items 0 ≡ first_unsettled p J
unfolding first_unsettled
front_is s J p x h = ap (λ q. slice_get q 0) h.queued
