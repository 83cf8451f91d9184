-- A lookup opens a query, or closes the last that it opened.
use Rattle.std.proofs.Common.{◌≡◌, ℕ, zero, suc, ◌<◌, List, [], ◌∷◌, ◌++◌, length, Option, Some, None, refl, sym, ap, subst, ◌∙◌, arith, ◌+◌, ◌^◌}
use Rattle.std.specs.Prelude.{slice_get, remove, IfSome, IsNone, ◌↔◌, map}
use Rattle.std.specs.List.{All, AllByRecursion}
use Rattle.std.proofs.lemmas.List.{length-map, length-append, append-nil}
use Rattle.std.proofs.lemmas.List.Elements.{recursion_from_All}
use Rattle.kad_base.specs.declared.types.Contact.{Contact}
use Rattle.kad_base.specs.Contacts.{among}
use Rattle.kad_base.specs.Limits.{max_open}
use Rattle.query_book.specs.declared.Query.{Query}
use Rattle.query_book.specs.Queries.{HasId, IsOf, Closes, IsFirstFree}
use Rattle.id_puzzles.specs.Drawn.{WordsState}
use Rattle.claim_book.specs.declared.types.Entry.{Entry}
use Rattle.claim_book.specs.Journal.{open_any, asked, may_ask}
use Rattle.claim_book.specs.Legal.{Legal}
use Rattle.claim_book.specs.State.{BookState, added}
use Rattle.claim_book.proofs.Among.{among_itself}
use Rattle.claim_book.proofs.Claims.{among_right, may_ask_says}
use Rattle.claim_book.proofs.More.{asked_more}
use Rattle.lookup_core.specs.declared.ask.Asked.{Asked}
use Rattle.lookup_core.specs.declared.quest.Quest.{Quest}
use Rattle.lookup_core.specs.declared.state.Lookup.{Lookup}
use Rattle.lookup_core.specs.LookupSteps.{CanAsk, AsksNext, IsLastOpened, Holds}
use Rattle.lookup_core.proofs.Opens.{opens_ask, opens_lost, opens_distinct, asker_new}
use Rattle.lookup_core.proofs.Room.{room_to_ask}
use Rattle.claim_book.specs.declared.types.Cause.TheVariants.{SendFault}
use Rattle.claim_book.specs.declared.types.Entry.TheVariants.{Ask, Lost}
use Rattle.claim_book.specs.Calls.{asker}
use Rattle.lookup_core.proofs.Lists.{map_append, all_append, all_front}
use Rattle.lookup_core.proofs.Holding.{one_closed}

-- there is room for the query
pub room_of : (quest : Quest) (moment : ℕ) (words : WordsState) (p : ℕ) (c : Contact) (k : Lookup) → CanAsk quest moment words k → Legal k.book.setting k.book.journal → Some c ≡ may_ask k.book.setting p k.book.journal → length k.queries < max_open
room_of quest moment words p c k can legal may =
    let room = room_to_ask k.book.setting p k.book.journal c can.some_path legal (sym may) in
    let same_length : length k.queries ≡ length (open_any k.book.journal) = sym (length-map k.queries (λ (q : Query). q.contact)) ∙ ap length can.holds.is_open in
    let all = can.few in
    omega (arith, room, same_length, all)

all_last : {A : Type 0} (P : A → Type 0) (xs : List A) (x : A) → AllByRecursion P (xs ++ x ∷ []) → P x
all_last P [] x h = h.0
all_last P (y ∷ xs) x h = all_last P xs x h.1

no_id_behind : (x : Query) (qs : List Query) (tx : ℕ) → ¬ HasId (x ∷ qs) tx → ¬ HasId qs tx
no_id_behind x qs tx n h = n (suc h.0, h.1, (let lt = h.2 in omega (arith, lt)), h.3, h.4)

removed_last : (qs : List Query) (q x : Query) (place : ℕ) → slice_get (qs ++ q ∷ []) place ≡ Some x → x.tx ≡ q.tx → ¬ HasId qs q.tx → remove (qs ++ q ∷ []) place ≡ qs
removed_last [] q x zero here e n = refl
removed_last [] q x (suc k) here e n = absurd cc
removed_last (y ∷ qs) q x zero here e n = (let is : y ≡ x = cc in absurd (n (0, y, omega arith, refl, ap (λ (z : Query). z.tx) is ∙ e)))
removed_last (y ∷ qs) q x (suc k) here e n = ap (λ l. y ∷ l) (removed_last qs q x k here e (no_id_behind y qs q.tx n))

-- the last query that was opened is closed
pub closed_last : (qs : List Query) (q : Query) (old new : List Query) (result : Option Contact) → ¬ HasId qs q.tx → old ≡ qs ++ q ∷ [] → IfSome result (λ c. Closes q.tx q.contact.addr c old new) → (IsNone result ↔ All (λ x. ¬ IsOf q.tx q.contact.addr x) old) → new ≡ qs
closed_last qs q old new None free is some none =
    let all = recursion_from_All (λ x. ¬ IsOf q.tx q.contact.addr x) (qs ++ q ∷ []) (subst (All (λ x. ¬ IsOf q.tx q.contact.addr x)) is (none.0 refl)) in
    absurd (all_last (λ x. ¬ IsOf q.tx q.contact.addr x) qs q all (refl, refl))
closed_last qs q old new (Some c) free is some none =
    some.others ∙ ap (λ l. remove l some.place) is ∙ removed_last qs q some.query some.place (ap (λ l. slice_get l some.place) (sym is) ∙ some.here) some.answers.0 free

-- the last that was opened is closed again
pub last_closed : (asked : Asked) (before : List Query) (old : Lookup) (new : List Query) (result : Option Contact) → IsLastOpened asked before old → IfSome result (λ c. Closes asked.tx asked.contact.addr c old.queries new) → (IsNone result ↔ All (λ x. ¬ IsOf asked.tx asked.contact.addr x) old.queries) → new ≡ before
last_closed asked before old new result h some none = closed_last before (record { tx = asked.tx; contact = asked.contact; deadline = h.deadline }) old.queries new result h.free h.last some none

-- who was just asked is the last that was opened
pub last_opened : (drawn deadline path : ℕ) (old new : Lookup) (asked : Asked) → AsksNext drawn deadline path old new asked → IsLastOpened asked old.queries new
last_opened drawn deadline path old new asked a = record {
  deadline = deadline;
  last = a.queries;
  free = a.id.free;
  is_open = ap (λ (b : BookState). among (open_any b.journal) asked.contact) a.book ∙ ap (λ cs. among cs asked.contact) (opens_ask old.book.setting path old.book.journal asked.contact a.legal a.may)
      ∙ among_right (open_any old.book.journal) (asked.contact ∷ []) asked.contact (among_itself asked.contact);
}

pub small_id : (qs : List Query) (w tx : ℕ) → IsFirstFree qs w tx → tx < 2 ^ 32
small_id qs w tx h = (let e = h.is_id in omega (arith, e))

-- what is open once the path asked
pub ask_holds : (drawn deadline path : ℕ) (old new : Lookup) (asked : Asked) → Holds old → AsksNext drawn deadline path old new asked → Holds new
ask_holds drawn deadline path old new asked holds a =
    let c = asked.contact in
    let q : Query = record { tx = asked.tx; contact = c; deadline = deadline } in
    record {
      is_open = ap (map (λ (x : Query). x.contact)) a.queries ∙ map_append (λ (x : Query). x.contact) old.queries (q ∷ []) ∙ ap (λ l. l ++ c ∷ []) holds.is_open
          ∙ sym (opens_ask old.book.setting path old.book.journal c a.legal a.may) ∙ ap (λ (b : BookState). open_any b.journal) (sym a.book);
      ids = subst (AllByRecursion (λ (x : Query). x.tx < 2 ^ 32)) (sym a.queries) (all_append (λ (x : Query). x.tx < 2 ^ 32) old.queries (q ∷ []) holds.ids (small_id old.queries drawn asked.tx a.id, tt));
    }

-- and once that could not be sent
pub unsent_holds : (asked : Asked) (before : List Query) (old new : Lookup) → Legal old.book.setting old.book.journal → IsLastOpened asked before old → new.queries ≡ before → new.book ≡ added old.book (Lost (asker asked.contact old.book.journal) asked.contact SendFault) → Holds old → Holds new
unsent_holds asked before old new legal last queries book holds =
    let J = old.book.journal in
    let c = asked.contact in
    let q : Query = record { tx = asked.tx; contact = c; deadline = last.deadline } in
    record {
      is_open = one_closed c J new.book.journal before [] old.queries new.queries q refl last.last (queries ∙ sym (append-nil before)) holds.is_open (opens_distinct old.book.setting J legal)
          (ap (λ (b : BookState). open_any b.journal) book ∙ opens_lost (asker c J) J c SendFault);
      ids = subst (AllByRecursion (λ (x : Query). x.tx < 2 ^ 32)) (sym queries) (all_front (λ (x : Query). x.tx < 2 ^ 32) before (q ∷ []) (subst (AllByRecursion (λ (x : Query). x.tx < 2 ^ 32)) last.last holds.ids));
    }

-- ---- what an ask adds to the book

-- the query was sent
pub ask_counts : (p : ℕ) (J : List Entry) (c : Contact) → length (asked (J ++ Ask p c ∷ [])) ≡ length (asked J) + 1
ask_counts p J c = ap length (asked_more J (Ask p c)) ∙ length-append (asked J) (c ∷ [])

-- or it wasn't
pub lost_counts : (p q : ℕ) (J : List Entry) (c d : Contact) → length (asked ((J ++ Ask p c ∷ []) ++ Lost q d SendFault ∷ [])) ≡ length (asked J) + 1
lost_counts p q J c d = ap length (asked_more (J ++ Ask p c ∷ []) (Lost q d SendFault) ∙ append-nil (asked (J ++ Ask p c ∷ []))) ∙ ask_counts p J c

-- what could not be sent was asked by this path, and is lost
pub lost_added : (drawn deadline p : ℕ) (old mid new : Lookup) (asked : Asked) → AsksNext drawn deadline p old mid asked → new.book ≡ added mid.book (Lost (asker asked.contact mid.book.journal) asked.contact SendFault) → new.book ≡ added (added old.book (Ask p asked.contact)) (Lost p asked.contact SendFault)
lost_added drawn deadline p old mid new asked a lost =
    let c = asked.contact in
    let by : asker c mid.book.journal ≡ p = ap (λ (b : BookState). asker c b.journal) a.book ∙ asker_new p old.book.journal c (may_ask_says old.book.setting p old.book.journal c a.may).new in
    lost ∙ ap (λ n. added mid.book (Lost n c SendFault)) by ∙ ap (λ (b : BookState). added b (Lost p c SendFault)) a.book
