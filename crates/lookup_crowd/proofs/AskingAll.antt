-- All that all lookups may ask is asked, one query after another.
use Rattle.std.proofs.Common.{◌≡◌, ℕ, zero, suc, ◌+◌, ◌*◌, ◌<◌, ◌≤◌, List, [], ◌∷◌, ◌++◌, length, get_or, set, Option, Some, None, true, inl, inr, refl, sym, ap, subst, ◌∙◌, arith}
use Rattle.std.specs.List.{AllByRecursion, AllZip}
use Rattle.std.proofs.lemmas.Bool.{cases_lt}
use Rattle.std.proofs.lemmas.List.{append-nil, append_assoc, length-append, length-set, set-get_or}
use Rattle.kad_base.specs.declared.types.Contact.{Contact}
use Rattle.kad_base.specs.declared.types.Event.{Event}
use Rattle.kad_base.specs.Limits.{max_paths, max_path_contacts}
use Rattle.kad_base.specs.Outside.{Grows}
use Rattle.id_puzzles.specs.Drawn.{WordsState}
use Rattle.query_book.specs.declared.Query.{Query}
use Rattle.claim_book.specs.declared.types.Cause.TheVariants.{SendFault}
use Rattle.claim_book.specs.declared.types.Entry.{Entry}
use Rattle.claim_book.specs.declared.types.Entry.TheVariants.{Ask, Lost}
use Rattle.claim_book.specs.Journal.{asked, unsettled, may_ask}
use Rattle.claim_book.specs.Legal.{Legal}
use Rattle.claim_book.specs.State.{BookState, added}
use Rattle.claim_book.proofs.More.{legal_more}
use Rattle.claim_book.proofs.Bounds.{asked_few}
use Rattle.lookup_core.specs.Sealed.{Accepts}
use Rattle.lookup_core.specs.Timeouts.{deadline_of}
use Rattle.lookup_core.specs.LookupSteps.{CanAsk}
use Rattle.lookup_core.proofs.Lists.{all_append}
use Rattle.lookup_core.proofs.Opening.{ask_counts, lost_counts, lost_added}
use Rattle.lookup_core.proofs.Others.{asked_opens, none_after_ask, none_after_lost, settled_after_ask, settled_after_lost}
use Rattle.node_serve.specs.declared.setting.ServeSetting.{ServeSetting}
use Rattle.node_serve.specs.Sealing.{Tags}
use Rattle.serve_crew.specs.Hands.{Hands}
use Rattle.serve_crew.proofs.Growing.{same_none}
use Rattle.lookup_crowd.specs.declared.seeker.Seeker.{Seeker}
use Rattle.lookup_crowd.specs.declared.seeker.Progress.{Progress}
use Rattle.lookup_crowd.specs.Many.{nothing_read, owned_by, and_then}
use Rattle.lookup_crowd.specs.Mine.{driven}
use Rattle.lookup_crowd.specs.inner.Crowd.{Holding, NoneAsks, NothingLeft, Longer, DrivenOn, SameSeat, asks_of, queries_of, ManyShow, stand}
use Rattle.lookup_crowd.specs.inner.ManySteps.{AsksOver, is_sent, is_unsent, IsReady, NoneBefore, MayAskAll, AsksAll}
use Rattle.lookup_crowd.proofs.Asking.{ask_goes}
use Rattle.lookup_crowd.proofs.Heard.{one_driven, same_driven, driven_then, seats_then}
use Rattle.lookup_crowd.proofs.Hosting.{ran_none, ran_then}
use Rattle.lookup_crowd.proofs.Lists.{all_at}
use Rattle.lookup_crowd.proofs.Rounding.{longer_then}
use Rattle.lookup_crowd.proofs.Telling.{same_longer}
use Rattle.lookup_crowd.proofs.Walking.{nothing_after, then_assoc}

-- ---- one book

-- an ask of a path leaves this of its book: one contact more was asked, nothing more is to be settled, and no other path may ask
-- that might not before
record AsksMore (p : ℕ) (old new : BookState) : Type 0 where
  setting : new.setting ≡ old.setting
  more : List Entry
  journal : new.journal ≡ old.journal ++ more
  all_driven : driven more ≡ more
  one : length (asked new.journal) ≡ length (asked old.journal) + 1
  few : length (asked new.journal) ≤ max_path_contacts * old.setting.paths
  left : (q : ℕ) → unsettled q new.journal ≡ unsettled q old.journal
  others : (q : ℕ) → (q ≡ p → ⊥) → may_ask old.setting q old.journal ≡ None → may_ask new.setting q new.journal ≡ None

ask_driven : (p : ℕ) (c : Contact) → driven (Ask p c ∷ []) ≡ Ask p c ∷ []
unfolding driven
ask_driven p c = refl

unsent_driven : (p : ℕ) (c : Contact) → driven (Ask p c ∷ Lost p c SendFault ∷ []) ≡ Ask p c ∷ Lost p c SendFault ∷ []
unfolding driven
unsent_driven p c = refl

-- the query was sent
sent_more : (p : ℕ) (c : Contact) (b : BookState) → 0 < b.setting.paths → b.setting.k < max_path_contacts → Legal b.setting b.journal → may_ask b.setting p b.journal ≡ Some c → AsksMore p b (added b (Ask p c))
sent_more p c b some small l may =
    let s = b.setting in
    let J = b.journal in
    record {
      setting = refl;
      more = Ask p c ∷ [];
      journal = refl;
      all_driven = ask_driven p c;
      one = ask_counts p J c;
      few = asked_few s (J ++ Ask p c ∷ []) some small (legal_more s J (Ask p c) l may);
      left = λ q. settled_after_ask s p q J c l;
      others = λ q ne none. none_after_ask s p q J c ne may none;
    }

-- or it wasn't
unsent_more : (p : ℕ) (c : Contact) (b : BookState) → 0 < b.setting.paths → b.setting.k < max_path_contacts → Legal b.setting b.journal → may_ask b.setting p b.journal ≡ Some c → AsksMore p b (added (added b (Ask p c)) (Lost p c SendFault))
unsent_more p c b some small l may =
    let s = b.setting in
    let J = b.journal in
    let J1 = J ++ Ask p c ∷ [] in
    let l1 = legal_more s J (Ask p c) l may in
    let few = asked_few s J1 some small l1 in
    let same = ask_counts p J c in
    let one = lost_counts p p J c c in
    record {
      setting = refl;
      more = Ask p c ∷ Lost p c SendFault ∷ [];
      journal = append_assoc J (Ask p c ∷ []) (Lost p c SendFault ∷ []);
      all_driven = unsent_driven p c;
      one = one;
      few = omega (arith, few, same, one);
      left = λ q. settled_after_lost s p q J1 c SendFault l1 ∙ settled_after_ask s p q J c l;
      others = λ q ne none. none_after_lost s p q J1 c SendFault l1 (asked_opens s p J c l may) ne (none_after_ask s p q J c ne may none);
    }

-- ---- one lookup

-- and this of the lookup
record Leaves (moment p : ℕ) (old new : Seeker) : Type 0 where
  longer : Longer old new
  driven_on : DrivenOn old new
  one : length (asked new.lookup.book.journal) ≡ length (asked old.lookup.book.journal) + 1
  open_more : length new.lookup.queries ≤ length old.lookup.queries + 1
  ready : IsReady moment new
  left : NothingLeft new
  others : (q : ℕ) → (q ≡ p → ⊥) → may_ask old.lookup.book.setting q old.lookup.book.journal ≡ None → may_ask new.lookup.book.setting q new.lookup.book.journal ≡ None

leaves_of : (moment p : ℕ) (old new : Seeker) → new.quest ≡ old.quest → new.gathered ≡ old.gathered → IsReady moment old → NothingLeft old → AsksMore p old.lookup.book new.lookup.book → length new.lookup.queries ≤ length old.lookup.queries + 1 → AllByRecursion (λ (q : Query). q.deadline ≤ deadline_of moment old.quest.timeout) new.lookup.queries → Leaves moment p old new
leaves_of moment p old new quest same r left b opens deadlines = record {
  longer = record { more = b.more; quest = quest; setting = b.setting; journal = b.journal; gathered = λ is. same };
  driven_on = record { more = b.more; journal = b.journal; all_driven = b.all_driven };
  one = b.one;
  open_more = opens;
  ready = record {
    some_path = subst (λ s. 0 < s.paths) (sym b.setting) r.some_path;
    few_paths = subst (λ s. s.paths ≤ max_paths) (sym b.setting) r.few_paths;
    few = subst (λ s. s.alpha * s.paths ≤ 32) (sym b.setting) r.few;
    small = subst (λ s. s.k < 256) (sym b.setting) r.small;
    policy = ap (λ q. q.policy) quest ∙ r.policy ∙ ap (λ s. s.policy) (sym b.setting);
    deadlines = subst (λ q. AllByRecursion (λ (x : Query). x.deadline ≤ deadline_of moment q.timeout) new.lookup.queries) (sym quest) deadlines;
    few_asks = (let few = b.few in let paths = r.few_paths in omega (arith, few, paths));
  };
  left = λ q lt. b.left q ∙ left q (subst (λ s. q < s.paths) b.setting lt);
  others = b.others;
}

leaves : (moment p : ℕ) (words : WordsState) (old new : Seeker) (told told' : Option (List Event)) → new.quest ≡ old.quest → new.gathered ≡ old.gathered → IsReady moment old → NothingLeft old → AsksOver moment words p old new told told' → Leaves moment p old new
leaves moment p words old new told told' quest same r left (is_sent asked a grows) =
    let qs = old.lookup.queries in
    let q : Query = record { tx = asked.tx; contact = asked.contact; deadline = deadline_of moment old.quest.timeout } in
    leaves_of moment p old new quest same r left
    (subst (AsksMore p old.lookup.book) (sym a.book) (sent_more p asked.contact old.lookup.book r.some_path r.small a.legal a.may))
    (let longer = ap length a.queries ∙ length-append qs (q ∷ []) in omega (arith, longer))
    (subst (AllByRecursion (λ (x : Query). x.deadline ≤ deadline_of moment old.quest.timeout)) (sym a.queries) (all_append (λ (x : Query). x.deadline ≤ deadline_of moment old.quest.timeout) qs (q ∷ []) r.deadlines (omega arith, tt)))
leaves moment p words old new told told' quest same r left (is_unsent asked mid a queries book grows) =
    leaves_of moment p old new quest same r left
    (subst (AsksMore p old.lookup.book) (sym (lost_added _ _ p old.lookup mid new.lookup asked a book)) (unsent_more p asked.contact old.lookup.book r.some_path r.small a.legal a.may))
    (let same = ap length queries in omega (arith, same))
    (subst (AllByRecursion (λ (x : Query). x.deadline ≤ deadline_of moment old.quest.timeout)) (sym queries) r.deadlines)

-- ---- the i-th of several

all_set : (P : Seeker → Type 0) (ks : List Seeker) (i : ℕ) (new : Seeker) → AllByRecursion P ks → P new → AllByRecursion P (set ks i new)
all_set P [] i new h one = tt
all_set P (k ∷ ks) zero new h one = (one, h.1)
all_set P (k ∷ ks) (suc i) new h one = (h.0, all_set P ks i new h.1 one)

zip_same : (R : Seeker → Seeker → Type 0) → ((k : Seeker) → R k k) → (ks : List Seeker) → AllZip R ks ks
zip_same R same [] = tt
zip_same R same (k ∷ ks) = (same k, zip_same R same ks)

zip_set : (R : Seeker → Seeker → Type 0) → ((k : Seeker) → R k k) → (ks : List Seeker) (i : ℕ) (d new : Seeker) → R (get_or ks i d) new → AllZip R ks (set ks i new)
zip_set R same [] i d new h = tt
zip_set R same (k ∷ ks) zero d new h = (h, zip_same R same ks)
zip_set R same (k ∷ ks) (suc i) d new h = (same k, zip_set R same ks i d new h)

asks_set : (ks : List Seeker) (i : ℕ) (d new : Seeker) → i < length ks → length (asked new.lookup.book.journal) ≡ length (asked (get_or ks i d).lookup.book.journal) + 1 → asks_of (set ks i new) ≡ asks_of ks + 1
asks_set [] i d new lt one = absurd (omega (arith, lt))
asks_set (k ∷ ks) zero d new lt one = omega (arith, one)
asks_set (k ∷ ks) (suc i) d new lt one = (let rest = asks_set ks i d new (omega (arith, lt)) one in omega (arith, rest))

queries_set : (ks : List Seeker) (i : ℕ) (d new : Seeker) → i < length ks → length new.lookup.queries ≤ length (get_or ks i d).lookup.queries + 1 → length (queries_of (set ks i new)) ≤ length (queries_of ks) + 1
queries_set [] i d new lt le = absurd (omega (arith, lt))
queries_set (k ∷ ks) zero d new lt le =
    let a = length-append new.lookup.queries (queries_of ks) in
    let b = length-append k.lookup.queries (queries_of ks) in
    omega (arith, le, a, b)
queries_set (k ∷ ks) (suc i) d new lt le =
    let rest = queries_set ks i d new (omega (arith, lt)) le in
    let a = length-append k.lookup.queries (queries_of (set ks i new)) in
    let b = length-append k.lookup.queries (queries_of ks) in
    omega (arith, rest, a, b)

-- all asked no more than they may
few_all : (moment : ℕ) (ks : List Seeker) → AllByRecursion (IsReady moment) ks → asks_of ks ≤ length ks * (max_paths * max_path_contacts)
few_all moment [] h = omega arith
few_all moment (k ∷ ks) h = (let one = h.0.few_asks in let rest = few_all moment ks h.1 in omega (arith, one, rest))

-- it can be asked for more
pub can_ask : (ks : List Seeker) (i : ℕ) (d : Seeker) (progress : Progress) (words : WordsState) → MayAskAll ks progress words → i < length ks → CanAsk (get_or ks i d).quest progress.moment words (get_or ks i d).lookup
can_ask ks i d progress words may lt =
    let r = all_at (IsReady progress.moment) ks i d may.ready lt in
    let has = may.has_words in
    let few = may.counted.asks in
    record {
      holds = all_at Holding ks i d may.holds lt;
      some_path = r.some_path;
      few = r.few;
      deadlines = r.deadlines;
      place = omega (arith, has, few);
    }

-- ---- who may ask nothing

none_set : (i p : ℕ) (ks : List Seeker) (d new : Seeker) → NoneBefore i p ks
    → ((q : ℕ) → q < p → may_ask (get_or ks i d).lookup.book.setting q (get_or ks i d).lookup.book.journal ≡ None → may_ask new.lookup.book.setting q new.lookup.book.journal ≡ None) → NoneBefore i p (set ks i new)
none_set i p [] d new h f = tt
none_set zero p (k ∷ ks) d new h f = λ q lt. f q lt (h q lt)
none_set (suc i) p (k ∷ ks) d new h f = (h.0, none_set i p ks d new h.1 f)

-- nor may the next path
pub none_more : (i p : ℕ) (ks : List Seeker) (d : Seeker) → NoneBefore i p ks → i < length ks → may_ask (get_or ks i d).lookup.book.setting p (get_or ks i d).lookup.book.journal ≡ None → NoneBefore i (p + 1) ks
none_more i p [] d h lt none = tt
none_more zero p (k ∷ ks) d h lt none = λ q less.
    elim (cases_lt q p) [
      | inl below ↦ h q below
      | inr above ↦ (let is : q ≡ p = omega (arith, less, above) in ap (λ n. may_ask k.lookup.book.setting n k.lookup.book.journal) is ∙ none)
    ]
none_more (suc i) p (k ∷ ks) d h lt none = (h.0, none_more i p ks d h.1 (omega (arith, lt)) none)

-- where nothing was asked
pub none_still : (i p : ℕ) (ks : List Seeker) (d new : Seeker) → new ≡ get_or ks i d → NoneBefore i p ks → NoneBefore i p (set ks i new)
none_still i p ks d new same h = subst (λ l. NoneBefore i p l) (sym (ap (set ks i) same ∙ set-get_or ks i d)) h

-- where none begins
pub none_here : (ks : List Seeker) → NoneBefore 0 0 ks
none_here [] = tt
none_here (k ∷ ks) = λ q lt. absurd (omega (arith, lt))

none_lookup : (moment i : ℕ) (ks : List Seeker) → AllByRecursion (IsReady moment) ks → NoneBefore i max_paths ks → NoneBefore (suc i) 0 ks
none_lookup moment i [] r h = tt
none_lookup moment zero (k ∷ ks) r h = ((λ q lt. h q (let few = r.0.few_paths in omega (arith, lt, few))), none_here ks)
none_lookup moment (suc i) (k ∷ ks) r h = (h.0, none_lookup moment i ks r.1 h.1)

-- nor may the next lookup
pub none_next : (i : ℕ) (ks : List Seeker) (progress : Progress) (words : WordsState) → MayAskAll ks progress words → NoneBefore i max_paths ks → NoneBefore (i + 1) 0 ks
none_next i ks progress words may h = (let is : suc i ≡ i + 1 = omega arith in subst (λ n. NoneBefore n 0 ks) is (none_lookup progress.moment i ks may.ready h))

-- none of all may
pub none_all : (i : ℕ) (ks : List Seeker) → length ks ≤ i → NoneBefore i 0 ks → AllByRecursion NoneAsks ks
none_all i [] le h = tt
none_all zero (k ∷ ks) le h = absurd (omega (arith, le))
none_all (suc i) (k ∷ ks) le h = (h.0, none_all i ks (omega (arith, le)) h.1)

-- ---- one ask of all

-- what it leaves of all
pub record LeavesAll (i p : ℕ) (ks : List Seeker) (new : Seeker) (progress : Progress) (words' : WordsState) : Type 0 where
  pub may : MayAskAll (set ks i new) progress words'
  pub none : NoneBefore i p (set ks i new)
  pub one : asks_of (set ks i new) ≡ asks_of ks + 1
  pub longer : AllZip Longer ks (set ks i new)
  pub driven_on : AllZip DrivenOn ks (set ks i new)
  pub seats : AllZip SameSeat ks (set ks i new)

pub leaves_all : (i p : ℕ) (words words' : WordsState) (ks : List Seeker) (d new : Seeker) (progress : Progress) (told told' : Option (List Event)) → MayAskAll ks progress words → NoneBefore i p ks → i < length ks → new.quest ≡ (get_or ks i d).quest → new.gathered ≡ (get_or ks i d).gathered → SameSeat (get_or ks i d) new → Holding new
    → words' ≡ record words { place = words.place + 1 } → AsksOver progress.moment words p (get_or ks i d) new told told' → LeavesAll i p ks new progress words'
leaves_all i p words words' ks d new progress told told' may none lt quest same seat holds next over =
    let k = get_or ks i d in
    let x = leaves progress.moment p words k new told told' quest same (all_at (IsReady progress.moment) ks i d may.ready lt) (all_at NothingLeft ks i d may.settled lt) over in
    let one = asks_set ks i d new lt x.one in
    let opens = queries_set ks i d new lt x.open_more in
    let ready = all_set (IsReady progress.moment) ks i new may.ready x.ready in
    let few : length (set ks i new) ≤ 16 = subst (λ n. n ≤ 16) (sym (length-set ks i new)) may.few in
    let all = few_all progress.moment (set ks i new) ready in
    let place : words'.place ≡ words.place + 1 = ap (λ (w : WordsState). w.place) next in
    record {
      may = record {
        holds = all_set Holding ks i new may.holds holds;
        ready = ready;
        settled = all_set NothingLeft ks i new may.settled x.left;
        few = few;
        has_words = (let has = may.has_words in omega (arith, has, place, one));
        counted = record {
          received = (let r = may.counted.received in omega (arith, r, one, opens));
          replied = may.counted.replied;
          asks = omega (arith, few, all);
        };
      };
      none = none_set i p ks d new none (λ q less h. x.others q (λ e. absurd (omega (arith, less, e))) h);
      one = one;
      longer = zip_set Longer same_longer ks i d new x.longer;
      driven_on = zip_set DrivenOn one_driven ks i d new x.driven_on;
      seats = zip_set SameSeat (λ k. refl) ks i d new seat;
    }

pub asks_one : (accepts : Accepts) (tags : Tags) (server : ServeSetting) (host : Hands) (i p : ℕ) (words words' : WordsState) (ks : List Seeker) (d new : Seeker) (progress : Progress) (told told' : Option (List Event)) → MayAskAll ks progress words → NoneBefore i p ks → i < length ks → new.quest ≡ (get_or ks i d).quest → new.gathered ≡ (get_or ks i d).gathered → SameSeat (get_or ks i d) new → Holding new
    → words' ≡ record words { place = words.place + 1 } → AsksOver progress.moment words p (get_or ks i d) new told told' → AsksAll accepts tags server (stand ks progress words host told) (stand (set ks i new) progress words' host told') [] (i ∷ [])
asks_one accepts tags server host i p words words' ks d new progress told told' may none lt quest same seat holds next over =
    let x = leaves_all i p words words' ks d new progress told told' may none lt quest same seat holds next over in
    record {
      made = i ∷ [];
      advances = record {
        more = owned_by i;
        owners_are = refl;
        none_told = refl;
        goes = ask_goes accepts tags server i p words words' ks d new progress told told' may.holds lt quest same next over;
        ran = ran_none host;
        seed = ap (λ (w : WordsState). w.seed) next;
      };
      owners_are = refl;
      longer = x.longer;
      driven_on = x.driven_on;
      seats = x.seats;
      may = x.may;
      progress = refl;
      drawn = next;
    }

-- ---- asks after asks

-- none so far
pub asks_none : (accepts : Accepts) (tags : Tags) (server : ServeSetting) (host : Hands) (words words' : WordsState) (ks ls : List Seeker) (progress : Progress) (told told' : Option (List Event)) (owners owners' : List ℕ) → MayAskAll ks progress words → ls ≡ ks → words' ≡ words → told' ≡ told → owners' ≡ owners
    → AsksAll accepts tags server (stand ks progress words host told) (stand ls progress words' host told') owners owners'
asks_none accepts tags server host words words' ks ls progress told told' owners owners' may same same_words same_told same_owners =
    let place : words.place ≡ words.place + 0 = omega arith in
    let still : AsksAll accepts tags server (stand ks progress words host told) (stand ks progress words host told) owners owners' = record {
      made = [];
      advances = record {
        more = nothing_read;
        owners_are = refl;
        none_told = refl;
        goes = λ f count read began is h. subst (λ r. Grows began told (λ events. ManyShow true f count ks progress words.place None r events)) (sym (nothing_after read)) h;
        ran = ran_none host;
        seed = refl;
      };
      owners_are = same_owners ∙ sym (append-nil owners);
      longer = zip_same Longer same_longer ks;
      driven_on = same_driven ks;
      seats = zip_same SameSeat (λ k. refl) ks;
      may = may;
      progress = refl;
      drawn = ap (λ n. record words { place = n }) place;
    } in
    subst (λ (l : List Seeker). AsksAll accepts tags server (stand ks progress words host told) (stand l progress words' host told') owners owners') (sym same)
    (subst (λ (w : WordsState). AsksAll accepts tags server (stand ks progress words host told) (stand ks progress w host told') owners owners') (sym same_words)
    (subst (λ (o : Option (List Event)). AsksAll accepts tags server (stand ks progress words host told) (stand ks progress words host o) owners owners') (sym same_told) still))

pub asks_then : (accepts : Accepts) (tags : Tags) (server : ServeSetting) (host : Hands) (words words' words'' : WordsState) (ks ls ms : List Seeker) (progress : Progress) (told told' told'' : Option (List Event)) (owners owners' owners'' : List ℕ) → AsksAll accepts tags server (stand ks progress words host told) (stand ls progress words' host told') owners owners'
    → AsksAll accepts tags server (stand ls progress words' host told') (stand ms progress words'' host told'') owners' owners'' → AsksAll accepts tags server (stand ks progress words host told) (stand ms progress words'' host told'') owners owners''
asks_then accepts tags server host words words' words'' ks ls ms progress told told' told'' owners owners' owners'' a b =
    let g = a.advances in
    let h = b.advances in
    let sum : (words.place + length a.made) + length b.made ≡ words.place + length (a.made ++ b.made) = (let both = length-append a.made b.made in omega (arith, both)) in
    record {
      made = a.made ++ b.made;
      advances = record {
        more = and_then g.more h.more;
        owners_are = ap (λ l. l ++ h.more.owners) g.owners_are ∙ ap (λ l. a.made ++ l) h.owners_are;
        none_told = ap (λ l. l ++ h.more.told) g.none_told ∙ h.none_told;
        goes = λ f count read began is x.
            subst (λ r. Grows began told'' (λ events. ManyShow true f count ms progress words''.place None r events)) (then_assoc read g.more h.more)
            (h.goes f count (and_then read g.more) began (record { accepts_is = is.accepts_is; tags_is = is.tags_is; server_is = is.server_is; seed_is = is.seed_is ∙ sym g.seed }) (g.goes f count read began is x));
        ran = ran_then host host host g.more.did g.more.lost h.more.did h.more.lost (same_none host) g.ran h.ran;
        seed = h.seed ∙ g.seed;
      };
      owners_are = b.owners_are ∙ ap (λ l. l ++ b.made) a.owners_are ∙ append_assoc owners a.made b.made;
      longer = longer_then ks ls ms a.longer b.longer;
      driven_on = driven_then ks ls ms a.driven_on b.driven_on;
      seats = seats_then ks ls ms a.seats b.seats;
      may = b.may;
      progress = refl;
      drawn = b.drawn ∙ ap (λ (w : WordsState). record w { place = w.place + length b.made }) a.drawn ∙ ap (λ n. record words { place = n }) sum;
    }

-- its owner was written down behind those before
pub asks_behind : (accepts : Accepts) (tags : Tags) (server : ServeSetting) (host : Hands) (words words' : WordsState) (ks ls : List Seeker) (progress : Progress) (told told' : Option (List Event)) (owners owners' one : List ℕ) → AsksAll accepts tags server (stand ks progress words host told) (stand ls progress words' host told') [] one → owners' ≡ owners ++ one
    → AsksAll accepts tags server (stand ks progress words host told) (stand ls progress words' host told') owners owners'
asks_behind accepts tags server host words words' ks ls progress told told' owners owners' one a are = record {
  made = a.made;
  advances = a.advances;
  owners_are = are ∙ ap (λ l. owners ++ l) a.owners_are;
  longer = a.longer;
  driven_on = a.driven_on;
  seats = a.seats;
  may = a.may;
  progress = a.progress;
  drawn = a.drawn;
}
