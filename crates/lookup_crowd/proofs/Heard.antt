-- What a receive leaves of each lookup's queries and asks: no query more, and nobody asked; and that it adds what the driver adds.
use Rattle.std.proofs.Common.{◌≡◌, ℕ, zero, suc, List, [], ◌∷◌, ◌++◌, get_or, set, refl, sym, ap, subst, ◌∙◌}
use Rattle.std.specs.Prelude.{Contains, filter}
use Rattle.std.specs.List.{AllZip}
use Rattle.std.proofs.lemmas.List.{append-nil, append_assoc}
use Rattle.claim_book.specs.Journal.{asked}
use Rattle.claim_book.specs.State.{BookState}
use Rattle.lookup_core.specs.Sealed.{Accepts}
use Rattle.lookup_core.specs.SendFaults.{unsent}
use Rattle.lookup_core.specs.Timeouts.{is_overdue, closed_at}
use Rattle.lookup_core.specs.LookupSteps.{query_to}
use Rattle.lookup_core.proofs.Refusing.{unsent_late, unsent_replied}
use Rattle.kad_base.specs.declared.types.Addr.{Addr}
use Rattle.lookup_crowd.specs.declared.seeker.Seeker.{Seeker}
use Rattle.lookup_crowd.specs.Mine.{driven}
use Rattle.lookup_crowd.specs.inner.Crowd.{opens, DrivenOn, OnlyHeard, SameSeat}
use Rattle.lookup_crowd.specs.inner.ManySteps.{IsMatchFor, TakesFirst, Expires}
use Rattle.lookup_core.proofs.Received.{still_in, in_wider, none_driven, driven_append, driven_closed, reply_driven, asks_closed, asked_append, reply_asks}

-- ---- one lookup

only_same : (k : Seeker) → OnlyHeard k k
only_same k = record { fewer = λ q h. h; same_asks = refl; same_unsent = refl }

only_expired : (at : ℕ) (old new : Seeker) → Expires at old new → OnlyHeard old new
only_expired at old new e = record {
  fewer = λ q h. still_in at old.lookup.queries q (subst (λ l. Contains l q) e.loses.queries h);
  same_asks = ap asked e.loses.journal ∙ asked_append old.lookup.book.journal (closed_at at (opens old)) ∙ ap (λ l. asked old.lookup.book.journal ++ l) (asks_closed (filter (is_overdue at) (opens old))) ∙ append-nil (asked old.lookup.book.journal);
  same_unsent = ap unsent e.loses.journal ∙ unsent_late old.lookup.book.journal (filter (is_overdue at) (opens old));
}

only_matched : (accepts : Accepts) (from : Addr) (bytes : List ℕ) (old new : Seeker) → IsMatchFor accepts from bytes old new → OnlyHeard old new
only_matched accepts from bytes old new m =
    let h = m.matches in
    let J = old.lookup.book.journal in
    record {
      fewer = λ q x. subst (λ l. Contains l q) (sym h.was_open) (in_wider h.before h.query h.behind q (subst (λ l. Contains l q) h.closes x));
      same_asks = ap (λ (b : BookState). asked b.journal) h.hears.after ∙ asked_append J (h.hears.entry ∷ []) ∙ ap (λ l. asked J ++ l) (reply_asks old.quest (query_to J h.query.contact) h.what h.hears.entry h.hears.gives) ∙ append-nil (asked J);
      same_unsent = ap (λ (b : BookState). unsent b.journal) h.hears.after ∙ unsent_replied J old.quest (query_to J h.query.contact) h.what h.hears.entry h.hears.gives;
    }

-- ---- all of them

only_then : (a b c : Seeker) → OnlyHeard a b → OnlyHeard b c → OnlyHeard a c
only_then a b c g h = record { fewer = λ q x. g.fewer q (h.fewer q x); same_asks = h.same_asks ∙ g.same_asks; same_unsent = h.same_unsent ∙ g.same_unsent }

pub all_same : (ks : List Seeker) → AllZip OnlyHeard ks ks
all_same [] = tt
all_same (k ∷ ks) = (only_same k, all_same ks)

pub all_then : (olds mids news : List Seeker) → AllZip OnlyHeard olds mids → AllZip OnlyHeard mids news → AllZip OnlyHeard olds news
all_then [] [] [] g h = tt
all_then [] [] (n ∷ news) g h = absurd h
all_then [] (m ∷ mids) news g h = absurd g
all_then (o ∷ olds) [] news g h = absurd g
all_then (o ∷ olds) (m ∷ mids) [] g h = absurd h
all_then (o ∷ olds) (m ∷ mids) (n ∷ news) g h = (only_then o m n g.0 h.0, all_then olds mids news g.1 h.1)

pub all_expired : (at : ℕ) (olds news : List Seeker) → AllZip (Expires at) olds news → AllZip OnlyHeard olds news
all_expired at [] [] e = tt
all_expired at [] (n ∷ news) e = absurd e
all_expired at (o ∷ olds) [] e = absurd e
all_expired at (o ∷ olds) (n ∷ news) e = (only_expired at o n e.0, all_expired at olds news e.1)

one_taken : (accepts : Accepts) (from : Addr) (bytes : List ℕ) (before behind : List Seeker) (one after : Seeker) → IsMatchFor accepts from bytes one after → AllZip OnlyHeard (before ++ one ∷ behind) (before ++ after ∷ behind)
one_taken accepts from bytes [] behind one after m = (only_matched accepts from bytes one after m, all_same behind)
one_taken accepts from bytes (k ∷ before) behind one after m = (only_same k, one_taken accepts from bytes before behind one after m)

pub first_taken : (accepts : Accepts) (from : Addr) (bytes : List ℕ) (old mid : List Seeker) → TakesFirst accepts from bytes old mid → AllZip OnlyHeard old mid
first_taken accepts from bytes old mid t =
    subst (λ l. AllZip OnlyHeard l mid) (sym t.were) (subst (AllZip OnlyHeard (t.before ++ t.one ∷ t.behind)) (sym t.are) (one_taken accepts from bytes t.before t.behind t.one t.after t.takes))

-- ---- its journal has more entries of the driver alone

pub one_driven : (k : Seeker) → DrivenOn k k
one_driven k = record { more = []; journal = sym (append-nil k.lookup.book.journal); all_driven = none_driven }

driven_more : (a b c : Seeker) → DrivenOn a b → DrivenOn b c → DrivenOn a c
driven_more a b c g h = record {
  more = g.more ++ h.more;
  journal = h.journal ∙ ap (λ J. J ++ h.more) g.journal ∙ append_assoc a.lookup.book.journal g.more h.more;
  all_driven = driven_append g.more h.more ∙ ap (λ l. l ++ driven h.more) g.all_driven ∙ ap (λ l. g.more ++ l) h.all_driven;
}

driven_expired : (at : ℕ) (old new : Seeker) → Expires at old new → DrivenOn old new
driven_expired at old new e = record { more = closed_at at (opens old); journal = e.loses.journal; all_driven = driven_closed (filter (is_overdue at) (opens old)) }

driven_matched : (accepts : Accepts) (from : Addr) (bytes : List ℕ) (old new : Seeker) → IsMatchFor accepts from bytes old new → DrivenOn old new
driven_matched accepts from bytes old new m =
    let h = m.matches in
    record {
      more = h.hears.entry ∷ [];
      journal = ap (λ (b : BookState). b.journal) h.hears.after;
      all_driven = reply_driven old.quest (query_to old.lookup.book.journal h.query.contact) h.what h.hears.entry h.hears.gives;
    }

pub same_driven : (ks : List Seeker) → AllZip DrivenOn ks ks
same_driven [] = tt
same_driven (k ∷ ks) = (one_driven k, same_driven ks)

pub driven_then : (olds mids news : List Seeker) → AllZip DrivenOn olds mids → AllZip DrivenOn mids news → AllZip DrivenOn olds news
driven_then [] [] [] g h = tt
driven_then [] [] (n ∷ news) g h = absurd h
driven_then [] (m ∷ mids) news g h = absurd g
driven_then (o ∷ olds) [] news g h = absurd g
driven_then (o ∷ olds) (m ∷ mids) [] g h = absurd h
driven_then (o ∷ olds) (m ∷ mids) (n ∷ news) g h = (driven_more o m n g.0 h.0, driven_then olds mids news g.1 h.1)

pub expired_driven : (at : ℕ) (olds news : List Seeker) → AllZip (Expires at) olds news → AllZip DrivenOn olds news
expired_driven at [] [] e = tt
expired_driven at [] (n ∷ news) e = absurd e
expired_driven at (o ∷ olds) [] e = absurd e
expired_driven at (o ∷ olds) (n ∷ news) e = (driven_expired at o n e.0, expired_driven at olds news e.1)

driven_taken : (accepts : Accepts) (from : Addr) (bytes : List ℕ) (before behind : List Seeker) (one after : Seeker) → IsMatchFor accepts from bytes one after → AllZip DrivenOn (before ++ one ∷ behind) (before ++ after ∷ behind)
driven_taken accepts from bytes [] behind one after m = (driven_matched accepts from bytes one after m, same_driven behind)
driven_taken accepts from bytes (k ∷ before) behind one after m = (one_driven k, driven_taken accepts from bytes before behind one after m)

pub first_driven : (accepts : Accepts) (from : Addr) (bytes : List ℕ) (old mid : List Seeker) → TakesFirst accepts from bytes old mid → AllZip DrivenOn old mid
first_driven accepts from bytes old mid t =
    subst (λ l. AllZip DrivenOn l mid) (sym t.were) (subst (AllZip DrivenOn (t.before ++ t.one ∷ t.behind)) (sym t.are) (driven_taken accepts from bytes t.before t.behind t.one t.after t.takes))

-- ---- by which pass each tells the table

pub same_seats : (ks : List Seeker) → AllZip SameSeat ks ks
same_seats [] = tt
same_seats (k ∷ ks) = (refl, same_seats ks)

-- where one alone has changed, and keeps its own
pub seats_set : (olds nows : List Seeker) (i : ℕ) (d new : Seeker) → nows ≡ olds → SameSeat (get_or nows i d) new → AllZip SameSeat olds (set nows i new)
seats_set olds nows i d new same seat = subst (λ l. AllZip SameSeat l (set nows i new)) same (here nows i d new seat)
  where
    here : (ks : List Seeker) (i : ℕ) (d new : Seeker) → SameSeat (get_or ks i d) new → AllZip SameSeat ks (set ks i new)
    here [] i d new h = tt
    here (k ∷ ks) zero d new h = (h, same_seats ks)
    here (k ∷ ks) (suc i) d new h = (refl, here ks i d new h)

pub seats_then : (olds mids news : List Seeker) → AllZip SameSeat olds mids → AllZip SameSeat mids news → AllZip SameSeat olds news
seats_then [] [] [] g h = tt
seats_then [] [] (n ∷ news) g h = absurd h
seats_then [] (m ∷ mids) news g h = absurd g
seats_then (o ∷ olds) [] news g h = absurd g
seats_then (o ∷ olds) (m ∷ mids) [] g h = absurd h
seats_then (o ∷ olds) (m ∷ mids) (n ∷ news) g h = (h.0 ∙ g.0, seats_then olds mids news g.1 h.1)

pub expired_seats : (at : ℕ) (olds news : List Seeker) → AllZip (Expires at) olds news → AllZip SameSeat olds news
expired_seats at [] [] e = tt
expired_seats at [] (n ∷ news) e = absurd e
expired_seats at (o ∷ olds) [] e = absurd e
expired_seats at (o ∷ olds) (n ∷ news) e = (e.0.seat, expired_seats at olds news e.1)

one_seat : (accepts : Accepts) (from : Addr) (bytes : List ℕ) (before behind : List Seeker) (one after : Seeker) → IsMatchFor accepts from bytes one after → AllZip SameSeat (before ++ one ∷ behind) (before ++ after ∷ behind)
one_seat accepts from bytes [] behind one after m = (m.seat, same_seats behind)
one_seat accepts from bytes (k ∷ before) behind one after m = (refl, one_seat accepts from bytes before behind one after m)

pub first_seats : (accepts : Accepts) (from : Addr) (bytes : List ℕ) (old mid : List Seeker) → TakesFirst accepts from bytes old mid → AllZip SameSeat old mid
first_seats accepts from bytes old mid t =
    subst (λ l. AllZip SameSeat l mid) (sym t.were) (subst (AllZip SameSeat (t.before ++ t.one ∷ t.behind)) (sym t.are) (one_seat accepts from bytes t.before t.behind t.one t.after t.takes))
