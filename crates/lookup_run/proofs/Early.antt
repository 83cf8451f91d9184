-- A lookup that ends early: its events tell the journal so far.
use Rattle.std.proofs.Common.{◌≡◌, ◌⊎◌, ℕ, ◌+◌, ◌<◌, List, [], ◌∷◌, ◌++◌, Option, Result, Ok, Err, inl, inr, refl, sym, ap, subst, ◌∙◌, arith}
use Rattle.std.specs.Prelude.{map, IfOk, IfErr, OnOk, OnErr, IsErrOf}
use Rattle.std.proofs.lemmas.List.{append-nil}
use Rattle.kad_base.specs.declared.types.Addr.{Addr}
use Rattle.kad_base.specs.declared.types.Event.{Event}
use Rattle.kad_base.specs.declared.types.Event.TheVariants.{Got}
use Rattle.kad_base.specs.Outside.{Grows}
use Rattle.kad_base.specs.Limits.{max_strays}
use Rattle.kad_base.proofs.Grown.{grows_then}
use Rattle.id_puzzles.specs.Drawn.{WordsState}
use Rattle.contact_table.specs.TableState.{TableState}
use Rattle.claim_book.specs.declared.types.Entry.{Entry}
use Rattle.claim_book.specs.Legal.{Legal}
use Rattle.claim_book.specs.Journal.{seeds}
use Rattle.lookup_run.specs.declared.types.LookFault.{LookFault}
use Rattle.lookup_run.specs.declared.types.LookSetting.{LookSetting}
use Rattle.lookup_run.specs.declared.types.LookupState.{LookupState}
use Rattle.lookup_core.specs.Matching.{IsStray}
use Rattle.lookup_run.specs.Tells.{Given, Seen, TellsFrom, TellsSoFar, begun}
use Rattle.lookup_run.specs.Rounds.{Scheduling}
use Rattle.lookup_core.specs.Reply.{Answered}
use Rattle.lookup_run.specs.Lookup.{setting_of, given_of, TellsEarly, Told, TableToldBy, TableRan, quest_of}
use Rattle.lookup_core.specs.LookupSteps.{as_open}
use Rattle.lookup_run.specs.inner.DriverInvariant.{Walk, Shows}
use Rattle.lookup_run.specs.inner.RoundSteps.{Ended, Stops, EndsByStray}
use Rattle.lookup_core.specs.SendFaults.{Refuses}
use Rattle.lookup_core.proofs.Refusing.{refused_more}
use Rattle.lookup_core.specs.Sealed.{Accepts}

pub tells_of : (scheduling : Scheduling) (g : Given) (J P : List Entry) (s : Seen) (es : List Event) (t : Seen) (Q : List Entry) (heard : List Answered) → Walk scheduling g J P s es t Q heard → TellsFrom g J s es t
tells_of scheduling g J P s [] t Q heard h = h.0
tells_of scheduling g J P s (e ∷ es) t Q heard h = (h.0.mid, h.0.gives, tells_of scheduling g J ((P ++ h.0.between) ++ h.0.gave) h.0.mid es t Q h.1 h.2)

pub so_far_of : (scheduling : Scheduling) (g : Given) (work : LookupState) (place b a : ℕ) (es : List Event) (h : Shows scheduling g work place b a es) → TellsSoFar g work.lookup.book.journal es h.end
so_far_of scheduling g work place b a es h =
    subst (λ l. TellsSoFar g work.lookup.book.journal l h.end) (sym h.first)
    (tells_of scheduling g work.lookup.book.journal (seeds work.lookup.book.journal) (begun h.at) h.rest h.end h.last h.heard h.walk, h.stands.given)

pub ran_of : (scheduling : Scheduling) (calls : List Told) (t u v : TableState) → v ≡ u → TableToldBy scheduling calls t u → TableRan t v
ran_of scheduling calls t u v same h = record { run = h.run; is_run = h.is_run; leaves = same ∙ h.leaves }

-- nothing more was told, or a datagram
abbrev pub IsEarly : List Event → Type 0
IsEarly more = (more ≡ []) ⊎ ((from : Addr) × (bytes : List ℕ) × (until : ℕ) × (at : ℕ) × (more ≡ Got from bytes until at ∷ []))

few_at : (n : ℕ) (s : Seen) → n < max_strays → s.strays ≡ n → s.strays < max_strays
few_at n s few is = omega (arith, few, is)

early_of : (scheduling : Scheduling) (g : Given) (work : LookupState) (place b a : ℕ) (es fs : List Event) → work.progress.strays < max_strays → Shows scheduling g work place b a es → IsEarly fs → TellsEarly g work.lookup.book.journal (es ++ fs)
early_of scheduling g work place b a es fs few h (inl is) = record { front = es; end = h.end; so_far = so_far_of scheduling g work place b a es h; few = few_at work.progress.strays h.end few h.stands.strays; whole = inl (ap (λ l. es ++ l) is ∙ append-nil es) }
early_of scheduling g work place b a es fs few h (inr got) = record { front = es; end = h.end; so_far = so_far_of scheduling g work place b a es h; few = few_at work.progress.strays h.end few h.stands.strays; whole = inr (got.0, got.1, got.2, got.3, ap (λ l. es ++ l) got.4) }

-- nothing more was told
pub early_now : (scheduling : Scheduling) (g : Given) (work : LookupState) (place b a : ℕ) (es : List Event) → work.progress.strays < max_strays → Shows scheduling g work place b a es → TellsEarly g work.lookup.book.journal es
early_now scheduling g work place b a es few h = record { front = es; end = h.end; so_far = so_far_of scheduling g work place b a es h; few = few_at work.progress.strays h.end few h.stands.strays; whole = inl refl }

-- an end behind a step that the link refused so many sends in
pub ended_after : (look : LookSetting) (accepts : Accepts) (start : WordsState) (table : TableState) (began : Option (List Event)) (words' : WordsState) (table' : TableState) (told' : Option (List Event)) (J K : List Entry) (a b c : ℕ) → Refuses J K a b → Ended look accepts start table began words' table' told' K b c → Ended look accepts start table began words' table' told' J a c
ended_after look accepts start table began words' table' told' J K a b c step h = record { unfinished = λ sends refused. h.unfinished sends (refused_more J K sends a b refused step); ran = h.ran }

-- the journal is that from before the step
pub stops_of : (look : LookSetting) (accepts : Accepts) (words : WordsState) (old new : LookupState) (told told' : Option (List Event)) → Legal (setting_of look) old.lookup.book.journal → old.progress.strays < max_strays → new.table ≡ old.table → Grows told told' IsEarly → Stops look accepts words words old new told told'
stops_of look accepts words old new told told' legal few table grows scheduling start from began b a h sends = record {
  unfinished = λ first refused. record {
    journal = old.lookup.book.journal;
    legal = legal;
    seeds_are = h.seeds_are;
    tells = grows_then began told told' _ _ _ h.shows grows (λ es fs p is. early_of scheduling (given_of look accepts start) old words.place b a es fs few p is);
    drawn = h.drawn;
    refused = refused;
  };
  ran = ran_of scheduling _ from old.table new.table table h.tabled;
}

-- the last stray that a lookup takes
pub ends_by_stray : (look : LookSetting) (accepts : Accepts) (words : WordsState) (old : LookupState) (told told' : Option (List Event)) (source : Addr) (bytes : List ℕ) (until at : ℕ) → Legal (setting_of look) old.lookup.book.journal → ((s : Seen) → s.queries ≡ map (as_open old.lookup.book.journal) old.lookup.queries → IsStray (quest_of look) accepts s.queries source bytes) → Grows told told' (λ es. es ≡ Got source bytes until at ∷ []) → old.progress.strays + 1 ≡ max_strays
    → EndsByStray look accepts words old told told'
ends_by_stray look accepts words old told told' source bytes until at legal none grows number scheduling start table began b a h = record {
  journal = old.lookup.book.journal;
  legal = legal;
  seeds_are = h.seeds_are;
  tells = grows_then began told told' _ _ _ h.shows grows (λ es fs p is. record {
    before = es;
    end = p.end;
    from = source;
    bytes = bytes;
    until = until;
    at = at;
    so_far = so_far_of scheduling (given_of look accepts start) old words.place b a es p;
    last = ap (λ l. es ++ l) is;
    stray = none p.end p.stands.queries;
    count = ap (λ n. n + 1) p.stands.strays ∙ number;
  });
}

pub on_err_of : {T E P : Type 0} (r : Result T E) → P → OnErr r P
on_err_of (Ok x) p = tt
on_err_of (Err e) p = p

-- the fault of a `?` is that of the call
pub passed_on : {T : Type 0} (fault : LookFault) (r : Result T LookFault) (y x : LookFault) → r ≡ Err y → y ≡ x → IsErrOf r fault → IsErrOf {T = Unit {0}} (Err x) fault
passed_on {T} fault r y x e same is =
    let there : ◌≡◌ {A = Result T LookFault} (Err y) (Err fault) = sym e ∙ is in
    let it : y ≡ fault = cc in
    let here : x ≡ fault = sym same ∙ it in
    let passed : ◌≡◌ {A = Result (Unit {0}) LookFault} (Err x) (Err fault) = cc in
    passed

-- and where that of the `?` is another, so is that of the call
pub passed_other : {T : Type 0} (fault : LookFault) (r : Result T LookFault) (y x : LookFault) → r ≡ Err y → y ≡ x → (IsErrOf r fault → ⊥) → IsErrOf {T = Unit {0}} (Err x) fault → ⊥
passed_other {T} fault r y x e same other is =
    let it : x ≡ fault = cc in
    let there : ◌≡◌ {A = Result T LookFault} (Err y) (Err fault) = ap (λ (z : LookFault). Err z) (same ∙ it) in
    other (e ∙ there)

-- what a result that is known promises
pub ok_of : {T F : Type 0} (r : Result T F) (x : T) (P : T → Type 0) → r ≡ Ok x → IfOk r P → P x
ok_of r x P is h = subst (λ y. IfOk y P) is h

pub err_of : {T F : Type 0} (r : Result T F) (e : F) (P : F → Type 0) → r ≡ Err e → IfErr r P → P e
err_of r e P is h = subst (λ y. IfErr y P) is h

pub on_ok : {T F P : Type 0} (r : Result T F) (x : T) → r ≡ Ok x → OnOk r P → P
on_ok {T} {F} {P} r x is h = subst (λ y. OnOk y P) is h

pub on_err : {T F P : Type 0} (r : Result T F) (e : F) → r ≡ Err e → OnErr r P → P
on_err {T} {F} {P} r e is h = subst (λ y. OnErr y P) is h
