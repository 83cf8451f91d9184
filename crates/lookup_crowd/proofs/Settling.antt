-- One lookup settles what it has: no event gives such an entry, and what the others had stays.
use Rattle.std.proofs.Common.{◌≡◌, ℕ, ◌+◌, ◌^◌, ◌<◌, ◌≤◌, List, [], ◌∷◌, ◌++◌, true, cond, Result, Ok, Err, Some, inl, inr, refl, sym, ap, subst, ◌∙◌, arith}
use Rattle.std.specs.Prelude.{map, IsOk, OnOk}
use Rattle.std.specs.List.{AllByRecursion}
use Rattle.std.proofs.lemmas.Bool.{cases_lt, eq-eqb}
use Rattle.std.proofs.lemmas.List.{append-nil, append_assoc, map-append}
use Rattle.std.proofs.lemmas.List.Concat.{flat_map-append}
use Rattle.std.proofs.lemmas.List.Elements.{All-nil, All-push, All-append}
use Rattle.kad_base.specs.declared.types.Contact.{Contact}
use Rattle.kad_base.specs.declared.types.NoMemory.{NoMemory as NoMemory_type}
use Rattle.kad_base.specs.declared.serial.Made.{Made}
use Rattle.kad_base.specs.Limits.{max_paths}
use Rattle.kad_base.specs.Serial.{made}
use Rattle.query_book.specs.declared.Query.{Query}
use Rattle.turn_book.specs.Turns.{TurnState, mine}
use Rattle.contact_table.specs.declared.calls.TableCall.{TableCall}
use Rattle.contact_table.specs.declared.calls.TableCall.TheVariants.{Seen}
use Rattle.contact_table.specs.declared.calls.TableReply.{TableReply}
use Rattle.contact_table.specs.TableState.{TableState}
use Rattle.contact_table.specs.Told.{HasMemory, calls_in, seen_calls}
use Rattle.claim_book.specs.CheckedState.{CheckedState}
use Rattle.claim_book.specs.declared.types.Entry.{Entry}
use Rattle.claim_book.specs.declared.types.Entry.TheVariants.{Note}
use Rattle.claim_book.specs.declared.types.Setting.{Setting}
use Rattle.claim_book.specs.declared.types.Thing.TheVariants.{Responder}
use Rattle.claim_book.specs.declared.calls.BookReply.{BookReply}
use Rattle.claim_book.specs.declared.calls.BookReply.TheVariants.{Kept, NotFront}
use Rattle.claim_book.specs.Calls.{NoteStep, SettleStep, IsFront, after_kept, after_settle}
use Rattle.claim_book.specs.Journal.{settles_on, seeds, open_any, unsettled, first_unsettled}
use Rattle.claim_book.specs.State.{BookState, added}
use Rattle.path_worker.specs.Settling.{seen_with}
use Rattle.path_worker.specs.WorkerSteps.{SettlesReport}
use Rattle.path_worker.proofs.WorkerSteps.{settle_one}
use Rattle.serve_crew.specs.Hands.{TablePass, SamePass, ToldOf}
use Rattle.lookup_core.proofs.Received.{none_driven}
use Rattle.lookup_core.proofs.Settling.{IsSilent, open_same, driven_same, seeds_same, settles_silent, one_unseeded, unsettled_same}
use Rattle.lookup_crowd.specs.declared.seeker.Seeker.{Seeker}
use Rattle.lookup_crowd.specs.Mine.{driven}
use Rattle.lookup_crowd.specs.Errands.{note_of, noted}
use Rattle.lookup_crowd.specs.inner.Crowd.{Holding}
use Rattle.lookup_crowd.specs.inner.ManySteps.{SettlesSome, SettlesWhole}
use Rattle.lookup_crowd.specs.inner.SettleSteps.{CanSettle, TellsNoted, SettlesOn, SettlesTo, Settles}

pub none_seeded : seeds [] ≡ []
unfolding seeds
none_seeded = refl

-- ---- an entry that settles

one_silent : (e : Entry) → IsSilent e → driven (e ∷ []) ≡ []
unfolding driven
one_silent e h = ap (λ b. cond b (e ∷ []) []) h

-- ---- some was settled

abbrev some_of : (old new : Seeker) (more : List Entry) → Holding old → new.quest ≡ old.quest → new.gathered ≡ old.gathered → new.lookup.book.setting ≡ old.lookup.book.setting → new.lookup.queries ≡ old.lookup.queries → new.lookup.book.journal ≡ old.lookup.book.journal ++ more → driven more ≡ [] → seeds more ≡ [] → SamePass old.pass new.pass
    → SettlesSome old new
some_of old new more holds quest gathered setting queries journal none unseeded same = record {
  quest = quest;
  setting = setting;
  queries = queries;
  more = more;
  journal = journal;
  none_driven = none;
  no_seeds = unseeded;
  gathered = gathered;
  holds = record {
    is_open = ap (map (λ (q : Query). q.contact)) queries ∙ holds.is_open ∙ sym (ap open_any journal ∙ open_same old.lookup.book.journal more none);
    ids = subst (AllByRecursion (λ (q : Query). q.tx < 2 ^ 32)) (sym queries) holds.ids;
  };
  same = same;
}

abbrev pub some_none : (old new : Seeker) → Holding old → new.quest ≡ old.quest → new.gathered ≡ old.gathered → new.lookup ≡ old.lookup → SamePass old.pass new.pass → SettlesSome old new
some_none old new holds quest gathered lookup same =
    some_of old new [] holds quest gathered (ap (λ l. l.book.setting) lookup) (ap (λ l. l.queries) lookup) (ap (λ l. l.book.journal) lookup ∙ sym (append-nil old.lookup.book.journal)) none_driven none_seeded same

abbrev pub some_then : (a b c : Seeker) → SettlesSome a b → SettlesSome b c → SettlesSome a c
some_then a b c x y = record {
  quest = y.quest ∙ x.quest;
  setting = y.setting ∙ x.setting;
  queries = y.queries ∙ x.queries;
  more = x.more ++ y.more;
  journal = y.journal ∙ ap (λ J. J ++ y.more) x.journal ∙ append_assoc a.lookup.book.journal x.more y.more;
  none_driven = driven_same x.more y.more y.none_driven ∙ x.none_driven;
  no_seeds = seeds_same x.more y.more y.no_seeds ∙ x.no_seeds;
  gathered = y.gathered ∙ x.gathered;
  holds = y.holds;
  same = record { turn = y.same.turn ∙ x.same.turn; role = y.same.role ∙ x.same.role };
}

-- so more can be settled
pub can_still : (tables : TurnState TableState) (old new : Seeker) → CanSettle tables old → SettlesSome old new → CanSettle tables new
can_still tables old new c s = record {
  own = s.same.turn ∙ c.own;
  holds = s.holds;
  policy = ap (λ q. q.policy) s.quest ∙ c.policy ∙ sym (ap (λ (x : Setting). x.policy) s.setting);
  few_paths = subst (λ (x : Setting). x.paths ≤ max_paths) (sym s.setting) c.few_paths;
}

-- ---- the table was told

tells_then : (a b c : Seeker) (xs ys : List Entry) → TellsNoted a b xs → TellsNoted b c ys → TellsNoted a c (xs ++ ys)
tells_then a b c xs ys x y = record {
  told = x.told ++ y.told;
  grew = y.grew ∙ ap (λ l. l ++ y.told) x.grew ∙ append_assoc (mine a.pass) x.told y.told;
  calls = map-append (λ (m : Made TableCall TableReply). m.call) x.told y.told ∙ ap (λ l. l ++ calls_in y.told) x.calls ∙ ap (λ l. seen_calls (noted xs) ++ l) y.calls
      ∙ sym (ap seen_calls (flat_map-append note_of xs ys) ∙ map-append Seen (noted xs) (noted ys));
  memory = All-append (λ (m : Made TableCall TableReply). HasMemory m.reply) x.told y.told x.memory y.memory;
}

tells_nothing : (old new : Seeker) (more : List Entry) → new.pass ≡ old.pass → seen_calls (noted more) ≡ [] → TellsNoted old new more
tells_nothing old new more same none = record {
  told = [];
  grew = ap mine same ∙ sym (append-nil (mine old.pass));
  calls = sym none;
  memory = All-nil (λ (m : Made TableCall TableReply). HasMemory m.reply);
}

abbrev same_pass : (old new : Seeker) → new.pass ≡ old.pass → SamePass old.pass new.pass
same_pass old new same = record { turn = ap (λ (p : TablePass). p.turn) same; role = ap (λ (p : TablePass). p.role) same }

-- ---- on a path

-- nothing yet
pub on_none : (path : ℕ) (old new : Seeker) → Holding old → new.quest ≡ old.quest → new.gathered ≡ old.gathered → new.lookup ≡ old.lookup → new.pass ≡ old.pass → SettlesOn path old new
on_none path old new holds quest gathered lookup pass = record {
  some = some_none old new holds quest gathered lookup (same_pass old new pass);
  others = λ q ne. ap (λ l. unsettled q l.book.journal) lookup;
  tells = tells_nothing old new [] pass refl;
}

pub on_then : (path : ℕ) (a b c : Seeker) → SettlesOn path a b → SettlesOn path b c → SettlesOn path a c
on_then path a b c x y = record {
  some = some_then a b c x.some y.some;
  others = λ q ne. y.others q ne ∙ x.others q ne;
  tells = tells_then a b c x.some.more y.some.more x.tells y.tells;
}

-- one entry more
on_one : (path : ℕ) (old new : Seeker) (e : Entry) → Holding old → new.quest ≡ old.quest → new.gathered ≡ old.gathered → new.lookup.queries ≡ old.lookup.queries → new.lookup.book ≡ added old.lookup.book e → settles_on path e ≡ true → SamePass old.pass new.pass → TellsNoted old new (e ∷ []) → SettlesOn path old new
on_one path old new e holds quest gathered queries book settles same tells =
    let journal : new.lookup.book.journal ≡ old.lookup.book.journal ++ e ∷ [] = ap (λ (b : BookState). b.journal) book in
    record {
      some = some_of old new (e ∷ []) holds quest gathered (ap (λ (b : BookState). b.setting) book) queries journal (one_silent e (settles_silent path e settles)) (one_unseeded path e settles) same;
      others = λ q ne. ap (unsettled q) journal ∙ unsettled_same path q old.lookup.book.journal (e ∷ []) ne (settles, tt);
      tells = tells;
    }

-- a contact that answered was told, and is noted
pub on_note : (path q : ℕ) (old new : Seeker) (c : Contact) (reply : BookReply) → Holding old → q ≡ path → first_unsettled path old.lookup.book.journal ≡ Some (Responder c) → NoteStep old.lookup.book.journal q c reply → new.lookup.book ≡ after_kept old.lookup.book (Note q c) reply → new.quest ≡ old.quest → new.gathered ≡ old.gathered
    → new.lookup.queries ≡ old.lookup.queries → SamePass old.pass new.pass → ToldOf c old.pass new.pass → SettlesOn path old new
on_note path q old new c reply holds is first step book quest gathered queries same told =
    here reply (subst (λ n. NoteStep old.lookup.book.journal n c reply) is step) (book ∙ ap (λ n. after_kept old.lookup.book (Note n c) reply) is)
  where
    here : (reply : BookReply) → NoteStep old.lookup.book.journal path c reply → new.lookup.book ≡ after_kept old.lookup.book (Note path c) reply → SettlesOn path old new
    here Kept step book =
        on_one path old new (Note path c) holds quest gathered queries book (eq-eqb path path refl) same (record {
          told = made old.pass.role (Seen c) told.0 ∷ [];
          grew = told.2;
          calls = refl;
          memory = All-push (λ (m : Made TableCall TableReply). HasMemory m.reply) [] (made old.pass.role (Seen c) told.0) (All-nil (λ (m : Made TableCall TableReply). HasMemory m.reply)) told.1;
        })
    here NotFront step book = absurd (step first)
    here other step book = absurd step

seen_noted : (e : Entry) → seen_calls (note_of e) ≡ seen_with e
seen_noted (Note p c) = refl
seen_noted other = refl

-- of a report the table isn't told
pub on_report : (path q : ℕ) (old new : Seeker) (checked : CheckedState) (reply : BookReply) → Holding old → q ≡ path → IsFront old.lookup.book.setting old.lookup.book.journal path checked → SettleStep old.lookup.book.setting old.lookup.book.journal q checked reply
    → new.lookup.book ≡ after_settle old.lookup.book q checked reply → new.quest ≡ old.quest → new.gathered ≡ old.gathered → new.lookup.queries ≡ old.lookup.queries → new.pass ≡ old.pass → SettlesOn path old new
on_report path q old new checked reply holds is front step book quest gathered queries pass =
    let h : SettlesReport path old.lookup.book (after_settle old.lookup.book q checked reply) = settle_one path q old.lookup.book checked reply is front step in
    let e = h.one.entry in
    on_one path old new e holds quest gathered queries (book ∙ h.one.after) h.one.settles (same_pass old new pass)
    (tells_nothing old new (e ∷ []) pass (ap seen_calls (append-nil (note_of e)) ∙ seen_noted e ∙ h.tells_none))

-- ---- path by path

pub to_none : (k : Seeker) → Holding k → SettlesTo 0 k k
to_none k holds = record {
  some = some_none k k holds refl refl refl (same_pass k k refl);
  left = λ p lt. absurd (omega (arith, lt));
  tells = tells_nothing k k [] refl refl;
}

pub to_more : (n : ℕ) (a b c : Seeker) → SettlesTo n a b → SettlesOn n b c → unsettled n c.lookup.book.journal ≡ [] → SettlesTo (n + 1) a c
to_more n a b c x y here = record {
  some = some_then a b c x.some y.some;
  left = λ p lt. elim (cases_lt p n) [
    | inl less ↦ y.others p (λ e. absurd (omega (arith, less, e))) ∙ x.left p less
    | inr not_less ↦ (let is : p ≡ n = omega (arith, lt, not_less) in ap (λ m. unsettled m c.lookup.book.journal) is ∙ here)
  ];
  tells = tells_then a b c x.some.more y.some.more x.tells y.tells;
}

-- its own paths are among them
pub whole_of : (tables : TurnState TableState) (n : ℕ) (old new : Seeker) → CanSettle tables old → max_paths ≤ n → SettlesTo n old new → SettlesWhole old new
whole_of tables n old new can le h = record {
  some = h.some;
  left = λ p lt.
      let own : p < old.lookup.book.setting.paths = subst (λ (x : Setting). p < x.paths) h.some.setting lt in
      h.left p (let few = can.few_paths in omega (arith, own, few, le));
  told = h.tells.told;
  grew = h.tells.grew;
  calls = h.tells.calls;
  memory = h.tells.memory;
}

abbrev some_by : (old new : Seeker) (r : Result (Unit {0}) NoMemory_type) → SettlesSome old new → SettlesSome old (record new { settled = r })
some_by old new r s = record { quest = s.quest; setting = s.setting; queries = s.queries; more = s.more; journal = s.journal; none_driven = s.none_driven; no_seeds = s.no_seeds; gathered = s.gathered; holds = s.holds; same = s.same }

-- how it ended is kept beside
pub settles_by : (old new : Seeker) (r : Result (Unit {0}) NoMemory_type) → SettlesSome old new → OnOk r (SettlesWhole old new) → Settles old (record new { settled = r })
settles_by old new r some whole = record { some = some_by old new r some; whole = pick r whole }
  where
    pick : (q : Result (Unit {0}) NoMemory_type) → OnOk q (SettlesWhole old new) → OnOk q (SettlesWhole old (record new { settled = r }))
    pick (Ok u) w = record { some = some_by old new r w.some; left = w.left; told = w.told; grew = w.grew; calls = w.calls; memory = w.memory }
    pick (Err e) w = tt

-- one that had memory settled all
pub whole_where : (old new : Seeker) → Settles old new → IsOk new.settled → SettlesWhole old new
whole_where old new h ok = pick new.settled ok h.whole
  where
    pick : (r : Result (Unit {0}) NoMemory_type) → IsOk r → OnOk r (SettlesWhole old new) → SettlesWhole old new
    pick (Ok u) ok whole = whole
    pick (Err e) ok whole = absurd cc
