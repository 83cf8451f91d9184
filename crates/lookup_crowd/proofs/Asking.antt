-- One of several lookups asks: its query is the next of all, and no other lookup sees it.
use Rattle.std.proofs.Common.{◌≡◌, ℕ, zero, suc, ◌+◌, ◌<◌, List, [], ◌∷◌, ◌++◌, length, get_or, set, Option, None, true, inl, refl, sym, ap, subst, ◌∙◌, arith}
use Rattle.std.specs.Prelude.{map}
use Rattle.std.specs.List.{AllByRecursion, AllZip}
use Rattle.std.proofs.lemmas.List.{append_assoc}
use Rattle.kad_base.specs.declared.types.Contact.{Contact}
use Rattle.kad_base.specs.declared.types.Event.{Event}
use Rattle.kad_base.specs.declared.types.Event.TheVariants.{Sent, Unsent}
use Rattle.kad_base.specs.Outside.{Grows}
use Rattle.kad_base.specs.Words.{word}
use Rattle.kad_base.proofs.Grown.{grows_then}
use Rattle.id_puzzles.specs.Drawn.{WordsState}
use Rattle.query_book.specs.declared.Query.{Query}
use Rattle.query_book.specs.Queries.{IsFirstFree}
use Rattle.claim_book.specs.declared.types.Cause.TheVariants.{SendFault}
use Rattle.claim_book.specs.declared.types.Entry.{Entry}
use Rattle.claim_book.specs.declared.types.Entry.TheVariants.{Ask, Lost}
use Rattle.claim_book.specs.Calls.{asker}
use Rattle.claim_book.specs.State.{BookState, added}
use Rattle.claim_book.proofs.Claims.{may_ask_says}
use Rattle.lookup_core.specs.declared.ask.Asked.{Asked}
use Rattle.lookup_core.specs.declared.quest.Quest.{Quest}
use Rattle.lookup_core.specs.declared.state.Lookup.{Lookup}
use Rattle.lookup_core.specs.Gathered.{Keeping}
use Rattle.lookup_core.specs.Matching.{OpenQuery, query_of}
use Rattle.lookup_core.specs.Sealed.{Accepts}
use Rattle.lookup_core.specs.Timeouts.{deadline_of}
use Rattle.lookup_core.specs.LookupSteps.{as_open, AsksNext}
use Rattle.lookup_core.proofs.Lists.{map_append}
use Rattle.lookup_core.proofs.Opens.{opens_kept, each_asked, asker_new}
use Rattle.node_serve.specs.declared.setting.ServeSetting.{ServeSetting}
use Rattle.node_serve.specs.Sealing.{Tags}
use Rattle.lookup_crowd.specs.declared.seeker.Seeker.{Seeker}
use Rattle.lookup_crowd.specs.declared.seeker.Progress.{Progress}
use Rattle.lookup_crowd.specs.Mine.{Mine, driven, gives, SentGives, UnsentGives}
use Rattle.lookup_crowd.specs.Many.{Frame, Reading, owned_by, and_then, OneMoves, Gives}
use Rattle.lookup_crowd.specs.inner.Crowd.{whose, Holding, Longer, KeepsMine, framed, ManyShow, IsFrame}
use Rattle.lookup_crowd.specs.inner.ManySteps.{query_bytes, AsksOver, is_sent, is_unsent}
use Rattle.lookup_core.proofs.Received.{driven_append, query_back}
use Rattle.lookup_crowd.proofs.Telling.{same_longer, all_longer}
use Rattle.lookup_crowd.proofs.Walking.{shows_more}

driven_ask : (J : List Entry) (p : ℕ) (c : Contact) → driven (J ++ Ask p c ∷ []) ≡ driven J ++ Ask p c ∷ []
unfolding driven
driven_ask J p c = driven_append J (Ask p c ∷ [])

driven_lost : (J : List Entry) (p : ℕ) (c : Contact) → driven (J ++ Ask p c ∷ Lost p c SendFault ∷ []) ≡ driven J ++ Ask p c ∷ Lost p c SendFault ∷ []
unfolding driven
driven_lost J p c = driven_append J (Ask p c ∷ Lost p c SendFault ∷ [])

-- ---- one lookup

-- a step of one lookup's own
record OneStep (G : Quest → Mine → Mine → Type 0) (old new : Seeker) (m : Mine) : Type 0 where
  after : Mine
  step : G new.quest m after
  keeps : KeepsMine new after
  longer : Longer old new

-- an ask gathers nothing
still_keeping : (old new : Seeker) (m : Mine) → new.quest ≡ old.quest → new.gathered ≡ old.gathered → KeepsMine old m → Keeping new.quest.kind m.heard new.gathered
still_keeping old new m quest same keeps = subst (λ (q : Quest). Keeping q.kind m.heard new.gathered) (sym quest) (subst (Keeping old.quest.kind m.heard) (sym same) keeps.gathered)

sent_step : (drawn deadline path : ℕ) (old new : Seeker) (asked : Asked) (m : Mine) → new.quest ≡ old.quest → new.gathered ≡ old.gathered → Holding old → KeepsMine old m → AsksNext drawn deadline path old.lookup new.lookup asked → OneStep (λ q m n. SentGives q drawn deadline m asked.contact.addr (query_bytes old asked.tx) n) old new m
sent_step drawn deadline path old new asked m quest same holds keeps a =
    let J = old.lookup.book.journal in
    let c = asked.contact in
    let J' = J ++ Ask path c ∷ [] in
    let qs = old.lookup.queries in
    let q : Query = record { tx = asked.tx; contact = c; deadline = deadline } in
    let oq : OpenQuery = record { path = path; contact = c; tx = asked.tx; deadline = deadline } in
    let journal : new.lookup.book.journal ≡ J' = ap (λ (b : BookState). b.journal) a.book in
    let new_path : as_open J' q ≡ oq = ap (λ n. record { path = n; contact = c; tx = asked.tx; deadline = deadline }) (asker_new path J c (may_ask_says old.lookup.book.setting path J c a.may).new) in
    let after : Mine = record (gives m (Ask path c ∷ [])) { queries = m.queries ++ oq ∷ [] } in
    record {
      after = after;
      step = subst (λ x. SentGives x drawn deadline m c.addr (query_bytes old asked.tx) after) (sym quest) (record {
        path = path;
        contact = c;
        tx = asked.tx;
        is_query = record { address = refl; id = subst (λ l. IsFirstFree l drawn asked.tx) (sym (ap (map query_of) keeps.queries ∙ query_back J qs)) a.id; form = refl };
        after = refl;
      });
      keeps = record {
        queries = ap (λ l. l ++ oq ∷ []) (keeps.queries ∙ sym (opens_kept J (Ask path c ∷ []) qs (each_asked J qs holds.is_open))) ∙ ap (λ x. map (as_open J') qs ++ x ∷ []) (sym new_path)
            ∙ sym (map_append (as_open J') qs (q ∷ [])) ∙ ap (map (as_open J')) (sym a.queries) ∙ ap (λ K. map (as_open K) new.lookup.queries) (sym journal);
        given = ap (λ l. l ++ Ask path c ∷ []) keeps.given ∙ sym (driven_ask J path c) ∙ ap driven (sym journal);
        gathered = still_keeping old new m quest same keeps;
      };
      longer = record { more = Ask path c ∷ []; quest = quest; setting = ap (λ (b : BookState). b.setting) a.book; journal = journal; gathered = λ is. same };
    }

unsent_step : (drawn deadline path : ℕ) (old new : Seeker) (mid : Lookup) (asked : Asked) (m : Mine) → new.quest ≡ old.quest → new.gathered ≡ old.gathered → Holding old → KeepsMine old m → AsksNext drawn deadline path old.lookup mid asked → new.lookup.queries ≡ old.lookup.queries
    → new.lookup.book ≡ added mid.book (Lost (asker asked.contact mid.book.journal) asked.contact SendFault) → OneStep (λ q m n. UnsentGives q drawn m asked.contact.addr (query_bytes old asked.tx) n) old new m
unsent_step drawn deadline path old new mid asked m quest same holds keeps a queries book =
    let J = old.lookup.book.journal in
    let c = asked.contact in
    let qs = old.lookup.queries in
    let more = Ask path c ∷ Lost path c SendFault ∷ [] in
    let between : mid.book.journal ≡ J ++ Ask path c ∷ [] = ap (λ (b : BookState). b.journal) a.book in
    let by : asker c mid.book.journal ≡ path = ap (asker c) between ∙ asker_new path J c (may_ask_says old.lookup.book.setting path J c a.may).new in
    let journal : new.lookup.book.journal ≡ J ++ more =
    ap (λ (b : BookState). b.journal) book ∙ ap (λ p. mid.book.journal ++ Lost p c SendFault ∷ []) by ∙ ap (λ l. l ++ Lost path c SendFault ∷ []) between ∙ append_assoc J (Ask path c ∷ []) (Lost path c SendFault ∷ []) in
    let after : Mine = gives m more in
    record {
      after = after;
      step = subst (λ x. UnsentGives x drawn m c.addr (query_bytes old asked.tx) after) (sym quest) (record {
        path = path;
        contact = c;
        tx = asked.tx;
        is_query = record { address = refl; id = subst (λ l. IsFirstFree l drawn asked.tx) (sym (ap (map query_of) keeps.queries ∙ query_back J qs)) a.id; form = refl };
        after = refl;
      });
      keeps = record {
        queries = keeps.queries ∙ sym (opens_kept J more qs (each_asked J qs holds.is_open)) ∙ ap (λ K. map (as_open K) qs) (sym journal) ∙ ap (map (as_open new.lookup.book.journal)) (sym queries);
        given = ap (λ l. l ++ more) keeps.given ∙ sym (driven_lost J path c) ∙ ap driven (sym journal);
        gathered = still_keeping old new m quest same keeps;
      };
      longer = record { more = more; quest = quest; setting = ap (λ (b : BookState). b.setting) book ∙ ap (λ (b : BookState). b.setting) a.book; journal = journal; gathered = λ is. same };
    }

-- ---- several

-- the i-th makes it, and all others are as they were
record MovesOn (G : Quest → Mine → Mine → Type 0) (i : ℕ) (olds news : List Seeker) (ms : List Mine) : Type 0 where
  each : List Mine
  moves : OneMoves (λ w m n. G w.quest m n) i (map whose news) ms each
  keeps : AllZip KeepsMine news each
  longer : AllZip Longer olds news

moves_on : (G : Quest → Mine → Mine → Type 0) (i : ℕ) (ks : List Seeker) (d new : Seeker) (ms : List Mine) → AllByRecursion Holding ks → AllZip KeepsMine ks ms → i < length ks → ((m : Mine) → Holding (get_or ks i d) → KeepsMine (get_or ks i d) m → OneStep G (get_or ks i d) new m) → MovesOn G i ks (set ks i new) ms
moves_on G i [] d new ms h k lt step = absurd (omega (arith, lt))
moves_on G i (x ∷ ks) d new [] h k lt step = absurd k
moves_on G zero (x ∷ ks) d new (m ∷ ms) h k lt step =
    let here = step m h.0 k.0 in
    record { each = here.after ∷ ms; moves = (here.step, refl); keeps = (here.keeps, k.1); longer = (here.longer, all_longer ks) }
moves_on G (suc i) (x ∷ ks) d new (m ∷ ms) h k lt step =
    let rest = moves_on G i ks d new ms h.1 k.1 (omega (arith, lt)) step in
    record { each = m ∷ rest.each; moves = (refl, rest.moves); keeps = (k.0, rest.keeps); longer = (same_longer x, rest.longer) }

-- of all lookups' queries it is the next
owned : (f : Frame) (count place i : ℕ) (read : Reading) (old new : List Seeker) (progress : Progress) (e : Event) (es : List Event) (h : ManyShow true f count old progress place None read es) (G : Quest → Mine → Mine → Type 0) (moved : MovesOn G i old new h.end.each)
    → Gives (framed true f) (map whose new) h.end e (owned_by i) (record h.end { sends = h.end.sends + 1; each = moved.each }) → ManyShow true f count new progress (place + 1) None (and_then read (owned_by i)) (es ++ e ∷ [])
owned f count place i read old new progress e es h G moved gives_it =
    let st = h.keeps_progress in
    shows_more true f count place (place + 1) None None read (owned_by i) old new progress progress e es h (record h.end { sends = h.end.sends + 1; each = moved.each }) moved.longer (λ idle. absurd cc) gives_it
    (record { moment = st.moment; ends = st.ends; sends = (let e = st.sends in omega (arith, e)); got = st.got; foreign = st.foreign; replied = st.replied; receives = st.receives; left = st.left; owed_is = st.owed_is }) moved.keeps
    (record { within = h.keeps_saying.within; left = h.keeps_saying.left; some = λ idle. absurd cc })

module _ (f : Frame) (count place i path : ℕ) (read : Reading) (old : List Seeker) (d new : Seeker) (progress : Progress) (asked : Asked) (es : List Event) where
  sent_on : AllByRecursion Holding old → i < length old → new.quest ≡ (get_or old i d).quest → new.gathered ≡ (get_or old i d).gathered → AsksNext (word f.seed place) (deadline_of progress.moment (get_or old i d).quest.timeout) path (get_or old i d).lookup new.lookup asked → ManyShow true f count old progress place None read es
      → ManyShow true f count (set old i new) progress (place + 1) None (and_then read (owned_by i)) (es ++ Sent asked.contact.addr (query_bytes (get_or old i d) asked.tx) ∷ [])
  sent_on holds lt quest same a h =
      let st = h.keeps_progress in
      let s = h.end in
      let one = get_or old i d in
      let to = asked.contact.addr in
      let bytes = query_bytes one asked.tx in
      let drawn = word f.seed (f.place + s.sends) in
      let a' : AsksNext drawn (deadline_of s.moment one.quest.timeout) path one.lookup new.lookup asked = subst (λ n. AsksNext (word f.seed n) (deadline_of s.moment one.quest.timeout) path one.lookup new.lookup asked) (sym st.sends) (subst (λ n. AsksNext (word f.seed place) (deadline_of n one.quest.timeout) path one.lookup new.lookup asked) (sym st.moment) a) in
      let G = λ (q : Quest) (m n : Mine). SentGives q drawn (deadline_of s.moment q.timeout) m to bytes n in
      let step : (m : Mine) → Holding one → KeepsMine one m → OneStep G one new m = (λ m hm km.
      let x = sent_step drawn (deadline_of s.moment one.quest.timeout) path one new asked m quest same hm km a' in
      record { after = x.after; step = subst (λ (q : Quest). SentGives new.quest drawn (deadline_of s.moment q.timeout) m to bytes x.after) (sym quest) x.step; keeps = x.keeps; longer = x.longer }) in
      let moved = moves_on G i old d new s.each holds h.keeps_each lt step in
      owned f count place i read old (set old i new) progress (Sent to bytes) es h G moved (inl (record { owner = i; owns = refl; none_owed = st.owed_is; each = moved.each; moves = moved.moves; after = refl }))

  unsent_on : (mid : Lookup) → AllByRecursion Holding old → i < length old → new.quest ≡ (get_or old i d).quest → new.gathered ≡ (get_or old i d).gathered → AsksNext (word f.seed place) (deadline_of progress.moment (get_or old i d).quest.timeout) path (get_or old i d).lookup mid asked → new.lookup.queries ≡ (get_or old i d).lookup.queries
      → new.lookup.book ≡ added mid.book (Lost (asker asked.contact mid.book.journal) asked.contact SendFault) → ManyShow true f count old progress place None read es
      → ManyShow true f count (set old i new) progress (place + 1) None (and_then read (owned_by i)) (es ++ Unsent asked.contact.addr (query_bytes (get_or old i d) asked.tx) ∷ [])
  unsent_on mid holds lt quest same a queries book h =
      let st = h.keeps_progress in
      let s = h.end in
      let one = get_or old i d in
      let to = asked.contact.addr in
      let bytes = query_bytes one asked.tx in
      let drawn = word f.seed (f.place + s.sends) in
      let a' : AsksNext drawn (deadline_of progress.moment one.quest.timeout) path one.lookup mid asked = subst (λ n. AsksNext (word f.seed n) (deadline_of progress.moment one.quest.timeout) path one.lookup mid asked) (sym st.sends) a in
      let G = λ (q : Quest) (m n : Mine). UnsentGives q drawn m to bytes n in
      let moved = moves_on G i old d new s.each holds h.keeps_each lt (λ m hm km. unsent_step drawn (deadline_of progress.moment one.quest.timeout) path one new mid asked m quest same hm km a' queries book) in
      owned f count place i read old (set old i new) progress (Unsent to bytes) es h G moved (inl (record { owner = i; owns = refl; none_owed = st.owed_is; each = moved.each; moves = moved.moves; after = refl }))

-- whatever was told since any beginning
pub ask_goes : (accepts : Accepts) (tags : Tags) (server : ServeSetting) (i path : ℕ) (words words' : WordsState) (old : List Seeker) (d new : Seeker) (progress : Progress) (told told' : Option (List Event)) → AllByRecursion Holding old → i < length old → new.quest ≡ (get_or old i d).quest → new.gathered ≡ (get_or old i d).gathered → words' ≡ record words { place = words.place + 1 }
    → AsksOver progress.moment words path (get_or old i d) new told told' → (f : Frame) (count : ℕ) (read : Reading) (began : Option (List Event)) → IsFrame accepts tags server words.seed f
    → Grows began told (λ events. ManyShow true f count old progress words.place None read events) → Grows began told' (λ events. ManyShow true f count (set old i new) progress words'.place None (and_then read (owned_by i)) events)
ask_goes accepts tags server i path words words' old d new progress told told' holds lt quest same next (is_sent asked a grows) f count read began is h =
    let one = get_or old i d in
    grows_then began told told' _ _ _ h grows (λ es fs shows e.
    subst (λ n. ManyShow true f count (set old i new) progress n None (and_then read (owned_by i)) (es ++ fs)) (sym (ap (λ (w : WordsState). w.place) next))
    (subst (λ l. ManyShow true f count (set old i new) progress (words.place + 1) None (and_then read (owned_by i)) (es ++ l)) (sym e)
    (sent_on f count words.place i path read old d new progress asked es holds lt quest same (subst (λ b. AsksNext (word b words.place) (deadline_of progress.moment one.quest.timeout) path one.lookup new.lookup asked) (sym is.seed_is) a) shows)))
ask_goes accepts tags server i path words words' old d new progress told told' holds lt quest same next (is_unsent asked mid a queries book grows) f count read began is h =
    let one = get_or old i d in
    grows_then began told told' _ _ _ h grows (λ es fs shows e.
    subst (λ n. ManyShow true f count (set old i new) progress n None (and_then read (owned_by i)) (es ++ fs)) (sym (ap (λ (w : WordsState). w.place) next))
    (subst (λ l. ManyShow true f count (set old i new) progress (words.place + 1) None (and_then read (owned_by i)) (es ++ l)) (sym e)
    (unsent_on f count words.place i path read old d new progress asked es mid holds lt quest same (subst (λ b. AsksNext (word b words.place) (deadline_of progress.moment one.quest.timeout) path one.lookup mid asked) (sym is.seed_is) a) queries book shows)))
