-- One lookup at one receive: what its own events show goes with what it keeps.
use Rattle.std.proofs.Common.{◌≡◌, ℕ, List, [], ◌∷◌, ◌++◌, true, refl, sym, ap, subst, ◌∙◌}
use Rattle.std.specs.Prelude.{Contains, map, filter, nat_lt}
use Rattle.std.proofs.lemmas.List.{append-nil, append_assoc}
use Rattle.kad_base.specs.declared.types.Addr.{Addr}
use Rattle.kad_base.specs.declared.types.Contact.{Contact}
use Rattle.kad_base.specs.Contacts.{among}
use Rattle.query_book.specs.declared.Query.{Query}
use Rattle.claim_book.specs.declared.types.Entry.{Entry}
use Rattle.claim_book.specs.Journal.{asked}
use Rattle.claim_book.specs.State.{BookState}
use Rattle.lookup_core.specs.declared.quest.AskKind.TheVariants.{FindNode}
use Rattle.lookup_core.specs.declared.quest.Quest.{Quest}
use Rattle.lookup_core.specs.Gathered.{HearsOne, Keeping}
use Rattle.lookup_core.specs.Reply.{Answered}
use Rattle.lookup_core.specs.Matching.{OpenQuery, Replies, IsStray}
use Rattle.lookup_core.specs.Sealed.{Accepts}
use Rattle.lookup_core.specs.Timeouts.{is_overdue, closed_at}
use Rattle.lookup_core.specs.LookupSteps.{as_open, query_to}
use Rattle.lookup_core.proofs.Gathering.{kept_find, keeping_more, match_heard}
use Rattle.lookup_core.proofs.Lists.{map_append, in_map}
use Rattle.lookup_core.proofs.Opens.{opens_kept, each_asked}
use Rattle.lookup_core.proofs.Received.{open_still, among_still, none_driven, driven_closed, driven_append, reply_driven, gives_of, among_dropped}
use Rattle.lookup_crowd.specs.declared.seeker.Seeker.{Seeker}
use Rattle.lookup_crowd.specs.Mine.{Mine, driven, MatchGives, received, waited}
use Rattle.lookup_crowd.specs.inner.Crowd.{opens, Holding, Longer, KeepsMine}
use Rattle.lookup_crowd.specs.inner.ManySteps.{IsMatchFor, IsNotFor, Expires, lapsed}

-- ---- what is overdue

-- ---- the entries of the driver

-- ---- what a receive leaves

-- what goes on to hold, and whom the lookup lost
pub record OneOn (at : ℕ) (old mid new : Seeker) (n : Mine) : Type 0 where
  pub keeps : KeepsMine new n
  pub longer : Longer old new
  pub lost : n.lost ≡ lapsed at mid

-- the entries `first`, and then those of the queries `left` that are overdue; and what was heard so far is kept
one_on : (at : ℕ) (old mid new : Seeker) (m : Mine) (first : List Entry) (left : List Query) (heard : List Answered) → KeepsMine old m → Keeping old.quest.kind heard mid.gathered → (old.quest.kind ≡ FindNode → mid.gathered ≡ old.gathered) → driven first ≡ first → mid.quest ≡ old.quest → mid.lookup.book.setting ≡ old.lookup.book.setting → mid.lookup.book.journal ≡ old.lookup.book.journal ++ first → mid.lookup.queries ≡ left
    → ((c : Contact) → among (map (λ (q : Query). q.contact) left) c ≡ true → among (asked old.lookup.book.journal) c ≡ true) → Expires at mid new → OneOn at old mid new (record (received m at first (map (as_open old.lookup.book.journal) left)) { heard = heard })
one_on at old mid new m first left heard keeps keeping bare all_driven quest setting journal queries asks expires =
    let J = old.lookup.book.journal in
    let J' = new.lookup.book.journal in
    let e = expires.loses in
    let late = filter (is_overdue at) (map (as_open J) left) in
    let closed = closed_at at (map (as_open J) left) in
    let more = first ++ closed in
    let same_opens : opens mid ≡ map (as_open J) left = ap (map (as_open mid.lookup.book.journal)) queries ∙ ap (λ K. map (as_open K) left) journal ∙ opens_kept J first left asks in
    let journal' : J' ≡ J ++ more = e.journal ∙ ap (λ l. mid.lookup.book.journal ++ closed_at at l) same_opens ∙ ap (λ l. l ++ closed) journal ∙ append_assoc J first closed in
    let queries' : new.lookup.queries ≡ filter (λ (q : Query). nat_lt at q.deadline) left = e.queries ∙ ap (filter (λ (q : Query). nat_lt at q.deadline)) queries in
    let paths : opens new ≡ map (as_open J) new.lookup.queries = ap (λ K. map (as_open K) new.lookup.queries) journal'
    ∙ opens_kept J more new.lookup.queries (λ c h. asks c (among_still at left c (subst (λ l. among (map (λ (q : Query). q.contact) l) c ≡ true) queries' h))) in
    let closed_driven : driven closed ≡ closed = driven_closed late in
    record {
      keeps = record {
        queries = open_still at J left ∙ ap (map (as_open J)) (sym queries') ∙ sym paths;
        given = ap (λ l. l ++ more) keeps.given ∙ sym (ap driven journal' ∙ driven_append J more ∙ ap (λ l. driven J ++ l) (driven_append first closed ∙ ap (λ l. l ++ driven closed) all_driven ∙ ap (λ l. first ++ l) closed_driven));
        gathered = subst (λ (q : Quest). Keeping q.kind heard new.gathered) (sym (expires.quest ∙ quest)) (subst (Keeping old.quest.kind heard) (sym expires.gathered) keeping);
      };
      longer = record { more = more; quest = expires.quest ∙ quest; setting = e.setting ∙ setting; journal = journal'; gathered = λ is. expires.gathered ∙ bare is };
      lost = ap (λ l. map (λ (q : OpenQuery). q.contact) (filter (is_overdue at) l)) (sym same_opens);
    }

-- a receive that is for another, or for none
pub waits_on : (at : ℕ) (old new : Seeker) (m : Mine) → Holding old → KeepsMine old m → Expires at old new → OneOn at old old new (waited at m)
waits_on at old new m holds keeps e =
    subst (λ qs. OneOn at old old new (received m at [] qs)) (sym keeps.queries)
    (one_on at old old new m [] old.lookup.queries m.heard keeps keeps.gathered (λ is. refl) none_driven refl refl (sym (append-nil old.lookup.book.journal)) refl (each_asked old.lookup.book.journal old.lookup.queries holds.is_open) e)

-- the datagram is no reply to it
pub stray_for : (accepts : Accepts) (k : Seeker) (m : Mine) (from : Addr) (bytes : List ℕ) → KeepsMine k m → IsNotFor accepts from bytes k → IsStray k.quest accepts m.queries from bytes
stray_for accepts k m from bytes keeps none q has r h =
    let found = in_map (as_open k.lookup.book.journal) k.lookup.queries q (subst (λ l. Contains l q) keeps.queries has) in
    none found.0 found.1 r (subst (λ y. Replies k.quest accepts bytes from y r) found.2 h)

-- what a lookup and its own events show after a datagram that it matches
pub record MatchOn (accepts : Accepts) (old mid new : Seeker) (m : Mine) (from : Addr) (bytes : List ℕ) (at : ℕ) : Type 0 where
  pub after : Mine
  pub gives : MatchGives old.quest accepts m from bytes at after
  pub on : OneOn at old mid new after

pub matches_on : (accepts : Accepts) (from : Addr) (bytes : List ℕ) (at : ℕ) (old mid new : Seeker) (m : Mine) → Holding old → KeepsMine old m → IsMatchFor accepts from bytes old mid → Expires at mid new → MatchOn accepts old mid new m from bytes at
matches_on accepts from bytes at old mid new m holds keeps is_match e =
    let J = old.lookup.book.journal in
    let h = is_match.matches in
    let entry = h.hears.entry in
    let left = h.before ++ h.behind in
    record {
      after = record (received m at (entry ∷ []) (map (as_open J) left)) { heard = m.heard ++ is_match.heard };
      gives = record {
        entry = entry;
        left = map (as_open J) left;
        matched = record {
          before = map (as_open J) h.before;
          query = as_open J h.query;
          behind = map (as_open J) h.behind;
          what = h.what;
          queries = keeps.queries ∙ ap (map (as_open J)) h.was_open ∙ map_append (as_open J) h.before (h.query ∷ h.behind);
          replies = h.replies;
          entry = gives_of old.quest J h.query h.what entry h.hears.gives;
          closes = map_append (as_open J) h.before h.behind;
        };
        found = is_match.heard;
        hears = subst (λ qs. HearsOne old.quest accepts qs from bytes is_match.heard) (sym keeps.queries) (match_heard old.quest accepts from bytes old.lookup mid.lookup is_match.heard holds h);
        after = refl;
      };
      on = one_on at old mid new m (entry ∷ []) left (m.heard ++ is_match.heard) keeps (keeping_more old.quest.kind m.heard is_match.heard old.gathered mid.gathered keeps.gathered is_match.gathers) (λ is. kept_find old.quest.kind is_match.heard old.gathered mid.gathered is is_match.gathers) (reply_driven old.quest (query_to J h.query.contact) h.what entry h.hears.gives) is_match.quest (ap (λ (b : BookState). b.setting) h.hears.after) (ap (λ (b : BookState). b.journal) h.hears.after) h.closes
          (λ c x. each_asked J old.lookup.queries holds.is_open c (subst (λ qs. among (map (λ (q : Query). q.contact) qs) c ≡ true) (sym h.was_open) (among_dropped h.before h.query h.behind c x)))
          e;
    }
