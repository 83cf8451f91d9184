-- From a lookup, and what is said after it, to what the link's events tell. Nothing here names a command.
use Rattle.std.proofs.Common.{◌≡◌, ◌≢◌, ℕ, ◌+◌, ◌≤◌, List, [], ◌∷◌, ◌++◌, length, Bool, true, None, false, Option, refl, sym, ap, subst, ◌∙◌}
use Rattle.std.proofs.lemmas.List.{append_assoc, append-nil}
use Rattle.std.proofs.Math.Seq.{take-length}
use Rattle.kad_base.specs.declared.types.Addr.{Addr}
use Rattle.kad_base.specs.declared.types.Contact.{Contact}
use Rattle.kad_base.specs.declared.types.Id.{Id}
use Rattle.kad_base.specs.declared.types.Event.{Event}
use Rattle.kad_base.specs.declared.types.Event.TheVariants.{Got}
use Rattle.kad_base.specs.Limits.{max_strays}
use Rattle.kad_base.specs.Outside.{Grows}
use Rattle.kad_base.specs.Words.{word}
use Rattle.kad_base.proofs.Grown.{grows_then, grows_weaker}
use Rattle.id_puzzles.specs.Drawn.{WordsState}
use Rattle.lookup_core.specs.declared.quest.AskKind.{AskKind}
use Rattle.claim_book.specs.declared.types.Entry.{Entry}
use Rattle.claim_book.specs.Result.{result_of}
use Rattle.lookup_run.specs.declared.types.Outcome.{Outcome}
use Rattle.lookup_core.specs.declared.gather.Token.{Token}
use Rattle.kad_krpc.specs.declared.message.Ask.{Ask}
use Rattle.lookup_run.specs.Tells.{Given, EndsAtStray, NeverEnds}
use Rattle.kad_words.specs.declared.command.LookWords.{LookWords}
use Rattle.lookup_commands.specs.declared.run_lookup.Reached.{Reached}
use Rattle.follow_ups.specs.declared.announce.Announcement.{Announcement}
use Rattle.follow_ups.specs.Announced.{announcements, tried, asking, Announces, AnnouncesSome}
use Rattle.lookup_commands.specs.Followed.{Owing, chosen, owed_by, next_place, TellsThen, TellsSomeThen, AnnouncedSome}
use Rattle.lookup_commands.specs.Looked.{NeverInStrays}
use Rattle.command_base.specs.Shown.{Shown}
use Rattle.command_base.specs.Started.{own_of, book_of, lookup_of}
use Rattle.lookup_commands.specs.Reached.{HasRunOut, Reaches}
use Rattle.lookup_commands.specs.Spread.{followed, spread_over, IsSpread}
use Rattle.follow_ups.proofs.Announcing.{Sends}
use Rattle.lookup_commands.proofs.Spreading.{spread_is}
use Rattle.command_base.specs.Called.{Called}

-- ---- announcements end with no datagram that was received

last_same : {A : Type 0} (xs ys : List A) (x y : A) → xs ++ x ∷ [] ≡ ys ++ y ∷ [] → x ≡ y
last_same [] [] x y e = cc
last_same [] (b ∷ []) x y e = absurd cc
last_same [] (b ∷ c ∷ ys) x y e = absurd cc
last_same (a ∷ []) [] x y e = absurd cc
last_same (a ∷ b ∷ xs) [] x y e = absurd cc
last_same {A} (a ∷ xs) (b ∷ ys) x y e = let rest : xs ++ x ∷ [] ≡ ys ++ y ∷ [] = cc in last_same xs ys x y rest

tried_not_got : (b : Bool) (to from : Addr) (bytes got : List ℕ) (until at : ℕ) → tried b to bytes ≢ Got from got until at
tried_not_got true to from bytes got until at e = absurd cc
tried_not_got false to from bytes got until at e = absurd cc

-- the last of some announcements
record LastTried (events : List Event) : Type 0 where
  pub front : List Event
  pub was_sent : Bool
  pub to : Addr
  pub bytes : List ℕ
  pub is : events ≡ front ++ tried was_sent to bytes ∷ []

last_tried : (seed : List ℕ) (place : ℕ) (a : Announcement) (rest : List Announcement) (events : List Event) → Announces true None seed place (a ∷ rest) events → LastTried events
last_tried seed place a [] events h =
    let e : Event = tried h.0 a.to (asking true None (word seed place) a.ask) in
    record { front = []; was_sent = h.0; to = a.to; bytes = asking true None (word seed place) a.ask; is = h.2 ∙ ap (λ (l : List Event). e ∷ l) h.3 }
last_tried seed place a (b ∷ rest) events h =
    let e : Event = tried h.0 a.to (asking true None (word seed place) a.ask) in
    let later = last_tried seed (place + 1) b rest h.1 h.3 in
    record { front = e ∷ later.front; was_sent = later.was_sent; to = later.to; bytes = later.bytes; is = h.2 ∙ ap (λ (l : List Event). e ∷ l) later.is }

no_stray_after : (g : Given) (seed : List ℕ) (place : ℕ) (all : List Announcement) (es fs : List Event) (n : ℕ) → Announces true None seed place all fs → NeverEnds g n es → NeverEnds g n (es ++ fs)
no_stray_after g seed place [] es fs n h never J ends =
    let same : es ++ fs ≡ es = ap (λ (l : List Event). es ++ l) h ∙ append-nil es in
    never J (subst (λ (l : List Event). EndsAtStray g J l n) same ends)
no_stray_after g seed place (a ∷ rest) es fs n h never J ends =
    let t = last_tried seed place a rest fs h in
    let both : (es ++ t.front) ++ tried t.was_sent t.to t.bytes ∷ [] ≡ ends.before ++ Got ends.from ends.bytes ends.until ends.at ∷ [] =
    append_assoc es t.front (tried t.was_sent t.to t.bytes ∷ []) ∙ ap (λ (l : List Event). es ++ l) (sym t.is) ∙ ends.last in
    tried_not_got t.was_sent t.to ends.from t.bytes ends.bytes ends.until ends.at (last_same (es ++ t.front) ends.before (tried t.was_sent t.to t.bytes) (Got ends.from ends.bytes ends.until ends.at) both)

-- ---- whom the code follows up

-- what is said, over the contacts and the tokens that the code has
pub said_to : (asks : List ℕ → Ask) (found found' : List Contact) (tokens tokens' : List Token) (P : List Announcement → Type 0) → found' ≡ found → tokens' ≡ tokens → P (announcements asks found' tokens') → P (announcements asks found tokens)
said_to asks found found' tokens tokens' P e f p =
    let a = subst (λ (l : List Contact). P (announcements asks l tokens')) e p in
    subst (λ (l : List Token). P (announcements asks found l)) f a

pub chosen_plainly : (spread : Bool) (look : LookWords) (o : Outcome) (found : List Contact) → spread ≡ false → found ≡ o.found → found ≡ chosen spread look o
chosen_plainly spread look o found e is = is ∙ sym (ap (λ (b : Bool). chosen b look o) e)

pub chosen_spread : (spread : Bool) (look : LookWords) (o : Outcome) (J : List Entry) (contacts contacts' : List Contact) → spread ≡ true → J ≡ o.journal → contacts' ≡ spread_over look.target look.k look.paths J → contacts ≡ contacts' → contacts ≡ chosen spread look o
chosen_spread spread look o J contacts contacts' e of is same_ =
    same_ ∙ is ∙ ap (spread_over look.target look.k look.paths) of ∙ sym (ap (λ (b : Bool). chosen b look o) e)

-- ---- after a lookup

-- those whom the code follows up are those of the journal
chosen_is : (kind : AskKind) (look : LookWords) (spread : Bool) (random : List ℕ) (o : Outcome) → o.found ≡ result_of (book_of kind look random) o.journal → chosen spread look o ≡ followed spread (book_of kind look random) o.journal
chosen_is kind look false random o found = found
chosen_is kind look true random o found = refl

module _ (kind : AskKind) (look : LookWords) (spread : Bool) (owing : Owing) (called : Called) (source : Shown ℕ) where
  -- what is owed to those that are followed up, over the words and the contacts that the code has
  abbrev pub owes : Reached → List Announcement
  owes r = owing r.own (chosen spread look r.outcome) r.outcome.tokens

  in_terms : (link : Shown Event) (r : Reached) (P : List ℕ → ℕ → List Announcement → Type 0) → Reaches kind look called source link r → P r.words.seed r.words.place (owes r)
      → P called.random (next_place called.random r.outcome.journal) (owed_by kind look spread owing called.random r.outcome.journal r.outcome.tokens)
  in_terms link r P h p =
      let place = next_place called.random r.outcome.journal in
      let moved = subst (λ (w : WordsState). P w.seed w.place (owes r)) h.drawn p in
      let mine = subst (λ (own : Id). P called.random place (owing own (chosen spread look r.outcome) r.outcome.tokens)) h.own_is moved in
      subst (λ (l : List Contact). P called.random place (owing (own_of look.own called.random) l r.outcome.tokens)) (chosen_is kind look spread called.random r.outcome h.found) mine

  -- all of it was said
  pub then_at : (before middle after : Option (List Event)) (f f' s s' : ℕ) (r : Reached) (n : ℕ)
      → Reaches kind look called source (record { before = before; after = middle; faults = f; faults' = f'; sends = s; sends' = s' }) r
      → Grows middle after (Sends true None r.words.seed r.words.place (owes r) n) → Grows before after (TellsThen kind look spread owing called r.outcome.journal r.outcome.peers n)
  then_at before middle after f f' s s' r n h sends =
      let o = r.outcome in
      let all = in_terms (record { before = before; after = middle; faults = f; faults' = f'; sends = s; sends' = s' }) r (λ seed place owed_. Grows middle after (Sends true None seed place owed_ n)) h sends in
      grows_then before middle after _ _ (TellsThen kind look spread owing called o.journal o.peers n) h.tells all
      (λ es fs t a. record { lookup = es; then = fs; whole = refl; tokens = o.tokens; items = o.items; tells = t; announces = a.0; counts = a.1 })

  -- no stray was the last event
  pub never_then : (link : Shown Event) (r : Reached) (n : ℕ) → Grows link.before link.after (TellsThen kind look spread owing called r.outcome.journal r.outcome.peers n) → NeverInStrays kind look called link
  never_then link r n tells plain =
      let J = r.outcome.journal in
      grows_weaker link.before link.after _ _ tells (λ events t.
      subst (NeverEnds (lookup_of kind look called) max_strays) (sym t.whole)
      (no_stray_after (lookup_of kind look called) called.random (next_place called.random J) (owed_by kind look spread owing called.random J t.tokens) t.lookup t.then max_strays t.announces (t.tells.no_last_stray plain)))

  -- a front of it was said
  pub announced_some : (before middle after : Option (List Event)) (f f' f'' s s' s'' : ℕ) (r : Reached)
      → Reaches kind look called source (record { before = before; after = middle; faults = f; faults' = f'; sends = s; sends' = s' }) r
      → s' ≤ s'' → Grows middle after (AnnouncesSome true None r.words.seed r.words.place (owes r))
      → AnnouncedSome kind look spread owing called source (record { before = before; after = after; faults = f; faults' = f''; sends = s; sends' = s'' })
  announced_some before middle after f f' f'' s s' s'' r h later some_ =
      let o = r.outcome in
      let all = in_terms (record { before = before; after = middle; faults = f; faults' = f'; sends = s; sends' = s' }) r (λ seed place owed_. Grows middle after (AnnouncesSome true None seed place owed_)) h some_ in
      record {
        journal = o.journal;
        ran = h.ran;
        tells = grows_then before middle after _ _ (TellsSomeThen kind look spread owing called o.journal) h.tells all
            (λ es fs t a. record { lookup = es; then = fs; whole = refl; peers = o.peers; tokens = o.tokens; items = o.items; tells = t; announces = a });
        refused = record { between = s'; refused = h.refused; no_less = later };
      }

-- all of it is a front of it
pub all_some : (seed : List ℕ) (place : ℕ) (all : List Announcement) (n : ℕ) (a b : Option (List Event)) → Grows a b (Sends true None seed place all n) → Grows a b (AnnouncesSome true None seed place all)
all_some seed place all n a b g = grows_weaker a b _ _ g (λ es h. (length all, subst (λ (l : List Announcement). Announces true None seed place l es) (sym (take-length all)) h.0))

-- a lookup that has run out may be spread over its paths
pub spreads_out : (kind : AskKind) (look : LookWords) (random : List ℕ) (source : Shown ℕ) (J : List Entry) → HasRunOut kind look random source J → IsSpread (book_of kind look random) J
spreads_out kind look random source J h = spread_is (book_of kind look random) J h.legal h.run_out
