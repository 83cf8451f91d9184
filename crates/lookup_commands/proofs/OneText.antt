-- Unless the check is slow, a command that looks one thing up has one text by the link's events.
use Rattle.std.proofs.Common.{◌≡◌, ◌⊎◌, ℕ, ◌<◌, List, [], ◌∷◌, ◌++◌, length, Option, Some, None, Bool, false, inl, inr, refl, sym, ap, subst, ◌∙◌, arith}
use Rattle.std.specs.Prelude.{map}
use Rattle.std.specs.List.{All}
use Rattle.std.proofs.lemmas.List.Elements.{All-head, All-tail}
use Rattle.kad_base.specs.declared.types.Addr.{Addr}
use Rattle.kad_base.specs.declared.types.Contact.{Contact}
use Rattle.kad_base.specs.declared.types.Event.{Event}
use Rattle.kad_base.specs.declared.types.Family.{Family}
use Rattle.kad_base.specs.declared.types.Id.{Id}
use Rattle.kad_base.specs.declared.types.Policy.{Policy}
use Rattle.kad_base.specs.declared.types.Report.{Report}
use Rattle.kad_text.specs.Lines.{lines, Reporting}
use Rattle.kad_text.proofs.TextLaws.{reading_once}
use Rattle.contact_table.specs.TableState.{TableState}
use Rattle.claim_book.specs.declared.types.Entry.{Entry}
use Rattle.claim_book.specs.Journal.{seeds, asked, failed, turned}
use Rattle.claim_book.specs.Legal.{Legal}
use Rattle.claim_book.specs.Result.{result_of}
use Rattle.lookup_core.specs.declared.quest.AskKind.{AskKind}
use Rattle.lookup_core.specs.declared.quest.AskKind.TheVariants.{GetPeers, GetItem}
use Rattle.lookup_core.specs.declared.gather.Item.{Item}
use Rattle.lookup_run.specs.Tells.{Given, Tells}
use Rattle.lookup_run.specs.Rounds.{Rounds, sequential, scheduling_by}
use Rattle.lookup_run.specs.Gathered.{Gathers}
use Rattle.lookup_run.specs.Lookup.{seeds_dealt}
use Rattle.lookup_run.proofs.Once.{rounds_once}
use Rattle.lookup_run.proofs.OnceCalls.{last_call}
use Rattle.lookup_run.proofs.OnceGathered.{gathered_once}
use Rattle.kad_words.specs.declared.command.LookWords.{LookWords}
use Rattle.command_base.specs.Called.{Called}
use Rattle.command_base.specs.Input.{Reads, Admits}
use Rattle.command_base.specs.Printed.{printed_of}
use Rattle.command_base.specs.Shown.{SameInput, SameEvents, Shown}
use Rattle.command_base.specs.Started.{own_of, look_of, book_of, lookup_of, seen_call, IsInRange, Start, StartsWith}
use Rattle.command_base.proofs.Exactly.{admits_once}
use Rattle.command_base.proofs.OneTable.{new_once}
use Rattle.command_base.proofs.Repeated.{input_once, added_once}
use Rattle.follow_ups.specs.Announced.{sent_in}
use Rattle.lookup_commands.specs.Followed.{Owing, TellsThen}
use Rattle.lookup_commands.specs.Got.{GetText, IsGot, IsItemOf}
use Rattle.lookup_commands.specs.Looked.{LookupText}
use Rattle.lookup_commands.specs.Peered.{PeersText, announcing_to}
use Rattle.lookup_commands.specs.Printed.{printed_item, printed_peers, printed_stored}
use Rattle.lookup_commands.specs.Reached.{HasRunOut}
use Rattle.lookup_commands.specs.Stored.{PutText, putting_to}

-- ---- where it begins

reads_same : (own : Id) (family : Family) (policy : Policy) (source again : Shown ℕ) (xs ys : List Contact) → SameInput source again → Reads own family policy source xs → Reads own family policy again ys → xs ≡ ys
reads_same own family policy source again xs ys same s t =
    let input = input_once source.before again.before source.after again.after s.input t.input same.held same.told same.told_again s.read t.read in
    let one = reading_once (lines t.input) s.reports t.reports (subst (λ (l : List ℕ). Reporting (lines l) s.reports) input s.good_lines) t.good_lines in
    admits_once own family policy t.reports xs ys (subst (λ (rs : List Report). Admits own family policy rs xs) one s.admits) t.admits

table_once : (look : LookWords) (random : List ℕ) (source again : Shown ℕ) → IsInRange look → SameInput source again → (a : Start look random source) (b : Start look random again) → a.table ≡ b.table
table_once look random source again range same a b =
    let contacts = reads_same (own_of look.own random) look.family look.policy source again a.contacts b.contacts same a.reads b.reads in
    new_once (own_of look.own random) look.k look.bits 0 (map seen_call b.contacts) a.table b.table range.some_live range.few_live range.some_bits range.few_bits
    (subst (λ (l : List Contact). StartsWith look random l a.table) contacts a.told) b.told

seeds_once : (kind : AskKind) (look : LookWords) (random : List ℕ) (source again : Shown ℕ) (J K : List Entry) → IsInRange look → SameInput source again → HasRunOut kind look random source J → HasRunOut kind look random again K → seeds J ≡ seeds K
seeds_once kind look random source again J K range same h k = h.seeds_are ∙ ap (λ (t : TableState). seeds_dealt (look_of kind look random) t) (table_once look random source again range same h.start k.start) ∙ sym k.seeds_are

in_turn : (called : Called) (g : Given) (J : List Entry) (events : List Event) → called.slow ≡ false → Rounds (scheduling_by called.slow) g J events → Rounds sequential g J events
in_turn called g J events quick h = subst (λ b. Rounds (scheduling_by b) g J events) quick h

some_path : (look : LookWords) → IsInRange look → 0 < look.paths
some_path look range = (let some = range.some_path in omega (arith, some))

-- two lookups that have run out
record Twice (kind : AskKind) (look : LookWords) (called : Called) (J K : List Entry) : Type 0 where
  has_path : 0 < look.paths
  quick : called.slow ≡ false
  legal : Legal (book_of kind look called.random) J
  legal_too : Legal (book_of kind look called.random) K
  same_seeds : seeds J ≡ seeds K

twice : (kind : AskKind) (look : LookWords) (called : Called) (source again : Shown ℕ) (J K : List Entry) → IsInRange look → called.slow ≡ false → SameInput source again → HasRunOut kind look called.random source J → HasRunOut kind look called.random again K → Twice kind look called J K
twice kind look called source again J K range quick same h k = record { has_path = some_path look range; quick = quick; legal = h.legal; legal_too = k.legal; same_seeds = seeds_once kind look called.random source again J K range same h k }

journal_once : (kind : AskKind) (look : LookWords) (called : Called) (J K : List Entry) (events : List Event) → Twice kind look called J K → Rounds (scheduling_by called.slow) (lookup_of kind look called) J events → Rounds (scheduling_by called.slow) (lookup_of kind look called) K events → J ≡ K
journal_once kind look called J K events w h k =
    let g = lookup_of kind look called in
    rounds_once g J K events w.has_path w.legal w.legal_too w.same_seeds (in_turn called g J events w.quick h) (in_turn called g K events w.quick k)

-- ---- `lookup`

pub lookup_once : (kind : AskKind) (look : LookWords) (called : Called) (source again : Shown ℕ) (link beside : Shown Event) (t u : List ℕ) → IsInRange look → called.slow ≡ false → SameInput source again → SameEvents link beside
    → LookupText kind look called source link t → LookupText kind look called again beside u → t ≡ u
lookup_once kind look called source again link beside t u range quick same events a b =
    let both = added_once link.before beside.before link.after beside.after _ _ events.before events.after events.told a.rounds b.rounds in
    let journal = journal_once kind look called a.journal b.journal both.0 (twice kind look called source again a.journal b.journal range quick same a.ran b.ran) both.1 both.2 in
    a.text_is ∙ ap (λ (J : List Entry). printed_of (book_of kind look called.random) J) journal ∙ sym b.text_is

-- ---- `get`

not_among : (key : Id) (items before behind : List Item) (i : Item) → items ≡ before ++ i ∷ behind → All (λ (x : Item). ¬ IsItemOf key x.v) items → ¬ IsItemOf key i.v
not_among key items [] behind i is none_ = All-head (λ (x : Item). ¬ IsItemOf key x.v) i behind (subst (All (λ (x : Item). ¬ IsItemOf key x.v)) is none_)
not_among key items (x ∷ before) behind i is none_ =
    not_among key (before ++ i ∷ behind) before behind i refl (All-tail (λ (y : Item). ¬ IsItemOf key y.v) x (before ++ i ∷ behind) (subst (All (λ (y : Item). ¬ IsItemOf key y.v)) is none_))

first_once : (key : Id) (i j : Item) (before others behind beyond : List Item) → before ++ i ∷ behind ≡ others ++ j ∷ beyond → All (λ (x : Item). ¬ IsItemOf key x.v) before → All (λ (x : Item). ¬ IsItemOf key x.v) others → IsItemOf key i.v → IsItemOf key j.v → i.v ≡ j.v
first_once key i j [] [] behind beyond e none_ no_ is has = (let one : i ≡ j = cc in ap (λ (x : Item). x.v) one)
first_once key i j [] (y ∷ others) behind beyond e none_ no_ is has =
    let one : i ≡ y = cc in
    absurd (All-head (λ (x : Item). ¬ IsItemOf key x.v) y others no_ (subst (λ (x : Item). IsItemOf key x.v) one is))
first_once key i j (x ∷ before) [] behind beyond e none_ no_ is has =
    let one : x ≡ j = cc in
    absurd (All-head (λ (y : Item). ¬ IsItemOf key y.v) x before none_ (subst (λ (y : Item). IsItemOf key y.v) (sym one) has))
first_once key i j (x ∷ before) (y ∷ others) behind beyond e none_ no_ is has =
    let rest : before ++ i ∷ behind ≡ others ++ j ∷ beyond = cc in
    first_once key i j before others behind beyond rest (All-tail (λ (z : Item). ¬ IsItemOf key z.v) x before none_) (All-tail (λ (z : Item). ¬ IsItemOf key z.v) y others no_) is has

got_once : (key : Id) (items : List Item) (x y : Option (List ℕ)) → IsGot key items x → IsGot key items y → x ≡ y
got_once key items None None h k = refl
got_once key items None (Some w) h k = absurd (not_among key items k.before k.behind (record { contact = k.by; v = w }) k.split h k.is_of)
got_once key items (Some v) None h k = absurd (not_among key items h.before h.behind (record { contact = h.by; v = v }) h.split k h.is_of)
got_once key items (Some v) (Some w) h k =
    ap (λ (l : List ℕ). Some l)
    (first_once key (record { contact = h.by; v = v }) (record { contact = k.by; v = w }) h.before k.before h.behind k.behind (sym h.split ∙ k.split) h.none_before k.none_before h.is_of k.is_of)

pub get_once : (look : LookWords) (called : Called) (source again : Shown ℕ) (link beside : Shown Event) (t u : List ℕ) → IsInRange look → called.slow ≡ false → SameInput source again → SameEvents link beside
    → GetText look called source link t → GetText look called again beside u → t ≡ u
get_once look called source again link beside t u range quick same events a b =
    let g = lookup_of GetItem look called in
    let both = added_once link.before beside.before link.after beside.after _ _ events.before events.after events.told a.tells b.tells in
    let x = both.1.2 in
    let y = both.2.2 in
    let journal = journal_once GetItem look called a.journal b.journal both.0 (twice GetItem look called source again a.journal b.journal range quick same a.ran b.ran) x.rounds y.rounds in
    let gathered = gathered_once g b.journal both.0 both.1.0 both.2.0 both.1.1 both.2.1 a.items b.items (subst (λ (J : List Entry). Gathers g J both.0 both.1.0 both.1.1 a.items) journal x.gathers) y.gathers in
    let item = got_once look.target b.items a.item b.item (subst (λ (l : List Item). IsGot look.target l a.item) gathered.items_are a.got) b.got in
    a.text_is
    ∙ ap (λ (J : List Entry). printed_item a.item (length (result_of (book_of GetItem look called.random) J)) (length (asked J)) (length (failed J)) (length (turned J))) journal
    ∙ ap (λ (v : Option (List ℕ)). printed_item v (length (result_of (book_of GetItem look called.random) b.journal)) (length (asked b.journal)) (length (failed b.journal)) (length (turned b.journal))) item
    ∙ sym b.text_is

-- ---- a lookup, and what is said after it

-- of two fronts of a list the one is the other, or goes on after it
fronts : {A : Type 0} (xs ys more rest : List A) → xs ++ more ≡ ys ++ rest → ((xs ≡ ys) × (more ≡ rest)) ⊎ (((e : A) × (r : List A) × (ys ≡ xs ++ e ∷ r)) ⊎ ((e : A) × (r : List A) × (xs ≡ ys ++ e ∷ r)))
fronts [] [] more rest e = inl (refl, e)
fronts [] (y ∷ ys) more rest e = inr (inl (y, ys, refl))
fronts (x ∷ xs) [] more rest e = inr (inr (x, xs, refl))
fronts {A} (x ∷ xs) (y ∷ ys) more rest e =
    let head : x ≡ y = cc in
    let tails : xs ++ more ≡ ys ++ rest = cc in
    elim (fronts xs ys more rest tails) [
      | inl same ↦ inl ((let tail = same.0 in cc), same.1)
      | inr other ↦ elim other [
        | inl long ↦ inr (inl (long.0, long.1, ap (λ (l : List A). y ∷ l) long.2 ∙ ap (λ (z : A). z ∷ (xs ++ long.0 ∷ long.1)) (sym head)))
        | inr long ↦ inr (inr (long.0, long.1, ap (λ (l : List A). x ∷ l) long.2 ∙ ap (λ (z : A). z ∷ (ys ++ long.0 ∷ long.1)) head))
      ]
    ]

-- one is not over before the other
none_longer : (kind : AskKind) (look : LookWords) (called : Called) (J K : List Entry) (short long r : List Event) (e : Event) → Twice kind look called J K → Tells (lookup_of kind look called) K short → Rounds (scheduling_by called.slow) (lookup_of kind look called) K short
    → Rounds (scheduling_by called.slow) (lookup_of kind look called) J long → long ≡ short ++ e ∷ r → ⊥
none_longer kind look called J K short long r e w tells ends goes is =
    let g = lookup_of kind look called in
    last_call g J K short r e w.has_path w.legal w.legal_too w.same_seeds tells (in_turn called g K short w.quick ends)
    (subst (λ (l : List Event). Rounds sequential g J l) is (in_turn called g J long w.quick goes))

turned_round : (kind : AskKind) (look : LookWords) (called : Called) (J K : List Entry) → Twice kind look called J K → Twice kind look called K J
turned_round kind look called J K w = record { has_path = w.has_path; quick = w.quick; legal = w.legal_too; legal_too = w.legal; same_seeds = sym w.same_seeds }

-- the journal, the peers and how much was said
record SameThen (J K : List Entry) (peers others : List Addr) (sent number : ℕ) : Type 0 where
  journal : J ≡ K
  peers_are : peers ≡ others
  sent_are : sent ≡ number

then_once : (kind : AskKind) (look : LookWords) (spread : Bool) (owing : Owing) (called : Called) (J K : List Entry) (peers others : List Addr) (sent number : ℕ) (events : List Event) → Twice kind look called J K
    → TellsThen kind look spread owing called J peers sent events → TellsThen kind look spread owing called K others number events → SameThen J K peers others sent number
then_once kind look spread owing called J K peers others sent number events w a b =
    let g = lookup_of kind look called in
    elim (fronts a.lookup b.lookup a.then b.then (sym a.whole ∙ b.whole)) [
      | inl same ↦ (
          let rounds = subst (λ (l : List Event). Rounds (scheduling_by called.slow) g J l) same.0 a.tells.rounds in
          let journal = journal_once kind look called J K b.lookup w rounds b.tells.rounds in
          let gathers = subst (λ (L : List Entry). Gathers g L b.lookup peers a.tokens a.items) journal (subst (λ (l : List Event). Gathers g J l peers a.tokens a.items) same.0 a.tells.gathers) in
          let gathered = gathered_once g K b.lookup peers others a.tokens b.tokens a.items b.items gathers b.tells.gathers in
          record { journal = journal; peers_are = gathered.peers_are; sent_are = a.counts ∙ ap sent_in same.1 ∙ sym b.counts }
          )
      | inr other ↦ absurd (elim other [
        | inl more ↦ none_longer kind look called K J a.lookup b.lookup more.1 more.0 (turned_round kind look called J K w) a.tells.tells a.tells.rounds b.tells.rounds more.2
        | inr more ↦ none_longer kind look called J K b.lookup a.lookup more.1 more.0 w b.tells.tells b.tells.rounds a.tells.rounds more.2
      ])
    ]

pub peers_once : (look : LookWords) (announce : Option ℕ) (spread : Bool) (called : Called) (source again : Shown ℕ) (link beside : Shown Event) (t u : List ℕ) → IsInRange look → called.slow ≡ false → SameInput source again → SameEvents link beside
    → PeersText look announce spread called source link t → PeersText look announce spread called again beside u → t ≡ u
peers_once look announce spread called source again link beside t u range quick same events a b =
    let both = added_once link.before beside.before link.after beside.after _ _ events.before events.after events.told a.tells b.tells in
    let one = then_once GetPeers look spread (announcing_to look announce) called a.journal b.journal a.peers b.peers a.announced b.announced both.0 (twice GetPeers look called source again a.journal b.journal range quick same a.ran b.ran) both.1 both.2 in
    a.text_is
    ∙ ap (λ (J : List Entry). printed_peers a.peers (length (result_of (book_of GetPeers look called.random) J)) (length (asked J)) (length (failed J)) (length (turned J)) a.announced) one.journal
    ∙ ap (λ (l : List Addr). printed_peers l (length (result_of (book_of GetPeers look called.random) b.journal)) (length (asked b.journal)) (length (failed b.journal)) (length (turned b.journal)) a.announced) one.peers_are
    ∙ ap (λ n. printed_peers b.peers (length (result_of (book_of GetPeers look called.random) b.journal)) (length (asked b.journal)) (length (failed b.journal)) (length (turned b.journal)) n) one.sent_are
    ∙ sym b.text_is

pub put_once : (look : LookWords) (item : List ℕ) (spread : Bool) (called : Called) (source again : Shown ℕ) (link beside : Shown Event) (t u : List ℕ) → IsInRange look → called.slow ≡ false → SameInput source again → SameEvents link beside
    → PutText look item spread called source link t → PutText look item spread called again beside u → t ≡ u
put_once look item spread called source again link beside t u range quick same events a b =
    let both = added_once link.before beside.before link.after beside.after _ _ events.before events.after events.told a.tells b.tells in
    let one = then_once GetItem look spread (putting_to item) called a.journal b.journal both.1.0 both.2.0 a.stored b.stored both.0 (twice GetItem look called source again a.journal b.journal range quick same a.ran b.ran) both.1.1 both.2.1 in
    a.text_is
    ∙ ap (λ (J : List Entry). printed_stored look.target (length (result_of (book_of GetItem look called.random) J)) (length (asked J)) (length (failed J)) (length (turned J)) a.stored) one.journal
    ∙ ap (λ n. printed_stored look.target (length (result_of (book_of GetItem look called.random) b.journal)) (length (asked b.journal)) (length (failed b.journal)) (length (turned b.journal)) n) one.sent_are
    ∙ sym b.text_is
