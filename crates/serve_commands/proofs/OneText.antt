-- `serve` has one text by its input and the link's events, if one worker answers, or if it prints no table.
use Rattle.std.proofs.Common.{◌≡◌, ◌⊎◌, ℕ, false, List, [], ◌∷◌, map, inl, inr, sym, ap, subst, ◌∙◌, arith}
use Rattle.kad_base.specs.declared.types.Contact.{Contact}
use Rattle.kad_base.specs.declared.types.Event.{Event}
use Rattle.kad_base.specs.declared.types.Event.TheVariants.{Now}
use Rattle.kad_base.specs.declared.types.Family.{Family}
use Rattle.kad_base.specs.declared.types.Family.TheVariants.{Four}
use Rattle.kad_base.specs.declared.types.Id.{Id}
use Rattle.kad_base.specs.declared.types.Policy.{Policy}
use Rattle.kad_base.specs.declared.types.Report.{Report}
use Rattle.kad_base.specs.Outside.{Grows}
use Rattle.kad_base.proofs.Grown.{grows_weaker}
use Rattle.contact_table.specs.TableState.{SoundTable, TableState}
use Rattle.contact_table.specs.Told.{limited_table}
use Rattle.contact_table.proofs.StaysSound.{limited-sound, run-sound}
use Rattle.lookup_run.specs.Lookup.{TableTold}
use Rattle.node_serve.specs.Receives.{ServesAll, got_in, sent_in}
use Rattle.node_serve.proofs.OneService.{service_once}
use Rattle.kad_words.specs.declared.command.ServeWords.{ServeWords}
use Rattle.command_base.specs.Called.{Called}
use Rattle.command_base.specs.Input.{Admits, Keeps}
use Rattle.command_base.specs.Shown.{SameEvents, SameInput, Shown}
use Rattle.command_base.specs.Started.{own_of, seen_call}
use Rattle.command_base.proofs.Exactly.{admits_once}
use Rattle.command_base.proofs.OneTable.{new_once}
use Rattle.command_base.proofs.Repeated.{added_once, lists_once}
use Rattle.serve_commands.specs.Printed.{printed_served}
use Rattle.serve_commands.specs.Served.{AreServiceBounds, Hosts, HasServed, Served, ServeText, alone, at_once, begun_at, lasting_of}
use Rattle.serve_commands.proofs.Saving.{with_once}

-- ---- how much was served

-- so many datagrams came, and so many replies were sent
record Counted (received replied : ℕ) (events : List Event) : Type 0 where
  received_are : received ≡ got_in events
  replied_are : replied ≡ sent_in events

counted : (service : ServeWords) (called : Called) (link : Shown Event) (table after : TableState) (proofs : List Report) (received replied : ℕ) → HasServed service called link table after proofs received replied
    → Grows link.before link.after (Counted received replied)
counted service called link table after proofs received replied (alone one g) =
    grows_weaker link.before link.after _ _ g (λ es s. record { received_are = s.serves.received_are ∙ sym (ap got_in s.whole); replied_are = s.serves.replied_are ∙ sym (ap sent_in s.whole) })
counted service called link table after proofs received replied (at_once several h) =
    grows_weaker link.before link.after _ _ h.told_are (λ es is. record {
      received_are = h.holds.serves.received_are ∙ sym (ap got_in h.holds.whole) ∙ sym (ap got_in is);
      replied_are = h.holds.serves.replied_are ∙ sym (ap sent_in h.holds.whole) ∙ sym (ap sent_in is);
    })

-- ---- what it begins with

keeps_once : (own : Id) (family : Family) (policy : Policy) (rs xs ys : List Report) → Keeps own family policy rs xs → Keeps own family policy rs ys → xs ≡ ys
keeps_once own family policy [] xs ys s t = s ∙ sym t
keeps_once own family policy (r ∷ rs) xs ys s t =
    elim s [
      | inl a ↦ elim t [
        | inl b ↦ a.1 ∙ ap (λ (l : List Report). r ∷ l) (keeps_once own family policy rs a.0 b.0 a.3 b.3) ∙ sym b.1
        | inr b ↦ absurd (b.0 a.2)
      ]
      | inr a ↦ elim t [
        | inl b ↦ absurd (a.0 b.2)
        | inr b ↦ keeps_once own family policy rs xs ys a.1 b.1
      ]
    ]

-- two that were given the same input
module _ (service : ServeWords) (random : List ℕ) (source again : Shown ℕ) (s t : TableState) (proofs kept : List Report) (bounds : AreServiceBounds service) (same : SameInput source again) (a : Hosts service random source s proofs) (b : Hosts service random again t kept) where
  abbrev own : Id
  own = own_of service.own random

  reports_same : a.reports ≡ b.reports
  reports_same = lists_once source again a.reports b.reports same a.lists b.lists

  table_same : s ≡ t
  table_same =
      let admits = subst (λ (l : List Report). Admits own Four service.policy l a.contacts) reports_same a.admits in
      let contacts = admits_once own Four service.policy b.reports a.contacts b.contacts admits b.admits in
      let calls = subst (λ (l : List Contact). TableTold (map seen_call l) (limited_table own service.k service.bits service.per_address) s) contacts a.told in
      let limits = bounds.table in
      new_once own service.k service.bits service.per_address (map seen_call b.contacts) s t limits.some_live limits.few_live limits.some_bits limits.few_bits calls b.told

  proofs_same : proofs ≡ kept
  proofs_same = keeps_once own Four service.policy b.reports proofs kept (subst (λ (l : List Report). Keeps own Four service.policy l proofs) reports_same a.keeps) b.keeps

  table_sound : SoundTable s
  table_sound =
      let limits = bounds.table in
      let some = limits.some_live in
      let more = limits.some_bits in
      subst SoundTable (sym a.told.leaves)
      (run-sound (limited_table own service.k service.bits service.per_address) a.told.run (limited-sound own service.k service.bits service.per_address (omega (arith, some)) limits.few_live (omega (arith, more)) limits.few_bits) a.told.is_run)

-- ---- what one worker leaves

module _ (service : ServeWords) (called : Called) (s t x y : TableState) (proofs kept : List Report) (received replied got sent : ℕ) (sound : SoundTable s) (tables : s ≡ t) (reports : proofs ≡ kept) where
  left_once : (events : List Event) → Served service called s x proofs received replied events → Served service called t y kept got sent events → x ≡ y
  left_once events h k =
      let whole : ◌≡◌ {A = List Event} (Now h.began ∷ h.then) (Now k.began ∷ k.then) = sym h.whole ∙ k.whole in
      let moment : h.began ≡ k.began = cc in
      let tail : h.then ≡ k.then = cc in
      service_once called.tags (begun_at service called.random s proofs h.began) (lasting_of service) x y received got replied sent h.then sound h.serves
      (subst (λ (l : List Event). ServesAll called.tags (begun_at service called.random s proofs h.began) (lasting_of service) y got sent l) (sym tail)
      (subst (λ (n : ℕ). ServesAll called.tags (begun_at service called.random s proofs n) (lasting_of service) y got sent k.then) (sym moment)
      (subst (λ (l : List Report). ServesAll called.tags (begun_at service called.random s l k.began) (lasting_of service) y got sent k.then) (sym reports)
      (subst (λ (o : TableState). ServesAll called.tags (begun_at service called.random o kept k.began) (lasting_of service) y got sent k.then) (sym tables) k.serves))))

  after_once : (link beside : Shown Event) → service.workers ≡ 1 → SameEvents link beside → HasServed service called link s x proofs received replied → HasServed service called beside t y kept got sent → x ≡ y
  after_once link beside one same (at_once several h) k = absurd (omega (arith, one, several))
  after_once link beside one same (alone alike g) (at_once several h) = absurd (omega (arith, one, several))
  after_once link beside one same (alone alike g) (alone too h) =
      let both = added_once link.before beside.before link.after beside.after _ _ same.before same.after same.told g h in
      left_once both.0 both.1 both.2

-- ---- the text

pub serve_once : (service : ServeWords) (called : Called) (source again : Shown ℕ) (link beside : Shown Event) (t u : List ℕ) → AreServiceBounds service → (service.table ≡ false) ⊎ (service.workers ≡ 1) → SameInput source again → SameEvents link beside
    → ServeText service called source link t → ServeText service called again beside u → t ≡ u
serve_once service called source again link beside t u bounds goes input same a b =
    let x = counted service called link a.table a.after a.proofs a.received a.replied a.tells in
    let y = counted service called beside b.table b.after b.proofs b.received b.replied b.tells in
    let both = added_once link.before beside.before link.after beside.after _ _ same.before same.after same.told x y in
    let received : a.received ≡ b.received = both.1.received_are ∙ sym both.2.received_are in
    let replied : a.replied ≡ b.replied = both.1.replied_are ∙ sym both.2.replied_are in
    let line : printed_served a.received a.replied ≡ printed_served b.received b.replied = ap (λ n. printed_served n a.replied) received ∙ ap (λ n. printed_served b.received n) replied in
    with_once service.table a.after b.after (printed_served a.received a.replied) (printed_served b.received b.replied) t u line (wanted goes) a.text_is b.text_is
  where
    wanted : (service.table ≡ false) ⊎ (service.workers ≡ 1) → (service.table ≡ false) ⊎ (a.after ≡ b.after)
    wanted (inl bare) = inl bare
    wanted (inr one) =
        inr (after_once service called a.table b.table a.after b.after a.proofs b.proofs a.received a.replied b.received b.replied
        (table_sound service called.random source again a.table b.table a.proofs b.proofs bounds input a.hosts b.hosts)
        (table_same service called.random source again a.table b.table a.proofs b.proofs bounds input a.hosts b.hosts)
        (proofs_same service called.random source again a.table b.table a.proofs b.proofs bounds input a.hosts b.hosts) link beside one same a.tells b.tells)
