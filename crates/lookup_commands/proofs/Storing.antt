-- From a lookup of an item's key, and the puts after it, to what `put` promises.
use Rattle.std.proofs.Common.{◌≡◌, ℕ, ◌≤◌, List, length, Option, Bool, true, None, Result, Ok, Err, IfOk, IfErr, ap, ◌∙◌}
use Rattle.kad_base.specs.declared.types.Contact.{Contact}
use Rattle.kad_base.specs.declared.types.Event.{Event}
use Rattle.kad_base.specs.declared.types.Id.{Id}
use Rattle.kad_base.specs.Outside.{Grows}
use Rattle.kad_base.proofs.Grown.{grows_weaker}
use Rattle.claim_book.specs.Journal.{failed, asked}
use Rattle.claim_book.specs.Result.{result_of}
use Rattle.item_store.specs.Items.{IsItem}
use Rattle.lookup_core.specs.declared.quest.AskKind.TheVariants.{GetItem}
use Rattle.kad_words.specs.declared.command.LookWords.{LookWords}
use Rattle.lookup_commands.specs.declared.run_lookup.Reached.{Reached}
use Rattle.command_base.specs.declared.status.Status.{Status}
use Rattle.command_base.specs.declared.status.Status.TheVariants.{BadValue, NoMemory}
use Rattle.command_base.specs.Called.{Called}
use Rattle.lookup_commands.specs.Stored.{PutText, put_promise, putting_to}
use Rattle.command_base.specs.Endings.{number_of}
use Rattle.lookup_commands.specs.Looked.{LookupCause}
use Rattle.lookup_commands.specs.Printed.{printed_stored}
use Rattle.lookup_commands.specs.Reached.{Reaches}
use Rattle.command_base.specs.Shown.{Shown}
use Rattle.command_base.specs.Started.{book_of}
use Rattle.follow_ups.proofs.Announcing.{Sends}
use Rattle.lookup_commands.proofs.Following.{owes, never_then, spreads_out, then_at}

pub printed_same : (key : Id) (found many asked_ failed_ turned_ stored : ℕ) (text : List ℕ) → text ≡ printed_stored key many asked_ failed_ turned_ stored → many ≡ found → text ≡ printed_stored key found asked_ failed_ turned_ stored
printed_same key found many asked_ failed_ turned_ stored text is e = is ∙ ap (λ n. printed_stored key n asked_ failed_ turned_ stored) e

pub puts_at : (look : LookWords) (item : List ℕ) (spread : Bool) (called : Called) (source : Shown ℕ) (before middle after : Option (List Event)) (f f' f'' s s' s'' : ℕ) (r : Reached) (n : ℕ) (text : List ℕ)
    → Reaches GetItem look called source (record { before = before; after = middle; faults = f; faults' = f'; sends = s; sends' = s' }) r
    → s' ≤ s'' → Grows middle after (Sends true None r.words.seed r.words.place (owes GetItem look spread (putting_to item) called source r) n)
    → text ≡ printed_stored look.target (length r.outcome.found) r.outcome.counts.asked r.outcome.counts.failed r.outcome.counts.turned n
    → PutText look item spread called source (record { before = before; after = after; faults = f; faults' = f''; sends = s; sends' = s'' }) text
puts_at look item spread called source before middle after f f' f'' s s' s'' r n text h later sends is =
    let o = r.outcome in
    let J = o.journal in
    let tells = then_at GetItem look spread (putting_to item) called source before middle after f f' s s' r n h sends in
    record {
      journal = J;
      ran = h.ran;
      spreads = spreads_out GetItem look called.random source J h.ran;
      stored = n;
      tells = grows_weaker before after _ _ tells (λ events t. (o.peers, t));
      no_last_stray = never_then GetItem look spread (putting_to item) called source (record { before = before; after = after; faults = f; faults' = f''; sends = s; sends' = s'' }) r n tells;
      refused = record { between = s'; refused = h.refused; no_less = later };
      text_is =
          is ∙ ap (λ (l : List Contact). printed_stored look.target (length l) o.counts.asked o.counts.failed o.counts.turned n) h.found
          ∙ ap (λ m. printed_stored look.target (length (result_of (book_of GetItem look called.random) J)) m o.counts.failed o.counts.turned n) h.counted.asked
          ∙ ap (λ m. printed_stored look.target (length (result_of (book_of GetItem look called.random) J)) (length (asked J)) m o.counts.turned n) h.counted.failed
          ∙ ap (λ m. printed_stored look.target (length (result_of (book_of GetItem look called.random) J)) (length (asked J)) (length (failed J)) m n) h.counted.turned;
    }

-- ---- behind the value

-- a cause behind it is no bad value
not_value : (look : LookWords) (called : Called) (source : Shown ℕ) (link : Shown Event) (s : Status) → LookupCause GetItem look called source link s → number_of s ≡ 12 → ⊥
not_value look called source link BadValue c e = c
not_value look called source link other c e = absurd cc

pub never_unread : {T : Type 0} (look : LookWords) (called : Called) (source : Shown ℕ) (link : Shown Event) (r : Result T Status) (X : Type 0) → IfErr r (LookupCause GetItem look called source link) → IfErr r (λ s. number_of s ≡ 12 → X)
never_unread look called source link (Ok x) X h = tt
never_unread look called source link (Err s) X h = λ e. absurd (not_value look called source link s h e)

behind_value : (look : LookWords) (item : List ℕ) (spread : Bool) (called : Called) (source : Shown ℕ) (link : Shown Event) → IsItem item → (s : Status) → LookupCause GetItem look called source link s → (put_promise look item spread).cause called source link s
behind_value look item spread called source link is BadValue c = absurd c
behind_value look item spread called source link is NoMemory c = tt
behind_value look item spread called source link is s c = (is, c)

pub cause_behind : {T : Type 0} (look : LookWords) (item : List ℕ) (spread : Bool) (called : Called) (source : Shown ℕ) (link : Shown Event) (r : Result T Status) → IsItem item → IfErr r (LookupCause GetItem look called source link) → IfErr r ((put_promise look item spread).cause called source link)
cause_behind look item spread called source link (Ok x) is h = tt
cause_behind look item spread called source link (Err s) is h = behind_value look item spread called source link is s h

pub text_behind : {F : Type 0} (look : LookWords) (item : List ℕ) (spread : Bool) (called : Called) (source : Shown ℕ) (link : Shown Event) (r : Result (List ℕ) F) → IsItem item → IfOk r (PutText look item spread called source link) → IfOk r ((put_promise look item spread).text called source link)
text_behind look item spread called source link (Ok x) is h = (is, h)
text_behind look item spread called source link (Err s) is h = tt
