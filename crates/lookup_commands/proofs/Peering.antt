-- From a lookup for peers, and the announcements after it, to what the command promises.
use Rattle.std.proofs.Common.{◌≡◌, ℕ, ◌≤◌, List, length, Option, Bool, true, None, ap, ◌∙◌}
use Rattle.kad_base.specs.declared.types.Addr.{Addr}
use Rattle.kad_base.specs.declared.types.Contact.{Contact}
use Rattle.kad_base.specs.declared.types.Event.{Event}
use Rattle.kad_base.specs.Outside.{Grows}
use Rattle.claim_book.specs.Journal.{failed, asked}
use Rattle.claim_book.specs.Result.{result_of}
use Rattle.lookup_core.specs.declared.quest.AskKind.TheVariants.{GetPeers}
use Rattle.kad_words.specs.declared.command.LookWords.{LookWords}
use Rattle.lookup_commands.specs.declared.run_lookup.Reached.{Reached}
use Rattle.lookup_commands.specs.Peered.{announcing_to, PeersText}
use Rattle.lookup_commands.specs.Printed.{printed_peers}
use Rattle.command_base.specs.Shown.{Shown}
use Rattle.command_base.specs.Started.{book_of}
use Rattle.lookup_commands.specs.Reached.{Reaches}
use Rattle.follow_ups.proofs.Announcing.{Sends}
use Rattle.lookup_commands.proofs.Following.{owes, never_then, spreads_out, then_at}
use Rattle.command_base.specs.Called.{Called}

pub printed_same : (peers mine : List Addr) (found many asked_ failed_ turned_ announced : ℕ) (text : List ℕ) → text ≡ printed_peers mine many asked_ failed_ turned_ announced → mine ≡ peers → many ≡ found
    → text ≡ printed_peers peers found asked_ failed_ turned_ announced
printed_same peers mine found many asked_ failed_ turned_ announced text is e f =
    is ∙ ap (λ (l : List Addr). printed_peers l many asked_ failed_ turned_ announced) e ∙ ap (λ n. printed_peers peers n asked_ failed_ turned_ announced) f

pub peers_at : (look : LookWords) (port : Option ℕ) (spread : Bool) (called : Called) (source : Shown ℕ) (before middle after : Option (List Event)) (f f' f'' s s' s'' : ℕ) (r : Reached) (n : ℕ) (text : List ℕ)
    → Reaches GetPeers look called source (record { before = before; after = middle; faults = f; faults' = f'; sends = s; sends' = s' }) r
    → s' ≤ s'' → Grows middle after (Sends true None r.words.seed r.words.place (owes GetPeers look spread (announcing_to look port) called source r) n)
    → text ≡ printed_peers r.outcome.peers (length r.outcome.found) r.outcome.counts.asked r.outcome.counts.failed r.outcome.counts.turned n
    → PeersText look port spread called source (record { before = before; after = after; faults = f; faults' = f''; sends = s; sends' = s'' }) text
peers_at look port spread called source before middle after f f' f'' s s' s'' r n text h later sends is =
    let o = r.outcome in
    let J = o.journal in
    let tells = then_at GetPeers look spread (announcing_to look port) called source before middle after f f' s s' r n h sends in
    record {
      journal = J;
      ran = h.ran;
      spreads = spreads_out GetPeers look called.random source J h.ran;
      peers = o.peers;
      in_order = h.in_order;
      announced = n;
      tells = tells;
      no_last_stray = never_then GetPeers look spread (announcing_to look port) called source (record { before = before; after = after; faults = f; faults' = f''; sends = s; sends' = s'' }) r n tells;
      refused = record { between = s'; refused = h.refused; no_less = later };
      text_is =
          is ∙ ap (λ (l : List Contact). printed_peers o.peers (length l) o.counts.asked o.counts.failed o.counts.turned n) h.found
          ∙ ap (λ m. printed_peers o.peers (length (result_of (book_of GetPeers look called.random) J)) m o.counts.failed o.counts.turned n) h.counted.asked
          ∙ ap (λ m. printed_peers o.peers (length (result_of (book_of GetPeers look called.random) J)) (length (asked J)) m o.counts.turned n) h.counted.failed
          ∙ ap (λ m. printed_peers o.peers (length (result_of (book_of GetPeers look called.random) J)) (length (asked J)) (length (failed J)) m n) h.counted.turned;
    }
