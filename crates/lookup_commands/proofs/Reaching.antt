-- From a lookup over a link to what its command reaches, and to what each command says of it.
use Rattle.std.proofs.Common.{◌≡◌, ℕ, List, ◌++◌, Option, Some, None, Bool, true, false, refl, true≢false, sym, ap, subst, ◌∙◌}
use Rattle.std.proofs.lemmas.List.{append_cancel_left}
use Rattle.kad_base.specs.declared.types.Event.{Event}
use Rattle.kad_base.specs.Limits.{max_strays}
use Rattle.kad_base.specs.Outside.{Grows}
use Rattle.kad_base.proofs.Grown.{grows_weaker}
use Rattle.id_puzzles.specs.Drawn.{WordsState}
use Rattle.contact_table.specs.TableState.{TableState}
use Rattle.claim_book.proofs.Hosted.{has_few}
use Rattle.claim_book.proofs.Claims.{took_distinct, asked_distinct}
use Rattle.claim_book.proofs.Descent.{own_answers}
use Rattle.claim_book.proofs.Ends.{found_answered}
use Rattle.lookup_core.specs.declared.quest.AskKind.{AskKind}
use Rattle.lookup_run.specs.declared.types.LookSetting.{LookSetting}
use Rattle.lookup_run.specs.declared.types.Outcome.{Outcome}
use Rattle.lookup_core.specs.Sealed.{Accepts}
use Rattle.lookup_run.specs.Tells.{Given, Tells, HasFewStrays, NeverEnds}
use Rattle.lookup_run.specs.Rounds.{Scheduling, Rounds, scheduling_by}
use Rattle.std.specs.List.Sorted.{IsStrictlySortedBy}
use Rattle.lookup_core.specs.Gathered.{addr_cmp}
use Rattle.lookup_run.specs.Gathered.{Gathers}
use Rattle.lookup_run.specs.Lookup.{given_of, Finished, TellsEarly}
use Rattle.lookup_core.specs.SendFaults.{RefusedIn}
use Rattle.kad_words.specs.declared.command.LookWords.{LookWords}
use Rattle.lookup_commands.specs.declared.run_lookup.Reached.{Reached}
use Rattle.command_base.specs.Printed.{printed}
use Rattle.command_base.specs.Shown.{Shown}
use Rattle.command_base.specs.Started.{look_of, book_of, drawn_of, lookup_of, IsInRange, Start}
use Rattle.lookup_commands.specs.Looked.{LookupText, LookupBegun, NeverInStrays}
use Rattle.lookup_commands.specs.Reached.{HasRunOut, TellsAll, Reaches}
use Rattle.lookup_commands.proofs.Begun.{Has, start_of, moved, begun_of, tells_early, text_is}
use Rattle.command_base.specs.Called.{Called}

-- two things that hold of what was added hold of one list
pub grows_both : {A : Type 0} (a b : Option (List A)) (P Q R : List A → Type 0) → Grows a b P → Grows a b Q → ((t : List A) → P t → Q t → R t) → Grows a b R
grows_both a None P Q R g h f = tt
grows_both {A} a (Some after) P Q R g h f =
    let before : h.before ≡ g.before = (let x = g.was in let y = h.was in cc) in
    let same : g.before ++ h.added ≡ g.before ++ g.added = ap (λ (l : List A). l ++ h.added) (sym before) ∙ sym h.sum_is ∙ g.sum_is in
    record { before = g.before; added = g.added; was = g.was; sum_is = g.sum_is; holds = f g.added g.holds (subst Q (append_cancel_left g.before h.added g.added same) h.holds) }

-- ---- what a lookup reaches

ran_out : (kind : AskKind) (look : LookWords) (random : List ℕ) (accepts : Accepts) (source : Shown ℕ) (start : Start look random source) (words left : WordsState) (told told' : Option (List Event)) (o : Outcome) → IsInRange look
    → Finished (look_of kind look random) accepts start.table words left told told' o → HasRunOut kind look random source o.journal
ran_out kind look random accepts source start words left told told' o range up =
    let set = book_of kind look random in
    record {
      start = start;
      legal = up.legal;
      seeds_are = up.seeds_are;
      run_out = up.run_out;
      taken_once = λ named. took_distinct set o.journal named up.legal;
      asked_once = asked_distinct set o.journal up.legal;
      own_answers = own_answers set o.journal up.legal;
      few_of_a_host = has_few set o.journal up.legal;
      have_answered = λ c has. found_answered set o.journal c range.some_path up.legal up.run_out has;
    }

-- what holds where something isn't so, of what grew
where_plain : {A : Type 0} (sealed : Bool) (a b : Option (List A)) (P Q : List A → Type 0) → Grows a b Q → (sealed ≡ false → Grows a b P) → Grows a b (λ t. sealed ≡ false → P t)
where_plain true a b P Q g h = grows_weaker a b Q (λ t. true ≡ false → P t) g (λ t q e. absurd (true≢false e))
where_plain false a b P Q g h = grows_weaker a b P (λ t. false ≡ false → P t) (h refl) (λ t p e. p)

all_told : (scheduling : Scheduling) (g : Given) (o : Outcome) (a b : Option (List Event)) → Grows a b (λ events. Tells g o.journal events) → Grows a b (λ events. Rounds scheduling g o.journal events) → Grows a b (λ events. Gathers g o.journal events o.peers o.tokens o.items)
    → Grows a b (λ events. HasFewStrays g o.journal events max_strays) → (g.quest.sealed ≡ false → Grows a b (NeverEnds g max_strays)) → Grows a b (TellsAll scheduling g o.journal o.peers o.tokens o.items)
all_told scheduling g o a b tells rounds gathers few never =
    let half = grows_both a b _ _ (λ events. Tells g o.journal events × Rounds scheduling g o.journal events) tells rounds (λ t p q. (p, q)) in
    let rest = grows_both a b _ _ (λ events. Gathers g o.journal events o.peers o.tokens o.items × HasFewStrays g o.journal events max_strays) gathers few (λ t p q. (p, q)) in
    let All : List Event → Type 0 = (λ events. (Tells g o.journal events × Rounds scheduling g o.journal events) × (Gathers g o.journal events o.peers o.tokens o.items × HasFewStrays g o.journal events max_strays)) in
    let all = grows_both a b _ _ All half rest (λ t p q. (p, q)) in
    grows_both a b All (λ events. g.quest.sealed ≡ false → NeverEnds g max_strays events) (TellsAll scheduling g o.journal o.peers o.tokens o.items) all (where_plain g.quest.sealed a b (NeverEnds g max_strays) All all never)
    (λ t p q. record { tells = p.0.0; rounds = p.0.1; gathers = p.1.0; few_strays = p.1.1; no_last_stray = q })

pub reaches : (kind : AskKind) (look : LookWords) (called : Called) (source : Shown ℕ) (link : Shown Event) (setting : LookSetting) (words left : WordsState) (table : TableState) (o : Outcome) → Has kind look called.random source setting words table
    → Finished setting called.accepts table words left link.before link.after o → Grows link.before link.after (λ events. Rounds (scheduling_by called.slow) (given_of setting called.accepts words) o.journal events)
    → Grows link.before link.after (λ events. Gathers (given_of setting called.accepts words) o.journal events o.peers o.tokens o.items)
    → Grows link.before link.after (λ events. HasFewStrays (given_of setting called.accepts words) o.journal events max_strays) → (setting.sealed ≡ false → Grows link.before link.after (NeverEnds (given_of setting called.accepts words) max_strays))
    → IsStrictlySortedBy addr_cmp o.peers → RefusedIn o.journal link.sends link.sends'
    → Reaches kind look called source link (record { own = setting.own; outcome = o; words = left })
reaches kind look called source link setting words left table o h up rounds gathers few never sorted refused =
    let up' : Finished (look_of kind look called.random) called.accepts table (drawn_of called.random) left link.before link.after o = moved kind look called.random source setting words table (λ s w. Finished s called.accepts table w left link.before link.after o) h up in
    let rounds' = moved kind look called.random source setting words table (λ s w. Grows link.before link.after (λ events. Rounds (scheduling_by called.slow) (given_of s called.accepts w) o.journal events)) h rounds in
    let gathers' = moved kind look called.random source setting words table (λ s w. Grows link.before link.after (λ events. Gathers (given_of s called.accepts w) o.journal events o.peers o.tokens o.items)) h gathers in
    let few' = moved kind look called.random source setting words table (λ s w. Grows link.before link.after (λ events. HasFewStrays (given_of s called.accepts w) o.journal events max_strays)) h few in
    let never' = moved kind look called.random source setting words table (λ s w. s.sealed ≡ false → Grows link.before link.after (NeverEnds (given_of s called.accepts w) max_strays)) h never in
    record {
      own_is = ap (λ (s : LookSetting). s.own) h.setting_is;
      ran = ran_out kind look called.random called.accepts source (start_of kind look called.random source setting words table h) (drawn_of called.random) left link.before link.after o h.range up';
      tells = all_told (scheduling_by called.slow) (lookup_of kind look called) o link.before link.after up'.tells rounds' gathers' few' never';
      found = up'.found;
      counted = up'.counted;
      drawn = up'.drawn;
      in_order = sorted;
      refused = refused;
    }

-- ---- and what follows

-- a lookup that has run out had begun
pub begun_reached : (kind : AskKind) (look : LookWords) (called : Called) (source : Shown ℕ) (link : Shown Event) (r : Reached) → Reaches kind look called source link r → LookupBegun kind look called source link
begun_reached kind look called source link r h =
    begun_of kind look called source link h.ran.start r.words (record {
      journal = r.outcome.journal;
      legal = h.ran.legal;
      seeds_are = h.ran.seeds_are;
      tells = grows_weaker link.before link.after _ (λ events. TellsEarly (lookup_of kind look called) r.outcome.journal events) h.tells (λ events t. tells_early (lookup_of kind look called) r.outcome.journal events t.few_strays);
      drawn = h.drawn;
      refused = h.refused;
    })

-- where a lookup isn't sealed, of what it told
pub never_reached : (kind : AskKind) (look : LookWords) (called : Called) (source : Shown ℕ) (link : Shown Event) (r : Reached) → Reaches kind look called source link r → NeverInStrays kind look called link
never_reached kind look called source link r h plain = grows_weaker link.before link.after _ _ h.tells (λ events t. t.no_last_stray plain)

pub looks_reached : (kind : AskKind) (look : LookWords) (called : Called) (source : Shown ℕ) (link : Shown Event) (r : Reached) (text : List ℕ) → Reaches kind look called source link r
    → text ≡ printed r.outcome.found r.outcome.counts.asked r.outcome.counts.failed r.outcome.counts.turned → LookupText kind look called source link text
looks_reached kind look called source link r text h is =
    record {
      journal = r.outcome.journal;
      ran = h.ran;
      tells = grows_weaker link.before link.after _ _ h.tells (λ events t. t.tells);
      rounds = grows_weaker link.before link.after _ _ h.tells (λ events t. t.rounds);
      few_strays = grows_weaker link.before link.after _ _ h.tells (λ events t. t.few_strays);
      no_last_stray = never_reached kind look called source link r h;
      refused = h.refused;
      text_is = text_is (book_of kind look called.random) r.outcome text h.found h.counted.asked h.counted.failed h.counted.turned is;
    }
