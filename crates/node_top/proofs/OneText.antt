-- A command that takes no link has one text, and one that goes by a link's events has one by these.
use Rattle.std.proofs.Common.{◌≡◌, ℕ, List, IsTrue, refl, ap, subst}
use Rattle.kad_base.specs.declared.types.Event.{Event}
use Rattle.kad_words.specs.Table.{Word}
use Rattle.kad_words.specs.Plain.{CommandOf}
use Rattle.kad_words.specs.declared.command.Command.{Command}
use Rattle.kad_words.specs.declared.command.Command.TheVariants.{Lookup, Peers, Get, Put, Serve, Table, Refresh, Check, Mint, Sim}
use Rattle.kad_words.proofs.OneCommand.{command_once}
use Rattle.node_top.specs.Asked.{AsksPlain}
use Rattle.command_base.specs.Called.{Called}
use Rattle.node_top.specs.Commands.{promise_of, HasText, ReadsInput}
use Rattle.plain_commands.specs.Minted.{seed_of}
use Rattle.table_commands.specs.Tabled.{TableText}
use Rattle.node_top.specs.MadeFrom.{NamesSeed, GoesByEvents}
use Rattle.command_base.specs.Shown.{SameInput, SameEvents, Shown}
use Rattle.node_top.proofs.Asking.{takes_by}
use Rattle.node_top.proofs.Lawfully.{ranged}
use Rattle.plain_commands.proofs.OneText.{check_once, mint_once, seed_once, simulated_once}
use Rattle.table_commands.proofs.OneText.{table_text_once, refresh_once}
use Rattle.serve_commands.proofs.OneText.{serve_once}
use Rattle.lookup_commands.proofs.OneText.{lookup_once, peers_once, get_once, put_once}
use Rattle.lookup_core.specs.declared.quest.AskKind.TheVariants.{FindNode}

-- ---- of a command

of_command : (c : Command) (called other : Called) (source again : Shown ℕ) (link beside : Shown Event) (t u : List ℕ) → (promise_of c).ranges → ¬ IsTrue (promise_of c).links → called.random ≡ other.random → (IsTrue (promise_of c).reads → SameInput source again)
    → (promise_of c).text called source link t → (promise_of c).text other again beside u → t ≡ u
of_command (Table words) called other source again link beside t u ranges none_ random same h j =
    table_text_once words other.random source again t u ranges (same refl) (subst (λ (r : List ℕ). TableText words r source t) random h) j
of_command (Check policy) called other source again link beside t u ranges none_ random same h j = check_once policy source again t u (same refl) h j
of_command (Mint words) called other source again link beside t u ranges none_ random same h j = mint_once words called.random other.random t u (ap (seed_of words.seed) random) h.0 j.0
of_command (Sim words) called other source again link beside t u ranges none_ random same h j =
    simulated_once words called.random other.random t u (ap (seed_of words.seed) random) (ranges other.random) h.0 j.0
of_command other_command called other source again link beside t u ranges none_ random same h j = absurd (none_ refl)

of_seed : (c : Command) (called other : Called) (source again : Shown ℕ) (link beside : Shown Event) (t u : List ℕ) → (promise_of c).ranges → NamesSeed c
    → (promise_of c).text called source link t → (promise_of c).text other again beside u → t ≡ u
of_seed (Mint words) called other source again link beside t u ranges named h j = mint_once words called.random other.random t u (seed_once words.seed called.random other.random named) h.0 j.0
of_seed (Sim words) called other source again link beside t u ranges named h j =
    simulated_once words called.random other.random t u (seed_once words.seed called.random other.random named) (ranges other.random) h.0 j.0
of_seed other_command called other source again link beside t u ranges named h j = absurd named

of_events : (c : Command) (called : Called) (source again : Shown ℕ) (link beside : Shown Event) (t u : List ℕ) → (promise_of c).ranges → GoesByEvents called.slow c → SameInput source again → SameEvents link beside
    → (promise_of c).text called source link t → (promise_of c).text called again beside u → t ≡ u
of_events (Lookup look) called source again link beside t u ranges goes same events_same h j = lookup_once FindNode look called source again link beside t u ranges goes same events_same h j
of_events (Peers look announce spread) called source again link beside t u ranges goes same events_same h j = peers_once look announce spread called source again link beside t u ranges goes same events_same h j
of_events (Get look) called source again link beside t u ranges goes same events_same h j = get_once look called source again link beside t u ranges goes same events_same h j
of_events (Put look item spread) called source again link beside t u ranges goes same events_same h j = put_once look item spread called source again link beside t u ranges goes same events_same h.1 j.1
of_events (Serve words) called source again link beside t u ranges goes same events_same h j =
    serve_once words called source again link beside t u ranges goes same events_same h j
of_events (Refresh words) called source again link beside t u ranges goes same events_same h j =
    refresh_once words called source again link beside t u same events_same h j
of_events other called source again link beside t u ranges goes same events_same h j = absurd goes

-- ---- the laws

pub plain_once : (words : List Word) (called other : Called) (source again : Shown ℕ) (link beside : Shown Event) (a b : List ℕ) → AsksPlain words → called.random ≡ other.random → (ReadsInput words → SameInput source again)
    → HasText words called source link a → HasText words other again beside b → a ≡ b
plain_once words called other source again link beside a b plain random input h k =
    let same = command_once words h.command k.command h.asked k.asked in
    of_command k.command called other source again link beside a b (ranged words k.command k.asked) (λ links. plain.no_link (takes_by words k.command k.asked links))
    random (λ reads. input (record { command = k.command; asked = k.asked; holds = reads })) (subst (λ (c : Command). (promise_of c).text called source link a) same h.holds) k.holds

pub seeded_once : (words : List Word) (command : Command) (called other : Called) (source again : Shown ℕ) (link beside : Shown Event) (a b : List ℕ) → CommandOf words command → NamesSeed command
    → HasText words called source link a → HasText words other again beside b → a ≡ b
seeded_once words command called other source again link beside a b asked named h k =
    let one = command_once words h.command command h.asked asked in
    let two = command_once words k.command command k.asked asked in
    of_seed command called other source again link beside a b (ranged words command asked) named (subst (λ (c : Command). (promise_of c).text called source link a) one h.holds) (subst (λ (c : Command). (promise_of c).text other again beside b) two k.holds)

pub told_once : (words : List Word) (command : Command) (called : Called) (source again : Shown ℕ) (link beside : Shown Event) (a b : List ℕ) → CommandOf words command → GoesByEvents called.slow command
    → SameInput source again → SameEvents link beside → HasText words called source link a → HasText words called again beside b → a ≡ b
told_once words command called source again link beside a b asked goes same events_same h k =
    let one = command_once words h.command command h.asked asked in
    let two = command_once words k.command command k.asked asked in
    of_events command called source again link beside a b (ranged words command asked) goes same events_same (subst (λ (c : Command). (promise_of c).text called source link a) one h.holds) (subst (λ (c : Command). (promise_of c).text called again beside b) two k.holds)
