-- Two texts of one simulation are equal: the network and the lookup go step by step the same way.
use Rattle.std.proofs.Common.{◌≡◌, ℕ, List, [], ◌∷◌, ◌++◌, true, map, Some, None, refl, sym, ap, subst, ◌∙◌, arith}
use Rattle.std.proofs.lemmas.List.{append_assoc, append-nil}
use Rattle.kad_base.specs.declared.types.Addr.{Addr}
use Rattle.kad_base.specs.declared.types.Contact.{Contact}
use Rattle.kad_base.specs.declared.types.Family.TheVariants.{Four}
use Rattle.kad_base.specs.declared.types.Policy.TheVariants.{Plain}
use Rattle.kad_base.specs.declared.types.Event.{Event}
use Rattle.kad_base.specs.declared.types.Event.TheVariants.{Now, Sent, Unsent, Got, Quiet}
use Rattle.fake_net.specs.Network.{Network}
use Rattle.fake_net.specs.Plays.{Plays}
use Rattle.fake_net.proofs.Course.{received_once, told_once, none_unsent}
use Rattle.contact_table.specs.TableState.{TableState}
use Rattle.claim_book.specs.declared.types.Entry.{Entry}
use Rattle.claim_book.specs.Journal.{seeds}
use Rattle.lookup_core.specs.declared.quest.AskKind.TheVariants.{FindNode}
use Rattle.lookup_run.specs.LinkCalls.{LinkCall, sends, receives, call_of}
use Rattle.lookup_run.specs.Tells.{Given, Tells}
use Rattle.lookup_run.specs.Rounds.{Rounds, sequential}
use Rattle.lookup_run.specs.Lookup.{seeds_dealt}
use Rattle.lookup_run.proofs.Once.{rounds_once}
use Rattle.lookup_run.proofs.OnceCalls.{next_call, last_call}
use Rattle.plain_commands.specs.declared.sim.Simulation.{Simulation}
use Rattle.command_base.specs.Started.{own_of, look_of, lookup_of, seen_call, StartsWith}
use Rattle.command_base.specs.Printed.{line_of}
use Rattle.plain_commands.specs.Simulated.{network_of, sim_look, sim_called, first_nodes, sim_text_of, IsSimulable, SimText}
use Rattle.command_base.proofs.Exactly.{admits_once}
use Rattle.command_base.proofs.OneTable.{new_once}
use Rattle.plain_commands.proofs.Unstrayed.{whole}

-- ---- the next event

sent_to : (to to' : Addr) (bytes bytes' : List ℕ) → ◌≡◌ {A = LinkCall} (sends to bytes) (sends to' bytes') → Sent to bytes ≡ Sent to' bytes'
sent_to to to' bytes bytes' e =
    let to_is : to ≡ to' = cc in
    let bytes_are : bytes ≡ bytes' = cc in
    ap (λ (a : Addr). Sent a bytes) to_is ∙ ap (λ (l : List ℕ). Sent to' l) bytes_are

until_same : (m n : ℕ) → ◌≡◌ {A = LinkCall} (receives m) (receives n) → Some n ≡ Some m
until_same m n e = (let same : m ≡ n = cc in ap (λ i. Some i) (sym same))

-- what a network gives to one call, behind the same events
event_once : (net : Network) (before rest others : List Event) (e f : Event) → call_of e ≡ call_of f → Plays net true (before ++ e ∷ rest) → Plays net true (before ++ f ∷ others) → e ≡ f
event_once net before rest others (Unsent to bytes) f c p q = absurd (none_unsent net before rest to bytes p)
event_once net before rest others e (Unsent to bytes) c p q = absurd (none_unsent net before others to bytes q)
event_once net before rest others (Now at) (Now at') c p q = ap (λ n. Now n) (told_once net before rest others at at' p q)
event_once net before rest others (Now at) f c p q = absurd cc
event_once net before rest others (Sent to bytes) (Sent to' bytes') c p q = sent_to to to' bytes bytes' c
event_once net before rest others (Sent to bytes) f c p q = absurd cc
event_once net before rest others (Got from bytes until at) (Got from' bytes' until' at') c p q = received_once net before rest others _ _ until p q refl (until_same until until' c)
event_once net before rest others (Got from bytes until at) (Quiet until' at') c p q = received_once net before rest others _ _ until p q refl (until_same until until' c)
event_once net before rest others (Got from bytes until at) f c p q = absurd cc
event_once net before rest others (Quiet until at) (Got from' bytes' until' at') c p q = received_once net before rest others _ _ until p q refl (until_same until until' c)
event_once net before rest others (Quiet until at) (Quiet until' at') c p q = received_once net before rest others _ _ until p q refl (until_same until until' c)
event_once net before rest others (Quiet until at) f c p q = absurd cc

-- ---- two runs

abbrev given : Simulation → Given
given s = lookup_of FindNode (sim_look s) (sim_called s)

-- what is told, of a text
tells_of : (s : Simulation) (t : List ℕ) (a : SimText s t) → Tells (given s) a.journal a.events
tells_of s t a = whole (Some []) a.events _ refl a.tells

rounds_of : (s : Simulation) (t : List ℕ) (a : SimText s t) → Rounds sequential (given s) a.journal a.events
rounds_of s t a = whole (Some []) a.events _ refl a.rounds

-- they begin with the same contacts
seeds_once : (s : Simulation) (t u : List ℕ) → IsSimulable s → (a : SimText s t) (b : SimText s u) → seeds a.journal ≡ seeds b.journal
seeds_once s t u h a b =
    let contacts = admits_once (own_of None s.seed) Four Plain (first_nodes s) a.contacts b.contacts a.admits b.admits in
    let told = subst (λ (l : List Contact). StartsWith (sim_look s) s.seed l a.table) contacts a.told in
    let table = new_once (own_of None s.seed) s.k 1 0 (map seen_call b.contacts) a.table b.table h.some_live h.few_live (omega arith) (omega arith) told b.told in
    a.seeds_are ∙ ap (λ (x : TableState). seeds_dealt (look_of FindNode (sim_look s) s.seed) x) table ∙ sym b.seeds_are

-- so many events of both are the same
same_rest : (s : Simulation) (t u : List ℕ) → IsSimulable s → (a : SimText s t) (b : SimText s u) → seeds a.journal ≡ seeds b.journal → (before r q : List Event) → a.events ≡ before ++ r → b.events ≡ before ++ q → r ≡ q
same_rest s t u h a b same before [] [] x y = refl
same_rest s t u h a b same before [] (f ∷ q) x y =
    absurd
    (last_call (given s) b.journal a.journal a.events q f (let some = h.some_path in omega (arith, some)) b.legal a.legal (sym same) (tells_of s t a) (rounds_of s t a)
    (subst (λ (l : List Event). Rounds sequential (given s) b.journal l) (y ∙ ap (λ (l : List Event). l ++ f ∷ q) (sym (x ∙ append-nil before))) (rounds_of s u b)))
same_rest s t u h a b same before (e ∷ r) [] x y =
    absurd
    (last_call (given s) a.journal b.journal b.events r e (let some = h.some_path in omega (arith, some)) a.legal b.legal same (tells_of s u b) (rounds_of s u b)
    (subst (λ (l : List Event). Rounds sequential (given s) a.journal l) (x ∙ ap (λ (l : List Event). l ++ e ∷ r) (sym (y ∙ append-nil before))) (rounds_of s t a)))
same_rest s t u h a b same before (e ∷ r) (f ∷ q) x y =
    let call = next_call (given s) a.journal b.journal before r q e f (let some = h.some_path in omega (arith, some)) a.legal b.legal same
    (subst (λ (l : List Event). Rounds sequential (given s) a.journal l) x (rounds_of s t a)) (subst (λ (l : List Event). Rounds sequential (given s) b.journal l) y (rounds_of s u b)) in
    let one = event_once (network_of s) before r q e f call (subst (λ (l : List Event). Plays (network_of s) true l) x a.plays) (subst (λ (l : List Event). Plays (network_of s) true l) y b.plays) in
    let rest = same_rest s t u h a b same (before ++ f ∷ []) r q (x ∙ ap (λ (z : Event). before ++ z ∷ r) one ∙ sym (append_assoc before (f ∷ []) r)) (y ∙ sym (append_assoc before (f ∷ []) q)) in
    ap (λ (z : Event). z ∷ r) one ∙ ap (λ (l : List Event). f ∷ l) rest

pub sim_once : (s : Simulation) (t u : List ℕ) → IsSimulable s → SimText s t → SimText s u → t ≡ u
sim_once s t u h a b =
    let same = seeds_once s t u h a b in
    let events = same_rest s t u h a b same [] a.events b.events refl refl in
    let journal = rounds_once (given s) a.journal b.journal b.events (let some = h.some_path in omega (arith, some)) a.legal b.legal same (subst (λ (l : List Event). Rounds sequential (given s) a.journal l) events (rounds_of s t a)) (rounds_of s u b) in
    a.text_is ∙ ap (λ (J : List Entry). line_of (sim_text_of s J)) journal ∙ sym b.text_is
