-- What is known once the three turns of several lookups are closed.
use Rattle.std.proofs.Common.{◌≡◌, ℕ, suc, zero, ◌+◌, ◌<◌, ◌==◌, cond, true, false, List, [], ◌∷◌, ◌++◌, map, length, get_or, eqb, refl, sym, ap, subst, ◌∙◌, arith, All}
use Rattle.std.specs.Prelude.{reverse}
use Rattle.std.specs.List.{flat_map}
use Rattle.std.proofs.lemmas.Grind.{flat_map-append}
use Rattle.std.proofs.lemmas.Bool.{eqb-true}
use Rattle.std.proofs.lemmas.List.Elements.{All-nil, All-cons, All-head, All-tail, All-same, All-append, All-weaker, filter-append, filter_passes}
use Rattle.look_many.specs.declared.job.Job.{Job}
use Rattle.kad_base.specs.declared.serial.Made.{Made}
use Rattle.kad_base.specs.Serial.{made, calls_of, left_by, IsRun}
use Rattle.turn_book.specs.Turns.{TurnState, PassState, Closed, mine}
use Rattle.turn_book.proofs.Ended.{all_in_row, each_in_row, mine_few, all_run}
use Rattle.contact_table.specs.TableState.{TableState}
use Rattle.contact_table.specs.TableStep.{TableMay, TableStep, table_after}
use Rattle.contact_table.specs.declared.calls.TableCall.{TableCall}
use Rattle.contact_table.specs.Told.{HasMemory}
use Rattle.contact_table.specs.declared.calls.TableCall.TheVariants.{Closest, Failed, Seen as Seen_call, Vouched, Vouchers}
use Rattle.contact_table.specs.declared.calls.TableReply.{TableReply}
use Rattle.contact_table.specs.declared.calls.TableReply.TheVariants.{List as Listed, Reports, Gone as Gone_reply, Seen as Seen_reply, Crowded as Host_crowded, NoMemory}
use Rattle.peer_store.specs.PeersStep.{PeersMay, PeersStep, peers_after}
use Rattle.peer_store.specs.declared.calls.PeerCall.{PeerCall}
use Rattle.peer_store.specs.declared.calls.PeerReply.{PeerReply}
use Rattle.item_store.specs.ItemSteps.{ItemMay, ItemStep, item_after}
use Rattle.item_store.specs.declared.calls.ItemCall.{ItemCall}
use Rattle.item_store.specs.declared.calls.ItemReply.{ItemReply}
use Rattle.node_serve.specs.Calls.{Did, HasRoom, HasItemRoom}
use Rattle.node_serve.specs.declared.setting.ServeSetting.{ServeSetting}
use Rattle.serve_crew.specs.Opening.{AreClosed, Opens}
use Rattle.serve_crew.specs.declared.turns.Turns.{Turns}
use Rattle.serve_crew.specs.declared.turns.Rows.{Rows}
use Rattle.serve_crew.specs.Hands.{Hands, TablePass, at_table, at_peers, at_items}
use Rattle.serve_crew.specs.Runs.{Ran, HadAllMemory, AreCalls}
use Rattle.lookup_crowd.specs.declared.seeker.Seeker.{Seeker}
use Rattle.look_many.specs.Job.{target_of}
use Rattle.look_many.specs.ManyLooked.{seeds_for, seeks, AreOfDriver}
use Rattle.look_many.specs.inner.Seats.{RolesFrom, AreBack}

-- ---- the calls for the seeds, before the turn is opened

seek_made : ServeSetting → TableState → Job → Made TableCall TableReply
seek_made server table job = made 0 (Closest (target_of job) server.k) (Listed (seeds_for server table job))

pub sought : ServeSetting → TableState → List Job → List (Made TableCall TableReply)
sought server table jobs = map (seek_made server table) jobs

-- they leave the table as it was
sought_run : (server : ServeSetting) (table : TableState) (jobs : List Job) (run : List (Made TableCall TableReply)) → IsRun TableMay TableStep table_after table run → IsRun TableMay TableStep table_after table (sought server table jobs ++ run)
unfolding sought seek_made
sought_run server table [] run h = h
sought_run server table (t ∷ ts) run h = (tt, refl, sought_run server table ts run h)

sought_leaves : (server : ServeSetting) (table : TableState) (jobs : List Job) (run : List (Made TableCall TableReply)) → left_by table_after table (sought server table jobs ++ run) ≡ left_by table_after table run
unfolding sought seek_made
sought_leaves server table [] run = refl
sought_leaves server table (t ∷ ts) run = sought_leaves server table ts run

sought_all : (P : Made TableCall TableReply → Type 0) (server : ServeSetting) (table : TableState) (jobs : List Job) → ((t : Job) → P (seek_made server table t)) → All P (sought server table jobs)
unfolding sought
sought_all P server table [] h = All-nil P
sought_all P server table (t ∷ ts) h = All-cons P (seek_made server table t) (sought server table ts) (h t) (sought_all P server table ts h)

-- all are the driver's
sought_driver : (server : ServeSetting) (table : TableState) (jobs : List Job) → calls_of 0 (sought server table jobs) ≡ flat_map (at_table 0) (map (seeks server table) jobs)
unfolding sought seek_made
sought_driver server table [] = refl
sought_driver server table (t ∷ ts) = ap (λ l. made 0 (Closest (target_of t) server.k) (Listed (seeds_for server table t)) ∷ l) (sought_driver server table ts)

zero_other : (r : ℕ) → (0 == suc r) ≡ false
zero_other r = elim (0 == suc r) as (λ b. (0 == suc r) ≡ b → (0 == suc r) ≡ false) [
  | true ↦ λ e. absurd (let is : 0 ≡ suc r = eqb-true 0 (suc r) e in omega (arith, is))
  | false ↦ λ e. e
] refl

sought_other : (server : ServeSetting) (table : TableState) (jobs : List Job) (r : ℕ) → calls_of (suc r) (sought server table jobs) ≡ []
unfolding sought seek_made
sought_other server table [] r = refl
sought_other server table (t ∷ ts) r = ap (λ b. cond b (seek_made server table t ∷ calls_of (suc r) (sought server table ts)) (calls_of (suc r) (sought server table ts))) (zero_other r) ∙ sought_other server table ts r

-- ---- three turns

-- the call tells who failed
abbrev pub IsFailed : TableCall → Type 0
IsFailed (Failed c) = Unit {0}
IsFailed other = ⊥

-- a call for which there was memory, or one that tells who failed
abbrev pub Remembers : Made TableCall TableReply → Type 0
Remembers m = (IsFailed m.call → HasMemory m.reply) → HasMemory m.reply

-- a lookup's role
role_at : (r : ℕ) (ks : List Seeker) → RolesFrom r ks → (i : ℕ) (d : Seeker) → i < length ks → (get_or ks i d).pass.role ≡ r + i
role_at r [] h i d lt = absurd (omega (arith, lt))
role_at r (k ∷ ks) h zero d lt = h.0 ∙ omega arith
role_at r (k ∷ ks) h (suc i) d lt = role_at (suc r) ks h.1 i d (omega (arith, lt)) ∙ omega arith

module _ {S C R : Type 0} (may : ℕ → C → Type 0) (step : S → ℕ → C → R → Type 0) (after : S → ℕ → C → R → S) (turn : TurnState S) (row : List (PassState C R)) (pass : PassState C R) (state : S) (calls : ℕ) (closed : Closed may step after turn row state calls) (is : row ≡ pass ∷ []) where
  -- a turn that one pass alone called
  all_of_one : (P : Made C R → Type 0) → All P (mine pass) → All P closed.run
  all_of_one P one = all_run may step after turn row state calls closed P (All-same (λ (x : PassState C R). All P (mine x)) row (pass ∷ []) is (All-cons (λ (x : PassState C R). All P (mine x)) pass [] one (All-nil (λ (x : PassState C R). All P (mine x)))))

  one_row : (n : ℕ) → pass.role < n → All (λ (m : Made C R). m.role < n) closed.run
  one_row n few = all_of_one (λ (m : Made C R). m.role < n) (mine_few n pass few)

  -- so all of its calls are of that role
  role_of_one : All (λ (m : Made C R). m.role ≡ pass.role) closed.run
  role_of_one = all_of_one (λ (m : Made C R). m.role ≡ pass.role)
      (All-weaker (λ (m : Made C R). eqb m.role pass.role ≡ true) (λ (m : Made C R). m.role ≡ pass.role) (λ m is. eqb-true m.role pass.role is) (mine pass) (filter_passes (λ (m : Made C R). eqb m.role pass.role) pass.seen))

  calls_of_one : calls_of pass.role closed.run ≡ mine pass
  calls_of_one = All-head (λ (x : PassState C R). calls_of x.role closed.run ≡ mine x) pass [] (subst (All (λ (x : PassState C R). calls_of x.role closed.run ≡ mine x)) is closed.in_order)

module _ (server : ServeSetting) (jobs : List Job) (turns : Turns) (rows : Rows) (before after : TableState) (opened : Opens before turns) (closed : AreClosed turns rows after) (host : Hands) (seekers : List Seeker) (back : AreBack rows host seekers) (count : length seekers ≡ length jobs) where
  -- what holds of each pass's own calls holds of all calls on the table
  all_tables : (P : Made TableCall TableReply → Type 0) → All P (mine host.table) → All (λ (k : Seeker). All P (mine k.pass)) seekers → All P closed.table.run
  all_tables P one each =
      all_run TableMay TableStep table_after turns.table rows.table.passes after closed.table_calls closed.table P
      (All-same (λ (x : TablePass). All P (mine x)) rows.table.passes (host.table ∷ map (λ (k : Seeker). k.pass) (reverse seekers)) back.table
      (All-cons (λ (x : TablePass). All P (mine x)) host.table (map (λ (k : Seeker). k.pass) (reverse seekers)) one
      (all_in_row (λ (k : Seeker). k.pass) seekers (λ (x : TablePass). All P (mine x)) each)))

  pub ended_ran : Ran (suc (length jobs)) before after
  unfolding seek_made
  ended_ran = record {
    tables = sought server before jobs ++ closed.table.run;
    tables_legal = sought_run server before jobs closed.table.run (subst (λ b. IsRun TableMay TableStep table_after b closed.table.run) opened.table closed.table.legal);
    tables_roles = All-append (λ (m : Made TableCall TableReply). m.role < suc (length jobs)) (sought server before jobs) closed.table.run
        (sought_all (λ (m : Made TableCall TableReply). m.role < suc (length jobs)) server before jobs (λ x. omega arith))
        (all_tables (λ (m : Made TableCall TableReply). m.role < suc (length jobs)) (mine_few (suc (length jobs)) host.table (let d = back.driver in omega (arith, d)))
        (λ k d lt. mine_few (suc (length jobs)) (get_or seekers k d).pass (let role = role_at 1 seekers back.roles k d lt in omega (arith, role, lt, count))));
    leaves = closed.table.left ∙ ap (λ b. left_by table_after b closed.table.run) opened.table ∙ sym (sought_leaves server before jobs closed.table.run);
    stores = closed.peers.run;
    stores_legal = subst (λ b. IsRun PeersMay PeersStep peers_after b closed.peers.run) opened.peers closed.peers.legal;
    stores_roles = one_row PeersMay PeersStep peers_after turns.peers rows.peers.passes host.peers closed.held closed.peers_calls closed.peers back.peers (suc (length jobs)) (let d = back.driver_peers in omega (arith, d));
    shelves = closed.items.run;
    shelves_legal = subst (λ b. IsRun ItemMay ItemStep item_after b closed.items.run) opened.items closed.items.legal;
    shelves_roles = one_row ItemMay ItemStep item_after turns.items rows.items.passes host.items closed.shelf closed.items_calls closed.items back.items (suc (length jobs)) (let d = back.driver_items in omega (arith, d));
  }

  pub ended_of_driver : AreOfDriver (suc (length jobs)) before after ended_ran
  unfolding ended_ran
  ended_of_driver = record {
    stores = subst (λ n. All (λ (m : Made PeerCall PeerReply). m.role ≡ n) closed.peers.run) back.driver_peers (role_of_one PeersMay PeersStep peers_after turns.peers rows.peers.passes host.peers closed.held closed.peers_calls closed.peers back.peers);
    shelves = subst (λ n. All (λ (m : Made ItemCall ItemReply). m.role ≡ n) closed.items.run) back.driver_items (role_of_one ItemMay ItemStep item_after turns.items rows.items.passes host.items closed.shelf closed.items_calls closed.items back.items);
  }

  -- the driver's calls
  pub driver_calls_are : (did : List Did) → mine host.table ≡ flat_map (at_table 0) did → mine host.peers ≡ flat_map (at_peers 0) did → mine host.items ≡ flat_map (at_items 0) did → AreCalls (suc (length jobs)) before after ended_ran 0 (map (seeks server before) jobs ++ did)
  unfolding ended_ran
  driver_calls_are did at_t at_p at_i = record {
    tables = filter-append (λ (m : Made TableCall TableReply). m.role == 0) (sought server before jobs) closed.table.run
        ∙ ap (λ l. l ++ calls_of 0 closed.table.run) (sought_driver server before jobs)
        ∙ ap (λ l. flat_map (at_table 0) (map (seeks server before) jobs) ++ l) (driver_at ∙ at_t)
        ∙ sym (flat_map-append (at_table 0) (map (seeks server before) jobs) did);
    stores = ap (λ n. calls_of n closed.peers.run) (sym back.driver_peers) ∙ calls_of_one PeersMay PeersStep peers_after turns.peers rows.peers.passes host.peers closed.held closed.peers_calls closed.peers back.peers ∙ at_p
        ∙ sym (flat_map-append (at_peers 0) (map (seeks server before) jobs) did ∙ ap (λ l. l ++ flat_map (at_peers 0) did) (no_peers_sought jobs));
    shelves = ap (λ n. calls_of n closed.items.run) (sym back.driver_items) ∙ calls_of_one ItemMay ItemStep item_after turns.items rows.items.passes host.items closed.shelf closed.items_calls closed.items back.items ∙ at_i
        ∙ sym (flat_map-append (at_items 0) (map (seeks server before) jobs) did ∙ ap (λ l. l ++ flat_map (at_items 0) did) (no_items_sought jobs));
  }
    where
      driver_at : calls_of 0 closed.table.run ≡ mine host.table
      driver_at = ap (λ n. calls_of n closed.table.run) (sym back.driver)
          ∙ All-head (λ (x : TablePass). calls_of x.role closed.table.run ≡ mine x) host.table (map (λ (k : Seeker). k.pass) (reverse seekers)) (subst (All (λ (x : TablePass). calls_of x.role closed.table.run ≡ mine x)) back.table closed.table.in_order)

      no_peers_sought : (ts : List Job) → flat_map (at_peers 0) (map (seeks server before) ts) ≡ []
      no_peers_sought [] = refl
      no_peers_sought (x ∷ ts) = no_peers_sought ts

      no_items_sought : (ts : List Job) → flat_map (at_items 0) (map (seeks server before) ts) ≡ []
      no_items_sought [] = refl
      no_items_sought (x ∷ ts) = no_items_sought ts

  -- those of a lookup
  pub lookup_calls : (k : ℕ) (d : Seeker) → k < length jobs → calls_of (suc k) (ended_ran).tables ≡ mine (get_or seekers k d).pass
  unfolding ended_ran
  lookup_calls k d lt =
      let there : k < length seekers = omega (arith, lt, count) in
      filter-append (λ (m : Made TableCall TableReply). m.role == suc k) (sought server before jobs) closed.table.run
      ∙ ap (λ l. l ++ calls_of (suc k) closed.table.run) (sought_other server before jobs k)
      ∙ ap (λ n. calls_of n closed.table.run) (sym (role_at 1 seekers back.roles k d there ∙ omega arith))
      ∙ each_in_row (λ (x : Seeker). x.pass) seekers (λ (x : TablePass). calls_of x.role closed.table.run ≡ mine x)
      (All-tail (λ (x : TablePass). calls_of x.role closed.table.run ≡ mine x) host.table (map (λ (x : Seeker). x.pass) (reverse seekers)) (subst (All (λ (x : TablePass). calls_of x.role closed.table.run ≡ mine x)) back.table closed.table.in_order)) k d there

  -- ---- memory

  -- the table has memory for whoever failed
  failed_has : (s : TableState) (run : List (Made TableCall TableReply)) → IsRun TableMay TableStep table_after s run → All (λ (m : Made TableCall TableReply). IsFailed m.call → HasMemory m.reply) run
  failed_has s [] h = All-nil (λ (m : Made TableCall TableReply). IsFailed m.call → HasMemory m.reply)
  failed_has s (m ∷ run) h = All-cons (λ (x : Made TableCall TableReply). IsFailed x.call → HasMemory x.reply) m run (one m.call m.reply h.1) (failed_has (table_after s m.role m.call m.reply) run h.2)
    where
      one : (c : TableCall) (y : TableReply) → TableStep s m.role c y → IsFailed c → HasMemory y
      one (Seen_call x) y step fails = absurd fails
      one (Vouched x proof) y step fails = absurd fails
      one (Closest target n) y step fails = absurd fails
      one (Vouchers target n) y step fails = absurd fails
      one (Failed x) (Gone_reply gone) step is = tt
      one (Failed x) (Seen_reply seen) step is = absurd step
      one (Failed x) (Listed list) step is = absurd step
      one (Failed x) (Reports reports) step is = absurd step
      one (Failed x) Host_crowded step is = absurd step
      one (Failed x) NoMemory step is = absurd step

  pub ended_memory : All Remembers (mine host.table) → All (λ (k : Seeker). All (λ (m : Made TableCall TableReply). HasMemory m.reply) (mine k.pass)) seekers
      → All (λ (m : Made PeerCall PeerReply). HasRoom m.reply) (mine host.peers) → All (λ (m : Made ItemCall ItemReply). HasItemRoom m.reply) (mine host.items)
      → HadAllMemory (suc (length jobs)) before after ended_ran
  unfolding ended_ran seek_made
  ended_memory one each at_p at_i = record {
    tables = All-append (λ (m : Made TableCall TableReply). HasMemory m.reply) (sought server before jobs) closed.table.run
        (sought_all (λ (m : Made TableCall TableReply). HasMemory m.reply) server before jobs (λ x. tt))
        (λ k d lt. all_tables Remembers one (λ j e there. All-weaker (λ (m : Made TableCall TableReply). HasMemory m.reply) Remembers (λ m h f. h) (mine (get_or seekers j e).pass) (each j e there)) k d lt (failed_has turns.table.start closed.table.run closed.table.legal k d lt));
    stores = all_of_one PeersMay PeersStep peers_after turns.peers rows.peers.passes host.peers closed.held closed.peers_calls closed.peers back.peers (λ (m : Made PeerCall PeerReply). HasRoom m.reply) at_p;
    shelves = all_of_one ItemMay ItemStep item_after turns.items rows.items.passes host.items closed.shelf closed.items_calls closed.items back.items (λ (m : Made ItemCall ItemReply). HasItemRoom m.reply) at_i;
  }
