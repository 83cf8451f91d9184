-- From a lookup in a network to what `sim` makes.
use Rattle.std.proofs.Common.{◌≡◌, ℕ, List, [], ◌++◌, length, Bool, true, Option, Some, None, refl, sym, ap, subst, ◌∙◌, arith}
use Rattle.std.specs.Prelude.{min, map, codes, decimal, IfSome}
use Rattle.std.specs.List.{All}
use Rattle.std.proofs.lemmas.List.{append_assoc}
use Rattle.kad_base.specs.declared.types.Family.TheVariants.{Four}
use Rattle.kad_base.specs.declared.types.Id.{Id}
use Rattle.kad_base.specs.declared.types.Contact.{Contact}
use Rattle.kad_base.specs.declared.types.Report.{Report}
use Rattle.kad_base.specs.declared.types.Policy.TheVariants.{Plain}
use Rattle.kad_base.specs.declared.types.Event.{Event}
use Rattle.kad_base.specs.Contacts.{IsUsable}
use Rattle.kad_base.specs.Outside.{Grows}
use Rattle.kad_distance.specs.KClosest.{k_closest}
use Rattle.fake_net.specs.Network.{Network, numbers, target_of, honest}
use Rattle.fake_net.specs.Plays.{Plays}
use Rattle.id_puzzles.specs.Drawn.{WordsState}
use Rattle.contact_table.specs.TableState.{TableState}
use Rattle.contact_table.specs.TableStep.{contacts_of}
use Rattle.contact_table.specs.Told.{new_table}
use Rattle.claim_book.specs.Journal.{asked, failed, turned}
use Rattle.claim_book.specs.Result.{result_of}
use Rattle.claim_book.proofs.Descent.{own_answers}
use Rattle.lookup_run.specs.declared.types.LookSetting.{LookSetting}
use Rattle.lookup_core.specs.declared.quest.AskKind.TheVariants.{FindNode}
use Rattle.lookup_run.specs.declared.types.Outcome.{Outcome}
use Rattle.lookup_run.specs.Rounds.{Rounds, sequential}
use Rattle.lookup_run.specs.Lookup.{IsWithinLimits, given_of, Finished, TableTold}
use Rattle.plain_commands.specs.declared.sim.Simulation.{Simulation}
use Rattle.kad_words.specs.declared.command.LookWords.{LookWords}
use Rattle.plain_commands.specs.declared.sim.Start.{Start}
use Rattle.command_base.specs.Input.{Admits}
use Rattle.command_base.specs.Printed.{line_of}
use Rattle.command_base.specs.Started.{own_of, look_of, book_of, drawn_of, lookup_of, IsInRange, seen_call, StartsWith}
use Rattle.seal_tags.specs.Seals.{is_group_tag}
use Rattle.plain_commands.specs.Simulated.{network_of, look_to, sim_look, IsSimulable, report_of, first_nodes, Begins, count_among, sought_in, sim_text, SimText, no_key, sim_called}
use Rattle.command_base.proofs.Starting.{admits_usable, within_limits, usable_told}
use Rattle.kad_words.specs.Table.{alpha_option, k_option, nodes_option, paths_option, Values, NumberOf}
use Rattle.command_base.proofs.Ranges.{within}

pub sim_range : (s : Simulation) → IsSimulable s → IsInRange (sim_look s)
sim_range s h = record {
  some_live = h.some_live;
  few_live = h.few_live;
  some_path = h.some_path;
  few_paths = h.few_paths;
  some_query = h.some_query;
  few_queries = h.few_queries;
  some_bits = omega arith;
  few_bits = omega arith;
}

-- what it begins with
pub begins : (s : Simulation) (net : Network) (target : Id) (look : LookWords) (setting : LookSetting) (near : List Contact) (count : ℕ) (reports : List Report) (contacts xs : List Contact) (table : TableState)
    → net ≡ network_of s → target ≡ target_of net.seed → look ≡ look_to target s → setting ≡ look_of FindNode look s.seed
    → near ≡ k_closest setting.target look.k (honest net) → count ≡ min s.nodes s.k → reports ≡ map (report_of net.seed) (numbers count)
    → Admits setting.own setting.family setting.policy reports contacts → xs ≡ contacts → TableTold (map seen_call xs) (new_table setting.own look.k look.bits) table
    → Begins s (record { setting = setting; table = table; near = near })
begins s net target look setting near count reports contacts xs table e_net e_target e_look e_setting e_near e_count e_reports admits same told =
    let look_is : look ≡ sim_look s = e_look ∙ ap (λ (t : Id). look_to t s) (e_target ∙ ap (λ (n : Network). target_of n.seed) e_net) in
    let setting_is : setting ≡ look_of FindNode (sim_look s) s.seed = e_setting ∙ ap (λ (l : LookWords). look_of FindNode l s.seed) look_is in
    let reports_are : reports ≡ first_nodes s = e_reports ∙ ap (λ (n : Network). map (report_of n.seed) (numbers count)) e_net ∙ ap (λ (m : ℕ). map (report_of s.seed) (numbers m)) e_count in
    record {
      setting_is = setting_is;
      near_is =
          e_near
          ∙ ap (λ (st : LookSetting). k_closest st.target look.k (honest net)) setting_is
          ∙ ap (λ (l : LookWords). k_closest (target_of s.seed) l.k (honest net)) look_is
          ∙ ap (λ (n : Network). k_closest (target_of s.seed) s.k (honest n)) e_net;
      contacts = contacts;
      admits = subst (λ (st : LookSetting). Admits st.own st.family st.policy (first_nodes s) contacts) setting_is (subst (λ (l : List Report). Admits setting.own setting.family setting.policy l contacts) reports_are admits);
      told =
          subst (λ (l : List Contact). StartsWith (sim_look s) s.seed l table) same
          (subst (λ (st : LookSetting). TableTold (map seen_call xs) (new_table st.own s.k 1) table) setting_is
          (subst (λ (l : LookWords). TableTold (map seen_call xs) (new_table setting.own l.k l.bits) table) look_is told));
    }

pub sim_limits : (s : Simulation) (start : Start) → IsSimulable s → Begins s start → IsWithinLimits start.setting
sim_limits s start h b = subst IsWithinLimits (sym b.setting_is) (within_limits FindNode (sim_look s) s.seed (sim_range s h))

pub sim_usable : (s : Simulation) (start : Start) → Begins s start → All (IsUsable start.setting.own) (contacts_of start.table)
sim_usable s start b =
    let own = own_of None s.seed in
    subst (λ (st : LookSetting). All (IsUsable st.own) (contacts_of start.table)) (sym b.setting_is)
    (usable_told own s.k 1 0 b.contacts start.table (admits_usable own Four Plain (first_nodes s) b.contacts b.admits) b.told)

simulates_at : (s : Simulation) (left : WordsState) (contacts : List Contact) (table : TableState) (near : List Contact) (o : Outcome) (events : List Event) (text : List ℕ)
    → Admits (own_of None s.seed) Four Plain (first_nodes s) contacts → StartsWith (sim_look s) s.seed contacts table → near ≡ sought_in s → Plays (network_of s) true events
    → Finished (look_of FindNode (sim_look s) s.seed) (sim_called s).accepts table (drawn_of s.seed) left (Some []) (Some events) o
    → Grows (Some []) (Some events) (λ events. Rounds sequential (lookup_of FindNode (sim_look s) (sim_called s)) o.journal events)
    → text ≡ line_of (sim_text (length o.found) o.counts.asked o.counts.failed o.counts.turned (count_among near o.found)) → SimText s text
simulates_at s left contacts table near o events text admits told near_is plays up rounds is =
    let R = result_of (book_of FindNode (sim_look s) s.seed) o.journal in
    record {
      contacts = contacts;
      admits = admits;
      table = table;
      told = told;
      events = events;
      plays = plays;
      journal = o.journal;
      legal = up.legal;
      seeds_are = up.seeds_are;
      tells = up.tells;
      rounds = rounds;
      run_out = up.run_out;
      own_answers = own_answers (book_of FindNode (sim_look s) s.seed) o.journal up.legal;
      text_is =
          is
          ∙ ap (λ (l : List Contact). line_of (sim_text (length l) o.counts.asked o.counts.failed o.counts.turned (count_among near l))) up.found
          ∙ ap (λ (n : ℕ). line_of (sim_text (length R) n o.counts.failed o.counts.turned (count_among near R))) up.counted.asked
          ∙ ap (λ (n : ℕ). line_of (sim_text (length R) (length (asked o.journal)) n o.counts.turned (count_among near R))) up.counted.failed
          ∙ ap (λ (n : ℕ). line_of (sim_text (length R) (length (asked o.journal)) (length (failed o.journal)) n (count_among near R))) up.counted.turned
          ∙ ap (λ (l : List Contact). line_of (sim_text (length R) (length (asked o.journal)) (length (failed o.journal)) (length (turned o.journal)) (count_among l R))) near_is;
    }

-- the same over the values that the code has
pub simulates : (s : Simulation) (start : Start) (key : List ℕ) (words left : WordsState) (o : Outcome) (net : Network) (wide : Bool) (before after : Option (List Event)) (text : List ℕ)
    → Begins s start → key ≡ no_key → words ≡ drawn_of s.seed → net ≡ network_of s → wide ≡ true → before ≡ Some [] → (after ≡ None → ⊥) → IfSome after (Plays net wide)
    → Finished start.setting (is_group_tag key) start.table words left before after o → Grows before after (λ events. Rounds sequential (given_of start.setting (is_group_tag key) words) o.journal events)
    → text ≡ line_of (sim_text (length o.found) o.counts.asked o.counts.failed o.counts.turned (count_among start.near o.found)) → SimText s text
simulates s start key words left o net wide before None text begun sealed f net_is wide_is began goes_on plays up rounds is = absurd (goes_on refl)
simulates s start key words left o net wide before (Some events) text begun sealed f net_is wide_is began goes_on plays up rounds is =
    simulates_at s left begun.contacts start.table start.near o events text begun.admits begun.told begun.near_is (subst (λ (b : Bool). Plays (network_of s) b events) wide_is (subst (λ (n : Network). Plays n wide events) net_is plays))
    (subst (λ (st : LookSetting). Finished st (is_group_tag no_key) start.table (drawn_of s.seed) left (Some []) (Some events) o) begun.setting_is
    (subst (λ (w : WordsState). Finished start.setting (is_group_tag no_key) start.table w left (Some []) (Some events) o) f
    (subst (λ (b : Option (List Event)). Finished start.setting (is_group_tag no_key) start.table words left b (Some events) o) began
    (subst (λ (k : List ℕ). Finished start.setting (is_group_tag k) start.table words left before (Some events) o) sealed up))))
    (subst (λ (st : LookSetting). Grows (Some []) (Some events) (λ events. Rounds sequential (given_of st (is_group_tag no_key) (drawn_of s.seed)) o.journal events)) begun.setting_is
    (subst (λ (w : WordsState). Grows (Some []) (Some events) (λ events. Rounds sequential (given_of start.setting (is_group_tag no_key) w) o.journal events)) f
    (subst (λ (b : Option (List Event)). Grows b (Some events) (λ events. Rounds sequential (given_of start.setting (is_group_tag no_key) words) o.journal events)) began
    (subst (λ (k : List ℕ). Grows before (Some events) (λ events. Rounds sequential (given_of start.setting (is_group_tag k) words) o.journal events)) sealed rounds))))
    is

pub sim_pieces : (found asked failed turned honest : ℕ)
    → codes "found " ++ (decimal found ++ (codes " asked " ++ (decimal asked ++ (codes " failed " ++ (decimal failed ++ (codes " turned " ++ (decimal turned ++ (codes " honest " ++ decimal honest)))))))) ≡ sim_text found asked failed turned honest
sim_pieces found asked failed turned honest = sym (simp append_assoc refl)

pub simulable : (value : Values) (s : Simulation) → NumberOf nodes_option value s.nodes → NumberOf k_option value s.k → NumberOf paths_option value s.paths → NumberOf alpha_option value s.alpha → IsSimulable s
simulable value s nodes k paths alpha =
    let some_nodes = within 1 20000 2000 (omega arith) (omega arith) _ s.nodes nodes in
    let live = within 1 20 8 (omega arith) (omega arith) _ s.k k in
    let path = within 1 8 4 (omega arith) (omega arith) _ s.paths paths in
    let query = within 1 4 3 (omega arith) (omega arith) _ s.alpha alpha in
    record {
      few_nodes = some_nodes.below;
      some_live = live.above;
      few_live = live.below;
      some_path = path.above;
      few_paths = path.below;
      some_query = query.above;
      few_queries = query.below;
    }
