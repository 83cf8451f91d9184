-- What `sim` makes: the line of a lookup in a network that follows from a seed, which begins with the network's first
-- nodes. The network and the line are this project's own.
use Rattle.std.specs.Prelude.{◌≡◌, ℕ, ◌<◌, ◌≤◌, List, [], ◌++◌, min, map, filter, length, codes, decimal, replicate, false, true, Some, None}
use Rattle.kad_base.specs.declared.types.Family.TheVariants.{Four}
use Rattle.kad_base.specs.declared.types.Id.{Id}
use Rattle.kad_base.specs.declared.types.Contact.{Contact}
use Rattle.kad_base.specs.declared.types.Report.{Report}
use Rattle.kad_base.specs.declared.types.Policy.TheVariants.{Plain}
use Rattle.kad_base.specs.declared.types.Event.{Event}
use Rattle.kad_base.specs.Contacts.{among}
use Rattle.kad_base.specs.Limits.{max_k, max_paths, max_alpha}
use Rattle.kad_base.specs.Outside.{Grows}
use Rattle.kad_distance.specs.KClosest.{k_closest}
use Rattle.fake_net.specs.Network.{Network, numbers, node, target_of, honest}
use Rattle.fake_net.specs.Plays.{Plays}
use Rattle.contact_table.specs.TableState.{TableState}
use Rattle.claim_book.specs.declared.types.Entry.{Entry}
use Rattle.claim_book.specs.Journal.{seeds, asked, failed, turned}
use Rattle.claim_book.specs.Legal.{Legal}
use Rattle.claim_book.specs.RunOut.{RunOut}
use Rattle.claim_book.specs.Lineage.{GoesByOwnAnswers}
use Rattle.claim_book.specs.Result.{result_of}
use Rattle.lookup_core.specs.declared.quest.AskKind.TheVariants.{FindNode}
use Rattle.lookup_run.specs.Tells.{Tells}
use Rattle.lookup_run.specs.Rounds.{Rounds, sequential}
use Rattle.lookup_run.specs.Lookup.{seeds_dealt}
use Rattle.kad_words.specs.Table.{plain_look}
use Rattle.kad_words.specs.declared.command.LookWords.{LookWords}
use Rattle.kad_words.specs.declared.command.SimWords.{SimWords}
use Rattle.plain_commands.specs.Minted.{seed_of}
use Rattle.plain_commands.specs.declared.sim.Simulation.{Simulation}
use Rattle.plain_commands.specs.declared.sim.Start.{Start}
use Rattle.seal_tags.specs.Seals.{group_tag, is_group_tag}
use Rattle.command_base.specs.Called.{Called, called_with}
use Rattle.command_base.specs.Input.{Admits}
use Rattle.command_base.specs.Printed.{line_of, counts_text}
use Rattle.command_base.specs.Promise.{Promise, unread}
use Rattle.command_base.specs.Started.{own_of, look_of, book_of, lookup_of, StartsWith}

-- the simulation of the words, by the seed that they name or random bytes are
abbrev pub simulation_by : SimWords → List ℕ → Simulation
simulation_by words seed = record {
  seed = seed;
  nodes = words.nodes;
  hostile = words.hostile;
  k = words.k;
  paths = words.paths;
  alpha = words.alpha;
  timeout = words.timeout;
  claim = words.claim;
}

abbrev pub simulation_of : SimWords → List ℕ → Simulation
simulation_of words random = simulation_by words (seed_of words.seed random)

-- the network of a simulation
abbrev pub network_of : Simulation → Network
network_of s = record { seed = s.seed; count = s.nodes; hostile = s.hostile }

-- the options of its lookup: the target and the node's own identifier are drawn from the seed, buckets split by one bit,
-- and every report passes
abbrev pub look_to : Id → Simulation → LookWords
look_to target s = plain_look target s.k s.paths s.alpha s.timeout s.claim

abbrev pub sim_look : Simulation → LookWords
sim_look s = look_to (target_of s.seed) s

-- the key of the seal that it is called with, and never asks
abbrev pub no_key : List ℕ
no_key = replicate 32 0

abbrev pub sim_called : Simulation → Called
sim_called s = called_with s.seed false (is_group_tag no_key) (group_tag no_key)

-- the values of the words are within the limits
pub record IsSimulable (s : Simulation) : Type 0 where
  pub few_nodes : s.nodes ≤ 20000
  pub some_live : 1 ≤ s.k
  pub few_live : s.k ≤ max_k
  pub some_path : 1 ≤ s.paths
  pub few_paths : s.paths ≤ max_paths
  pub some_query : 1 ≤ s.alpha
  pub few_queries : s.alpha ≤ max_alpha

-- a node as an answer would name it
abbrev pub report_of : List ℕ → ℕ → Report
report_of seed i = record { contact = node seed i; proof = None }

-- the first k nodes, or all if there are fewer
abbrev pub first_nodes : Simulation → List Report
first_nodes s = map (report_of s.seed) (numbers (min s.nodes s.k))

-- how many of the contacts are among these
abbrev pub count_among : List Contact → List Contact → ℕ
count_among near found = length (filter (λ c. among near c) found)

-- the nodes that a lookup is to find: the k closest to the target of all that aren't hostile
abbrev pub sought_in : Simulation → List Contact
sought_in s = k_closest (target_of s.seed) s.k (honest (network_of s))

-- the line: the counts of a lookup, and how many of the contacts found are among those
abbrev pub sim_text : ℕ → ℕ → ℕ → ℕ → ℕ → List ℕ
sim_text found asked failed turned honest_ones = counts_text found asked failed turned ++ codes " honest " ++ decimal honest_ones

-- the line of a journal
abbrev pub sim_text_of : Simulation → List Entry → List ℕ
sim_text_of s J =
    let found = result_of (book_of FindNode (sim_look s) s.seed) J in
    sim_text (length found) (length (asked J)) (length (failed J)) (length (turned J)) (count_among (sought_in s) found)

-- what the lookup begins with: its setting, what it is to find, and the table that was told of the first nodes, in order,
-- but for one with the identifier of the node that looks up
pub record Begins (s : Simulation) (start : Start) : Type 0 where
  pub setting_is : start.setting ≡ look_of FindNode (sim_look s) s.seed
  pub near_is : start.near ≡ sought_in s
  pub contacts : List Contact
  pub admits : Admits (own_of None s.seed) Four Plain (first_nodes s) contacts
  pub told : StartsWith (sim_look s) s.seed contacts start.table

-- A lookup in the network. The table is told of its first nodes, in order, but for one with the identifier of the node that
-- looks up; the journal is legal and begins with the k closest of that table; the events, from the first on, are those
-- that this network plays, each receive with room for all that is believed, and they tell the journal and go by rounds;
-- every path has run out; what a path asked came from its own seeds and answers; and the line is the journal's. There is one
-- such line (the law `one_text`).
pub record SimText (s : Simulation) (text : List ℕ) : Type 0 where
  pub contacts : List Contact
  pub admits : Admits (own_of None s.seed) Four Plain (first_nodes s) contacts
  pub table : TableState
  pub told : StartsWith (sim_look s) s.seed contacts table
  pub events : List Event
  pub plays : Plays (network_of s) true events
  pub journal : List Entry
  pub legal : Legal (book_of FindNode (sim_look s) s.seed) journal
  pub seeds_are : seeds journal ≡ seeds_dealt (look_of FindNode (sim_look s) s.seed) table
  pub tells : Grows (Some []) (Some events) (λ events. Tells (lookup_of FindNode (sim_look s) (sim_called s)) journal events)
  pub rounds : Grows (Some []) (Some events) (λ events. Rounds sequential (lookup_of FindNode (sim_look s) (sim_called s)) journal events)
  pub run_out : (p : ℕ) → p < s.paths → RunOut (book_of FindNode (sim_look s) s.seed) p journal
  pub own_answers : GoesByOwnAnswers (book_of FindNode (sim_look s) s.seed) journal
  pub text_is : text ≡ line_of (sim_text_of s journal)

abbrev pub sim_promise : SimWords → Promise
sim_promise words = unread [] ((random : List ℕ) → IsSimulable (simulation_of words random)) (λ random text. SimText (simulation_of words random) text) (λ random. ⊥)
