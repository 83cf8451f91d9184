-- Each command's promise is lawful by how it is made, and the values of its words are within the limits. A command more
-- that is made in one of these ways adds nothing here.
use Rattle.std.proofs.Common.{ℕ, List, rules}
use Rattle.kad_base.specs.declared.types.Report.{Report}
use Rattle.contact_table.specs.TableState.{TableState}
use Rattle.kad_words.specs.Table.{Says, Values, Word}
use Rattle.kad_words.specs.Plain.{CommandOf, values_of}
use Rattle.kad_words.specs.declared.command.Command.{Command}
use Rattle.kad_words.specs.declared.command.ServeWords.{ServeWords}
use Rattle.kad_words.specs.declared.command.Command.TheVariants.{Lookup, Peers, Get, Put, Node, Mint}
use Rattle.node_top.specs.Commands.{promise_of}
use Rattle.serve_commands.specs.Served.{Hosts}
use Rattle.command_base.specs.Input.{IsGood, Lists}
use Rattle.command_base.specs.Shown.{Shown}
use Rattle.command_base.proofs.Lawful.{Lawful}
use Rattle.lookup_commands.proofs.Lawfully.{lookup_lawful, peers_lawful, get_lawful, put_lawful}
use Rattle.command_base.proofs.Hosting.{hosting_lawful, judging_lawful}
use Rattle.plain_commands.proofs.Minting.{mint_lawful}
use Rattle.table_commands.proofs.Refreshing.{refreshing_lawful}
use Rattle.node_commands.proofs.Severally.{node_lawful}
use Rattle.command_base.proofs.Ranges.{look_in_range, table_in_range}
use Rattle.serve_commands.proofs.Serving.{service_in_range}
use Rattle.plain_commands.proofs.Simulating.{simulable}
use Rattle.command_base.proofs.Staged.{made_lawful}

good_by : (source : Shown ℕ) (reports : List Report) → Lists source reports → IsGood source
good_by source reports lists = record { reports = reports; lists = lists }

hosts_good : (service : ServeWords) (random : List ℕ) (source : Shown ℕ) (table : TableState) (proofs : List Report) → Hosts service random source table proofs → IsGood source
hosts_good service random source table proofs h = record { reports = h.reports; lists = h.lists }

-- the ways in which a promise is made
ruleset forms = (hosting_lawful, judging_lawful, made_lawful, refreshing_lawful, node_lawful, good_by, hosts_good)

-- the limits of words
ruleset limits = (look_in_range, table_in_range, service_in_range, simulable)

pub lawful : (command : Command) → Lawful (promise_of command)
lawful (Lookup look) = lookup_lawful look
lawful (Peers look announce spread) = peers_lawful look announce spread
lawful (Get look) = get_lawful look
lawful (Put look item spread) = put_lawful look item spread
lawful (Mint words) = mint_lawful words
lawful other = search (rules, forms)

in_ranges : (command : Command) (value : Values) → Says value command → (promise_of command).ranges
in_ranges (Lookup look) value s = look_in_range _ value look s.0.1
in_ranges (Peers look announce spread) value s = look_in_range _ value look s.0.1
in_ranges (Get look) value s = look_in_range _ value look s.0.1
in_ranges (Put look item spread) value s = look_in_range _ value look s.0.1
in_ranges (Node words) value s = look_in_range _ value words.look s.0.2
in_ranges other value s = search (rules, limits)

pub ranged : (words : List Word) (command : Command) → CommandOf words command → (promise_of command).ranges
ranged words command h = in_ranges command (values_of h.pairs) h.says
