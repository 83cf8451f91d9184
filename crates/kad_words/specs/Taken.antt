-- What clap is given: one command without subcommands, with an argument for each option, which takes one value and has
-- no rule of its own. The words are clap's own definitions, in `Rattle.clap.specs`.
use Rattle.std.specs.Prelude.{Bool, true, false, not, List, [], ◌∷◌, map, codes, Some, Option}
use Rattle.std.specs.List.{list_all}
use Rattle.clap.specs.Lexer.{has_byte}
use Rattle.clap.specs.Matches.{first_value, found_of}
use Rattle.clap.specs.Walk.{Rule}
use Rattle.clap.specs.Simple.{App, new_app, new_rule, on_top}
use Rattle.clap.specs.declared.parser.matches.ArgMatches.{ArgMatches}
use Rattle.kad_words.specs.Table.{Word}
use Rattle.kad_words.specs.declared.choice.Choice.{Choice}

-- the argument of an option: its name is its id and its long name
abbrev pub rule : Word → Rule
rule name = record (new_rule name) { long = Some name }

-- the command that has arguments with these names
abbrev pub app : List Word → App
app names = on_top (λ s. record s { disable_help_flag = true; rules = map rule names }) (new_app (codes "nolzavirt"))

-- the names of options
abbrev pub names_of : List Choice → List Word
names_of = map (λ (c : Choice). c.name.now)

-- an option's name isn't empty, and has no `=` (61), at which clap would cut it
abbrev pub is_name : Word → Bool
is_name [] = false
is_name (x ∷ xs) = not (has_byte 61 (x ∷ xs))

-- so is each of these
abbrev pub are_names : List Word → Bool
are_names names = list_all is_name names

-- the first value of each name that clap found
abbrev pub taken_of : ArgMatches → Word → Option Word
taken_of m name = first_value (found_of m) name
