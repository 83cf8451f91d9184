-- Which words ask for a command that takes a link, by its promise.
use Rattle.std.proofs.Common.{◌≡◌, List, IsTrue, refl, sym, ap, subst, ◌∙◌}
use Rattle.kad_words.specs.Table.{Word, kind_of, links}
use Rattle.kad_words.specs.Bound.{TakesLink}
use Rattle.kad_words.specs.Plain.{CommandOf}
use Rattle.kad_words.specs.declared.command.Command.{Command}
use Rattle.kad_words.specs.declared.command.Command.TheVariants.{Lookup}
use Rattle.kad_words.proofs.OneCommand.{command_plain, kind_once}
use Rattle.node_top.specs.Asked.{AsksPlain}
use Rattle.node_top.specs.Commands.{promise_of}

-- the table of words and the table of promises agree
links_are : (command : Command) → links (kind_of command) ≡ (promise_of command).links
links_are (Lookup look) = refl
links_are other = refl

pub takes_by : (words : List Word) (command : Command) → CommandOf words command → IsTrue (promise_of command).links → TakesLink words
takes_by words command h is = subst TakesLink (sym h.begins) (record { kind = kind_of command; is = refl; over_link = links_are command ∙ is })

pub links_by : (words : List Word) (command : Command) → CommandOf words command → TakesLink words → IsTrue (promise_of command).links
links_by words command h takes =
    let over = subst TakesLink h.begins takes in
    sym (links_are command) ∙ ap links (kind_once (kind_of command) over.kind over.is) ∙ over.over_link

pub asks_plain : (words : List Word) (command : Command) → CommandOf words command → ¬ IsTrue (promise_of command).links → AsksPlain words
asks_plain words command h none_ = record { asks = command_plain words command h; no_link = λ takes. none_ (links_by words command h takes) }
