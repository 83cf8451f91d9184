-- What the text of a command is made from, if that is less than all that a call is given.
use Rattle.std.specs.Prelude.{◌≡◌, ◌⊎◌, IsSome, Bool, false}
use Rattle.kad_words.specs.declared.command.Command.{Command}
use Rattle.kad_words.specs.declared.command.Command.TheVariants.{Lookup, Peers, Get, Put, Serve, Refresh, Mint, Sim}

-- from the words only: `mint` and `sim` draw from the seed of the words, if these name one
abbrev pub NamesSeed : Command → Type 0
NamesSeed (Mint words) = IsSome words.seed
NamesSeed (Sim words) = IsSome words.seed
NamesSeed other = ⊥

-- from the words, the input, what it is called with and the link's events: the commands that take a link, if they settle
-- nothing on several threads; a lookup does so only if the check is slow, and `serve` only if several workers answer and it
-- prints the table that they leave
abbrev pub GoesByEvents : Bool → Command → Type 0
GoesByEvents slow (Lookup look) = slow ≡ false
GoesByEvents slow (Peers look announce spread) = slow ≡ false
GoesByEvents slow (Get look) = slow ≡ false
GoesByEvents slow (Put look item spread) = slow ≡ false
GoesByEvents slow (Serve words) = (words.table ≡ false) ⊎ (words.workers ≡ 1)
GoesByEvents slow (Refresh words) = Unit {0}
GoesByEvents slow other = ⊥
