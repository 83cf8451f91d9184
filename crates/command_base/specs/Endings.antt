-- How a command ends: the number and the line of each status, and what is written. All of it is this project's own.
use Rattle.std.specs.Prelude.{◌≡◌, ◌⊎◌, ℕ, List, ◌++◌, ◌∷◌, codes, decimal}
use Rattle.kad_base.specs.Outside.{Grows}
use Rattle.command_base.specs.declared.status.Status.{Status}
use Rattle.command_base.specs.declared.status.Status.TheVariants.{Usage, BadLine, LinkFault, SourceFault, Strays, NoSeeds, NoMemory, Unminted, TooLong, BadValue, Unsound, BadProof}
use Rattle.command_base.specs.Written.{IsFront}
use Rattle.command_base.specs.Shown.{Shown, HasFailed}
use Rattle.command_base.specs.Promise.{Promise, IsOneOf}

-- the number of a status
abbrev pub number_of : Status → ℕ
number_of Usage = 2
number_of (BadLine line) = 3
number_of LinkFault = 4
number_of SourceFault = 6
number_of Strays = 7
number_of NoSeeds = 8
number_of NoMemory = 9
number_of Unminted = 10
number_of TooLong = 11
number_of BadValue = 12
number_of Unsound = 13
number_of BadProof = 15

-- no number is greater. No command ends with 14, which is that of a program that can bind no socket
abbrev pub last_status : ℕ
last_status = 15

-- the line of a status
abbrev pub status_line : Status → List ℕ
status_line Usage = codes "usage\n"
status_line (BadLine line) = codes "bad line " ++ decimal line ++ codes "\n"
status_line LinkFault = codes "link fault\n"
status_line SourceFault = codes "source fault\n"
status_line Strays = codes "strays\n"
status_line NoSeeds = codes "no seeds\n"
status_line NoMemory = codes "no memory\n"
status_line Unminted = codes "unminted\n"
status_line TooLong = codes "too long\n"
status_line BadValue = codes "bad value\n"
status_line Unsound = codes "unsound\n"
status_line BadProof = codes "bad proof\n"

-- the text was written, and no write failed; or a front of it, where the sink's faults rose
abbrev pub Writes : List ℕ → Shown ℕ → Type 0
Writes text sink =
    (Grows sink.before sink.after (λ added. added ≡ text) × (sink.faults' ≡ sink.faults))
    ⊎ (HasFailed sink × Grows sink.before sink.after (λ added. IsFront added text))

-- the statuses with which a command may end
abbrev pub MayEnd : Promise → ℕ → Type 0
MayEnd promise status = IsOneOf (0 ∷ 5 ∷ 9 ∷ promise.ends) status

-- the statuses that end a command before it calls the link
abbrev pub EndsUnasked : ℕ → Type 0
EndsUnasked status = (status ≡ 2) ⊎ (status ≡ 3) ⊎ (status ≡ 6) ⊎ (status ≡ 8) ⊎ (status ≡ 10) ⊎ (status ≡ 11) ⊎ (status ≡ 12) ⊎ (status ≡ 13) ⊎ (status ≡ 15)

-- this status, or that of no memory
abbrev pub OrNoMemory : ℕ → ℕ → Type 0
OrNoMemory result status = (result ≡ status) ⊎ (result ≡ 9)
