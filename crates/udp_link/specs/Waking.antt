-- What ends a socket's wait without a datagram.
use Rattle.std.specs.Prelude.{◌≡◌, ◌⊎◌}
use Rattle.std.specs.declared.io.ErrorKind.{ErrorKind}
use Rattle.std.specs.declared.io.ErrorKind.TheVariants.{WouldBlock, TimedOut, Interrupted}

-- its time is over, as systems say it in two ways, or a signal came
abbrev pub IsWake : ErrorKind → Type 0
IsWake kind = (kind ≡ WouldBlock) ⊎ (kind ≡ TimedOut) ⊎ (kind ≡ Interrupted)
