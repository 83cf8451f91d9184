-- What contracts see of the sources and sinks in memory.
use Rattle.std.specs.Prelude.{ℕ, ◌+◌, ◌-◌, ◌^◌, min, List}

-- a source: the bytes that it has still to give, the most that it gives a call, the numbers of the calls that fail, how
-- many calls there were, and how often it has failed
pub record SourceState : Type 0 where
  pub rest : List ℕ
  pub piece : ℕ
  pub failing : List ℕ
  pub calls : ℕ
  pub failures : ℕ

-- a sink: the bytes that it has taken, the most that it takes a call, the numbers of the calls that fail, how many calls
-- there were, and how often it has failed
pub record SinkState : Type 0 where
  pub taken : List ℕ
  pub piece : ℕ
  pub failing : List ℕ
  pub calls : ℕ
  pub failures : ℕ

-- a count that stays at its last value
abbrev pub counted : ℕ → ℕ
counted n = min (n + 1) (2 ^ 64 - 1)

-- a sink of a fixed room: the front that it kept of all that it was given, how many bytes behind that were left out, and
-- the length of its room
pub record SteadySinkState : Type 0 where
  pub kept : List ℕ
  pub left_out : ℕ
  pub room : ℕ
