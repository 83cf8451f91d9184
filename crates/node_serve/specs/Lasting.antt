-- How long a node serves, in milliseconds. Both ends, by the clock and by a number of receive calls, are this project's own.
use Rattle.std.specs.Prelude.{ℕ, ◌+◌, ◌-◌, ◌*◌, ◌^◌, ◌==◌, min, cond, Bool, false, nat_le, Option, Some, None}
use Rattle.kad_base.specs.Limits.{max_wait}

-- a minute
abbrev pub minute : ℕ
minute = 60000

-- the end of a service that began at this moment and lasts so many minutes, or the last moment that there is; 0 minutes are no
-- end by time
abbrev pub end_of : ℕ → ℕ → Option ℕ
end_of began minutes = cond (minutes == 0) None (Some (min (began + minutes * minute) (2 ^ 64 - 1)))

-- it is over at its end and at each moment behind it
abbrev pub is_over : Option ℕ → ℕ → Bool
is_over None moment = false
is_over (Some end) moment = nat_le end moment

-- each receive call waits for a minute after the last moment that was told, or to the last moment that there is
abbrev pub waits_until : ℕ → ℕ
waits_until moment = min (moment + max_wait) (2 ^ 64 - 1)

-- but to the end at most
abbrev pub waits_to : Option ℕ → ℕ → ℕ
waits_to None moment = waits_until moment
waits_to (Some end) moment = min (waits_until moment) end
