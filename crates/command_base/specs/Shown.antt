-- What a call saw of a source, a link or a sink: what it told that it holds, and how often it had failed, before and
-- after.
use Rattle.std.specs.Prelude.{◌≢◌, ℕ, List, Option, None, ◌≡◌}
use Rattle.kad_base.specs.declared.types.Event.{Event}
use Rattle.kad_base.specs.Outside.{Rose}

pub record Shown (A : Type 0) : Type 0 where
  pub before : Option (List A)
  pub after : Option (List A)
  pub faults : ℕ
  pub faults' : ℕ
  -- of a link: how often it refused to send
  pub sends : ℕ
  pub sends' : ℕ

-- by what is told of each, and how its failures are counted
abbrev pub shown : {X A : Type 0} → (X → Option (List A)) → (X → ℕ) → X → X → Shown A
shown told faults old new = record { before = told old; after = told new; faults = faults old; faults' = faults new; sends = 0; sends' = 0 }

-- the same of a link, whose refused sends are counted apart
abbrev pub shown_link : {X A : Type 0} → (X → Option (List A)) → (X → ℕ) → (X → ℕ) → X → X → Shown A
shown_link told faults sends old new = record { before = told old; after = told new; faults = faults old; faults' = faults new; sends = sends old; sends' = sends new }

-- it still tells what it holds
abbrev pub IsTold : {A : Type 0} → Shown A → Type 0
IsTold s = s.after ≢ None

-- it failed, as far as its count shows
abbrev pub HasFailed : {A : Type 0} → Shown A → Type 0
HasFailed s = Rose s.faults s.faults'

-- a link that tells nothing: that of a call which has none
abbrev pub nowhere : Shown Event
nowhere = record { before = None; after = None; faults = 0; faults' = 0; sends = 0; sends' = 0 }

-- two sources held the same, and told it to the end
pub record SameInput (source again : Shown ℕ) : Type 0 where
  pub held : source.before ≡ again.before
  pub told : IsTold source
  pub told_again : IsTold again

-- two links told the same events
pub record SameEvents (link beside : Shown Event) : Type 0 where
  pub before : link.before ≡ beside.before
  pub after : link.after ≡ beside.after
  pub told : IsTold link
