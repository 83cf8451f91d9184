-- Which call of a link an event is of, whatever it gave.
use Rattle.std.specs.Prelude.{ℕ, List}
use Rattle.kad_base.specs.declared.types.Addr.{Addr}
use Rattle.kad_base.specs.declared.types.Event.{Event}
use Rattle.kad_base.specs.declared.types.Event.TheVariants.{Now, Sent, Unsent, Got, Quiet}

-- it was asked for the moment, or to send, or to receive until a moment
pub data LinkCall : Type 0 where
  asks_moment : LinkCall
  sends : Addr → List ℕ → LinkCall
  receives : ℕ → LinkCall

abbrev pub call_of : Event → LinkCall
call_of (Now at) = asks_moment
call_of (Sent to bytes) = sends to bytes
call_of (Unsent to bytes) = sends to bytes
call_of (Got from bytes until at) = receives until
call_of (Quiet until at) = receives until
