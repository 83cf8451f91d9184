-- What callers see of a link over a UDP socket: the last moment that it told, and how often it failed.
use Rattle.std.specs.Prelude.{ℕ}

pub record LinkState : Type 0 where
  pub moment : ℕ
  pub send_faults : ℕ
  pub recv_faults : ℕ
