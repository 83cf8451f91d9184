-- What a command is called with beside its words: 32 bytes that nobody else knows, whether a check of a contact may take long,
-- and a seal, by what it makes and accepts.
use Rattle.std.specs.Prelude.{ℕ, List, [], Bool, false}
use Rattle.lookup_core.specs.Sealed.{Accepts}
use Rattle.node_serve.specs.Sealing.{Tags}

pub record Called : Type 0 where
  pub random : List ℕ
  -- whether the check may take long
  pub slow : Bool
  -- which tags are accepted, and which are made
  pub accepts : Accepts
  pub tags : Tags

abbrev pub called_with : List ℕ → Bool → Accepts → Tags → Called
called_with random slow accepts tags = record { random = random; slow = slow; accepts = accepts; tags = tags }

-- without a seal, and with a quick check: that of a call which takes no link
abbrev pub called_plainly : List ℕ → Called
called_plainly random = called_with random false (λ id body tag. false) (λ id body. [])
