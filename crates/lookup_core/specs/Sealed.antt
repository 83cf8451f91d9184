-- Which datagrams a sealed lookup believes: those that carry a tag of who says them (this project's own, beside BEP 5).
use Rattle.std.specs.Prelude.{◌≡◌, ℕ, List, Bool, true, false}
use Rattle.kad_base.specs.declared.types.Id.{Id}
use Rattle.kad_base.specs.declared.types.Contact.{Contact}
use Rattle.kad_krpc.specs.Seal.{IsTagged}
use Rattle.lookup_core.specs.Reply.{Reply}
use Rattle.lookup_core.specs.Reply as reply

-- which tags are accepted: for what the node with this identifier says, this tag
abbrev pub Accepts : Type 0
Accepts = Id → List ℕ → List ℕ → Bool

-- the datagram carries a tag that is accepted for what the node with this identifier says
pub record HasTag (accepts : Accepts) (bytes : List ℕ) (id : Id) : Type 0 where
  pub body : List ℕ
  pub tag : List ℕ
  pub parts : IsTagged bytes body tag
  pub accepted : accepts id body tag ≡ true

-- who says a reply: an answer names its own identifier, and an error message is that of the contact that was asked
abbrev pub speaker : Contact → Reply → Id
speaker c (reply.Answer answer) = answer.id
speaker c (reply.Error code) = c.id

-- a sealed lookup asks for such a tag, and any other for none
abbrev pub IsSealed : Bool → Accepts → List ℕ → Id → Type 0
IsSealed false accepts bytes id = Unit {0}
IsSealed true accepts bytes id = HasTag accepts bytes id
