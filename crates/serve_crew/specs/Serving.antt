-- What a worker does for one datagram.
use Rattle.std.specs.Prelude.{ℕ, List, [], ◌∷◌}
use Rattle.kad_base.specs.declared.types.Addr.{Addr}
use Rattle.kad_base.specs.declared.types.Contact.{Contact}
use Rattle.contact_table.specs.declared.calls.TableCall.TheVariants.{Failed}
use Rattle.contact_table.specs.declared.calls.TableReply.{TableReply}
use Rattle.node_serve.specs.declared.node.Answered.{Answered}
use Rattle.node_serve.specs.declared.setting.ServeSetting.{ServeSetting}
use Rattle.node_serve.specs.Calls.{Did, on_table}
use Rattle.node_serve.specs.Sealing.{Tags}
use Rattle.serve_crew.specs.Answered.{IsAnswered}
use Rattle.serve_crew.specs.Hands.{Hands, Grew}

-- what became of a datagram is what its calls give, and they are the worker's own calls since
pub record Answers (tag_of : Tags) (s : ServeSetting) (from : Addr) (bytes : List ℕ) (at : ℕ) (answered : Answered) (out : List ℕ) (old new : Hands) : Type 0 where
  pub did : List Did
  pub grew : Grew old new did
  pub answer : IsAnswered tag_of s from bytes at answered out did

-- the worker told the table that the contact didn't answer, and made no other call
pub record TellsLost (c : Contact) (old new : Hands) : Type 0 where
  pub reply : TableReply
  pub grew : Grew old new (on_table (Failed c) reply ∷ [])
