-- What a node sends for a reply. A sealed node tags all that it says: its tag is made of the reply's written form and stands
-- in the reply's dictionary, under a key that is this project's own. Another node sends the written form as it is.
use Rattle.std.specs.Prelude.{ℕ, Bool, true, false, List}
use Rattle.kad_base.specs.declared.types.Id.{Id}
use Rattle.kad_krpc.specs.declared.message.Message.{Message}
use Rattle.kad_krpc.specs.Form.{form, message_pairs}
use Rattle.kad_krpc.specs.Seal.{tagged}

-- the tag that a seal gives of what the node with an identifier says
abbrev pub Tags : Type 0
Tags = Id → List ℕ → List ℕ

-- the written form of the reply's dictionary with the tag of its written form
abbrev pub sealed_form : Tags → Id → Message → List ℕ
sealed_form tag_of own reply = tagged (message_pairs reply) (tag_of own (form reply))

-- what the node with this identifier sends for the reply, by whether it is sealed
abbrev pub sent_form : Tags → Bool → Id → Message → List ℕ
sent_form tag_of true own reply = sealed_form tag_of own reply
sent_form tag_of false own reply = form reply
