-- What lookups at the same time and the node that answers meanwhile do on what they share: whom a journal notes as having
-- answered, which words are drawn, and which calls are made.
use Rattle.std.specs.Prelude.{ℕ, ◌+◌, List, [], ◌∷◌, length}
use Rattle.std.specs.List.{flat_map}
use Rattle.kad_base.specs.declared.types.Contact.{Contact}
use Rattle.id_puzzles.specs.Drawn.{WordsState}
use Rattle.claim_book.specs.declared.types.Entry.{Entry}
use Rattle.claim_book.specs.declared.types.Entry.TheVariants.{Note}
use Rattle.contact_table.specs.declared.calls.TableCall.TheVariants.{Failed}
use Rattle.contact_table.specs.declared.calls.TableReply.{TableReply}
use Rattle.node_serve.specs.Calls.{Did, on_table}

-- the contacts that a journal notes as having answered
abbrev pub note_of : Entry → List Contact
note_of (Note p c) = c ∷ []
note_of other = []

abbrev pub noted : List Entry → List Contact
noted J = flat_map note_of J

-- a word for each query, follow-ups too
abbrev pub drawn_by : WordsState → List ℕ → WordsState
drawn_by words owners = record words { place = words.place + length owners }

-- What the node did beside: a call for a foreign datagram, or one that tells the table whom a lookup lost, with its reply.
pub data Errand : Type 0 where
  answering : Did → Errand
  losing : Contact → TableReply → Errand

abbrev pub did_of : Errand → Did
did_of (answering did) = did
did_of (losing c reply) = on_table (Failed c) reply

abbrev pub answer_in : Errand → List Did
answer_in (answering did) = did ∷ []
answer_in (losing c reply) = []

abbrev pub loss_in : Errand → List Contact
loss_in (answering did) = []
loss_in (losing c reply) = c ∷ []
