-- What a reply says to an open query (BEP 5), and what of it is handed out.
use Rattle.std.specs.Prelude.{ℕ, ℤ}
use Rattle.kad_base.specs.declared.types.Contact.{Contact}
use Rattle.kad_krpc.specs.declared.message.Answer as of
use Rattle.kad_krpc.specs.Views.{answer_seen}
use Rattle.lookup_core.specs.declared.reply.ReplyView.{ReplyView}
use Rattle.lookup_core.specs.declared.reply.ReplyView.TheVariants as view
use Rattle.lookup_core.specs.declared.reply.SaidView.{SaidView}
use Rattle.lookup_core.specs.declared.on_reply.Answered as seen

-- an answer, or an error message, of which the code is kept
pub data Reply : Type 0 where
  Answer : of.Answer → Reply
  Error : ℤ → Reply

-- a reply, and the transaction id of the query that it is to
pub record Said : Type 0 where
  pub tx : ℕ
  pub reply : Reply

-- a contact that answered in its own name, and its answer
pub record Answered : Type 0 where
  pub contact : Contact
  pub answer : of.Answer

-- ---- where it stands in its datagram

abbrev pub reply_seen : ReplyView → Reply
reply_seen (view.Answer answer) = Answer (answer_seen answer)
reply_seen (view.Error code) = Error code

abbrev pub said_seen : SaidView → Said
said_seen said = record { tx = said.tx; reply = reply_seen said.reply }

abbrev pub answered_seen : seen.Answered → Answered
answered_seen a = record { contact = a.contact; answer = answer_seen a.answer }
