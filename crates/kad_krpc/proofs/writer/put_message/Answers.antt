use mir.Val.{of_z, to_z}
use Rattle.std.proofs.Common.{◌≡◌, ℤ, rules, ℕ, List, subst, sym, ap, w64}
use Rattle.kad_bencode.specs.declared.value.Value.TheVariants.{Dict}
use Rattle.kad_bencode.specs.Written.{Puts}
use Rattle.kad_bencode.proofs.Putting.{puts_same}
use Rattle.kad_krpc.specs.Form.{message_pairs, form}
use Rattle.kad_bencode.specs.Spelling.{text_of}
use Rattle.kad_krpc.specs.declared.message.Message.TheVariants as Message
use Rattle.kad_krpc.proofs.writer.put_message.Goals as goal

same_fault : (tx t said s : List ℕ) (code z : ℤ) → t ≡ tx → s ≡ said → z ≡ code → text_of (Dict (message_pairs (Message.Fault tx code said))) ≡ text_of (Dict (message_pairs (Message.Fault t z s)))
same_fault tx t said s code z e f g = sym (λ i. text_of (Dict (message_pairs (Message.Fault (e i) (g i) (f i)))))

pub returns-in-Query : goal.returns-in-Query
unfolding form
returns-in-Query c =
    subst (λ m. Puts c.args.buf.now c.put_query.new.buf 0 (text_of (Dict (message_pairs m))) c.put_query.result) (sym c.in-Query.is)
    (puts_same (ap (λ tx. text_of (Dict (message_pairs (Message.Query tx c.in-Query.read_only c.in-Query.proof c.in-Query.ask)))) (sym c.as_slice.ensures)) c.put_query.ensures)

pub returns-in-Answer : goal.returns-in-Answer
unfolding form
returns-in-Answer c =
    subst (λ m. Puts c.args.buf.now c.put_answer_message.new.buf 0 (text_of (Dict (message_pairs m))) c.put_answer_message.result) (sym c.in-Answer.is)
    (puts_same (ap (λ tx. text_of (Dict (message_pairs (Message.Answer tx c.in-Answer.answer)))) (sym c.as_slice-in-Answer.ensures)) c.put_answer_message.ensures)

pub returns-in-Fault : goal.returns-in-Fault
unfolding form
returns-in-Fault c =
    subst (λ m. Puts c.args.buf.now c.put_fault.new.buf 0 (text_of (Dict (message_pairs m))) c.put_fault.result) (sym c.in-Fault.is)
    (puts_same (same_fault c.in-Fault.tx c.as_slice-in-Fault.result.now c.in-Fault.text c.as_slice-in-Fault-2.result.now c.in-Fault.code (to_z w64 (of_z w64 c.in-Fault.code)) c.as_slice-in-Fault.ensures c.as_slice-in-Fault-2.ensures (search rules)) c.put_fault.ensures)
