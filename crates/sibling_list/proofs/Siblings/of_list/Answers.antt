use Rattle.std.proofs.Common.{◌∙◌, refl, arith}
use Rattle.sibling_list.proofs.Retold.{next_put}
use Rattle.sibling_list.proofs.Siblings.of_list.Goals as goal

pub loop-contact-preserved : goal.loop-contact-preserved
loop-contact-preserved c = record {
  own = c.insert.ensures.own ∙ c.loop-contact.invariant.own;
  list = λ s. next_put c.args.own c.args.list.now c.loop-contact.contact-index _ _ c.loop-contact.siblings c.insert.new.self s (omega arith) refl c.loop-contact.invariant.own (c.loop-contact.invariant.list s) c.insert.ensures.list;
}
