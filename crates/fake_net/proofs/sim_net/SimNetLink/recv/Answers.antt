use Rattle.std.proofs.Common.{Bool, ap, sym, ◌∙◌}
use Rattle.std.specs.Prelude.{◌&&◌, length, nat_eq}
use Rattle.std.proofs.lemmas.Bool.{and_left}
use Rattle.fake_net.proofs.Playing.{came_played}
use Rattle.fake_net.proofs.sim_net.SimNetLink.recv.Goals.{then-self, else-self}
use Rattle.fake_net.proofs.sim_net.SimNetLink.recv.Goals as goal

pub invariant_of-self : goal.invariant_of-self
invariant_of-self c =
    came_played c.self.inside.nodes c.self.inside.wide _ c.self.inside.moment c.came_at-self-inside.result c.args.until _ _ c.take_next-came.result c.self.inside.waiting.items _ c.self.inside.told c.take.result c.telling_came.result
    (elim c.if-self.branch [
      | then-self w ↦ w.self-is ∙ ap (λ (b : Bool). b && nat_eq (length c.args.buf.now) 4097) (sym w.if-self.true)
      | else-self w ↦ w.self-is ∙ w.if-self.false ∙ sym (and_left c.self.inside.wide (nat_eq (length c.args.buf.now) 4097) w.if-self.false)
    ]) c.take_next-came.ensures.gets c.came_at-self-inside.ensures c.take.ensures.value c.self.invariant c.telling_came.ensures
