use Rattle.std.proofs.Common.{◌≡◌, ◌+◌, true, MatchBool, refl, arith, subst}
use Rattle.path_worker.specs.Burst.{DidOne, FoundNothing}
use Rattle.path_worker.proofs.Bursts.{going_on, same_hand}
use Rattle.path_worker.proofs.Counts.{going_few}
use Rattle.path_worker.proofs.worker.Worker.burst.Goals as goal

pub overflow_add-count : goal.overflow_add-count
overflow_add-count g c =
    let more : c.in_ok-step.field-0 ≡ true = cc in
    let one : DidOne c.loop.self c.step.new.self = subst (λ b. MatchBool b (DidOne c.loop.self c.step.new.self) (FoundNothing c.loop.self c.step.new.self)) more c.in_ok-step.ensures.done in
    let going = going_on c.args.self.now c.loop.self c.step.new.self c.loop.count (c.loop.count + 1) c.loop.invariant.going c.loop.invariant.same one refl in
    omega (arith, going_few c.args.book.now.start c.args.self.now c.step.new.self (c.loop.count + 1) c.requires.opened c.step.ensures.run going)

pub loop-preserved : goal.loop-preserved
loop-preserved g c =
    let more : c.in_ok-step.field-0 ≡ true = cc in
    let one : DidOne c.loop.self c.step.new.self = subst (λ b. MatchBool b (DidOne c.loop.self c.step.new.self) (FoundNothing c.loop.self c.step.new.self)) more c.in_ok-step.ensures.done in
    record {
      same = same_hand c.args.self.now c.loop.self c.step.new.self c.loop.invariant.same c.step.ensures.same;
      going = going_on c.args.self.now c.loop.self c.step.new.self c.loop.count (c.loop.count + 1) c.loop.invariant.going c.loop.invariant.same one refl;
    }
