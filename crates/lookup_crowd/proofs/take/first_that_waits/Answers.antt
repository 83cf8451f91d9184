use Rattle.std.proofs.Common.{Some, sym, ap, subst, ◌∙◌}
use Rattle.std.proofs.lemmas.Option.{slice_get-get_or}
use Rattle.lookup_crowd.specs.inner.ManySteps.{IsNotFor}
use Rattle.lookup_crowd.proofs.Lists.{all_more, all_taken}
use Rattle.lookup_crowd.proofs.take.first_that_waits.Goals as goal

pub returns-in-Ok-Some : goal.returns-in-Ok-Some
returns-in-Ok-Some g c bytes reads = record {
  one = c.index-seekers-i.result;
  here = slice_get-get_or c.args.seekers.now c.loop-i.i c.index-seekers-i.result c.loop-i-test.true ∙ ap Some (sym c.index-seekers-i.is);
  none_before = c.loop-i.invariant bytes reads;
  waits = (rw c.in-Ok-Some.field-0-is at c.in-Ok-Some.ensures) bytes reads;
}

pub loop-i-preserved : goal.loop-i-preserved
loop-i-preserved g c bytes reads =
    let accepts = g.G.SealCheck.accepted c.args.seal.now in
    let none = (rw c.in-Ok-None.field-0-is at c.in-Ok-None.ensures) bytes reads in
    all_more (λ k. IsNotFor accepts c.args.from bytes k) c.loop-i.i c.args.seekers.now c.index-seekers-i.result c.loop-i-test.true (c.loop-i.invariant bytes reads) (subst (λ k. IsNotFor accepts c.args.from bytes k) c.index-seekers-i.is none)

pub returns : goal.returns
returns g c bytes reads =
    let accepts = g.G.SealCheck.accepted c.args.seal.now in
    all_taken (λ k. IsNotFor accepts c.args.from bytes k) c.loop-i.i c.args.seekers.now c.loop-i-test.false (c.loop-i.invariant bytes reads)
