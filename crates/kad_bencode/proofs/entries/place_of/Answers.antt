use Rattle.std.proofs.Common.{arith, ◌-◌}
use Rattle.std.specs.declared.cmp.Ordering.TheVariants.{Less, Equal, Greater}
use Rattle.kad_bencode.proofs.Places.{place_above, place_there, place_further, place_first, compared}
use Rattle.kad_bencode.proofs.entries.place_of.Goals as goal

pub returns-in-Greater : goal.returns-in-Greater
returns-in-Greater g c =
    place_above g.row.V.Denot c.args.pairs.now c.args.key.now c.loop-at.at c.index-pairs-at.result c.requires c.loop-at-test.true c.loop-at.invariant.within c.index-pairs-at.is
    (compared g.row.V.Denot c.args.pairs.now c.args.key.now (c.loop-at.at - 1) c.index-pairs-at.result c.as_slice.result.now Greater c.cmp.result c.index-pairs-at.is c.as_slice.ensures c.cmp.ensures c.in-Greater.is) c.loop-at.invariant.below

pub returns-in-Equal : goal.returns-in-Equal
returns-in-Equal g c =
    place_there g.row.V.Denot c.args.pairs.now c.args.key.now c.loop-at.at c.index-pairs-at.result c.requires c.loop-at-test.true c.loop-at.invariant.within c.index-pairs-at.is
    (compared g.row.V.Denot c.args.pairs.now c.args.key.now (c.loop-at.at - 1) c.index-pairs-at.result c.as_slice.result.now Equal c.cmp.result c.index-pairs-at.is c.as_slice.ensures c.cmp.ensures c.in-Equal.is)

pub loop-at-preserved : goal.loop-at-preserved
loop-at-preserved g c = record {
  within = omega arith;
  below = place_further g.row.V.Denot c.args.pairs.now c.args.key.now c.loop-at.at c.index-pairs-at.result c.requires c.loop-at-test.true c.loop-at.invariant.within c.index-pairs-at.is
      (compared g.row.V.Denot c.args.pairs.now c.args.key.now (c.loop-at.at - 1) c.index-pairs-at.result c.as_slice.result.now Less c.cmp.result c.index-pairs-at.is c.as_slice.ensures c.cmp.ensures c.in-Less.is) c.loop-at.invariant.below;
}

pub returns : goal.returns
returns g c = place_first g.row.V.Denot c.args.pairs.now c.args.key.now c.loop-at.at c.loop-at-test.false c.loop-at.invariant.below
