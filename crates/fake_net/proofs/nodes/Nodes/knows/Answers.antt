use Rattle.fake_net.proofs.Knowing.{counts_itself, counts_full, counts_one, knows_not_itself, knows_not, knows_it}
use Rattle.fake_net.proofs.nodes.Nodes.knows.Goals as goal

pub returns-then-i-j-clause-knows : goal.returns-then-i-j-clause-knows
returns-then-i-j-clause-knows c = knows_not_itself c.args.self.now.seed c.args.i c.args.j c.if-i-j.true

pub returns-then-i-j-clause-counts : goal.returns-then-i-j-clause-counts
returns-then-i-j-clause-counts c = counts_itself c.args.self.now.seed c.args.i c.args.j c.args.counts.now c.requires.counts c.if-i-j.true

pub returns-then-counts-bits-ge-BUCKET-clause-knows :
    goal.returns-then-counts-bits-ge-BUCKET-clause-knows
returns-then-counts-bits-ge-BUCKET-clause-knows c =
    knows_not c.args.self.now.seed c.args.i c.args.j c.shared-bits.result c.args.counts.now c.requires.counts c.if-i-j.false c.shared-bits.ensures.within c.shared-bits.ensures.shared c.if-counts-bits-ge-BUCKET.true

pub returns-then-counts-bits-ge-BUCKET-clause-counts :
    goal.returns-then-counts-bits-ge-BUCKET-clause-counts
returns-then-counts-bits-ge-BUCKET-clause-counts c =
    counts_full c.args.self.now.seed c.args.i c.args.j c.shared-bits.result c.args.counts.now c.requires.counts c.if-i-j.false c.shared-bits.ensures.shared c.if-counts-bits-ge-BUCKET.true

pub returns-clause-knows : goal.returns-clause-knows
returns-clause-knows c =
    knows_it c.args.self.now.seed c.args.i c.args.j c.shared-bits.result c.args.counts.now c.requires.counts c.if-i-j.false c.shared-bits.ensures.within c.shared-bits.ensures.shared c.if-counts-bits-ge-BUCKET.false

pub returns-clause-counts : goal.returns-clause-counts
returns-clause-counts c =
    counts_one c.args.self.now.seed c.args.i c.args.j c.shared-bits.result c.args.counts.now c.requires.counts c.if-i-j.false c.shared-bits.ensures.within c.shared-bits.ensures.shared c.if-counts-bits-ge-BUCKET.false
