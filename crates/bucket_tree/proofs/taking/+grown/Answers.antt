use Rattle.std.proofs.Common.{◌∷◌, [], true, false, sym, subst, ◌∙◌, arith}
use Rattle.bucket_tree.specs.BucketSteps.{SeenStep}
use Rattle.bucket_tree.proofs.SeenRows.{step_one, split_on_high, split_on_low, low_covers, half_row, half_long, grown_falls, no_split}
use Rattle.bucket_tree.proofs.taking.+grown.Goals as goal

pub forked-grown-requires : goal.forked-grown-requires
forked-grown-requires t c =
    let long = half_long true c.args.row.now c.in_ok-high.high c.in_ok-high.ensures in
    let lt = c.requires.short in (
      grown_falls _ _ _ lt long c.decreases,
      (
        c.requires.some_live,
        (
          c.requires.few_live,
          (
            c.requires.some_bits,
            (
              c.requires.others,
              (omega (arith, long, lt), (sym c.covers.ensures ∙ c.if-covers.true, half_row c.args.setting.now.own c.args.setting.now.k c.args.setting.now.b true c.args.row.now _ c.in_ok-high.ensures c.requires.each)),
            ),
          ),
        ),
      ),
    )

pub forked-grown-requires-else-covers : goal.forked-grown-requires-else-covers
forked-grown-requires-else-covers t c =
    let long = half_long false c.args.row.now c.in_ok-low.low c.in_ok-low.ensures in
    let lt = c.requires.short in
    let covers = low_covers c.args.contact.now.id c.args.row.now _ _ _ c.in_ok-low.ensures c.in_ok-high.ensures c.requires.covers lt c.covers.ensures c.if-covers.false in (
      grown_falls _ _ _ lt long c.decreases,
      (
        c.requires.some_live,
        (
          c.requires.few_live,
          (
            c.requires.some_bits,
            (
              c.requires.others,
              (omega (arith, long, lt), (covers, half_row c.args.setting.now.own c.args.setting.now.k c.args.setting.now.b false c.args.row.now _ c.in_ok-low.ensures c.requires.each)),
            ),
          ),
        ),
      ),
    )

pub forked-returns-in_ok-fork-clause-step : goal.forked-returns-in_ok-fork-clause-step
forked-returns-in_ok-fork-clause-step t c =
    let s = c.args.setting.now in
    subst (SeenStep s.own s.k s.b c.args.contact.now (c.args.row.now ∷ []) c.in_ok-high-2.seen) (sym c.in_ok-fork.ensures.rows)
    (split_on_high s.own s.k s.b c.args.contact.now c.args.row.now c.requires.others c.requires.covers c.requires.needs _ _ _ _ _ c.in_ok-low.ensures c.in_ok-high.ensures c.in_ok-low-2.ensures.rows c.in_ok-high-2.ensures.step)

pub forked-returns-in_ok-fork-2-clause-step : goal.forked-returns-in_ok-fork-2-clause-step
forked-returns-in_ok-fork-2-clause-step t c =
    let s = c.args.setting.now in
    subst (SeenStep s.own s.k s.b c.args.contact.now (c.args.row.now ∷ []) c.in_ok-low-3.seen) (sym c.in_ok-fork-2.ensures.rows)
    (split_on_low s.own s.k s.b c.args.contact.now c.args.row.now c.requires.others c.requires.covers c.requires.needs _ _ _ _ _ c.in_ok-low.ensures c.in_ok-high.ensures c.in_ok-high-3.ensures.rows c.in_ok-low-3.ensures.step)

pub grown-returns-clause-step : goal.grown-returns-clause-step
grown-returns-clause-step t c =
    let s = c.args.setting.now in
    subst (SeenStep s.own s.k s.b c.args.contact.now (c.args.row ∷ []) c.in_ok-seen.seen) (sym c.in_ok-node.ensures.rows)
    (step_one s.own s.k s.b c.args.contact.now c.args.row c.take.new.self c.in_ok-seen.seen c.requires.others c.requires.covers (no_split _ _ c.if-needs_split.false c.needs_split.ensures.needs) c.in_ok-seen.ensures.ok)
