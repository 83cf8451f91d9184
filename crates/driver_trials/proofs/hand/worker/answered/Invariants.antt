use Rattle.std.proofs.Common.{◌≡◌}
use Rattle.kad_base.specs.declared.types.Policy.TheVariants.{Plain}
use Rattle.driver_trials.proofs.hand.worker.answered.Given as goal

abbrev pub invariant-loop-path : goal.invariant-loop-path
invariant-loop-path g l = record {
  paths : l.book.setting.paths ≡ l.fn.paths;
  policy : l.book.setting.policy ≡ Plain;
  k : l.book.setting.k ≡ 8;
}
