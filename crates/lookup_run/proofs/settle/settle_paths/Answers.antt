use Rattle.std.proofs.Common.{◌≡◌, ◌+◌, None, subst, ap, ◌∙◌, arith}
use Rattle.claim_book.specs.Legal.{Legal}
use Rattle.lookup_run.specs.Rounds.{sequential}
use Rattle.lookup_run.specs.inner.RoundSteps.{SettlesPaths}
use Rattle.lookup_run.proofs.Settled.{settles_nothing, settles_then, stops_settling, ran_then}
use Rattle.lookup_run.proofs.settle.settle_paths.Goals as goal

pub loop-path-init : goal.loop-path-init
loop-path-init g c scheduling told = settles_nothing scheduling c.args.look.now c.args.work told c.requires.keeps

pub settle_path-requires-clause-keeps : goal.settle_path-requires-clause-keeps
settle_path-requires-clause-keeps g c = (c.loop-path.invariant sequential None).keeps

pub settle_path-requires-clause-round_over : goal.settle_path-requires-clause-round_over
settle_path-requires-clause-round_over g c = ap (λ s. s.receives) (c.loop-path.invariant sequential None).progress ∙ c.requires.round_over

pub settle_path-requires-clause-settled : goal.settle_path-requires-clause-settled
settle_path-requires-clause-settled g c = (c.loop-path.invariant sequential None).settled

pub loop-path-preserved : goal.loop-path-preserved
loop-path-preserved g c scheduling told = settles_then scheduling c.args.look.now 0 c.loop-path.path (c.loop-path.path + 1) c.args.work c.loop-path.work c.settle_path.new.work told (c.loop-path.invariant scheduling told) (c.in-Ok.ensures.ok scheduling told)

pub returns-in-Err : goal.returns-in-Err
returns-in-Err g c scheduling =
    let work = c.args.work in
    record {
      ok = λ told. tt;
      stops = λ told accepts words. stops_settling c.args.look.now accepts work c.settle_path.new.work told (subst (λ s. Legal s work.lookup.book.journal) c.requires.keeps.setting c.legal.ensures) c.requires.keeps.few_strays
          (ran_then work.table c.loop-path.work.table c.settle_path.new.work.table (c.loop-path.invariant sequential None).ran c.in-Err.ensures.ran) words;
      fault = c.in-Err.ensures.fault;
    }

pub returns : goal.returns
returns g c scheduling =
    let all : c.loop-path.path ≡ c.args.look.now.paths = omega (arith, c.loop-path.auto.path-end, c.loop-path-test.false) in
    record {
      ok = λ told. subst (λ n. SettlesPaths scheduling c.args.look.now 0 n c.args.work c.loop-path.work told) all (c.loop-path.invariant scheduling told);
      stops = λ told. tt;
      fault = tt;
    }
