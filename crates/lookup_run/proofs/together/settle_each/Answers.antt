use Rattle.std.proofs.Common.{refl, sym, subst}
use Rattle.claim_book.specs.Legal.{Legal}
use Rattle.lookup_run.specs.Rounds.{concurrent}
use Rattle.lookup_run.specs.inner.RoundSteps.{MaySettle, Settles}
use Rattle.lookup_run.proofs.Early.{ok_of, err_of}
use Rattle.lookup_run.proofs.Settled.{stops_settling}
use Rattle.lookup_run.proofs.Shuffled.{settles_together, ran_together}
use Rattle.lookup_run.proofs.together.settle_each.Goals as goal

pub settle_paths-requires : goal.settle_paths-requires
settle_paths-requires g c =
    let work = c.args.work in
    subst (λ b. MaySettle c.args.look.now (record work { lookup = record { book = b; queries = work.lookup.queries } })) (sym c.has_several.ensures.same)
    record { limits = c.requires.limits; keeps = c.requires.keeps; round_over = c.requires.round_over }

pub returns-then-not-has_several : goal.returns-then-not-has_several
returns-then-not-has_several g c =
    let work = c.args.work in
    let r = c.settle_paths.result in
    subst (λ b. Settles concurrent c.args.look.now (record work { lookup = record { book = b; queries = work.lookup.queries } }) r.0 r.1) c.has_several.ensures.same (c.settle_paths.ensures concurrent)

pub returns-in-Ok : goal.returns-in-Ok
returns-in-Ok g c =
    let work = c.args.work in
    let r = c.settle_together-book.result in
    let settled = rw c.has_several.ensures.same at (ok_of r.2 c.in-Ok.field-0 _ c.in-Ok.is c.settle_together-book.ensures.ok) in
    record {
      ok = λ told. settles_together c.args.look.now work (record work { lookup = record { book = r.0; queries = work.lookup.queries }; table = r.1 }) told c.requires.keeps c.requires.round_over settled refl refl refl;
      stops = λ told. tt;
      fault = tt;
    }

pub returns-in-Err : goal.returns-in-Err
returns-in-Err g c =
    let work = c.args.work in
    let r = c.settle_together-book.result in
    let after = record work { lookup = record { book = r.0; queries = work.lookup.queries }; table = r.1 } in
    let left = rw c.has_several.ensures.same at (err_of r.2 c.in-Err.field-0 _ c.in-Err.is c.settle_together-book.ensures.err) in
    let legal = rw c.has_several.ensures.same at c.legal.ensures in
    record {
      ok = λ told. tt;
      stops = λ told accepts words. stops_settling c.args.look.now accepts work after told (subst (λ s. Legal s work.lookup.book.journal) c.requires.keeps.setting legal) c.requires.keeps.few_strays (ran_together work after left) words;
      fault = refl;
    }
