use Rattle.std.proofs.Common.{◌≡◌, Bool, true, false, ap, below_more, arith}
use Rattle.claim_book.specs.State.{BookState}
use Rattle.claim_book.specs.RunOut.{RunOut}
use Rattle.claim_book.proofs.state.Book.first_running.Goals as goal

clash : (b : Bool) → b ≡ false → b ≡ true → ⊥
clash b e f = absurd cc

pub returns-then-not-has_run_out : goal.returns-then-not-has_run_out
returns-then-not-has_run_out c = record {
  is_path = (let a = ap (λ (b : BookState). b.setting.paths) c.self.view_is in let b = c.loop-path-test.true in omega arith);
  not_run_out = λ over. clash c.has_run_out.result c.if-not-has_run_out.true (c.has_run_out.ensures.1 over);
  before = c.loop-path.invariant;
}

pub loop-path-preserved : goal.loop-path-preserved
loop-path-preserved c = below_more (λ p. RunOut c.args.self.now.setting p c.args.self.now.journal) c.loop-path.path c.loop-path.invariant (c.has_run_out.ensures.0 c.if-not-has_run_out.false)

pub returns : goal.returns
returns c = λ p lt. c.loop-path.invariant p (let a = ap (λ (b : BookState). b.setting.paths) c.self.view_is in let b = c.loop-path-test.false in omega arith)
