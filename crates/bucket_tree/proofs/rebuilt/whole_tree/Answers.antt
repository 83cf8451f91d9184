use Rattle.std.proofs.Common.{ℕ, List, Bool, drop, sym, subst}
use Rattle.std.proofs.lemmas.Result.{err_from_is_err_and}
use Rattle.bucket_tree.specs.declared.node.Node.{Node}
use Rattle.bucket_tree.specs.Rows.{SoundRows}
use Rattle.bucket_tree.specs.States.{HasFront, IsGrown, states_of}
use Rattle.bucket_tree.proofs.Hanging.{sound-front}
use Rattle.bucket_tree.proofs.Grafting.{some-left, states_left, passed}
use Rattle.bucket_tree.proofs.rebuilt.whole_tree.Goals as goal

pub returns-in_err-root-clause-unsound : goal.returns-in_err-root-clause-unsound
returns-in_err-root-clause-unsound c =
    let s = c.args.setting.now in
    let S = states_of c.args.rows.now in
    let p = err_from_is_err_and c.from_residual.result c.from_residual.ensures.1 in
    passed {U = Node × ℕ} c.from_residual.result p.0 c.in_err-root.field-0.0 (SoundRows s.own s.k s.b S → ⊥) p.1 p.2
    (λ fault sound. c.in_err-root.ensures.unsound fault (subst (λ (q : List Bool). HasFront s.own s.k s.b q (drop 0 S)) (sym c.empty.ensures) (sound-front s.own s.k s.b S sound)))

pub returns-then-used-rows-clause-unsound : goal.returns-then-used-rows-clause-unsound
returns-then-used-rows-clause-unsound c =
    λ e sound.
    let s = c.args.setting.now in
    let S = states_of c.args.rows.now in
    let left = drop c.in_ok-root.used S in
    let grown = subst (λ (q : List Bool). IsGrown s.own s.k s.b q (drop 0 S) c.in_ok-root.root left) c.empty.ensures c.in_ok-root.ensures.grown in
    some-left s.own s.k s.b S left c.in_ok-root.root grown (states_left c.args.rows.now c.in_ok-root.used c.if-used-rows.true) sound
