use Rattle.std.proofs.Common.{ℕ, ◌<◌, ◌+◌, List, Bool, length, drop, sym, subst, arith}
use Rattle.std.proofs.lemmas.Result.{err_from_is_err_and}
use Rattle.bucket_tree.specs.declared.node.Node.{Node}
use Rattle.bucket_tree.specs.States.{HasFront, IsGrown, states_of}
use Rattle.bucket_tree.proofs.Grafting.{none-front, states_at, states_end, passed, low-front, high-front, fork-grown, grown-more}
use Rattle.bucket_tree.proofs.rebuilt.+tree_of.Goals as goal

pub returns-then-at-rows-clause-unsound : goal.returns-then-at-rows-clause-unsound
returns-then-at-rows-clause-unsound t c =
    λ e f.
    let s = c.args.setting.now in
    none-front s.own s.k s.b c.args.path.now _ (states_end c.args.rows.now c.args.at (omega arith)) f

pub returns-in_err-node-clause-unsound : goal.returns-in_err-node-clause-unsound
returns-in_err-node-clause-unsound t c =
    let s = c.args.setting.now in
    let S = states_of c.args.rows.now in
    let at_row = states_at c.args.rows.now c.args.at c.index-rows-at.result (omega arith) c.index-rows-at.is in
    let p = err_from_is_err_and c.from_residual.result c.from_residual.ensures.1 in
    passed {U = Node} c.from_residual.result p.0 c.in_err-node.field-0.0 (HasFront s.own s.k s.b c.args.path.now (drop c.args.at S) → ⊥) p.1 p.2
    (λ fault f. c.in_err-node.ensures.unsound (drop (c.args.at + 1) S) fault (subst (HasFront s.own s.k s.b c.args.path.now) at_row f))

pub returns-then-len-clause-grown : goal.returns-then-len-clause-grown
returns-then-len-clause-grown t c =
    let s = c.args.setting.now in
    let at_row = states_at c.args.rows.now c.args.at c.index-rows-at.result (omega arith) c.index-rows-at.is in
    grown-more s.own s.k s.b c.args.path.now _ _ _ c.in_ok-node.node c.in_ok-node.ensures.grown at_row

pub returns-in_err-low-clause-unsound : goal.returns-in_err-low-clause-unsound
returns-in_err-low-clause-unsound t c =
    let s = c.args.setting.now in
    let R = drop c.args.at (states_of c.args.rows.now) in
    let at_row = states_at c.args.rows.now c.args.at c.index-rows-at.result (omega arith) c.index-rows-at.is in
    let longer : length c.args.path.now < length c.index-rows-at.result.prefix = omega (arith, c.len.ensures.count, c.len-2.ensures.count) in
    let p = err_from_is_err_and c.from_residual-in_err-low.result c.from_residual-in_err-low.ensures.1 in
    passed {U = Node × ℕ} c.from_residual-in_err-low.result p.0 c.in_err-low.field-0.0 (HasFront s.own s.k s.b c.args.path.now R → ⊥) p.1 p.2
    (λ fault f. c.in_err-low.ensures.unsound fault (subst (λ (q : List Bool). HasFront s.own s.k s.b q R) (sym c.child.ensures) (low-front s.own s.k s.b c.args.path.now _ R _ at_row longer f)))

pub returns-in_err-high-clause-unsound : goal.returns-in_err-high-clause-unsound
returns-in_err-high-clause-unsound t c =
    let s = c.args.setting.now in
    let S = states_of c.args.rows.now in
    let R = drop c.args.at S in
    let mid = drop c.in_ok-low.at S in
    let at_row = states_at c.args.rows.now c.args.at c.index-rows-at.result (omega arith) c.index-rows-at.is in
    let longer : length c.args.path.now < length c.index-rows-at.result.prefix = omega (arith, c.len.ensures.count, c.len-2.ensures.count) in
    let low = subst (λ (q : List Bool). IsGrown s.own s.k s.b q R c.in_ok-low.low mid) c.child.ensures c.in_ok-low.ensures.grown in
    let p = err_from_is_err_and c.from_residual-in_err-high.result c.from_residual-in_err-high.ensures.1 in
    passed {U = Node × ℕ} c.from_residual-in_err-high.result p.0 c.in_err-high.field-0.0 (HasFront s.own s.k s.b c.args.path.now R → ⊥) p.1 p.2
    (λ fault f. c.in_err-high.ensures.unsound fault (subst (λ (q : List Bool). HasFront s.own s.k s.b q mid) (sym c.child-2.ensures) (high-front s.own s.k s.b c.args.path.now _ R _ mid c.in_ok-low.low at_row longer low f)))

pub returns-clause-grown : goal.returns-clause-grown
returns-clause-grown t c =
    let s = c.args.setting.now in
    let S = states_of c.args.rows.now in
    let low = subst (λ (q : List Bool). IsGrown s.own s.k s.b q (drop c.args.at S) c.in_ok-low.low (drop c.in_ok-low.at S)) c.child.ensures c.in_ok-low.ensures.grown in
    let high = subst (λ (q : List Bool). IsGrown s.own s.k s.b q (drop c.in_ok-low.at S) c.in_ok-high.high (drop c.in_ok-high.at S)) c.child-2.ensures c.in_ok-high.ensures.grown in
    fork-grown s.own s.k s.b c.args.path.now (drop c.args.at S) (drop c.in_ok-low.at S) (drop c.in_ok-high.at S) c.in_ok-low.low c.in_ok-high.high c.in_ok-fork.field-0 low high c.in_ok-fork.ensures.rows
    (c.in_ok-fork.ensures.under c.args.path.now low.under high.under)
