use Rattle.std.proofs.Common.{◌≡◌, ◌-◌, false, length, replicate, ◌++◌, sym, ap, ◌∙◌, arith}
use Rattle.std.proofs.lemmas.Bool.Decides.{Decides-eqb}
use Rattle.bucket_tree.specs.Partition.{begins}
use Rattle.bucket_tree.proofs.OneBit.{len-is, stored-bits}
use Rattle.bucket_tree.proofs.Spelled.{begun-same, same-begun}
use Rattle.bucket_tree.proofs.prefix.Prefix.is.Goals as goal

pub returns-then-self-other : goal.returns-then-self-other
returns-then-self-other c =
    let p = c.args.self.now in
    let q = c.args.other.now in
    let l = len-is c.self.inside.len c.self.inside.bits.0 p c.self.view_is in
    let m = len-is c.other.inside.len c.other.inside.bits.0 q c.other.view_is in
    let stored = stored-bits c.other.inside.bits c.other.inside.len q c.other.view_is c.other.invariant in
    let is : c.begins.result ≡ begins p (q ++ replicate (160 - length q) false) = c.begins.ensures ∙ ap (begins p) stored in
    let same : c.self.inside.len ≡ c.other.inside.len = c.if-self-other.true in
    let long : length p ≡ length q = omega (arith, l, m, same) in
    ((λ yes. begun-same p q (replicate (160 - length q) false) long (sym is ∙ yes)), λ e. is ∙ same-begun p q (replicate (160 - length q) false) e)

pub returns-else-self-other : goal.returns-else-self-other
returns-else-self-other c =
    let p = c.args.self.now in
    let q = c.args.other.now in
    let l = len-is c.self.inside.len c.self.inside.bits.0 p c.self.view_is in
    let m = len-is c.other.inside.len c.other.inside.bits.0 q c.other.view_is in
    let d = Decides-eqb c.self.inside.len c.other.inside.len in
    (λ yes. absurd (c.if-self-other.false (d.0 yes)), λ e. d.1 (l ∙ ap length e ∙ sym m))
