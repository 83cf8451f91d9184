use Rattle.std.proofs.Common.{◌≡◌, ◌<◌, length, ap, sym, ◌∙◌, arith, ◌∷◌, [], ◌++◌, Bool}
use Rattle.bucket_tree.proofs.OneBit.{len-is, child-one, child-zero}
use Rattle.bucket_tree.proofs.prefix.Prefix.child.Goals as goal

pub with_bit-requires : goal.with_bit-requires
with_bit-requires c =
    let l : c.self.inside.len ≡ length c.args.self.now = len-is c.self.inside.len c.self.inside.bits.0 c.args.self.now c.self.view_is in
    omega arith

pub returns-then-one : goal.returns-then-one
returns-then-one c =
    let l : c.self.inside.len ≡ length c.args.self.now = len-is c.self.inside.len c.self.inside.bits.0 c.args.self.now c.self.view_is in
    let lt : c.self.inside.len < 160 = omega arith in
    child-one c.self.inside.bits.0 c.with_bit.result.0 c.self.inside.len c.args.self.now c.self.view_is c.with_bit.ensures.here c.with_bit.ensures.others lt
    ∙ ap (λ (x : Bool). c.args.self.now ++ x ∷ []) (sym c.if-one.true)

pub invariant_of-result-2 : goal.invariant_of-result-2
invariant_of-result-2 c =
    let l : c.self.inside.len ≡ length c.args.self.now = len-is c.self.inside.len c.self.inside.bits.0 c.args.self.now c.self.view_is in
    record { short = omega arith; clear = λ i from below. c.self.invariant.clear i (omega arith) below }

pub returns : goal.returns
returns c =
    let l : c.self.inside.len ≡ length c.args.self.now = len-is c.self.inside.len c.self.inside.bits.0 c.args.self.now c.self.view_is in
    let lt : c.self.inside.len < 160 = omega arith in
    child-zero c.self.inside.bits.0 c.self.inside.len c.args.self.now c.self.view_is c.self.invariant lt
    ∙ ap (λ (x : Bool). c.args.self.now ++ x ∷ []) (sym c.if-one.false)
