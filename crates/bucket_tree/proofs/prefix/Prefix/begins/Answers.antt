use Rattle.std.proofs.Common.{◌≡◌, ℕ, ◌+◌, ◌-◌, ◌*◌, ◌/◌, ◌&&◌, List, Bool, true, false, ap, sym, ◌∙◌, arith, rules}
use Rattle.bucket_tree.proofs.ByBytes.{byte-alike, byte-unlike}
use Rattle.bucket_tree.specs.Partition.{bit, bits_from, id_bits, begins, same_bit}
use Rattle.bucket_tree.proofs.OneBit.{begins-start, begins-step, begins-end, id_bits-is, same_bit-alike, same_bit-unlike}
use Rattle.bucket_tree.proofs.prefix.Prefix.begins.Goals as goal

pub loop-byte-init : goal.loop-byte-init
loop-byte-init c =
    let p = c.self.inside.bits.0 in
    let len = c.self.inside.len in
    ap (λ (v : List Bool). begins v (id_bits c.args.id.now)) (sym c.self.view_is) ∙ ap (begins (bits_from len 0 p)) (id_bits-is c.args.id.now) ∙ sym (begins-start len p c.args.id.now.0)

pub loop-byte-preserved : goal.loop-byte-preserved
loop-byte-preserved c = c.loop-byte.invariant ∙ byte-alike c.self.inside.len c.loop-byte.byte c.self.inside.bits.0 c.args.id.now.0 c.loop-byte-test.true c.self.invariant.short c.if-self-byte.false

pub returns-then-self-byte : goal.returns-then-self-byte
returns-then-self-byte c =
    sym (c.loop-byte.invariant ∙ byte-unlike c.self.inside.len c.loop-byte.byte c.self.inside.bits.0 c.args.id.now.0 c.loop-byte-test.true (λ i. search rules) (λ i. search rules) c.if-self-byte.true)

pub loop-at-init : goal.loop-at-init
loop-at-init c =
    let p = c.self.inside.bits.0 in
    let w = c.args.id.now.0 in
    let len = c.self.inside.len in
    let end : 8 * c.loop-byte.byte ≡ len / 8 * 8 = omega arith in
    c.loop-byte.invariant ∙ ap (λ (x : ℕ). begins (bits_from (len - x) x p) (bits_from (160 - x) x w)) end

pub loop-at-preserved : goal.loop-at-preserved
loop-at-preserved c =
    let p = c.self.inside.bits.0 in
    let w = c.args.id.now.0 in
    let len = c.self.inside.len in
    let at = c.loop-at.at in
    let alike : same_bit (bit p at) (bit w at) ≡ true = same_bit-alike _ _ _ _ c.bit.ensures c.bit-in-loop-at.ensures c.if-bit.false in
    c.loop-at.invariant ∙ begins-step len at p w c.loop-at-test.true c.self.invariant.short
    ∙ ap (λ (t : Bool). t && begins (bits_from (len - (at + 1)) (at + 1) p) (bits_from (160 - (at + 1)) (at + 1) w)) alike

pub returns-then-bit : goal.returns-then-bit
returns-then-bit c =
    let p = c.self.inside.bits.0 in
    let w = c.args.id.now.0 in
    let len = c.self.inside.len in
    let at = c.loop-at.at in
    let unlike : same_bit (bit p at) (bit w at) ≡ false = same_bit-unlike _ _ _ _ c.bit.ensures c.bit-in-loop-at.ensures c.if-bit.true in
    sym (
    c.loop-at.invariant ∙ begins-step len at p w c.loop-at-test.true c.self.invariant.short
    ∙ ap (λ (t : Bool). t && begins (bits_from (len - (at + 1)) (at + 1) p) (bits_from (160 - (at + 1)) (at + 1) w)) unlike
    )

pub returns : goal.returns
returns c = sym (c.loop-at.invariant ∙ begins-end c.self.inside.len c.loop-at.at c.self.inside.bits.0 c.args.id.now.0 c.loop-at-test.false)
