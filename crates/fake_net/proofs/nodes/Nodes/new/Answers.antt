use Rattle.std.proofs.Common.{ℕ, ◌≡◌, ◌+◌, ap, sym, ◌∙◌, arith}
use Rattle.std.specs.Prelude.{map}
use Rattle.fake_net.specs.Network.{id_of, numbers}
use Rattle.fake_net.proofs.Choosing.{ids_one, network}
use Rattle.fake_net.proofs.nodes.Nodes.new.Goals as goal

pub loop-i-preserved : goal.loop-i-preserved
loop-i-preserved c = record {
  ids = ids_one c.args.seed.now c.loop-i.i c.from.result c.loop-i.ids.items c.push.new.self.items c.drawn_id-id.result c.loop-i.invariant.ids c.from.ensures c.drawn_id-id.ensures c.in_ok-push.ensures.items;
  long = c.in_ok-push.ensures.len ∙ ap (λ (n : ℕ). n + 1) c.loop-i.invariant.long;
}

pub invariant_of-result : goal.invariant_of-result
invariant_of-result c =
    let end : c.loop-i.i ≡ c.args.count = omega (arith, c.loop-i.auto.i-end, c.loop-i-test.false) in (
      c.loop-i.invariant.ids ∙ ap (λ (n : ℕ). map (id_of c.args.seed.now) (numbers n)) (sym c.loop-i.invariant.long),
      omega (arith, c.loop-i.invariant.long, end, c.requires),
    )

pub returns : goal.returns
returns c =
    let end : c.loop-i.i ≡ c.args.count = omega (arith, c.loop-i.auto.i-end, c.loop-i-test.false) in
    ap (network c.args.seed.now c.args.hostile) (c.loop-i.invariant.long ∙ end)
