use Rattle.std.proofs.Common.{◌∙◌, take, subst, IfOk}
use Rattle.std.specs.Prelude.{OnErr}
use Rattle.node_serve.specs.Gathered.{AnswersAsked, EndsAsked, node_of}
use Rattle.node_serve.specs.NodeState.{NodeState}
use Rattle.node_serve.proofs.Ending.{answers_own}
use Rattle.node_serve.proofs.node.Node.answer_query.Goals as goal

pub respond-requires-clause-setting : goal.respond-requires-clause-setting
respond-requires-clause-setting g c = let i = c.self.invariant.node in record { some_nodes = i.some_nodes; few_nodes = i.few_nodes; proofs = i.proofs }

pub invariant_of-self : goal.invariant_of-self
invariant_of-self g c =
    let i = c.self.inside in
    let v = c.self.invariant.node in
    let all = answers_own (g.G.Seal.tag_of c.args.seal.now) i.setting i.held c.respond.new.hold c.args.asked.now c.args.at c.respond.new.out c.self.invariant.asks_nobody c.respond.result c.respond.ensures.ok c.respond.ensures.err in
    record { node = record { own = all.0 ∙ v.own; some_nodes = v.some_nodes; few_nodes = v.few_nodes; proofs = v.proofs }; asks_nobody = c.self.invariant.asks_nobody }

pub returns-clause-ok : goal.returns-clause-ok
returns-clause-ok g c =
    let i = c.self.inside in
    let tag_of = g.G.Seal.tag_of c.args.seal.now in
    let out = c.respond.new.out in
    let all = answers_own tag_of i.setting i.held c.respond.new.hold c.args.asked.now c.args.at out c.self.invariant.asks_nobody c.respond.result c.respond.ensures.ok c.respond.ensures.err in
    subst (λ (x : NodeState). IfOk c.respond.result (λ n. AnswersAsked tag_of x c.args.asked.now c.args.at (take n out) (node_of i.setting c.respond.new.hold))) c.self.view_is all.1

pub returns-clause-err : goal.returns-clause-err
returns-clause-err g c =
    let i = c.self.inside in
    let all = answers_own (g.G.Seal.tag_of c.args.seal.now) i.setting i.held c.respond.new.hold c.args.asked.now c.args.at c.respond.new.out c.self.invariant.asks_nobody c.respond.result c.respond.ensures.ok c.respond.ensures.err in
    subst (λ (x : NodeState). OnErr c.respond.result (EndsAsked x c.args.asked.now c.args.at (node_of i.setting c.respond.new.hold))) c.self.view_is all.2
