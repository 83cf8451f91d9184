use Rattle.std.proofs.Common.{rules, ◌≡◌, take, IfOk}
use Rattle.std.specs.Prelude.{OnErr}
use Rattle.node_serve.specs.Responses.{RepliesTo, StopsAt}
use Rattle.node_serve.proofs.Responding.{ended_through}
use Rattle.serve_crew.specs.Hands.{does}
use Rattle.serve_crew.proofs.worker.ServeWorker.answer_query.Goals as goal

pub returns-clause-ok : goal.returns-clause-ok
returns-clause-ok g c =
    let s = c.args.desk.now.setting.now in
    let asked = c.args.asked.now in
    let tag_of = g.G.Seal.tag_of c.args.seal.now in
    let out = c.respond.new.out in
    let r = c.respond.result in
    let old = c.args.self.now in
    let hold = c.respond.new.hold in
    let all : (hold.worker.ghost_name ≡ _) × IfOk r (λ n. RepliesTo does tag_of s asked c.args.at (take n out) old hold.worker.now) × OnErr r (StopsAt does s asked c.args.at old hold.worker.now) =
    ended_through (λ h. h.worker.ghost_name) (λ h. h.worker.now) _ does (λ a b d h. h) s asked c.args.at _ hold tag_of out r c.respond.ensures.ok c.respond.ensures.err in
    let name = all.0 in
    let ok = all.1 in
    search rules

pub returns-clause-err : goal.returns-clause-err
returns-clause-err g c =
    let s = c.args.desk.now.setting.now in
    let asked = c.args.asked.now in
    let tag_of = g.G.Seal.tag_of c.args.seal.now in
    let out = c.respond.new.out in
    let r = c.respond.result in
    let old = c.args.self.now in
    let hold = c.respond.new.hold in
    let all : (hold.worker.ghost_name ≡ _) × IfOk r (λ n. RepliesTo does tag_of s asked c.args.at (take n out) old hold.worker.now) × OnErr r (StopsAt does s asked c.args.at old hold.worker.now) =
    ended_through (λ h. h.worker.ghost_name) (λ h. h.worker.now) _ does (λ a b d h. h) s asked c.args.at _ hold tag_of out r c.respond.ensures.ok c.respond.ensures.err in
    let name = all.0 in
    let err = all.2 in
    search rules
