use Rattle.std.proofs.Common.{◌≡◌, ap, length, filter, rules, arith}
use Rattle.std.proofs.lemmas.Fn.{filter_same}
use Rattle.aged_map.specs.PerHost.{is_of}
use Rattle.aged_map.proofs.hosted.clean.Goals as goal

pub returns-clause-kept : goal.returns-clause-kept
returns-clause-kept g c = filter_same _ (is_of g.K.Ord.cmp g.V.Hosted.host c.args.held.now c.args.host) _ (λ x b f' k. search rules) _ _ c.retain.ensures.filtered

pub returns-clause-count : goal.returns-clause-count
returns-clause-count g c =
    let kept : c.retain.new.self.items ≡ filter (is_of g.K.Ord.cmp g.V.Hosted.host c.args.held.now c.args.host) c.args.keys.now.items =
    filter_same _ (is_of g.K.Ord.cmp g.V.Hosted.host c.args.held.now c.args.host) _ (λ x b f' k. search rules) _ _ c.retain.ensures.filtered in
    let e = ap length kept in
    grind (arith, e)
