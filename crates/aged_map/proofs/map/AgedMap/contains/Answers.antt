use Rattle.std.proofs.Common.{sym, ap, ◌∙◌}
use Rattle.std.specs.BTreeMap.{is_at}
use Rattle.std.specs.List.{list_any}
use Rattle.std.specs.Map.{keys_of}
use Rattle.std.proofs.lemmas.Map.Made.{is_some-lookup}
use Rattle.aged_map.proofs.map.AgedMap.contains.Goals as goal

pub returns : goal.returns
returns g c =
    let test = is_at (g.K.Ord.cmp c.args.key.now) in
    let e = c.contains_key.ensures ∙ is_some-lookup test c.self.inside.held.entries ∙ ap (λ h. list_any test (keys_of h)) c.self.view_is in
    (λ h. sym e ∙ h, λ h. e ∙ h)
