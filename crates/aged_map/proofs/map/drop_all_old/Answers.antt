use Rattle.std.proofs.Common.{rules}
use Rattle.std.proofs.lemmas.Map.Made.{filter_same_pairs}
use Rattle.aged_map.specs.Ages.{is_young}
use Rattle.aged_map.proofs.map.drop_all_old.Goals as goal

pub returns-clause-kept : goal.returns-clause-kept
returns-clause-kept g c = filter_same_pairs _ (λ e. is_young c.args.age c.args.at (g.V.Aged.moment e.1)) _ (λ k v b w f' t. search rules) _ _ c.retain.ensures.filtered
