use Rattle.std.proofs.Common.{rules}
use Rattle.std.specs.Map.{keys_of}
use Rattle.std.proofs.lemmas.Map.Keys.{IsDistinct-from_sorted}
use Rattle.aged_map.specs.PerHost.{host_cmp, is_of}
use Rattle.aged_map.proofs.Telling.{told_kept}
use Rattle.aged_map.proofs.hosted.make_anew.Goals as goal

pub returns : goal.returns
returns g c =
    told_kept (is_of g.K.Ord.cmp g.V.Hosted.host c.args.held.now) _ _ (λ h v b w f' t. search rules) c.args.index.now.entries c.retain.new.self.entries
    (IsDistinct-from_sorted host_cmp (keys_of c.args.index.now.entries) c.retain.ensures.was_ordered) c.retain.ensures.filtered
