use Rattle.std.proofs.Common.{◌≡◌, ◌∷◌, [], List, length, get_or, refl, sym, subst, ap, ◌∙◌}
use Rattle.std.specs.List.{All}
use Rattle.kad_base.specs.declared.types.Contact.{Contact}
use Rattle.kad_distance.specs.Order.{IsCloser}
use Rattle.bucket_tree.proofs.Every.{all-one}
use Rattle.kad_distance.proofs.Stays.{closest_full}
use Rattle.bucket_tree.proofs.nearest.offer.Goals as goal

pub returns-then-is_beyond-clause-items : goal.returns-then-is_beyond-clause-items
returns-then-is_beyond-clause-items c =
    let x = c.args.contact.now in
    let near = c.args.near.now.items in
    let full : length near ≡ c.args.k = ap length (sym c.as_slice.ensures.value) ∙ c.if-is_beyond.ensures.full refl in
    let farther : All (λ (a : Contact). IsCloser c.args.target.now a x) near = subst (λ (l : List Contact). All (λ (a : Contact). IsCloser c.args.target.now a x) l) c.as_slice.ensures.value (c.if-is_beyond.ensures.farther refl) in
    closest_full c.args.target.now c.args.k near (x ∷ []) c.requires.sorted full (λ i d lt. all-one (λ (b : Contact). IsCloser c.args.target.now (get_or near i d) b) x (farther i d lt))
