use Rattle.std.proofs.Common.{◌≡◌, ◌≢◌, List, Bool, true, false, not, refl, length, ap, ◌∙◌, subst, arith}
use Rattle.std.specs.List.{All}
use Rattle.bucket_tree.specs.declared.types.Live.{Live}
use Rattle.bucket_tree.specs.Partition.{id_bits}
use Rattle.bucket_tree.specs.Rows.{RowState}
use Rattle.bucket_tree.proofs.RowKept.{two-ids}
use Rattle.bucket_tree.proofs.bucket.Bucket.needs_split.Goals as goal

not_one : (b : Bool) → not b ≡ true → b ≡ false
not_one true e = absurd cc
not_one false e = refl

pub returns-clause-two : goal.returns-clause-two
returns-clause-two c =
    λ it_does.
    let live : c.self.inside.live.items ≡ c.args.self.now.live = ap (λ (r : RowState). r.live) c.self.view_is in
    let apart = subst (λ (l : List Live). All (λ (e : Live). id_bits e.contact.id ≢ id_bits c.args.id.now) l) (c.as_slice.ensures.value ∙ live) (c.has_id.ensures.apart (not_one c.has_id.result it_does)) in
    two-ids c.args.self.now.prefix c.args.self.now.live c.args.id.now (omega (arith, c.len.ensures, ap length live, c.requires.some_live)) c.requires.covered c.requires.covers apart
