use Rattle.std.proofs.Common.{sym, ap, ◌∙◌}
use Rattle.std.specs.List.{list_any}
use Rattle.kad_base.specs.declared.types.Contact.{Contact}
use Rattle.bucket_tree.specs.declared.types.Live.{Live}
use Rattle.bucket_tree.specs.Rows.{RowState, contact_of, same_id}
use Rattle.bucket_tree.proofs.Counted.{any-map}
use Rattle.bucket_tree.proofs.bucket.Bucket.knows_id.Goals as goal

pub returns : goal.returns
returns c =
    let id = c.args.id.now in
    c.has_id.ensures.known ∙ ap (list_any (λ (e : Live). same_id e.contact.id id)) (c.as_slice.ensures.value ∙ ap (λ (r : RowState). r.live) c.self.view_is)
    ∙ sym (any-map contact_of (λ (x : Contact). same_id x.id id) c.args.self.now.live)
