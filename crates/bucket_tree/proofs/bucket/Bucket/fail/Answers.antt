use Rattle.std.proofs.Common.{◌≡◌, ◌≤◌, ◌<◌, List, length, vec_capacity, ap, sym, subst, ◌∙◌, arith}
use Rattle.std.specs.Prelude.{find, option_map}
use Rattle.std.specs.List.{All}
use Rattle.kad_base.specs.Contacts.{same}
use Rattle.bucket_tree.specs.declared.types.Live.{Live}
use Rattle.bucket_tree.specs.Refills.{Refilled}
use Rattle.bucket_tree.specs.Rows.{RowState}
use Rattle.bucket_tree.specs.BucketSteps.{RowFailed}
use Rattle.bucket_tree.proofs.RowKept.{row_of, refilled, failed-room}
use Rattle.bucket_tree.proofs.bucket.Bucket.fail.Goals as goal

pub refill-requires : goal.refill-requires
refill-requires c =
    let x = c.args.contact.now in
    let live = c.self.inside.live.items in
    let room : vec_capacity c.take_out.new.entries ≡ vec_capacity c.self.inside.live = c.take_out.ensures.capacity in
    let fewer : length c.take_out.new.entries.items < vec_capacity c.self.inside.live =
    failed-room x live c.take_out.new.entries.items (vec_capacity c.self.inside.live) c.in-Some.field-0
    (ap (λ (l : List Live). option_map (λ (e : Live). e.failures) (find (λ (e : Live). same x e.contact) l)) (sym c.as_slice.ensures.value) ∙ sym c.failures.ensures ∙ c.in-Some.is)
    c.take_out.ensures.items c.self.invariant in
    grind arith

pub returns-in-Some : goal.returns-in-Some
returns-in-Some c =
    let x = c.args.contact.now in
    let live = c.self.inside.live.items in
    let spares = c.self.inside.spares.items in
    let found = ap (λ (l : List Live). option_map (λ (e : Live). e.failures) (find (λ (e : Live). same x e.contact) l)) (sym c.as_slice.ensures.value) ∙ sym c.failures.ensures ∙ c.in-Some.is in
    let once = subst (λ (r : RowState). All (λ (e : Live). e.failures ≤ 1) r.live) (sym c.self.view_is) c.requires in
    let put = subst (λ (l : List Live). Refilled l spares c.refill.result c.refill.new.live.items c.refill.new.spares.items) c.take_out.ensures.items c.refill.ensures.refilled in
    let row = row_of c.self.inside.prefix live spares in
    let after = row_of c.self.inside.prefix c.refill.new.live.items c.refill.new.spares.items in
    subst (λ (r : RowState). RowFailed x r c.refill.result after) c.self.view_is
    (refilled x row c.in-Some.field-0 c.refill.new.live.items c.refill.new.spares.items c.refill.result found c.in-Some.field-0-test.1 once put)
