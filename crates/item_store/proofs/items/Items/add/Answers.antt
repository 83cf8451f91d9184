use Rattle.std.proofs.Common.{◌≡◌, ap, ◌∙◌}
use Rattle.kad_base.specs.Hosts.{host}
use Rattle.item_store.specs.Items.{key_of, with_item, with_entry}
use Rattle.item_store.proofs.Keeping.{kept_add}
use Rattle.item_store.proofs.items.Items.add.Goals as goal

pub invariant_of-self-2 : goal.invariant_of-self-2
invariant_of-self-2 c =
    let s = c.self.inside.held in
    let put = c.put.ensures in
    let key : c.item_key-key.result ≡ key_of c.args.v = c.item_key-key.ensures ∙ ap key_of c.as_slice.ensures in
    let is : c.put.new.held ≡ with_item s c.args.v c.args.from c.args.at = c.in-Ok.ensures.ok ∙ ap (λ k. with_entry s k c.args.v (host c.args.from) c.args.at) key in
    kept_add s c.put.new.held c.args.v c.args.from c.args.at c.self.invariant c.requires is put.sorted (put.few c.self.invariant.few) put.few_of_a_host
