use Rattle.std.proofs.Common.{rules, tests, sym, ◌∙◌}
use Rattle.std.proofs.lemmas.Iterator.{YieldsList-from_slice}
use Rattle.std.proofs.lemmas.Iterator.Search.{any_from_yields_List}
use Rattle.kad_base.specs.Contacts.{same}
use Rattle.bucket_tree.specs.Rows.{contact_of}
use Rattle.bucket_tree.proofs.Counted.{any-map}
use Rattle.bucket_tree.proofs.entries.has.Goals as goal

pub returns : goal.returns
returns c =
    any_from_yields_List (λ e. same c.args.contact.now e.contact) _ _ _ c.any.ensures.ran (YieldsList-from_slice c.args.entries.now cc) (λ x b q k. search (rules, tests))
    ∙ sym (any-map contact_of (same c.args.contact.now) c.args.entries.now)
