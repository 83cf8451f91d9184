use Rattle.std.proofs.Common.{rules, tests}
use Rattle.std.proofs.lemmas.Iterator.{YieldsList-from_slice}
use Rattle.std.proofs.lemmas.Iterator.Search.{any_from_yields_List}
use Rattle.kad_base.specs.Contacts.{same}
use Rattle.bucket_tree.proofs.nearest.is_there.Goals as goal

pub returns : goal.returns
returns c = any_from_yields_List (same c.args.contact.now) _ _ _ c.any.ensures.ran (YieldsList-from_slice c.args.near.now cc) (λ x b q k. search (rules, tests))
