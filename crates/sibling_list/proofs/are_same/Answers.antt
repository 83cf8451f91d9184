use Rattle.std.proofs.Common.{◌≡◌, List, true, sym, subst, ◌∙◌}
use Rattle.std.specs.Cmp.Lexicographic.{pointwise}
use Rattle.kad_base.specs.declared.types.Contact.{Contact}
use Rattle.kad_base.specs.contracts.types.ContactPartialEq.TheImpl as contact_eq
use Rattle.sibling_list.proofs.Equals.{lists_exact, lists_itself}
use Rattle.sibling_list.proofs.are_same.Goals as goal

pub returns : goal.returns
returns c = (
  λ e. lists_exact c.args.a.now c.args.b.now (sym c.eq.ensures ∙ e),
  λ e. c.eq.ensures ∙ subst (λ (l : List Contact). pointwise (contact_eq.ghosts).eq c.args.a.now l ≡ true) e (lists_itself c.args.a.now),
)
