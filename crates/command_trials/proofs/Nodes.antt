-- Lists of contacts that a message can name.
use Rattle.std.proofs.Common.{◌≡◌, List, [], ◌∷◌, ◌++◌, subst, sym}
use Rattle.std.specs.List.{AllByRecursion}
use Rattle.kad_base.specs.declared.types.Contact.{Contact}
use Rattle.kad_krpc.specs.Form.{IsNode}

nodes_push : (xs : List Contact) (x : Contact) → AllByRecursion IsNode xs → IsNode x → AllByRecursion IsNode (xs ++ x ∷ [])
nodes_push [] x h p = (p, tt)
nodes_push (y ∷ xs) x h p = (h.0, nodes_push xs x h.1 p)

pub nodes_more : (xs ys : List Contact) (x : Contact) → ys ≡ xs ++ x ∷ [] → AllByRecursion IsNode xs → IsNode x → AllByRecursion IsNode ys
nodes_more xs ys x e h p = subst (AllByRecursion IsNode) (sym e) (nodes_push xs x h p)
