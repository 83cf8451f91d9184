-- A content that is told, which two calls in turn added to, or took from: what both did, in order.
use Rattle.std.proofs.Common.{◌≡◌, List, ◌++◌, [], Option, Some, None, refl, sym, ap, ◌∙◌}
use Rattle.std.proofs.lemmas.List.{append_assoc, append-nil}
use Rattle.kad_base.specs.Outside.{Added, Grows}

-- what two calls added, one after the other
pub added_then : {A : Type 0} (a b : Option (List A)) (l : List A) (P Q R : List A → Type 0) → Grows a b P → Added b l Q → ((t u : List A) → P t → Q u → R (t ++ u)) → Added a l R
added_then a None l P Q R g h f = let e = h.was in absurd cc
added_then {A} a (Some m) l P Q R g h f =
    let e : m ≡ h.before = (let w = h.was in cc) in
    record {
      before = g.before;
      added = g.added ++ h.added;
      was = g.was;
      sum_is = h.sum_is ∙ ap (λ (x : List A). x ++ h.added) (sym e ∙ g.sum_is) ∙ append_assoc g.before g.added h.added;
      holds = f g.added h.added g.holds h.holds;
    }

pub grows_then : {A : Type 0} (a b c : Option (List A)) (P Q R : List A → Type 0) → Grows a b P → Grows b c Q → ((t u : List A) → P t → Q u → R (t ++ u)) → Grows a c R
grows_then a b None P Q R g h f = tt
grows_then a b (Some l) P Q R g h f = added_then a b l P Q R g h f

pub grows_weaker : {A : Type 0} (a b : Option (List A)) (P Q : List A → Type 0) → Grows a b P → ((t : List A) → P t → Q t) → Grows a b Q
grows_weaker a None P Q g f = tt
grows_weaker a (Some l) P Q g f = record { before = g.before; added = g.added; was = g.was; sum_is = g.sum_is; holds = f g.added g.holds }

-- nothing was added
pub grows_none : {A : Type 0} (a : Option (List A)) (P : List A → Type 0) → P [] → Grows a a P
grows_none None P p = tt
grows_none (Some l) P p = record { before = l; added = []; was = refl; sum_is = sym (append-nil l); holds = p }
