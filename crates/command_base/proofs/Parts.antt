-- Fronts of a text that is written, and of an input that is read.
use Rattle.std.proofs.Common.{◌≡◌, ℕ, ◌+◌, ◌-◌, ◌<◌, ◌≤◌, List, [], ◌∷◌, ◌++◌, length, take, drop, get_or, Option, Some, None, inl, inr, refl, sym, ap, subst, ◌∙◌, arith}
use Rattle.std.proofs.lemmas.List.{take-append-drop, append-nil, length-drop, take_more}
use Rattle.std.proofs.Math.Seq.{take-length}
use Rattle.kad_base.specs.declared.types.Family.{Family}
use Rattle.kad_base.specs.Limits.{max_input}
use Rattle.kad_base.specs.declared.types.Id.{Id}
use Rattle.kad_base.specs.declared.types.Contact.{Contact}
use Rattle.kad_base.specs.declared.types.Report.{Report}
use Rattle.kad_base.specs.declared.types.Policy.{Policy}
use Rattle.kad_base.specs.Outside.{Shrinks}
use Rattle.command_base.specs.Written.{IsFront}
use Rattle.command_base.specs.Input.{ReadsAtMost, IsAdmitted, Admits, AdmitsOne, IsKept, Keeps, KeepsOne}

pub front : (all : List ℕ) (n : ℕ) (t u : List ℕ) → t ≡ take n all → u ≡ [] → IsFront (t ++ u) all
front all n t u p q = (drop n all, ap (λ l. (t ++ l) ++ drop n all) q ∙ ap (λ l. l ++ drop n all) (append-nil t ∙ p) ∙ take-append-drop n all)

-- what is left is as long as it is
pub rest_whole : (all : List ℕ) (at : ℕ) → take (length all - at) (drop at all) ≡ drop at all
rest_whole all at = ap (λ n. take n (drop at all)) (sym (length-drop at all)) ∙ take-length (drop at all)

-- no more was read than one byte more than may be
pub at_most : (a c : Option (List ℕ)) (front : List ℕ) → Shrinks a c front → length front ≤ max_input + 1 → ReadsAtMost a c
at_most a None front h few = tt
at_most a (Some rest) front h few = (front, few, h)

-- and where nothing was read neither
pub unread_at_most : (old new : Option (List ℕ)) → new ≡ old → ReadsAtMost old new
unread_at_most old None same = tt
unread_at_most old (Some rest) same = ([], grind arith, sym same)

-- one report more
pub admits_more : (own : Id) (family : Family) (policy : Policy) (rs : List Report) (cs : List Contact) (r : Report) → Admits own family policy rs cs → IsAdmitted own family policy r → Admits own family policy (rs ++ r ∷ []) (cs ++ r.contact ∷ [])
admits_more own family policy [] cs r h ok = inl ([], ap (λ l. l ++ r.contact ∷ []) h, ok, refl)
admits_more own family policy (x ∷ rs) cs r h ok =
    elim h [
      | inl a ↦ inl (a.0 ++ r.contact ∷ [], ap (λ l. l ++ r.contact ∷ []) a.1, a.2, admits_more own family policy rs a.0 r a.3 ok)
      | inr b ↦ inr (b.0, admits_more own family policy rs cs r b.1 ok)
    ]

pub admits_not : (own : Id) (family : Family) (policy : Policy) (rs : List Report) (cs : List Contact) (r : Report) → Admits own family policy rs cs → ¬ IsAdmitted own family policy r → Admits own family policy (rs ++ r ∷ []) cs
admits_not own family policy [] cs r h n = inr (n, h)
admits_not own family policy (x ∷ rs) cs r h n =
    elim h [
      | inl a ↦ inl (a.0, a.1, a.2, admits_not own family policy rs a.0 r a.3 n)
      | inr b ↦ inr (b.0, admits_not own family policy rs cs r b.1 n)
    ]

pub admits_one : (own : Id) (family : Family) (policy : Policy) (rs : List Report) (i : ℕ) (d : Report) (old new : List Contact) → i < length rs → Admits own family policy (take i rs) old → AdmitsOne own family policy (get_or rs i d) old new → Admits own family policy (take (i + 1) rs) new
admits_one own family policy rs i d old new lt h one =
    subst (λ l. Admits own family policy l new) (sym (take_more rs i d lt))
    (elim one [
      | inl a ↦ subst (λ l. Admits own family policy (take i rs ++ get_or rs i d ∷ []) l) (sym a.1) (admits_more own family policy (take i rs) old (get_or rs i d) h a.0)
      | inr b ↦ subst (λ l. Admits own family policy (take i rs ++ get_or rs i d ∷ []) l) (sym b.1) (admits_not own family policy (take i rs) old (get_or rs i d) h b.0)
    ])

-- the same of the reports that are kept
keeps_more : (own : Id) (family : Family) (policy : Policy) (rs kept : List Report) (r : Report) → Keeps own family policy rs kept → IsKept own family policy r → Keeps own family policy (rs ++ r ∷ []) (kept ++ r ∷ [])
keeps_more own family policy [] kept r h ok = inl ([], ap (λ (l : List Report). l ++ r ∷ []) h, ok, refl)
keeps_more own family policy (x ∷ rs) kept r h ok =
    elim h [
      | inl a ↦ inl (a.0 ++ r ∷ [], ap (λ (l : List Report). l ++ r ∷ []) a.1, a.2, keeps_more own family policy rs a.0 r a.3 ok)
      | inr b ↦ inr (b.0, keeps_more own family policy rs kept r b.1 ok)
    ]

keeps_not : (own : Id) (family : Family) (policy : Policy) (rs kept : List Report) (r : Report) → Keeps own family policy rs kept → ¬ IsKept own family policy r → Keeps own family policy (rs ++ r ∷ []) kept
keeps_not own family policy [] kept r h n = inr (n, h)
keeps_not own family policy (x ∷ rs) kept r h n =
    elim h [
      | inl a ↦ inl (a.0, a.1, a.2, keeps_not own family policy rs a.0 r a.3 n)
      | inr b ↦ inr (b.0, keeps_not own family policy rs kept r b.1 n)
    ]

pub keeps_one : (own : Id) (family : Family) (policy : Policy) (rs : List Report) (i : ℕ) (d : Report) (old new : List Report) → i < length rs → Keeps own family policy (take i rs) old → KeepsOne own family policy (get_or rs i d) old new → Keeps own family policy (take (i + 1) rs) new
keeps_one own family policy rs i d old new lt h one =
    subst (λ l. Keeps own family policy l new) (sym (take_more rs i d lt))
    (elim one [
      | inl a ↦ subst (λ l. Keeps own family policy (take i rs ++ get_or rs i d ∷ []) l) (sym a.1) (keeps_more own family policy (take i rs) old (get_or rs i d) h a.0)
      | inr b ↦ subst (λ l. Keeps own family policy (take i rs ++ get_or rs i d ∷ []) l) (sym b.1) (keeps_not own family policy (take i rs) old (get_or rs i d) h b.0)
    ])
