-- No identifier twice, as one test from the front of a list.
use Rattle.std.proofs.Common.{◌≡◌, ◌≤◌, ◌&&◌, List, [], ◌∷◌, length, Bool, true, false, cond, not, refl, ap, subst, ◌∙◌, arith}
use Rattle.std.specs.Prelude.{filter}
use Rattle.std.specs.List.{list_any}
use Rattle.kad_base.specs.declared.types.Id.{Id}
use Rattle.kad_base.specs.declared.types.Contact.{Contact}
use Rattle.bucket_tree.specs.Rows.{same_id, IsOnce}
use Rattle.bucket_tree.specs.States.{distinct}
use Rattle.bucket_tree.proofs.Begun.{and_left, and_right}
use Rattle.bucket_tree.proofs.Every.{count-none, any-count}
use Rattle.bucket_tree.proofs.Ids.{same_id-exact, same_id-itself}

abbrev has_id : Id → Contact → Bool
has_id id c = same_id c.id id

not_true : (b : Bool) → not b ≡ true → b ≡ false
not_true true e = absurd cc
not_true false e = refl

pub distinct-once : (cs : List Contact) → distinct cs ≡ true → (id : Id) → IsOnce cs id
distinct-once [] e id = omega arith
distinct-once (c ∷ cs) e id = go (has_id id c) refl (distinct-once cs (and_right _ _ e) id)
  where
    go : (t : Bool) → has_id id c ≡ t → length (filter (has_id id) cs) ≤ 1 → length (cond t (c ∷ filter (has_id id) cs) (filter (has_id id) cs)) ≤ 1
    go true is le =
        let same : c.id ≡ id = same_id-exact c.id id is in
        let none_ : list_any (has_id c.id) cs ≡ false = not_true _ (and_left _ _ e) in
        let n : length (filter (has_id id) cs) ≡ 0 = count-none (has_id id) cs (subst (λ (x : Id). list_any (has_id x) cs ≡ false) same none_) in
        omega (arith, n)
    go false is le = le

once-head : (c : Contact) (cs : List Contact) → ((id : Id) → IsOnce (c ∷ cs) id) → list_any (has_id c.id) cs ≡ false
once-head c cs f = go (list_any (has_id c.id) cs) refl
  where
    two : (t : Bool) → t ≡ true → length (cond t (c ∷ filter (has_id c.id) cs) (filter (has_id c.id) cs)) ≤ 1 → 1 ≤ length (filter (has_id c.id) cs) → ⊥
    two true e le more = omega arith
    two false e le more = absurd cc

    go : (t : Bool) → list_any (has_id c.id) cs ≡ t → t ≡ false
    go true e = absurd (two (has_id c.id c) (same_id-itself c.id) (f c.id) (any-count (has_id c.id) cs e))
    go false e = refl

once-tail : (c : Contact) (cs : List Contact) → ((id : Id) → IsOnce (c ∷ cs) id) → (id : Id) → IsOnce cs id
once-tail c cs f id = go (has_id id c) (f id)
  where
    go : (t : Bool) → length (cond t (c ∷ filter (has_id id) cs) (filter (has_id id) cs)) ≤ 1 → length (filter (has_id id) cs) ≤ 1
    go true le = omega arith
    go false le = le

pub once-distinct : (cs : List Contact) → ((id : Id) → IsOnce cs id) → distinct cs ≡ true
once-distinct [] f = refl
once-distinct (c ∷ cs) f = ap (λ (t : Bool). not t && distinct cs) (once-head c cs f) ∙ once-distinct cs (once-tail c cs f)
