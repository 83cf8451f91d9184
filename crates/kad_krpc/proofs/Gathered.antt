-- Values gathered one after another.
use Rattle.std.proofs.Common.{◌≡◌, ℕ, Bool, true, false, cond, List, ◌∷◌, Option, Some, None, IsTrue, ◌↔◌, refl, sym, ap, ◌∙◌, subst}
use Rattle.std.specs.Ordering.{is_eq}
use Rattle.kad_bencode.specs.Keys.{key_cmp, value_of}
use Rattle.kad_bencode.specs.Parts.{dict_of, dict_in, member_of, member_in}
use Rattle.kad_bencode.specs.declared.entries.Pair.{Pair}
use Rattle.kad_bencode.specs.declared.value.Value.{Value}
use Rattle.kad_bencode.specs.declared.value.Value.TheOpen as layer
use Rattle.kad_bencode.specs.declared.value.Value.TheOpen.{Value-F}
use Rattle.kad_bencode.specs.declared.value.Value.TheViews.{out-Value}
use Rattle.kad_bencode.proofs.Looking.{same_key, other_key}
use Rattle.kad_krpc.specs.Gathering.{first_of, behind, before}

-- what is there stays
pub first_none : {A : Type 0} (o : Option A) → o ≡ first_of o None
first_none (Some x) = refl
first_none None = refl

either_then : (b : Bool) (v : Value) (rest : Option Value) → first_of (cond b (Some v) None) rest ≡ cond b (Some v) rest
either_then true v rest = refl
either_then false v rest = refl

-- the first pair comes before the others
pub pair_before : (ps rest : List (Pair Value)) (key : List ℕ) (v : Value) → ps ≡ record { key = key; value = v } ∷ rest → before (behind key v) (value_of rest) ≡ value_of ps
pair_before ps rest key v e = (λ i k. either_then (is_eq (key_cmp k key)) v (value_of rest k) i) ∙ sym (ap (λ l. value_of l) e)

-- a value that is no dictionary has no members
none_in : (y : Value-F Value) (k : List ℕ) → None ≡ dict_in y → None ≡ member_in y k
none_in (layer.Int n) k e = refl
none_in (layer.Text s) k e = refl
none_in (layer.List vs) k e = refl
none_in (layer.Dict ps) k e = absurd (let f : ⊥ = cc in f)

pub no_member : (v : Value) → None ≡ dict_of v → (λ k. None) ≡ member_of v
no_member v e = (λ i k. none_in (out-Value v) k e i)

-- keys that are the same
pub from_equal : (a b : List ℕ) (r : Bool) → (IsTrue r ↔ (a ≡ b)) → r ≡ is_eq (key_cmp b a)
from_equal a b true h = sym (subst (λ x. is_eq (key_cmp x a) ≡ true) (h.0 refl) (same_key a))
from_equal a b false h = sym (other_key b a (λ e. not_so (h.1 (sym e))))
  where
    not_so : false ≡ true → ⊥
    not_so e = cc
