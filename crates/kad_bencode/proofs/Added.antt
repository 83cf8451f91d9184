-- One pair more in a dictionary, and out of it again.
use Rattle.std.proofs.Common.{◌≡◌, ℕ, true, cond, List, [], ◌∷◌, Option, Some, None, refl, sym, ap, ◌∙◌, subst, arith}
use Rattle.std.specs.List.{AllByRecursion}
use Rattle.std.specs.Ordering.{is_eq, match_ordering}
use Rattle.std.specs.declared.cmp.Ordering.TheVariants.{Less, Equal, Greater}
use Rattle.kad_bencode.specs.Keys.{key_cmp, keys_of, IsAscending, put, value_of, without}
use Rattle.kad_bencode.specs.Spelling.{text_of, in_order, values_of, put_all, Fits, Spells}
use Rattle.kad_bencode.specs.declared.entries.Pair.{Pair}
use Rattle.kad_bencode.specs.declared.value.Value.{Value}
use Rattle.kad_bencode.specs.declared.value.Value.TheVariants.{Dict}
use Rattle.kad_bencode.proofs.Folds.{in_order-dict, ordered_pairs}
use Rattle.kad_bencode.proofs.Limits.{dict_fits, fits_dict}
use Rattle.kad_bencode.proofs.Looking.{same_key, tree_pairs}
use Rattle.kad_bencode.proofs.Ordered.{values_put, values_put_all, ordered, ordered_ascending, ordered_same, once_ascending, put_all_ascending, spelled_fits, text_spells}
use Rattle.kad_bencode.proofs.Places.{put_ascending}

module _ {V : Type 0} where
  never_there : (v : V) (o : Option V) → cond true (Some v) o ≡ None → ⊥
  never_there v o e = cc

  -- its value is found
  pub value_put_same : (ps : List (Pair V)) (key : List ℕ) (v : V) → value_of (put ps key v) key ≡ Some v
  value_put_same [] key v = ap (λ b. cond b (Some v) None) (same_key key)
  value_put_same (p ∷ ps) key v =
      elim (key_cmp key p.key) as (λ o. key_cmp key p.key ≡ o → value_of (match_ordering o (record { key = key; value = v } ∷ p ∷ ps) (record { key = key; value = v } ∷ ps) (p ∷ put ps key v)) key ≡ Some v) [
        | Less ↦ λ e. ap (λ b. cond b (Some v) (value_of (p ∷ ps) key)) (same_key key)
        | Equal ↦ λ e. ap (λ b. cond b (Some v) (value_of ps key)) (same_key key)
        | Greater ↦ λ e. ap (λ o. cond (is_eq o) (Some p.value) (value_of (put ps key v) key)) e ∙ value_put_same ps key v
      ] refl

  -- without it the others are left
  pub without_put : (ps : List (Pair V)) (key : List ℕ) (v : V) → value_of ps key ≡ None → without (put ps key v) key ≡ ps
  without_put [] key v h = ap (λ b. cond b [] (record { key = key; value = v } ∷ [])) (same_key key)
  without_put (p ∷ ps) key v h =
      elim (key_cmp key p.key) as (λ o. key_cmp key p.key ≡ o → without (match_ordering o (record { key = key; value = v } ∷ p ∷ ps) (record { key = key; value = v } ∷ ps) (p ∷ put ps key v)) key ≡ p ∷ ps) [
        | Less ↦ λ e. ap (λ b. cond b (p ∷ ps) (record { key = key; value = v } ∷ without (p ∷ ps) key)) (same_key key)
        | Equal ↦ λ e. absurd (never_there p.value (value_of ps key) (ap (λ o. cond (is_eq o) (Some p.value) (value_of ps key)) (sym e) ∙ h))
        | Greater ↦ λ e.
            ap (λ o. cond (is_eq o) (put ps key v) (p ∷ without (put ps key v) key)) e
            ∙ ap (λ l. p ∷ l) (without_put ps key v (ap (λ o. cond (is_eq o) (Some p.value) (value_of ps key)) (sym e) ∙ h))
      ] refl

all_again : (ps : List (Pair Value)) → AllByRecursion (λ v. in_order v ≡ v) (values_of (ordered_pairs ps))
all_again [] = tt
all_again (p ∷ ps) = ((ordered p.value).again, all_again ps)

module _ (bytes : List ℕ) (pairs : List (Pair Value)) (s : Spells bytes (Dict pairs)) where
  pub ascending : IsAscending pairs
  ascending = let t = tree_pairs s.tree pairs s.names in subst IsAscending (sym t.2) (ordered_ascending t.0)

  again : AllByRecursion (λ v. in_order v ≡ v) (values_of pairs)
  again =
      let t = tree_pairs s.tree pairs s.names in
      subst (λ l. AllByRecursion (λ v. in_order v ≡ v) (values_of l)) (sym t.2) (values_put_all (λ v. in_order v ≡ v) [] (ordered_pairs t.0) tt (all_again t.0))

  -- the written form spells the dictionary with it
  pub spelled_put : (key : List ℕ) (v : Value) → Fits 1 v → in_order v ≡ v → Spells (text_of (Dict (put pairs key v))) (Dict (put pairs key v))
  spelled_put key v f o =
      let fits = dict_fits [] pairs (spelled_fits bytes (Dict pairs) s) in
      let order : IsAscending (put pairs key v) = put_ascending Value pairs key v ascending in
      text_spells (Dict (put pairs key v))
      (fits_dict [] (put pairs key v) (omega arith, values_put (Fits 1) pairs key v f fits.1, once_ascending (keys_of (put pairs key v)) order))
      (in_order-dict (put pairs key v)
      ∙ ap (λ l. Dict (put_all [] l)) (ordered_same (put pairs key v) (values_put (λ w. in_order w ≡ w) pairs key v o again))
      ∙ ap Dict (put_all_ascending [] (put pairs key v) order))
