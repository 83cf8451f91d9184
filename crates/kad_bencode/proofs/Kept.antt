-- Values by what their types keep.
use Rattle.std.proofs.Common.{◌≡◌, ◌≤◌, ℕ, true, List, [], ◌∷◌, map, length, drop, refl, sym, ap, subst, ◌∙◌}
use Rattle.std.proofs.lemmas.List.{drop_all}
use Rattle.std.specs.List.{AllByRecursion}
use Rattle.kad_bencode.specs.Built.{IsWellBuilt}
use Rattle.kad_bencode.specs.Keys.{keys_of, IsAscending}
use Rattle.kad_bencode.specs.Spelling.{all_true, each_once, in_order, is_plain, put_all, values_of}
use Rattle.kad_bencode.specs.declared.entries.Pair.{Pair}
use Rattle.kad_bencode.specs.declared.value.Value.{Value}
use Rattle.kad_bencode.specs.declared.value.Value.TheVariants as value
use Rattle.kad_bencode.proofs.Folds.{is_plain-list, is_plain-dict, in_order-list, in_order-dict}
use Rattle.kad_bencode.proofs.Limits.{and_both}
use Rattle.kad_bencode.proofs.Ordered.{once_ascending, ordered_same, put_all_ascending}

items_plain : (vs : List Value) → AllByRecursion IsWellBuilt vs → all_true (map is_plain vs) ≡ true
items_plain [] h = refl
items_plain (v ∷ vs) h = and_both (is_plain v) (all_true (map is_plain vs)) h.0.plain (items_plain vs h.1)

items_ordered : (vs : List Value) → AllByRecursion IsWellBuilt vs → map in_order vs ≡ vs
items_ordered [] h = refl
items_ordered (v ∷ vs) h = (λ i. h.0.ordered i ∷ items_ordered vs h.1 i)

pub list_built : (vs : List Value) → AllByRecursion IsWellBuilt vs → IsWellBuilt (value.List vs)
list_built vs h = record { plain = is_plain-list vs ∙ items_plain vs h; ordered = in_order-list vs ∙ ap value.List (items_ordered vs h) }

-- the value of each pair
abbrev pub PairsBuilt : List (Pair Value) → Type 0
PairsBuilt ps = AllByRecursion (λ p. IsWellBuilt p.value) ps

pairs_plain : (ps : List (Pair Value)) → PairsBuilt ps → all_true (map (λ p. is_plain p.value) ps) ≡ true
pairs_plain [] h = refl
pairs_plain (p ∷ ps) h = and_both (is_plain p.value) (all_true (map (λ q. is_plain q.value) ps)) h.0.plain (pairs_plain ps h.1)

pairs_ordered : (ps : List (Pair Value)) → PairsBuilt ps → AllByRecursion (λ v. in_order v ≡ v) (values_of ps)
pairs_ordered [] h = tt
pairs_ordered (p ∷ ps) h = (h.0.ordered, pairs_ordered ps h.1)

pub dict_built : (ps : List (Pair Value)) → IsAscending ps → PairsBuilt ps → IsWellBuilt (value.Dict ps)
dict_built ps order h = record {
  plain = is_plain-dict ps ∙ and_both (each_once (keys_of ps)) (all_true (map (λ p. is_plain p.value) ps)) (once_ascending (keys_of ps) order) (pairs_plain ps h);
  ordered = in_order-dict ps ∙ ap (λ l. value.Dict (put_all [] l)) (ordered_same ps (pairs_ordered ps h)) ∙ ap value.Dict (put_all_ascending [] ps order);
}

-- ---- once each item was told of

pub list_told : (v : Value) (vs xs : List Value) (i : ℕ) → v ≡ value.List vs → xs ≡ vs → length xs ≤ i → (AllByRecursion IsWellBuilt (drop i xs) → AllByRecursion IsWellBuilt xs) → IsWellBuilt v
list_told v vs xs i e x past h =
    subst IsWellBuilt (sym e) (list_built vs (subst (AllByRecursion IsWellBuilt) x (h (subst (AllByRecursion IsWellBuilt) (sym (drop_all i xs past)) tt))))

pub dict_told : (v : Value) (ps xs : List (Pair Value)) (i : ℕ) → v ≡ value.Dict ps → xs ≡ ps → IsAscending ps → length xs ≤ i → (PairsBuilt (drop i xs) → PairsBuilt xs) → IsWellBuilt v
dict_told v ps xs i e x order past h =
    subst IsWellBuilt (sym e) (dict_built ps order (subst PairsBuilt x (h (subst PairsBuilt (sym (drop_all i xs past)) tt))))
