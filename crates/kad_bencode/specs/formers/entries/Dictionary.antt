-- `Dictionary` as a type that may hold the type that holds it, by its values.
use mathlib.Core.Path.{◌≡◌, refl, sym, ap, subst}
use mathlib.Core.List.{List, [], ◌∷◌, map}
use mathlib.Core.Former.{Former, this, const, pair, list, via, children}
use Prim.Native.Nat.{ℕ}
use base.Stored.{code_map, coded_list, coded_ℕ, gcons}
use denote.RattleType.{RattleType}
use denote.HoleLaws.{Alike}
use denote.HolePlaces.{Recodes, struct_places, laid}
use denote.Hole.Carrier.{listed}
use denote.Hole.Fix.{over}
use denote.Param.Weighed.{Weighed, w_const, w_pair, w_via, w_list}
use denote.Model.Placed.{view_places}
use Rattle.std.specs.formers.vec.Vec as vec
use Rattle.std.specs.declared.alloc.Global.{Global}
use Rattle.std.specs.contracts.alloc.Global as heap
use Rattle.std.specs.contracts.impls.GlobalAllocator.TheImpl.{ghosts}
use Rattle.std.specs.List.Sorted.{IsStrictlySortedBy, IsStrictlySortedBy-prop}
use Rattle.std.specs.Cmp.Lexicographic.{slice_cmp}
use Rattle.std.specs.Ordering.{nat_cmp}
use Rattle.kad_bencode.specs.declared.entries.Pair.{Pair}
use Rattle.kad_bencode.specs.contracts.entries.Pair as E
use Rattle.kad_bencode.specs.declared.entries.Dictionary.TheInside.{Inside}
use Rattle.kad_bencode.specs.declared.entries.Dictionary.TheView.{view, invariant}
use Rattle.kad_bencode.specs.contracts.entries.Dictionary as C
use Rattle.kad_bencode.specs.contracts.entries.Dictionary.TheInside as I
use Rattle.kad_bencode.specs.Keys.{keys_of}

-- a key with what stands in the place of its value
abbrev pub entry : Former {0} → Former {0}
entry g = via (pair (const (List ℕ)) g) (λ X. Pair (g.Of X)) (λ X e. (e.key, e.value)) (λ X v. record { key = v.0; value = v.1 }) (λ X e. refl) (λ X v. refl)

-- what a dictionary holds, by what its values hold
abbrev pub the_former : Former {0} → Former {0}
the_former g = list (entry g)

-- and that what it holds weighs less than it
abbrev pub the_weighed : {g : Former {0}} → Weighed g → Weighed (the_former g)
the_weighed {g} w = w_list (w_via (w_pair (w_const (List ℕ)) w) (λ X. Pair (g.Of X)) (λ X e. (e.key, e.value)) (λ X v. record { key = v.0; value = v.1 }) (λ X e. refl) (λ X v. refl))

-- a dictionary without pairs
pub the_empty : List (Pair ⊥)
the_empty = []

-- the values, in the order of their keys
abbrev pub the_items : (X : Type 0) → List (Pair X) → List X
the_items X pairs = map (λ p. p.value) pairs

-- the values are what the former lists
pub the_items_listed : (X : Type 0) (d : List (Pair X)) → listed _ (children (the_former this) X d) ≡ the_items X d
the_items_listed X [] = refl
the_items_listed X (p ∷ ps) = ap (λ l. p.value ∷ l) (the_items_listed X ps)

abbrev fields : Former {0}
fields = via (vec.the_former (entry this) Global) Inside (λ X a. a.pairs) (λ X v. record { pairs = v }) (λ X a. refl) (λ X v. refl)

abbrev on_value : {X Y : Type 0} → (X → Y) → Pair X → Pair Y
on_value h p = record { key = p.key; value = h p.value }

same_keys : {X Y : Type 0} (h : X → Y) (ps : List (Pair X)) → keys_of (map (on_value h) ps) ≡ keys_of ps
same_keys h [] = refl
same_keys h (p ∷ ps) = ap (λ l. p.key ∷ l) (same_keys h ps)

module _ (R S : RattleType) (h : R.Denot → S.Denot) where
  pair_places : Alike R S h → Alike (E.the_row R) (E.the_row S) (on_value h)
  pair_places a = struct_places (E.the_type R) (E.the_type S) (λ n. n, (h, tt)) _ (λ d. refl) refl ((refl, (λ n. refl, λ n. refl)), (laid _ _ _ a, tt))

  pub the_places : Alike R S h → Alike (C.the_row R) (C.the_row S) ((the_former this).map R.Denot S.Denot h)
  the_places a = view_places fields (the_former this) view (λ X Y k u. refl) (λ X u. refl) R.Denot S.Denot h (C.the_row R).coded (C.the_row S).coded
      (invariant R.Denot) (invariant S.Denot) (λ u. IsStrictlySortedBy-prop (slice_cmp nat_cmp) _) (λ u. IsStrictlySortedBy-prop (slice_cmp nat_cmp) _)
      (λ u e. subst (IsStrictlySortedBy (slice_cmp nat_cmp)) (sym (same_keys h u.pairs.items)) e) (λ u e. subst (IsStrictlySortedBy (slice_cmp nat_cmp)) (same_keys h u.pairs.items) e)
      (over (I.the_row R)) (over (I.the_row S))
      (struct_places (I.the_type R) (I.the_type S) (vec.mapped (on_value h), tt) _ (λ d. refl) refl (laid _ _ _ (vec.the_places heap.the_row ghosts (E.the_row R) (E.the_row S) (on_value h) (pair_places a)), tt))

  pub the_codes_placed : Recodes R S h → Recodes (C.the_row R) (C.the_row S) ((the_former this).map R.Denot S.Denot h)
  the_codes_placed e d = sym (code_map (λ (p : Pair R.Denot). gcons ((coded_list coded_ℕ).code p.key) (R.coded.code p.value)) (λ (p : Pair S.Denot). gcons ((coded_list coded_ℕ).code p.key) (S.coded.code p.value)) (on_value h)
      (λ x i. gcons ((coded_list coded_ℕ).code x.key) (sym (e x.value) i)) d)
