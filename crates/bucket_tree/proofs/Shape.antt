-- The prefixes of a tree are a partition in ascending order by its shape alone: no call has to keep that.
use Rattle.std.proofs.Common.{◌≡◌, ℕ, List, [], ◌∷◌, ◌++◌, Bool, true, false, refl, sym, ap, subst, ◌∙◌}
use Rattle.std.proofs.lemmas.List.{append-nil, append_assoc, map-append}
use Rattle.bucket_tree.specs.Partition.{Partition, whole, halves, NoneEmpty, after_bit, BeforeAll, Ascending}
use Rattle.bucket_tree.specs.Rows.{Sound, prefix_of, prefixes_of}
use Rattle.bucket_tree.specs.declared.node.Node.{Node}
use Rattle.bucket_tree.specs.declared.node.Node.TheVariants.{Leaf, Fork'}
use Rattle.bucket_tree.specs.Trees.{rows_of, IsUnder, IsTree}

abbrev pub behind : Bool → List (List Bool) → List (List Bool)
behind b [] = []
behind b (p ∷ P) = (b ∷ p) ∷ behind b P

-- the ways to the leaves
abbrev ways : Node → List (List Bool)
ways (Leaf row) = [] ∷ []
ways (Fork' a low b high) = behind false (ways low) ++ behind true (ways high)

after_zeros : (A B : List (List Bool)) → after_bit false (behind false A ++ behind true B) ≡ A
after_zeros [] [] = refl
after_zeros [] (q ∷ B) = after_zeros [] B
after_zeros (p ∷ A) B = ap (λ (l : List (List Bool)). p ∷ l) (after_zeros A B)

after_ones : (A B : List (List Bool)) → after_bit true (behind false A ++ behind true B) ≡ B
after_ones [] [] = refl
after_ones [] (q ∷ B) = ap (λ (l : List (List Bool)). q ∷ l) (after_ones [] B)
after_ones (p ∷ A) B = after_ones A B

none_empty : (A B : List (List Bool)) → NoneEmpty (behind false A ++ behind true B)
none_empty [] [] = tt
none_empty [] (q ∷ B) = none_empty [] B
none_empty (p ∷ A) B = none_empty A B

ways_partition : (n : Node) → Partition (ways n)
ways_partition (Leaf row) = whole
ways_partition (Fork' a low b high) =
    halves (none_empty (ways low) (ways high)) (subst Partition (sym (after_zeros (ways low) (ways high))) (ways_partition low)) (subst Partition (sym (after_ones (ways low) (ways high))) (ways_partition high))

before_behind : (b : Bool) (p : List Bool) (P : List (List Bool)) → BeforeAll p P → BeforeAll (b ∷ p) (behind b P)
before_behind b p [] h = tt
before_behind true p (q ∷ P) h = (h.0, before_behind true p P h.1)
before_behind false p (q ∷ P) h = (h.0, before_behind false p P h.1)

rises_behind : (b : Bool) (P : List (List Bool)) → Ascending P → Ascending (behind b P)
rises_behind b [] h = tt
rises_behind b (p ∷ P) h = (before_behind b p P h.0, rises_behind b P h.1)

before_both : (p : List Bool) (A B : List (List Bool)) → BeforeAll (false ∷ p) (behind false A) → BeforeAll (false ∷ p) (behind false A ++ behind true B)
before_both p [] [] h = tt
before_both p [] (q ∷ B) h = (refl, before_both p [] B h)
before_both p (q ∷ A) B h = (h.0, before_both p A B h.1)

rises_both : (A B : List (List Bool)) → Ascending (behind false A) → Ascending (behind true B) → Ascending (behind false A ++ behind true B)
rises_both [] B f g = g
rises_both (p ∷ A) B f g = (before_both p A B f.0, rises_both A B f.1 g)

ways_rise : (n : Node) → Ascending (ways n)
ways_rise (Leaf row) = (tt, tt)
ways_rise (Fork' a low b high) = rises_both (ways low) (ways high) (rises_behind false (ways low) (ways_rise low)) (rises_behind true (ways high) (ways_rise high))

abbrev pub on : List Bool → List (List Bool) → List (List Bool)
on p [] = []
on p (q ∷ P) = (p ++ q) ∷ on p P

pub on-behind : (p : List Bool) (b : Bool) (P : List (List Bool)) → on (p ++ b ∷ []) P ≡ on p (behind b P)
on-behind p b [] = refl
on-behind p b (q ∷ P) = ap (λ (w : List Bool). w ∷ on (p ++ b ∷ []) P) (append_assoc p (b ∷ []) q) ∙ ap (λ (l : List (List Bool)). (p ++ (b ∷ q)) ∷ l) (on-behind p b P)

pub on-append : (p : List Bool) (A B : List (List Bool)) → on p (A ++ B) ≡ on p A ++ on p B
on-append p [] B = refl
on-append p (q ∷ A) B = ap (λ (l : List (List Bool)). (p ++ q) ∷ l) (on-append p A B)

pub on-none : (P : List (List Bool)) → on [] P ≡ P
on-none [] = refl
on-none (q ∷ P) = ap (λ (l : List (List Bool)). q ∷ l) (on-none P)

prefixes_are : (p : List Bool) (n : Node) → IsUnder p n → prefixes_of (rows_of n) ≡ on p (ways n)
prefixes_are p (Leaf row) u = ap (λ (q : List Bool). q ∷ []) (u ∙ sym (append-nil p))
prefixes_are p (Fork' a low b high) u =
    map-append prefix_of (rows_of low) (rows_of high)
    ∙ ap (λ (l : List (List Bool)). l ++ prefixes_of (rows_of high)) (prefixes_are (p ++ false ∷ []) low u.0 ∙ on-behind p false (ways low))
    ∙ ap (λ (l : List (List Bool)). on p (behind false (ways low)) ++ l) (prefixes_are (p ++ true ∷ []) high u.1 ∙ on-behind p true (ways high))
    ∙ sym (on-append p (behind false (ways low)) (behind true (ways high)))

-- the public law of the buckets
pub tree_sound : (own : _) (k b : ℕ) (n : Node) → IsTree own k b n → Sound (record { own = own; k = k; b = b; rows = rows_of n })
tree_sound own k b n t =
    let e : prefixes_of (rows_of n) ≡ ways n = prefixes_are [] n t.under ∙ on-none (ways n) in
    record {
      some_live = t.some_live;
      few_live = t.few_live;
      some_bits = t.some_bits;
      few_bits = t.few_bits;
      rows = record { partition = subst Partition (sym e) (ways_partition n); ascending = subst Ascending (sym e) (ways_rise n); short = t.short; each = t.each };
    }
