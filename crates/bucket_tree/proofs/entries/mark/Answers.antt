use Rattle.std.proofs.Common.{◌≡◌, ℕ, zero, suc, ◌+◌, ◌<◌, List, ◌++◌, ◌∷◌, [], length, take, drop, map, get_or, set, refl, sym, ap, ◌∙◌, arith, add-one}
use Rattle.bucket_tree.specs.declared.types.Live.{Live}
use Rattle.bucket_tree.specs.BucketSteps.{mark}
use Rattle.bucket_tree.proofs.entries.mark.Goals as goal

set_one : (f : Live → Live) (xs : List Live) (i : ℕ) (d : Live) → i < length xs → set (map f (take i xs) ++ drop i xs) i (f (get_or (map f (take i xs) ++ drop i xs) i d)) ≡ map f (take (suc i) xs) ++ drop (suc i) xs
set_one f [] i d lt = absurd (omega arith)
set_one f (x ∷ xs) zero d lt = refl
set_one f (x ∷ xs) (suc i) d lt = ap (λ (l : List Live). f x ∷ l) (set_one f xs i d (omega arith))

marked_next : (f : Live → Live) (xs ys : List Live) (i : ℕ) (d r : Live) → ys ≡ map f (take i xs) ++ drop i xs → i < length xs → d ≡ get_or ys i d → r ≡ f d → set ys i r ≡ map f (take (i + 1) xs) ++ drop (i + 1) xs
marked_next f xs ys i d r e lt is one =
    ap (set ys i) (one ∙ ap f is) ∙ ap (λ (l : List Live). set l i (f (get_or l i d))) e ∙ set_one f xs i d lt ∙ ap (λ (n : ℕ). map f (take n xs) ++ drop n xs) (sym (add-one i))

pub loop-at-preserved : goal.loop-at-preserved
loop-at-preserved c = record {
  items = marked_next (mark c.args.contact.now) c.args.entries.now.items c.loop-at.entries.items c.loop-at.at c.index.result.now c.marked.result c.loop-at.invariant.items (omega arith) c.index.ensures c.marked.ensures;
  capacity = c.loop-at.invariant.capacity;
}
