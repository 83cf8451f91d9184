-- Prefixes that begin bits.
use Rattle.std.proofs.Common.{◌≡◌, ◌<◌, ◌≤◌, ◌&&◌, List, [], ◌∷◌, ◌++◌, length, Bool, true, false, not, refl, sym, ap, ◌∙◌, arith}
use Rattle.bucket_tree.specs.Partition.{begins, same_bit, is_before}

pub same_bit-same : (x y : Bool) → same_bit x y ≡ true → x ≡ y
same_bit-same true true e = refl
same_bit-same true false e = absurd cc
same_bit-same false true e = absurd cc
same_bit-same false false e = refl

pub same_bit-itself : (x : Bool) → same_bit x x ≡ true
same_bit-itself true = refl
same_bit-itself false = refl

-- both parts of a test
pub and_left : (a b : Bool) → (a && b) ≡ true → a ≡ true
and_left true b e = refl
and_left false b e = absurd cc

pub and_right : (a b : Bool) → (a && b) ≡ true → b ≡ true
and_right true b e = e
and_right false b e = absurd cc

-- a shorter prefix begins them too
pub begins-front : (p q w : List Bool) → begins (p ++ q) w ≡ true → begins p w ≡ true
begins-front [] q w e = refl
begins-front (x ∷ p) q [] e = absurd cc
begins-front (x ∷ p) q (y ∷ w) e =
    let here : same_bit x y ≡ true = and_left _ _ e in
    let rest : begins p w ≡ true = begins-front p q w (and_right _ _ e) in
    ap (λ (t : Bool). t && begins p w) here ∙ rest

-- one more bit: exactly one of the two
pub begins-halves : (p w : List Bool) → begins p w ≡ true → length p < length w → begins (p ++ true ∷ []) w ≡ not (begins (p ++ false ∷ []) w)
begins-halves [] [] e lt = absurd (omega arith)
begins-halves [] (true ∷ w) e lt = refl
begins-halves [] (false ∷ w) e lt = refl
begins-halves (x ∷ p) [] e lt = absurd cc
begins-halves (x ∷ p) (y ∷ w) e lt =
    let here : same_bit x y ≡ true = and_left _ _ e in
    let rest = begins-halves p w (and_right _ _ e) (omega arith) in
    ap (λ (t : Bool). t && begins (p ++ true ∷ []) w) here ∙ rest ∙ sym (ap (λ (t : Bool). not (t && begins (p ++ false ∷ []) w)) here)

-- bits that are no more than the prefix are the prefix
pub begins-whole : (p w : List Bool) → begins p w ≡ true → length w ≤ length p → p ≡ w
begins-whole [] [] e le = refl
begins-whole [] (y ∷ w) e le = absurd (omega arith)
begins-whole (x ∷ p) [] e le = absurd cc
begins-whole (x ∷ p) (y ∷ w) e le =
    let here : x ≡ y = same_bit-same x y (and_left _ _ e) in
    let rest : p ≡ w = begins-whole p w (and_right _ _ e) (omega arith) in
    cc

-- the order of prefixes, with more bits at the end of one
pub before-more_right : (p q r : List Bool) → is_before p q ≡ true → is_before p (q ++ r) ≡ true
before-more_right [] q r e = absurd cc
before-more_right (x ∷ p) [] r e = absurd cc
before-more_right (true ∷ p) (true ∷ q) r e = before-more_right p q r e
before-more_right (true ∷ p) (false ∷ q) r e = absurd cc
before-more_right (false ∷ p) (true ∷ q) r e = refl
before-more_right (false ∷ p) (false ∷ q) r e = before-more_right p q r e

pub before-more_left : (p q r : List Bool) → is_before p q ≡ true → is_before (p ++ r) q ≡ true
before-more_left [] q r e = absurd cc
before-more_left (x ∷ p) [] r e = absurd cc
before-more_left (true ∷ p) (true ∷ q) r e = before-more_left p q r e
before-more_left (true ∷ p) (false ∷ q) r e = absurd cc
before-more_left (false ∷ p) (true ∷ q) r e = refl
before-more_left (false ∷ p) (false ∷ q) r e = before-more_left p q r e

pub before-halves : (p : List Bool) → is_before (p ++ false ∷ []) (p ++ true ∷ []) ≡ true
before-halves [] = refl
before-halves (true ∷ p) = before-halves p
before-halves (false ∷ p) = before-halves p
