-- A prefix and the identifier that stands for it: one of the same length is the same where it begins that identifier.
use Rattle.std.proofs.Common.{◌≡◌, ◌&&◌, List, [], ◌∷◌, ◌++◌, length, Bool, true, refl, ap, ◌∙◌, arith}
use Rattle.bucket_tree.specs.Partition.{begins}
use Rattle.bucket_tree.proofs.Begun.{same_bit-same, same_bit-itself, and_left, and_right}

pub begun-same : (p q w : List Bool) → length p ≡ length q → begins p (q ++ w) ≡ true → p ≡ q
begun-same [] [] w l e = refl
begun-same [] (y ∷ q) w l e = absurd (omega arith)
begun-same (x ∷ p) [] w l e = absurd (omega arith)
begun-same (x ∷ p) (y ∷ q) w l e =
    let here : x ≡ y = same_bit-same x y (and_left _ _ e) in
    let rest : p ≡ q = begun-same p q w (omega arith) (and_right _ _ e) in
    cc

pub same-begun : (p q w : List Bool) → p ≡ q → begins p (q ++ w) ≡ true
same-begun p q w e = ap (λ (x : List Bool). begins x (q ++ w)) e ∙ itself q w
  where
    itself : (p w : List Bool) → begins p (p ++ w) ≡ true
    itself [] w = refl
    itself (x ∷ p) w = ap (λ (t : Bool). t && begins p (p ++ w)) (same_bit-itself x) ∙ itself p w
