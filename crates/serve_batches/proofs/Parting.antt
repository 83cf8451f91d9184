-- A front of a list is worked on, and the rest stays as it is.
use Rattle.std.proofs.Common.{◌≡◌, ℕ, List, ◌++◌, length, take, drop, ap, ◌∙◌}
use Rattle.std.proofs.lemmas.List.{take_at}

pub front_is : {A : Type 0} (part old new : List A) (k : ℕ) → length part ≡ k → new ≡ part ++ drop k old → take k new ≡ part
front_is part old new k len is = ap (take k) is ∙ take_at part (drop k old) k len
