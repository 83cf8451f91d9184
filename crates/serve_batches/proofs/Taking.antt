-- Slots are taken from the end, where each list of them has room.
use Rattle.std.proofs.Common.{◌≡◌, ℕ, ◌*◌, ◌≤◌, List, [], ◌∷◌, ◌++◌, length, All}
use Rattle.std.specs.Global.{Vec}
use Rattle.std.specs.Prelude.{Some}
use Rattle.std.proofs.lemmas.List.Elements.{All-pop}
use Rattle.serve_batches.specs.Slots.{SlotState}

abbrev HasRoomy : ℕ → Vec SlotState → Type 0
HasRoomy n v = 32 ≤ length v.items * n

pub taken_room : (n : ℕ) (old new : List (Vec SlotState)) (taken : Vec SlotState) → old ≡ new ++ taken ∷ [] → All (HasRoomy n) old → HasRoomy n taken
taken_room n old new taken is all = (All-pop (HasRoomy n) old new (Some taken) is all).1

pub left_room : (n : ℕ) (old new : List (Vec SlotState)) (taken : Vec SlotState) → old ≡ new ++ taken ∷ [] → All (HasRoomy n) old → All (HasRoomy n) new
left_room n old new taken is all = (All-pop (HasRoomy n) old new (Some taken) is all).0
