-- What contracts see of a turn and of its passes, and what its calls promise.
use Rattle.std.specs.Prelude.{◌≡◌, ℕ, List, [], ◌∷◌, ◌++◌, length, map}
use Rattle.std.specs.List.{range_with_len, flat_map, All}
use Rattle.std.specs.List.Sorted.{IsPermutation}
use Rattle.atomic_table.specs.Seated.{TableId}
use Rattle.kad_base.specs.declared.serial.Made.{Made}
use Rattle.kad_base.specs.Serial.{calls_of, left_by, IsRun}

-- a turn: which one it is, the state that it opened with, and how many roles it has
pub record TurnState (S : Type 0) : Type 0 where
  pub id : TableId
  pub start : S
  pub roles : ℕ

-- a pass: of which turn, in which role, and the beginning of the run that its holder has seen
pub record PassState (C R : Type 0) : Type 0 where
  pub turn : TableId
  pub role : ℕ
  pub seen : List (Made C R)

-- passes in a row, and how many have room
pub record Row (C R : Type 0) : Type 0 where
  pub passes : List (PassState C R)
  pub room : ℕ

-- the longer list begins with the shorter
abbrev pub IsPrefix : {A : Type 0} → List A → List A → Type 0
IsPrefix {A} xs ys = (rest : List A) × (ys ≡ xs ++ rest)

-- the list goes on by some elements, the last of which is x
abbrev pub GoesOnTo : {A : Type 0} → A → List A → List A → Type 0
GoesOnTo {A} x xs ys = (between : List A) × (ys ≡ (xs ++ between) ++ x ∷ [])

module _ {C R : Type 0} where
  -- a pass that has seen nothing yet
  abbrev pub fresh : TableId → ℕ → PassState C R
  fresh turn role = record { turn = turn; role = role; seen = [] }

  -- one for each role, in order
  abbrev pub all_fresh : {S : Type 0} → TurnState S → List (PassState C R)
  all_fresh turn = map (fresh turn.id) (range_with_len 0 turn.roles)

  -- the calls of the pass's own role among those that it has seen
  abbrev pub mine : PassState C R → List (Made C R)
  mine p = calls_of p.role p.seen

  -- as many passes of the turn as it has roles: a pass can't be copied, so these are all
  pub record AreAll {S : Type 0} (turn : TurnState S) (passes : List (PassState C R)) : Type 0 where
    pub count : length passes ≡ turn.roles
    pub own : All (λ p. p.turn ≡ turn.id) passes

module _ {S C R : Type 0} (may : ℕ → C → Type 0) (step : S → ℕ → C → R → Type 0) (after : S → ℕ → C → R → S) where
  -- all calls stand in one legal run (a sequential history of Herlihy and Wing, 1990). It leads from the opening state to
  -- the one handed back, each pass has seen a beginning of it, and it has the passes' own calls, each once and each pass's
  -- in its own order
  pub record Closed (turn : TurnState S) (passes : List (PassState C R)) (state : S) (calls : ℕ) : Type 0 where
    pub run : List (Made C R)
    pub legal : IsRun may step after turn.start run
    pub left : state ≡ left_by after turn.start run
    pub told : calls ≡ length run
    pub prefixes : All (λ p. IsPrefix p.seen run) passes
    pub in_order : All (λ p. calls_of p.role run ≡ mine p) passes
    pub each_once : IsPermutation run (flat_map mine passes)
