-- The rule of a turn, and what each step tells. The rule is this project's own.
-- The word is twice the length of the run, and one more while a seat has the slot.
use Rattle.std.specs.Prelude.{◌≡◌, ◌≢◌, ℕ, zero, suc, ◌+◌, ◌*◌, ◌%◌, ◌^◌, ◌<◌, ◌≤◌, ◌==◌, Bool, true, false, List, [], ◌∷◌, ◌++◌, map, length, slice_index, drop, take, Option, Some, None, IfSome}
use mathlib.Core.Option.{some, none}
use lib.ListN.{get_elem?}
use Rattle.atomic_table.specs.Table.{State, Me, Step}
use Rattle.kad_base.specs.declared.serial.Made.{Made}
use Rattle.kad_base.specs.Serial.{made, calls_of, left_by, IsRun}
use Rattle.atomic_table.specs.Seated.{TableId}
use Rattle.turn_book.specs.Turns.{TurnState, PassState, IsPrefix}
use Rattle.turn_book.specs.declared.board.Opening.{Opening}
use Rattle.turn_book.specs.declared.board.Part.{Part}
use Rattle.turn_book.specs.declared.board.View.{View}

-- the word of a slot that a call may take: it is even while the slot is free, and below 2^63 for 2^62 calls
abbrev pub IsFree : ℕ → Type 0
IsFree word = (word % 2 ≡ 0) × (word < 2 ^ 63)

-- each element has the fact
abbrev pub Each : {A : Type 0} → (A → Type 0) → List A → Type 0
Each P [] = Unit {0}
Each P (x ∷ xs) = P x × Each P xs

-- the sum of a number of each element
abbrev pub total : {A : Type 0} → (A → ℕ) → List A → ℕ
total f [] = 0
total f (x ∷ xs) = f x + total f xs

-- 1 for true, and 0 for false
abbrev pub either_of : Bool → ℕ
either_of true = 1
either_of false = 0

module _ {C R : Type 0} where
  -- a role, and what its holder has seen of the run
  abbrev pub part : ℕ → List (Made C R) → Part C R
  part role seen = record { role = role; seen = seen }

  -- what a seat knows: its parts, and whether it has the slot
  abbrev pub view : List (Part C R) → Bool → View C R
  view parts marked = record { parts = parts; marked = marked }

  -- a seat that has no role
  abbrev pub nobody : View C R
  nobody = view [] false

  -- n roles from k on, of which nothing was seen
  abbrev pub roles_from : ℕ → ℕ → List (Part C R)
  roles_from k zero = []
  roles_from k (suc n) = part k [] ∷ roles_from (k + 1) n

  -- the first seat, which has all roles
  abbrev pub newcomer : ℕ → View C R
  newcomer n = view (roles_from 0 n) false

  -- a view is cut in two: what is left, and the first part
  abbrev pub without_first : View C R → View C R
  without_first v = view (drop 1 v.parts) v.marked

  abbrev pub only_first : View C R → View C R
  only_first v = view (take 1 v.parts) false

  -- the parts of two seats in one
  abbrev pub joined : View C R → View C R → View C R
  joined v w = view (v.parts ++ w.parts) false

  -- how often a view has the role r
  abbrev pub has : ℕ → View C R → ℕ
  has r v = total (λ p. either_of (p.role == r)) v.parts

  -- the part, once it has seen the run
  abbrev pub shown : List (Made C R) → Part C R → Part C R
  shown run p = part p.role run

  -- the part, once a call was added
  abbrev pub pushed : Made C R → Part C R → Part C R
  pushed e p = part p.role (p.seen ++ e ∷ [])

  -- what seat j knows: each part is a beginning of the run that has all its role's calls, and the marked seat has the
  -- slot and has seen the whole run
  abbrev pub Knows : List (Made C R) → ℕ → ℕ → ℕ → View C R → Type 0
  Knows run busy holder j v =
      Each (λ p. IsPrefix p.seen run × (calls_of p.role p.seen ≡ calls_of p.role run)) v.parts
      × (v.marked ≡ true → (busy ≡ 1) × (j ≡ holder) × Each (λ p. p.seen ≡ run) v.parts)

module _ {S C R : Type 0} (may : ℕ → C → Type 0) (step : S → ℕ → C → R → Type 0) (after : S → ℕ → C → R → S) where
  -- the rule: there is a run, whose length the word tells. The slot is at home with the state that the run leaves, or out
  -- with the one marked seat; no two seats have one role
  pub record Kept (start : S) (n : ℕ) (s : State S (View C R)) : Type 0 where
    pub run : List (Made C R)
    pub busy : ℕ
    pub holder : ℕ
    pub wide : length s.words ≡ 1
    pub bit : busy < 2
    pub word : slice_index s.words 0 ≡ 2 * length run + busy
    pub legal : IsRun may step after start run
    pub below : Each (λ e. e.role < n) run
    pub each_seat : (j : ℕ) (v : View C R) → get_elem? s.views j ≡ some v → Knows run busy holder j v
    pub apart : (r : ℕ) → total (has r) s.views ≤ 1
    pub known : (r : ℕ) → n ≤ r → total (has r) s.views ≡ 0
    pub home : busy ≡ 0 → s.homes ≡ some (left_by after start run) ∷ []
    pub out : busy ≡ 1 → s.homes ≡ none ∷ []
    pub owner : busy ≡ 1 → (v : View C R) × (get_elem? s.views holder ≡ some v) × (v.marked ≡ true) × ((r : ℕ) × (1 ≤ has r v))

  -- a seat: its view, and the slots that it has
  abbrev Sat : Type 0
  Sat = Me S (View C R)

  -- the slot was taken, and the run seen
  abbrev pub Took : S → Sat → ℕ → Sat → Type 0
  Took start m found m' =
      (run : List (Made C R)) × (st : S) × (m' ≡ (view (map (shown run) m.0.parts) true, (0, st) ∷ m.1)) × (found ≡ 2 * length run)
      × IsRun may step after start run × (st ≡ left_by after start run)
      × Each (λ p. IsPrefix p.seen run × (calls_of p.role p.seen ≡ calls_of p.role run)) m.0.parts

  -- what that tells, where the opening state is told
  abbrev pub Taken : Option S → Step S → Sat → ℕ → Sat → Type 0
  Taken start st m found m' = (found ≡ st.first → IfSome start (λ z. Took z m found m')) × (found ≢ st.first → m' ≡ m)

module _ {C R : Type 0} where
  -- the parts, once a call was added
  abbrev pub added : Option (Made C R) → List (Part C R) → List (Part C R)
  added None ps = ps
  added (Some e) ps = map (pushed e) ps

  -- what the first part has seen
  abbrev pub seen_in : List (Part C R) → List (Made C R)
  seen_in [] = []
  seen_in (p ∷ ps) = p.seen

module _ {S C R : Type 0} where
  -- the slot was given back, and a call added to the run
  abbrev pub Gave : Option (Made C R) → Step S → Me S (View C R) → ℕ → Me S (View C R) → Type 0
  Gave made st m found m' = m' ≡ (view (added made m.0.parts) false, [])

  -- what a seat has seen
  abbrev pub seen_by : Me S (View C R) → List (Made C R)
  seen_by m = seen_in m.0.parts

  -- a seat with one role, which has not the slot
  abbrev pub IsIdle : ℕ → Me S (View C R) → Type 0
  IsIdle role m = m ≡ (view (part role (seen_by m) ∷ []) false, [])

  -- a seat with one role, which has the slot, with st in it
  abbrev pub HasSlot : ℕ → S → Me S (View C R) → Type 0
  HasSlot role st m = m ≡ (view (part role (seen_by m) ∷ []) true, (0, st) ∷ [])

module _ {S C R : Type 0} (may : ℕ → C → Type 0) (step : S → ℕ → C → R → Type 0) (after : S → ℕ → C → R → S) where
  -- a seat that has the slot, and has seen the run that leads to the state there
  abbrev pub IsBusy : S → ℕ → Me S (View C R) → Type 0
  IsBusy start role m = (st : S) × HasSlot role st m × IsRun may step after start (seen_by m) × (st ≡ left_by after start (seen_by m))

  -- a seat that was idle took the slot: what it has seen goes on, with no call of its own role that is new, and there is room
  -- for one call more
  pub record HasTaken (start : S) (role : ℕ) (old new : Me S (View C R)) : Type 0 where
    pub busy : IsBusy start role new
    pub goes_on : IsPrefix (seen_by old) (seen_by new)
    pub own_calls : calls_of role (seen_by old) ≡ calls_of role (seen_by new)
    pub room : 2 * length (seen_by new) < 2 ^ 63

  -- the call was made at the slot, and is not yet in the run
  abbrev pub IsReady : S → ℕ → C → R → Me S (View C R) → Type 0
  IsReady start role call reply m =
      (st : S) × HasSlot role st m × IsRun may step after start (seen_by m) × step (left_by after start (seen_by m)) role call reply
      × (st ≡ after (left_by after start (seen_by m)) role call reply)

  -- the run that was seen goes on, ends with the call, and has no other of the role's that is new
  abbrev pub Called : S → ℕ → C → R → List (Made C R) → List (Made C R) → Type 0
  Called start role call reply before seen =
      (between : List (Made C R)) × (seen ≡ (before ++ between) ++ made role call reply ∷ []) × IsRun may step after start seen
      × (calls_of role seen ≡ calls_of role before ++ made role call reply ∷ [])

module _ {C R : Type 0} where
  -- the part of a pass
  abbrev pub part_of : PassState C R → Part C R
  part_of p = part p.role p.seen

-- what contracts see of a turn, by its table and what that was told when it was made
abbrev pub origin_of : {S : Type 0} → TableId → Opening S → TurnState S
origin_of id about = record { id = id; start = about.state.value; roles = about.roles }

-- the table of a turn
pub record IsBoard (id : TableId) (roles : ℕ) : Type 0 where
  pub words : id.words ≡ 1
  pub slots : id.slots ≡ 1
  pub some_role : 0 < roles
  pub few_roles : roles ≤ 64
