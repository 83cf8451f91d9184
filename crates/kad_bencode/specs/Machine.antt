-- A second reading, one byte at a time, by a machine that knows all that it read. No public contract speaks of it: it is
-- where the reader stands, for the proofs.
use Rattle.std.specs.Prelude.{◌≡◌, ℕ, suc, ◌+◌, ◌-◌, ◌*◌, ◌^◌, min, ◌≤◌, ◌<◌, Bool, true, false, cond, ◌&&◌, List, [], ◌∷◌, ◌++◌, length, take, get_or, ℤ, pos, negsuc, nat_eq, nat_lt, nat_le, Option, Some, None}
use Rattle.std.specs.List.{AllByRecursion}
use Rattle.std.specs.Prelude.{Result, Ok, Err}
use Rattle.kad_bencode.specs.Keys.{keys_of}
use Rattle.kad_bencode.specs.Spelling.{numeral, string_text, Fits, each_once, has_key, values_of, is_i64}
use Rattle.kad_bencode.specs.Faults.{Open, InList, InPair, IsFirstFault}
use Rattle.kad_bencode.specs.declared.entries.Pair.{Pair}
use Rattle.kad_bencode.specs.declared.value.Value.{Value}
use Rattle.kad_bencode.specs.declared.value.Value.TheVariants as value
use Rattle.kad_bencode.specs.declared.value.BenFault.{BenFault}
use Rattle.kad_bencode.specs.declared.value.BenFault.TheVariants.{Bad, NoMemory}

-- where a string goes: it is a value, or a key of the innermost dictionary
pub data Place : Type 0 where
  AsValue : List Open → Place
  AsKey : List Open → List (Pair Value) → Place

-- where the machine stands, with what is open and all that it read there
pub data State : Type 0 where
  -- a value may begin; the innermost list may end
  Ready : List Open → State
  -- a key may begin; the innermost dictionary may end
  Keyless : List Open → List (Pair Value) → State
  -- the value has ended
  Whole : Value → State
  -- after i; after i-; after i0; after i and a number that isn't 0
  Sign : List Open → State
  Minus : List Open → State
  Zero : List Open → State
  Digits : List Open → Bool → ℕ → State
  -- after a length, which is 0, or isn't
  NoLength : Place → State
  Length : Place → ℕ → State
  -- in a string: how many bytes are missing, and those that have come
  Body : Place → ℕ → List ℕ → State

-- a value has ended
abbrev pub filled : List Open → Value → State
filled [] v = Whole v
filled (InList values ∷ os) v = Ready (InList (values ++ v ∷ []) ∷ os)
filled (InPair pairs key ∷ os) v = Keyless os (pairs ++ record { key = key; value = v } ∷ [])

-- a string has ended
abbrev pub stored : Place → List ℕ → State
stored (AsValue os) s = filled os (value.Text s)
stored (AsKey os pairs) s = Ready (InPair pairs s ∷ os)

-- where it begins
abbrev pub before : Place → State
before (AsValue os) = Ready os
before (AsKey os pairs) = Keyless os pairs

-- a number with its sign: -0 is none, so one that is negative is at least 1
abbrev pub signed : Bool → ℕ → ℤ
signed false n = pos n
signed true n = negsuc (n - 1)

-- a digit in ASCII
abbrev pub is_digit : ℕ → Bool
is_digit b = nat_le 48 b && nat_lt b 58

-- a digit that isn't 0: no number begins with 0 but 0 itself (BEP 3)
abbrev pub is_nonzero : ℕ → Bool
is_nonzero b = nat_le 49 b && nat_lt b 58

-- the innermost list ends
abbrev pub closed : List Open → Option State
closed [] = None
closed (InList values ∷ os) = Some (filled os (value.List values))
closed (InPair pairs key ∷ os) = None

-- the length of a string begins: 0 alone, or a number without leading zeros
abbrev pub length_begins : Place → ℕ → Option State
length_begins p b = cond (nat_eq b 48) (Some (NoLength p)) (cond (is_nonzero b) (Some (Length p (b - 48))) None)

-- where the machine stands after one more byte; none where no text goes on so
abbrev pub step : State → ℕ → Option State
step (Ready os) b =
    cond (nat_eq b 105) (Some (Sign os))
    (cond (nat_eq b 108) (Some (Ready (InList [] ∷ os)))
    (cond (nat_eq b 100) (Some (Keyless os []))
    (cond (nat_eq b 101) (closed os)
    (length_begins (AsValue os) b))))
step (Keyless os pairs) b = cond (nat_eq b 101) (Some (filled os (value.Dict pairs))) (length_begins (AsKey os pairs) b)
step (Whole v) b = None
step (Sign os) b =
    cond (nat_eq b 45) (Some (Minus os))
    (cond (nat_eq b 48) (Some (Zero os))
    (cond (is_nonzero b) (Some (Digits os false (b - 48))) None))
step (Minus os) b = cond (is_nonzero b) (Some (Digits os true (b - 48))) None
step (Zero os) b = cond (nat_eq b 101) (Some (filled os (value.Int (pos 0)))) None
step (Digits os s n) b =
    cond (nat_eq b 101) (Some (filled os (value.Int (signed s n))))
    (cond (is_digit b) (Some (Digits os s (n * 10 + (b - 48)))) None)
step (NoLength p) b = cond (nat_eq b 58) (Some (stored p [])) None
step (Length p n) b =
    cond (nat_eq b 58) (Some (Body p n []))
    (cond (is_digit b) (Some (Length p (n * 10 + (b - 48)))) None)
step (Body p n s) b = cond (nat_eq n 1) (Some (stored p (s ++ b ∷ []))) (Some (Body p (n - 1) (s ++ b ∷ [])))

-- a state after further bytes
abbrev pub run : Option State → List ℕ → Option State
run state [] = state
run None (b ∷ bs) = None
run (Some state) (b ∷ bs) = run (step state b) bs

-- the state where reading begins
abbrev pub start : Option State
start = Some (Ready [])

-- where the reader stands after so many bytes
abbrev pub Reached : List ℕ → ℕ → State → Type 0
Reached bytes at state = run start (take at bytes) ≡ Some state

-- ---- within the limits

-- a dictionary that is open, with these pairs, in these
abbrev pub FitsPairs : List Open → List (Pair Value) → Type 0
FitsPairs os ps = (suc (length os) ≤ 16) × AllByRecursion (Fits (suc (length os))) (values_of ps) × (each_once (keys_of ps) ≡ true)

-- what is open fits
abbrev pub FitsOpen : List Open → Type 0
FitsOpen [] = Unit {0}
FitsOpen (InList vs ∷ os) = (suc (length os) ≤ 16) × AllByRecursion (Fits (suc (length os))) vs × FitsOpen os
FitsOpen (InPair ps key ∷ os) = FitsPairs os ps × (has_key (keys_of ps) key ≡ false) × FitsOpen os

-- what is open around a string fits
abbrev pub FitsPlace : Place → Type 0
FitsPlace (AsValue os) = FitsOpen os
FitsPlace (AsKey os ps) = FitsPairs os ps × FitsOpen os

-- all that was read is within the limits
abbrev pub FitsState : State → Type 0
FitsState (Ready os) = FitsOpen os
FitsState (Keyless os ps) = FitsPairs os ps × FitsOpen os
FitsState (Whole v) = Fits 0 v
FitsState (Sign os) = FitsOpen os
FitsState (Minus os) = FitsOpen os
FitsState (Zero os) = FitsOpen os
FitsState (Digits os s n) = FitsOpen os
FitsState (NoLength p) = FitsPlace p
FitsState (Length p n) = FitsPlace p
FitsState (Body p n s) = FitsPlace p

-- ---- what each part of the reader does

-- what was read, or the first fault
abbrev pub Outcome : {A : Type 0} → List ℕ → Result A BenFault → (A → Type 0) → Type 0
Outcome bytes (Ok x) P = P x
Outcome bytes (Err (Bad bad)) P = IsFirstFault bytes bad
Outcome bytes (Err NoMemory) P = Unit {0}

-- a value comes next, and the innermost list doesn't end
pub record Awaits (bytes : List ℕ) (at : ℕ) (os : List Open) : Type 0 where
  pub reached : Reached bytes at (Ready os)
  pub fits : FitsOpen os
  pub within : at ≤ length bytes
  pub goes : at < length bytes → get_or bytes at 0 ≡ 101 → closed os ≡ None

-- a value, and where it ends
pub record ReadsValue (bytes : List ℕ) (at : ℕ) (os : List Open) (next : ℕ) : Type 0 where
  pub tree : Value
  pub reached : Reached bytes next (filled os tree)
  pub fits : Fits (length os) tree
  pub within : next ≤ length bytes
  pub after : at < next

-- after i, or after i-
abbrev pub sign_state : Bool → List Open → State
sign_state false os = Sign os
sign_state true os = Minus os

-- a number that isn't 0 comes next, behind the sign of the integer at `at`
pub record AwaitsNumber (bytes : List ℕ) (at first : ℕ) (negative : Bool) (os : List Open) : Type 0 where
  pub begins : Reached bytes at (Ready os)
  pub reached : Reached bytes first (sign_state negative os)
  pub fits : FitsOpen os
  pub after : at < first
  pub goes : first < length bytes → is_nonzero (get_or bytes first 0) ≡ false → step (sign_state negative os) (get_or bytes first 0) ≡ None

-- the integer and where it ends
pub record ReadsInteger (bytes : List ℕ) (at : ℕ) (os : List Open) (n : ℤ) (next : ℕ) : Type 0 where
  pub reached : Reached bytes next (filled os (value.Int n))
  pub plain : is_i64 n ≡ true
  pub within : next ≤ length bytes
  pub after : at < next

-- an integer comes next
pub record AwaitsInteger (bytes : List ℕ) (at : ℕ) (os : List Open) : Type 0 where
  pub begins : Reached bytes at (Ready os)
  pub fits : FitsOpen os

-- a string comes next
pub record AwaitsString (bytes : List ℕ) (at : ℕ) (p : Place) : Type 0 where
  pub reached : Reached bytes at (before p)
  pub fits : FitsPlace p
  pub within : at ≤ length bytes
  pub goes : at < length bytes → is_digit (get_or bytes at 0) ≡ false → step (before p) (get_or bytes at 0) ≡ None

-- the string and where it ends
pub record ReadsString (bytes : List ℕ) (at : ℕ) (p : Place) (s : List ℕ) (next : ℕ) : Type 0 where
  pub reached : Reached bytes next (stored p s)
  pub text : take next bytes ≡ take at bytes ++ string_text s
  pub within : next ≤ length bytes
  pub after : at < next
  pub state : State
  pub before_last : Reached bytes (next - 1) state
  pub fits : FitsState state

-- digits of a number that isn't 0; the number is held up at the end of u64
pub record DigitsSoFar (bytes : List ℕ) (first : ℕ) (n : ℕ) (next : ℕ) : Type 0 where
  pub number : ℕ
  pub positive : 0 < number
  pub text : take next bytes ≡ take first bytes ++ numeral number
  pub value : n ≡ min number (2 ^ 64 - 1)
  pub within : next ≤ length bytes
  pub after : first < next

-- all of them
pub record ReadsDigits (bytes : List ℕ) (first : ℕ) (n : ℕ) (next : ℕ) : Type 0 where
  pub digits : DigitsSoFar bytes first n next
  pub ends : next < length bytes → is_digit (get_or bytes next 0) ≡ false

-- whether a byte stands at a place
abbrev pub HasByte : List ℕ → ℕ → ℕ → Bool → Type 0
HasByte bytes at byte true = (at < length bytes) × (get_or bytes at 0 ≡ byte)
HasByte bytes at byte false = at < length bytes → get_or bytes at 0 ≡ byte → ⊥

-- whether a digit that isn't 0 stands there
abbrev pub HasNumber : List ℕ → ℕ → Bool → Type 0
HasNumber bytes at true = (at < length bytes) × (is_nonzero (get_or bytes at 0) ≡ true)
HasNumber bytes at false = at < length bytes → is_nonzero (get_or bytes at 0) ≡ false

-- a number with its sign, where it is one of 64 bits
abbrev pub IsSigned : Bool → ℕ → Option ℤ → Type 0
IsSigned negative n None = is_i64 (signed negative n) ≡ false
IsSigned negative n (Some z) = (z ≡ signed negative n) × (is_i64 (signed negative n) ≡ true)
