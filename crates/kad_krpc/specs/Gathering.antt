-- Values gathered in one pass; no public contract speaks of them.
use Rattle.std.specs.Prelude.{ℕ, cond, List, Option, Some, None}
use Rattle.std.specs.Ordering.{is_eq}
use Rattle.kad_bencode.specs.Keys.{key_cmp}
use Rattle.kad_bencode.specs.declared.value.Value.{Value}
use Rattle.kad_krpc.specs.Fields.{Look}

-- the first of two that is there
abbrev pub first_of : {A : Type 0} → Option A → Option A → Option A
first_of (Some x) o = Some x
first_of None o = o

-- the value of one key, and of no other
abbrev pub behind : List ℕ → Value → Look
behind key value wanted = cond (is_eq (key_cmp wanted key)) (Some value) None

-- what one look-up has, or else the other
abbrev pub before : Look → Look → Look
before front rest key = first_of (front key) (rest key)
