-- Keys that are read before it is known whether they differ.
use Rattle.std.proofs.Common.{◌≡◌, ℕ, ◌++◌, ◌∷◌, [], ◌≤◌, List, true, false, length, subst, sym, ap, arith}
use Rattle.kad_bencode.specs.Keys.{keys_of}
use Rattle.kad_bencode.specs.Spelling.{string_text, has_key}
use Rattle.kad_bencode.specs.Faults.{Open, IsAt, IsFirstFault}
use Rattle.kad_bencode.specs.Machine.{AsKey, ReadsString}
use Rattle.kad_bencode.specs.Filing.{Listed, Differ, IsKey, AreKeys, Noted}
use Rattle.kad_bencode.specs.declared.value.Value.{Value}
use Rattle.kad_bencode.specs.declared.value.Bad.TheVariants.{KeyTwice}
use Rattle.kad_bencode.proofs.Filing.{key_differs, listed_more, keys_more}
use Rattle.kad_bencode.proofs.Limits.{keys_push}
use Rattle.kad_bencode.proofs.Nested.{PairsSoFar, key_twice}
use Rattle.kad_bencode.proofs.Reading.{stands_between}

-- what was read in front of a key
abbrev pub before_key : (bytes : List ℕ) (at : ℕ) (os : List Open) → IsKey bytes at os → PairsSoFar bytes at os
before_key bytes at os k = record { pairs = k.pairs; reached = k.reached; fits = k.fits }

pub key_stands : (bytes : List ℕ) (at : ℕ) (os : List Open) (k : IsKey bytes at os) → IsAt bytes at (string_text k.key)
key_stands bytes at os k = stands_between bytes at k.next (string_text k.key) k.within k.reads.text

pub twice_there : (bytes : List ℕ) (at : ℕ) (os : List Open) (k : IsKey bytes at os)
    → has_key (keys_of k.pairs) k.key ≡ true → IsFirstFault bytes (KeyTwice at)
twice_there bytes at os k h = key_twice bytes at os k.key k.next (record { pairs = k.pairs; reached = k.reached; fits = k.fits }) k.within k.reads h

pub as_key : (bytes : List ℕ) (at : ℕ) (os : List Open) (so : PairsSoFar bytes at os) (key : List ℕ) (next : ℕ)
    → at ≤ length bytes → ReadsString bytes at (AsKey os so.pairs) key next → IsKey bytes at os
as_key bytes at os so key next w k = record { pairs = so.pairs; reached = so.reached; fits = so.fits; within = w; key = key; next = next; reads = k }

-- a key is new if the places differ with its own
pub is_new : (bytes places : List ℕ) (at : ℕ) (os : List Open) (so : PairsSoFar bytes at os)
    → Listed bytes places (keys_of so.pairs) → (key : List ℕ) (next : ℕ) → at ≤ length bytes
    → ReadsString bytes at (AsKey os so.pairs) key next → Differ bytes (places ++ at ∷ []) → has_key (keys_of so.pairs) key ≡ false
is_new bytes places at os so l key next w k d = key_differs bytes places at (keys_of so.pairs) key l
    (stands_between bytes at next (string_text key) w k.text) d

-- and is listed then
pub lists_it : (bytes places : List ℕ) (at : ℕ) (os : List Open) (so : PairsSoFar bytes at os)
    → Listed bytes places (keys_of so.pairs) → (key : List ℕ) (next : ℕ) → at ≤ length bytes
    → ReadsString bytes at (AsKey os so.pairs) key next → (v : Value) (all : List ℕ) → all ≡ places ++ at ∷ []
    → Listed bytes all (keys_of (so.pairs ++ record { key = key; value = v } ∷ []))
lists_it bytes places at os so l key next w k v all e =
    subst (λ q. Listed bytes q (keys_of (so.pairs ++ record { key = key; value = v } ∷ []))) (sym e)
    (subst (Listed bytes (places ++ at ∷ [])) (sym (keys_push so.pairs key v))
    (listed_more bytes places at (keys_of so.pairs) key l (stands_between bytes at next (string_text key) w k.text)))

-- ---- keys that ascend

-- none is noted yet
pub none_noted : (bytes places : List ℕ) (os : List Open) → places ≡ [] → Noted bytes places os []
none_noted bytes places os e = record {
  listed = λ key h. absurd (let f : false ≡ true = h in cc);
  read = λ i w d. absurd (let n = ap length e in omega (arith, n, w));
}

-- one more, with its value
pub noted_more : (bytes places : List ℕ) (at : ℕ) (os : List Open) (so : PairsSoFar bytes at os)
    → Noted bytes places os (keys_of so.pairs) → (key : List ℕ) (next : ℕ) → at ≤ length bytes
    → ReadsString bytes at (AsKey os so.pairs) key next → (v : Value) (all : List ℕ) → all ≡ places ++ at ∷ []
    → Noted bytes all os (keys_of (so.pairs ++ record { key = key; value = v } ∷ []))
noted_more bytes places at os so m key next w k v all e = record {
  listed = lists_it bytes places at os so m.listed key next w k v all e;
  read = subst (λ q. AreKeys bytes q os) (sym e) (keys_more bytes places at os m.read (λ d. as_key bytes at os so key next w k));
}
