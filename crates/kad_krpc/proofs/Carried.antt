-- What the dictionaries of a datagram have under their keys is within the limits and in order, so that it has a written
-- form.
use Rattle.std.proofs.Common.{◌≡◌, ℕ, suc, List, length, Option, Some, None, refl, subst}
use Rattle.std.specs.Prelude.{option_map}
use Rattle.kad_bencode.specs.Faults.{Open}
use Rattle.kad_bencode.specs.Keys.{value_of}
use Rattle.kad_bencode.specs.Parts.{dict_of}
use Rattle.kad_bencode.specs.declared.entries.Pair.{Pair}
use Rattle.kad_bencode.specs.declared.value.Value.{Value}
use Rattle.kad_bencode.proofs.Formed.{IsSound, its_dict, member_sound}
use Rattle.kad_krpc.specs.declared.message.Key.{Key}
use Rattle.kad_krpc.specs.Fields.{Look, of_kind, needed, look_of}
use Rattle.kad_krpc.proofs.Stepping.{Gets}

-- a value that may be missing
abbrev pub SoundOption : ℕ → Option Value → Type 0
SoundOption around o = (v : Value) → o ≡ Some v → IsSound around v

-- the values of all keys
abbrev pub SoundLook : ℕ → Look → Type 0
SoundLook around look = (key : List ℕ) → SoundOption around (look key)

-- a value of any kind
pub needs_any : (around : ℕ) (k : Key) (o : Option Value) → SoundOption around o → Gets (IsSound around) (needed Some k o)
needs_any around k None s = tt
needs_any around k (Some v) s = s v refl

looks_in : (os : List Open) (k : Key) (v : Value) → IsSound (length os) v → (o : Option (List (Pair Value))) → dict_of v ≡ o → Gets (SoundLook (suc (length os))) (of_kind k (option_map value_of o))
looks_in os k v s None e = tt
looks_in os k v s (Some ps) e = λ key x f. member_sound os ps (subst (IsSound (length os)) (its_dict v ps e) s) key x f

pub looks : (os : List Open) (k : Key) (v : Value) → IsSound (length os) v → Gets (SoundLook (suc (length os))) (of_kind k (look_of v))
looks os k v s = looks_in os k v s (dict_of v) refl

-- a dictionary
pub needs_look : (os : List Open) (k : Key) (o : Option Value) → SoundOption (length os) o → Gets (SoundLook (suc (length os))) (needed look_of k o)
needs_look os k None s = tt
needs_look os k (Some v) s = looks os k v (s v refl)
