-- The steps in which the values of a message's keys are read, and the pairs as which they are written. A step fails with
-- the key that it reads.
use Rattle.std.specs.Prelude.{ℕ, ◌%◌, cond, List, [], ◌∷◌, length, flat_map, nat_eq, Option, Some, None, option_map, option_to_list, Result, Ok, Err}
use Rattle.std.specs.List.{AllByRecursion}
use Rattle.kad_base.specs.declared.types.Id.{Id}
use Rattle.kad_base.specs.declared.types.Addr.{Addr}
use Rattle.kad_base.specs.declared.types.Family.TheVariants.{Four, Six}
use Rattle.kad_bencode.specs.Keys.{value_of}
use Rattle.kad_bencode.specs.Parts.{bytes_of, dict_of}
use Rattle.kad_bencode.specs.declared.entries.Pair.{Pair}
use Rattle.kad_bencode.specs.WrittenForm.{IsWrittenForm}
use Rattle.kad_bencode.specs.declared.value.Value.{Value}
use Rattle.kad_krpc.specs.declared.message.Key.{Key}
use Rattle.kad_krpc.specs.declared.message.KrpcFault.{KrpcFault}
use Rattle.kad_krpc.specs.declared.message.KrpcFault.TheVariants.{Missing, Shape, Records}
use Rattle.kad_records.specs.Records.{records_in, addr_at}

-- ---- steps

-- what a step gives, or the refusal
abbrev pub Step : Type 0 → Type 0
Step A = Result A KrpcFault

-- one step after another
abbrev pub then : {A B : Type 0} → Step A → (A → Step B) → Step B
then (Ok x) f = f x
then (Err fault) f = Err fault

-- a value of this kind
abbrev pub of_kind : {A : Type 0} → Key → Option A → Step A
of_kind key None = Err (Shape key)
of_kind key (Some x) = Ok x

-- the value of a key that has to be there
abbrev pub needed : {A : Type 0} → (Value → Option A) → Key → Option Value → Step A
needed kind key None = Err (Missing key)
needed kind key (Some v) = of_kind key (kind v)

-- what a step gives, as one that is there
abbrev pub as_some : {A : Type 0} → Step A → Step (Option A)
as_some (Ok x) = Ok (Some x)
as_some (Err fault) = Err fault

-- of one that may be missing
abbrev pub optional : {A : Type 0} → (Value → Option A) → Key → Option Value → Step (Option A)
optional kind key None = Ok None
optional kind key (Some v) = as_some (of_kind key (kind v))

-- ---- the kinds of a value

-- the values of a dictionary's keys
abbrev pub Look : Type 0
Look = List ℕ → Option Value

-- a dictionary, as the values of its keys
abbrev pub look_of : Value → Option Look
look_of v = option_map value_of (dict_of v)

-- a string of 20 bytes
abbrev pub id_in : Option (List ℕ) → Option Id
id_in None = None
id_in (Some bytes) = cond (nat_eq (length bytes) 20) (Some (record { 0 = bytes })) None

-- an identifier is a string of 20 bytes
abbrev pub id_of : Value → Option Id
id_of v = id_in (bytes_of v)

-- the records of a string, of this many bytes each, if the string is there
abbrev pub records : {A : Type 0} → ℕ → (List ℕ → A) → Key → Option (List ℕ) → Step (Option (List A))
records size read key None = Ok None
records size read key (Some bytes) = cond (nat_eq (length bytes % size) 0) (Ok (Some (records_in size read bytes))) (Err (Records key (length bytes)))

-- the records that the value of a key is, if it is there
abbrev pub records_by : {A : Type 0} → ℕ → (List ℕ → A) → Key → Option Value → Step (Option (List A))
records_by size read key v = then (optional bytes_of key v) (λ bytes. records size read key bytes)

-- the peer that a string is: of IPv4 with 6 bytes (BEP 5), of IPv6 with 18 (BEP 32)
abbrev pub peer_of : List ℕ → Option Addr
peer_of bytes = cond (nat_eq (length bytes) 6) (Some (addr_at Four 0 bytes)) (cond (nat_eq (length bytes) 18) (Some (addr_at Six 0 bytes)) None)

-- the peer of a value that may be a string; other values are passed over
abbrev pub peer_in : Option (List ℕ) → Option Addr
peer_in None = None
peer_in (Some bytes) = peer_of bytes

-- the peers of a list of values, in order
abbrev pub peers_among : List Value → List Addr
peers_among values = flat_map (λ v. option_to_list (peer_in (bytes_of v))) values

-- the same of a list that may be missing
abbrev pub peers_in : Option (List Value) → Option (List Addr)
peers_in None = None
peers_in (Some values) = Some (peers_among values)

-- ---- values that are carried as they are

-- The bytes are the written form of a value that may stand in a message's inner dictionary: of the 16 lists and
-- dictionaries that may be open at once, at most 14 are its own.
abbrev pub IsCarried : List ℕ → Type 0
IsCarried bytes = IsWrittenForm 2 bytes

-- ---- pairs

-- a key with its value, and with nothing where the value is missing
abbrev pub pair : List ℕ → Value → List (Pair Value)
pair key value = record { key = key; value = value } ∷ []

-- the same of a value that may be missing: then its key is left out
abbrev pub maybe : {A : Type 0} → List ℕ → (A → Value) → Option A → List (Pair Value)
maybe key form None = []
maybe key form (Some x) = pair key (form x)

-- the fact holds of each member of a list that may be missing
abbrev pub Each : {A : Type 0} → (A → Type 0) → Option (List A) → Type 0
Each P None = Unit {0}
Each P (Some items) = AllByRecursion P items
