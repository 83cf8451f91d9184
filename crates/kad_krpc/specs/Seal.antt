-- Tags of messages: a tag stands at the top of a datagram as a byte string under the key `sg`, which is this project's own.
-- What is tagged is the written form of the datagram's dictionary without that pair.
use Rattle.std.specs.Prelude.{◌≡◌, ℕ, List, Some, None, codes}
use Rattle.kad_bencode.specs.Keys.{put, value_of, without}
use Rattle.kad_bencode.specs.Spelling.{Spells, text_of}
use Rattle.kad_bencode.specs.declared.entries.Pair.{Pair}
use Rattle.kad_bencode.specs.declared.value.Value.{Value}
use Rattle.kad_bencode.specs.declared.value.Value.TheVariants.{Text, Dict}

-- the written form of a dictionary without the pair of the tag
abbrev pub body_of : List (Pair Value) → List ℕ
body_of pairs = text_of (Dict (without pairs (codes "sg")))

-- the written form of a dictionary with the pair of this tag
abbrev pub tagged : List (Pair Value) → List ℕ → List ℕ
tagged pairs tag = text_of (Dict (put pairs (codes "sg") (Text tag)))

-- the value is a dictionary that has this tag
abbrev pub BearsTag : Value → List ℕ → Type 0
BearsTag v tag = (pairs : List (Pair Value)) × (v ≡ Dict pairs) × (value_of pairs (codes "sg") ≡ Some (Text tag))

-- the value is no dictionary, or it has no `sg`, or that is no byte string
abbrev pub LacksTag : Value → Type 0
LacksTag v = (pairs : List (Pair Value)) (tag : List ℕ) → v ≡ Dict pairs → value_of pairs (codes "sg") ≡ Some (Text tag) → ⊥

-- this is what is tagged of a dictionary
abbrev pub IsBodyOf : Value → List ℕ → Type 0
IsBodyOf v body = (pairs : List (Pair Value)) → v ≡ Dict pairs → body ≡ body_of pairs

-- the bytes spell a dictionary that has this tag, and this is what is tagged
pub record IsTagged (bytes body tag : List ℕ) : Type 0 where
  pub pairs : List (Pair Value)
  pub spelled : Spells bytes (Dict pairs)
  pub tag_is : value_of pairs (codes "sg") ≡ Some (Text tag)
  pub body_is : body ≡ body_of pairs

-- the bytes are the written form of this dictionary, which has no `sg`
pub record IsUntagged (bytes : List ℕ) (pairs : List (Pair Value)) : Type 0 where
  pub written : bytes ≡ text_of (Dict pairs)
  pub spelled : Spells bytes (Dict pairs)
  pub no_tag : value_of pairs (codes "sg") ≡ None
