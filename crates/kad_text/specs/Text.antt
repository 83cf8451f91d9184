-- How identifiers, numbers and addresses are spelled: in the words of a command, in an input and in an output.
use Rattle.std.specs.Prelude.{◌≡◌, ℕ, ◌^◌, ◌<◌, ◌≤◌, List, [], ◌∷◌, ◌++◌, length, codes, decimal}
use Rattle.std.specs.Str.{str_to_ascii_lowercase}
use Rattle.std.specs.Net.Text.{ipv4_text}
use Rattle.hex.specs.Hex.{encode_lower, IsBytes}
use Rattle.kad_base.specs.declared.types.Id.{Id}
use Rattle.kad_base.specs.declared.types.Ip.{Ip}
use Rattle.kad_base.specs.declared.types.Ip.TheVariants.{V4, V6}
use Rattle.kad_base.specs.declared.types.Addr.{Addr}
use Rattle.kad_base.specs.declared.types.Contact.{Contact}
use Rattle.kad_base.specs.declared.types.Family.{Family}
use Rattle.kad_base.specs.declared.types.Family.TheVariants.{Four, Six}

-- the text is that many bytes in hex (base 16 of RFC 4648, section 8): two digits a byte, each of either case
pub record SpellsHex (size : ℕ) (text bytes : List ℕ) : Type 0 where
  pub long : length bytes ≡ size
  pub fit : IsBytes bytes
  pub digits : str_to_ascii_lowercase text ≡ encode_lower bytes

-- the same, however many they are
abbrev pub SpellsBytes : List ℕ → List ℕ → Type 0
SpellsBytes text bytes = SpellsHex (length bytes) text bytes

-- the text is the identifier in hex, 40 digits
abbrev pub SpellsId : List ℕ → Id → Type 0
SpellsId text id = SpellsHex 20 text id.0

-- the text is the number in decimal digits without leading zeros, and the number is within the two bounds
pub record SpellsNumber (least most : ℕ) (text : List ℕ) (n : ℕ) : Type 0 where
  pub digits : text ≡ decimal n
  pub above : least ≤ n
  pub below : n ≤ most

-- groups of two bytes, each as four lower-case hex digits, the first after `lead` and each other after a colon
abbrev pub groups_after : List ℕ → List ℕ → List ℕ
groups_after lead [] = []
groups_after lead (a ∷ []) = []
groups_after lead (a ∷ b ∷ rest) = lead ++ encode_lower (a ∷ b ∷ []) ++ groups_after (codes ":") rest

-- an IP address as it is printed: the dotted decimal of IPv4, or all eight groups of IPv6 in brackets (RFC 3986, section
-- 3.2.2)
abbrev pub ip_text : Ip → List ℕ
ip_text (V4 bytes) = ipv4_text bytes
ip_text (V6 bytes) = groups_after (codes "[") bytes ++ codes "]"

-- a UDP address as it is printed
abbrev pub addr_text : Addr → List ℕ
addr_text addr = ip_text addr.ip ++ codes ":" ++ decimal addr.port

-- what an address can hold: 4 bytes or 16, and a port of 16 bits
abbrev pub FitsIp : Ip → Type 0
FitsIp (V4 bytes) = (length bytes ≡ 4) × IsBytes bytes
FitsIp (V6 bytes) = (length bytes ≡ 16) × IsBytes bytes

abbrev pub FitsAddr : Addr → Type 0
FitsAddr addr = FitsIp addr.ip × (addr.port < 2 ^ 16)

-- the text is the address as it is printed, a.b.c.d:port or [h:h:h:h:h:h:h:h]:port, but its hex digits have either case. So
-- each group has four digits, and none is left out
pub record SpellsAddr (text : List ℕ) (addr : Addr) : Type 0 where
  pub fits : FitsAddr addr
  pub printed : str_to_ascii_lowercase text ≡ addr_text addr

-- the version of the Internet Protocol, by which a family is named
abbrev pub version : Family → ℕ
version Four = 4
version Six = 6

-- the text is the family's version
abbrev pub SpellsFamily : List ℕ → Family → Type 0
SpellsFamily text Four = text ≡ codes "4"
SpellsFamily text Six = text ≡ codes "6"

-- an identifier in lower-case hex, a space, and its address
abbrev pub contact_text : Contact → List ℕ
contact_text c = encode_lower c.id.0 ++ codes " " ++ addr_text c.addr

abbrev pub FitsId : Id → Type 0
FitsId id = (length id.0 ≡ 20) × IsBytes id.0

abbrev pub FitsContact : Contact → Type 0
FitsContact c = FitsId c.id × FitsAddr c.addr
