-- Equal addresses, and equal contacts, are fed to a hasher alike.
use Rattle.std.specs.Prelude.{◌≡◌, ℕ, List, [], ◌∷◌, ◌++◌, true}
use Rattle.std.specs.Int.{w16, to_le_bytes}
use Rattle.std.specs.Cmp.{first_so, second_so, unsigned_Decides}
use Rattle.std.specs.Cmp.Lexicographic.{bytes_decides}
use mathlib.Core.Path.{ap, sym}
use mathlib.Core.Bool.{true≢false}
use Rattle.kad_base.specs.declared.types.Ip.{Ip}
use Rattle.kad_base.specs.declared.types.Ip.TheVariants.{V4, V6}
use Rattle.kad_base.specs.contracts.types.IpPartialEq.TheImpl as ip_eq
use Rattle.kad_base.specs.declared.types.Contact.{Contact}
use Rattle.kad_base.specs.contracts.types.ContactPartialEq.TheImpl as contact_eq
use Rattle.kad_base.specs.Contacts.{octets}

octets_alike : (a b : Ip) → (ip_eq.ghosts).eq a b ≡ true → octets a ≡ octets b
octets_alike (V4 a) (V4 b) e = (bytes_decides a b).0 e
octets_alike (V4 a) (V6 b) e = absurd (true≢false (sym e))
octets_alike (V6 a) (V4 b) e = absurd (true≢false (sym e))
octets_alike (V6 a) (V6 b) e = (bytes_decides a b).0 e

pub ip_alike : (a b : Ip) → (ip_eq.ghosts).eq a b ≡ true → octets a ∷ [] ≡ octets b ∷ []
ip_alike a b e = ap (λ (bytes : List ℕ). bytes ∷ []) (octets_alike a b e)

-- a contact as one run of bytes: identifier, address, and port, its low byte first
abbrev pub contact_bytes : Contact → List ℕ
contact_bytes c = c.id.0 ++ octets c.addr.ip ++ to_le_bytes w16 c.addr.port

pub contact_alike : (a b : Contact) → (contact_eq.ghosts).eq a b ≡ true → contact_bytes a ∷ [] ≡ contact_bytes b ∷ []
contact_alike a b e =
    let ids = (bytes_decides a.id.0 b.id.0).0 (first_so _ _ e) in
    let places = second_so _ _ e in
    let ips = octets_alike a.addr.ip b.addr.ip (first_so _ _ places) in
    let ports = (unsigned_Decides a.addr.port b.addr.port).0 (second_so _ _ places) in
    λ j. (ids j ++ ips j ++ to_le_bytes w16 (ports j)) ∷ []
