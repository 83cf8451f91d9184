-- Lists of contacts that compare as equal are one.
use Rattle.std.proofs.Common.{◌≡◌, Bool, true, ◌&&◌, List, [], ◌∷◌, refl, ap, eqb}
use Rattle.std.specs.Cmp.Lexicographic.{pointwise, bytes_decides}
use Rattle.std.proofs.lemmas.Bool.{and_parts, and_from, eqb-true, eq-eqb}
use Rattle.kad_base.specs.declared.types.Ip.{Ip}
use Rattle.kad_base.specs.declared.types.Ip.TheVariants.{V4, V6}
use Rattle.kad_base.specs.declared.types.Contact.{Contact}
use Rattle.kad_base.specs.contracts.types.IpPartialEq.TheImpl as ip_eq
use Rattle.kad_base.specs.contracts.types.ContactPartialEq.TheImpl as contact_eq
use Rattle.kad_base.proofs.Contacts.{same_contact}

ip_exact : (a b : Ip) → (ip_eq.ghosts).eq a b ≡ true → a ≡ b
ip_exact (V4 a) (V4 b) e = ap V4 ((bytes_decides a b).0 e)
ip_exact (V4 a) (V6 b) e = absurd cc
ip_exact (V6 a) (V4 b) e = absurd cc
ip_exact (V6 a) (V6 b) e = ap V6 ((bytes_decides a b).0 e)

ip_itself : (a : Ip) → (ip_eq.ghosts).eq a a ≡ true
ip_itself (V4 a) = (bytes_decides a a).1 refl
ip_itself (V6 a) = (bytes_decides a a).1 refl

abbrev bytes_same : (a b : Contact) → Bool
bytes_same a b = pointwise eqb a.id.0 b.id.0

equal_exact : (a b : Contact) → (contact_eq.ghosts).eq a b ≡ true → a ≡ b
equal_exact a b e =
    let p = and_parts (bytes_same a b) ((ip_eq.ghosts).eq a.addr.ip b.addr.ip && eqb a.addr.port b.addr.port) e in
    let q = and_parts ((ip_eq.ghosts).eq a.addr.ip b.addr.ip) (eqb a.addr.port b.addr.port) p.1 in
    same_contact _ _ _ _ _ _ ((bytes_decides a.id.0 b.id.0).0 p.0) (ip_exact a.addr.ip b.addr.ip q.0) (eqb-true a.addr.port b.addr.port q.1)

equal_itself : (a : Contact) → (contact_eq.ghosts).eq a a ≡ true
equal_itself a =
    and_from (bytes_same a a) ((ip_eq.ghosts).eq a.addr.ip a.addr.ip && eqb a.addr.port a.addr.port) ((bytes_decides a.id.0 a.id.0).1 refl)
    (and_from ((ip_eq.ghosts).eq a.addr.ip a.addr.ip) (eqb a.addr.port a.addr.port) (ip_itself a.addr.ip) (eq-eqb a.addr.port a.addr.port refl))

pub lists_exact : (a b : List Contact) → pointwise (contact_eq.ghosts).eq a b ≡ true → a ≡ b
lists_exact [] [] e = refl
lists_exact [] (y ∷ b) e = absurd cc
lists_exact (x ∷ a) [] e = absurd cc
lists_exact (x ∷ a) (y ∷ b) e =
    let p = and_parts ((contact_eq.ghosts).eq x y) (pointwise (contact_eq.ghosts).eq a b) e in
    let here : x ≡ y = equal_exact x y p.0 in
    let rest : a ≡ b = lists_exact a b p.1 in
    cc

pub lists_itself : (a : List Contact) → pointwise (contact_eq.ghosts).eq a a ≡ true
lists_itself [] = refl
lists_itself (x ∷ a) = and_from ((contact_eq.ghosts).eq x x) (pointwise (contact_eq.ghosts).eq a a) (equal_itself x) (lists_itself a)
