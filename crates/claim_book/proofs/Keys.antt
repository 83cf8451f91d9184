-- Keys of the map are told apart as contacts are, and spots by path and contact.
use Rattle.std.proofs.Common.{◌≡◌, ℕ, Bool, true, false, ◌&&◌, refl, sym, ap, subst, ◌∙◌, eqb}
use Rattle.std.specs.Cmp.{IsEquivalence}
use Rattle.std.specs.Cmp.Lexicographic.{pointwise, bytes_decides}
use Rattle.std.proofs.lemmas.Bool.{and_parts, and_from, eqb-true, eq-eqb}
use Rattle.kad_base.specs.declared.types.Ip.{Ip}
use Rattle.kad_base.specs.declared.types.Ip.TheVariants.{V4, V6}
use Rattle.kad_base.specs.declared.types.Contact.{Contact}
use Rattle.kad_base.specs.contracts.types.IpPartialEq.TheImpl as ip_eq
use Rattle.kad_base.specs.Contacts.{same}
use Rattle.kad_base.proofs.Contacts.{same_exact, same_itself, same_back, same_contact}
use Rattle.claim_book.specs.Claims.{key_eq, spot_eq, spot}

ip_exact : (a b : Ip) → (ip_eq.ghosts).eq a b ≡ true → a ≡ b
ip_exact (V4 a) (V4 b) e = ap V4 ((bytes_decides a b).0 e)
ip_exact (V4 a) (V6 b) e = absurd cc
ip_exact (V6 a) (V4 b) e = absurd cc
ip_exact (V6 a) (V6 b) e = ap V6 ((bytes_decides a b).0 e)

ip_itself : (a : Ip) → (ip_eq.ghosts).eq a a ≡ true
ip_itself (V4 a) = (bytes_decides a a).1 refl
ip_itself (V6 a) = (bytes_decides a a).1 refl

abbrev bytes_same : (a b : Contact) → Bool
bytes_same a b = pointwise eqb a.id.0 b.id.0

pub key_exact : (a b : Contact) → key_eq a b ≡ true → a ≡ b
key_exact a b e =
    let p = and_parts (bytes_same a b) ((ip_eq.ghosts).eq a.addr.ip b.addr.ip && eqb a.addr.port b.addr.port) e in
    let q = and_parts ((ip_eq.ghosts).eq a.addr.ip b.addr.ip) (eqb a.addr.port b.addr.port) p.1 in
    same_contact _ _ _ _ _ _ ((bytes_decides a.id.0 b.id.0).0 p.0) (ip_exact a.addr.ip b.addr.ip q.0) (eqb-true a.addr.port b.addr.port q.1)

pub key_itself : (a : Contact) → key_eq a a ≡ true
key_itself a =
    and_from (bytes_same a a) ((ip_eq.ghosts).eq a.addr.ip a.addr.ip && eqb a.addr.port a.addr.port) ((bytes_decides a.id.0 a.id.0).1 refl)
    (and_from ((ip_eq.ghosts).eq a.addr.ip a.addr.ip) (eqb a.addr.port a.addr.port) (ip_itself a.addr.ip) (eq-eqb a.addr.port a.addr.port refl))

pub key_same : (a b : Contact) → key_eq a b ≡ same a b
key_same a b = by (key_eq a b) (same a b) (λ e. subst (λ x. same a x ≡ true) (key_exact a b e) (same_itself a)) (λ e. subst (λ x. key_eq a x ≡ true) (same_exact a b e) (key_itself a))
  where
    by : (x y : Bool) → (x ≡ true → y ≡ true) → (y ≡ true → x ≡ true) → x ≡ y
    by true y f g = sym (f refl)
    by false true f g = g refl
    by false false f g = refl

pub key_equiv : IsEquivalence key_eq
key_equiv = record {
  refl = key_itself;
  symm = λ a b. key_same a b ∙ same_back a b ∙ sym (key_same b a);
  congr = λ a b c e. ap (λ x. key_eq x c) (key_exact a b e);
}

pub spot_same : (p q : ℕ) (a b : Contact) → spot_eq (spot p a) (spot q b) ≡ (eqb p q && same b a)
spot_same p q a b = ap (λ t. eqb p q && t) (key_same a b ∙ same_back a b)
