-- Hosts are told apart, and how many contacts of one a path has after one more entry.
use Rattle.std.proofs.Common.{◌≡◌, ℕ, ◌+◌, ◌≤◌, List, [], ◌∷◌, ◌++◌, length, Bool, true, false, ◌&&◌, cond, refl, ap, ◌∙◌, eqb, arith}
use Rattle.std.specs.Cmp.Lexicographic.{bytes_decides}
use Rattle.std.proofs.lemmas.Bool.{and_parts, eqb-true}
use Rattle.std.proofs.lemmas.List.{length-append}
use Rattle.std.proofs.lemmas.List.Elements.{filter-append}
use Rattle.kad_base.specs.declared.types.Contact.{Contact}
use Rattle.claim_book.specs.declared.types.Entry.{Entry}
use Rattle.kad_base.specs.declared.host.Host.{Host}
use Rattle.kad_base.specs.declared.host.Host.TheVariants.{V4, V6}
use Rattle.claim_book.specs.declared.claim_map.Seat.{Seat}
use Rattle.claim_book.specs.Journal.{on_path, path_of, path}
use Rattle.kad_base.specs.Hosts.{host, same_host, at_host}
use Rattle.claim_book.specs.Crowded.{crowd}
use Rattle.claim_book.specs.Claims.{seat_eq, seat}
use Rattle.claim_book.proofs.More.{path_more}

pub host_exact : (a b : Host) → same_host a b ≡ true → a ≡ b
host_exact (V4 a) (V4 b) e = ap V4 ((bytes_decides a b).0 e)
host_exact (V4 a) (V6 b) e = absurd cc
host_exact (V6 a) (V4 b) e = absurd cc
host_exact (V6 a) (V6 b) e = ap V6 ((bytes_decides a b).0 e)

pub seat_exact : (a b : Seat) → seat_eq a b ≡ true → (a.path ≡ b.path) × (a.host ≡ b.host)
seat_exact a b e =
    let p = and_parts (eqb a.path b.path) (same_host a.host b.host) e in
    (eqb-true a.path b.path p.0, host_exact a.host b.host p.1)

-- one more contact of a host, or none
abbrev pub one_of : ℕ → Contact → ℕ → Host → ℕ
one_of q c p h = cond (seat_eq (seat q (host c.addr)) (seat p h)) 1 0

on_path_count : (p q : ℕ) (c : Contact) (h : Host) → length (at_host h (on_path p q (c ∷ []))) ≡ one_of q c p h
on_path_count p q c h = by (eqb q p) (same_host (host c.addr) h)
  where
    by : (a b : Bool) → length (at_host h (cond a (c ∷ []) [])) ≡ cond (a && same_host (host c.addr) h) 1 0
    by true b = elim (same_host (host c.addr) h) as (λ b. length (cond b (c ∷ []) []) ≡ cond b 1 0) [ true ↦ refl | false ↦ refl ]
    by false b = refl

-- after an entry that gives the path these contacts
crowd_more : (p : ℕ) (h : Host) (J : List Entry) (e : Entry) → crowd p h (J ++ e ∷ []) ≡ crowd p h J + length (at_host h (path_of p e))
crowd_more p h J e =
    ap (λ l. length (at_host h l)) (path_more p J e)
    ∙ ap length (filter-append (λ (c : Contact). same_host (host c.addr) h) (path p J) (path_of p e))
    ∙ length-append (at_host h (path p J)) (at_host h (path_of p e))

pub crowd_kept : (p : ℕ) (h : Host) (J : List Entry) (e : Entry) → path_of p e ≡ [] → crowd p h (J ++ e ∷ []) ≡ crowd p h J
crowd_kept p h J e none_ = (let z = ap (λ l. length (at_host h l)) none_ in omega (arith, crowd_more p h J e))

-- after one by which path q gets a contact
pub crowd_gains : (p q : ℕ) (h : Host) (c : Contact) (J : List Entry) (e : Entry) → path_of p e ≡ on_path p q (c ∷ []) → crowd p h (J ++ e ∷ []) ≡ crowd p h J + one_of q c p h
crowd_gains p q h c J e gets = (let z = ap (λ l. length (at_host h l)) gets ∙ on_path_count p q c h in omega (arith, crowd_more p h J e))

-- none is taken from a path
pub crowd_grows : (p : ℕ) (h : Host) (J : List Entry) (e : Entry) (n : ℕ) → n ≤ crowd p h J → n ≤ crowd p h (J ++ e ∷ [])
crowd_grows p h J e n le = omega (arith, crowd_more p h J e)
