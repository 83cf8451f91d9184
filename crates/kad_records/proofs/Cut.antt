-- Records that were written are cut apart again.
use Rattle.std.proofs.Common.{◌≡◌, ℕ, zero, suc, ◌+◌, ◌*◌, ◌/◌, ◌%◌, ◌<◌, List, [], ◌∷◌, ◌++◌, map, take, drop, get_or, length, Option, Some, None, refl, sym, ap, ◌∙◌, arith, length-append, append_assoc, append-nil}
use Rattle.std.specs.Prelude.{flat_map}
use Rattle.std.specs.List.{AllByRecursion, range_with_len}
use Rattle.std.proofs.Math.Nat.{mul-div_cancel_left, mul-mod_right}
use Rattle.std.proofs.lemmas.Nat.{div-add-mod'}
use Rattle.std.proofs.Math.Seq.{take-append_seam, get_or-append_seam}
use Rattle.kad_base.specs.declared.types.Id.{Id}
use Rattle.kad_base.specs.declared.types.Ip.{Ip}
use Rattle.kad_base.specs.declared.types.Ip.TheVariants.{V4, V6}
use Rattle.kad_base.specs.declared.types.Family.{Family}
use Rattle.kad_base.specs.declared.types.Family.TheVariants.{Four, Six}
use Rattle.kad_base.specs.declared.types.Addr.{Addr}
use Rattle.kad_base.specs.declared.types.Contact.{Contact}
use Rattle.kad_base.specs.declared.types.Proof.{Proof}
use Rattle.kad_base.specs.declared.types.Report.{Report}
use Rattle.kad_records.specs.Records.{port_bytes, ip_bytes, addr_bytes, node_bytes, proof_bytes, proved_bytes, part, port_at, ip_size, ip_in, addr_at, node_in, proof_at, proved_in, records_in, IsOf, IsNodeOf, HasProof, IsProvedOf, IsWellIp, IsWellProof, IsWellContact, IsWellReport, IsWellAddr}

-- ---- parts

drop_front : {A : Type 0} (xs ys : List A) (n : ℕ) → length xs ≡ n → drop n (xs ++ ys) ≡ ys
drop_front [] ys n e = ap (λ k. drop k ys) (sym e)
drop_front (x ∷ xs) ys n e = ap (λ k. drop k (x ∷ xs ++ ys)) (sym e) ∙ drop_front xs ys (length xs) refl

take_front : {A : Type 0} (xs ys : List A) (n : ℕ) → length xs ≡ n → take n (xs ++ ys) ≡ xs
take_front xs ys n e = ap (λ k. take k (xs ++ ys)) (sym e) ∙ take-append_seam xs ys

-- the part behind a front
pub part_at : (front mid rest : List ℕ) (at size : ℕ) → length front ≡ at → length mid ≡ size → part at size (front ++ (mid ++ rest)) ≡ mid
part_at front mid rest at size a s = ap (take size) (drop_front front (mid ++ rest) at a) ∙ take_front mid rest size s

-- what stands behind a front of this length
pub behind : (front rest : List ℕ) (size at n : ℕ) → length front ≡ size → part (size + at) n (front ++ rest) ≡ part at n rest
behind front rest size at n e = ap (take n) (further front rest size at e)
  where
    further : {A : Type 0} (xs ys : List A) (k i : ℕ) → length xs ≡ k → drop (k + i) (xs ++ ys) ≡ drop i ys
    further [] ys k i e = let z : k + i ≡ i = grind (arith, e) in ap (λ j. drop j ys) z
    further (x ∷ xs) ys k i e = let z : k + i ≡ suc (length xs + i) = grind (arith, e) in ap (λ j. drop j (x ∷ xs ++ ys)) z ∙ further xs ys (length xs) i refl

module _ {A : Type 0} (size : ℕ) (some : 0 < size) (write : A → List ℕ) (read : List ℕ → A) where
  abbrev IsOne : A → Type 0
  IsOne x = (length (write x) ≡ size) × (read (write x) ≡ x)

  long : (xs : List A) → AllByRecursion IsOne xs → length (flat_map write xs) ≡ size * length xs
  long [] a = grind arith
  long (x ∷ xs) a = let l = length-append (write x) (flat_map write xs) in let r = long xs a.1 in let w = a.0.0 in grind (arith, l, r, w)

  count : (xs : List A) → AllByRecursion IsOne xs → length (flat_map write xs) / size ≡ length xs
  count xs a = ap (λ n. n / size) (long xs a) ∙ mul-div_cancel_left (length xs) some

  shifted : (f g : ℕ → A) (a n : ℕ) → ((i : ℕ) → f (i + 1) ≡ g i) → map f (range_with_len (a + 1) n) ≡ map g (range_with_len a n)
  shifted f g a zero e = refl
  shifted f g a (suc n) e = (λ i. e a i ∷ shifted f g (a + 1) n e i)

  first : (x : A) (xs : List A) → IsOne x → read (part (0 * size) size (write x ++ flat_map write xs)) ≡ x
  first x xs a = let z : 0 * size ≡ 0 = grind arith in ap (λ k. read (part k size (write x ++ flat_map write xs))) z ∙ ap read (take_front (write x) (flat_map write xs) size a.0) ∙ a.1

  rest : (x : A) (xs : List A) → IsOne x → map (λ i. read (part (i * size) size (flat_map write xs))) (range_with_len 0 (length xs)) ≡ xs → map (λ i. read (part (i * size) size (write x ++ flat_map write xs))) (range_with_len 1 (length xs)) ≡ xs
  rest x xs a r = shifted (λ i. read (part (i * size) size (write x ++ flat_map write xs))) (λ i. read (part (i * size) size (flat_map write xs))) 0 (length xs) (λ i. let z : (i + 1) * size ≡ size + i * size = grind arith in ap read (ap (λ k. part k size (write x ++ flat_map write xs)) z ∙ behind (write x) (flat_map write xs) size (i * size) size a.0)) ∙ r

  cut : (xs : List A) (n : ℕ) → n ≡ length xs → AllByRecursion IsOne xs → map (λ i. read (part (i * size) size (flat_map write xs))) (range_with_len 0 n) ≡ xs
  cut [] n e a = ap (λ k. map (λ i. read (part (i * size) size [])) (range_with_len 0 k)) e
  cut (x ∷ xs) n e a =
      ap (λ k. map (λ i. read (part (i * size) size (write x ++ flat_map write xs))) (range_with_len 0 k)) e
      ∙ (λ j. first x xs a.0 j ∷ rest x xs a.0 (cut xs (length xs) refl a.1) j)

  pub cut_apart : (xs : List A) → AllByRecursion IsOne xs → records_in size read (flat_map write xs) ≡ xs
  cut_apart xs a = cut xs (length (flat_map write xs) / size) (count xs a) a

  pub whole_records : (xs : List A) → AllByRecursion IsOne xs → length (flat_map write xs) % size ≡ 0
  whole_records xs a = ap (λ n. n % size) (long xs a) ∙ mul-mod_right size (length xs)

-- ---- one record

byte_at : (front rest : List ℕ) (y : ℕ) (n : ℕ) → length front ≡ n → get_or (front ++ y ∷ rest) n 0 ≡ y
byte_at front rest y n e = ap (λ k. get_or (front ++ y ∷ rest) k 0) (sym e) ∙ get_or-append_seam front y rest 0

second_at : (front rest : List ℕ) (x y : ℕ) (n : ℕ) → length front ≡ n → get_or (front ++ x ∷ y ∷ rest) (n + 1) 0 ≡ y
second_at [] rest x y n e = let z : n + 1 ≡ 1 = grind (arith, e) in ap (λ k. get_or (x ∷ y ∷ rest) k 0) z
second_at (b ∷ front) rest x y n e = let z : n + 1 ≡ suc (length front + 1) = grind (arith, e) in ap (λ k. get_or (b ∷ front ++ x ∷ y ∷ rest) k 0) z ∙ second_at front rest x y (length front) refl

port_read : (front : List ℕ) (p at : ℕ) → length front ≡ at → port_at at (front ++ port_bytes p) ≡ p
port_read front p at e =
    let hi = byte_at front (p % 256 ∷ []) (p / 256) at e in
    let lo = second_at front [] (p / 256) (p % 256) at e in
    (λ i. hi i * 256 + lo i) ∙ div-add-mod' p 256

addr_read : (f : Family) (front b : List ℕ) (p at : ℕ) → length front ≡ at → length b ≡ ip_size f → addr_at f at (front ++ (b ++ port_bytes p)) ≡ record { ip = ip_in f b; port = p }
addr_read f front b p at e l =
    let ip = part_at front b (port_bytes p) at (ip_size f) e l in
    let long : length (front ++ b) ≡ at + ip_size f = length-append front b ∙ (λ i. e i + l i) in
    let port = ap (port_at (at + ip_size f)) (sym (append_assoc front b (port_bytes p))) ∙ port_read (front ++ b) p (at + ip_size f) long in
    (λ i. record { ip = ip_in f (ip i); port = port i })

addr_long : (b : List ℕ) (p n : ℕ) → length b ≡ n → length (b ++ port_bytes p) ≡ n + 2
addr_long b p n l = length-append b (port_bytes p) ∙ (λ i. l i + 2)

-- how many bytes a node takes, and one with its proof
abbrev pub node_size : Family → ℕ
node_size f = 20 + (ip_size f + 2)

abbrev pub proved_size : Family → ℕ
proved_size f = 72 + (ip_size f + 2)

node_of : (f : Family) (id : Id) (b : List ℕ) (p : ℕ) → length id.0 ≡ 20 → length b ≡ ip_size f → (length (id.0 ++ (b ++ port_bytes p)) ≡ node_size f) × (node_in f (id.0 ++ (b ++ port_bytes p)) ≡ record { id = id; addr = record { ip = ip_in f b; port = p } })
node_of f id b p w l =
    let id_is = take_front id.0 (b ++ port_bytes p) 20 w in
    let addr_is = addr_read f id.0 b p 20 w l in
    let long = addr_long b p (ip_size f) l in
    (length-append id.0 (b ++ port_bytes p) ∙ (λ i. w i + long i), (λ i. record { id = record { 0 = id_is i }; addr = addr_is i }))

one_node : (f : Family) (id : Id) (ip : Ip) (p : ℕ) → length id.0 ≡ 20 → IsWellIp ip → IsOf f ip → (length (id.0 ++ (ip_bytes ip ++ port_bytes p)) ≡ node_size f) × (node_in f (id.0 ++ (ip_bytes ip ++ port_bytes p)) ≡ record { id = id; addr = record { ip = ip; port = p } })
one_node Four id (V4 b) p w l n = node_of Four id b p w l
one_node Four id (V6 b) p w l n = absurd n
one_node Six id (V4 b) p w l n = absurd n
one_node Six id (V6 b) p w l n = node_of Six id b p w l

pub node_one : (f : Family) (c : Contact) → IsWellContact c → IsNodeOf f c → (length (node_bytes c) ≡ node_size f) × (node_in f (node_bytes c) ≡ c)
node_one f c w n = one_node f c.id c.addr.ip c.addr.port w.0 w.1.0 n

proved_of : (f : Family) (id : Id) (b : List ℕ) (p : ℕ) (proof : Proof) → length id.0 ≡ 20 → length b ≡ ip_size f → IsWellProof (Some proof) → (length (id.0 ++ (proof.key ++ proof.x) ++ (b ++ port_bytes p)) ≡ proved_size f) × (proved_in f (id.0 ++ (proof.key ++ proof.x) ++ (b ++ port_bytes p)) ≡ record { contact = record { id = id; addr = record { ip = ip_in f b; port = p } }; proof = Some proof })
proved_of f id b p proof w l k =
    let ends = b ++ port_bytes p in
    let kx : length (proof.key ++ proof.x) ≡ 52 = length-append proof.key proof.x ∙ (λ i. k.0 i + k.1 i) in
    let front : length (id.0 ++ (proof.key ++ proof.x)) ≡ 72 = length-append id.0 (proof.key ++ proof.x) ∙ (λ i. w i + kx i) in
    let id_is : part 0 20 (id.0 ++ (proof.key ++ proof.x) ++ ends) ≡ id.0 = ap (part 0 20) (append_assoc id.0 (proof.key ++ proof.x) ends) ∙ take_front id.0 ((proof.key ++ proof.x) ++ ends) 20 w in
    let key_is : part 20 32 (id.0 ++ (proof.key ++ proof.x) ++ ends) ≡ proof.key = ap (part 20 32) (append_assoc id.0 (proof.key ++ proof.x) ends ∙ ap (λ l. id.0 ++ l) (append_assoc proof.key proof.x ends)) ∙ part_at id.0 proof.key (proof.x ++ ends) 20 32 w k.0 in
    let idk : length (id.0 ++ proof.key) ≡ 52 = length-append id.0 proof.key ∙ (λ i. w i + k.0 i) in
    let x_is : part 52 20 (id.0 ++ (proof.key ++ proof.x) ++ ends) ≡ proof.x = ap (part 52 20) (append_assoc id.0 (proof.key ++ proof.x) ends ∙ ap (λ l. id.0 ++ l) (append_assoc proof.key proof.x ends) ∙ sym (append_assoc id.0 proof.key (proof.x ++ ends))) ∙ part_at (id.0 ++ proof.key) proof.x ends 52 20 idk k.1 in
    let addr_is = addr_read f (id.0 ++ (proof.key ++ proof.x)) b p 72 front l in
    let long = addr_long b p (ip_size f) l in (
      length-append (id.0 ++ (proof.key ++ proof.x)) ends ∙ (λ i. front i + long i),
      (λ i. record { contact = record { id = record { 0 = id_is i }; addr = addr_is i }; proof = Some (record { key = key_is i; x = x_is i }) }),
    )

one_proved : (f : Family) (id : Id) (ip : Ip) (p : ℕ) (proof : Option Proof) → length id.0 ≡ 20 → IsWellIp ip → IsWellProof proof → IsOf f ip → HasProof proof → (length (id.0 ++ proof_bytes proof ++ (ip_bytes ip ++ port_bytes p)) ≡ proved_size f) × (proved_in f (id.0 ++ proof_bytes proof ++ (ip_bytes ip ++ port_bytes p)) ≡ record { contact = record { id = id; addr = record { ip = ip; port = p } }; proof = proof })
one_proved Four id (V4 b) p (Some proof) w l k n h = proved_of Four id b p proof w l k
one_proved Six id (V6 b) p (Some proof) w l k n h = proved_of Six id b p proof w l k
one_proved f id ip p None w l k n h = absurd h
one_proved Four id (V6 b) p (Some proof) w l k n h = absurd n
one_proved Six id (V4 b) p (Some proof) w l k n h = absurd n

pub proved_one : (f : Family) (r : Report) → IsWellReport r → IsProvedOf f r → (length (proved_bytes r) ≡ proved_size f) × (proved_in f (proved_bytes r) ≡ r)
proved_one f r w n = one_proved f r.contact.id r.contact.addr.ip r.contact.addr.port r.proof w.0.0 w.0.1.0 w.1 n.0 n.1

-- a proof by itself
pub proof_one : (proof : Proof) → IsWellProof (Some proof) → (length (proof_bytes (Some proof)) ≡ 52) × (proof_at 0 (proof_bytes (Some proof)) ≡ proof)
proof_one proof w =
    let key_is = take_front proof.key proof.x 32 w.0 in
    let x_is : part 32 20 (proof.key ++ proof.x) ≡ proof.x = ap (λ l. part 32 20 (proof.key ++ l)) (sym (append-nil proof.x)) ∙ part_at proof.key proof.x [] 32 20 w.0 w.1 in (
      length-append proof.key proof.x ∙ (λ i. w.0 i + w.1 i),
      (λ i. record { key = key_is i; x = x_is i }),
    )

-- a peer, of 6 bytes or of 18
pub addr_one : (f : Family) (a : Addr) → IsWellAddr a → IsOf f a.ip → (length (addr_bytes a) ≡ ip_size f + 2) × (addr_at f 0 (addr_bytes a) ≡ a)
addr_one f a w n = one_addr f a.ip a.port w.0 n
  where
    one_addr : (f : Family) (ip : Ip) (p : ℕ) → IsWellIp ip → IsOf f ip → (length (ip_bytes ip ++ port_bytes p) ≡ ip_size f + 2) × (addr_at f 0 (ip_bytes ip ++ port_bytes p) ≡ record { ip = ip; port = p })
    one_addr Four (V4 b) p l n = (addr_long b p 4 l, addr_read Four [] b p 0 refl l)
    one_addr Four (V6 b) p l n = absurd n
    one_addr Six (V4 b) p l n = absurd n
    one_addr Six (V6 b) p l n = (addr_long b p 16 l, addr_read Six [] b p 0 refl l)
