-- Which of two contacts is closer to a target, by the prefixes that cover them.
use Rattle.std.proofs.Common.{◌≡◌, ◌≢◌, ℕ, zero, suc, ◌+◌, ◌-◌, ◌*◌, ◌/◌, ◌%◌, ◌<◌, ◌≤◌, List, [], ◌∷◌, ◌++◌, length, get_or, ◌⊎◌, Bool, true, false, refl, sym, ap, subst, ◌∙◌, inl, inr, arith}
use Rattle.std.specs.Prelude.{bit_xor, nat_eq}
use Rattle.std.specs.Int.{bit_at}
use Rattle.std.specs.Ordering.{nat_cmp, ordering_then}
use Rattle.std.specs.Cmp.Lexicographic.{slice_cmp}
use Rattle.std.specs.declared.cmp.Ordering.TheVariants.{Less}
use Rattle.std.specs.Int.Bits.{xor_zero_l}
use Rattle.std.proofs.lemmas.Bool.{cases_lt}
use Rattle.std.proofs.lemmas.List.{length-append}
use Rattle.std.proofs.lemmas.Nat.Bits.{bit_at-lt, same_from_bits_below}
use Rattle.kad_base.specs.declared.types.Id.{Id}
use Rattle.kad_base.specs.declared.types.Contact.{Contact}
use Rattle.kad_base.specs.Bits.{xor_bytes}
use Rattle.kad_base.specs.Contacts.{address_bytes}
use Rattle.kad_distance.specs.Order.{IsCloser}
use Rattle.bucket_tree.specs.Partition.{bit, bits_from, id_bits, begins}
use Rattle.bucket_tree.proofs.Begun.{and_left, and_right, same_bit-same}
use Rattle.bucket_tree.proofs.OneBit.{id_bits-is, id_bits-length}
use Rattle.bucket_tree.specs.Trees.{IsWhole}
use Rattle.bucket_tree.proofs.Bytes.{byte_less}

-- the bit of a byte, as a number
pub bit_same : (a b i j : ℕ) → nat_eq (bit_at a i) 1 ≡ nat_eq (bit_at b j) 1 → bit_at a i ≡ bit_at b j
bit_same a b i j e = go (bit_at a i) (bit_at b j) (bit_at-lt a i) (bit_at-lt b j) e
  where
    go : (x y : ℕ) → x < 2 → y < 2 → nat_eq x 1 ≡ nat_eq y 1 → x ≡ y
    go zero zero lx ly e = refl
    go zero (suc zero) lx ly e = absurd cc
    go (suc zero) zero lx ly e = absurd cc
    go (suc zero) (suc zero) lx ly e = refl
    go (suc (suc x)) y lx ly e = absurd (omega arith)
    go x (suc (suc y)) lx ly e = absurd (omega arith)

-- the bits of the first byte
top_bit : (a : ℕ) (bytes : List ℕ) (m : ℕ) → m < 8 → bit (a ∷ bytes) (7 - m) ≡ nat_eq (bit_at a m) 1
top_bit a bytes m lt =
    let e : (7 - m) / 8 ≡ 0 = omega arith in
    let f : 7 - (7 - m) % 8 ≡ m = omega arith in
    ap (λ (i : ℕ). nat_eq (bit_at (get_or (a ∷ bytes) i 0) (7 - (7 - m) % 8)) 1) e ∙ ap (λ (i : ℕ). nat_eq (bit_at a i) 1) f

-- and those of the others
later_bit : (a : ℕ) (bytes : List ℕ) (i : ℕ) → bit (a ∷ bytes) (i + 8) ≡ bit bytes i
later_bit a bytes i =
    let e : (i + 8) / 8 ≡ suc (i / 8) = omega arith in
    let f : (i + 8) % 8 ≡ i % 8 = omega arith in
    ap (λ (j : ℕ). nat_eq (bit_at (get_or (a ∷ bytes) j 0) (7 - (i + 8) % 8)) 1) e ∙ ap (λ (j : ℕ). nat_eq (bit_at (get_or bytes (i / 8) 0) (7 - j)) 1) f

later_none : (i : ℕ) → bit [] (i + 8) ≡ bit [] i
later_none i = let f : (i + 8) % 8 ≡ i % 8 = omega arith in ap (λ (j : ℕ). nat_eq (bit_at 0 (7 - j)) 1) f

cmp_first : (x y : ℕ) (xs ys : List ℕ) → x < y → slice_cmp nat_cmp (x ∷ xs) (y ∷ ys) ≡ Less
cmp_first x y xs ys lt = grind (arith, lt)

cmp_next : (x y : ℕ) (xs ys : List ℕ) → x ≡ y → slice_cmp nat_cmp xs ys ≡ Less → slice_cmp nat_cmp (x ∷ xs) (y ∷ ys) ≡ Less
cmp_next x y xs ys e rest = grind (arith, e, rest)

xor_none : (a : List ℕ) → xor_bytes [] a ≡ a
xor_none [] = refl
xor_none (x ∷ a) = refl

abbrev AllSmall : List ℕ → Type 0
AllSmall bytes = (i : ℕ) → get_or bytes i 0 < 256

-- bytes that agree before bit n, and of which the first has the target's bit there
bytes_less : (t a c : List ℕ) (n : ℕ) → length a ≡ length c → n < 8 * length a → AllSmall a → AllSmall c → ((i : ℕ) → i < n → bit a i ≡ bit c i) → bit a n ≡ bit t n → bit c n ≢ bit t n
    → slice_cmp nat_cmp (xor_bytes t a) (xor_bytes t c) ≡ Less
bytes_less t [] c n long lt sa sc agree same other = absurd (omega arith)
bytes_less t (x ∷ a) [] n long lt sa sc agree same other = absurd (omega arith)
bytes_less t (x ∷ a) (y ∷ c) n long lt sa sc agree same other =
    go t (cases_lt n 8)
    (λ u many e f. bytes_less u a c (n - 8) (omega (arith, long)) (omega (arith, lt, many)) (λ i. sa (suc i)) (λ i. sc (suc i))
    (λ i before. sym (later_bit x a i) ∙ agree (i + 8) (omega arith) ∙ later_bit y c i) (sym (down a x many) ∙ e) (λ q. f (down c y many ∙ q)))
    same other
  where
    high : (m : ℕ) → m < 8 → 7 - m < n → bit_at x m ≡ bit_at y m
    high m few before = bit_same x y m m (sym (top_bit x a m few) ∙ agree (7 - m) before ∙ top_bit y c m few)

    here : (z : ℕ) (zs : List ℕ) (w : ℕ) (ws : List ℕ) → n < 8 → bit (z ∷ zs) n ≡ bit (w ∷ ws) n → bit_at z (7 - n) ≡ bit_at w (7 - n)
    here z zs w ws few e =
        let back : 7 - (7 - n) ≡ n = omega arith in
        bit_same z w (7 - n) (7 - n) (sym (top_bit z zs (7 - n) (omega arith)) ∙ ap (bit (z ∷ zs)) back ∙ e ∙ sym (ap (bit (w ∷ ws)) back) ∙ top_bit w ws (7 - n) (omega arith))

    there : (z : ℕ) (zs : List ℕ) (w : ℕ) (ws : List ℕ) → n < 8 → bit_at z (7 - n) ≡ bit_at w (7 - n) → bit (z ∷ zs) n ≡ bit (w ∷ ws) n
    there z zs w ws few e =
        let back : 7 - (7 - n) ≡ n = omega arith in
        sym (ap (bit (z ∷ zs)) back) ∙ top_bit z zs (7 - n) (omega arith) ∙ ap (λ (b : ℕ). nat_eq b 1) e ∙ sym (top_bit w ws (7 - n) (omega arith)) ∙ ap (bit (w ∷ ws)) back

    first : (z : ℕ) (zs : List ℕ) → n < 8 → bit (x ∷ a) n ≡ bit (z ∷ zs) n → bit (y ∷ c) n ≢ bit (z ∷ zs) n → bit_xor z x < bit_xor z y
    first z zs few e f =
        byte_less z x y (7 - n) (sa 0) (sc 0) (omega arith) (λ i lt few. high i few (omega arith)) (here x a z zs few e) (λ q. f (there y c z zs few q))

    equal : 8 ≤ n → x ≡ y
    equal many = same_from_bits_below 8 x y (sa 0) (sc 0) (λ i few. high i few (omega arith))

    down : (b : List ℕ) (z : ℕ) → 8 ≤ n → bit (z ∷ b) n ≡ bit b (n - 8)
    down b z many = let e : n ≡ n - 8 + 8 = omega arith in ap (bit (z ∷ b)) e ∙ later_bit z b (n - 8)

    down_none : 8 ≤ n → bit [] n ≡ bit [] (n - 8)
    down_none many = let e : n ≡ n - 8 + 8 = omega arith in ap (bit []) e ∙ later_none (n - 8)

    top_none : n < 8 → bit (0 ∷ []) n ≡ bit [] n
    top_none few = let e : n / 8 ≡ 0 = omega arith in ap (λ (j : ℕ). nat_eq (bit_at (get_or (0 ∷ []) j 0) (7 - n % 8)) 1) e

    go : (t : List ℕ) → (n < 8) ⊎ (8 ≤ n) → ((u : List ℕ) → 8 ≤ n → bit (x ∷ a) n ≡ bit u (n - 8) → bit (y ∷ c) n ≢ bit u (n - 8) → slice_cmp nat_cmp (xor_bytes u a) (xor_bytes u c) ≡ Less)
        → bit (x ∷ a) n ≡ bit t n → bit (y ∷ c) n ≢ bit t n → slice_cmp nat_cmp (xor_bytes t (x ∷ a)) (xor_bytes t (y ∷ c)) ≡ Less
    go (z ∷ zs) (inl few) rest e f = cmp_first (bit_xor z x) (bit_xor z y) (xor_bytes zs a) (xor_bytes zs c) (first z zs few e f)
    go (z ∷ zs) (inr many) rest e f = cmp_next (bit_xor z x) (bit_xor z y) (xor_bytes zs a) (xor_bytes zs c) (ap (bit_xor z) (equal many)) (rest zs many (e ∙ down zs z many) (λ q. f (q ∙ sym (down zs z many))))
    go [] (inl few) rest e f =
        cmp_first x y a c (subst (λ (n : ℕ). n < y) (xor_zero_l x) (subst (λ (n : ℕ). bit_xor 0 x < n) (xor_zero_l y) (first 0 [] few (e ∙ sym (top_none few)) (λ q. f (q ∙ top_none few)))))
    go [] (inr many) rest e f =
        cmp_next x y a c (equal many) (sym (ap (λ (l : List ℕ). slice_cmp nat_cmp l (xor_bytes [] c)) (xor_none a) ∙ ap (slice_cmp nat_cmp a) (xor_none c)) ∙ rest [] many (e ∙ down_none many) (λ q. f (q ∙ sym (down_none many))))

-- the bits that a prefix has
pub begins_bit : (p : List Bool) (n s i : ℕ) (w : List ℕ) → begins p (bits_from n s w) ≡ true → i < length p → bit w (s + i) ≡ get_or p i false
unfolding bits_from
begins_bit [] n s i w e lt = absurd (omega arith)
begins_bit (x ∷ p) zero s i w e lt = absurd cc
begins_bit (x ∷ p) (suc n) s zero w e lt =
    let start : s + 0 ≡ s = omega arith in
    ap (bit w) start ∙ sym (same_bit-same x (bit w s) (and_left _ _ e))
begins_bit (x ∷ p) (suc n) s (suc i) w e lt =
    let next : s + suc i ≡ s + 1 + i = omega arith in
    ap (bit w) next ∙ begins_bit p n (s + 1) i w (and_right _ _ e) (omega arith)

begins_long : (p w : List Bool) → begins p w ≡ true → length p ≤ length w
begins_long [] w e = omega arith
begins_long (x ∷ p) [] e = absurd cc
begins_long (x ∷ p) (y ∷ w) e = let le = begins_long p w (and_right _ _ e) in omega arith

last_of : (p : List Bool) (x : Bool) → get_or (p ++ x ∷ []) (length p) false ≡ x
last_of [] x = refl
last_of (y ∷ p) x = last_of p x

front_of : (p : List Bool) (x y : Bool) (i : ℕ) → i < length p → get_or (p ++ x ∷ []) i false ≡ get_or (p ++ y ∷ []) i false
front_of [] x y i lt = absurd (omega arith)
front_of (z ∷ p) x y zero lt = refl
front_of (z ∷ p) x y (suc i) lt = front_of p x y i (omega arith)

more : (p : List Bool) (x : Bool) → length (p ++ x ∷ []) ≡ length p + 1
more p x = length-append p (x ∷ [])

has_bit : (p : List Bool) (id : Id) → begins p (id_bits id) ≡ true → (i : ℕ) → i < length p → bit id.0 i ≡ get_or p i false
has_bit p id e i lt =
    let start : 0 + i ≡ i = omega arith in
    sym (ap (bit id.0) start) ∙ begins_bit p 160 0 i id.0 (ap (begins p) (sym (id_bits-is id)) ∙ e) lt

-- of two halves of one range the one with the target's bit is closer, contact by contact
pub half_nearer : (target : Id) (p : List Bool) (x y : Bool) (a c : Contact) → x ≡ bit target.0 (length p) → y ≢ bit target.0 (length p) → IsWhole a.id → IsWhole c.id
    → begins (p ++ x ∷ []) (id_bits a.id) ≡ true → begins (p ++ y ∷ []) (id_bits c.id) ≡ true → IsCloser target a c
half_nearer target p x y a c same other wa wc ea ec =
    let long = more p x in
    let long' = more p y in
    let fits = begins_long (p ++ x ∷ []) (id_bits a.id) ea in
    let all = id_bits-length a.id in
    let n = length p in
    let less : slice_cmp nat_cmp (xor_bytes target.0 a.id.0) (xor_bytes target.0 c.id.0) ≡ Less =
    bytes_less target.0 a.id.0 c.id.0 n (wa.0 ∙ sym wc.0) (let l = wa.0 in omega (arith, l, long, fits, all)) wa.1 wc.1
    (λ i lt. has_bit (p ++ x ∷ []) a.id ea i (omega (arith, lt, long)) ∙ front_of p x y i lt ∙ sym (has_bit (p ++ y ∷ []) c.id ec i (omega (arith, lt, long'))))
    (has_bit (p ++ x ∷ []) a.id ea n (omega (arith, long)) ∙ last_of p x ∙ same)
    (λ q. other (sym (last_of p y) ∙ sym (has_bit (p ++ y ∷ []) c.id ec n (omega (arith, long'))) ∙ q)) in
    ap (λ o. ordering_then o (ordering_then (slice_cmp nat_cmp (address_bytes a.addr.ip) (address_bytes c.addr.ip)) (nat_cmp a.addr.port c.addr.port))) less
