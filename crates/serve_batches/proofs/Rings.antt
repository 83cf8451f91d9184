-- What each holder has of what was dealt.
use Rattle.std.proofs.Common.{◌≡◌, ◌≢◌, ℕ, zero, suc, ◌+◌, ◌*◌, ◌%◌, ◌<◌, ◌≤◌, ◌==◌, List, [], ◌∷◌, ◌++◌, Bool, true, false, cond, length, map, take, get_or, inl, inr, refl, sym, ap, subst, ◌∙◌, append-nil, arith}
use Rattle.std.specs.Prelude.{nat_lt}
use Rattle.std.proofs.lemmas.Nat.{mod-mul-add}
use Rattle.std.proofs.lemmas.Bool.{lt-ltb, le-ltb, eq-eqb, ne_eqb, cases_lt, cases_eq, cond-true, cond-false}
use Rattle.std.proofs.lemmas.List.{take_more, map-append}
use Rattle.std.proofs.lemmas.List.FromFn.{map-range_with_len_more, length-map-range_with_len}
use Rattle.serve_batches.specs.declared.place.Place.{Place}
use Rattle.serve_batches.specs.Deal.{dealt_from, dealt}
use Rattle.serve_batches.specs.Ring.{place, behind, ring, share, item_at, in_order}

-- ---- places

-- one step, by whether it is the last holder's
behind_last : (n : ℕ) (p : Place) → p.holder + 1 ≡ n → behind n p ≡ place 0 (p.round + 1)
behind_last n p e = cond-true (p.holder + 1 == n) (place 0 (p.round + 1)) (place (p.holder + 1) p.round) (eq-eqb (p.holder + 1) n e)

behind_other : (n : ℕ) (p : Place) → (p.holder + 1 ≡ n → ⊥) → behind n p ≡ place (p.holder + 1) p.round
behind_other n p e = cond-false (p.holder + 1 == n) (place 0 (p.round + 1)) (place (p.holder + 1) p.round) (ne_eqb (p.holder + 1) n e)

behind_within : (n : ℕ) (p : Place) → p.holder < n → (behind n p).holder < n
behind_within n p lt =
    elim (cases_eq (p.holder + 1) n) [
      | inl e ↦ (let h = ap (λ (q : Place). q.holder) (behind_last n p e) in omega (arith, h, lt))
      | inr e ↦ (let h = ap (λ (q : Place). q.holder) (behind_other n p e) in let ne : p.holder + 1 ≢ n = e in omega (arith, h, lt, ne))
    ]

pub ring_within : (n j : ℕ) → 0 < n → (ring n j).holder < n
ring_within n zero some = some
ring_within n (suc j) some = behind_within n (ring n j) (ring_within n j some)

up : (a n b j : ℕ) → a * n + b ≡ j → b + 1 ≡ n → (a + 1) * n + 0 ≡ suc j
up a n b j e l = (let d : (a + 1) * n ≡ a * n + n = distribute in omega (arith, d, e, l))
  where
    distribute : (a + 1) * n ≡ a * n + n
    distribute = grind arith

behind_is : (n j : ℕ) (p : Place) → p.round * n + p.holder ≡ j → (behind n p).round * n + (behind n p).holder ≡ suc j
behind_is n j p e =
    elim (cases_eq (p.holder + 1) n) [
      | inl l ↦ subst (λ (q : Place). q.round * n + q.holder ≡ suc j) (sym (behind_last n p l)) (up p.round n p.holder j e l)
      | inr l ↦ subst (λ (q : Place). q.round * n + q.holder ≡ suc j) (sym (behind_other n p l)) (omega (arith, e))
    ]

-- the places are counted
pub ring_is : (n j : ℕ) → (ring n j).round * n + (ring n j).holder ≡ j
ring_is n zero = (let z : 0 * n + 0 ≡ 0 = omega arith in z)
ring_is n (suc j) = behind_is n j (ring n j) (ring_is n j)

pub ring_mod : (n j : ℕ) → 0 < n → (ring n j).holder ≡ j % n
ring_mod n j some = sym (mod-mul-add (ring n j).round n (ring n j).holder (ring_within n j some)) ∙ ap (λ k. k % n) (ring_is n j)

pub ring_apart : (n i j : ℕ) → i < j → ring n i ≡ ring n j → ⊥
ring_apart n i j lt e =
    let same : i ≡ j = sym (ring_is n i) ∙ ap (λ (p : Place). p.round * n + p.holder) e ∙ ring_is n j in
    absurd (omega (arith, same, lt))

behind_round : (n : ℕ) (p : Place) → (behind n p).round ≤ p.round + 1
behind_round n p =
    elim (cases_eq (p.holder + 1) n) [
      | inl e ↦ (let h = ap (λ (q : Place). q.round) (behind_last n p e) in omega (arith, h))
      | inr e ↦ (let h = ap (λ (q : Place). q.round) (behind_other n p e) in omega (arith, h))
    ]

pub ring_round : (n j : ℕ) → (ring n j).round ≤ j
ring_round n zero = omega arith
ring_round n (suc j) = (let a = ring_round n j in let b = behind_round n (ring n j) in omega (arith, a, b))

-- ---- shares

-- one more goes to its holder
pub share_more : (n w : ℕ) (p : Place) → w < n → p.holder < n → share (behind n p) w ≡ share p w + cond (p.holder == w) 1 0
share_more n w p lt within =
    elim (cases_eq (p.holder + 1) n) [
      | inl l ↦ ap (λ (q : Place). share q w) (behind_last n p l) ∙ last l
      | inr l ↦ ap (λ (q : Place). share q w) (behind_other n p l) ∙ other
    ]
  where
    last : p.holder + 1 ≡ n → share (place 0 (p.round + 1)) w ≡ share p w + cond (p.holder == w) 1 0
    last l =
        elim (cases_eq p.holder w) [
          | inl e ↦
              let a = cond-true {A = ℕ} (p.holder == w) 1 0 (eq-eqb p.holder w e) in
              let b = cond-false {A = ℕ} (nat_lt w p.holder) 1 0 (le-ltb w p.holder (omega (arith, e))) in
              let c = cond-false {A = ℕ} (nat_lt w 0) 1 0 (le-ltb w 0 (omega arith)) in
              omega (arith, a, b, c)
          | inr e ↦
              let ne : p.holder ≢ w = e in
              let a = cond-false {A = ℕ} (p.holder == w) 1 0 (ne_eqb p.holder w e) in
              let b = cond-true {A = ℕ} (nat_lt w p.holder) 1 0 (lt-ltb w p.holder (omega (arith, ne, lt, l))) in
              let c = cond-false {A = ℕ} (nat_lt w 0) 1 0 (le-ltb w 0 (omega arith)) in
              omega (arith, a, b, c)
        ]

    other : share (place (p.holder + 1) p.round) w ≡ share p w + cond (p.holder == w) 1 0
    other =
        elim (cases_lt w p.holder) [
          | inl below ↦
              let a = cond-false {A = ℕ} (p.holder == w) 1 0 (ne_eqb p.holder w (λ e. absurd (omega (arith, e, below)))) in
              let b = cond-true {A = ℕ} (nat_lt w p.holder) 1 0 (lt-ltb w p.holder below) in
              let c = cond-true {A = ℕ} (nat_lt w (p.holder + 1)) 1 0 (lt-ltb w (p.holder + 1) (omega (arith, below))) in
              omega (arith, a, b, c)
          | inr from ↦ elim (cases_eq p.holder w) [
            | inl e ↦
                let a = cond-true {A = ℕ} (p.holder == w) 1 0 (eq-eqb p.holder w e) in
                let b = cond-false {A = ℕ} (nat_lt w p.holder) 1 0 (le-ltb w p.holder from) in
                let c = cond-true {A = ℕ} (nat_lt w (p.holder + 1)) 1 0 (lt-ltb w (p.holder + 1) (omega (arith, e))) in
                omega (arith, a, b, c)
            | inr e ↦
                let ne : p.holder ≢ w = e in
                let a = cond-false {A = ℕ} (p.holder == w) 1 0 (ne_eqb p.holder w e) in
                let b = cond-false {A = ℕ} (nat_lt w p.holder) 1 0 (le-ltb w p.holder from) in
                let c = cond-false {A = ℕ} (nat_lt w (p.holder + 1)) 1 0 (le-ltb w (p.holder + 1) (omega (arith, ne, from))) in
                omega (arith, a, b, c)
          ]
        ]

share_grows : (n w : ℕ) (p : Place) → w < n → p.holder < n → share p w ≤ share (behind n p) w
share_grows n w p lt within = (let e = share_more n w p lt within in omega (arith, e))

-- what is dealt lies within its holder's share
pub within_share : (n j m : ℕ) → 0 < n → j < m → (ring n j).round < share (ring n m) (ring n j).holder
within_share n j zero some lt = absurd (omega (arith, lt))
within_share n j (suc m) some lt =
    elim (cases_eq j m) [
      | inl e ↦ subst (λ k. (ring n k).round < share (ring n (suc m)) (ring n k).holder) (sym e) newest
      | inr e ↦
          let ne : j ≢ m = e in
          let before = within_share n j m some (omega (arith, ne, lt)) in
          let more = share_grows n (ring n j).holder (ring n m) (ring_within n j some) (ring_within n m some) in
          omega (arith, before, more)
    ]
  where
    newest : (ring n m).round < share (ring n (suc m)) (ring n m).holder
    newest =
        let h : ℕ = (ring n m).holder in
        let e = share_more n (ring n m).holder (ring n m) (ring_within n m some) (ring_within n m some) in
        let a = cond-true {A = ℕ} ((ring n m).holder == (ring n m).holder) 1 0 (eq-eqb (ring n m).holder (ring n m).holder refl) in
        omega (arith, e, a)

-- ---- what was dealt

at_cond : {A : Type 0} (b : Bool) (x : A) (xs ys : List A) → cond b (x ∷ xs ++ ys) (xs ++ ys) ≡ cond b (x ∷ xs) xs ++ ys
at_cond true x xs ys = refl
at_cond false x xs ys = refl

-- one more at the end
pub dealt_more : {A : Type 0} (n w j : ℕ) (xs : List A) (x : A) → dealt_from n w j (xs ++ x ∷ []) ≡ dealt_from n w j xs ++ cond ((j + length xs) % n == w) (x ∷ []) []
dealt_more n w j [] x = (let e : j + 0 ≡ j = omega arith in ap (λ k. cond (k % n == w) (x ∷ []) []) (sym e))
dealt_more n w j (y ∷ xs) x =
    let more = dealt_more n w (j + 1) xs x in
    let place : (j + 1) + length xs ≡ j + length (y ∷ xs) = omega arith in
    let tail : dealt_from n w (j + 1) (xs ++ x ∷ []) ≡ dealt_from n w (j + 1) xs ++ cond ((j + length (y ∷ xs)) % n == w) (x ∷ []) [] = more ∙ ap (λ k. dealt_from n w (j + 1) xs ++ cond (k % n == w) (x ∷ []) []) place in
    ap (λ l. cond (j % n == w) (y ∷ l) l) tail ∙ at_cond (j % n == w) y (dealt_from n w (j + 1) xs) (cond ((j + length (y ∷ xs)) % n == w) (x ∷ []) [])

dealt_map_from : {A B : Type 0} (f : A → B) (n w j : ℕ) (xs : List A) → dealt_from n w j (map f xs) ≡ map f (dealt_from n w j xs)
dealt_map_from f n w j [] = refl
dealt_map_from f n w j (x ∷ xs) = ap (λ l. cond (j % n == w) (f x ∷ l) l) (dealt_map_from f n w (j + 1) xs) ∙ at_map (j % n == w)
  where
    at_map : (b : Bool) → cond b (f x ∷ map f (dealt_from n w (j + 1) xs)) (map f (dealt_from n w (j + 1) xs)) ≡ map f (cond b (x ∷ dealt_from n w (j + 1) xs) (dealt_from n w (j + 1) xs))
    at_map true = refl
    at_map false = refl

pub dealt_map : {A B : Type 0} (f : A → B) (n w : ℕ) (xs : List A) → dealt n w (map f xs) ≡ map f (dealt n w xs)
dealt_map f n w xs = dealt_map_from f n w 0 xs

module _ {A : Type 0} (none : A) where
  pub in_order_more : (n : ℕ) (f : ℕ → List A) (m : ℕ) → in_order n none f (m + 1) ≡ in_order n none f m ++ item_at none f (ring n m) ∷ []
  in_order_more n f m = map-range_with_len_more (λ j. item_at none f (ring n j)) 0 m m (omega arith)

  pub length_in_order : (n : ℕ) (f : ℕ → List A) (m : ℕ) → length (in_order n none f m) ≡ m
  length_in_order n f m = length-map-range_with_len (λ j. item_at none f (ring n j)) 0 m

  -- lists that have the same at the first places have the same order
  pub in_order_same : (n : ℕ) (f g : ℕ → List A) (m : ℕ) → ((j : ℕ) → j < m → item_at none f (ring n j) ≡ item_at none g (ring n j)) → in_order n none f m ≡ in_order n none g m
  in_order_same n f g zero same = refl
  in_order_same n f g (suc m) same =
      let e : suc m ≡ m + 1 = omega arith in
      ap (in_order n none f) e ∙ in_order_more n f m
      ∙ ap (λ l. l ++ item_at none f (ring n m) ∷ []) (in_order_same n f g m (λ j lt. same j (omega (arith, lt))))
      ∙ ap (λ x. in_order n none g m ++ x ∷ []) (same m (omega arith))
      ∙ sym (in_order_more n g m) ∙ ap (in_order n none g) (sym e)

  -- each holder has its share of what was dealt
  pub dealt_in_order : (n w : ℕ) (f : ℕ → List A) (m : ℕ) → w < n → share (ring n m) w ≤ length (f w) → dealt n w (in_order n none f m) ≡ take (share (ring n m) w) (f w)
  dealt_in_order n w f zero lt room =
      let none_yet : share (ring n 0) w ≡ 0 = (let c = cond-false {A = ℕ} (nat_lt w 0) 1 0 (le-ltb w 0 (omega arith)) in omega (arith, c)) in
      sym (ap (λ k. take k (f w)) none_yet)
  dealt_in_order n w f (suc m) lt room =
      let some : 0 < n = omega (arith, lt) in
      let up : suc m ≡ m + 1 = omega arith in
      let p : Place = ring n m in
      let more = share_more n w (ring n m) lt (ring_within n m some) in
      let before : share (ring n m) w ≤ length (f w) = omega (arith, more, room) in
      let place : (0 + length (in_order n none f m)) % n ≡ (ring n m).holder = ap (λ k. (0 + k) % n) (length_in_order n f m) ∙ ap (λ k. k % n) (zero_more m) ∙ sym (ring_mod n m some) in
      ap (λ k. dealt n w (in_order n none f k)) up ∙ ap (dealt n w) (in_order_more n f m)
      ∙ dealt_more n w 0 (in_order n none f m) (item_at none f (ring n m))
      ∙ ap (λ l. l ++ cond ((0 + length (in_order n none f m)) % n == w) (item_at none f (ring n m) ∷ []) []) (dealt_in_order n w f m lt before)
      ∙ ap (λ k. take (share (ring n m) w) (f w) ++ cond (k == w) (item_at none f (ring n m) ∷ []) []) place
      ∙ step more
    where
      zero_more : (k : ℕ) → 0 + k ≡ k
      zero_more k = omega arith

      step : share (behind n (ring n m)) w ≡ share (ring n m) w + cond ((ring n m).holder == w) 1 0 → take (share (ring n m) w) (f w) ++ cond ((ring n m).holder == w) (item_at none f (ring n m) ∷ []) [] ≡ take (share (behind n (ring n m)) w) (f w)
      step more =
          elim (cases_eq (ring n m).holder w) [
            | inl e ↦
                let yes = eq-eqb (ring n m).holder w e in
                let at : share (ring n m) w ≡ (ring n m).round = (let b = cond-false {A = ℕ} (nat_lt w (ring n m).holder) 1 0 (le-ltb w (ring n m).holder (omega (arith, e))) in omega (arith, b)) in
                let up : share (behind n (ring n m)) w ≡ (ring n m).round + 1 = (let a = cond-true {A = ℕ} ((ring n m).holder == w) 1 0 yes in omega (arith, more, a, at)) in
                let there : (ring n m).round < length (f w) = (let r : share (behind n (ring n m)) w ≤ length (f w) = room in omega (arith, r, up)) in
                ap (λ l. take (share (ring n m) w) (f w) ++ l) (cond-true ((ring n m).holder == w) (item_at none f (ring n m) ∷ []) [] yes)
                ∙ ap (λ k. take k (f w) ++ item_at none f (ring n m) ∷ []) at
                ∙ ap (λ h. take (ring n m).round (f w) ++ get_or (f h) (ring n m).round none ∷ []) e
                ∙ sym (take_more (f w) (ring n m).round none there) ∙ ap (λ k. take k (f w)) (sym up)
            | inr e ↦
                let no = ne_eqb (ring n m).holder w e in
                let same : share (behind n (ring n m)) w ≡ share (ring n m) w = (let a = cond-false {A = ℕ} ((ring n m).holder == w) 1 0 no in omega (arith, more, a)) in
                ap (λ l. take (share (ring n m) w) (f w) ++ l) (cond-false ((ring n m).holder == w) (item_at none f (ring n m) ∷ []) [] no)
                ∙ append-nil (take (share (ring n m) w) (f w)) ∙ ap (λ k. take k (f w)) (sym same)
          ]

-- what is made of each thing
get_map : {A B : Type 0} (g : A → B) (xs : List A) (i : ℕ) (none : A) → get_or (map g xs) i (g none) ≡ g (get_or xs i none)
get_map g [] i none = refl
get_map g (x ∷ xs) zero none = refl
get_map g (x ∷ xs) (suc i) none = get_map g xs i none

pub in_order_map : {A B : Type 0} (g : A → B) (none : A) (n : ℕ) (f : ℕ → List A) (m : ℕ) → in_order n (g none) (λ w. map g (f w)) m ≡ map g (in_order n none f m)
in_order_map g none n f zero = refl
in_order_map g none n f (suc m) =
    let e : suc m ≡ m + 1 = omega arith in
    ap (in_order n (g none) (λ w. map g (f w))) e ∙ in_order_more (g none) n (λ w. map g (f w)) m
    ∙ ap (λ l. l ++ get_or (map g (f (ring n m).holder)) (ring n m).round (g none) ∷ []) (in_order_map g none n f m)
    ∙ ap (λ x. map g (in_order n none f m) ++ x ∷ []) (get_map g (f (ring n m).holder) (ring n m).round none)
    ∙ sym (map-append g (in_order n none f m) (item_at none f (ring n m) ∷ []))
    ∙ ap (map g) (sym (in_order_more none n f m)) ∙ ap (λ k. map g (in_order n none f k)) (sym e)
