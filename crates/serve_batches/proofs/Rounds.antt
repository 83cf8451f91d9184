-- Things that lie with holders in a ring, where some are put, taken and looked at.
use Rattle.std.proofs.Common.{◌≡◌, ◌≢◌, ℕ, zero, suc, ◌+◌, ◌*◌, ◌<◌, ◌≤◌, List, [], ◌∷◌, ◌++◌, length, take, set, get_or, inl, inr, sym, ap, ◌∙◌, arith, All}
use Rattle.std.specs.Prelude.{nat_lt}
use Rattle.std.proofs.Math.Nat.{mul-le-mul_right}
use Rattle.std.proofs.lemmas.Bool.{cases_lt, cases_eq, cond-true, cond-false, lt-ltb, le-ltb}
use Rattle.std.proofs.lemmas.List.{get_or-set_same, get_or-set_other, get_or-take, take_all}
use Rattle.std.proofs.lemmas.List.Elements.{All-nil, All-push, All-same}
use Rattle.serve_batches.specs.declared.place.Place.{Place}
use Rattle.serve_batches.specs.Deal.{dealt}
use Rattle.serve_batches.specs.Ring.{place, ring, share, item_at, in_order}
use Rattle.serve_batches.proofs.Rings.{ring_is, ring_within, ring_apart, within_share, in_order_more, in_order_same, dealt_in_order}

-- ---- room

less_by_product : (a b n : ℕ) → a * n < b * n → a < b
less_by_product a b n lt =
    elim (cases_lt a b) [
      | inl below ↦ below
      | inr from ↦ (let h : b * n ≤ a * n = mul-le-mul_right n from in absurd (omega (arith, lt, h)))
    ]

pub room_at : (n j len : ℕ) → j < 32 → 32 ≤ len * n → (ring n j).round < len
room_at n j len few room =
    let is : (ring n j).round * n + (ring n j).holder ≡ j = ring_is n j in
    less_by_product (ring n j).round len n (omega (arith, is, few, room))

times_none : (k : ℕ) → k * 0 ≡ 0
times_none k = grind arith

pub share_room : (n m w len : ℕ) → m ≤ 32 → 32 ≤ len * n → share (ring n m) w ≤ len
share_room n m w len few room =
    let is : (ring n m).round * n + (ring n m).holder ≡ m = ring_is n m in
    elim (cases_lt w (ring n m).holder) [
      | inl below ↦
          let c = cond-true {A = ℕ} (nat_lt w (ring n m).holder) 1 0 (lt-ltb w (ring n m).holder below) in
          let lt : (ring n m).round < len = less_by_product (ring n m).round len n (omega (arith, is, few, room, below)) in
          omega (arith, c, lt)
      | inr from ↦
          let c = cond-false {A = ℕ} (nat_lt w (ring n m).holder) 1 0 (le-ltb w (ring n m).holder from) in
          let le : (ring n m).round ≤ len = elim (cases_lt len (ring n m).round) [
            | inl over ↦ (let h : (len + 1) * n ≤ (ring n m).round * n = mul-le-mul_right n (omega (arith, over)) in let d : (len + 1) * n ≡ len * n + n = grind arith in absurd (over_room is h d over))
            | inr fits ↦ fits
          ] in
          omega (arith, c, le)
    ]
  where
    over_room : (ring n m).round * n + (ring n m).holder ≡ m → (len + 1) * n ≤ (ring n m).round * n → (len + 1) * n ≡ len * n + n → len < (ring n m).round → ⊥
    over_room is h d over =
        elim (cases_eq n 0) [
          | inl e ↦ (let z : len * n ≡ 0 = ap (λ k. len * k) e ∙ times_none len in absurd (omega (arith, z, room)))
          | inr ne ↦ (let no : n ≢ 0 = ne in absurd (omega (arith, is, h, d, few, room, no)))
        ]

-- ---- a list that has something for each number

pub record Chosen {A : Type 0} (none : A) (P : ℕ → A → Type 0) (n : ℕ) : Type 0 where
  pub items : List A
  pub each : (w : ℕ) → w < n → P w (get_or items w none)

at_next : {A : Type 0} (none : A) (P : ℕ → A → Type 0) (n : ℕ) (x : A) (xs : List A) → P 0 x → ((w : ℕ) → w < n → P (suc w) (get_or xs w none)) → (w : ℕ) → w < suc n → P w (get_or (x ∷ xs) w none)
at_next none P n x xs p h zero lt = p
at_next none P n x xs p h (suc w) lt = h w (omega (arith, lt))

pub choose : {A : Type 0} (none : A) (P : ℕ → A → Type 0) (n : ℕ) → ((w : ℕ) → w < n → (x : A) × P w x) → Chosen none P n
choose none P zero f = record { items = []; each = λ w lt. absurd (omega (arith, lt)) }
choose none P (suc n) f =
    let first = f 0 (omega arith) in
    let rest = choose none (λ w x. P (suc w) x) n (λ w lt. f (suc w) (omega (arith, lt))) in
    record { items = first.0 ∷ rest.items; each = at_next none P n first.0 rest.items first.1 rest.each }

-- ---- things in order

same_place : (p q : Place) → p.holder ≡ q.holder → p.round ≡ q.round → p ≡ q
same_place p q e f = ap (λ h. place h p.round) e ∙ ap (λ r. place q.holder r) f

module _ {A : Type 0} (none : A) where
  -- something was put at the next place: the things before it are as they were
  pub in_order_kept : (n : ℕ) (f g : ℕ → List A) (m : ℕ) (x : A) → g (ring n m).holder ≡ set (f (ring n m).holder) (ring n m).round x → ((w : ℕ) → w ≢ (ring n m).holder → g w ≡ f w) → in_order n none g m ≡ in_order n none f m
  in_order_kept n f g m x here others = in_order_same none n g f m same
    where
      there : (j : ℕ) → j < m → (ring n j).holder ≡ (ring n m).holder → item_at none g (ring n j) ≡ item_at none f (ring n j)
      there j lt e =
          let apart : (ring n j).round ≢ (ring n m).round = λ r. ring_apart n j m lt (same_place (ring n j) (ring n m) e r) in
          ap (λ h. get_or (g h) (ring n j).round none) e
          ∙ ap (λ l. get_or l (ring n j).round none) here
          ∙ get_or-set_other (f (ring n m).holder) (ring n m).round (ring n j).round x none apart
          ∙ ap (λ h. get_or (f h) (ring n j).round none) (sym e)

      same : (j : ℕ) → j < m → item_at none g (ring n j) ≡ item_at none f (ring n j)
      same j lt =
          elim (cases_eq (ring n j).holder (ring n m).holder) [
            | inl e ↦ there j lt e
            | inr ne ↦ ap (λ l. get_or l (ring n j).round none) (others (ring n j).holder ne)
          ]

  -- and with it there is one more
  pub in_order_put : (n : ℕ) (f g : ℕ → List A) (m : ℕ) (x : A) → (ring n m).round < length (f (ring n m).holder) → g (ring n m).holder ≡ set (f (ring n m).holder) (ring n m).round x
      → ((w : ℕ) → w ≢ (ring n m).holder → g w ≡ f w) → in_order n none g (m + 1) ≡ in_order n none f m ++ x ∷ []
  in_order_put n f g m x room here others =
      in_order_more none n g m
      ∙ ap (λ l. l ++ item_at none g (ring n m) ∷ []) (in_order_kept n f g m x here others)
      ∙ ap (λ y. in_order n none f m ++ y ∷ []) (ap (λ l. get_or l (ring n m).round none) here ∙ get_or-set_same (f (ring n m).holder) (ring n m).round x none room)

  -- lists whose shares are the same
  pub in_order_shared : (n : ℕ) (f g : ℕ → List A) (m : ℕ) → 0 < n → ((w : ℕ) → w < n → take (share (ring n m) w) (f w) ≡ take (share (ring n m) w) (g w)) → in_order n none f m ≡ in_order n none g m
  in_order_shared n f g m some same =
      in_order_same none n f g m (λ j lt.
      let h : ℕ = (ring n j).holder in
      let r : ℕ = (ring n j).round in
      let within = within_share n j m some lt in
      sym (get_or-take (share (ring n m) h) (f h) r none within)
      ∙ ap (λ l. get_or l r none) (same h (ring_within n j some))
      ∙ get_or-take (share (ring n m) h) (g h) r none within)

  -- what holds of each
  pub all_in_order : (P : A → Type 0) (n : ℕ) (f : ℕ → List A) (m : ℕ) → ((j : ℕ) → j < m → P (item_at none f (ring n j))) → All P (in_order n none f m)
  all_in_order P n f zero h = All-nil P
  all_in_order P n f (suc m) h =
      let up : suc m ≡ m + 1 = omega arith in
      All-same P (in_order n none f (suc m)) (in_order n none f m ++ item_at none f (ring n m) ∷ []) (ap (in_order n none f) up ∙ in_order_more none n f m)
      (All-push P (in_order n none f m) (item_at none f (ring n m)) (all_in_order P n f m (λ j lt. h j (omega (arith, lt)))) (h m (omega arith)))

  -- a holder that has its share alone
  pub dealt_all : (n w : ℕ) (f : ℕ → List A) (m : ℕ) → w < n → length (f w) ≡ share (ring n m) w → dealt n w (in_order n none f m) ≡ f w
  dealt_all n w f m lt is = dealt_in_order none n w f m lt (omega (arith, is)) ∙ take_all (share (ring n m) w) (f w) (omega (arith, is))
