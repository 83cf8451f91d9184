-- What is known of all calls of a turn that is closed, from what is known of each pass's own.
use Rattle.std.proofs.Common.{◌≡◌, ℕ, suc, ◌-◌, ◌<◌, true, List, [], ◌∷◌, ◌++◌, length, get_or, map, eqb, ap, subst, ◌∙◌, arith, All}
use Rattle.std.specs.Prelude.{reverse}
use Rattle.std.specs.List.{flat_map, range_with_len}
use Rattle.std.proofs.lemmas.List.{reverse-append, length-reverse, length-map, get_or-map, get_or-reverse}
use Rattle.std.proofs.lemmas.List.Elements.{All-push, All-nil, All-head, All-tail, All-same, All-map, All-append, All-weaker, filter_passes}
use Rattle.std.proofs.lemmas.List.Sorted.{All-permutation, IsPermutation-sym}
use Rattle.std.proofs.lemmas.Bool.{eqb-true}
use Rattle.kad_base.specs.declared.serial.Made.{Made}
use Rattle.turn_book.specs.Turns.{TurnState, PassState, Closed, fresh, all_fresh, mine}

-- ---- passes that stand in a row in reverse

pub all_reverse : {A : Type 0} (P : A → Type 0) (xs : List A) → All P xs → All P (reverse xs)
all_reverse P [] a = a
all_reverse P (x ∷ xs) a =
    All-same P (reverse (x ∷ xs)) (reverse xs ++ x ∷ []) (reverse-append (x ∷ []) xs)
    (All-push P (reverse xs) x (all_reverse P xs (λ k d lt. a (suc k) d (omega arith))) (a 0 x (omega arith)))

module _ {A B : Type 0} (f : A → B) (xs : List A) (P : B → Type 0) where
  pub all_in_row : All (λ (x : A). P (f x)) xs → All P (map f (reverse xs))
  all_in_row each = All-map P f (reverse xs) (all_reverse (λ (x : A). P (f x)) xs each)

  pub each_in_row : All P (map f (reverse xs)) → (w : ℕ) (d : A) → w < length xs → P (f (get_or xs w d))
  each_in_row all w d lt =
      let k : ℕ = length xs - 1 - w in
      let r = length-reverse xs in
      let m = length-map (reverse xs) f in
      let below : length xs - 1 - w < length xs = omega (arith, lt) in
      let there : length xs - 1 - w < length (reverse xs) = omega (arith, r, lt) in
      let mapped : length xs - 1 - w < length (map f (reverse xs)) = omega (arith, r, m, lt) in
      let back : length xs - 1 - (length xs - 1 - w) ≡ w = omega (arith, lt) in
      let e : get_or (map f (reverse xs)) k (f d) ≡ f (get_or xs w d) = get_or-map f (reverse xs) k d (f d) there ∙ ap f (get_or-reverse xs k d below ∙ ap (λ i. get_or xs i d) back) in
      subst P e (all k (f d) mapped)

-- ---- one turn

module _ {C R : Type 0} where
  pub all_mine : (P : Made C R → Type 0) (row : List (PassState C R)) → All (λ (p : PassState C R). All P (mine p)) row → All P (flat_map mine row)
  all_mine P [] each = All-nil P
  all_mine P (p ∷ row) each = All-append P (mine p) (flat_map mine row) (All-head (λ (q : PassState C R). All P (mine q)) p row each) (all_mine P row (All-tail (λ (q : PassState C R). All P (mine q)) p row each))

  pub mine_few : (n : ℕ) (p : PassState C R) → p.role < n → All (λ (m : Made C R). m.role < n) (mine p)
  mine_few n p lt = All-weaker (λ (m : Made C R). eqb m.role p.role ≡ true) (λ (m : Made C R). m.role < n) (λ m is. (let same : m.role ≡ p.role = eqb-true m.role p.role is in omega (arith, same, lt))) (mine p)
      (filter_passes (λ (m : Made C R). eqb m.role p.role) p.seen)

module _ {S C R : Type 0} (may : ℕ → C → Type 0) (step : S → ℕ → C → R → Type 0) (after : S → ℕ → C → R → S) (turn : TurnState S) (row : List (PassState C R)) (state : S) (calls : ℕ) (closed : Closed may step after turn row state calls) where
  -- what holds of each pass's own calls holds of all
  pub all_run : (P : Made C R → Type 0) → All (λ (p : PassState C R). All P (mine p)) row → All P closed.run
  all_run P each = All-permutation P (flat_map mine row) closed.run (IsPermutation-sym closed.run (flat_map mine row) closed.each_once) (all_mine P row each)

  -- passes that made no call
  pub none_made : (n : ℕ) → n ≡ turn.roles → row ≡ all_fresh turn → (P : Made C R → Type 0) → All P closed.run
  none_made n roles is P =
      all_run P (All-same (λ (p : PassState C R). All P (mine p)) row (all_fresh turn) is
      (All-map (λ (p : PassState C R). All P (mine p)) (fresh turn.id) (range_with_len 0 turn.roles) (λ k d lt. All-nil P)))
