-- The passes that are left, where they are taken from the end, and the crew that they make.
use Rattle.std.proofs.Common.{◌≡◌, ℕ, suc, ◌+◌, ◌-◌, ◌<◌, ◌≤◌, List, [], ◌∷◌, ◌++◌, length, map, get_or, refl, sym, ap, subst, ◌∙◌, arith, All}
use Rattle.std.specs.Prelude.{reverse, slice_index_or}
use Rattle.std.specs.List.{range_with_len}
use Rattle.std.proofs.lemmas.List.{length-append, map-append, reverse-append, length-reverse, length-map, get_or-map}
use Rattle.std.proofs.lemmas.List.FromFn.{map-range_with_len_more, length-map-range_with_len, get_or-map-range_with_len}
use Rattle.std.proofs.lemmas.List.Elements.{All-same, All-map}
use Rattle.turn_book.proofs.Ended.{all_reverse}
use Rattle.turn_book.specs.Turns.{TurnState, PassState, AreAll, fresh}
use Rattle.serve_crew.specs.Hands.{CanWork}
use Rattle.serve_crew.specs.declared.turns.Turns.{Turns}
use Rattle.serve_batches.specs.Passes.{new_hands, workers_of}
use Rattle.serve_batches.specs.declared.shift.Shift.{Shift}

module _ {A : Type 0} where
  -- lists that end with one element each
  pub record SameEnds (xs ys : List A) (x y : A) : Type 0 where
    pub front : xs ≡ ys
    pub last : x ≡ y

  pub same_ends : (xs ys : List A) (x y : A) → xs ++ x ∷ [] ≡ ys ++ y ∷ [] → SameEnds xs ys x y
  same_ends [] [] x y e = record { front = refl; last = cc }
  same_ends [] (y' ∷ ys) x y e = (let n = ap length e in absurd (omega (arith, length-append ys (y ∷ []))))
  same_ends (x' ∷ xs) [] x y e = (let n = ap length e in absurd (omega (arith, length-append xs (x ∷ []))))
  same_ends (x' ∷ xs) (y' ∷ ys) x y e =
      let rest : xs ++ x ∷ [] ≡ ys ++ y ∷ [] = cc in
      let first : x' ≡ y' = cc in
      let both = same_ends xs ys x y rest in
      record { front = ap (λ z. z ∷ xs) first ∙ ap (λ l. y' ∷ l) both.front; last = both.last }

-- the last of the first n fresh passes has the last role, and those of the roles before it are left
pub last_fresh : {S C R : Type 0} (turn : TurnState S) (n : ℕ) (left : List (PassState C R)) (pass : PassState C R) → 0 < n → map (fresh turn.id) (range_with_len 0 n) ≡ left ++ pass ∷ []
    → SameEnds left (map (fresh turn.id) (range_with_len 0 (n - 1))) pass (fresh turn.id (n - 1))
last_fresh {S} {C} {R} turn n left pass some is =
    let f : ℕ → PassState C R = fresh turn.id in
    let up : n ≡ (n - 1) + 1 = omega arith in
    same_ends left (map f (range_with_len 0 (n - 1))) pass (f (n - 1))
    (sym is ∙ ap (λ k. map f (range_with_len 0 k)) up ∙ map-range_with_len_more f 0 (n - 1) (n - 1) (omega arith))

pub dealt_one : {A : Type 0} (f : ℕ → A) (j left n : ℕ) → left ≡ j + 1 → left ≤ n → reverse (map f (range_with_len left (n - left))) ++ f j ∷ [] ≡ reverse (map f (range_with_len j (n - j)))
dealt_one f j left n e le =
    let more : n - j ≡ suc (n - left) = omega (arith, e, le) in
    ap (λ k. reverse (map f (range_with_len k (n - left))) ++ f j ∷ []) e
    ∙ sym (reverse-append (f j ∷ []) (map f (range_with_len (j + 1) (n - left))))
    ∙ ap (λ k. reverse (map f (range_with_len j k))) (sym more)

pub map_reverse : {A B : Type 0} (f : A → B) (xs : List A) → map f (reverse xs) ≡ reverse (map f xs)
map_reverse f [] = refl
map_reverse f (x ∷ xs) =
    ap (map f) (reverse-append (x ∷ []) xs) ∙ map-append f (reverse xs) (x ∷ []) ∙ ap (λ l. l ++ f x ∷ []) (map_reverse f xs) ∙ sym (reverse-append (f x ∷ []) (map f xs))

module _ (turns : Turns) (n : ℕ) (crew : List Shift) (is : workers_of crew ≡ map (new_hands turns) (range_with_len 0 n)) where
  pub crew_count : length crew ≡ n
  crew_count =
      let e = ap length is in
      let l = length-map crew (λ (s : Shift). s.worker) in
      let r = length-map-range_with_len (new_hands turns) 0 n in
      omega (arith, e, l, r)

  pub start_at : (w : ℕ) (d : Shift) → w < length crew → (slice_index_or crew w d).worker ≡ new_hands turns w
  start_at w d lt =
      let below : w < n = (let c = crew_count in omega (arith, c, lt)) in
      sym (get_or-map (λ (s : Shift). s.worker) crew w d d.worker lt) ∙ ap (λ l. get_or l w d.worker) is ∙ get_or-map-range_with_len (new_hands turns) 0 n w w d.worker below (omega arith)

  pub crew_can : All (λ (s : Shift). CanWork turns s.worker) crew
  crew_can w d lt = subst (CanWork turns) (sym (start_at w d lt)) (record { table = refl; peers = refl; items = refl })

-- all passes are back
module _ {S C R : Type 0} (turn : TurnState S) (pass_of : Shift → PassState C R) where
  pub all_back : (crew : List Shift) (row : List (PassState C R)) (n : ℕ) → row ≡ map pass_of (reverse crew) → All (λ (s : Shift). (pass_of s).turn ≡ turn.id) crew → length crew ≡ n → turn.roles ≡ n → AreAll turn row
  all_back crew row n is own len roles = record {
    count = (let e = ap length is in let m = length-map (reverse crew) pass_of in let r = length-reverse crew in omega (arith, e, m, r, len, roles));
    own = All-same (λ (p : PassState C R). p.turn ≡ turn.id) row (map pass_of (reverse crew)) is
        (All-map (λ (p : PassState C R). p.turn ≡ turn.id) pass_of (reverse crew) (all_reverse (λ (s : Shift). (pass_of s).turn ≡ turn.id) crew own));
  }
