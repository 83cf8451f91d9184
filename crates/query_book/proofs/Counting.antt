-- One of the first transaction ids is free: each that is taken is one query less ahead.
use Rattle.std.proofs.Common.{◌≡◌, ℕ, zero, suc, ◌+◌, ◌-◌, ◌%◌, ◌^◌, ◌<◌, ◌≤◌, List, [], ◌∷◌, length, get_or, Bool, true, false, cond, refl, ap, ◌∙◌, leb-true, arith}
use Rattle.std.specs.Prelude.{filter, nat_le}
use Rattle.std.proofs.lemmas.Bool.{le-leb}
use Rattle.query_book.specs.declared.Query.{Query}
use Rattle.query_book.specs.Queries.{HasId}

module _ {A : Type 0} (p q : A → Bool) (implies : (x : A) → q x ≡ true → p x ≡ true) where
  -- a filter that passes less keeps no more
  filter_le : (xs : List A) → length (filter q xs) ≤ length (filter p xs)
  filter_le [] = omega arith
  filter_le (x ∷ xs) = here (p x) (q x) (implies x) (filter_le xs)
    where
      here : (a b : Bool) → (b ≡ true → a ≡ true) → length (filter q xs) ≤ length (filter p xs)
          → length (cond b (x ∷ filter q xs) (filter q xs)) ≤ length (cond a (x ∷ filter p xs) (filter p xs))
      here true true f le = omega arith
      here true false f le = omega arith
      here false true f le = let e = f refl in absurd cc
      here false false f le = le

  -- and less where one passes p alone
  filter_less : (xs : List A) (k : ℕ) (d : A) → k < length xs → p (get_or xs k d) ≡ true → q (get_or xs k d) ≡ false
      → length (filter q xs) + 1 ≤ length (filter p xs)
  filter_less [] k d lt yes_p no_q = absurd (omega arith)
  filter_less (x ∷ xs) zero d lt is_p no_q =
      let le = filter_le xs in
      rw (is_p, no_q) (omega arith)
  filter_less (x ∷ xs) (suc k) d lt is_p no_q = here (p x) (q x) (implies x) (filter_less xs k d (omega arith) is_p no_q)
    where
      here : (a b : Bool) → (b ≡ true → a ≡ true) → length (filter q xs) + 1 ≤ length (filter p xs)
          → length (cond b (x ∷ filter q xs) (filter q xs)) + 1 ≤ length (cond a (x ∷ filter p xs) (filter p xs))
      here true true f le = omega arith
      here true false f le = omega arith
      here false true f le = let e = f refl in absurd cc
      here false false f le = le

-- how far a transaction id is from the word on
abbrev pub distance : ℕ → ℕ → ℕ
distance word tx = (tx + (2 ^ 32 - word)) % 2 ^ 32

-- the queries whose transaction ids are at least so far
abbrev pub ahead : ℕ → ℕ → List Query → List Query
ahead word steps queries = filter (λ q. nat_le steps (distance word q.tx)) queries

distance_of : (word steps tx : ℕ) → word < 2 ^ 32 → steps < 2 ^ 32 → tx ≡ (word + steps) % 2 ^ 32 → distance word tx ≡ steps
distance_of word steps tx lw ls e = rw e (omega arith)

not_leb : (a b : ℕ) → b < a → nat_le a b ≡ false
not_leb a b lt = go (nat_le a b) refl
  where
    go : (r : Bool) → nat_le a b ≡ r → nat_le a b ≡ false
    go true e = let le = leb-true a b e in absurd (omega arith)
    go false e = e

-- no id is ahead of the word more than once
pub ahead_all : (word : ℕ) (queries : List Query) → length (ahead word 0 queries) ≤ length queries
ahead_all word [] = omega arith
ahead_all word (q ∷ queries) = go (nat_le 0 (distance word q.tx)) (ahead_all word queries)
  where
    go : (r : Bool) → length (ahead word 0 queries) ≤ length queries → length (cond r (q ∷ ahead word 0 queries) (ahead word 0 queries)) ≤ length (q ∷ queries)
    go true le = omega arith
    go false le = omega arith

-- one that has the id so far is no more ahead of the next
pub ahead_less : (word steps : ℕ) (queries : List Query) → word < 2 ^ 32 → steps < 2 ^ 32 → HasId queries ((word + steps) % 2 ^ 32)
    → length (ahead word (steps + 1) queries) + 1 ≤ length (ahead word steps queries)
ahead_less word steps queries lw ls has =
    let q = has.1 in
    let here : get_or queries has.0 q ≡ q = has.3 in
    let far : distance word q.tx ≡ steps = distance_of word steps q.tx lw ls has.4 in
    let far' : distance word (get_or queries has.0 q).tx ≡ steps = ap (λ (x : Query). distance word x.tx) here ∙ far in
    filter_less (λ x. nat_le steps (distance word x.tx)) (λ x. nat_le (steps + 1) (distance word x.tx))
    (λ x e. le-leb _ _ (let more = leb-true _ _ e in omega arith)) queries has.0 q has.2
    (le-leb _ _ (omega arith)) (not_leb _ _ (omega arith))
