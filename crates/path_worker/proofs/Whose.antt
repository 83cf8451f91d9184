-- Whose calls the run of a closed turn has: those of the workers.
use Rattle.std.proofs.Common.{◌≡◌, ℕ, ◌+◌, ◌<◌, List, [], ◌∷◌, length, map, true, eqb, arith, All}
use Rattle.std.specs.Prelude.{slice_index_or}
use Rattle.std.specs.List.{flat_map}
use Rattle.std.proofs.lemmas.Bool.{eqb-true}
use Rattle.std.proofs.lemmas.List.Sorted.{All-permutation, IsPermutation-sym}
use Rattle.std.proofs.lemmas.List.Elements.{All-nil, All-cons, All-head, All-tail, All-append, All-map, All-weaker, filter_passes}
use Rattle.kad_base.specs.declared.serial.Made.{Made}
use Rattle.turn_book.specs.Turns.{TurnState, PassState, fresh, mine, Closed}
use Rattle.path_worker.specs.declared.pool.Job.{Job}
use Rattle.path_worker.specs.Together.{IsWorkers}

module _ {C R : Type 0} (P : Made C R → Type 0) where
  all_mine : (passes : List (PassState C R)) → All (λ (p : PassState C R). All P (mine p)) passes → All P (flat_map mine passes)
  all_mine [] all = All-nil P
  all_mine (p ∷ passes) all =
      All-append P (mine p) (flat_map mine passes) (All-head (λ (p : PassState C R). All P (mine p)) p passes all)
      (all_mine passes (All-tail (λ (p : PassState C R). All P (mine p)) p passes all))

  -- what holds of each pass's own calls holds of all of the run
  pub all_run : {S : Type 0} (may : ℕ → C → Type 0) (step : S → ℕ → C → R → Type 0) (after : S → ℕ → C → R → S) (turn : TurnState S) (passes : List (PassState C R)) (state : S) (calls : ℕ)
      (closed : Closed may step after turn passes state calls) → All (λ (p : PassState C R). All P (mine p)) passes → All P closed.run
  all_run may step after turn passes state calls closed all =
      All-permutation P (flat_map mine passes) closed.run (IsPermutation-sym closed.run (flat_map mine passes) closed.each_once) (all_mine passes all)

module _ {C R : Type 0} (pass_of : Job → PassState C R) where
  -- the calls of a row of passes: role 0 made none
  pub row_calls : (P : Made C R → Type 0) {S : Type 0} (turn : TurnState S) (pool : List Job) → ((p : ℕ) (d : Job) → p < length pool → All P (mine (pass_of (slice_index_or pool p d)))) → All (λ (q : PassState C R). All P (mine q)) (fresh turn.id 0 ∷ map pass_of pool)
  row_calls P turn pool each =
      All-cons (λ (q : PassState C R). All P (mine q)) (fresh turn.id 0) (map pass_of pool) (All-nil P)
      (All-map (λ (q : PassState C R). All P (mine q)) pass_of pool each)

  -- and those of path p have role p + 1
  pub workers_calls : {S : Type 0} (turn : TurnState S) (pool : List Job) (paths : ℕ) → length pool ≡ paths → ((p : ℕ) (d : Job) → p < paths → (pass_of (slice_index_or pool p d)).role ≡ p + 1)
      → All (λ (q : PassState C R). All (IsWorkers paths) (mine q)) (fresh turn.id 0 ∷ map pass_of pool)
  workers_calls turn pool paths len roles = row_calls (IsWorkers paths) turn pool (λ p d lt.
      let q : PassState C R = pass_of (slice_index_or pool p d) in
      let role : q.role ≡ p + 1 = roles p d (omega (arith, len, lt)) in
      All-weaker (λ (m : Made C R). eqb m.role q.role ≡ true) (IsWorkers paths) (λ m is. (let same : m.role ≡ q.role = eqb-true m.role q.role is in (omega (arith, same, role), omega (arith, same, role, len, lt)))) (mine q)
      (filter_passes (λ (m : Made C R). eqb m.role q.role) q.seen))
