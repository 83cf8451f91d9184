-- The passes of a crew that served are put back.
use Rattle.std.proofs.Common.{◌≡◌, ℕ, ◌<◌, List, map, length, sym, ap, subst, ◌∙◌, arith, All}
use Rattle.std.specs.Prelude.{slice_index_or}
use Rattle.std.specs.List.{range_with_len}
use Rattle.serve_crew.specs.Hands.{CanWork, Hands, SameHands}
use Rattle.serve_crew.specs.Opening.{HaveAll, HaveRoles}
use Rattle.serve_crew.specs.declared.turns.Turns.{Turns}
use Rattle.serve_crew.specs.declared.turns.Rows.{Rows}
use Rattle.serve_batches.specs.Crew.{HasSlots, AreRoomy}
use Rattle.serve_batches.specs.Passes.{HavePasses, new_hands, workers_of}
use Rattle.serve_batches.specs.Serving.{SameRoles}
use Rattle.serve_batches.specs.declared.shift.Shift.{Shift}
use Rattle.serve_batches.proofs.Dealing.{crew_count, start_at, all_back}

pub crew_roomy : (turns : Turns) (n : ℕ) (crew : List Shift) → workers_of crew ≡ map (new_hands turns) (range_with_len 0 n) → All (HasSlots n) crew → AreRoomy crew
crew_roomy turns n crew is h = subst (λ k. All (HasSlots k) crew) (sym (crew_count turns n crew is)) h

-- the passes in the rows are those of this crew, each worker of which has its own role
pub record AreBack (n : ℕ) (turns : Turns) (rows : Rows) (crew : List Shift) : Type 0 where
  pub count : length crew ≡ n
  pub passes : HavePasses rows crew
  pub same : (w : ℕ) (d : Shift) → w < n → SameHands (new_hands turns w) (slice_index_or crew w d).worker

module _ (turns : Turns) (n : ℕ) (crew new : List Shift) (is : workers_of crew ≡ map (new_hands turns) (range_with_len 0 n)) (len : length new ≡ length crew) (roles : SameRoles crew new) where
  -- the turns of the passes
  still_can : (w : ℕ) (d : Shift) → w < length new → CanWork turns (slice_index_or new w d).worker
  still_can w d lt =
      let there : w < length crew = omega (arith, len, lt) in
      let same = roles w d there in
      let start = start_at turns n crew is w d there in
      record {
        table = same.table.turn ∙ ap (λ (h : Hands). h.table.turn) start;
        peers = same.peers.turn ∙ ap (λ (h : Hands). h.peers.turn) start;
        items = same.items.turn ∙ ap (λ (h : Hands). h.items.turn) start;
      }

  pub are_back : (rows : Rows) → HavePasses rows new → AreBack n turns rows new
  are_back rows passes = record {
    count = len ∙ crew_count turns n crew is;
    passes = passes;
    same = λ w d lt.
        let c = crew_count turns n crew is in
        let there : w < length crew = omega (arith, c, lt) in
        subst (λ h. SameHands h (slice_index_or new w d).worker) (start_at turns n crew is w d there) (roles w d there);
  }

  pub have_all : (rows : Rows) → HaveRoles n n turns → HavePasses rows new → HaveAll turns rows
  have_all rows roles_are passes =
      let count = len ∙ crew_count turns n crew is in
      record {
        table = all_back turns.table (λ (s : Shift). s.worker.table) new rows.table.passes n passes.table (λ k d lt. (still_can k d lt).table) count roles_are.table;
        peers = all_back turns.peers (λ (s : Shift). s.worker.peers) new rows.peers.passes n passes.peers (λ k d lt. (still_can k d lt).peers) count roles_are.peers;
        items = all_back turns.items (λ (s : Shift). s.worker.items) new rows.items.passes n passes.items (λ k d lt. (still_can k d lt).items) count roles_are.items;
      }
