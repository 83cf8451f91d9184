-- The pool as it is assigned, and after the bursts; its passes come back.
use Rattle.std.proofs.Common.{◌≡◌, ℕ, suc, ◌+◌, ◌-◌, ◌<◌, List, [], ◌∷◌, ◌++◌, length, map, refl, sym, ap, subst, ◌∙◌, ◌↔◌, arith, All}
use Rattle.std.specs.Prelude.{reverse, get_or, slice_index_or, Result, Ok, Err, IsOk, IfOk}
use Rattle.std.specs.List.{range_with_len}
use Rattle.std.proofs.lemmas.List.{reverse-append, length-reverse, length-map, get_or-reverse}
use Rattle.std.proofs.lemmas.List.FromFn.{length-map-range_with_len, get_or-map-range_with_len}
use Rattle.std.proofs.lemmas.List.Elements.{All-push, All-same, All-map, All-cons}
use Rattle.kad_base.specs.declared.types.NoMemory.{NoMemory}
use Rattle.kad_base.specs.declared.types.Policy.{Policy}
use Rattle.turn_book.specs.Turns.{TurnState, PassState, fresh, AreAll}
use Rattle.claim_book.specs.State.{BookState}
use Rattle.claim_book.specs.declared.calls.BookCall.{BookCall}
use Rattle.claim_book.specs.declared.calls.BookReply.{BookReply}
use Rattle.contact_table.specs.TableState.{TableState}
use Rattle.contact_table.specs.declared.calls.TableCall.{TableCall}
use Rattle.contact_table.specs.declared.calls.TableReply.{TableReply}
use Rattle.path_worker.specs.declared.pool.Job.{Job}
use Rattle.path_worker.specs.Pool.{CanWork, Worked, AllWorked}
use Rattle.path_worker.specs.Assignment.{new_job, assigned, book_passes, table_passes, CameBack}

all_reverse : {A : Type 0} (P : A → Type 0) (xs : List A) → All P xs → All P (reverse xs)
all_reverse P [] a = a
all_reverse P (x ∷ xs) a =
    All-same P (reverse (x ∷ xs)) (reverse xs ++ x ∷ []) (reverse-append (x ∷ []) xs)
    (All-push P (reverse xs) x (all_reverse P xs (λ k d lt. a (suc k) d (omega arith))) (a 0 x (omega arith)))

abbrev pub Can : TurnState BookState → TurnState TableState → Job → Type 0
Can books tables s = CanWork books tables s.worker

pub assigned_can : (books : TurnState BookState) (tables : TurnState TableState) (policy : Policy) (p n : ℕ) → policy ≡ books.start.setting.policy → All (Can books tables) (assigned books tables policy p n)
assigned_can books tables policy p n e =
    all_reverse (Can books tables) (map (new_job books tables policy) (range_with_len p n))
    (All-map (Can books tables) (new_job books tables policy) (range_with_len p n) (λ k d lt. record { book = refl; table = refl; policy = e }))

-- the worker of path p stands at p from the end
assigned_at : (books : TurnState BookState) (tables : TurnState TableState) (policy : Policy) (n p : ℕ) (d : Job) → p < n → get_or (assigned books tables policy 0 n) (n - 1 - p) d ≡ new_job books tables policy p
assigned_at books tables policy n p d lt =
    let f = new_job books tables policy in
    let all : List Job = map f (range_with_len 0 n) in
    let len : length all ≡ n = length-map-range_with_len f 0 n in
    let there : length all - 1 - (n - 1 - p) ≡ p = omega (arith, len, lt) in
    let first : 0 + p ≡ p = omega arith in
    get_or-reverse all (n - 1 - p) d (omega (arith, len, lt)) ∙ ap (λ i. get_or all i d) there ∙ get_or-map-range_with_len f 0 n p p d lt first

-- after the bursts the pool in the paths' order has the worker of path p at p
pub worked_at : (books : TurnState BookState) (tables : TurnState TableState) (policy : Policy) (n : ℕ) (old new : List Job) → old ≡ assigned books tables policy 0 n → length old ≡ n → length new ≡ length old → AllWorked books old new
    → (p : ℕ) (d : Job) → p < n → Worked books (new_job books tables policy p) (slice_index_or (reverse new) p d)
worked_at books tables policy n old new is len same worked p d lt =
    let w = worked (n - 1 - p) d (omega (arith, len, lt)) in
    let first : get_or old (n - 1 - p) d ≡ new_job books tables policy p = ap (λ l. get_or l (n - 1 - p) d) is ∙ assigned_at books tables policy n p d lt in
    let place : length new - 1 - p ≡ n - 1 - p = omega (arith, len, same, lt) in
    let last : get_or (reverse new) p d ≡ get_or new (n - 1 - p) d = get_or-reverse new p d (omega (arith, len, same, lt)) ∙ ap (λ i. get_or new i d) place in
    subst (λ s. Worked books (new_job books tables policy p) s) (sym last) (subst (λ s. Worked books s (get_or new (n - 1 - p) d)) first w)

-- the pass of role 0 and the pool's are all
module _ {S C R : Type 0} (turn : TurnState S) (pass_of : Job → PassState C R) where
  pub all_back : (pool : List Job) (row : List (PassState C R)) (n : ℕ) → row ≡ fresh turn.id 0 ∷ map pass_of pool → ((p : ℕ) (d : Job) → p < n → (pass_of (slice_index_or pool p d)).turn ≡ turn.id)
      → length pool ≡ n → turn.roles ≡ n + 1 → AreAll turn row
  all_back pool row n is all len roles = record {
    count = ap length is ∙ omega (arith, length-map pool pass_of, len, roles);
    own = All-same (λ (p : PassState C R). p.turn ≡ turn.id) row (fresh turn.id 0 ∷ map pass_of pool) is
        (All-cons (λ (p : PassState C R). p.turn ≡ turn.id) (fresh turn.id 0) (map pass_of pool) refl (All-map (λ (p : PassState C R). p.turn ≡ turn.id) pass_of pool (λ k d lt. all k d (omega (arith, len)))));
  }

all_ok : (r : Result (Unit {0}) NoMemory) (pool : List Job) → (IsOk r ↔ All (λ (s : Job). IsOk s.answer) pool) → IfOk r (λ u. All (λ (s : Job). IsOk s.answer) (reverse pool))
all_ok (Ok u) pool is = all_reverse (λ (s : Job). IsOk s.answer) pool (is.0 refl)
all_ok (Err e) pool is = tt

-- what was assigned comes back from the bursts
pub came_back : (books : TurnState BookState) (tables : TurnState TableState) (policy : Policy) (n : ℕ) (old new : List Job) (book_row : List (PassState BookCall BookReply)) (table_row : List (PassState TableCall TableReply))
    (answer : Result (Unit {0}) NoMemory) → old ≡ assigned books tables policy 0 n → length old ≡ n → length new ≡ length old → AllWorked books old new → book_row ≡ fresh books.id 0 ∷ book_passes new → table_row ≡ fresh tables.id 0 ∷ table_passes new
    → (IsOk answer ↔ All (λ (s : Job). IsOk s.answer) new) → CameBack books tables policy n book_row table_row answer
came_back books tables policy n old new book_row table_row answer is len same worked books_are tables_are ok = record {
  pool = reverse new;
  count = length-reverse new ∙ same ∙ len;
  books_back = books_are;
  tables_back = tables_are;
  each = worked_at books tables policy n old new is len same worked;
  ok = all_ok answer new ok;
}

module _ (books : TurnState BookState) (tables : TurnState TableState) (policy : Policy) (n : ℕ) (book_row : List (PassState BookCall BookReply)) (table_row : List (PassState TableCall TableReply)) (answer : Result (Unit {0}) NoMemory)
    (came : CameBack books tables policy n book_row table_row answer) where
  pub all_books : books.roles ≡ n + 1 → AreAll books book_row
  all_books roles = all_back books (λ (s : Job). s.worker.book) came.pool book_row n came.books_back (λ p d lt. (came.each p d lt).same.book) came.count roles

  pub all_tables : tables.roles ≡ n + 1 → AreAll tables table_row
  all_tables roles = all_back tables (λ (s : Job). s.worker.table) came.pool table_row n came.tables_back (λ p d lt. (came.each p d lt).same.table) came.count roles
