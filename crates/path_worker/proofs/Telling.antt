-- What the worker of a path told the table is what goes with the entries of its path.
use Rattle.std.proofs.Common.{◌≡◌, ◌≢◌, ℕ, List, [], ◌∷◌, ◌++◌, map, refl, sym, ap, ◌∙◌, append-nil, All}
use Rattle.std.specs.List.{flat_map}
use Rattle.std.proofs.lemmas.List.{map-append}
use Rattle.std.proofs.lemmas.List.Concat.{flat_map-append}
use Rattle.std.proofs.lemmas.List.Elements.{All-nil, All-cons, All-head, All-tail, All-append}
use Rattle.kad_base.specs.declared.types.Policy.{Policy}
use Rattle.kad_base.specs.declared.serial.Made.{Made}
use Rattle.kad_base.specs.Serial.{made}
use Rattle.claim_book.specs.CheckedState.{CheckedState}
use Rattle.claim_book.specs.declared.calls.BookCall.TheVariants.{Pull}
use Rattle.claim_book.specs.declared.calls.BookReply.{BookReply}
use Rattle.claim_book.specs.declared.calls.BookReply.TheVariants.{Idle, Taken, Held, Turned, Rejected, Skipped}
use Rattle.contact_table.specs.declared.calls.TableCall.{TableCall}
use Rattle.contact_table.specs.declared.calls.TableCall.TheVariants.{Seen}
use Rattle.contact_table.specs.declared.calls.TableReply.{TableReply}
use Rattle.contact_table.specs.declared.calls.TableReply.TheVariants.{NoMemory}
use Rattle.path_worker.specs.Settling.{seen_with}
use Rattle.path_worker.specs.Burst.{Did, noted, settled, book_calls, table_calls, IsDone}
use Rattle.path_worker.proofs.Fronts.{BookCalls}
use Rattle.path_worker.proofs.Entries.{entries_of}

abbrev pub TableCalls : Type 0
TableCalls = List (Made TableCall TableReply)

abbrev pub said : TableCalls → List TableCall
said calls = map (λ m. m.call) calls

-- what the table is told with the entries of these calls
abbrev seen_for : BookCalls → List TableCall
seen_for calls = flat_map seen_with (flat_map entries_of calls)

seen_append : (xs ys : BookCalls) → seen_for (xs ++ ys) ≡ seen_for xs ++ seen_for ys
seen_append xs ys = ap (flat_map seen_with) (flat_map-append entries_of xs ys) ∙ flat_map-append seen_with (flat_map entries_of xs) (flat_map entries_of ys)

settle_told : (r q : ℕ) (checked : CheckedState) (reply : BookReply) → said (table_calls q (settled checked reply)) ≡ seen_for (book_calls r (settled checked reply))
settle_told r q checked Skipped = refl
settle_told r q checked Rejected = refl
settle_told r q checked (Held by) = refl
settle_told r q checked Turned = refl
settle_told r q checked Taken = refl
settle_told r q checked other = refl

one_told : (r q : ℕ) (thing : Did) → said (table_calls q thing) ≡ seen_for (book_calls r thing)
one_told r q (noted c told) = refl
one_told r q (settled checked reply) = settle_told r q checked reply

things_told : (r q : ℕ) (things : List Did) → said (flat_map (table_calls q) things) ≡ seen_for (flat_map (book_calls r) things)
things_told r q [] = refl
things_told r q (thing ∷ things) =
    map-append (λ m. m.call) (table_calls q thing) (flat_map (table_calls q) things)
    ∙ ap (λ l. l ++ said (flat_map (table_calls q) things)) (one_told r q thing)
    ∙ ap (λ l. seen_for (book_calls r thing) ++ l) (things_told r q things)
    ∙ sym (seen_append (book_calls r thing) (flat_map (book_calls r) things))

-- a burst that emptied its path told the table what goes with its entries
pub burst_told : (r q : ℕ) (things : List Did) (books : BookCalls) (tables : TableCalls) → books ≡ ([] ++ flat_map (book_calls r) things) ++ made r Pull Idle ∷ [] → tables ≡ ([] ++ flat_map (table_calls q) things) ++ []
    → said tables ≡ seen_for books
burst_told r q things books tables book table =
    ap said (table ∙ append-nil (flat_map (table_calls q) things)) ∙ things_told r q things
    ∙ sym (ap seen_for book ∙ seen_append (flat_map (book_calls r) things) (made r Pull Idle ∷ []) ∙ append-nil (seen_for (flat_map (book_calls r) things)))

abbrev pub HadMemory : Made TableCall TableReply → Type 0
HadMemory m = m.reply ≢ NoMemory

one_memory : (q : ℕ) (policy : Policy) (thing : Did) → IsDone policy thing → All HadMemory (table_calls q thing)
one_memory q policy (noted c told) done = All-cons HadMemory (made q (Seen c) told) [] done (All-nil HadMemory)
one_memory q policy (settled checked reply) done = All-nil HadMemory

-- and there was memory for all of it
pub things_memory : (q : ℕ) (policy : Policy) (things : List Did) → All (IsDone policy) things → All HadMemory (flat_map (table_calls q) things)
things_memory q policy [] done = All-nil HadMemory
things_memory q policy (thing ∷ things) done =
    All-append HadMemory (table_calls q thing) (flat_map (table_calls q) things) (one_memory q policy thing (All-head (IsDone policy) thing things done))
    (things_memory q policy things (All-tail (IsDone policy) thing things done))
