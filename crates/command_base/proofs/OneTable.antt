-- Contacts that are told to a new table make one table.
use Rattle.std.proofs.Common.{◌≡◌, ◌≢◌, ℕ, ◌≤◌, List, [], ◌∷◌, map, refl, sym, ap, ◌∙◌, arith}
use Rattle.std.specs.List.{All}
use Rattle.std.proofs.lemmas.List.Elements.{All-map}
use Rattle.kad_base.specs.declared.types.Id.{Id}
use Rattle.kad_base.specs.declared.serial.Made.{Made}
use Rattle.contact_table.specs.declared.calls.TableCall.{TableCall}
use Rattle.contact_table.specs.declared.calls.TableReply.{TableReply}
use Rattle.contact_table.specs.declared.calls.TableReply.TheVariants as reply
use Rattle.contact_table.specs.TableState.{TableState, SoundTable}
use Rattle.contact_table.specs.Told.{HasMemory, calls_in, replies_in, limited_table}
use Rattle.contact_table.proofs.Outcome.{run-state}
use Rattle.contact_table.proofs.StaysSound.{limited-sound}
use Rattle.lookup_run.specs.Lookup.{Told, told_in, TableTold}

had_memory : (x : TableReply) → x ≢ reply.NoMemory → HasMemory x
had_memory reply.NoMemory h = absurd (h refl)
had_memory other h = tt

calls_told : (run : List (Made TableCall TableReply)) → map (λ (t : Told). t.call) (map told_in run) ≡ calls_in run
calls_told [] = refl
calls_told (e ∷ run) = ap (λ (l : List TableCall). e.call ∷ l) (calls_told run)

all_memory : (run : List (Made TableCall TableReply)) → All (λ (m : Made TableCall TableReply). m.reply ≢ reply.NoMemory) run → All HasMemory (replies_in run)
all_memory run kept = All-map HasMemory (λ (m : Made TableCall TableReply). m.reply) run (λ i d lt. had_memory _ (kept i d lt))

pub table_once : (calls : List Told) (table a b : TableState) → SoundTable table → TableTold calls table a → TableTold calls table b → a ≡ b
table_once calls table a b sound h k =
    let told : map told_in h.run ≡ map told_in k.run = h.calls_are ∙ sym k.calls_are in
    let same : calls_in h.run ≡ calls_in k.run = sym (calls_told h.run) ∙ ap (map (λ (t : Told). t.call)) told ∙ calls_told k.run in
    h.leaves ∙ run-state table h.run k.run sound h.is_run k.is_run same (all_memory h.run h.kept) (all_memory k.run k.kept) ∙ sym k.leaves

pub new_once : (own : Id) (k bits n : ℕ) (calls : List Told) (a b : TableState) → 1 ≤ k → k ≤ 20 → 1 ≤ bits → bits ≤ 5 → TableTold calls (limited_table own k bits n) a → TableTold calls (limited_table own k bits n) b → a ≡ b
new_once own k bits n calls a b some few more less h j = table_once calls (limited_table own k bits n) a b (limited-sound own k bits n (omega (arith, some)) few (omega (arith, more)) less) h j
