-- A turn none of whose passes made a call gives back what it opened with.
use Rattle.std.proofs.Common.{◌≡◌, ℕ, List, [], ◌∷◌, refl, ap, ◌∙◌, All}
use Rattle.std.proofs.lemmas.List.Elements.{All-head}
use Rattle.kad_base.specs.declared.serial.Made.{Made}
use Rattle.kad_base.specs.Serial.{left_by}
use Rattle.turn_book.proofs.Ended.{none_made}
use Rattle.turn_book.specs.Turns.{TurnState, Closed, all_fresh}
use Rattle.contact_table.specs.TableState.{TableState}
use Rattle.contact_table.specs.TableStep.{TableMay, TableStep, table_after}
use Rattle.contact_table.specs.declared.calls.TableCall.{TableCall}
use Rattle.contact_table.specs.declared.calls.TableReply.{TableReply}
use Rattle.serve_crew.specs.Hands.{TablePass}

none_of : {A : Type 0} (xs : List A) → All (λ (x : A). ⊥) xs → xs ≡ []
none_of [] h = refl
none_of (x ∷ xs) h = absurd (All-head (λ _. ⊥) x xs h)

pub untouched : (turn : TurnState TableState) (row : List TablePass) (before after : TableState) (calls : ℕ) → Closed TableMay TableStep table_after turn row after calls → turn.start ≡ before → row ≡ all_fresh turn → after ≡ before
untouched turn row before after calls t start is =
    t.left ∙ ap (left_by table_after turn.start) (none_of t.run (none_made TableMay TableStep table_after turn row after calls t turn.roles refl is (λ (m : Made TableCall TableReply). ⊥))) ∙ start
