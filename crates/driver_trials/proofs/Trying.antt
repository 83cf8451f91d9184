-- A table that was told usable contacts alone has no others.
use Rattle.std.proofs.Common.{◌≡◌, List, [], ◌∷◌, ◌++◌, get_or, sym, ap, subst, ◌∙◌, arith}
use Rattle.std.specs.Prelude.{Contains}
use Rattle.std.specs.List.{All}
use Rattle.std.proofs.lemmas.List.Concat.{flat_map-append}
use Rattle.std.proofs.lemmas.List.Elements.{All-append, All-from_recursion}
use Rattle.kad_base.specs.declared.types.Id.{Id}
use Rattle.kad_base.specs.declared.types.Contact.{Contact}
use Rattle.kad_base.specs.declared.serial.Made.{Made}
use Rattle.kad_base.specs.Contacts.{IsUsable}
use Rattle.kad_base.specs.Serial.{left_by}
use Rattle.kad_base.proofs.Runs.{left_by-append}
use Rattle.contact_table.specs.declared.calls.TableCall.{TableCall}
use Rattle.contact_table.specs.declared.calls.TableCall.TheVariants.{Seen}
use Rattle.contact_table.specs.declared.calls.TableReply.{TableReply}
use Rattle.contact_table.specs.TableState.{TableState}
use Rattle.contact_table.specs.TableStep.{table_after, contacts_of}
use Rattle.contact_table.specs.Told.{new_table, told_in, told_by}

-- by some run a new table became this one, and all that it was told may be asked
pub record ToldUsable (own : Id) (table : TableState) : Type 0 where
  pub run : List (Made TableCall TableReply)
  pub leaves : table ≡ left_by table_after (new_table own 8 1) run
  pub usable : All (IsUsable own) (told_by run)

pub told_nothing : (own : Id) (table : TableState) → table ≡ new_table own 8 1 → ToldUsable own table
told_nothing own table is = record { run = []; leaves = is; usable = λ k d lt. absurd (omega (arith, lt)) }

pub told_one : (own : Id) (old new : TableState) (c : Contact) (reply : TableReply) → ToldUsable own old → IsUsable own c → new ≡ table_after old 0 (Seen c) reply → ToldUsable own new
told_one own old new c reply h usable is =
    let m : Made TableCall TableReply = record { role = 0; call = Seen c; reply = reply } in
    let more : told_by (h.run ++ m ∷ []) ≡ told_by h.run ++ c ∷ [] = flat_map-append (λ (e : Made TableCall TableReply). told_in e.call) h.run (m ∷ []) in
    record {
      run = h.run ++ m ∷ [];
      leaves = is ∙ ap (λ (t : TableState). table_after t 0 (Seen c) reply) h.leaves ∙ sym (left_by-append table_after (new_table own 8 1) h.run (m ∷ []));
      usable = subst (All (IsUsable own)) (sym more) (All-append (IsUsable own) (told_by h.run) (c ∷ []) h.usable (All-from_recursion (IsUsable own) (c ∷ []) (usable, tt)));
    }

pub has_usable : (own : Id) (table : TableState) → ((run : List (Made TableCall TableReply)) → All (Contains (told_by run)) (contacts_of (left_by table_after (new_table own 8 1) run))) → ToldUsable own table → All (IsUsable own) (contacts_of table)
has_usable own table law h k d lt =
    let held = subst (λ (t : TableState). All (Contains (told_by h.run)) (contacts_of t)) (sym h.leaves) (law h.run) k d lt in
    subst (IsUsable own) held.2 (h.usable held.0 (get_or (contacts_of table) k d) held.1)
