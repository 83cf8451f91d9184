-- Which commands have the option `--group`.
use Rattle.std.proofs.Common.{◌≡◌, ℕ, ◌<◌, Bool, List, length, zero, suc, get_or, is_some, refl, sym, ap, ◌∙◌, arith}
use Rattle.std.specs.Prelude.{◌↔◌, IsTrue, bytes_eq}
use Rattle.std.specs.List.{list_any}
use Rattle.std.proofs.lemmas.Cmp.{nat_list_eq_equiv}
use Rattle.std.proofs.lemmas.Map.Views.{Contains-from_any, list_any-from_Contains}
use Rattle.std.proofs.lemmas.Slice.Eq.{bytes_eq-Decides}
use Rattle.kad_words.specs.Table.{Entry, Word, group_option, kind_named, kind_word, option_word, options_of}
use Rattle.kad_words.specs.Grouped.{HasGroup}
use Rattle.kad_words.specs.declared.command.CommandKind.{CommandKind}
use Rattle.kad_words.specs.declared.command.CommandKind.TheVariants as kind

abbrev has_word : List Entry → Bool
has_word entries = is_some (kind_named entries (option_word group_option.entry.name))

abbrev has_command : Word → Bool
has_command command = list_any (bytes_eq command) group_option.commands

-- a command's own options say the same as the table's line
same_test : (k : CommandKind) → has_word (options_of (kind_word k)) ≡ has_command (kind_word k)
same_test kind.Lookup = refl
same_test other = refl

in_table : (command : Word) → IsTrue (has_command command) ↔ HasGroup command
in_table command = (Contains-from_any (λ x y. (bytes_eq-Decides x y).0) command group_option.commands, list_any-from_Contains nat_list_eq_equiv command group_option.commands)

pub group_by_kind : (k : CommandKind) (command : Word) (entries : List Entry) (b : Bool) → command ≡ kind_word k → entries ≡ options_of (kind_word k) → b ≡ has_word entries → IsTrue b ↔ HasGroup command
group_by_kind k command entries b is options e =
    let test : b ≡ has_command command = e ∙ ap has_word options ∙ same_test k ∙ ap has_command (sym is) in
    (λ t. (in_table command).0 (sym test ∙ t), λ h. test ∙ (in_table command).1 h)

at_no_place : (command : Word) → ((k : CommandKind) → command ≡ kind_word k → ⊥) → (i : ℕ) → i < length group_option.commands → get_or group_option.commands i command ≡ command → ⊥
at_no_place command other zero lt e = other kind.Lookup (sym e)
at_no_place command other (suc zero) lt e = other kind.Peers (sym e)
at_no_place command other (suc (suc zero)) lt e = other kind.Get (sym e)
at_no_place command other (suc (suc (suc zero))) lt e = other kind.Put (sym e)
at_no_place command other (suc (suc (suc (suc zero)))) lt e = other kind.Serve (sym e)
at_no_place command other (suc (suc (suc (suc (suc zero))))) lt e = other kind.Node (sym e)
at_no_place command other (suc (suc (suc (suc (suc (suc zero)))))) lt e = other kind.Refresh (sym e)
at_no_place command other (suc (suc (suc (suc (suc (suc (suc i))))))) lt e = absurd (omega arith)

pub no_group : (command : Word) → ((k : CommandKind) → command ≡ kind_word k → ⊥) → HasGroup command → ⊥
no_group command other h = at_no_place command other h.0 h.1 h.2
