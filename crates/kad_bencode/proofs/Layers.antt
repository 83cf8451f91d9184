-- The kinds of values.
use Rattle.std.proofs.Common.{◌≡◌, ℕ, List, Option, Some, None, ℤ, sym, ap, ◌∙◌}
use Rattle.kad_bencode.specs.declared.entries.Pair.{Pair}
use Rattle.kad_bencode.specs.declared.value.Value.{Value}
use Rattle.kad_bencode.specs.declared.value.Value.TheOpen as layer
use Rattle.kad_bencode.specs.declared.value.Value.TheOpen.{Value-F}
use Rattle.kad_bencode.specs.declared.value.Value.TheViews.{out-Value, out-roll-Value}
use Rattle.kad_bencode.specs.declared.value.Value.TheVariants as value
use Rattle.kad_bencode.specs.Parts.{bytes_of, bytes_in, dict_of, dict_in}

module _ {A : Type 0} (kind : Value-F Value → A) where
  pub int_is : (z : ℤ) → kind (out-Value (value.Int z)) ≡ kind (layer.Int z)
  int_is z = ap (λ v. kind (out-Value v)) (sym (value.rolls-Int z)) ∙ ap kind (out-roll-Value (layer.Int z))

  pub text_is : (s : List ℕ) → kind (out-Value (value.Text s)) ≡ kind (layer.Text s)
  text_is s = ap (λ v. kind (out-Value v)) (sym (value.rolls-Text s)) ∙ ap kind (out-roll-Value (layer.Text s))

  pub list_is : (vs : List Value) → kind (out-Value (value.List vs)) ≡ kind (layer.List vs)
  list_is vs = ap (λ v. kind (out-Value v)) (sym (value.rolls-List vs)) ∙ ap kind (out-roll-Value (layer.List vs))

  pub dict_is : (ps : List (Pair Value)) → kind (out-Value (value.Dict ps)) ≡ kind (layer.Dict ps)
  dict_is ps = ap (λ v. kind (out-Value v)) (sym (value.rolls-Dict ps)) ∙ ap kind (out-roll-Value (layer.Dict ps))

pub same_text : (s t : List ℕ) → value.Text s ≡ value.Text t → s ≡ t
same_text s t e = let f : ◌≡◌ {A = Option (List ℕ)} (Some s) (Some t) = sym (text_is bytes_in s) ∙ ap bytes_of e ∙ text_is bytes_in t in cc

pub same_dict : (ps qs : List (Pair Value)) → value.Dict ps ≡ value.Dict qs → ps ≡ qs
same_dict ps qs e = let f : ◌≡◌ {A = Option (List (Pair Value))} (Some ps) (Some qs) = sym (dict_is dict_in ps) ∙ ap dict_of e ∙ dict_is dict_in qs in cc

pub int_no_dict : (z : ℤ) (qs : List (Pair Value)) → value.Int z ≡ value.Dict qs → ⊥
int_no_dict z qs e = let f : ◌≡◌ {A = Option (List (Pair Value))} None (Some qs) = sym (int_is dict_in z) ∙ ap dict_of e ∙ dict_is dict_in qs in cc

pub text_no_dict : (s : List ℕ) (qs : List (Pair Value)) → value.Text s ≡ value.Dict qs → ⊥
text_no_dict s qs e = let f : ◌≡◌ {A = Option (List (Pair Value))} None (Some qs) = sym (text_is dict_in s) ∙ ap dict_of e ∙ dict_is dict_in qs in cc

pub list_no_dict : (vs : List Value) (qs : List (Pair Value)) → value.List vs ≡ value.Dict qs → ⊥
list_no_dict vs qs e = let f : ◌≡◌ {A = Option (List (Pair Value))} None (Some qs) = sym (list_is dict_in vs) ∙ ap dict_of e ∙ dict_is dict_in qs in cc
