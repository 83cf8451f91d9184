-- A written form names its value, whose text it is; and what a dictionary that was spelled has under its keys has a written
-- form.
use Rattle.std.proofs.Common.{◌≡◌, ℕ, suc, ◌+◌, ◌≤◌, Bool, true, false, cond, List, [], ◌∷◌, length, Option, Some, refl, sym, ap, ◌∙◌, subst, arith}
use Rattle.std.specs.Prelude.{option_map}
use Rattle.std.specs.List.{AllByRecursion}
use Rattle.std.specs.Ordering.{is_eq}
use Rattle.kad_bencode.specs.Faults.{Open}
use Rattle.kad_bencode.specs.Keys.{key_cmp, value_of}
use Rattle.kad_bencode.specs.Naming.{named}
use Rattle.kad_bencode.specs.Parts.{bytes_in, bytes_of, dict_in, dict_of, list_in, list_of, member_in, member_of}
use Rattle.kad_bencode.specs.Spelling.{depth_of, is_plain, values_of, Fits, Spells, in_order, put_all, text_of}
use Rattle.kad_bencode.specs.WrittenForm.{IsWrittenForm}
use Rattle.kad_bencode.specs.declared.entries.Pair.{Pair}
use Rattle.kad_bencode.specs.declared.value.Value.{Value}
use Rattle.kad_bencode.specs.declared.value.Value.TheVariants as value
use Rattle.kad_bencode.proofs.Sorting.{none_some}
use Rattle.kad_bencode.proofs.Folds.{by_value, in_order-dict, ordered_pairs}
use Rattle.kad_bencode.proofs.Layers.{int_is, text_is, list_is, dict_is, same_dict}
use Rattle.kad_bencode.proofs.Limits.{dict_fits}
use Rattle.kad_bencode.proofs.Looking.{value_named}
use Rattle.kad_bencode.proofs.Ordered.{text_spells}
use Rattle.kad_bencode.proofs.Pieces.{named_is}

module _ (around : ℕ) (bytes : List ℕ) (w : IsWrittenForm around bytes) where
  pub form_spells : Spells bytes w.value
  form_spells =
      let deep : around + depth_of w.value ≤ 16 = w.fits.depth in
      subst (λ b. Spells b w.value) (sym w.text) (text_spells w.value (record { depth = omega (arith, deep); plain = w.fits.plain }) w.ordered)

  pub form_names : named bytes ≡ w.value
  form_names = named_is bytes w.value form_spells

  pub named_text : text_of (named bytes) ≡ bytes
  named_text = ap text_of form_names ∙ sym w.text

  pub named_deep : around + depth_of (named bytes) ≤ 16
  named_deep = subst (λ v. around + depth_of v ≤ 16) (sym form_names) w.fits.depth

  pub named_plain : is_plain (named bytes) ≡ true
  named_plain = ap is_plain form_names ∙ w.fits.plain

  pub named_ordered : in_order (named bytes) ≡ named bytes
  named_ordered = ap in_order form_names ∙ w.ordered ∙ sym form_names

-- ---- the values of a dictionary's keys

-- the value is within the limits where that many are open around it, and in order
pub record IsSound (around : ℕ) (v : Value) : Type 0 where
  pub fits : Fits around v
  pub ordered : in_order v ≡ v

pub sound_form : (around : ℕ) (v : Value) → IsSound around v → IsWrittenForm around (text_of v)
sound_form around v s = record { value = v; text = refl; fits = s.fits; ordered = s.ordered }

some_same : {A : Type 0} {x y : A} → ◌≡◌ {A = Option A} (Some x) (Some y) → x ≡ y
some_same e = cc

-- a value that is a dictionary is the one of these pairs
abbrev IsItsDict : Value → Type 0
IsItsDict v = (ps : List (Pair Value)) → dict_of v ≡ Some ps → v ≡ value.Dict ps

pub its_dict : (v : Value) → IsItsDict v
its_dict = by_value IsItsDict
    (λ n ps e. absurd (none_some (sym (int_is dict_in n) ∙ e)))
    (λ s ps e. absurd (none_some (sym (text_is dict_in s) ∙ e)))
    (λ vs _ ps e. absurd (none_some (sym (list_is dict_in vs) ∙ e)))
    (λ qs _ ps e. ap value.Dict (some_same (sym (dict_is dict_in qs) ∙ e)))

-- what holds of all values holds of the one that is found
found : (P : Value → Type 0) (ps : List (Pair Value)) (key : List ℕ) (v : Value) → AllByRecursion P (values_of ps) → value_of ps key ≡ Some v → P v
found P [] key v a e = absurd (none_some e)
found P (p ∷ ps) key v a e = by_test (is_eq (key_cmp key p.key)) (found P ps key v a.1) e
  where
    by_test : (b : Bool) → (value_of ps key ≡ Some v → P v) → cond b (Some p.value) (value_of ps key) ≡ Some v → P v
    by_test true rest f = subst P (some_same f) a.0
    by_test false rest f = rest f

-- the value of a key of a dictionary that is so is so, with one more open around it
pub member_sound : (os : List Open) (ps : List (Pair Value)) → IsSound (length os) (value.Dict ps) → (key : List ℕ) (v : Value) → value_of ps key ≡ Some v → IsSound (suc (length os)) v
member_sound os ps s key v e =
    let within = dict_fits os ps s.fits in
    let filed : put_all [] (ordered_pairs ps) ≡ ps = same_dict (put_all [] (ordered_pairs ps)) ps (sym (in_order-dict ps) ∙ s.ordered) in
    let named_v : Some v ≡ option_map in_order (Some v) = sym e ∙ sym (ap (λ l. value_of l key) filed) ∙ value_named ps key within.2 ∙ ap (option_map in_order) e in
    record { fits = found (Fits (suc (length os))) ps key v within.1 e; ordered = sym (some_same named_v) }

-- a value that has a value under a key is the dictionary that has it
abbrev HasMember : Value → Type 0
HasMember v = (key : List ℕ) (w : Value) → member_of v key ≡ Some w → (ps : List (Pair Value)) × (v ≡ value.Dict ps) × (value_of ps key ≡ Some w)

pub has_member : (v : Value) → HasMember v
has_member = by_value HasMember
    (λ n key w e. absurd (none_some (sym (int_is (λ y. member_in y key) n) ∙ e)))
    (λ s key w e. absurd (none_some (sym (text_is (λ y. member_in y key) s) ∙ e)))
    (λ vs _ key w e. absurd (none_some (sym (list_is (λ y. member_in y key) vs) ∙ e)))
    (λ qs _ key w e. (qs, refl, sym (dict_is (λ y. member_in y key) qs) ∙ e))

-- a value that is a string is the one of these bytes
abbrev IsItsText : Value → Type 0
IsItsText v = (s : List ℕ) → bytes_of v ≡ Some s → v ≡ value.Text s

pub its_text : (v : Value) → IsItsText v
its_text = by_value IsItsText
    (λ n s e. absurd (none_some (sym (int_is bytes_in n) ∙ e)))
    (λ t s e. ap value.Text (some_same (sym (text_is bytes_in t) ∙ e)))
    (λ vs _ s e. absurd (none_some (sym (list_is bytes_in vs) ∙ e)))
    (λ qs _ s e. absurd (none_some (sym (dict_is bytes_in qs) ∙ e)))

-- a value that is a list is the one of these values
abbrev IsItsList : Value → Type 0
IsItsList v = (vs : List Value) → list_of v ≡ Some vs → v ≡ value.List vs

pub its_list : (v : Value) → IsItsList v
its_list = by_value IsItsList
    (λ n vs e. absurd (none_some (sym (int_is list_in n) ∙ e)))
    (λ s vs e. absurd (none_some (sym (text_is list_in s) ∙ e)))
    (λ ws _ vs e. ap value.List (some_same (sym (list_is list_in ws) ∙ e)))
    (λ qs _ vs e. absurd (none_some (sym (dict_is list_in qs) ∙ e)))
