-- Bytes that spell a value in two lists, and are the written form of the value that they spell, are an item's.
use Rattle.std.proofs.Common.{◌≡◌, ℕ, suc, ◌+◌, ◌≤◌, Bool, true, false, ◌&&◌, List, [], ◌∷◌, ◌++◌, refl, sym, ap, subst, ◌∙◌, arith, append-nil, append_assoc}
use Rattle.std.specs.Prelude.{◌↔◌, IsTrue}
use Rattle.kad_bencode.specs.Spelling.{depth_of, greatest, is_plain, in_order, text_of, Spells}
use Rattle.kad_bencode.specs.WrittenForm.{IsWrittenForm}
use Rattle.kad_bencode.specs.declared.value.Value.{Value}
use Rattle.kad_bencode.specs.declared.value.Value.TheVariants as value
use Rattle.kad_bencode.proofs.Folds.{text_of-list, depth_of-list, is_plain-list, in_order-list}
use Rattle.kad_bencode.proofs.Faults.{one_value}
use Rattle.kad_bencode.proofs.Formed.{form_spells}
use Rattle.kad_bencode.proofs.Ordered.{text_spells, spelled_fits, spelled_in_order}
use Rattle.kad_bencode.proofs.Said.{one_tree}
use Rattle.lookup_commands.specs.Forms.{IsForm, within_lists}

-- a value in a list of its own
one : Value → Value
one v = value.List (v ∷ [])

one_text : (v : Value) → text_of (one v) ≡ 108 ∷ (text_of v ++ 101 ∷ [])
unfolding one
one_text v = text_of-list (v ∷ []) ∙ ap (λ (l : List ℕ). 108 ∷ (l ++ 101 ∷ [])) (append-nil (text_of v))

two_text : (v : Value) → text_of (one (one v)) ≡ within_lists (text_of v)
two_text v =
    one_text (one v) ∙ ap (λ (l : List ℕ). 108 ∷ (l ++ 101 ∷ [])) (one_text v)
    ∙ ap (λ (l : List ℕ). 108 ∷ 108 ∷ l) (append_assoc (text_of v) (101 ∷ []) (101 ∷ []))

alone : (n : ℕ) → greatest (n ∷ []) ≡ n
alone n = omega arith

one_depth : (v : Value) → depth_of (one v) ≡ suc (depth_of v)
unfolding one
one_depth v = depth_of-list (v ∷ []) ∙ ap suc (alone (depth_of v))

and_true : (b : Bool) → (b && true) ≡ b
and_true true = refl
and_true false = refl

one_plain : (v : Value) → is_plain (one v) ≡ is_plain v
unfolding one
one_plain v = is_plain-list (v ∷ []) ∙ and_true (is_plain v)

one_ordered : (v : Value) → in_order v ≡ v → in_order (one v) ≡ one v
unfolding one
one_ordered v e = in_order-list (v ∷ []) ∙ ap (λ (w : Value). value.List (w ∷ [])) e

-- ---- both ways

pub form_of : (bytes : List ℕ) → IsForm bytes → ((w : Value) × Spells (within_lists bytes) w) → IsWrittenForm 2 bytes
form_of bytes form nests =
    let v = form.0 in
    let s = nests.1 in
    let same : within_lists bytes ≡ text_of (one (one v)) = ap within_lists (sym form.2) ∙ sym (two_text v) in
    let tree : s.tree ≡ one (one v) = one_tree s.tree (one (one v)) (sym s.text ∙ same) in
    let deep : 0 + depth_of (one (one v)) ≤ 16 = subst (λ (t : Value). 0 + depth_of t ≤ 16) tree s.fits.depth in
    let two : depth_of (one (one v)) ≡ suc (suc (depth_of v)) = one_depth (one v) ∙ ap suc (one_depth v) in
    record {
      value = v;
      text = sym form.2;
      fits = record { depth = omega (arith, deep, two); plain = (spelled_fits bytes v form.1).plain };
      ordered = spelled_in_order bytes v form.1;
    }

pub is_form_of : (bytes : List ℕ) → IsWrittenForm 2 bytes → IsForm bytes
is_form_of bytes w = (w.value, form_spells 2 bytes w, sym w.text)

pub nests_of : (bytes : List ℕ) → IsWrittenForm 2 bytes → (v : Value) × Spells (within_lists bytes) v
nests_of bytes w =
    let v = w.value in
    let deep : 2 + depth_of v ≤ 16 = w.fits.depth in
    let two : depth_of (one (one v)) ≡ suc (suc (depth_of v)) = one_depth (one v) ∙ ap suc (one_depth v) in
    let spells = text_spells (one (one v)) (record { depth = omega (arith, deep, two); plain = one_plain (one v) ∙ one_plain v ∙ w.fits.plain }) (one_ordered (one v) (one_ordered v w.ordered)) in
    (one (one v), subst (λ b. Spells b (one (one v))) (two_text v ∙ ap within_lists (sym w.text)) spells)

-- what is written is the bytes, or it isn't
pub form_same : (bytes shown form : List ℕ) (v : Value) (b : Bool) → Spells bytes v → form ≡ text_of v → shown ≡ form → IsTrue b ↔ (shown ≡ bytes) → (IsTrue b → IsForm bytes) × (IsForm bytes → IsTrue b)
form_same bytes shown form v b s e f same = (
  λ t. (v, s, sym (f ∙ e) ∙ same.0 t),
  λ is. same.1 (f ∙ e ∙ ap text_of (one_value bytes v is.0 s is.1) ∙ is.2),
)
