-- A value in its text.
use Rattle.std.proofs.Common.{◌≡◌, ℕ, ◌<◌, ◌≤◌, Bool, is_some, true, false, List, [], ◌∷◌, length, take, get_or, Option, Some, None, ℤ, pos, negsuc, refl, sym, ap, ◌∙◌, subst, arith, inl, inr, ◌⊎◌, ⊎_elim, append-nil}
use Rattle.kad_bencode.specs.Keys.{value_of}
use Rattle.kad_bencode.specs.Parts.{bytes_of, bytes_in, integer_of, integer_in, list_of, list_in, dict_of, dict_in, member_of, member_in}
use Rattle.kad_bencode.specs.Spelling.{text_of, Spells, in_order, integer_text}
use Rattle.kad_bencode.specs.Machine.{Whole, filled, run, start, Reached, HasByte, is_digit}
use Rattle.kad_bencode.specs.declared.entries.Pair.{Pair}
use Rattle.kad_bencode.specs.declared.value.Value.{Value}
use Rattle.kad_bencode.specs.declared.value.Value.TheVariants as value
use Rattle.kad_bencode.proofs.Folds.{by_value, text_of-int, text_of-text, text_of-list, text_of-dict, in_order-int, in_order-text, in_order-list, in_order-dict}
use Rattle.kad_bencode.proofs.First.{integer_long, string_long}
use Rattle.kad_bencode.proofs.Said.{whole_text, same_some}
use Rattle.kad_bencode.specs.Scanning.{Begins}
use Rattle.kad_bencode.specs.Finding.{Shows}
use Rattle.kad_bencode.specs.Naming.{named, named_at}
use Rattle.kad_bencode.proofs.Layers.{int_is, text_is, list_is, dict_is}
use Rattle.kad_bencode.proofs.Looking.{digit_first}
use Rattle.kad_bencode.proofs.Skipping.{whole, behind_filled}

-- ---- the value that is named

pub named_is : (bytes : List ℕ) (v : Value) → Spells bytes v → named bytes ≡ v
named_is bytes v s = ap named_at (whole_text bytes (s.tree, s.text)) ∙ sym s.names

pub names_itself : (bytes : List ℕ) (v : Value) → Spells bytes v → Spells bytes (named bytes)
names_itself bytes v s = subst (Spells bytes) (sym (named_is bytes v s)) s

pub shown_named : (text : List ℕ) (o : Option Value) → Shows (Some text) o → (Spells text (named text)) × (Some (named text) ≡ o)
shown_named text None h = absurd h
shown_named text (Some v) h = (names_itself text v h, ap Some (named_is text v h))

-- ---- the first byte tells the kind

abbrev pub first_byte : Value → ℕ
first_byte t = get_or (text_of t) 0 0

abbrev pub Starts : Value → Type 0
Starts t =
    ((z : ℤ) × (t ≡ value.Int z) × (first_byte t ≡ 105))
    ⊎ (((s : List ℕ) × (t ≡ value.Text s) × (is_digit (first_byte t) ≡ true))
    ⊎ (((vs : List Value) × (t ≡ value.List vs) × (first_byte t ≡ 108))
    ⊎ ((ps : List (Pair Value)) × (t ≡ value.Dict ps) × (first_byte t ≡ 100))))

pub starts : (t : Value) → Starts t
starts = by_value Starts
    (λ z. inl (z, refl, ap (λ l. get_or l 0 0) (text_of-int z) ∙ letter z))
    (λ s. inr (inl (s, refl, ap (λ l. is_digit (get_or l 0 0)) (text_of-text s) ∙ digit_first (length s) (length s) (omega arith) (58 ∷ s))))
    (λ vs _. inr (inr (inl (vs, refl, ap (λ l. get_or l 0 0) (text_of-list vs)))))
    (λ ps _. inr (inr (inr (ps, refl, ap (λ l. get_or l 0 0) (text_of-dict ps)))))
  where
    letter : (z : ℤ) → get_or (integer_text z) 0 0 ≡ 105
    letter (pos n) = refl
    letter (negsuc n) = refl

module _ (bytes : List ℕ) (v : Value) (s : Spells bytes v) where
  pub begins : Begins bytes s.tree
  begins = record { rest = []; text = s.text ∙ sym (append-nil (text_of s.tree)); fits = s.fits }

  first : get_or bytes 0 0 ≡ first_byte s.tree
  first = ap (λ l. get_or l 0 0) s.text

  nonempty : (b : ℕ) → get_or bytes 0 0 ≡ b → 0 < b → 0 < length bytes
  nonempty b e h = some bytes b e h
    where
      some : (l : List ℕ) (b : ℕ) → get_or l 0 0 ≡ b → 0 < b → 0 < length l
      some [] b e h = absurd (omega (arith, e, h))
      some (x ∷ xs) b e h = omega arith

  -- what is read from the front is the tree
  tree_read : (u : Value) (next : ℕ) → next ≤ length bytes → Reached bytes next (filled [] u) → s.tree ≡ u
  unfolding begins
  tree_read u next k r =
      let n : next ≡ length (text_of s.tree) = (behind_filled bytes s.tree begins [] u next 0 refl k r).ends refl in
      let w : Whole s.tree ≡ Whole u = same_some (sym (whole bytes s.tree begins) ∙ ap (λ m. run start (take m bytes)) (sym n) ∙ r) in cc

  pub int_read : (z : ℤ) (next : ℕ) → next ≤ length bytes → Reached bytes next (filled [] (value.Int z)) → Some z ≡ integer_of v
  int_read z next k r = sym (ap integer_of (s.names ∙ ap in_order (tree_read (value.Int z) next k r) ∙ in_order-int z) ∙ int_is integer_in z)

  pub text_read : (t : List ℕ) (next : ℕ) → next ≤ length bytes → Reached bytes next (filled [] (value.Text t)) → Some t ≡ bytes_of v
  text_read t next k r = sym (ap bytes_of (s.names ∙ ap in_order (tree_read (value.Text t) next k r) ∙ in_order-text t) ∙ text_is bytes_in t)

  by_int : (z : ℤ) → s.tree ≡ value.Int z → v ≡ value.Int z
  by_int z e = s.names ∙ ap in_order e ∙ in_order-int z

  by_text : (t : List ℕ) → s.tree ≡ value.Text t → v ≡ value.Text t
  by_text t e = s.names ∙ ap in_order e ∙ in_order-text t

  by_list : (vs : List Value) → s.tree ≡ value.List vs → (ws : List Value) × (v ≡ value.List ws)
  by_list vs e = (_, s.names ∙ ap in_order e ∙ in_order-list vs)

  by_dict : (ps : List (Pair Value)) → s.tree ≡ value.Dict ps → (qs : List (Pair Value)) × (v ≡ value.Dict qs)
  by_dict ps e = (_, s.names ∙ ap in_order e ∙ in_order-dict ps)

  not_one : (b : ℕ) → get_or bytes 0 0 ≡ b → is_digit b ≡ false → is_digit (first_byte s.tree) ≡ true → ⊥
  not_one b e n d = let f : true ≡ false = sym d ∙ ap is_digit (sym first ∙ e) ∙ n in cc

  -- i, l or d stands first, so it is no string
  pub no_text : (b : ℕ) → is_digit b ≡ false → HasByte bytes 0 b true → None ≡ bytes_of v
  no_text b n h =
      ⊎_elim (λ (x : (z : ℤ) × (s.tree ≡ value.Int z) × (first_byte s.tree ≡ 105)). sym (ap bytes_of (by_int x.0 x.1) ∙ int_is bytes_in x.0))
      (⊎_elim (λ (x : (t : List ℕ) × (s.tree ≡ value.Text t) × (is_digit (first_byte s.tree) ≡ true)). absurd (not_one b h.1 n x.2))
      (⊎_elim (λ (x : (vs : List Value) × (s.tree ≡ value.List vs) × (first_byte s.tree ≡ 108)). let w = by_list x.0 x.1 in sym (ap bytes_of w.1 ∙ list_is bytes_in w.0))
      (λ (x : (ps : List (Pair Value)) × (s.tree ≡ value.Dict ps) × (first_byte s.tree ≡ 100)). let w = by_dict x.0 x.1 in sym (ap bytes_of w.1 ∙ dict_is bytes_in w.0)))) (starts s.tree)

  -- another byte stands first, so it isn't of that kind
  other : (b : ℕ) → 0 < b → HasByte bytes 0 b false → first_byte s.tree ≡ b → ⊥
  other b k h e = h (nonempty b (first ∙ e) k) (first ∙ e)

  pub no_int : HasByte bytes 0 105 false → None ≡ integer_of v
  no_int h =
      ⊎_elim (λ (x : (z : ℤ) × (s.tree ≡ value.Int z) × (first_byte s.tree ≡ 105)). absurd (other 105 (omega arith) h x.2))
      (⊎_elim (λ (x : (t : List ℕ) × (s.tree ≡ value.Text t) × (is_digit (first_byte s.tree) ≡ true)). sym (ap integer_of (by_text x.0 x.1) ∙ text_is integer_in x.0))
      (⊎_elim (λ (x : (vs : List Value) × (s.tree ≡ value.List vs) × (first_byte s.tree ≡ 108)). let w = by_list x.0 x.1 in sym (ap integer_of w.1 ∙ list_is integer_in w.0))
      (λ (x : (ps : List (Pair Value)) × (s.tree ≡ value.Dict ps) × (first_byte s.tree ≡ 100)). let w = by_dict x.0 x.1 in sym (ap integer_of w.1 ∙ dict_is integer_in w.0)))) (starts s.tree)

  pub no_member : (key : List ℕ) → HasByte bytes 0 100 false → None ≡ member_of v key
  no_member key h =
      ⊎_elim (λ (x : (z : ℤ) × (s.tree ≡ value.Int z) × (first_byte s.tree ≡ 105)). sym (ap (λ u. member_of u key) (by_int x.0 x.1) ∙ int_is (λ y. member_in y key) x.0))
      (⊎_elim (λ (x : (t : List ℕ) × (s.tree ≡ value.Text t) × (is_digit (first_byte s.tree) ≡ true)). sym (ap (λ u. member_of u key) (by_text x.0 x.1) ∙ text_is (λ y. member_in y key) x.0))
      (⊎_elim (λ (x : (vs : List Value) × (s.tree ≡ value.List vs) × (first_byte s.tree ≡ 108)). let w = by_list x.0 x.1 in sym (ap (λ u. member_of u key) w.1 ∙ list_is (λ y. member_in y key) w.0))
      (λ (x : (ps : List (Pair Value)) × (s.tree ≡ value.Dict ps) × (first_byte s.tree ≡ 100)). absurd (other 100 (omega arith) h x.2)))) (starts s.tree)

  wrong : (b : ℕ) → HasByte bytes 0 100 true → first_byte s.tree ≡ b → 100 ≡ b
  wrong b h e = sym h.1 ∙ first ∙ e

  pub is_dict : HasByte bytes 0 100 true → (qs : List (Pair Value)) × (v ≡ value.Dict qs)
  is_dict h =
      ⊎_elim (λ (x : (z : ℤ) × (s.tree ≡ value.Int z) × (first_byte s.tree ≡ 105)). absurd (let e = wrong 105 h x.2 in omega (arith, e)))
      (⊎_elim (λ (x : (t : List ℕ) × (s.tree ≡ value.Text t) × (is_digit (first_byte s.tree) ≡ true)). absurd (not_one 100 h.1 refl x.2))
      (⊎_elim (λ (x : (vs : List Value) × (s.tree ≡ value.List vs) × (first_byte s.tree ≡ 108)). absurd (let e = wrong 108 h x.2 in omega (arith, e)))
      (λ (x : (ps : List (Pair Value)) × (s.tree ≡ value.Dict ps) × (first_byte s.tree ≡ 100)). by_dict x.0 x.1))) (starts s.tree)

  pub member_shown : (key : List ℕ) (o : Option (List ℕ)) → HasByte bytes 0 100 true → ((pairs : List (Pair Value)) → Spells bytes (value.Dict pairs) → Shows o (value_of pairs key)) → Shows o (member_of v key)
  member_shown key o h f =
      let d = is_dict h in
      subst (Shows o) (sym (ap (λ u. member_of u key) d.1 ∙ dict_is (λ y. member_in y key) d.0)) (f d.0 (subst (Spells bytes) d.1 s))

module _ (bytes : List ℕ) (v : Value) (s : Spells bytes v) where
  pub tree_list : HasByte bytes 0 108 true → (vs : List Value) × (s.tree ≡ value.List vs)
  tree_list h =
      ⊎_elim (λ (x : (z : ℤ) × (s.tree ≡ value.Int z) × (first_byte s.tree ≡ 105)). absurd (let e : 108 ≡ 105 = sym h.1 ∙ first bytes v s ∙ x.2 in omega (arith, e)))
      (⊎_elim (λ (x : (t : List ℕ) × (s.tree ≡ value.Text t) × (is_digit (first_byte s.tree) ≡ true)). absurd (not_one bytes v s 108 h.1 refl x.2))
      (⊎_elim (λ (x : (vs : List Value) × (s.tree ≡ value.List vs) × (first_byte s.tree ≡ 108)). (x.0, x.1))
      (λ (x : (ps : List (Pair Value)) × (s.tree ≡ value.Dict ps) × (first_byte s.tree ≡ 100)). absurd (let e : 108 ≡ 100 = sym h.1 ∙ first bytes v s ∙ x.2 in omega (arith, e))))) (starts s.tree)

  open_list : HasByte bytes 0 108 true → (vs : List Value) × (v ≡ value.List vs)
  open_list h = let w = tree_list h in by_list bytes v s w.0 w.1

  pub no_list : HasByte bytes 0 108 false → None ≡ list_of v
  no_list h =
      ⊎_elim (λ (x : (z : ℤ) × (s.tree ≡ value.Int z) × (first_byte s.tree ≡ 105)). sym (ap list_of (by_int bytes v s x.0 x.1) ∙ int_is list_in x.0))
      (⊎_elim (λ (x : (t : List ℕ) × (s.tree ≡ value.Text t) × (is_digit (first_byte s.tree) ≡ true)). sym (ap list_of (by_text bytes v s x.0 x.1) ∙ text_is list_in x.0))
      (⊎_elim (λ (x : (vs : List Value) × (s.tree ≡ value.List vs) × (first_byte s.tree ≡ 108)). absurd (other bytes v s 108 (omega arith) h x.2))
      (λ (x : (ps : List (Pair Value)) × (s.tree ≡ value.Dict ps) × (first_byte s.tree ≡ 100)). let w = by_dict bytes v s x.0 x.1 in sym (ap list_of w.1 ∙ dict_is list_in w.0)))) (starts s.tree)

  pub no_dict : HasByte bytes 0 100 false → None ≡ dict_of v
  no_dict h =
      ⊎_elim (λ (x : (z : ℤ) × (s.tree ≡ value.Int z) × (first_byte s.tree ≡ 105)). sym (ap dict_of (by_int bytes v s x.0 x.1) ∙ int_is dict_in x.0))
      (⊎_elim (λ (x : (t : List ℕ) × (s.tree ≡ value.Text t) × (is_digit (first_byte s.tree) ≡ true)). sym (ap dict_of (by_text bytes v s x.0 x.1) ∙ text_is dict_in x.0))
      (⊎_elim (λ (x : (vs : List Value) × (s.tree ≡ value.List vs) × (first_byte s.tree ≡ 108)). let w = by_list bytes v s x.0 x.1 in sym (ap dict_of w.1 ∙ list_is dict_in w.0))
      (λ (x : (ps : List (Pair Value)) × (s.tree ≡ value.Dict ps) × (first_byte s.tree ≡ 100)). absurd (other bytes v s 100 (omega arith) h x.2)))) (starts s.tree)

  pub list_told : (b : Bool) → HasByte bytes 0 108 b → b ≡ is_some (list_of v)
  list_told true h = let w = open_list h in sym (ap (λ u. is_some (list_of u)) w.1 ∙ ap is_some (list_is list_in w.0))
  list_told false h = ap is_some (no_list h)

  pub dict_told : (b : Bool) → HasByte bytes 0 100 b → b ≡ is_some (dict_of v)
  dict_told true h = let w = is_dict bytes v s h in sym (ap (λ u. is_some (dict_of u)) w.1 ∙ ap is_some (dict_is dict_in w.0))
  dict_told false h = ap is_some (no_dict h)

pub text_long : (v : Value) → 0 < length (text_of v)
text_long = by_value (λ v. 0 < length (text_of v))
    (λ z. subst (λ l. 0 < length l) (sym (text_of-int z)) (integer_long z))
    (λ t. subst (λ l. 0 < length l) (sym (text_of-text t)) (string_long t))
    (λ vs _. subst (λ l. 0 < length l) (sym (text_of-list vs)) (omega arith))
    (λ ps _. subst (λ l. 0 < length l) (sym (text_of-dict ps)) (omega arith))
