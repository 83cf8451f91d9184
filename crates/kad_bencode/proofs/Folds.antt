-- The equations of the folds over values, and induction.
use Rattle.std.proofs.Common.{◌≡◌, ℕ, suc, Bool, true, List, [], ◌∷◌, ◌++◌, ◌&&◌, map, ℤ, refl, sym, ap, ◌∙◌, subst}
use Rattle.std.specs.List.{concat}
use Rattle.kad_bencode.specs.Keys.{keys_of}
use Rattle.kad_bencode.specs.Spelling.{integer_text, string_text, pairs_text, text_step, text_of, depth_step, depth_of, plain_step, is_plain, in_order_step, in_order, values_of, greatest, all_true, each_once, is_i64, put_all}
use Rattle.kad_bencode.specs.Faults.{pairs_of}
use Rattle.kad_bencode.specs.declared.entries.Pair.{Pair}
use Rattle.kad_bencode.specs.declared.value.Value.{Value, map-Value}
use Rattle.kad_bencode.specs.declared.value.Value.TheOpen as layer
use Rattle.kad_bencode.specs.declared.value.Value.TheOpen.{Value-F}
use Rattle.kad_bencode.specs.declared.value.Value.TheViews.{roll-Value}
use Rattle.kad_bencode.specs.declared.value.Value.TheFolds.{fold-Value, fold-roll-Value, ind-Value}
use Rattle.kad_bencode.specs.declared.value.Value.TheVariants as value

module _ (A : Type 0) (layer_step : Value-F A → A) where
  at_int : (n : ℤ) → fold-Value A layer_step (value.Int n) ≡ layer_step (layer.Int n)
  at_int n = ap (fold-Value A layer_step) (sym (value.rolls-Int n)) ∙ fold-roll-Value A layer_step (layer.Int n)

  at_text : (s : List ℕ) → fold-Value A layer_step (value.Text s) ≡ layer_step (layer.Text s)
  at_text s = ap (fold-Value A layer_step) (sym (value.rolls-Text s)) ∙ fold-roll-Value A layer_step (layer.Text s)

  at_list : (vs : List Value) → fold-Value A layer_step (value.List vs) ≡ layer_step (layer.List (map (fold-Value A layer_step) vs))
  at_list vs = ap (fold-Value A layer_step) (sym (value.rolls-List vs)) ∙ fold-roll-Value A layer_step (layer.List vs)

  at_dict : (ps : List (Pair Value)) → fold-Value A layer_step (value.Dict ps) ≡ layer_step (layer.Dict (map (λ p. record { key = p.key; value = fold-Value A layer_step p.value }) ps))
  at_dict ps = ap (fold-Value A layer_step) (sym (value.rolls-Dict ps)) ∙ fold-roll-Value A layer_step (layer.Dict ps)

pub text_of-int : (n : ℤ) → text_of (value.Int n) ≡ integer_text n
text_of-int = at_int (List ℕ) text_step

pub text_of-text : (s : List ℕ) → text_of (value.Text s) ≡ string_text s
text_of-text = at_text (List ℕ) text_step

pub text_of-list : (vs : List Value) → text_of (value.List vs) ≡ 108 ∷ concat (map text_of vs) ++ 101 ∷ []
text_of-list = at_list (List ℕ) text_step

pub text_of-dict : (ps : List (Pair Value)) → text_of (value.Dict ps) ≡ 100 ∷ pairs_text (pairs_of ps) ++ 101 ∷ []
text_of-dict = at_dict (List ℕ) text_step

pub depth_of-int : (n : ℤ) → depth_of (value.Int n) ≡ 0
depth_of-int = at_int ℕ depth_step

pub depth_of-text : (s : List ℕ) → depth_of (value.Text s) ≡ 0
depth_of-text = at_text ℕ depth_step

pub depth_of-list : (vs : List Value) → depth_of (value.List vs) ≡ suc (greatest (map depth_of vs))
depth_of-list = at_list ℕ depth_step

values_mapped : {V W : Type 0} (f : V → W) (ps : List (Pair V)) → values_of (map (λ p. record { key = p.key; value = f p.value }) ps) ≡ map (λ p. f p.value) ps
values_mapped f [] = refl
values_mapped f (p ∷ ps) = ap (λ l. f p.value ∷ l) (values_mapped f ps)

pub keys_mapped : {V W : Type 0} (f : V → W) (ps : List (Pair V)) → keys_of (map (λ (p : Pair V). let q : Pair W = record { key = p.key; value = f p.value } in q) ps) ≡ keys_of ps
keys_mapped f [] = refl
keys_mapped f (p ∷ ps) = ap (λ l. p.key ∷ l) (keys_mapped f ps)

pub depth_of-dict : (ps : List (Pair Value)) → depth_of (value.Dict ps) ≡ suc (greatest (map (λ p. depth_of p.value) ps))
depth_of-dict ps = at_dict ℕ depth_step ps ∙ ap (λ l. suc (greatest l)) (values_mapped depth_of ps)

pub is_plain-int : (n : ℤ) → is_plain (value.Int n) ≡ is_i64 n
is_plain-int = at_int Bool plain_step

pub is_plain-text : (s : List ℕ) → is_plain (value.Text s) ≡ true
is_plain-text = at_text Bool plain_step

pub is_plain-list : (vs : List Value) → is_plain (value.List vs) ≡ all_true (map is_plain vs)
is_plain-list = at_list Bool plain_step

pub is_plain-dict : (ps : List (Pair Value)) → is_plain (value.Dict ps) ≡ (each_once (keys_of ps) && all_true (map (λ p. is_plain p.value) ps))
is_plain-dict ps = at_dict Bool plain_step ps ∙ (λ i. each_once (keys_mapped is_plain ps i) && all_true (values_mapped is_plain ps i))

-- pairs whose values are in order
abbrev pub ordered_pairs : List (Pair Value) → List (Pair Value)
ordered_pairs ps = map (λ p. record { key = p.key; value = in_order p.value }) ps

pub in_order-int : (n : ℤ) → in_order (value.Int n) ≡ value.Int n
in_order-int n = at_int Value in_order_step n ∙ value.rolls-Int n

pub in_order-text : (s : List ℕ) → in_order (value.Text s) ≡ value.Text s
in_order-text s = at_text Value in_order_step s ∙ value.rolls-Text s

pub in_order-list : (vs : List Value) → in_order (value.List vs) ≡ value.List (map in_order vs)
in_order-list vs = at_list Value in_order_step vs ∙ value.rolls-List (map in_order vs)

pub in_order-dict : (ps : List (Pair Value)) → in_order (value.Dict ps) ≡ value.Dict (put_all [] (ordered_pairs ps))
in_order-dict ps = at_dict Value in_order_step ps ∙ value.rolls-Dict (put_all [] (ordered_pairs ps))

module _ (P : Value → Type 0) where
  abbrev With : Type 0
  With = (v : Value) × P v

  abbrev pub Each : List Value → Type 0
  Each [] = Unit {0}
  Each (v ∷ vs) = P v × Each vs

  abbrev pub EachValue : List (Pair Value) → Type 0
  EachValue [] = Unit {0}
  EachValue (p ∷ ps) = P p.value × EachValue ps

  each : (es : List With) → Each (map (λ e. e.0) es)
  each [] = tt
  each (e ∷ es) = (e.1, each es)

  each_value : (es : List (Pair With)) → EachValue (map (λ p. record { key = p.key; value = p.value.0 }) es)
  each_value [] = tt
  each_value (e ∷ es) = (e.value.1, each_value es)

  module _ (int : (n : ℤ) → P (value.Int n)) (text : (s : List ℕ) → P (value.Text s)) (list : (vs : List Value) → Each vs → P (value.List vs)) (dict : (ps : List (Pair Value)) → EachValue ps → P (value.Dict ps)) where
    made : (y : Value-F With) → P (roll-Value (map-Value With Value (λ e. e.0) y))
    made (layer.Int n) = subst P (sym (value.rolls-Int n)) (int n)
    made (layer.Text s) = subst P (sym (value.rolls-Text s)) (text s)
    made (layer.List es) = subst P (sym (value.rolls-List (map (λ e. e.0) es))) (list (map (λ e. e.0) es) (each es))
    made (layer.Dict es) = let ps : List (Pair Value) = map (λ p. record { key = p.key; value = p.value.0 }) es in subst P (sym (value.rolls-Dict ps)) (dict ps (each_value es))

    pub by_value : (v : Value) → P v
    by_value = ind-Value P (λ x y e. subst (λ z. P (roll-Value z)) e (made y))
