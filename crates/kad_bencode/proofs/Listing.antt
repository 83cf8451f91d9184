-- The values of a list in its text.
use Rattle.std.proofs.Common.{◌≡◌, ℕ, ◌-◌, ◌<◌, ◌≤◌, true, List, [], ◌∷◌, ◌++◌, map, length, take, drop, Some, refl, sym, ap, ◌∙◌, subst, arith, append-nil, length-append}
use Rattle.std.specs.List.{concat}
use Rattle.std.proofs.Math.Seq.{take-append_seam, drop-append_seam}
use Rattle.kad_bencode.specs.Parts.{list_of, list_in}
use Rattle.kad_bencode.specs.Spelling.{text_of, Fits, Spells, in_order}
use Rattle.kad_bencode.specs.Faults.{InList}
use Rattle.kad_bencode.specs.Machine.{Ready, run, HasByte}
use Rattle.kad_bencode.specs.declared.value.Value.{Value}
use Rattle.kad_bencode.specs.declared.value.Value.TheVariants as value
use Rattle.kad_bencode.proofs.Folds.{text_of-list, in_order-list}
use Rattle.kad_bencode.proofs.Takes.{each_takes, values_run}
use Rattle.kad_bencode.proofs.Limits.{list_fits}
use Rattle.kad_bencode.specs.Scanning.{Begins}
use Rattle.kad_bencode.specs.Naming.{AreItems, IsCut, IsListOf, trees_in, trees_at, named_items, named}
use Rattle.kad_bencode.proofs.Layers.{list_is}
use Rattle.kad_bencode.proofs.Pieces.{tree_list, text_long, named_is, names_itself}
use Rattle.kad_bencode.proofs.Verifying.{fewer}

pub trees_is : (bytes : List ℕ) (vs : List Value) → AreItems bytes vs → trees_in bytes ≡ vs
trees_is bytes vs a = ap (λ l. trees_at (run (Some (Ready (InList [] ∷ []))) l)) (a.text ∙ sym (append-nil (concat (map text_of vs)))) ∙ ap trees_at (values_run vs (each_takes vs) [] [] [])

pub themselves : (bytes : List ℕ) (vs : List Value) → AreItems bytes vs → AreItems bytes (trees_in bytes)
themselves bytes vs a = subst (AreItems bytes) (sym (trees_is bytes vs a)) a

pub none_left : (bytes : List ℕ) → length bytes ≤ 0 → (vs : List Value) → AreItems bytes vs → vs ≡ []
none_left bytes h [] a = refl
none_left bytes h (v ∷ vs) a =
    let l = ap length a.text in
    let m = length-append (text_of v) (concat (map text_of vs)) in
    let n = text_long v in
    absurd (omega (arith, h, l, m, n))

begins_item : (bytes : List ℕ) (v : Value) (vs : List Value) → AreItems bytes (v ∷ vs) → Begins bytes v
begins_item bytes v vs a = record { rest = concat (map text_of vs); text = a.text; fits = a.fits.0 }

pub cut_off : (bytes : List ℕ) (to : ℕ) → 0 < length bytes → ((t : Value) → Begins bytes t → to ≡ length (text_of t)) → (vs : List Value) → AreItems bytes vs → IsCut vs (take to bytes) (drop to bytes)
cut_off bytes to h ends [] a = absurd (let l = ap length a.text in omega (arith, h, l))
cut_off bytes to h ends (v ∷ vs) a =
    let n : to ≡ length (text_of v) = ends v (begins_item bytes v vs a) in
    record {
      tree = v;
      others = vs;
      cut = refl;
      spells = record { tree = v; text = ap (λ m. take m bytes) n ∙ ap (take (length (text_of v))) a.text ∙ take-append_seam (text_of v) (concat (map text_of vs)); fits = a.fits.0; names = refl };
      left = record { text = ap (λ m. drop m bytes) n ∙ ap (drop (length (text_of v))) a.text ∙ drop-append_seam (text_of v) (concat (map text_of vs)); fits = a.fits.1 };
    }

module _ (bytes : List ℕ) (v : Value) (s : Spells bytes v) (h : HasByte bytes 0 108 true) where
  abbrev of_list : (vs : List Value) × (s.tree ≡ value.List vs)
  of_list = tree_list bytes v s h

  list_text : bytes ≡ 108 ∷ concat (map text_of of_list.0) ++ 101 ∷ []
  list_text = s.text ∙ ap text_of of_list.1 ∙ text_of-list of_list.0

  pub list_long : 2 ≤ length bytes
  list_long = let l = ap length list_text in let m = length-append (concat (map text_of of_list.0)) (101 ∷ []) in omega (arith, l, m)

  pub is_list : (n : ℕ) → n ≡ length bytes - 2 → IsListOf v (take n (drop 1 bytes))
  is_list n e =
      let text : List ℕ = concat (map text_of of_list.0) in
      let l = ap length list_text in
      let m = length-append text (101 ∷ []) in
      let k : n ≡ length text = omega (arith, e, l, m) in
      record {
        trees = of_list.0;
        items = record {
          text = ap (λ x. take n (drop 1 x)) list_text ∙ ap (λ i. take i (text ++ 101 ∷ [])) k ∙ take-append_seam text (101 ∷ []);
          fits = fewer 1 of_list.0 (list_fits 0 of_list.0 (subst (Fits 0) of_list.1 s.fits)).1;
        };
        list = ap list_of (s.names ∙ ap in_order of_list.1 ∙ in_order-list of_list.0) ∙ list_is list_in (map in_order of_list.0);
      }

-- ---- the clauses

pub items_named : (v : Value) (bytes : List ℕ) → IsListOf v bytes → AreItems bytes (trees_in bytes) × (Some (named_items bytes) ≡ list_of v)
items_named v bytes l = (themselves bytes l.trees l.items, ap (λ ts. Some (map in_order ts)) (trees_is bytes l.trees l.items) ∙ sym l.list)

pub cut_named : (trees : List Value) (first rest : List ℕ) → IsCut trees first rest → map in_order trees ≡ named first ∷ named_items rest
cut_named trees first rest c =
    ap (map in_order) c.cut ∙ (λ i. sym (named_is first (in_order c.tree) c.spells) i ∷ map in_order (sym (trees_is rest c.others c.left) i))

pub cut_invariants : (trees : List Value) (first rest : List ℕ) → IsCut trees first rest → Spells first (named first) × AreItems rest (trees_in rest)
cut_invariants trees first rest c = (names_itself first (in_order c.tree) c.spells, themselves rest c.others c.left)
