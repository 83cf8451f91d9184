-- The lines of an input tell one list of reports, or there is one first bad line.
use Rattle.std.proofs.Common.{◌≡◌, ℕ, ◌+◌, ◌<◌, List, [], ◌∷◌, ◌++◌, length, take, drop, get_or, Option, Some, None, sym, ap, ◌∙◌, arith}
use Rattle.std.specs.Prelude.{flat_map, option_to_list}
use Rattle.std.specs.List.{AllZip, enumerate_from}
use Rattle.std.proofs.lemmas.Grind.{flat_map-append}
use Rattle.std.proofs.lemmas.List.{append-nil, take_more, take_all, take-append-drop, drop_more, length-take-le}
use Rattle.std.proofs.lemmas.List.FromFn.{get_or-enumerate_from, length-enumerate_from}
use Rattle.kad_base.specs.declared.types.Report.{Report}
use Rattle.kad_text.specs.Lines.{IsBad, IsFirstBad, Reporting, Tells}

-- ---- one line more

pub AllZip-push : {A B : Type 0} (R : A → B → Type 0) (xs : List A) (ys : List B) (x : A) (y : B) → AllZip R xs ys → R x y → AllZip R (xs ++ x ∷ []) (ys ++ y ∷ [])
AllZip-push R [] [] x y h r = (r, tt)
AllZip-push R [] (b ∷ ys) x y h r = absurd h
AllZip-push R (a ∷ xs) [] x y h r = absurd h
AllZip-push R (a ∷ xs) (b ∷ ys) x y h r = (h.0, AllZip-push R xs ys x y h.1 r)

reporting_push : (input : List (List ℕ)) (reports : List Report) (line : List ℕ) (told : Option Report) → Reporting input reports → Tells line told
    → Reporting (input ++ line ∷ []) (reports ++ option_to_list told)
reporting_push input reports line told r t = record {
  told = r.told ++ told ∷ [];
  each = AllZip-push Tells input r.told line told r.each t;
  kept = ap (λ (l : List Report). l ++ option_to_list told) r.kept
      ∙ ap (λ (l : List Report). flat_map option_to_list r.told ++ l) (sym (append-nil (option_to_list told)))
      ∙ sym (flat_map-append option_to_list r.told (told ∷ []));
}

-- where the line of this turn stands
pub record IsTurn (input : List (List ℕ)) (n i : ℕ) (line : List ℕ) : Type 0 where
  pub inside : n < length input
  pub index : i ≡ n
  pub is : line ≡ get_or input n line

pub turn_of : (input : List (List ℕ)) (n i : ℕ) (line : List ℕ) → (n < length (enumerate_from 0 input)) × ((◌≡◌ {A = ℕ × List ℕ} (i, line) (get_or (enumerate_from 0 input) n (i, line)))) → IsTurn input n i line
turn_of input n i line h =
    let lt : n < length input = rw (sym (length-enumerate_from 0 input)) h.0 in
    let e = h.1 ∙ get_or-enumerate_from 0 input n (i, line) lt in
    record {
      inside = lt;
      index = ap (λ (p : ℕ × List ℕ). p.0) e ∙ omega arith;
      is = ap (λ (p : ℕ × List ℕ). p.1) e;
    }

pub turned : (input : List (List ℕ)) (n i : ℕ) (line : List ℕ) → IsTurn input n i line → take (n + 1) input ≡ take n input ++ line ∷ []
turned input n i line t = let lt = t.inside in take_more input n line t.inside ∙ ap (λ (l : List ℕ). take n input ++ l ∷ []) (sym t.is)

pub turn_none : (input : List (List ℕ)) (reports : List Report) (n m i : ℕ) (line : List ℕ) → IsTurn input n i line → m ≡ n + 1 → Reporting (take n input) reports → Tells line None → Reporting (take m input) reports
turn_none input reports n m i line t e r h =
    let all = reporting_push (take n input) reports line None r h in
    rw (e, turned input n i line t) (rw append-nil at all)

pub turn_some : (input : List (List ℕ)) (reports after : List Report) (n m i : ℕ) (line : List ℕ) (report : Report) → IsTurn input n i line → m ≡ n + 1 → Reporting (take n input) reports → Tells line (Some report)
    → after ≡ reports ++ report ∷ [] → Reporting (take m input) after
turn_some input reports after n m i line report t e r h a =
    rw (e, turned input n i line t, a) (reporting_push (take n input) reports line (Some report) r h)

pub turn_bad : (input : List (List ℕ)) (reports : List Report) (n i number : ℕ) (line : List ℕ) → IsTurn input n i line → Reporting (take n input) reports → IsBad line → number ≡ i + 1 → IsFirstBad input number
turn_bad input reports n i number line t r b e =
    let lt = t.inside in
    let index = t.index in
    record {
      before = take n input;
      line = line;
      after = drop (n + 1) input;
      split = sym (take-append-drop n input) ∙ ap (λ (l : List (List ℕ)). take n input ++ l) (drop_more input n line lt ∙ ap (λ (x : List ℕ). x ∷ drop (n + 1) input) (sym t.is));
      place = rw (length-take-le n input (omega arith)) (omega arith);
      good = (reports, r);
      bad = b;
    }

pub turns_end : (input : List (List ℕ)) (reports : List Report) (n : ℕ) → n ≡ length (enumerate_from 0 input) → Reporting (take n input) reports → Reporting input reports
turns_end input reports n e r =
    let all : take n input ≡ input = take_all n input (rw (e, length-enumerate_from) (omega arith)) in
    rw all at r
