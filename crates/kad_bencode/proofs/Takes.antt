-- The machine takes each text: after a value's text it stands where that value is filled in.
use Rattle.std.proofs.Common.{◌≡◌, ℕ, zero, suc, ◌+◌, ◌-◌, ◌*◌, ◌/◌, ◌%◌, ◌<◌, ◌≤◌, Bool, true, false, List, [], ◌∷◌, ◌++◌, map, length, Option, Some, None, ℤ, pos, negsuc, refl, sym, ap, ◌∙◌, arith, append_assoc, append-nil, inl, inr}
use Rattle.std.specs.List.{concat}
use Rattle.std.proofs.lemmas.Bool.{cases_lt}
use Rattle.std.proofs.lemmas.Bool.Decides.{nat_tests}
use Rattle.kad_bencode.specs.Spelling.{numeral, integer_text, string_text, pairs_text, text_of}
use Rattle.kad_bencode.specs.Faults.{Open, InList, InPair, fronts, front_of, pairs_of}
use Rattle.kad_bencode.specs.Machine.{Place, AsValue, AsKey, State, Ready, Keyless, Whole, Sign, Minus, Digits, Length, Body, filled, stored, before, step, run, start}
use Rattle.kad_bencode.specs.declared.entries.Pair.{Pair}
use Rattle.kad_bencode.specs.declared.value.Value.{Value}
use Rattle.kad_bencode.specs.declared.value.Value.TheVariants as value
use Rattle.kad_bencode.proofs.Folds.{text_of-int, text_of-text, text_of-list, text_of-dict, by_value, Each, EachValue}
use Rattle.kad_bencode.proofs.Numerals.{numeral_digit, numeral_step}

pub run_none : (bs : List ℕ) → run None bs ≡ None
run_none [] = refl
run_none (b ∷ bs) = refl

pub run_append : (o : Option State) (a b : List ℕ) → run o (a ++ b) ≡ run (run o a) b
run_append o [] b = refl
run_append None (x ∷ a) b = sym (run_none b)
run_append (Some s) (x ∷ a) b = run_append (step s x) a b

module _ (st : State) (num : ℕ → State) (first : (d : ℕ) → 0 < d → d < 10 → step st (48 + d) ≡ Some (num d)) (more : (n d : ℕ) → 0 < n → d < 10 → step (num n) (48 + d) ≡ Some (num (n * 10 + d))) where
  numeral_run_within : (f n : ℕ) → n ≤ f → 0 < n → (x : List ℕ) → run (Some st) (numeral n ++ x) ≡ run (Some (num n)) x
  numeral_run_within zero n k h x = absurd (omega arith)
  numeral_run_within (suc f) n k h x =
      elim (cases_lt n 10) as (λ _. run (Some st) (numeral n ++ x) ≡ run (Some (num n)) x) [
        | inl small ↦ ap (λ l. run (Some st) (l ++ x)) (numeral_digit n h small) ∙ ap (λ o. run o x) (first n h small)
        | inr big ↦
            let e : n / 10 * 10 + n % 10 ≡ n = omega arith in
            ap (λ l. run (Some st) (l ++ x)) (numeral_step n big)
            ∙ ap (run (Some st)) (append_assoc (numeral (n / 10)) ((48 + n % 10) ∷ []) x)
            ∙ numeral_run_within f (n / 10) (omega arith) (omega arith) ((48 + n % 10) ∷ x)
            ∙ ap (λ o. run o x) (more (n / 10) (n % 10) (omega arith) (omega arith))
            ∙ ap (λ m. run (Some (num m)) x) e
      ]

  pub numeral_run : (n : ℕ) → 0 < n → (x : List ℕ) → run (Some st) (numeral n ++ x) ≡ run (Some (num n)) x
  numeral_run n h x = numeral_run_within n n (omega arith) h x

pub digit_sign : (os : List Open) (d : ℕ) → 0 < d → d < 10 → step (Sign os) (48 + d) ≡ Some (Digits os false d)
digit_sign os d h k = grind (arith, nat_tests)

pub digit_minus : (os : List Open) (d : ℕ) → 0 < d → d < 10 → step (Minus os) (48 + d) ≡ Some (Digits os true d)
digit_minus os d h k = grind (arith, nat_tests)

pub digit_digits : (os : List Open) (s : Bool) (n d : ℕ) → 0 < n → d < 10 → step (Digits os s n) (48 + d) ≡ Some (Digits os s (n * 10 + d))
digit_digits os s n d h k = grind (arith, nat_tests)

pub digit_before : (p : Place) (d : ℕ) → 0 < d → d < 10 → step (before p) (48 + d) ≡ Some (Length p d)
digit_before (AsValue os) d h k = grind (arith, nat_tests)
digit_before (AsKey os pairs) d h k = grind (arith, nat_tests)

pub digit_length : (p : Place) (n d : ℕ) → 0 < n → d < 10 → step (Length p n) (48 + d) ≡ Some (Length p (n * 10 + d))
digit_length p n d h k = grind (arith, nat_tests)

pub step_body : (p : Place) (n b : ℕ) (s : List ℕ) → step (Body p (suc (suc n)) s) b ≡ Some (Body p (suc n) (s ++ b ∷ []))
step_body p n b s = grind (arith, nat_tests)

pub body_run : (p : Place) (front : List ℕ) (c : ℕ) (cs x : List ℕ) → run (Some (Body p (suc (length cs)) front)) ((c ∷ cs) ++ x) ≡ run (Some (stored p (front ++ c ∷ cs))) x
body_run p front c [] x = refl
body_run p front c (d ∷ ds) x =
    ap (λ o. run o ((d ∷ ds) ++ x)) (step_body p (length ds) c front)
    ∙ body_run p (front ++ c ∷ []) d ds x
    ∙ ap (λ l. run (Some (stored p l)) x) (append_assoc front (c ∷ []) (d ∷ ds))

pub string_run : (p : Place) (s x : List ℕ) → run (Some (before p)) (string_text s ++ x) ≡ run (Some (stored p s)) x
string_run (AsValue os) [] x = refl
string_run (AsKey os pairs) [] x = refl
string_run p (c ∷ cs) x =
    ap (run (Some (before p))) (append_assoc (numeral (suc (length cs))) (58 ∷ c ∷ cs) x)
    ∙ numeral_run (before p) (Length p) (digit_before p) (digit_length p) (suc (length cs)) (omega arith) (58 ∷ (c ∷ cs) ++ x)
    ∙ body_run p [] c cs x

pub integer_run : (os : List Open) (n : ℤ) (x : List ℕ) → run (Some (Ready os)) (integer_text n ++ x) ≡ run (Some (filled os (value.Int n))) x
integer_run os (pos zero) x = refl
integer_run os (pos (suc n)) x =
    ap (run (Some (Sign os))) (append_assoc (numeral (suc n)) (101 ∷ []) x)
    ∙ numeral_run (Sign os) (Digits os false) (digit_sign os) (digit_digits os false) (suc n) (omega arith) (101 ∷ x)
integer_run os (negsuc n) x =
    ap (run (Some (Minus os))) (append_assoc (numeral (suc n)) (101 ∷ []) x)
    ∙ numeral_run (Minus os) (Digits os true) (digit_minus os) (digit_digits os true) (suc n) (omega arith) (101 ∷ x)
    ∙ ap (λ m. run (Some (filled os (value.Int (negsuc m)))) x) (let e : suc n - 1 ≡ n = omega arith in e)

-- the machine takes the text of a value wherever one may begin
abbrev pub Takes : Value → Type 0
Takes v = (os : List Open) (x : List ℕ) → run (Some (Ready os)) (text_of v ++ x) ≡ run (Some (filled os v)) x

pub values_run : (vs : List Value) → Each Takes vs → (done : List Value) (os : List Open) (x : List ℕ) → run (Some (Ready (InList done ∷ os))) (concat (map text_of vs) ++ x) ≡ run (Some (Ready (InList (done ++ vs) ∷ os))) x
values_run [] e done os x = ap (λ l. run (Some (Ready (InList l ∷ os))) x) (sym (append-nil done))
values_run (v ∷ vs) e done os x =
    ap (run (Some (Ready (InList done ∷ os)))) (append_assoc (text_of v) (concat (map text_of vs)) x)
    ∙ e.0 (InList done ∷ os) (concat (map text_of vs) ++ x)
    ∙ values_run vs e.1 (done ++ v ∷ []) os x
    ∙ ap (λ l. run (Some (Ready (InList l ∷ os))) x) (append_assoc done (v ∷ []) vs)

pub pairs_run : (ps : List (Pair Value)) → EachValue Takes ps → (done : List (Pair Value)) (os : List Open) (x : List ℕ) → run (Some (Keyless os done)) (pairs_text (pairs_of ps) ++ x) ≡ run (Some (Keyless os (done ++ ps))) x
pairs_run [] e done os x = ap (λ l. run (Some (Keyless os l)) x) (sym (append-nil done))
pairs_run (p ∷ ps) e done os x =
    ap (run (Some (Keyless os done))) (append_assoc (string_text p.key ++ text_of p.value) (pairs_text (pairs_of ps)) x ∙ append_assoc (string_text p.key) (text_of p.value) (pairs_text (pairs_of ps) ++ x))
    ∙ string_run (AsKey os done) p.key (text_of p.value ++ (pairs_text (pairs_of ps) ++ x))
    ∙ e.0 (InPair done p.key ∷ os) (pairs_text (pairs_of ps) ++ x)
    ∙ pairs_run ps e.1 (done ++ p ∷ []) os x
    ∙ ap (λ l. run (Some (Keyless os l)) x) (append_assoc done (p ∷ []) ps)

takes_list : (vs : List Value) → Each Takes vs → Takes (value.List vs)
takes_list vs e os x =
    ap (λ l. run (Some (Ready os)) (l ++ x)) (text_of-list vs)
    ∙ ap (run (Some (Ready (InList [] ∷ os)))) (append_assoc (concat (map text_of vs)) (101 ∷ []) x)
    ∙ values_run vs e [] os (101 ∷ x)

takes_dict : (ps : List (Pair Value)) → EachValue Takes ps → Takes (value.Dict ps)
takes_dict ps e os x =
    ap (λ l. run (Some (Ready os)) (l ++ x)) (text_of-dict ps)
    ∙ ap (run (Some (Keyless os []))) (append_assoc (pairs_text (pairs_of ps)) (101 ∷ []) x)
    ∙ pairs_run ps e [] os (101 ∷ x)

pub takes : (v : Value) → Takes v
takes = by_value Takes
    (λ n os x. ap (λ l. run (Some (Ready os)) (l ++ x)) (text_of-int n) ∙ integer_run os n x)
    (λ s os x. ap (λ l. run (Some (Ready os)) (l ++ x)) (text_of-text s) ∙ string_run (AsValue os) s x)
    takes_list takes_dict

pub each_takes : (vs : List Value) → Each Takes vs
each_takes [] = tt
each_takes (v ∷ vs) = (takes v, each_takes vs)

each_value_takes : (ps : List (Pair Value)) → EachValue Takes ps
each_value_takes [] = tt
each_value_takes (p ∷ ps) = (takes p.value, each_value_takes ps)

pub pairs_taken : (ps : List (Pair Value)) (os : List Open) (x : List ℕ) → run (Some (Keyless os [])) (pairs_text (pairs_of ps) ++ x) ≡ run (Some (Keyless os ps)) x
pairs_taken ps os x = pairs_run ps (each_value_takes ps) [] os x

front_run : (o : Open) (os : List Open) (x : List ℕ) → run (Some (Ready os)) (front_of o ++ x) ≡ run (Some (Ready (o ∷ os))) x
front_run (InList vs) os x = values_run vs (each_takes vs) [] os x
front_run (InPair ps key) os x =
    ap (run (Some (Keyless os []))) (append_assoc (pairs_text (pairs_of ps)) (string_text key) x)
    ∙ pairs_taken ps os (string_text key ++ x)
    ∙ string_run (AsKey os ps) key x

pub fronts_run : (os : List Open) (x : List ℕ) → run start (fronts os ++ x) ≡ run (Some (Ready os)) x
fronts_run [] x = refl
fronts_run (o ∷ os) x = ap (run start) (append_assoc (fronts os) (front_of o) x) ∙ fronts_run os (front_of o ++ x) ∙ front_run o os x

pub text_run : (v : Value) → run start (text_of v) ≡ Some (Whole v)
text_run v = ap (run start) (sym (append-nil (text_of v))) ∙ takes v [] []
