-- What the machine has read can be told from its state, and each state can go on to a whole text.
use Rattle.std.proofs.Common.{◌≡◌, ℕ, zero, suc, ◌+◌, ◌-◌, ◌*◌, ◌<◌, ◌≤◌, Bool, true, false, cond, List, [], ◌∷◌, ◌++◌, map, length, Option, Some, None, pos, nat_eq, refl, sym, ap, ◌∙◌, subst, arith, append_assoc, append-nil, replicate, length-append}
use Rattle.std.specs.List.{concat}
use Rattle.std.proofs.lemmas.Bool.Decides.{nat_tests}
use Rattle.std.proofs.lemmas.List.{map-append, length-replicate}
use Rattle.kad_bencode.specs.Spelling.{numeral, integer_text, string_text, pairs_text, text_of, IsText}
use Rattle.kad_bencode.specs.Faults.{Open, InList, InPair, fronts, pairs_of, BeginsText}
use Rattle.kad_bencode.specs.Machine.{Place, AsValue, AsKey, State, Ready, Keyless, Whole, Sign, Minus, Zero, Digits, NoLength, Length, Body, filled, stored, before, signed, closed, is_digit, is_nonzero, length_begins, step, run, start}
use Rattle.kad_bencode.specs.declared.entries.Pair.{Pair}
use Rattle.kad_bencode.specs.declared.value.Value.{Value}
use Rattle.kad_bencode.specs.declared.value.Value.TheVariants as value
use Rattle.kad_bencode.proofs.Folds.{text_of-int, text_of-text, text_of-list, text_of-dict}
use Rattle.kad_bencode.proofs.Numerals.{numeral_digit, numeral_more}
use Rattle.kad_bencode.proofs.Takes.{body_run, run_append, run_none, text_run}

-- the sign of a number that isn't 0
abbrev pub sign_text : Bool → List ℕ
sign_text false = []
sign_text true = 45 ∷ []

abbrev pub said_before : Place → List ℕ
said_before (AsValue os) = fronts os
said_before (AsKey os ps) = fronts os ++ 100 ∷ pairs_text (pairs_of ps)

-- what was read
abbrev pub said : State → List ℕ
said (Ready os) = fronts os
said (Keyless os ps) = fronts os ++ 100 ∷ pairs_text (pairs_of ps)
said (Whole v) = text_of v
said (Sign os) = fronts os ++ 105 ∷ []
said (Minus os) = fronts os ++ 105 ∷ 45 ∷ []
said (Zero os) = fronts os ++ 105 ∷ 48 ∷ []
said (Digits os s n) = fronts os ++ 105 ∷ sign_text s ++ numeral n
said (NoLength p) = said_before p ++ 48 ∷ []
said (Length p n) = said_before p ++ numeral n
said (Body p n s) = said_before p ++ numeral (length s + n) ++ 58 ∷ s

-- numbers that aren't 0
abbrev pub Good : State → Type 0
Good (Ready os) = Unit {0}
Good (Keyless os ps) = Unit {0}
Good (Whole v) = Unit {0}
Good (Sign os) = Unit {0}
Good (Minus os) = Unit {0}
Good (Zero os) = Unit {0}
Good (Digits os s n) = 0 < n
Good (NoLength p) = Unit {0}
Good (Length p n) = 0 < n
Good (Body p n s) = 0 < n

-- a test, and what follows from either way
pub split : {Q : Type 0} {s : State} (c : Bool) (x y : Option State) → (c ≡ true → x ≡ Some s → Q) → (c ≡ false → y ≡ Some s → Q) → cond c x y ≡ Some s → Q
split true x y f g h = f refl h
split false x y f g h = g refl h

pub nothing : {Q : Type 0} {s : State} → None ≡ Some s → Q
nothing h = cc

pub same_some : {s t : State} → Some s ≡ Some t → s ≡ t
same_some h = cc

pub concat_push : (xs : List (List ℕ)) (x : List ℕ) → concat (xs ++ x ∷ []) ≡ concat xs ++ x
concat_push [] x = append-nil x
concat_push (y ∷ ys) x = ap (λ l. y ++ l) (concat_push ys x) ∙ sym (append_assoc y (concat ys) x)

pub texts_push : (vs : List Value) (v : Value) → concat (map text_of (vs ++ v ∷ [])) ≡ concat (map text_of vs) ++ text_of v
texts_push vs v = ap concat (map-append text_of vs (v ∷ [])) ∙ concat_push (map text_of vs) (text_of v)

pub pairs_push : (ps : List (Pair Value)) (key : List ℕ) (v : Value) → pairs_text (pairs_of (ps ++ record { key = key; value = v } ∷ [])) ≡ pairs_text (pairs_of ps) ++ (string_text key ++ text_of v)
pairs_push [] key v = append-nil (string_text key ++ text_of v)
pairs_push (p ∷ ps) key v =
    ap (λ l. (string_text p.key ++ text_of p.value) ++ l) (pairs_push ps key v)
    ∙ sym (append_assoc (string_text p.key ++ text_of p.value) (pairs_text (pairs_of ps)) (string_text key ++ text_of v))

pub said_filled : (os : List Open) (v : Value) → said (filled os v) ≡ fronts os ++ text_of v
said_filled [] v = refl
said_filled (InList vs ∷ os) v = ap (λ l. fronts os ++ 108 ∷ l) (texts_push vs v) ∙ sym (append_assoc (fronts os) (108 ∷ concat (map text_of vs)) (text_of v))
said_filled (InPair ps key ∷ os) v =
    ap (λ l. fronts os ++ 100 ∷ l) (pairs_push ps key v)
    ∙ ap (λ l. fronts os ++ l) (sym (append_assoc (100 ∷ pairs_text (pairs_of ps)) (string_text key) (text_of v)))
    ∙ sym (append_assoc (fronts os) (100 ∷ pairs_text (pairs_of ps) ++ string_text key) (text_of v))

pub said_stored : (p : Place) (s : List ℕ) → said (stored p s) ≡ said_before p ++ string_text s
said_stored (AsValue os) s = said_filled os (value.Text s) ∙ ap (λ l. fronts os ++ l) (text_of-text s)
said_stored (AsKey os ps) s = sym (append_assoc (fronts os) (100 ∷ pairs_text (pairs_of ps)) (string_text s))

good_filled : (os : List Open) (v : Value) → Good (filled os v)
good_filled [] v = tt
good_filled (InList vs ∷ os) v = tt
good_filled (InPair ps key ∷ os) v = tt

good_stored : (p : Place) (s : List ℕ) → Good (stored p s)
good_stored (AsValue os) s = good_filled os (value.Text s)
good_stored (AsKey os ps) s = tt

pub is_equal : (a b : ℕ) → nat_eq a b ≡ true → a ≡ b
is_equal a b h = grind (arith, nat_tests)

pub not_equal : (a b : ℕ) → nat_eq a b ≡ false → a ≡ b → ⊥
not_equal a b h e = grind (arith, nat_tests)

pub nonzero_low : (b : ℕ) → is_nonzero b ≡ true → 49 ≤ b
nonzero_low b h = grind (arith, nat_tests)

pub nonzero_high : (b : ℕ) → is_nonzero b ≡ true → b < 58
nonzero_high b h = grind (arith, nat_tests)

pub digit_low : (b : ℕ) → is_digit b ≡ true → 48 ≤ b
digit_low b h = grind (arith, nat_tests)

pub digit_high : (b : ℕ) → is_digit b ≡ true → b < 58
digit_high b h = grind (arith, nat_tests)

-- what a step says
pub record Next (st : State) (b : ℕ) (s : State) : Type 0 where
  pub says : said s ≡ said st ++ b ∷ []
  pub good : Good s

-- from what the step gives
next : {st : State} {b : ℕ} {s : State} (t : State) → said t ≡ said st ++ b ∷ [] → Good t → Some t ≡ Some s → Next st b s
next {st} {b} t e g h = subst (Next st b) (same_some h) (record { says = e; good = g })

said_as_before : (p : Place) → said (before p) ≡ said_before p
said_as_before (AsValue os) = refl
said_as_before (AsKey os ps) = refl

length_says : (p : Place) (b : ℕ) (s : State) → length_begins p b ≡ Some s → Next (before p) b s
length_says p b s = split (nat_eq b 48) (Some (NoLength p)) (cond (is_nonzero b) (Some (Length p (b - 48))) None)
    (λ e. next (NoLength p) (ap (λ x. said_before p ++ x ∷ []) (sym (is_equal b 48 e)) ∙ ap (λ l. l ++ b ∷ []) (sym (said_as_before p))) tt)
    (λ _. split (is_nonzero b) (Some (Length p (b - 48))) None
    (λ e. let low : 49 ≤ b = nonzero_low b e in let high : b < 58 = nonzero_high b e in let back : 48 + (b - 48) ≡ b = omega arith in
    next (Length p (b - 48)) (ap (λ l. said_before p ++ l) (numeral_digit (b - 48) (omega arith) (omega arith) ∙ ap (λ x. x ∷ []) back) ∙ ap (λ l. l ++ b ∷ []) (sym (said_as_before p))) (omega arith))
    (λ _. nothing))

closed_says : (os : List Open) (s : State) → closed os ≡ Some s → Next (Ready os) 101 s
closed_says [] s h = nothing h
closed_says (InList vs ∷ os) s h =
    next (filled os (value.List vs)) (said_filled os (value.List vs) ∙ ap (λ l. fronts os ++ l) (text_of-list vs) ∙ sym (append_assoc (fronts os) (108 ∷ concat (map text_of vs)) (101 ∷ []))) (good_filled os (value.List vs)) h
closed_says (InPair ps key ∷ os) s h = nothing h

signed_says : (s : Bool) (n : ℕ) → 0 < n → integer_text (signed s n) ≡ (105 ∷ sign_text s) ++ (numeral n ++ 101 ∷ [])
signed_says false n g = refl
signed_says true n g = let e : suc (n - 1) ≡ n = omega arith in ap (λ m. 105 ∷ 45 ∷ numeral m ++ 101 ∷ []) e

signed_apart : (os : List Open) (s : Bool) (n : ℕ) → fronts os ++ ((105 ∷ sign_text s) ++ (numeral n ++ 101 ∷ [])) ≡ ((fronts os ++ 105 ∷ sign_text s) ++ numeral n) ++ 101 ∷ []
signed_apart os s n = sym (append_assoc (fronts os) (105 ∷ sign_text s) (numeral n ++ 101 ∷ [])) ∙ sym (append_assoc (fronts os ++ 105 ∷ sign_text s) (numeral n) (101 ∷ []))

body_says : (p : Place) (t : List ℕ) (b m n : ℕ) → m ≡ n → said_before p ++ (numeral m ++ (58 ∷ t ++ b ∷ [])) ≡ ((said_before p ++ numeral n) ++ 58 ∷ t) ++ b ∷ []
body_says p t b m n e =
    ap (λ k. said_before p ++ (numeral k ++ (58 ∷ t ++ b ∷ []))) e
    ∙ sym (append_assoc (said_before p) (numeral n) (58 ∷ t ++ b ∷ []))
    ∙ sym (append_assoc (said_before p ++ numeral n) (58 ∷ t) (b ∷ []))

pub step_says : (st : State) (b : ℕ) (s : State) → Good st → step st b ≡ Some s → Next st b s
step_says (Ready os) b s g =
    split (nat_eq b 105) (Some (Sign os)) _ (λ e. next (Sign os) (ap (λ x. fronts os ++ x ∷ []) (sym (is_equal b 105 e))) tt)
    (λ _. split (nat_eq b 108) (Some (Ready (InList [] ∷ os))) _ (λ e. next (Ready (InList [] ∷ os)) (ap (λ x. fronts os ++ x ∷ []) (sym (is_equal b 108 e))) tt)
    (λ _. split (nat_eq b 100) (Some (Keyless os [])) _ (λ e. next (Keyless os []) (ap (λ x. fronts os ++ x ∷ []) (sym (is_equal b 100 e))) tt)
    (λ _. split (nat_eq b 101) (closed os) _ (λ e h. subst (λ x. Next (Ready os) x s) (sym (is_equal b 101 e)) (closed_says os s h))
    (λ _. length_says (AsValue os) b s))))
step_says (Keyless os ps) b s g =
    split (nat_eq b 101) (Some (filled os (value.Dict ps))) _
    (λ e. next (filled os (value.Dict ps)) (said_filled os (value.Dict ps) ∙ ap (λ l. fronts os ++ l) (text_of-dict ps) ∙ sym (append_assoc (fronts os) (100 ∷ pairs_text (pairs_of ps)) (101 ∷ [])) ∙ ap (λ x. (fronts os ++ 100 ∷ pairs_text (pairs_of ps)) ++ x ∷ []) (sym (is_equal b 101 e))) (good_filled os (value.Dict ps)))
    (λ _. length_says (AsKey os ps) b s)
step_says (Whole v) b s g = nothing
step_says (Sign os) b s g =
    split (nat_eq b 45) (Some (Minus os)) _ (λ e. next (Minus os) (sym (append_assoc (fronts os) (105 ∷ []) (45 ∷ [])) ∙ ap (λ x. (fronts os ++ 105 ∷ []) ++ x ∷ []) (sym (is_equal b 45 e))) tt)
    (λ _. split (nat_eq b 48) (Some (Zero os)) _ (λ e. next (Zero os) (sym (append_assoc (fronts os) (105 ∷ []) (48 ∷ [])) ∙ ap (λ x. (fronts os ++ 105 ∷ []) ++ x ∷ []) (sym (is_equal b 48 e))) tt)
    (λ _. split (is_nonzero b) (Some (Digits os false (b - 48))) None
    (λ e. let low : 49 ≤ b = nonzero_low b e in let high : b < 58 = nonzero_high b e in let back : 48 + (b - 48) ≡ b = omega arith in
    next (Digits os false (b - 48)) (ap (λ l. (fronts os ++ 105 ∷ []) ++ l) (numeral_digit (b - 48) (omega arith) (omega arith) ∙ ap (λ x. x ∷ []) back)) (omega arith))
    (λ _. nothing)))
step_says (Minus os) b s g =
    split (is_nonzero b) (Some (Digits os true (b - 48))) None
    (λ e. let low : 49 ≤ b = nonzero_low b e in let high : b < 58 = nonzero_high b e in let back : 48 + (b - 48) ≡ b = omega arith in
    next (Digits os true (b - 48)) (ap (λ l. (fronts os ++ 105 ∷ 45 ∷ []) ++ l) (numeral_digit (b - 48) (omega arith) (omega arith) ∙ ap (λ x. x ∷ []) back)) (omega arith))
    (λ _. nothing)
step_says (Zero os) b s g =
    split (nat_eq b 101) (Some (filled os (value.Int (pos 0)))) None
    (λ e. next (filled os (value.Int (pos 0))) (said_filled os (value.Int (pos 0)) ∙ ap (λ l. fronts os ++ l) (text_of-int (pos 0)) ∙ sym (append_assoc (fronts os) (105 ∷ 48 ∷ []) (101 ∷ [])) ∙ ap (λ x. (fronts os ++ 105 ∷ 48 ∷ []) ++ x ∷ []) (sym (is_equal b 101 e))) (good_filled os (value.Int (pos 0))))
    (λ _. nothing)
step_says (Digits os s n) b t g =
    split (nat_eq b 101) (Some (filled os (value.Int (signed s n)))) _
    (λ e. next (filled os (value.Int (signed s n))) (said_filled os (value.Int (signed s n)) ∙ ap (λ l. fronts os ++ l) (text_of-int (signed s n) ∙ signed_says s n g) ∙ signed_apart os s n ∙ ap (λ x. ((fronts os ++ 105 ∷ sign_text s) ++ numeral n) ++ x ∷ []) (sym (is_equal b 101 e))) (good_filled os (value.Int (signed s n))))
    (λ _. split (is_digit b) (Some (Digits os s (n * 10 + (b - 48)))) None
    (λ e. let low : 48 ≤ b = digit_low b e in let high : b < 58 = digit_high b e in let back : 48 + (b - 48) ≡ b = omega arith in
    next (Digits os s (n * 10 + (b - 48))) (ap (λ l. (fronts os ++ 105 ∷ sign_text s) ++ l) (numeral_more n (b - 48) g (omega arith) ∙ ap (λ x. numeral n ++ x ∷ []) back) ∙ sym (append_assoc (fronts os ++ 105 ∷ sign_text s) (numeral n) (b ∷ []))) (omega arith))
    (λ _. nothing))
step_says (NoLength p) b s g =
    split (nat_eq b 58) (Some (stored p [])) None
    (λ e. next (stored p []) (said_stored p [] ∙ sym (append_assoc (said_before p) (48 ∷ []) (58 ∷ [])) ∙ ap (λ x. (said_before p ++ 48 ∷ []) ++ x ∷ []) (sym (is_equal b 58 e))) (good_stored p []))
    (λ _. nothing)
step_says (Length p n) b s g =
    split (nat_eq b 58) (Some (Body p n [])) _
    (λ e. let z : 0 + n ≡ n = omega arith in next (Body p n []) (ap (λ m. (said_before p ++ numeral m) ++ 58 ∷ []) z ∙ ap (λ x. (said_before p ++ numeral n) ++ x ∷ []) (sym (is_equal b 58 e))) g)
    (λ _. split (is_digit b) (Some (Length p (n * 10 + (b - 48)))) None
    (λ e. let low : 48 ≤ b = digit_low b e in let high : b < 58 = digit_high b e in let back : 48 + (b - 48) ≡ b = omega arith in
    next (Length p (n * 10 + (b - 48))) (ap (λ l. said_before p ++ l) (numeral_more n (b - 48) g (omega arith) ∙ ap (λ x. numeral n ++ x ∷ []) back) ∙ sym (append_assoc (said_before p) (numeral n) (b ∷ []))) (omega arith))
    (λ _. nothing))
step_says (Body p n t) b s g =
    split (nat_eq n 1) (Some (stored p (t ++ b ∷ []))) (Some (Body p (n - 1) (t ++ b ∷ [])))
    (λ e. let one : length (t ++ b ∷ []) ≡ length t + n = omega (arith, length-append t (b ∷ []), is_equal n 1 e) in
    next (stored p (t ++ b ∷ [])) (said_stored p (t ++ b ∷ []) ∙ body_says p t b (length (t ++ b ∷ [])) (length t + n) one) (good_stored p (t ++ b ∷ [])))
    (λ e. let more : length (t ++ b ∷ []) + (n - 1) ≡ length t + n = omega (arith, length-append t (b ∷ [])) in
    next (Body p (n - 1) (t ++ b ∷ [])) (append_assoc (said_before p) (numeral (length (t ++ b ∷ []) + (n - 1))) (58 ∷ t ++ b ∷ []) ∙ body_says p t b (length (t ++ b ∷ []) + (n - 1)) (length t + n) more) (let h : n ≡ 1 → ⊥ = not_equal n 1 e in omega arith))

-- what a run says
pub record After (st : State) (bs : List ℕ) (s : State) : Type 0 where
  pub says : said s ≡ said st ++ bs
  pub good : Good s

pub run_says : (bs : List ℕ) (st s : State) → Good st → run (Some st) bs ≡ Some s → After st bs s
run_says [] st s g = λ h. record { says = ap said (sym (same_some h)) ∙ sym (append-nil (said st)); good = subst Good (same_some h) g }
run_says (b ∷ bs) st s g =
    elim (step st b) as (λ o. step st b ≡ o → run o bs ≡ Some s → After st (b ∷ bs) s) [
      | None ↦ λ e h. nothing (sym (run_none bs) ∙ h)
      | Some t ↦ λ e h.
          let n : Next st b t = step_says st b t g e in
          let a : After t bs s = run_says bs t s n.good h in
          record { says = a.says ∙ ap (λ l. l ++ bs) n.says ∙ append_assoc (said st) (b ∷ []) bs; good = a.good }
    ] refl

-- ---- going on

-- a state that some bytes bring to a whole value
pub record CanBeWhole (o : Option State) : Type 0 where
  pub rest : List ℕ
  pub tree : Value
  pub whole : run o rest ≡ Some (Whole tree)

-- one more byte in front
after : (st : State) (b : ℕ) → CanBeWhole (step st b) → CanBeWhole (Some st)
after st b g = record { rest = b ∷ g.rest; tree = g.tree; whole = g.whole }

goes_filled : (os : List Open) (v : Value) → CanBeWhole (Some (filled os v))
goes_filled [] v = record { rest = []; tree = v; whole = refl }
goes_filled (InList vs ∷ os) v = after (Ready (InList (vs ++ v ∷ []) ∷ os)) 101 (goes_filled os (value.List (vs ++ v ∷ [])))
goes_filled (InPair ps key ∷ os) v = after (Keyless os (ps ++ record { key = key; value = v } ∷ [])) 101 (goes_filled os (value.Dict (ps ++ record { key = key; value = v } ∷ [])))

goes_ready : (os : List Open) → CanBeWhole (Some (Ready os))
goes_ready os = after (Ready os) 48 (after (NoLength (AsValue os)) 58 (goes_filled os (value.Text [])))

goes_stored : (p : Place) (s : List ℕ) → CanBeWhole (Some (stored p s))
goes_stored (AsValue os) s = goes_filled os (value.Text s)
goes_stored (AsKey os ps) s = goes_ready (InPair ps s ∷ os)

goes_body : (p : Place) (n : ℕ) (s : List ℕ) → 0 < n → CanBeWhole (Some (Body p n s))
goes_body p zero s h = absurd (omega arith)
goes_body p (suc n) s h =
    let g : CanBeWhole (Some (stored p (s ++ 0 ∷ replicate n 0))) = goes_stored p (s ++ 0 ∷ replicate n 0) in
    record {
      rest = (0 ∷ replicate n 0) ++ g.rest;
      tree = g.tree;
      whole = ap (λ m. run (Some (Body p (suc m) s)) ((0 ∷ replicate n 0) ++ g.rest)) (sym (length-replicate n 0)) ∙ body_run p s 0 (replicate n 0) g.rest ∙ g.whole;
    }

pub can_be_whole : (st : State) → Good st → CanBeWhole (Some st)
can_be_whole (Ready os) g = goes_ready os
can_be_whole (Keyless os ps) g = after (Keyless os ps) 101 (goes_filled os (value.Dict ps))
can_be_whole (Whole v) g = record { rest = []; tree = v; whole = refl }
can_be_whole (Sign os) g = after (Sign os) 48 (after (Zero os) 101 (goes_filled os (value.Int (pos 0))))
can_be_whole (Minus os) g = after (Minus os) 49 (after (Digits os true 1) 101 (goes_filled os (value.Int (signed true 1))))
can_be_whole (Zero os) g = after (Zero os) 101 (goes_filled os (value.Int (pos 0)))
can_be_whole (Digits os s n) g = after (Digits os s n) 101 (goes_filled os (value.Int (signed s n)))
can_be_whole (NoLength p) g = after (NoLength p) 58 (goes_stored p [])
can_be_whole (Length p n) g = after (Length p n) 58 (goes_body p n [] g)
can_be_whole (Body p n s) g = goes_body p n s g

-- ---- fronts and texts

-- what the machine has read is what it says
pub run_front : (bs : List ℕ) (st : State) → run start bs ≡ Some st → bs ≡ said st
run_front bs st h = sym (run_says bs (Ready []) st tt h).says

pub run_good : (bs : List ℕ) (st : State) → run start bs ≡ Some st → Good st
run_good bs st h = (run_says bs (Ready []) st tt h).good

-- some text begins with what the machine takes
pub begins : (bs : List ℕ) (st : State) → run start bs ≡ Some st → BeginsText bs
begins bs st h =
    let g : CanBeWhole (Some st) = can_be_whole st (run_good bs st h) in
    (g.rest, (g.tree, run_front (bs ++ g.rest) (Whole g.tree) (run_append start bs g.rest ∙ ap (λ o. run o g.rest) h ∙ g.whole)))

-- what the machine doesn't take begins no text
pub no_text : (bs : List ℕ) → run start bs ≡ None → BeginsText bs → ⊥
no_text bs h t =
    let e : run start (bs ++ t.0) ≡ None = run_append start bs t.0 ∙ ap (λ o. run o t.0) h ∙ run_none t.0 in
    nothing (sym e ∙ ap (run start) t.1.1 ∙ text_run t.1.0)

pub whole_text : (bs : List ℕ) (t : IsText bs) → run start bs ≡ Some (Whole t.0)
whole_text bs t = ap (run start) t.1 ∙ text_run t.0

-- no text is a proper prefix of another
pub ends_once : (t u : Value) (x : List ℕ) → text_of t ++ x ≡ text_of u → x ≡ []
ends_once t u [] h = refl
ends_once t u (b ∷ x) h =
    let e : run start (text_of t ++ b ∷ x) ≡ None = run_append start (text_of t) (b ∷ x) ∙ ap (λ o. run o (b ∷ x)) (text_run t) ∙ run_none x in
    nothing (sym e ∙ ap (run start) h ∙ text_run u)

-- a text names one tree
pub one_tree : (t u : Value) → text_of t ≡ text_of u → t ≡ u
one_tree t u h = let e : Some (Whole t) ≡ Some (Whole u) = sym (text_run t) ∙ ap (run start) h ∙ text_run u in cc
