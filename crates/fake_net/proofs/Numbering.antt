-- Lists of the numbers below n, one number more.
use Rattle.std.proofs.Common.{◌≡◌, ℕ, zero, suc, ◌+◌, ◌<◌, ◌≤◌, List, [], ◌∷◌, ◌++◌, length, Bool, true, false, cond, refl, sym, ap, ◌∙◌, arith}
use Rattle.std.specs.Prelude.{filter, map}
use Rattle.std.specs.List.{range_with_len}
use Rattle.std.proofs.lemmas.List.{length-append, map-append, append-nil}
use Rattle.std.proofs.lemmas.List.Elements.{filter-append}
use Rattle.std.proofs.lemmas.List.FromFn.{map-range_with_len_more}
use Rattle.fake_net.specs.Network.{numbers}

range_more : (a n : ℕ) → range_with_len a (suc n) ≡ range_with_len a n ++ (a + n) ∷ []
range_more a zero = let e : a ≡ a + 0 = omega arith in ap (λ (x : ℕ). x ∷ []) e
range_more a (suc n) =
    let e : a + 1 + n ≡ a + suc n = omega arith in
    ap (λ (l : List ℕ). a ∷ l) (range_more (a + 1) n)
    ∙ ap (λ (x : ℕ). a ∷ (range_with_len (a + 1) n ++ x ∷ [])) e

pub numbers_more : (n : ℕ) → numbers (n + 1) ≡ numbers n ++ n ∷ []
numbers_more n =
    let e : n + 1 ≡ suc n = omega arith in
    let z : 0 + n ≡ n = omega arith in
    ap (λ (m : ℕ). range_with_len 0 m) e ∙ range_more 0 n ∙ ap (λ (x : ℕ). range_with_len 0 n ++ x ∷ []) z

pub filter_more : (p : ℕ → Bool) (n : ℕ) → filter p (numbers (n + 1)) ≡ filter p (numbers n) ++ cond (p n) (n ∷ []) []
filter_more p n = ap (λ (l : List ℕ). filter p l) (numbers_more n) ∙ filter-append p (numbers n) (n ∷ [])

pub filter_one : (p : ℕ → Bool) (n : ℕ) → p n ≡ true → filter p (numbers (n + 1)) ≡ filter p (numbers n) ++ n ∷ []
filter_one p n e = filter_more p n ∙ ap (λ (b : Bool). filter p (numbers n) ++ cond b (n ∷ []) []) e

pub filter_none : (p : ℕ → Bool) (n : ℕ) → p n ≡ false → filter p (numbers (n + 1)) ≡ filter p (numbers n)
filter_none p n e =
    filter_more p n ∙ ap (λ (b : Bool). filter p (numbers n) ++ cond b (n ∷ []) []) e ∙ append-nil (filter p (numbers n))

pub count_one : (p : ℕ → Bool) (n : ℕ) → p n ≡ true → length (filter p (numbers (n + 1))) ≡ length (filter p (numbers n)) + 1
count_one p n e = ap (λ (l : List ℕ). length l) (filter_one p n e) ∙ length-append (filter p (numbers n)) (n ∷ [])

pub count_none : (p : ℕ → Bool) (n : ℕ) → p n ≡ false → length (filter p (numbers (n + 1))) ≡ length (filter p (numbers n))
count_none p n e = ap (λ (l : List ℕ). length l) (filter_none p n e)

-- what is made of the numbers that pass, one number more
pub made_one : {A : Type 0} (f : ℕ → A) (p : ℕ → Bool) (n : ℕ) → p n ≡ true
    → map f (filter p (numbers (n + 1))) ≡ map f (filter p (numbers n)) ++ f n ∷ []
made_one f p n e = ap (λ (l : List ℕ). map f l) (filter_one p n e) ∙ map-append f (filter p (numbers n)) (n ∷ [])

pub made_none : {A : Type 0} (f : ℕ → A) (p : ℕ → Bool) (n : ℕ) → p n ≡ false
    → map f (filter p (numbers (n + 1))) ≡ map f (filter p (numbers n))
made_none f p n e = ap (λ (l : List ℕ). map f l) (filter_none p n e)

-- a test that the first r numbers pass, and no other, is passed by r of at least r numbers
all_pass : (p : ℕ → Bool) (r n : ℕ) → ((m : ℕ) → m < r → p m ≡ true) → n ≤ r → length (filter p (numbers n)) ≡ n
all_pass p r zero passes le = refl
all_pass p r (suc n) passes le =
    let e : suc n ≡ n + 1 = omega arith in
    let lt : n < r = omega arith in
    let before : length (filter p (numbers n)) ≡ n = all_pass p r n passes (omega arith) in
    ap (λ (m : ℕ). length (filter p (numbers m))) e ∙ count_one p n (passes n lt) ∙ ap (λ (m : ℕ). m + 1) before ∙ sym e

pub whole_passes : (p : ℕ → Bool) (r : ℕ) → ((m : ℕ) → m < r → p m ≡ true) → length (filter p (numbers r)) ≡ r
whole_passes p r passes = all_pass p r r passes (omega arith)

pub front_passes : (p : ℕ → Bool) (r more : ℕ) → ((m : ℕ) → m < r → p m ≡ true) → ((m : ℕ) → r ≤ m → p m ≡ false)
    → length (filter p (numbers (r + more))) ≡ r
front_passes p r zero passes fails =
    let e : r + 0 ≡ r = omega arith in
    ap (λ (m : ℕ). length (filter p (numbers m))) e ∙ all_pass p r r passes (omega arith)
front_passes p r (suc more) passes fails =
    let e : r + suc more ≡ r + more + 1 = omega arith in
    let le : r ≤ r + more = omega arith in
    ap (λ (m : ℕ). length (filter p (numbers m))) e ∙ count_none p (r + more) (fails (r + more) le) ∙ front_passes p r more passes fails

-- a list that is made number by number
pub mapped_one : {A : Type 0} (f : ℕ → A) (n : ℕ) (old new : List A) (x : A) → old ≡ map f (numbers n) → x ≡ f n → new ≡ old ++ x ∷ []
    → new ≡ map f (numbers (n + 1))
mapped_one {A} f n old new x was here is =
    let z : 0 + n ≡ n = omega arith in
    is
    ∙ ap (λ (l : List A). l ++ x ∷ []) was
    ∙ ap (λ (y : A). map f (numbers n) ++ y ∷ []) here
    ∙ sym (map-range_with_len_more f 0 n n z)
