-- A number has one spelling, which `parse` reads.
use Rattle.std.proofs.Common.{◌≡◌, ℕ, ◌^◌, ◌<◌, ◌≤◌, Bool, true, false, nat_eq, List, Option, Some, Result, Ok, MatchOption, sym, ap, ◌∙◌, arith}
use Rattle.std.specs.Prelude.{decimal}
use Rattle.std.specs.Bool.{then_some}
use Rattle.std.specs.Result.{result_ok}
use Rattle.std.specs.Str.Parse.{ParsesUnsigned}
use Rattle.std.specs.Cmp.Lexicographic.{told_text}
use Rattle.std.proofs.lemmas.Fmt.{parse-decimal}
use lib.Pointwise.{pointwise}
use Rattle.kad_text.specs.Text.{SpellsNumber}

pub spelled_parses : {E : Type 0} (least most : ℕ) (text : List ℕ) (r : Result ℕ E) (n : ℕ) → most < 2 ^ 32 → ParsesUnsigned 32 10 text r → SpellsNumber least most text n → r ≡ Ok n
spelled_parses least most text r n fits h s =
    let below = s.below in
    parse-decimal 32 n text r (omega arith) (omega arith) s.digits h

-- what was parsed is the number that is spelled
pub spelled_is : {E : Type 0} (least most : ℕ) (text : List ℕ) (r : Result ℕ E) (o : Option ℕ) (n : ℕ) → most < 2 ^ 32 → ParsesUnsigned 32 10 text r → result_ok r ≡ o → SpellsNumber least most text n → o ≡ Some n
spelled_is least most text r o n fits h e s = sym e ∙ ap result_ok (spelled_parses least most text r n fits h s)

pub number_cases : {E : Type 0} (least most m : ℕ) (text shown : List ℕ) (b : Bool) (r : Result ℕ E) → most < 2 ^ 32 → ParsesUnsigned 32 10 text r
    → result_ok r ≡ Some m → least ≤ m → m ≤ most → shown ≡ decimal m → b ≡ pointwise nat_eq shown text
    → MatchOption (then_some b m) ((n : ℕ) → SpellsNumber least most text n → ⊥) (λ n. SpellsNumber least most text n)
number_cases least most m text shown true r fits h e low high is same =
    record { digits = sym (told_text shown text true same) ∙ is; above = low; below = high }
number_cases least most m text shown false r fits h e low high is same = λ n s.
    let one : n ≡ m = (let o = spelled_is least most text r (Some m) n fits h e s in cc) in
    told_text shown text false same (is ∙ ap decimal (sym one) ∙ sym s.digits)
