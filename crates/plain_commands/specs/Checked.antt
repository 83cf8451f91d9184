-- What `check` says of the contact lines of an input: which reports pass the policy (S/Kademlia, 2007, section 4.1). Its
-- lines are this project's own.
use Rattle.std.specs.Prelude.{◌≡◌, ◌↔◌, ℕ, List, ◌++◌, length, codes, decimal, filter, flat_map, Bool, true, false, IsTrue}
use Rattle.std.specs.List.{AllZip}
use Rattle.kad_base.specs.declared.types.Report.{Report}
use Rattle.kad_base.specs.declared.types.Policy.{Policy}
use Rattle.kad_base.specs.Puzzles.{Passes}
use Rattle.command_base.specs.Shown.{Shown}
use Rattle.command_base.specs.Input.{Lists}
use Rattle.command_base.specs.Printed.{line_of}
use Rattle.command_base.specs.Promise.{Promise, judge_aim, reading}

-- whether the report passes
abbrev pub Judges : Policy → Report → Bool → Type 0
Judges policy report verdict = IsTrue verdict ↔ Passes policy report

-- of a report that passes, and of one that doesn't
abbrev pub verdict_text : Bool → List ℕ
verdict_text true = codes "pass"
verdict_text false = codes "fail"

-- the last line: how many passed of how many
abbrev pub passed_text : ℕ → ℕ → List ℕ
passed_text passed all = codes "passed " ++ decimal passed ++ codes " of " ++ decimal all

-- how many verdicts are that the report passes
abbrev pub passed_of : List Bool → ℕ
passed_of verdicts = length (filter (λ verdict. verdict) verdicts)

-- a line for each verdict, in order, and the last line
abbrev pub verdicts_printed : List Bool → List ℕ
verdicts_printed verdicts =
    flat_map (λ verdict. line_of (verdict_text verdict)) verdicts
    ++ line_of (passed_text (passed_of verdicts) (length verdicts))

-- the text has a verdict for each report, in order
pub record CheckPrinted (policy : Policy) (reports : List Report) (text : List ℕ) : Type 0 where
  pub verdicts : List Bool
  pub each : AllZip (Judges policy) reports verdicts
  pub text_is : text ≡ verdicts_printed verdicts

-- the text has a verdict for each contact line of the input
pub record CheckText (policy : Policy) (source : Shown ℕ) (text : List ℕ) : Type 0 where
  pub reports : List Report
  pub lists : Lists source reports
  pub printed : CheckPrinted policy reports text

abbrev pub check_promise : Policy → Promise
check_promise policy = reading (judge_aim (Unit {0}) (λ random source text. CheckText policy source text))
