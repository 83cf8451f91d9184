use Rattle.std.proofs.Common.{◌+◌, ◌-◌, ℕ, List, take, drop, Option, Some, None, IfSome, refl, arith}
use Rattle.kad_bencode.specs.Faults.{Open}
use Rattle.kad_bencode.specs.Machine.{AsValue, Awaits, ReadsString, ReadsValue}
use Rattle.kad_bencode.proofs.Nested.{awaits_text, text_value}
use Rattle.kad_bencode.proofs.verify.text_end.Goals as goal

-- a string that a value may be is one
as_value : (bytes : List ℕ) (at : ℕ) (os : List Open) (r : Option ℕ) → Awaits bytes at os
    → IfSome r (λ next. ReadsString bytes at (AsValue os) (take (next - (at + 2)) (drop (at + 2) bytes)) next)
    → IfSome r (ReadsValue bytes at os)
as_value bytes at os None a h = tt
as_value bytes at os (Some next) a h = text_value bytes at os _ next a h

pub returns-then-has_digit-clause-reads : goal.returns-then-has_digit-clause-reads
returns-then-has_digit-clause-reads c os a =
    let low = c.if-has_digit.ensures.least refl in
    let high = c.if-has_digit.ensures.most refl in
    let await = awaits_text c.args.bytes.now c.args.at os a (λ w e. omega (arith, low, high, e)) (λ w e. omega (arith, low, high, e)) (λ w e. omega (arith, low, high, e)) in
    as_value c.args.bytes.now c.args.at os _ a (c.short_end.ensures.reads (AsValue os) await)
