use Rattle.std.proofs.Common.{ap, Ok, Err, IsOk, ◌≡◌, true, false, Result}
use Rattle.kad_bencode.proofs.Pieces.{named_is, names_itself}
use Rattle.kad_bencode.proofs.piece.Piece.parse.Goals as goal

never_ok : (A : Type 0) {E : Type 0} (e : E) → IsOk {T = A} (Err e) → ⊥
never_ok A e h = let f : false ≡ true = h in cc

no_fault : {A E : Type 0} {x : A} {e : E} → ◌≡◌ {A = Result A E} (Ok x) (Err e) → ⊥
no_fault h = cc

same_fault : {A B E : Type 0} {x y : E} → ◌≡◌ {A = Result A E} (Err x) (Err y) → ◌≡◌ {A = Result B E} (Err x) (Err y)
same_fault h = cc

pub invariant_of-result : goal.invariant_of-result
invariant_of-result c = let v = c.in-Ok.ensures.spells in names_itself c.args.bytes.now v.0 v.1

pub returns-in-Ok-clause-spells : goal.returns-in-Ok-clause-spells
returns-in-Ok-clause-spells c = let v = c.in-Ok.ensures.spells in names_itself c.args.bytes.now v.0 v.1

pub returns-in-Ok-clause-only : goal.returns-in-Ok-clause-only
returns-in-Ok-clause-only c v s = ap Ok (named_is c.args.bytes.now v s)

pub returns-in-Ok-clause-refused : goal.returns-in-Ok-clause-refused
returns-in-Ok-clause-refused c bad f = absurd (no_fault (c.in-Ok.ensures.refused bad f))

pub returns-in-Err-clause-only : goal.returns-in-Err-clause-only
returns-in-Err-clause-only c v s = absurd (never_ok (Unit {0}) c.in-Err.bad (c.in-Err.ensures.only v s))

pub returns-in-Err-clause-refused : goal.returns-in-Err-clause-refused
returns-in-Err-clause-refused c bad f = same_fault (c.in-Err.ensures.refused bad f)
