use Rattle.std.proofs.Common.{arith, drop, take, length, [], ◌-◌, ◌≡◌, ◌∙◌, ◌++◌}
use Rattle.std.proofs.lemmas.List.{length-drop, take_all}
use Rattle.kad_bencode.specs.Machine.{AsValue}
use Rattle.kad_bencode.specs.Spelling.{string_text}
use Rattle.kad_bencode.proofs.Filing.{stands_inside}
use Rattle.kad_bencode.proofs.Looking.{awaits_front, string_front}
use Rattle.kad_bencode.proofs.filed.key_at.Goals as goal

pub returns-then-place-bytes : goal.returns-then-place-bytes
returns-then-place-bytes c key s = absurd
    (stands_inside c.args.bytes.now c.args.place key s
    (let h = c.if-place-bytes.true in omega (arith, h)))

pub returns-in-Some : goal.returns-in-Some
returns-in-Some c key s =
    let n = length c.args.bytes.now - c.args.place in
    let behind = drop c.args.place c.args.bytes.now in
    let d = length-drop c.args.place c.args.bytes.now in
    let e : take n behind ≡ string_text key ++ s.0 = take_all n behind (omega (arith, d)) ∙ s.1 in
    (string_front (take n behind) key s.0 e _ c.in-Some.next (c.in-Some.ensures.reads (AsValue []) (awaits_front (take n behind) key s.0 e))).0
