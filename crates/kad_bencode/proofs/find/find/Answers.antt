use Rattle.std.proofs.Common.{ap, ◌∙◌, option_map, refl, ◌≡◌, true, false}
use Rattle.kad_bencode.specs.Spelling.{text_of}
use Rattle.kad_bencode.proofs.Looking.{found_here, found_later, never_short, nothing_left}
use Rattle.kad_bencode.proofs.find.find.Goals as goal

not_so : false ≡ true → ⊥
not_so e = cc

pub returns-then-same : goal.returns-then-same
returns-then-same c ps a =
    let i = c.loop-rest.invariant ps a in
    found_here c.loop-rest.rest.now c.args.key.now c.in-Some.name.now c.in-Some.text.now c.in-Some.others.now c.loop-rest-test.true c.in-Some.ensures.reads i.0 i.1 (c.if-same.ensures.0 refl) ∙ ap (option_map text_of) i.2

pub loop-rest-preserved : goal.loop-rest-preserved
loop-rest-preserved c ps a =
    let i = c.loop-rest.invariant ps a in
    let r = found_later c.loop-rest.rest.now c.args.key.now c.in-Some.name.now c.in-Some.text.now c.in-Some.others.now c.loop-rest-test.true c.in-Some.ensures.reads i.0 i.1 (λ e. not_so (c.if-same.ensures.1 e)) in
    (r.0, r.1, r.2 ∙ i.2)

pub returns-in-None : goal.returns-in-None
returns-in-None c ps a = let i = c.loop-rest.invariant ps a in absurd (never_short c.loop-rest.rest.now c.loop-rest-test.true c.in-None.ensures.reads i.0 i.1)

pub returns : goal.returns
returns c ps a = let i = c.loop-rest.invariant ps a in nothing_left c.loop-rest.rest.now c.args.key.now (c.loop-rest-test.false) i.0 i.1 ∙ ap (option_map text_of) i.2
