use Rattle.std.proofs.Common.{ℕ, ◌≡◌, ◌*◌, ◌/◌, ◌+◌, ap, ◌∙◌, arith, below_more}
use Rattle.std.proofs.lemmas.Grind.{common_steps}
use Rattle.id_puzzles.specs.Drawn.{WordsState}
use Rattle.id_puzzles.proofs.Drawing.{key_drawn, key_tested}
use Rattle.id_puzzles.proofs.minting.first_key.Goals as goal

pub returns-then-solves_static-clause-some : goal.returns-then-solves_static-clause-some
returns-then-solves_static-clause-some c =
    let is_key = key_drawn c.args.seed.now c.loop.counter c.loop.words c.loop.key c.fill.new.bytes c.loop.invariant.words c.loop.invariant.len c.fill.ensures.bytes in
    let test = key_tested c.args.seed.now c.args.bits c.loop.counter c.fill.new.bytes c.digest.result is_key c.digest.ensures in
    record {
      number = c.loop.counter;
      is_key = is_key;
      in_tries = c.loop-test.true;
      solves = test.0 (c.solves_static.ensures.0 c.if-solves_static.true);
      none_before = c.loop.invariant.none_before;
    }

pub returns-then-solves_static-clause-none : goal.returns-then-solves_static-clause-none
returns-then-solves_static-clause-none c =
    let is_key = key_drawn c.args.seed.now c.loop.counter c.loop.words c.loop.key c.fill.new.bytes c.loop.invariant.words c.loop.invariant.len c.fill.ensures.bytes in
    let test = key_tested c.args.seed.now c.args.bits c.loop.counter c.fill.new.bytes c.digest.result is_key c.digest.ensures in
    (λ e. absurd cc, λ none_of. absurd (none_of c.loop.counter c.loop-test.true (test.0 (c.solves_static.ensures.0 c.if-solves_static.true))))

pub loop-preserved : goal.loop-preserved
loop-preserved c =
    let seed = c.args.seed.now in
    let is_key = key_drawn seed c.loop.counter c.loop.words c.loop.key c.fill.new.bytes c.loop.invariant.words c.loop.invariant.len c.fill.ensures.bytes in
    let test = key_tested seed c.args.bits c.loop.counter c.fill.new.bytes c.digest.result is_key c.digest.ensures in
    let next : 8 * c.loop.counter + 32 / 4 ≡ 8 * (c.loop.counter + 1) = omega arith in
    record {
      words = c.fill.ensures.place ∙ ap (λ (n : ℕ). record c.loop.words { place = c.loop.words.place + n / 4 }) c.loop.invariant.len
          ∙ ap (λ (d : WordsState). record d { place = d.place + 32 / 4 }) c.loop.invariant.words ∙ ap (λ (n : ℕ). record { seed = seed; place = n }) next;
      len = grind (arith, common_steps);
      none_before = below_more _ _ c.loop.invariant.none_before (λ here. let found = c.solves_static.ensures.1 (test.1 here) in absurd cc);
    }
