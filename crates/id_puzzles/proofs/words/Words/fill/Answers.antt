use Rattle.std.proofs.Common.{ℕ, ◌≡◌, ◌*◌, ◌≤◌, ◌+◌, length, refl, sym, ap, ◌∙◌, arith}
use Rattle.std.proofs.lemmas.Grind.{common_steps}
use Rattle.kad_base.specs.Words.{word}
use Rattle.id_puzzles.specs.Drawn.{WordsState}
use Rattle.id_puzzles.proofs.Drawing.{drawn_bytes-none, drawn_bytes-written}
use Rattle.id_puzzles.proofs.words.Words.fill.Goals as goal

pub loop-i-init : goal.loop-i-init
loop-i-init c =
    let start : c.args.self.now.place ≡ c.args.self.now.place + 0 = omega arith in
    record {
      len = refl;
      words = ap (λ (n : ℕ). record c.args.self.now { place = n }) start;
      drawn = sym (drawn_bytes-none c.args.self.now.seed c.args.self.now.place);
    }

pub loop-i-preserved : goal.loop-i-preserved
loop-i-preserved c =
    let from = c.args.self.now in
    let i = c.loop-i.i in
    let room : 4 * i ≤ length c.loop-i.bytes = omega (arith, c.loop-i.invariant.len) in
    let here : c.next.result ≡ word from.seed (from.place + i) = c.next.ensures.value ∙ ap (λ (d : WordsState). word d.seed d.place) c.loop-i.invariant.words in
    let next : from.place + i + 1 ≡ from.place + (i + 1) = omega arith in
    record {
      len = grind (arith, common_steps);
      words = c.next.ensures.place ∙ ap (λ (d : WordsState). record d { place = d.place + 1 }) c.loop-i.invariant.words ∙ ap (λ (n : ℕ). record from { place = n }) next;
      drawn = drawn_bytes-written from.seed from.place i _ c.next.result c.loop-i.bytes c.copy_from_slice.new.self c.loop-i.invariant.drawn room here (c.copy_from_slice.ensures.after ∙ c.to_le_bytes.ensures);
    }
