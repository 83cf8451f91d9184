use Rattle.std.proofs.Common.{ℕ, ◌-◌, List, ◌++◌, length, sym, subst}
use borrow.Rule.Slice.PartMut.{mid_of}
use Rattle.kad_bencode.specs.Faults.{pairs_of}
use Rattle.kad_bencode.specs.Finding.{ArePairs}
use Rattle.kad_bencode.specs.Spelling.{pairs_text, text_of}
use Rattle.kad_bencode.proofs.Looking.{pair_text}
use Rattle.kad_bencode.proofs.Forming.{cut_there, cut_within, whole_mid}
use Rattle.kad_bencode.proofs.form.cut_pair.Goals as goal

pub returns-then-size-behind : goal.returns-then-size-behind
returns-then-size-behind c p ps a z =
    let r = c.in-Some.ensures.reads p.key (text_of p.value ++ pairs_text (pairs_of ps)) (pair_text c.args.pairs.now p ps a) in
    absurd (cut_within c.args.pairs.now _ p ps a c.in-Some.from c.args.size r.1 z (whole_mid c.in-Some.from c.args.pairs.now) c.if-size-behind.true)

pub returns-else-size-behind : goal.returns-else-size-behind
returns-else-size-behind c p ps a z =
    let r = c.in-Some.ensures.reads p.key (text_of p.value ++ pairs_text (pairs_of ps)) (pair_text c.args.pairs.now p ps a) in
    let behind : List ℕ = mid_of c.in-Some.from (length c.args.pairs.now - c.in-Some.from) c.args.pairs.now in
    let t = cut_there c.args.pairs.now behind p ps a c.in-Some.from c.args.size r.1 z (whole_mid c.in-Some.from c.args.pairs.now) in
    (r.0, t.0, subst (λ l. ArePairs l ps) (sym (whole_mid c.args.size behind)) t.1)

pub returns-in-None : goal.returns-in-None
returns-in-None c p ps a z = absurd (c.in-None.ensures.reads p.key (text_of p.value ++ pairs_text (pairs_of ps)) (pair_text c.args.pairs.now p ps a))
