use Rattle.std.proofs.Common.{arith, refl}
use Rattle.kad_bencode.proofs.Parting.{inner_long, inner_pairs}
use Rattle.kad_bencode.proofs.Cutting.{cut_out, found, pairs_there, size_fits}
use Rattle.kad_bencode.proofs.written.pair_in.Goals as goal

pub returns-then-form-lt2-clause-parts : goal.returns-then-form-lt2-clause-parts
returns-then-form-lt2-clause-parts c ps v e f a h = absurd (let l = inner_long c.args.form.now c.args.key.now ps e in omega (arith, l, c.if-form-lt2.true))

pub returns-in-Some-clause-parts : goal.returns-in-Some-clause-parts
returns-in-Some-clause-parts c ps v e f a h =
    let form = c.args.form.now in
    let key = c.args.key.now in
    let size = c.length_behind.result in
    let parted = c.length_behind.ensures.parts ps (inner_pairs form key ps e _ (omega arith) f) in
    let its = found form key ps v e f a h size parted in
    let r = c.in-Some.ensures.reads its.0 its.1 (pairs_there form key ps v e f a h size parted _ _ refl (size_fits form key ps v e f a h size parted)) in
    cut_out form key ps v e f a h size parted _ _ c.in-Some.others.now refl r.2 refl

pub returns-in-None-clause-parts : goal.returns-in-None-clause-parts
returns-in-None-clause-parts c ps v e f a h =
    let form = c.args.form.now in
    let key = c.args.key.now in
    let size = c.length_behind.result in
    let parted = c.length_behind.ensures.parts ps (inner_pairs form key ps e _ (omega arith) f) in
    absurd (c.in-None.ensures.reads _ _ (pairs_there form key ps v e f a h size parted _ _ refl (size_fits form key ps v e f a h size parted)))
