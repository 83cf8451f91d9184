use Rattle.std.proofs.Common.{◌≡◌, ◌++◌, take, drop, sym, ap, ◌∙◌}
use Rattle.kad_bencode.specs.declared.value.Value.TheVariants.{Dict}
use Rattle.kad_bencode.proofs.Added.{ascending}
use Rattle.kad_bencode.proofs.Forming.{whole_mid}
use Rattle.kad_bencode.proofs.Ordered.{spelled_fits}
use Rattle.kad_bencode.proofs.written.without_in.Goals as goal

pub returns : goal.returns
returns c ps v s h =
    let one = c.as_slice.ensures.value in
    let two : c.as_slice-2.result.now ≡ c.as_slice.result.now = c.as_slice-2.ensures.value ∙ sym one in
    let three : c.as_slice-3.result.now ≡ c.as_slice.result.now = c.as_slice-3.ensures.value ∙ sym one in
    let cut = c.pair_in-from.ensures.parts ps v (one ∙ c.in_ok-whole.ensures (Dict ps) s) (spelled_fits c.args.bytes.now (Dict ps) s) (ascending c.args.bytes.now ps s) h in
    let front = c.in_ok-text.ensures.items ∙ ap (take c.pair_in-from.result.0) two in
    c.from_vec.ensures ∙ c.in_ok-extend_from_slice.ensures.items ∙ (λ i. front i ++ (whole_mid c.pair_in-from.result.1 c.as_slice-3.result.now ∙ ap (drop c.pair_in-from.result.1) three) i) ∙ sym cut
