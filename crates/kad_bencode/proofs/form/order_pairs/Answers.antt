use Rattle.std.proofs.Common.{◌≡◌, [], sym, ap, ◌∙◌, subst}
use Rattle.std.specs.List.{flat_map}
use Rattle.kad_bencode.specs.Faults.{pairs_of}
use Rattle.kad_bencode.specs.Spelling.{pairs_text}
use Rattle.kad_bencode.specs.Finding.{ArePairs}
use Rattle.kad_bencode.specs.Forming.{row_text}
use Rattle.kad_bencode.proofs.Forming.{in_place}
use Rattle.kad_bencode.proofs.Ordered.{put_all_ascending}
use Rattle.kad_bencode.proofs.Putting.{puts_same}
use Rattle.kad_bencode.proofs.form.order_pairs.Goals as goal

pub returns : goal.returns
returns c ps a z h =
    let same : c.as_slice.result.now ≡ c.args.pairs.now = c.as_slice.ensures.value ∙ c.in_ok-copy.ensures.items in
    in_place c.in_ok-rows.rows.items c.sort_rows.new.rows.items ps a h (c.in_ok-rows.ensures ps (subst (λ l. ArePairs l ps) (sym same) a) z) c.sort_rows.ensures.moved c.sort_rows.ensures.sorted
    (puts_same (ap (flat_map row_text) (sym c.as_slice-2.ensures.value)) c.put_rows-end.ensures)

pub returns-then-ascend : goal.returns-then-ascend
returns-then-ascend c ps a z h = a.text ∙ ap (λ l. pairs_text (pairs_of l)) (sym (put_all_ascending [] ps (c.ascend.ensures ps a z c.if-ascend.true)))
