use Rattle.std.proofs.Common.{rules}
use Rattle.std.proofs.lemmas.Cmp.{nat_list_cmp_total}
use Rattle.std.proofs.lemmas.List.Sorted.{IsPermutation-trans, answers_always, ranks_by}
use Rattle.kad_bencode.specs.Forming.{comes_before}
use Rattle.kad_bencode.specs.declared.form.Row.{Row}
use Rattle.kad_bencode.proofs.form.sort_rows.Goals as goal

pub returns-clause-sorted : goal.returns-clause-sorted
returns-clause-sorted c =
    c.sort_unstable_by.ensures.sorted comes_before (ranks_by nat_list_cmp_total (λ (r : Row). r.key.now)) (answers_always _ _ _ (λ f a r g h. search rules))

pub returns-clause-moved : goal.returns-clause-moved
returns-clause-moved c = IsPermutation-trans _ _ _ c.sort_unstable_by_key.ensures.permutation c.sort_unstable_by.ensures.permutation
