use Rattle.std.proofs.Common.{◌≡◌, ◌<◌, ◌≤◌, vec_len, List, ◌+◌, ◌++◌, sym, ap, subst, ◌∙◌, arith}
use Rattle.kad_base.specs.declared.types.Contact.{Contact}
use Rattle.kad_distance.specs.KClosest.{k_closest}
use Rattle.bucket_tree.specs.Rows.{live_of}
use Rattle.bucket_tree.specs.declared.node.Node.{Node}
use Rattle.bucket_tree.specs.Trees.{rows_of}
use Rattle.bucket_tree.proofs.Ways.{hangs_short, falls}
use Rattle.kad_distance.proofs.Stays.{closest_full}
use Rattle.bucket_tree.proofs.Stops.{closest_swapped, closest_in_turn}
use Rattle.bucket_tree.proofs.Gathered.{Ready, low_ready, high_ready, low_closer, high_closer, low_nearer, high_nearer, then_closer, gathered_sorted, gathered_few, fork_lives}
use Rattle.bucket_tree.proofs.nearest.+gather.Goals as goal

pub returns-then-len-k-clause-items : goal.returns-then-len-k-clause-items
returns-then-len-k-clause-items t c = closest_full c.args.target.now c.args.k c.args.near.now.items (live_of (rows_of c.args.node.now)) c.requires.sorted (grind (arith, c.len.ensures, c.if-len-k.true)) c.requires.closer

pub bit-requires : goal.bit-requires
bit-requires t c = hangs_short c.args.at c.args.node.now _ _ _ _ c.in-Fork.is c.requires.hangs c.requires.short

pub overflow_add-at : goal.overflow_add-at
overflow_add-at t c = let lt : c.args.at < 160 = hangs_short c.args.at c.args.node.now _ _ _ _ c.in-Fork.is c.requires.hangs c.requires.short in grind (arith, lt)

pub overflow_add-at-then-bit : goal.overflow_add-at-then-bit
overflow_add-at-then-bit t c = let lt : c.args.at < 160 = hangs_short c.args.at c.args.node.now _ _ _ _ c.in-Fork.is c.requires.hangs c.requires.short in grind (arith, lt)

pub overflow_add-at-else-bit : goal.overflow_add-at-else-bit
overflow_add-at-else-bit t c = let lt : c.args.at < 160 = hangs_short c.args.at c.args.node.now _ _ _ _ c.in-Fork.is c.requires.hangs c.requires.short in grind (arith, lt)

pub overflow_add-at-else-bit-2 : goal.overflow_add-at-else-bit-2
overflow_add-at-else-bit-2 t c = let lt : c.args.at < 160 = hangs_short c.args.at c.args.node.now _ _ _ _ c.in-Fork.is c.requires.hangs c.requires.short in grind (arith, lt)

pub gather-requires : goal.gather-requires
gather-requires t c =
    let lt = hangs_short c.args.at c.args.node.now _ _ _ _ c.in-Fork.is c.requires.hangs c.requires.short in
    let target = c.args.target.now in
    let S = c.args.near.now.items in
    let near = high_closer target S c.args.node.now _ _ _ _ c.in-Fork.is c.requires.closer in
    let q = high_ready target S c.args.at c.args.node.now _ _ _ _ c.in-Fork.is c.requires.hangs c.requires.short c.requires.tidy near in
    let r = subst (Ready target S (c.args.at + 1)) (sym c.deref-then-bit.ensures) q in
    (falls c.args.at _ lt c.decreases, (r.0, (r.1.0, (r.1.1.0, (r.1.1.1, (c.requires.sorted, (c.requires.few, c.requires.room)))))))

pub gather-requires-then-bit : goal.gather-requires-then-bit
gather-requires-then-bit t c =
    let lt = hangs_short c.args.at c.args.node.now _ _ _ _ c.in-Fork.is c.requires.hangs c.requires.short in
    let target = c.args.target.now in
    let k = c.args.k in
    let S = c.args.near.now.items in
    let N = c.gather.new.near.items in
    let is : N ≡ k_closest target k (S ++ live_of (rows_of c.in-Fork.high.value)) = c.gather.ensures.items ∙ ap (λ (n : Node). k_closest target k (S ++ live_of (rows_of n))) c.deref-then-bit.ensures in
    let before = low_closer target S c.args.node.now _ _ _ _ c.in-Fork.is c.requires.closer in
    let between = high_nearer target c.args.at c.args.node.now _ _ _ _ c.in-Fork.is c.requires.hangs c.requires.tidy (sym c.if-bit.true ∙ c.bit.ensures) in
    let closer = then_closer target k S (live_of (rows_of c.in-Fork.high.value)) (live_of (rows_of c.in-Fork.low.value)) N is before between in
    let q = low_ready target N c.args.at c.args.node.now _ _ _ _ c.in-Fork.is c.requires.hangs c.requires.short c.requires.tidy closer in
    let r = subst (Ready target N (c.args.at + 1)) (sym c.deref-then-bit-2.ensures) q in
    let few : vec_len c.gather.new.near ≤ k = (let le = gathered_few target k _ N is in grind (arith, le)) in
    (falls c.args.at _ lt c.decreases, (r.0, (r.1.0, (r.1.1.0, (r.1.1.1, (gathered_sorted target k _ N is, (few, c.gather.ensures.room)))))))

pub gather-requires-else-bit : goal.gather-requires-else-bit
gather-requires-else-bit t c =
    let lt = hangs_short c.args.at c.args.node.now _ _ _ _ c.in-Fork.is c.requires.hangs c.requires.short in
    let target = c.args.target.now in
    let S = c.args.near.now.items in
    let near = low_closer target S c.args.node.now _ _ _ _ c.in-Fork.is c.requires.closer in
    let q = low_ready target S c.args.at c.args.node.now _ _ _ _ c.in-Fork.is c.requires.hangs c.requires.short c.requires.tidy near in
    let r = subst (Ready target S (c.args.at + 1)) (sym c.deref-else-bit.ensures) q in
    (falls c.args.at _ lt c.decreases, (r.0, (r.1.0, (r.1.1.0, (r.1.1.1, (c.requires.sorted, (c.requires.few, c.requires.room)))))))

pub gather-requires-else-bit-2 : goal.gather-requires-else-bit-2
gather-requires-else-bit-2 t c =
    let lt = hangs_short c.args.at c.args.node.now _ _ _ _ c.in-Fork.is c.requires.hangs c.requires.short in
    let target = c.args.target.now in
    let k = c.args.k in
    let S = c.args.near.now.items in
    let N = c.gather-else-bit.new.near.items in
    let is : N ≡ k_closest target k (S ++ live_of (rows_of c.in-Fork.low.value)) = c.gather-else-bit.ensures.items ∙ ap (λ (n : Node). k_closest target k (S ++ live_of (rows_of n))) c.deref-else-bit.ensures in
    let before = high_closer target S c.args.node.now _ _ _ _ c.in-Fork.is c.requires.closer in
    let between = low_nearer target c.args.at c.args.node.now _ _ _ _ c.in-Fork.is c.requires.hangs c.requires.tidy (sym c.if-bit.false ∙ c.bit.ensures) in
    let closer = then_closer target k S (live_of (rows_of c.in-Fork.low.value)) (live_of (rows_of c.in-Fork.high.value)) N is before between in
    let q = high_ready target N c.args.at c.args.node.now _ _ _ _ c.in-Fork.is c.requires.hangs c.requires.short c.requires.tidy closer in
    let r = subst (Ready target N (c.args.at + 1)) (sym c.deref-else-bit-2.ensures) q in
    let few : vec_len c.gather-else-bit.new.near ≤ k = (let le = gathered_few target k _ N is in grind (arith, le)) in
    (falls c.args.at _ lt c.decreases, (r.0, (r.1.0, (r.1.1.0, (r.1.1.1, (gathered_sorted target k _ N is, (few, c.gather-else-bit.ensures.room)))))))

pub returns-then-bit-clause-items : goal.returns-then-bit-clause-items
returns-then-bit-clause-items t c =
    let target = c.args.target.now in
    let k = c.args.k in
    let S = c.args.near.now.items in
    let N = c.gather.new.near.items in
    let is : N ≡ k_closest target k (S ++ live_of (rows_of c.in-Fork.high.value)) = c.gather.ensures.items ∙ ap (λ (n : Node). k_closest target k (S ++ live_of (rows_of n))) c.deref-then-bit.ensures in
    let on : c.gather-then-bit.new.near.items ≡ k_closest target k (N ++ live_of (rows_of c.in-Fork.low.value)) = c.gather-then-bit.ensures.items ∙ ap (λ (n : Node). k_closest target k (N ++ live_of (rows_of n))) c.deref-then-bit-2.ensures in
    closest_swapped target k S (live_of (rows_of c.in-Fork.low.value)) (live_of (rows_of c.in-Fork.high.value)) N _ is on
    ∙ sym (ap (λ (l : List Contact). k_closest target k (S ++ l)) (fork_lives c.args.node.now _ _ _ _ c.in-Fork.is))

pub returns-else-bit-clause-items : goal.returns-else-bit-clause-items
returns-else-bit-clause-items t c =
    let target = c.args.target.now in
    let k = c.args.k in
    let S = c.args.near.now.items in
    let N = c.gather-else-bit.new.near.items in
    let is : N ≡ k_closest target k (S ++ live_of (rows_of c.in-Fork.low.value)) = c.gather-else-bit.ensures.items ∙ ap (λ (n : Node). k_closest target k (S ++ live_of (rows_of n))) c.deref-else-bit.ensures in
    let on : c.gather-else-bit-2.new.near.items ≡ k_closest target k (N ++ live_of (rows_of c.in-Fork.high.value)) = c.gather-else-bit-2.ensures.items ∙ ap (λ (n : Node). k_closest target k (N ++ live_of (rows_of n))) c.deref-else-bit-2.ensures in
    closest_in_turn target k S (live_of (rows_of c.in-Fork.low.value)) (live_of (rows_of c.in-Fork.high.value)) N _ is on
    ∙ sym (ap (λ (l : List Contact). k_closest target k (S ++ l)) (fork_lives c.args.node.now _ _ _ _ c.in-Fork.is))
