-- The place of the next datagram goes round the ring.
use Rattle.std.proofs.Common.{◌≡◌, ℕ, suc, ◌+◌, ◌^◌, ◌<◌, ◌≤◌, sym, ap, subst, ◌∙◌, arith}
use Rattle.serve_batches.specs.declared.place.Place.{Place}
use Rattle.serve_batches.specs.Ring.{ring, behind}
use Rattle.serve_batches.proofs.Rings.{ring_within, ring_round}

pub ring_next : (n k j : ℕ) (p q : Place) → k ≡ n → p ≡ ring n j → q ≡ behind k p → q ≡ ring n (j + 1)
ring_next n k j p q e is next = (let up : suc j ≡ j + 1 = omega arith in next ∙ ap (λ m. behind m p) e ∙ ap (behind n) is ∙ ap (ring n) up)

pub place_within : (n j : ℕ) (p : Place) → p ≡ ring n j → 0 < n → p.holder < n
place_within n j p is some = subst (λ (q : Place). q.holder < n) (sym is) (ring_within n j some)

pub place_small : (n j : ℕ) (p : Place) → p ≡ ring n j → j ≤ 32 → p.round + 1 < 2 ^ 64
place_small n j p is few =
    let e : p.round ≡ (ring n j).round = ap (λ (q : Place). q.round) is in
    let small = ring_round n j in
    omega (arith, e, small, few)
