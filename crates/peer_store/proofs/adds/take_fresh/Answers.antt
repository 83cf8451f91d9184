use Rattle.std.proofs.Common.{List, ◌≡◌, ◌<◌, ◌≤◌, ◌-◌, ◌++◌, ◌∷◌, [], length, take, refl, sym, ap, ◌∙◌, subst, arith, length-append}
use Rattle.peer_store.specs.Peers.{fresh, peers_of, Held}
use Rattle.peer_store.proofs.Listing.{fresh_first, one_more}
use Rattle.peer_store.proofs.Around.{already}
use Rattle.peer_store.proofs.adds.take_fresh.Goals as goal

pub loop-peer-preserved-in-Continue-1 : goal.loop-peer-preserved-in-Continue-1
loop-peer-preserved-in-Continue-1 c =
    let peers = c.loop-peer.all in
    let e : Held = (c.in-Some.field-0-0.now, c.in-Some.last.now) in
    let rest = peers_of (fresh c.next.new.self c.args.at) in
    let all = take 50 (c.args.peers ++ peers_of (fresh c.args.held c.args.at)) in
    let at_most : length peers ≤ 50 = c.loop-peer.invariant.few in
    let fewer : length peers < 50 = omega (arith, at_most, c.if-len-eq-MAX_LISTED.false, c.len.ensures) in
    let first = fresh_first e c.loop-peer.peer-iterator c.next.new.self c.args.at c.in-Some.ensures.steps (c.if-is_fresh.ensures.0 refl) in
    let with_first : peers ++ take (50 - length peers) (e.0.1 ∷ rest) ≡ all =
    ap (λ l. peers ++ take (50 - length peers) l) (sym first) ∙ c.loop-peer.invariant.rest in
    let more : (peers ++ e.0.1 ∷ []) ++ take (50 - length (peers ++ e.0.1 ∷ [])) rest ≡ all = one_more peers rest all e.0.1 with_first fewer in
    let pushed : c.push.new.self ≡ peers ++ e.0.1 ∷ [] = c.in_ok-push.ensures.ok in
    record {
      few = let n : length (peers ++ e.0.1 ∷ []) ≤ 50 = omega (arith, length-append peers (e.0.1 ∷ [])) in subst (λ l. length l ≤ 50) (sym pushed) n;
      rest = subst (λ l. l ++ take (50 - length l) rest ≡ all) (sym pushed) more;
    }

pub loop-peer-init : goal.loop-peer-init
loop-peer-init c =
    let peers = c.args.peers in
    let at = c.args.at in
    record {
      few = c.requires;
      rest = already 50 peers (peers_of (fresh c.into_iter-peer-iterator.result at)) c.requires
          ∙ ap (λ (h : List Held). take 50 (peers ++ peers_of (fresh h at))) c.into_iter-peer-iterator.ensures.into_iter_gives;
    }
