use Rattle.std.proofs.Common.{◌≡◌, ap, ◌∙◌}
use Rattle.std.specs.Int.{w32, from_be_bytes, to_be_bytes}
use Rattle.kad_base.specs.declared.types.Addr.{Addr}
use Rattle.kad_base.specs.declared.types.Ip.TheVariants.{V4}
use Rattle.peer_store.specs.Peers.{peers_of, held_of, first_number, last_number, begins_at}
use Rattle.peer_store.proofs.Listing.{forward, of_key}
use Rattle.peer_store.proofs.drawing.point_of.Goals as goal

pub range-requires : goal.range-requires
range-requires c = forward c.args.key

pub returns : goal.returns
returns c =
    let held = c.args.adds.now.held in
    let peers = held_of held c.args.key in
    let same : peers_of c.range.result ≡ peers = ap peers_of (of_key held c.range.result c.args.key c.requires c.range.ensures) in
    let low : c.bounds-low.result.0 ≡ first_number 0 peers = c.bounds-low.ensures.first ∙ ap (first_number 0) same in
    let high : c.bounds-low.result.1 ≡ last_number 0 peers = c.bounds-low.ensures.last ∙ ap (last_number 0) same in
    let number : c.begins_at-number.result ≡ begins_at (first_number 0 peers) (last_number 0 peers) (from_be_bytes w32 c.args.first) =
    c.begins_at-number.ensures ∙ (λ i. begins_at (low i) (high i) (c.from_be_bytes.ensures i)) in
    ap {A = _} {B = Addr} (λ bytes. record { ip = V4 bytes; port = 0 }) (c.to_be_bytes.ensures ∙ ap (to_be_bytes w32) number)
