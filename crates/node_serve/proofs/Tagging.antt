-- The tag of a reply.
use Rattle.std.proofs.Common.{◌≡◌, ◌≤◌, ◌<◌, ℕ, List, length, take, ap, arith}
use Rattle.std.proofs.lemmas.List.{length-take}
use Rattle.kad_base.specs.Limits.{max_datagram}
use Rattle.kad_krpc.specs.declared.message.Message.{Message}
use Rattle.kad_krpc.specs.Form.{form, message_pairs}
use Rattle.kad_krpc.specs.Seal.{tagged}
use Rattle.node_serve.specs.Sizes.{max_reply}
use Rattle.node_serve.proofs.Small.{tagged_short}

form_fits : (reply : Message) (tag : List ℕ) → length tag ≤ 64 → length (form reply) ≤ max_reply → length (tagged (message_pairs reply) tag) ≤ max_datagram
unfolding form
form_fits reply tag h k = tagged_short (message_pairs reply) tag h k

-- a short reply in front of a text has room for a tag
pub no_room : (reply : Message) (text tag : List ℕ) (n : ℕ) → take n text ≡ form reply → n ≤ max_reply → max_datagram < length (tagged (message_pairs reply) tag) → length tag ≤ 64 → ⊥
no_room reply text tag n written room over short =
    let e = ap length written in
    let l = length-take n text in
    let fits = form_fits reply tag short (omega (arith, e, l, room)) in
    omega (arith, fits, over)
