-- Where a node stands tells its number.
use Rattle.std.proofs.Common.{◌≡◌, ℕ, ◌+◌, ◌*◌, ◌/◌, ◌%◌, ◌<◌, arith}
use Rattle.fake_net.specs.Network.{address_of, number_at}

pub number_back : (i : ℕ) → i < 20000 → number_at (address_of i).ip ≡ i
number_back i few =
    let e : i / 65536 % 256 * 65536 + i / 256 % 256 * 256 + i % 256 ≡ i = omega arith in
    e
