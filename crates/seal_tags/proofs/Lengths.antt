-- How long digests and tags are.
use Rattle.std.proofs.Common.{◌≡◌, ℕ, zero, suc, ◌*◌, ◌/◌, List, ◌++◌, length, refl, arith, length-append}
use Rattle.std.specs.Prelude.{slice_index}
use Rattle.std.specs.Int.{w32, to_be_bytes}
use Rattle.sha1.specs.Sha1.{sha1, digest_bytes, hash_after, padded_message}
use Rattle.kad_base.specs.Puzzles.{hash}
use Rattle.seal_tags.specs.Hmac.{hmac, key_block, mixed, inner_pad, outer_pad}

length-word : (n : ℕ) → length (to_be_bytes w32 n) ≡ 4
length-word n = refl

length-digest_bytes : (h : List ℕ) (n : ℕ) → length (digest_bytes h n) ≡ 4 * n
unfolding digest_bytes
length-digest_bytes h zero = refl
length-digest_bytes h (suc n) =
    let front = length-digest_bytes h n in
    let both = length-append (digest_bytes h n) (to_be_bytes w32 (slice_index h n)) in
    let word = length-word (slice_index h n) in
    omega (arith, front, both, word)

pub length-hash : (m : List ℕ) → length (hash m) ≡ 20
unfolding hash sha1
length-hash m = length-digest_bytes (hash_after (padded_message m) (length (padded_message m) / 64)) 5

pub length-hmac : (key text : List ℕ) → length (hmac key text) ≡ 20
unfolding hmac
length-hmac key text = length-hash (mixed (key_block key) outer_pad ++ hash (mixed (key_block key) inner_pad ++ text))
