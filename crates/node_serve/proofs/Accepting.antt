-- Whether a token is accepted, as a test.
use Rattle.std.proofs.Common.{◌≡◌, ℕ, ◌-◌, List, Bool, true, false, ◌&&◌, refl, sym}
use Rattle.std.specs.Prelude.{nat_lt}
use Rattle.std.specs.Bool.{Decides}
use Rattle.std.specs.Str.{bytes_eq}
use Rattle.std.proofs.lemmas.Bool.Decides.{Decides-or, Decides-and, Decides-ltb}
use Rattle.std.proofs.lemmas.Slice.Eq.{bytes_eq-Decides}
use Rattle.node_tokens.specs.Tokens.{TokensState, IsAccepted, epoch_at, token_of}
use Rattle.node_serve.specs.Calls.{is_accepted}

pub accepted : (t : TokensState) (ip : List ℕ) (at : ℕ) (token : List ℕ) → Decides (is_accepted t ip at token) (IsAccepted t ip at token)
accepted t ip at token =
    let now = token_of t.seed (epoch_at t at) ip in
    let before = token_of t.seed (epoch_at t at - 1) ip in
    Decides-or (bytes_eq token now) (nat_lt 0 (epoch_at t at) && bytes_eq token before) (bytes_eq-Decides token now)
    (Decides-and (nat_lt 0 (epoch_at t at)) (bytes_eq token before) (Decides-ltb 0 (epoch_at t at)) (bytes_eq-Decides token before))

-- two tests of one fact are one
pub same_test : {P : Type 0} (a b : Bool) → Decides a P → Decides b P → a ≡ b
same_test true true d e = refl
same_test true false d e = sym (e.1 (d.0 refl))
same_test false true d e = d.1 (e.0 refl)
same_test false false d e = refl

-- where the fact fails the test is false
pub fails : {P : Type 0} (a : Bool) → Decides a P → (P → ⊥) → a ≡ false
fails true d h = absurd (h (d.0 refl))
fails false d h = refl
