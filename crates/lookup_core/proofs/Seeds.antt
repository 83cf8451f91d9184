-- A journal of seeds alone: nobody was asked, and nothing is left to settle.
use Rattle.std.proofs.Common.{◌≡◌, ℕ, List, []}
use Rattle.kad_base.specs.declared.types.Contact.{Contact}
use Rattle.claim_book.specs.Journal.{seeds, asked, open_any, unsettled}
use Rattle.claim_book.specs.Legal.{seeded}
use Rattle.claim_book.proofs.Seeding.{seeded_seeds, seeds_stand as all_stand, seeds_asked, seeds_settled_all, seeds_open as none_open}

pub seeds_stand : (limit paths : ℕ) (cs : List Contact) → seeds (seeded limit paths cs) ≡ seeded limit paths cs
seeds_stand limit paths cs = all_stand (seeded limit paths cs) (seeded_seeds limit paths cs)

pub seeds_ask : (limit paths : ℕ) (cs : List Contact) → asked (seeded limit paths cs) ≡ []
seeds_ask limit paths cs = seeds_asked (seeded limit paths cs) (seeded_seeds limit paths cs)

pub seeds_settled : (p limit paths : ℕ) (cs : List Contact) → unsettled p (seeded limit paths cs) ≡ []
seeds_settled p limit paths cs = seeds_settled_all p (seeded limit paths cs) (seeded_seeds limit paths cs)

pub seeds_open : (limit paths : ℕ) (cs : List Contact) → open_any (seeded limit paths cs) ≡ []
seeds_open limit paths cs = none_open (seeded limit paths cs) (seeded_seeds limit paths cs)
