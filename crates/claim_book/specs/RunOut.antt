-- When a path ends (Kademlia, 2002, section 2.3): its k closest contacts that are not lost have all answered.
use Rattle.std.specs.Prelude.{◌≡◌, ℕ, List, [], true}
use Rattle.std.specs.List.{All}
use Rattle.kad_base.specs.Contacts.{among}
use Rattle.kad_distance.specs.KClosest.{k_closest}
use Rattle.claim_book.specs.declared.types.Setting.{Setting}
use Rattle.claim_book.specs.declared.types.Entry.{Entry}
use Rattle.claim_book.specs.Journal.{answered, open_on, alive, unsettled}

pub record RunOut (s : Setting) (p : ℕ) (J : List Entry) : Type 0 where
  pub none_open : open_on p J ≡ []
  pub settled : unsettled p J ≡ []
  pub all_answered : All (λ c. among (answered J) c ≡ true) (k_closest s.target s.k (alive p J))
