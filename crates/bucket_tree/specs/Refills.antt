-- Where the newest spare goes.
use Rattle.std.specs.Prelude.{◌≡◌, List, [], ◌∷◌, ◌++◌}
use Rattle.kad_base.specs.declared.types.Contact.{Contact}
use Rattle.bucket_tree.specs.declared.types.Gone.{Gone}
use Rattle.bucket_tree.specs.declared.types.Gone.TheVariants.{Removed, Replaced}
use Rattle.bucket_tree.specs.declared.types.Live.{Live}
use Rattle.bucket_tree.specs.BucketSteps.{fresh}

-- the newest spare stands at the end of the live entries
pub record Refill (live : List Live) (spares : List Contact) (live' : List Live) (spares' : List Contact) : Type 0 where
  pub newest : Contact
  pub spares_are : spares ≡ spares' ++ newest ∷ []
  pub live_are : live' ≡ live ++ fresh newest ∷ []

-- it does, if there is a spare
abbrev pub Refilled : List Live → List Contact → Gone → List Live → List Contact → Type 0
Refilled live spares Removed live' spares' = (spares ≡ []) × (live' ≡ live) × (spares' ≡ [])
Refilled live spares Replaced live' spares' = Refill live spares live' spares'
Refilled live spares other live' spares' = ⊥
