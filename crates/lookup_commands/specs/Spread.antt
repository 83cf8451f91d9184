-- Whom a command follows up. The result of a lookup is the k closest contacts of all its paths, so a path that is told of live
-- identifiers next to the target takes every place of it. Spread over the paths, each path has places of its own (S/Kademlia,
-- 2007, section 4.4, has the disjoint paths; that what follows them is spread is this project's own).
use Rattle.std.specs.Prelude.{◌≡◌, ℕ, ◌<◌, List, ◌++◌, Bool, true, false}
use Rattle.std.specs.List.{IsDistinct, flat_map, range_with_len}
use Rattle.kad_base.specs.declared.types.Id.{Id}
use Rattle.kad_base.specs.declared.types.Contact.{Contact}
use Rattle.kad_base.specs.Contacts.{same, among}
use Rattle.kad_distance.specs.KClosest.{k_closest}
use Rattle.claim_book.specs.declared.types.Setting.{Setting}
use Rattle.claim_book.specs.declared.types.Entry.{Entry}
use Rattle.claim_book.specs.Journal.{alive, answered, path}
use Rattle.claim_book.specs.Lineage.{Closed}
use Rattle.claim_book.specs.Result.{result_of}

-- the k closest contacts of path p that were not lost and that no other path asked
abbrev pub closest_on : Id → ℕ → List Entry → ℕ → List Contact
closest_on target k J p = k_closest target k (alive p J)

-- those of each of so many paths, in the order of the paths
abbrev pub spread_over : Id → ℕ → ℕ → List Entry → List Contact
spread_over target k paths J = flat_map (closest_on target k J) (range_with_len 0 paths)

-- whom a lookup's journal gives to be followed up: its result, or spread over the paths the k closest of each
abbrev pub followed : Bool → Setting → List Entry → List Contact
followed false s J = result_of s J
followed true s J = spread_over s.target s.k s.paths J

-- the path has places of its own among those that are spread
pub record HasPlaces (s : Setting) (J : List Entry) (p : ℕ) : Type 0 where
  pub before : List Contact
  pub behind : List Contact
  pub own : spread_over s.target s.k s.paths J ≡ before ++ closest_on s.target s.k J p ++ behind

-- What it is to be spread: each path has its places, and no contact has two. Whoever has one is on that path and has
-- answered; and he is in every list that is closed for the path, whatever the other paths met. So where a path's seeds are
-- honest, and its honest contacts name honest ones alone, the places of the path go to honest ones alone.
pub record IsSpread (s : Setting) (J : List Entry) : Type 0 where
  pub places : (p : ℕ) → p < s.paths → HasPlaces s J p
  pub once : IsDistinct same (spread_over s.target s.k s.paths J)
  pub on_path : (p : ℕ) (c : Contact) → among (closest_on s.target s.k J p) c ≡ true → among (path p J) c ≡ true
  pub have_answered : (p : ℕ) (c : Contact) → p < s.paths → among (closest_on s.target s.k J p) c ≡ true → among (answered J) c ≡ true
  pub contained : (p : ℕ) (H : List Contact) (c : Contact) → Closed s J p H → among (closest_on s.target s.k J p) c ≡ true → among H c ≡ true
