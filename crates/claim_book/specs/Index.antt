-- What a book keeps to answer without its journal: each part is a filter of the journal.
use Rattle.std.specs.Prelude.{◌≡◌, ◌≢◌, ◌⊎◌, ℕ, ◌+◌, ◌<◌, ◌≤◌, List, [], ◌∷◌, length, true, false, get_or, vec_capacity}
use Rattle.std.specs.List.Sorted.{IsStrictlySortedBy}
use Rattle.kad_base.specs.declared.types.Contact.{Contact}
use Rattle.kad_base.specs.Limits.{max_path_contacts}
use Rattle.kad_distance.specs.Order.{closeness}
use Rattle.kad_distance.specs.KClosest.{put, each_once}
use Rattle.kad_base.specs.Contacts.{without}
use Rattle.claim_book.specs.declared.types.Setting.{Setting}
use Rattle.claim_book.specs.declared.types.Counts.{Counts}
use Rattle.claim_book.specs.declared.types.Entry.{Entry}
use Rattle.claim_book.specs.declared.types.Entry.TheVariants.{Note, Held, Rejected, Skipped}
use Rattle.claim_book.specs.declared.path.Path.{Path}
use Rattle.claim_book.specs.Journal.{path, alive, asked, open_on, unsettled}
use Rattle.claim_book.specs.Calls.{Counted}
use Rattle.claim_book.specs.declared.claim_map.Claims.{Claims}
use Rattle.claim_book.specs.Claims.{IsMap, shown_on}
use Rattle.claim_book.specs.Room.{IsBook}

-- what is kept of path p: its contacts that no other path asked and that are not lost, and those that nobody asked, in order; how many it has, and
-- how many are open; what is not settled
pub record IsPath (s : Setting) (J : List Entry) (p : ℕ) (x : Path) : Type 0 where
  pub sorted : x.near.items ≡ each_once (closeness s.target) (alive p J)
  pub unasked : x.fresh.items ≡ each_once (closeness s.target) (without (alive p J) (asked J))
  pub counted : x.count ≡ length (path p J)
  pub opened : x.opens ≡ length (open_on p J)
  pub queued : x.queue.items ≡ unsettled p J
  pub near_room : max_path_contacts ≤ vec_capacity x.near
  pub fresh_room : max_path_contacts ≤ vec_capacity x.fresh

-- that of every path
pub record IsPaths (s : Setting) (J : List Entry) (xs : List Path) : Type 0 where
  pub enough : length xs ≡ s.paths
  pub each : (p : ℕ) (d : Path) → p < length xs → IsPath s J p (get_or xs p d)

-- a book as a whole: its journal and room, its map of claims, its paths and its counts
pub record IsWhole (s : Setting) (J : List Entry) (owed room : ℕ) (m : Claims) (xs : List Path) (counts : Counts) : Type 0 where
  pub book : IsBook s J owed room
  pub map : IsMap s J m
  pub paths : IsPaths s J xs
  pub counted : Counted J counts

-- the path is in order, and has room for one contact more
pub record HasPlace (s : Setting) (x : Path) : Type 0 where
  pub near_sorted : IsStrictlySortedBy (closeness s.target) x.near.items
  pub fresh_sorted : IsStrictlySortedBy (closeness s.target) x.fresh.items
  pub near_room : length x.near.items < vec_capacity x.near
  pub fresh_room : length x.fresh.items < vec_capacity x.fresh
  pub few : x.count < max_path_contacts

-- the path has one contact more, which nobody asked, in its place
pub record Gains (s : Setting) (c : Contact) (x y : Path) : Type 0 where
  pub near : y.near.items ≡ put (closeness s.target) x.near.items c
  pub near_room : vec_capacity x.near ≤ vec_capacity y.near
  pub fresh : y.fresh.items ≡ put (closeness s.target) x.fresh.items c
  pub fresh_room : vec_capacity x.fresh ≤ vec_capacity y.fresh
  pub count : y.count ≡ x.count + 1
  pub opens : y.opens ≡ x.opens

-- the entry settles the first thing of path p, and no more comes of it
abbrev pub IsSettledOnly : ℕ → Entry → Type 0
IsSettledOnly p (Note q c) = q ≡ p
IsSettledOnly p (Held q c by) = q ≡ p
IsSettledOnly p (Rejected q r) = q ≡ p
IsSettledOnly p (Skipped q r) = q ≡ p
IsSettledOnly p other = ⊥

-- a path that has nothing, with room for all contacts that it may have
pub record IsEmptyPath (x : Path) : Type 0 where
  pub none_near : x.near.items ≡ []
  pub none_fresh : x.fresh.items ≡ []
  pub no_count : x.count ≡ 0
  pub no_opens : x.opens ≡ 0
  pub no_queue : x.queue.items ≡ []
  pub near_room : max_path_contacts ≤ vec_capacity x.near
  pub fresh_room : max_path_contacts ≤ vec_capacity x.fresh

-- y is x where path p is the asker or doesn't have the contact, and else x without it among its alive ones
pub record Lent (m : Claims) (asker : ℕ) (c : Contact) (p : ℕ) (x y : Path) : Type 0 where
  pub stays : (p ≡ asker) ⊎ (shown_on m p c ≡ false) → y ≡ x
  pub near : p ≢ asker → shown_on m p c ≡ true → y.near.items ≡ without x.near.items (c ∷ [])
  pub near_room : vec_capacity x.near ≤ vec_capacity y.near
  pub fresh : p ≢ asker → shown_on m p c ≡ true → y.fresh.items ≡ without x.fresh.items (c ∷ [])
  pub fresh_room : vec_capacity x.fresh ≤ vec_capacity y.fresh
  pub count : y.count ≡ x.count
  pub opens : y.opens ≡ x.opens
  pub queue : y.queue ≡ x.queue
