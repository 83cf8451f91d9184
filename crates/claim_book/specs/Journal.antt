-- What a journal shows: filters and counts of its entries, for any number of paths (S/Kademlia, 2007, section 4.4) and
-- of queries at once (Kademlia, 2002, section 2.3).
use Rattle.std.specs.Prelude.{◌≡◌, ◌<◌, ℕ, List, [], ◌∷◌, ◌++◌, length, drop, map, Option, None, Bool, false, not, ◌==◌, nat_lt, filter, find, slice_get, if◌then◌else◌}
use Rattle.std.specs.List.{flat_map}
use Rattle.kad_base.specs.declared.types.Contact.{Contact}
use Rattle.kad_base.specs.declared.types.Report.{Report}
use Rattle.kad_base.specs.Contacts.{same, among, without}
use Rattle.kad_distance.specs.KClosest.{k_closest}
use Rattle.claim_book.specs.declared.types.Setting.{Setting}
use Rattle.claim_book.specs.declared.types.Thing.{Thing}
use Rattle.claim_book.specs.declared.types.Thing.TheVariants.{Responder, Told}
use Rattle.claim_book.specs.declared.types.Entry.{Entry}
use Rattle.claim_book.specs.declared.types.Entry.TheVariants.{Seed, Ask, Heard, Lost, Note, Taken, Held, Turned, Rejected, Skipped}

-- what is on path q, for one who looks at path p
abbrev pub on_path : {A : Type 0} → ℕ → ℕ → List A → List A
on_path p q xs = if q == p then xs else []

-- what is on another path than p
abbrev pub elsewhere : {A : Type 0} → ℕ → ℕ → List A → List A
elsewhere p q xs = if q == p then [] else xs

-- of one entry: the seed that it is
abbrev pub seed_of : Entry → List Entry
seed_of (Seed q c) = Seed q c ∷ []
seed_of other = []

-- what is taken, asked, heard, lost and turned away, by any path, on path p or on another; and who asked or has a
-- contact
abbrev pub took_of : Entry → List Contact
took_of (Seed q c) = c ∷ []
took_of (Taken q c) = c ∷ []
took_of other = []

abbrev pub path_of : ℕ → Entry → List Contact
path_of p (Seed q c) = on_path p q (c ∷ [])
path_of p (Taken q c) = on_path p q (c ∷ [])
path_of p other = []

abbrev pub ask_of : Entry → List Contact
ask_of (Ask q c) = c ∷ []
ask_of other = []

abbrev pub ask_on : ℕ → Entry → List Contact
ask_on p (Ask q c) = on_path p q (c ∷ [])
ask_on p other = []

abbrev pub ask_elsewhere : ℕ → Entry → List Contact
ask_elsewhere p (Ask q c) = elsewhere p q (c ∷ [])
ask_elsewhere p other = []

abbrev pub asker_of : Contact → Entry → List ℕ
asker_of c (Ask q d) = if same c d then q ∷ [] else []
asker_of c other = []

abbrev pub holder_of : Contact → Entry → List ℕ
holder_of c (Seed q d) = if same c d then q ∷ [] else []
holder_of c (Taken q d) = if same c d then q ∷ [] else []
holder_of c other = []

abbrev pub answer_of : Entry → List Contact
answer_of (Heard q c reports) = c ∷ []
answer_of other = []

abbrev pub fail_of : Entry → List Contact
fail_of (Lost q c cause) = c ∷ []
fail_of other = []

abbrev pub turned_of : Entry → List Contact
turned_of (Turned q c) = c ∷ []
turned_of other = []

-- an answer gives its contact, then each contact that it reports
abbrev pub things_in : Contact → List Report → List Thing
things_in c reports = Responder c ∷ map Told reports

-- what an entry gives path p to settle
abbrev pub things_of : ℕ → Entry → List Thing
things_of p (Heard q c reports) = on_path p q (things_in c reports)
things_of p other = []

-- the entry settles something on path p
abbrev pub settles_on : ℕ → Entry → Bool
settles_on p (Note q c) = q == p
settles_on p (Taken q c) = q == p
settles_on p (Held q c by) = q == p
settles_on p (Turned q c) = q == p
settles_on p (Rejected q r) = q == p
settles_on p (Skipped q r) = q == p
settles_on p other = false

-- the contacts that the paths began with, each with its path
unfoldable pub seeds : List Entry → List Entry
seeds J = flat_map seed_of J

-- the contacts that the paths began with or took
unfoldable pub took : List Entry → List Contact
took J = flat_map took_of J

-- those of path p
unfoldable pub path : ℕ → List Entry → List Contact
path p J = flat_map (path_of p) J

-- the contacts that any path asked
unfoldable pub asked : List Entry → List Contact
asked J = flat_map ask_of J

-- those that path p asked
unfoldable pub asked_on : ℕ → List Entry → List Contact
asked_on p J = flat_map (ask_on p) J

-- the paths that asked a contact
unfoldable pub askers : Contact → List Entry → List ℕ
askers c J = flat_map (asker_of c) J

-- the paths that have a contact
unfoldable pub holders : Contact → List Entry → List ℕ
holders c J = flat_map (holder_of c) J

-- the contacts that answered
unfoldable pub answered : List Entry → List Contact
answered J = flat_map answer_of J

-- those that were lost
unfoldable pub failed : List Entry → List Contact
failed J = flat_map fail_of J

-- those that a full path, or one crowded by their host, turned away
unfoldable pub turned : List Entry → List Contact
turned J = flat_map turned_of J

-- asked by whichever path, and neither heard nor lost
unfoldable pub open_any : List Entry → List Contact
open_any J = without (asked J) (answered J ++ failed J)

-- asked by path p, and neither heard nor lost
unfoldable pub open_on : ℕ → List Entry → List Contact
open_on p J = without (asked_on p J) (answered J ++ failed J)

-- the contacts that paths other than p asked
unfoldable pub theirs : ℕ → List Entry → List Contact
theirs p J = flat_map (ask_elsewhere p) J

-- of path p, and asked by no other path
unfoldable pub own : ℕ → List Entry → List Contact
own p J = without (path p J) (theirs p J)

-- of those, the ones that are not lost
unfoldable pub alive : ℕ → List Entry → List Contact
alive p J = without (own p J) (failed J)

-- what the answers to path p gave to settle, in order
unfoldable pub things : ℕ → List Entry → List Thing
things p J = flat_map (things_of p) J

-- the entries that settle on path p
unfoldable pub settled : ℕ → List Entry → List Entry
settled p J = filter (settles_on p) J

-- each entry that settles takes one from the front
unfoldable pub unsettled : ℕ → List Entry → List Thing
unsettled p J = drop (length (settled p J)) (things p J)

-- what comes next to be settled on path p
unfoldable pub first_unsettled : ℕ → List Entry → Option Thing
first_unsettled p J = slice_get (unsettled p J) 0

-- nothing is unsettled on the first n paths
abbrev pub AllSettled : ℕ → List Entry → Type 0
AllSettled n J = (p : ℕ) → p < n → unsettled p J ≡ []

-- the closest of the k closest alive contacts of path p that no path asked
abbrev pub first_unasked : Setting → ℕ → List Entry → Option Contact
first_unasked s p J = find (λ c. not (among (asked J) c)) (k_closest s.target s.k (alive p J))

-- the same, while fewer than alpha are open
unfoldable pub may_ask : Setting → ℕ → List Entry → Option Contact
may_ask s p J = if nat_lt (length (open_on p J)) s.alpha then first_unasked s p J else None
