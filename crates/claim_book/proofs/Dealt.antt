-- The index of a journal that has seeds alone, one seed after the other.
use Rattle.std.proofs.Common.{◌≡◌, ℕ, ◌+◌, ◌%◌, ◌<◌, ◌≤◌, [], ◌∷◌, length, take, get_or, set, cond, refl, sym, ap, subst, ◌∙◌, ◌++◌, true, List, arith}
use Rattle.std.specs.List.{All}
use Rattle.std.specs.List.Sorted.{IsStrictlySortedBy}
use Rattle.std.specs.Prelude.{drop, vec_capacity}
use Rattle.std.proofs.lemmas.List.{length-take-le, drop_more, append-nil}
use Rattle.std.proofs.lemmas.Bool.{eq-eqb}
use Rattle.kad_base.specs.Limits.{max_path_contacts}
use Rattle.kad_base.specs.declared.types.Contact.{Contact}
use Rattle.kad_base.specs.Contacts.{IsUsable}
use Rattle.kad_distance.specs.Order.{closeness}
use Rattle.kad_distance.specs.KClosest.{put}
use Rattle.claim_book.specs.declared.types.Setting.{Setting}
use Rattle.claim_book.specs.declared.types.Counts.{Counts}
use Rattle.claim_book.specs.declared.types.Entry.{Entry}
use Rattle.claim_book.specs.declared.types.Entry.TheVariants.{Seed}
use Rattle.claim_book.specs.declared.path.Path.{Path}
use Rattle.claim_book.specs.Journal.{path}
use Rattle.kad_base.specs.Hosts.{host}
use Rattle.claim_book.specs.Crowded.{crowd}
use Rattle.claim_book.specs.Legal.{SeedFits, dealt, stays, seeded}
use Rattle.claim_book.specs.Calls.{Counted}
use Rattle.claim_book.specs.declared.claim_map.Claims.{Claims}
use Rattle.claim_book.specs.Claims.{Takes, Keeps, IsMap}
use Rattle.claim_book.specs.Index.{IsPaths}
use Rattle.claim_book.proofs.Claims.{seed_new}
use Rattle.claim_book.proofs.Bounds.{path_within}
use Rattle.claim_book.proofs.Seeding.{Begins, seeded_seeds, seeds_asked, seeds_failed, seeds_turned, seeded_more, dealt_length, seed_fits, begins_at, stays_unless, stays_not}
use Rattle.claim_book.proofs.Mapped.{map_seeded, map_wider}
use Rattle.claim_book.proofs.Pathed.{paths_put, path_at, path_seeded}

-- the i-th seed is dealt
pub record Deals (s : Setting) (cs : List Contact) (i : ℕ) : Type 0 where
  pub some_path : 0 < s.paths
  pub few : length cs ≤ s.k
  pub small : s.k < max_path_contacts
  pub in_order : IsStrictlySortedBy (closeness s.target) cs
  pub usable : All (IsUsable s.own) cs
  pub here : i < length cs

-- the journal when it is
abbrev pub front : Setting → List Contact → ℕ → List Entry
front s cs i = seeded s.per_address s.paths (take i cs)

begins : (s : Setting) (cs : List Contact) (i : ℕ) (x : Contact) → Deals s cs i → Begins s (dealt s.paths (take i cs)) (front s cs i) (get_or cs i x ∷ drop (i + 1) cs)
begins s cs i x d = (let lt = d.here in subst (Begins s (dealt s.paths (take i cs)) (front s cs i)) (drop_more cs i x lt) (begins_at s cs x d.some_path d.few d.in_order d.usable i (omega arith)))

long : (s : Setting) (cs : List Contact) (i : ℕ) → Deals s cs i → length (dealt s.paths (take i cs)) ≡ i
long s cs i d = (let lt = d.here in dealt_length s.paths 0 (take i cs) ∙ length-take-le i cs (omega arith))

-- its host doesn't crowd the path
abbrev pub IsFree : Setting → List Contact → ℕ → Contact → Type 0
IsFree s cs i c = ¬ ((0 < s.per_address) × (s.per_address ≤ crowd (i % s.paths) (host c.addr) (front s cs i)))

stays_here : (s : Setting) (cs : List Contact) (i : ℕ) (x : Contact) → Deals s cs i → IsFree s cs i (get_or cs i x) → stays s.per_address (dealt s.paths (take i cs)) (Seed (i % s.paths) (get_or cs i x)) ≡ true
stays_here s cs i x d free = stays_unless s (dealt s.paths (take i cs)) (front s cs i) (i % s.paths) (get_or cs i x) (get_or cs i x ∷ drop (i + 1) cs) (begins s cs i x d) free

fits_here : (s : Setting) (cs : List Contact) (i : ℕ) (x : Contact) → Deals s cs i → IsFree s cs i (get_or cs i x) → SeedFits s (front s cs i) (i % s.paths) (get_or cs i x)
fits_here s cs i x d free =
    let P = dealt s.paths (take i cs) in
    let st = subst (λ n. stays s.per_address P (Seed (n % s.paths) (get_or cs i x)) ≡ true) (sym (long s cs i d)) (stays_here s cs i x d free) in
    subst (λ n. SeedFits s (front s cs i) (n % s.paths) (get_or cs i x)) (long s cs i d) (seed_fits s P (front s cs i) (get_or cs i x) (drop (i + 1) cs) d.some_path (d.usable i x d.here) (begins s cs i x d) st)

-- where it stays
front_kept : (s : Setting) (cs : List Contact) (i : ℕ) (x : Contact) → Deals s cs i → IsFree s cs i (get_or cs i x) → front s cs (i + 1) ≡ front s cs i ++ Seed (i % s.paths) (get_or cs i x) ∷ []
front_kept s cs i x d free = seeded_more s.per_address s.paths cs i x d.here ∙ ap (λ b. front s cs i ++ cond b (Seed (i % s.paths) (get_or cs i x) ∷ []) []) (stays_here s cs i x d free)

-- and where it doesn't
pub front_left : (s : Setting) (cs : List Contact) (i : ℕ) (x : Contact) → Deals s cs i → 0 < s.per_address → s.per_address ≤ crowd (i % s.paths) (host (get_or cs i x).addr) (front s cs i) → front s cs (i + 1) ≡ front s cs i
front_left s cs i x d z le =
    seeded_more s.per_address s.paths cs i x d.here
    ∙ ap (λ b. front s cs i ++ cond b (Seed (i % s.paths) (get_or cs i x) ∷ []) []) (stays_not s (dealt s.paths (take i cs)) (front s cs i) (i % s.paths) (get_or cs i x) (get_or cs i x ∷ drop (i + 1) cs) (begins s cs i x d) z le)
    ∙ append-nil (front s cs i)

pub dealt_items : (s : Setting) (cs : List Contact) (i : ℕ) (x : Contact) (J K : List Entry) → Deals s cs i → IsFree s cs i (get_or cs i x) → J ≡ front s cs i → K ≡ J ++ Seed (i % s.paths) (get_or cs i x) ∷ [] → K ≡ front s cs (i + 1)
dealt_items s cs i x J K d free was is = is ∙ ap (λ l. l ++ Seed (i % s.paths) (get_or cs i x) ∷ []) was ∙ sym (front_kept s cs i x d free)

pub dealt_map : (s : Setting) (cs : List Contact) (i : ℕ) (x : Contact) (m n o : Claims) → Deals s cs i → IsFree s cs i (get_or cs i x) → IsMap s (front s cs i) m → Keeps m n → Takes s n o (i % s.paths) (get_or cs i x) → IsMap s (front s cs (i + 1)) o
dealt_map s cs i x m n o d free h wider takes =
    let J = front s cs i in
    let l = (begins s cs i x d).legal in
    let f = fits_here s cs i x d free in
    subst (λ j. IsMap s j o) (sym (front_kept s cs i x d free)) (map_seeded s J (i % s.paths) (get_or cs i x) n o l f (seed_new s J (i % s.paths) (get_or cs i x) f) (map_wider s J m n h wider) takes)

-- the path that it is dealt to is there, and isn't full
pub dealt_within : (s : Setting) (cs : List Contact) (i : ℕ) (xs : List Path) → Deals s cs i → IsPaths s (front s cs i) xs → i % s.paths < length xs
dealt_within s cs i xs d h = (let z = d.some_path in let n = h.enough in omega arith)

-- no more seeds stand than were dealt
pub front_few : (s : Setting) (cs : List Contact) (i : ℕ) → Deals s cs i → length (front s cs i) ≤ i
front_few s [] i d = (let lt = d.here in absurd (omega arith))
front_few s (x ∷ cs) i d = (let short = (begins s (x ∷ cs) i x d).short in let n = long s (x ∷ cs) i d in omega arith)

pub dealt_few : (s : Setting) (cs : List Contact) (i : ℕ) (p : ℕ) → Deals s cs i → length (path p (front s cs i)) < max_path_contacts
dealt_few s cs i p d =
    let lt = d.here in
    let few = d.few in
    let small = d.small in
    let a = path_within p (front s cs i) in
    let b = front_few s cs i d in
    omega arith

pub dealt_paths : (s : Setting) (cs : List Contact) (i : ℕ) (c : Contact) (xs : List Path) (x y : Path) → Deals s cs i → IsFree s cs i (get_or cs i c) → IsPaths s (front s cs i) xs → x ≡ get_or xs (i % s.paths) x
    → y.near.items ≡ put (closeness s.target) x.near.items (get_or cs i c) → vec_capacity x.near ≤ vec_capacity y.near → y.fresh.items ≡ put (closeness s.target) x.fresh.items (get_or cs i c) → vec_capacity x.fresh ≤ vec_capacity y.fresh
    → y.count ≡ x.count + 1 → y.opens ≡ x.opens → y.queue ≡ x.queue
    → IsPaths s (front s cs (i + 1)) (set xs (i % s.paths) y)
dealt_paths s cs i c xs x y d free h at near near_room fresh fresh_room count opens queue =
    let J = front s cs i in
    let p = i % s.paths in
    let l = (begins s cs i c d).legal in
    let f = fits_here s cs i c d free in
    let lt = dealt_within s cs i xs d h in
    subst (λ j. IsPaths s j (set xs p y)) (sym (front_kept s cs i c d free))
    (paths_put s J (Seed p (get_or cs i c)) p xs y l f refl (eq-eqb p p refl) lt h
    (path_seeded s J p (get_or cs i c) x y l (seed_new s J p (get_or cs i c) f) (path_at s J xs p x h lt at) near near_room fresh fresh_room count opens queue))

-- nobody was asked
pub dealt_counts : (s : Setting) (cs : List Contact) (counts : Counts) → counts.asked ≡ 0 → counts.failed ≡ 0 → counts.turned ≡ 0 → Counted (seeded s.per_address s.paths cs) counts
dealt_counts s cs counts a f t =
    let J = seeded s.per_address s.paths cs in
    let only = seeded_seeds s.per_address s.paths cs in
    record { asked = a ∙ sym (ap length (seeds_asked J only)); failed = f ∙ sym (ap length (seeds_failed J only)); turned = t ∙ sym (ap length (seeds_turned J only)) }
