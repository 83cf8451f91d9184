-- A whole book, after one more entry.
use Rattle.std.proofs.Common.{◌≡◌, ℕ, ◌+◌, ◌*◌, ◌^◌, ◌<◌, ◌≤◌, List, [], ◌∷◌, ◌++◌, length, Bool, true, false, Some, unwrap_or, refl, sym, ap, subst, ◌∙◌, arith, set, get_or}
use Rattle.std.specs.Prelude.{drop, vec_capacity}
use Rattle.std.specs.List.{All}
use Rattle.std.proofs.lemmas.List.{length-append}
use Rattle.std.proofs.lemmas.Bool.{eq-eqb}
use Rattle.std.specs.declared.random_state.RandomState.{RandomState}
use Rattle.indexmap.specs.IndexMap.{IndexMap, get}
use Rattle.kad_base.specs.declared.types.ClaimRule.TheVariants.{Named, Asked}
use Rattle.kad_base.specs.declared.types.Contact.{Contact}
use Rattle.kad_base.specs.declared.types.Report.{Report}
use Rattle.kad_base.specs.Contacts.{among, without}
use Rattle.kad_distance.specs.Order.{closeness}
use Rattle.kad_distance.specs.KClosest.{put}
use Rattle.claim_book.specs.declared.types.Setting.{Setting}
use Rattle.claim_book.specs.declared.types.Cause.{Cause}
use Rattle.claim_book.specs.declared.types.Counts.{Counts}
use Rattle.claim_book.specs.declared.types.Thing.TheVariants.{Told}
use Rattle.claim_book.specs.declared.types.Entry.{Entry}
use Rattle.claim_book.specs.declared.types.Entry.TheVariants.{Ask, Heard, Lost, Taken, Turned}
use Rattle.claim_book.specs.declared.path.Path.{Path}
use Rattle.claim_book.specs.Journal.{ask_of, fail_of, turned_of, things_in, settles_on, asked, failed, turned, open_on, may_ask}
use Rattle.claim_book.specs.Legal.{Fits, is_of}
use Rattle.claim_book.specs.Room.{frees, IsBook}
use Rattle.claim_book.specs.Calls.{Counted}
use Rattle.claim_book.specs.declared.claim_map.Claims.{Claims}
use Rattle.claim_book.specs.declared.claim_map.Spot.{Spot}
use Rattle.claim_book.specs.Claims.{spot_eq, spot, shown, shown_on, IsKnown, asked_claim, ended_claim, Sets, Takes, Keeps, IsMap}
use Rattle.claim_book.specs.Index.{IsPath, IsPaths, IsWhole, IsSettledOnly, Lent}
use Rattle.claim_book.proofs.More.{asked_more, failed_more, turned_more}
use Rattle.claim_book.proofs.Claims.{may_ask_on_path, asked_on_path, open_says}
use Rattle.claim_book.proofs.Ends.{path_below, first_below}
use Rattle.claim_book.proofs.Bounds.{asked_few, failed_few, turned_few}
use Rattle.claim_book.proofs.Unsettled.{settles}
use Rattle.claim_book.proofs.Kept.{IsOwed, book_put, book_heard}
use Rattle.claim_book.proofs.Mapped.{map_asked, map_heard, map_lost, map_taken, map_quiet, map_wider}
use Rattle.claim_book.proofs.Pathed.{paths_put, paths_asked, paths_lent, paths_like, path_at, path_asked, path_heard, path_lost, path_passed, path_taken, path_wider, Quiet, quiet, quiet_turned}

-- ---- the numbers

counted_more : (J : List Entry) (e : Entry) (counts counts' : Counts) → Counted J counts → counts'.asked ≡ counts.asked + length (ask_of e) → counts'.failed ≡ counts.failed + length (fail_of e) → counts'.turned ≡ counts.turned + length (turned_of e) → Counted (J ++ e ∷ []) counts'
counted_more J e counts counts' h a f t = record {
  asked = (let was = h.asked in omega (arith, ap length (asked_more J e), length-append (asked J) (ask_of e)));
  failed = (let was = h.failed in omega (arith, ap length (failed_more J e), length-append (failed J) (fail_of e)));
  turned = (let was = h.turned in omega (arith, ap length (turned_more J e), length-append (turned J) (turned_of e)));
}

pub few_asked : (s : Setting) (J : List Entry) (owed room : ℕ) (counts : Counts) → IsBook s J owed room → Counted J counts → counts.asked + 1 < 2 ^ 32
few_asked s J owed room counts b h = (let few = asked_few s J b.some_path b.small b.legal in let p = b.few_paths in let is = h.asked in omega arith)

pub few_failed : (s : Setting) (J : List Entry) (owed room : ℕ) (counts : Counts) → IsBook s J owed room → Counted J counts → counts.failed + 1 < 2 ^ 32
few_failed s J owed room counts b h = (let few = failed_few s J b.some_path b.small b.legal in let p = b.few_paths in let is = h.failed in omega arith)

pub few_turned : (s : Setting) (J : List Entry) (owed room : ℕ) (counts : Counts) → IsBook s J owed room → Counted J counts → counts.turned + 1 < 2 ^ 32
few_turned s J owed room counts b h = (let few = turned_few s J b.some_path b.small b.legal in let p = b.few_paths in let is = h.turned in omega arith)

-- ---- the path of an entry is one of the lookup's

pub ask_within : (s : Setting) (J : List Entry) (owed room : ℕ) (m : Claims) (xs : List Path) (counts : Counts) (p : ℕ) (c : Contact) → IsWhole s J owed room m xs counts → may_ask s p J ≡ Some c → p < length xs
ask_within s J owed room m xs counts p c w f =
    let below = path_below s J p c w.book.some_path w.book.legal (may_ask_on_path s p J c f) in
    let enough = w.paths.enough in
    omega arith

-- what is kept of a path that is there
pub path_here : (s : Setting) (J : List Entry) (owed room : ℕ) (m : Claims) (xs : List Path) (counts : Counts) (p : ℕ) (x : Path) → IsWhole s J owed room m xs counts → p < s.paths → x ≡ get_or xs p x → IsPath s J p x
path_here s J owed room m xs counts p x w lt is = path_at s J xs p x w.paths (let n = w.paths.enough in omega arith) is

pub open_within : (s : Setting) (J : List Entry) (owed room : ℕ) (m : Claims) (xs : List Path) (counts : Counts) (p : ℕ) (c : Contact) → IsWhole s J owed room m xs counts → among (open_on p J) c ≡ true → p < length xs
open_within s J owed room m xs counts p c w f =
    let below = path_below s J p c w.book.some_path w.book.legal (asked_on_path s J w.book.legal p c (open_says p J c f).0) in
    let enough = w.paths.enough in
    omega arith

pub settles_within : (s : Setting) (J : List Entry) (owed room : ℕ) (m : Claims) (xs : List Path) (counts : Counts) (p : ℕ) (e : Entry) → IsWhole s J owed room m xs counts → Fits s J e → settles_on p e ≡ true → p < length xs
settles_within s J owed room m xs counts p e w f h =
    let at = settles s J e p f h in
    let below = first_below s J p at.thing w.book.some_path w.book.legal at.front in
    let enough = w.paths.enough in
    omega arith

-- ---- the whole

whole_by : (s : Setting) (J K : List Entry) (e : Entry) (owed owed' room room' : ℕ) (m n : Claims) (xs zs : List Path) (counts counts' : Counts)
    → IsWhole s J owed room m xs counts → Fits s J e → IsOwed e → K ≡ J ++ e ∷ [] → owed' + frees e ≡ owed → length K + owed' ≤ room'
    → IsMap s (J ++ e ∷ []) n → IsPaths s (J ++ e ∷ []) zs → Counted (J ++ e ∷ []) counts'
    → IsWhole s K owed' room' n zs counts'
whole_by s J K e owed owed' room room' m n xs zs counts counts' w f o is less has map paths counted = subst (λ j. IsWhole s j owed' room' n zs counts') (sym is) (record {
  book = book_put s J e owed owed' room room' w.book f o less (let k = ap length is in omega arith);
  map = map;
  paths = paths;
  counted = counted;
})

whole_put : (s : Setting) (J K : List Entry) (e : Entry) (p : ℕ) (owed owed' room room' : ℕ) (m n : Claims) (xs : List Path) (y : Path) (counts counts' : Counts)
    → IsWhole s J owed room m xs counts → Fits s J e → IsOwed e → ask_of e ≡ [] → is_of p e ≡ true → p < length xs → K ≡ J ++ e ∷ [] → owed' + frees e ≡ owed → length K + owed' ≤ room'
    → IsMap s (J ++ e ∷ []) n → IsPath s (J ++ e ∷ []) p y → Counted (J ++ e ∷ []) counts'
    → IsWhole s K owed' room' n (set xs p y) counts'
whole_put s J K e p owed owed' room room' m n xs y counts counts' w f o asks of_p lt is less has map mine counted =
    whole_by s J K e owed owed' room room' m n xs (set xs p y) counts counts' w f o is less has map (paths_put s J e p xs y w.book.legal f asks of_p lt w.paths mine) counted

-- after an ask, where a contact is on one path alone
pub whole_asked : (s : Setting) (J K : List Entry) (p : ℕ) (c : Contact) (owed owed' room room' : ℕ) (m n : Claims) (xs : List Path) (x y : Path) (counts counts' : Counts)
    → IsWhole s J owed room m xs counts → s.claim ≡ Named → may_ask s p J ≡ Some c → K ≡ J ++ Ask p c ∷ [] → owed' + 1 ≡ owed → length K + owed' ≤ room' → Sets m n c (asked_claim s.claim p (shown m c))
    → x ≡ get_or xs p x → y.near ≡ x.near → y.fresh.items ≡ without x.fresh.items (c ∷ []) → vec_capacity x.fresh ≤ vec_capacity y.fresh → y.count ≡ x.count → y.opens ≡ x.opens + 1 → y.queue ≡ x.queue
    → counts'.asked ≡ counts.asked + 1 → counts'.failed ≡ counts.failed → counts'.turned ≡ counts.turned
    → IsWhole s K owed' room' n (set xs p y) counts'
whole_asked s J K p c owed owed' room room' m n xs x y counts counts' w named f is less has sets at near fresh fresh_room count opens queue a b d =
    let lt = ask_within s J owed room m xs counts p c w f in
    whole_by s J K (Ask p c) owed owed' room room' m n xs (set xs p y) counts counts' w f tt is less has
    (map_asked s J p c m n w.book.legal f w.map sets)
    (paths_asked s J p c xs y named w.book.legal f lt w.paths (path_asked s J p c x y w.book.legal f (path_at s J xs p x w.paths lt at) near fresh fresh_room count opens queue))
    (counted_more J (Ask p c) counts counts' w.counted a (omega arith) (omega arith))

-- and where other paths may have it, which lend it
pub whole_lent : (s : Setting) (J K : List Entry) (p : ℕ) (c : Contact) (owed owed' room room' : ℕ) (m n : Claims) (xs zs : List Path) (x y : Path) (counts counts' : Counts)
    → IsWhole s J owed room m xs counts → s.claim ≡ Asked → may_ask s p J ≡ Some c → K ≡ J ++ Ask p c ∷ [] → owed' + 1 ≡ owed → length K + owed' ≤ room' → Sets m n c (asked_claim s.claim p (shown m c))
    → x ≡ get_or xs p x → y.near ≡ x.near → y.fresh.items ≡ without x.fresh.items (c ∷ []) → vec_capacity x.fresh ≤ vec_capacity y.fresh → y.count ≡ x.count → y.opens ≡ x.opens + 1 → y.queue ≡ x.queue
    → length zs ≡ length (set xs p y) → ((q : ℕ) (d : Path) → q < length zs → Lent n p c q (get_or (set xs p y) q d) (get_or zs q d))
    → counts'.asked ≡ counts.asked + 1 → counts'.failed ≡ counts.failed → counts'.turned ≡ counts.turned
    → IsWhole s K owed' room' n zs counts'
whole_lent s J K p c owed owed' room room' m n xs zs x y counts counts' w by_ask f is less has sets at near fresh fresh_room count opens queue as_many lent a b d =
    let lt = ask_within s J owed room m xs counts p c w f in
    whole_by s J K (Ask p c) owed owed' room room' m n xs zs counts counts' w f tt is less has
    (map_asked s J p c m n w.book.legal f w.map sets)
    (paths_lent s J p c n xs zs y w.book.legal f (λ q. on_same m n q c sets.spots ∙ w.map.on_paths by_ask q c) lt w.paths
    (path_asked s J p c x y w.book.legal f (path_at s J xs p x w.paths lt at) near fresh fresh_room count opens queue) as_many lent)
    (counted_more J (Ask p c) counts counts' w.counted a (omega arith) (omega arith))
  where
    on_same : (m n : Claims) (q : ℕ) (c : Contact) → n.spots ≡ m.spots → shown_on n q c ≡ shown_on m q c
    on_same m n q c e = ap (λ (t : IndexMap Spot Bool RandomState). unwrap_or (get spot_eq t (spot q c)) false) e

pub whole_lost : (s : Setting) (J K : List Entry) (p : ℕ) (c : Contact) (cause : Cause) (owed owed' room room' : ℕ) (m n : Claims) (xs : List Path) (x y : Path) (counts counts' : Counts)
    → IsWhole s J owed room m xs counts → among (open_on p J) c ≡ true → K ≡ J ++ Lost p c cause ∷ [] → owed' + 1 ≡ owed → length K + owed' ≤ room' → Sets m n c (ended_claim (shown m c))
    → x ≡ get_or xs p x → y.near.items ≡ without x.near.items (c ∷ []) → vec_capacity x.near ≤ vec_capacity y.near → y.fresh ≡ x.fresh → y.count ≡ x.count → y.opens + 1 ≡ x.opens → y.queue ≡ x.queue
    → counts'.asked ≡ counts.asked → counts'.failed ≡ counts.failed + 1 → counts'.turned ≡ counts.turned
    → IsWhole s K owed' room' n (set xs p y) counts'
whole_lost s J K p c cause owed owed' room room' m n xs x y counts counts' w f is less has sets at near near_room fresh count opens queue a b d =
    let lt = open_within s J owed room m xs counts p c w f in
    whole_put s J K (Lost p c cause) p owed owed' room room' m n xs y counts counts' w f tt refl (eq-eqb p p refl) lt is less has
    (map_lost s J p c cause m n w.book.legal f w.map sets)
    (path_lost s J p c cause x y w.book.legal f (path_at s J xs p x w.paths lt at) near near_room fresh count opens queue)
    (counted_more J (Lost p c cause) counts counts' w.counted (omega arith) b (omega arith))

-- what settles the first thing of path p, and no more
whole_quiet : (s : Setting) (J K : List Entry) (e : Entry) (p : ℕ) (owed owed' room room' : ℕ) (m : Claims) (xs : List Path) (x y : Path) (counts counts' : Counts)
    → IsWhole s J owed room m xs counts → Fits s J e → Quiet p e → K ≡ J ++ e ∷ [] → owed' + frees e ≡ owed → length K + owed' ≤ room'
    → x ≡ get_or xs p x → y.near ≡ x.near → y.fresh ≡ x.fresh → y.count ≡ x.count → y.opens ≡ x.opens → y.queue.items ≡ drop 1 x.queue.items
    → Counted (J ++ e ∷ []) counts'
    → IsWhole s K owed' room' m (set xs p y) counts'
whole_quiet s J K e p owed owed' room room' m xs x y counts counts' w f q is less has at near fresh count opens queue counted =
    let lt = settles_within s J owed room m xs counts p e w f q.settles in
    whole_put s J K e p owed owed' room room' m m xs y counts counts' w f q.owed q.none_asked q.of_path lt is less has
    (map_quiet s J e m w.book.legal f q.none_held q.no_path q.none_asked q.no_answer q.no_fail q.no_things w.map)
    (path_passed s J e p x y q (path_at s J xs p x w.paths lt at) near fresh count opens queue)
    counted

pub whole_turned : (s : Setting) (J K : List Entry) (p : ℕ) (c : Contact) (owed owed' room room' : ℕ) (m : Claims) (xs : List Path) (x y : Path) (counts counts' : Counts)
    → IsWhole s J owed room m xs counts → Fits s J (Turned p c) → K ≡ J ++ Turned p c ∷ [] → owed' + 3 ≡ owed → length K + owed' ≤ room'
    → x ≡ get_or xs p x → y.near ≡ x.near → y.fresh ≡ x.fresh → y.count ≡ x.count → y.opens ≡ x.opens → y.queue.items ≡ drop 1 x.queue.items
    → counts'.asked ≡ counts.asked → counts'.failed ≡ counts.failed → counts'.turned ≡ counts.turned + 1
    → IsWhole s K owed' room' m (set xs p y) counts'
whole_turned s J K p c owed owed' room room' m xs x y counts counts' w f is less has at near fresh count opens queue a b d =
    whole_quiet s J K (Turned p c) p owed owed' room room' m xs x y counts counts' w f (quiet_turned p c) is less has at near fresh count opens queue
    (counted_more J (Turned p c) counts counts' w.counted (omega arith) (omega arith) d)

none_turned : (p : ℕ) (e : Entry) → IsSettledOnly p e → turned_of e ≡ []
none_turned p (Turned q c) h = absurd h
none_turned p other h = refl

pub whole_passed : (s : Setting) (J K : List Entry) (e : Entry) (p : ℕ) (owed owed' room room' : ℕ) (m : Claims) (xs : List Path) (x y : Path) (counts : Counts)
    → IsWhole s J owed room m xs counts → Fits s J e → IsSettledOnly p e → K ≡ J ++ e ∷ [] → owed' + frees e ≡ owed → length K + owed' ≤ room'
    → x ≡ get_or xs p x → y.near ≡ x.near → y.fresh ≡ x.fresh → y.count ≡ x.count → y.opens ≡ x.opens → y.queue.items ≡ drop 1 x.queue.items
    → IsWhole s K owed' room' m (set xs p y) counts
whole_passed s J K e p owed owed' room room' m xs x y counts w f only is less has at near fresh count opens queue =
    let q = quiet p e only in
    whole_quiet s J K e p owed owed' room room' m xs x y counts counts w f q is less has at near fresh count opens queue
    (counted_more J e counts counts w.counted (omega (arith, ap length q.none_asked)) (omega (arith, ap length q.no_fail)) (omega (arith, ap length (none_turned p e only))))

pub whole_taken : (s : Setting) (J K : List Entry) (p : ℕ) (c : Contact) (owed owed' room room' : ℕ) (m n : Claims) (xs : List Path) (x y : Path) (counts : Counts)
    → IsWhole s J owed room m xs counts → Fits s J (Taken p c) → K ≡ J ++ Taken p c ∷ [] → owed' + 1 ≡ owed → length K + owed' ≤ room' → Takes s m n p c
    → x ≡ get_or xs p x → y.near.items ≡ put (closeness s.target) x.near.items c → vec_capacity x.near ≤ vec_capacity y.near → y.fresh.items ≡ put (closeness s.target) x.fresh.items c → vec_capacity x.fresh ≤ vec_capacity y.fresh
    → y.count ≡ x.count + 1 → y.opens ≡ x.opens → y.queue.items ≡ drop 1 x.queue.items
    → IsWhole s K owed' room' n (set xs p y) counts
whole_taken s J K p c owed owed' room room' m n xs x y counts w f is less has sets at near near_room fresh fresh_room count opens queue =
    let lt = settles_within s J owed room m xs counts p (Taken p c) w f (eq-eqb p p refl) in
    whole_put s J K (Taken p c) p owed owed' room room' m n xs y counts counts w f tt refl (eq-eqb p p refl) lt is less has
    (map_taken s J p c m n w.book.legal f w.map sets)
    (path_taken s J p c x y w.book.legal f (path_at s J xs p x w.paths lt at) near near_room fresh fresh_room count opens queue)
    (counted_more J (Taken p c) counts counts w.counted (omega arith) (omega arith) (omega arith))

-- ---- an answer: first room, then the entry

pub whole_wider : (s : Setting) (J K : List Entry) (p : ℕ) (owed room room' : ℕ) (m n : Claims) (xs : List Path) (x y : Path) (counts : Counts)
    → IsWhole s J owed room m xs counts → p < length xs → K ≡ J → length K + owed ≤ room' → Keeps m n
    → x ≡ get_or xs p x → y.near ≡ x.near → y.fresh ≡ x.fresh → y.count ≡ x.count → y.opens ≡ x.opens → y.queue.items ≡ x.queue.items
    → IsWhole s K owed room' n (set xs p y) counts
whole_wider s J K p owed room room' m n xs x y counts w lt is has kept at near fresh count opens queue = subst (λ j. IsWhole s j owed room' n (set xs p y) counts) (sym is) (record {
  book = record {
    legal = w.book.legal;
    some_path = w.book.some_path;
    few_paths = w.book.few_paths;
    small = w.book.small;
    all_owed = w.book.all_owed;
    fits = (let k = ap length is in omega arith);
  };
  map = map_wider s J m n w.map kept;
  paths = paths_like s J p xs y lt w.paths (path_wider s J p x y (path_at s J xs p x w.paths lt at) near fresh count opens queue);
  counted = w.counted;
})

-- the same where a contact of the path is open, which it stays
pub wider_open : (s : Setting) (J K : List Entry) (p : ℕ) (c : Contact) (owed room room' : ℕ) (m n : Claims) (xs : List Path) (x y : Path) (counts : Counts)
    → IsWhole s J owed room m xs counts → among (open_on p J) c ≡ true → K ≡ J → length K + owed ≤ room' → Keeps m n
    → x ≡ get_or xs p x → y.near ≡ x.near → y.fresh ≡ x.fresh → y.count ≡ x.count → y.opens ≡ x.opens → y.queue.items ≡ x.queue.items
    → IsWhole s K owed room' n (set xs p y) counts × (among (open_on p K) c ≡ true)
wider_open s J K p c owed room room' m n xs x y counts w open_ is has kept at near fresh count opens queue = (
  whole_wider s J K p owed room room' m n xs x y counts w (open_within s J owed room m xs counts p c w open_) is has kept at near fresh count opens queue,
  subst (λ j. among (open_on p j) c ≡ true) (sym is) open_,
)

pub whole_heard : (s : Setting) (J K : List Entry) (p : ℕ) (c : Contact) (reports : List Report) (owed owed' room room' : ℕ) (m n : Claims) (xs : List Path) (x y : Path) (counts : Counts)
    → IsWhole s J owed room m xs counts → Fits s J (Heard p c reports) → K ≡ J ++ Heard p c reports ∷ [] → owed' + 1 ≡ owed + (3 * length reports + 1) → length K + owed' ≤ room'
    → All (λ r. IsKnown s p m (Told r)) reports → Sets m n c (ended_claim (shown m c))
    → x ≡ get_or xs p x → y.near ≡ x.near → y.fresh ≡ x.fresh → y.count ≡ x.count → y.opens + 1 ≡ x.opens → y.queue.items ≡ x.queue.items ++ things_in c reports
    → IsWhole s K owed' room' n (set xs p y) counts
whole_heard s J K p c reports owed owed' room room' m n xs x y counts w f is more has knows sets at near fresh count opens queue =
    let e = Heard p c reports in
    let l = w.book.legal in
    let lt = open_within s J owed room m xs counts p c w f.0 in
    subst (λ j. IsWhole s j owed' room' n (set xs p y) counts) (sym is) (record {
      book = book_heard s J p c reports owed owed' room room' w.book f more (let k = ap length is in omega arith);
      map = map_heard s J p c reports m n l f w.map knows sets;
      paths = paths_put s J e p xs y l f refl (eq-eqb p p refl) lt w.paths (path_heard s J p c reports x y l f.0 (path_at s J xs p x w.paths lt at) near fresh count opens queue);
      counted = counted_more J e counts counts w.counted (omega arith) (omega arith) (omega arith);
    })
