-- The rows that a call leaves are determined by those before it.
use Rattle.std.proofs.Common.{◌≡◌, ℕ, zero, suc, ◌+◌, ◌-◌, ◌<◌, ◌≤◌, ◌||◌, ◌&&◌, List, [], ◌∷◌, ◌++◌, length, take, drop, Bool, true, false, cond, not, refl, sym, ap, subst, ◌∙◌, arith, leb-true}
use Rattle.std.specs.Prelude.{filter, nat_le}
use Rattle.std.specs.List.{All, list_any}
use Rattle.std.proofs.lemmas.Bool.{le-leb}
use Rattle.std.proofs.lemmas.List.{append_assoc, append-nil, length-append, take_at, drop_at}
use Rattle.std.proofs.lemmas.List.Elements.{All-append, All-cons}
use Rattle.kad_base.specs.declared.types.Id.{Id}
use Rattle.kad_base.specs.declared.types.Contact.{Contact}
use Rattle.kad_base.specs.Contacts.{same}
use Rattle.bucket_tree.specs.declared.types.Live.{Live}
use Rattle.bucket_tree.specs.declared.types.Seen.{Seen}
use Rattle.bucket_tree.specs.declared.types.Seen.TheVariants.{Added, Moved, Spared, Conflict, Own}
use Rattle.bucket_tree.specs.declared.types.Gone.{Gone}
use Rattle.bucket_tree.specs.declared.types.Gone.TheVariants.{Kept, Removed, Replaced, Unknown}
use Rattle.bucket_tree.specs.Partition.{id_bits, begins}
use Rattle.bucket_tree.specs.Rows.{RowState, BucketsState, SoundRows, contact_of, same_id, may_split}
use Rattle.bucket_tree.specs.BucketSteps.{knows, knows_id, half, NeedsSplit, RowSeen, SeenStep, is_own, in_row, split, RowFailed, FailedStep, InItsRow, IsReplaced}
use Rattle.bucket_tree.proofs.Begun.{begins-halves, and_right}
use Rattle.bucket_tree.proofs.OneBit.{id_bits-length}
use Rattle.bucket_tree.proofs.Counted.{any-map}
use Rattle.bucket_tree.proofs.Every.{all-here, count-append}
use Rattle.bucket_tree.proofs.Ids.{same_id-contact}
use Rattle.bucket_tree.proofs.Places.{covers, one-covers}
use Rattle.sibling_list.specs.Siblings.{SiblingList}
use Rattle.contact_table.specs.TableState.{TableState, siblings_of}
use Rattle.contact_table.specs.TableStep.{with_rows, after_seen, seen_siblings, failed_siblings}
use Rattle.contact_table.specs.TakenIn.{IsTakenIn}
use Rattle.contact_table.specs.Told.{held_by}
use Rattle.contact_table.specs.Vouched.{Proofs, of_held}
use Rattle.contact_table.specs.RowsAfter.{put_rows, needs_split, taken, seen_row, seen_rows, failed_row, failed_rows}

put-past : (f : RowState → List RowState) (id : Id) (front rest : List RowState) → length (filter (covers id) front) ≡ 0 → put_rows f id (front ++ rest) ≡ front ++ put_rows f id rest
put-past f id [] rest none = refl
put-past f id (row ∷ front) rest none = go (covers id row) none (λ e. put-past f id front rest e)
  where
    go : (t : Bool) → length (cond t (row ∷ filter (covers id) front) (filter (covers id) front)) ≡ 0 → (length (filter (covers id) front) ≡ 0 → put_rows f id (front ++ rest) ≡ front ++ put_rows f id rest)
        → cond t (f row ++ (front ++ rest)) (row ∷ put_rows f id (front ++ rest)) ≡ row ∷ (front ++ put_rows f id rest)
    go true e g = absurd (omega (arith, e))
    go false e g = ap (λ (l : List RowState). row ∷ l) (g e)

put-here : (f : RowState → List RowState) (id : Id) (row : RowState) (back : List RowState) → covers id row ≡ true → put_rows f id (row ∷ back) ≡ f row ++ back
put-here f id row back e = ap (λ (t : Bool). cond t (f row ++ back) (row ∷ put_rows f id back)) e

put-in : (f : RowState → List RowState) (id : Id) (front : List RowState) (row : RowState) (back : List RowState) → length (filter (covers id) front) ≡ 0 → covers id row ≡ true → put_rows f id (front ++ row ∷ back) ≡ front ++ (f row ++ back)
put-in f id front row back none e = put-past f id front (row ∷ back) none ∙ ap (λ (l : List RowState). front ++ l) (put-here f id row back e)

begins-fits : (p w : List Bool) → begins p w ≡ true → length p ≤ length w
begins-fits [] w e = omega arith
begins-fits (x ∷ p) [] e = absurd cc
begins-fits (x ∷ p) (y ∷ w) e = let le = begins-fits p w (and_right _ _ e) in omega (arith, le)

any-less : (p q : Live → Bool) → ((x : Live) → p x ≡ true → q x ≡ true) → (xs : List Live) → list_any q xs ≡ false → list_any p xs ≡ false
any-less p q f [] e = refl
any-less p q f (x ∷ xs) e = go (p x) (q x) (f x) e (any-less p q f xs)
  where
    go : (s t : Bool) → (s ≡ true → t ≡ true) → (t || list_any q xs) ≡ false → (list_any q xs ≡ false → list_any p xs ≡ false) → (s || list_any p xs) ≡ false
    go true true g h r = absurd cc
    go true false g h r = let k = g refl in absurd cc
    go false true g h r = absurd cc
    go false false g h r = r h

not-leb : (a b : ℕ) → b < a → nat_le a b ≡ false
not-leb a b lt = go (nat_le a b) refl
  where
    go : (t : Bool) → nat_le a b ≡ t → nat_le a b ≡ false
    go true e = let le = leb-true a b e in absurd (omega (arith, le, lt))
    go false e = e

pub unknown : (row : RowState) (c : Contact) → knows_id row c.id ≡ false → knows row c ≡ false
unknown row c e = any-map contact_of (same c) row.live ∙ any-less (λ (x : Live). same c x.contact) (λ (x : Live). same_id x.contact.id c.id) (λ x s. same_id-contact c x.contact s) row.live e

taken-is : (k : ℕ) (c : Contact) (row row' : RowState) (seen : Seen) → RowSeen k c row seen row' → row' ≡ taken k c row
taken-is k c row row' Moved s = s.1 ∙ sym (rw (s.0) refl)
taken-is k c row row' Conflict s = s.2 ∙ sym (rw (s.0, s.1) refl)
taken-is k c row row' Added s = let u = unknown row c s.0 in let l = not-leb k (length row.live) s.1 in s.2 ∙ sym (rw (u, s.0, l) refl)
taken-is k c row row' Spared s = let u = unknown row c s.0 in let l = le-leb k (length row.live) s.1 in s.2 ∙ sym (rw (u, s.0, l) refl)
taken-is k c row row' Own s = absurd s

module _ (own : Id) (k b : ℕ) where
  needs-true : (id : Id) (row : RowState) → NeedsSplit own k b id row → needs_split own k b id row ≡ true
  needs-true id row n = let l = le-leb k (length row.live) n.full in let f = n.new in let s = n.splits in rw (f, l, s) refl

  needs-false : (id : Id) (row : RowState) → (NeedsSplit own k b id row → ⊥) → needs_split own k b id row ≡ false
  needs-false id row n = go (knows_id row id) (nat_le k (length row.live)) (may_split own b row.prefix) refl refl refl
    where
      go : (x y z : Bool) → knows_id row id ≡ x → nat_le k (length row.live) ≡ y → may_split own b row.prefix ≡ z → (not x && (y && z)) ≡ false
      go true y z e f g = refl
      go false false z e f g = refl
      go false true false e f g = refl
      go false true true e f g = absurd (n (record { new = e; full = leb-true k (length row.live) f; splits = g }))

  whole-row : (n : ℕ) (c : Contact) (row : RowState) → (NeedsSplit own k b c.id row → ⊥) → seen_row n own k b c row ≡ taken k c row ∷ []
  whole-row zero c row w = refl
  whole-row (suc n) c row w = ap (λ (t : Bool). cond t (put_rows (seen_row n own k b c) c.id (half false row ∷ half true row ∷ [])) (taken k c row ∷ [])) (needs-false c.id row w)

  -- some row covers the contact that is seen by a row
  pub some-covers : (c : Contact) (rows after : List RowState) (seen : Seen) → SeenStep own k b c rows seen after → same_id c.id own ≡ false → 1 ≤ length (filter (covers c.id) rows)
  some-covers c rows after seen (is_own e) other = absurd cc
  some-covers c rows after seen (in_row front back row row' o e here w s f) other = there front back row e here
    where
      there : (front back : List RowState) (row : RowState) → rows ≡ front ++ row ∷ back → covers c.id row ≡ true → 1 ≤ length (filter (covers c.id) rows)
      there front back row e here =
          let all = ap (λ (l : List RowState). length (filter (covers c.id) l)) e ∙ count-append (covers c.id) front (row ∷ back) in
          let one = ap (λ (t : Bool). length (cond t (row ∷ filter (covers c.id) back) (filter (covers c.id) back))) here in
          omega (arith, all, one)
  some-covers c rows after seen (split front back row o e here n step) other = there front back row e here
    where
      there : (front back : List RowState) (row : RowState) → rows ≡ front ++ row ∷ back → covers c.id row ≡ true → 1 ≤ length (filter (covers c.id) rows)
      there front back row e here =
          let all = ap (λ (l : List RowState). length (filter (covers c.id) l)) e ∙ count-append (covers c.id) front (row ∷ back) in
          let one = ap (λ (t : Bool). length (cond t (row ∷ filter (covers c.id) back) (filter (covers c.id) back))) here in
          omega (arith, all, one)

put-two : (f : RowState → List RowState) (id : Id) (low high : RowState) (back : List RowState) (s t : Bool) → (s || t) ≡ true
    → cond s (f low ++ high ∷ back) (low ∷ cond t (f high ++ back) (high ∷ put_rows f id back)) ≡ cond s (f low ++ high ∷ []) (low ∷ cond t (f high ++ []) (high ∷ [])) ++ back
put-two f id low high back true t e = sym (append_assoc (f low) (high ∷ []) back)
put-two f id low high back false true e = ap (λ (l : List RowState). low ∷ (l ++ back)) (sym (append-nil (f high)))
put-two f id low high back false false e = absurd cc

put-same : (id : Id) (rows : List RowState) → put_rows (λ row. row ∷ []) id rows ≡ rows
put-same id [] = refl
put-same id (row ∷ rows) = go (covers id row) (put-same id rows)
  where
    go : (t : Bool) → put_rows (λ r. r ∷ []) id rows ≡ rows → cond t (row ∷ rows) (row ∷ put_rows (λ r. r ∷ []) id rows) ≡ row ∷ rows
    go true e = refl
    go false e = ap (λ (l : List RowState). row ∷ l) e

replaced-is : (c : Contact) (row row' : RowState) → IsReplaced c row row' → row' ≡ failed_row Replaced c row
replaced-is c row row' r =
    let len = ap length r.spares ∙ length-append r.older (r.newest ∷ []) in
    let n : length r.older ≡ length row.spares - 1 = omega (arith, len) in
    let older : take (length row.spares - 1) row.spares ≡ r.older = ap (take (length row.spares - 1)) r.spares ∙ take_at r.older (r.newest ∷ []) (length row.spares - 1) n in
    let newest : drop (length row.spares - 1) row.spares ≡ r.newest ∷ [] = ap (drop (length row.spares - 1)) r.spares ∙ drop_at r.older (r.newest ∷ []) (length row.spares - 1) n in
    r.after_is ∙ sym (rw (older, newest) refl)

failed-row-is : (c : Contact) (row row' : RowState) (gone : Gone) → RowFailed c row gone row' → row' ≡ failed_row gone c row
failed-row-is c row row' Kept s = s.1
failed-row-is c row row' Removed s = s.2
failed-row-is c row row' Replaced s = replaced-is c row row' s.1
failed-row-is c row row' Unknown s = s.1

-- the covering row alone decides, so no other does
pub one-row : (id : Id) (front : List RowState) (row : RowState) (back : List RowState) → length (filter (covers id) (front ++ row ∷ back)) ≤ 1 → covers id row ≡ true → (length (filter (covers id) front) ≡ 0) × (length (filter (covers id) back) ≡ 0)
one-row id front row back le e =
    let parts = count-append (covers id) front (row ∷ back) in
    let here = ap (λ (t : Bool). length (cond t (row ∷ filter (covers id) back) (filter (covers id) back))) e in
    (omega (arith, le, parts, here), omega (arith, le, parts, here))

-- what a split leaves: one half covers, and its prefix still fits
pub record Halves (id : Id) (row : RowState) : Type 0 where
  pub fits : length row.prefix < 160
  pub some : (covers id (half false row) || covers id (half true row)) ≡ true
  pub count : length (filter (covers id) (half false row ∷ half true row ∷ [])) ≤ 1

two-count : (id : Id) (low high : RowState) (s t : Bool) → covers id low ≡ s → covers id high ≡ t → length (filter (covers id) (low ∷ high ∷ [])) ≡ length (cond s (low ∷ cond t (high ∷ []) []) (cond t (high ∷ []) []))
two-count id low high s t e f =
    ap (λ (x : Bool). length (cond x (low ∷ filter (covers id) (high ∷ [])) (filter (covers id) (high ∷ [])))) e ∙ ap (λ (y : Bool). length (cond s (low ∷ cond y (high ∷ []) []) (cond y (high ∷ []) []))) f

pub halves-of : (id : Id) (row : RowState) → covers id row ≡ true → 1 ≤ length (filter (covers id) (half false row ∷ half true row ∷ [])) → Halves id row
halves-of id row here le = go (covers id (half false row)) (covers id (half true row)) refl refl le
  where
    fit : (bit : Bool) → covers id (half bit row) ≡ true → length row.prefix < 160
    fit bit e =
        let f = begins-fits (row.prefix ++ bit ∷ []) (id_bits id) e in
        let l = length-append row.prefix (bit ∷ []) in
        let w = id_bits-length id in
        omega (arith, f, l, w)

    other : length row.prefix < 160 → covers id (half true row) ≡ not (covers id (half false row))
    other lt = let w = id_bits-length id in begins-halves row.prefix (id_bits id) here (omega (arith, lt, w))

    go : (s t : Bool) → covers id (half false row) ≡ s → covers id (half true row) ≡ t → 1 ≤ length (filter (covers id) (half false row ∷ half true row ∷ [])) → Halves id row
    go true true e f le = let g = sym f ∙ other (fit false e) ∙ ap not e in absurd cc
    go true false e f le = record { fits = fit false e; some = ap (λ (x : Bool). x || covers id (half true row)) e; count = (let n = two-count id (half false row) (half true row) true false e f in omega (arith, n)) }
    go false true e f le = record { fits = fit true f; some = ap (λ (x : Bool). x || covers id (half true row)) e ∙ f; count = (let n = two-count id (half false row) (half true row) false true e f in omega (arith, n)) }
    go false false e f le = let n = two-count id (half false row) (half true row) false false e f in absurd (omega (arith, n, le))

-- a row that covers the identifier has few bits left
abbrev Deep : ℕ → Id → RowState → Type 0
Deep n id row = covers id row ≡ true → 160 ≤ n + length row.prefix

split-all : (n : ℕ) (id : Id) (front : List RowState) (row : RowState) (back : List RowState) → All (Deep (suc n) id) (front ++ row ∷ back) → covers id row ≡ true → All (Deep n id) front → All (Deep n id) back
    → All (Deep n id) (front ++ half false row ∷ half true row ∷ back)
split-all n id front row back a e f z =
    let here = all-here (Deep (suc n) id) front row back a e in
    let zero_len = length-append row.prefix (false ∷ []) in
    let one_len = length-append row.prefix (true ∷ []) in
    All-append (Deep n id) front (half false row ∷ half true row ∷ back) f
    (All-cons (Deep n id) (half false row) (half true row ∷ back) (λ _. omega (arith, here, zero_len)) (All-cons (Deep n id) (half true row) back (λ _. omega (arith, here, one_len)) z))

none-deep : (n : ℕ) (id : Id) (rows : List RowState) → length (filter (covers id) rows) ≡ 0 → All (Deep n id) rows
none-deep n id [] e = λ i d lt. absurd (omega (arith, lt))
none-deep n id (row ∷ rows) e = go (covers id row) refl e (λ f. none-deep n id rows f)
  where
    go : (t : Bool) → covers id row ≡ t → length (cond t (row ∷ filter (covers id) rows) (filter (covers id) rows)) ≡ 0 → (length (filter (covers id) rows) ≡ 0 → All (Deep n id) rows) → All (Deep n id) (row ∷ rows)
    go true f g h = absurd (omega (arith, g))
    go false f g h = All-cons (Deep n id) row rows (λ c. (let x = sym f ∙ c in absurd cc)) (h g)

module _ (own : Id) (k b : ℕ) where
  determined : (c : Contact) (n : ℕ) (rows after : List RowState) (seen : Seen) → SeenStep own k b c rows seen after → same_id c.id own ≡ false → length (filter (covers c.id) rows) ≤ 1 → All (Deep n c.id) rows
      → after ≡ put_rows (seen_row n own k b c) c.id rows
  determined c n rows after seen (is_own e) other le deep = absurd cc
  determined c n rows after seen (in_row front back row row' o e here w s f) other le deep =
      let alone = one-row c.id front row back (subst (λ (l : List RowState). length (filter (covers c.id) l) ≤ 1) e le) here in
      f ∙ ap (λ (r : RowState). front ++ r ∷ back) (taken-is k c row row' seen s)
      ∙ sym (ap (put_rows (seen_row n own k b c) c.id) e ∙ put-in (seen_row n own k b c) c.id front row back alone.0 here ∙ ap (λ (l : List RowState). front ++ (l ++ back)) (whole-row own k b n c row w))
  determined c zero rows after seen (split front back row o e here needs step) other le deep =
      let alone = one-row c.id front row back (subst (λ (l : List RowState). length (filter (covers c.id) l) ≤ 1) e le) here in
      let some = some-covers own k b c (front ++ half false row ∷ half true row ∷ back) after seen step other in
      let parts = count-append (covers c.id) front (half false row ∷ half true row ∷ back) in
      let tail = count-append (covers c.id) (half false row ∷ half true row ∷ []) back in
      let halves = halves-of c.id row here (omega (arith, alone.0, alone.1, some, parts, tail)) in
      let full = all-here (Deep 0 c.id) front row back (subst (All (Deep 0 c.id)) e deep) here in
      let lt = halves.fits in
      absurd (omega (arith, full, lt))
  determined c (suc n) rows after seen (split front back row o e here needs step) other le deep =
      let alone = one-row c.id front row back (subst (λ (l : List RowState). length (filter (covers c.id) l) ≤ 1) e le) here in
      let some = some-covers own k b c (front ++ half false row ∷ half true row ∷ back) after seen step other in
      let parts = count-append (covers c.id) front (half false row ∷ half true row ∷ back) in
      let tail = count-append (covers c.id) (half false row ∷ half true row ∷ []) back in
      let halves = halves-of c.id row here (omega (arith, alone.0, alone.1, some, parts, tail)) in
      let few = halves.count in
      let F = seen_row n own k b c in
      let all = subst (All (Deep (suc n) c.id)) e deep in
      let next = determined c n (front ++ half false row ∷ half true row ∷ back) after seen step other (omega (arith, alone.0, alone.1, parts, tail, few))
      (split-all n c.id front row back all here (none-deep n c.id front alone.0) (none-deep n c.id back alone.1)) in
      let two : put_rows F c.id (half false row ∷ half true row ∷ back) ≡ put_rows F c.id (half false row ∷ half true row ∷ []) ++ back =
      put-two F c.id (half false row) (half true row) back (covers c.id (half false row)) (covers c.id (half true row)) halves.some in
      let splits = ap (λ (t : Bool). cond t (put_rows F c.id (half false row ∷ half true row ∷ [])) (taken k c row ∷ [])) (needs-true own k b c.id row needs) in
      next ∙ put-past F c.id front (half false row ∷ half true row ∷ back) alone.0 ∙ ap (λ (l : List RowState). front ++ l) two
      ∙ sym (ap (put_rows (seen_row (suc n) own k b c) c.id) e ∙ put-in (seen_row (suc n) own k b c) c.id front row back alone.0 here ∙ ap (λ (l : List RowState). front ++ (l ++ back)) splits)

  own-same : (c : Contact) (rows after : List RowState) (seen : Seen) → SeenStep own k b c rows seen after → same_id c.id own ≡ true → after ≡ rows
  own-same c rows after seen (is_own e) mine = refl
  own-same c rows after seen (in_row front back row row' o e here w s f) mine = absurd cc
  own-same c rows after seen (split front back row o e here needs step) mine = absurd cc

  pub seen-is : (c : Contact) (rows after : List RowState) (seen : Seen) → SoundRows own k b rows → SeenStep own k b c rows seen after → after ≡ seen_rows own k b c rows
  unfolding seen_rows
  seen-is c rows after seen s step = go (same_id c.id own) refl
    where
      go : (t : Bool) → same_id c.id own ≡ t → after ≡ cond t rows (put_rows (seen_row 160 own k b c) c.id rows)
      go true e = own-same c rows after seen step e
      go false e = let one = one-covers c.id rows s.partition s.short in determined c 160 rows after seen step e (omega (arith, one)) (λ i d lt here. omega arith)

  in-its-row : (c : Contact) (rows after : List RowState) (gone : Gone) → SoundRows own k b rows → InItsRow c gone rows after → after ≡ failed_rows gone c rows
  in-its-row c rows after gone s i =
      let one = one-covers c.id rows s.partition s.short in
      let none = one-row c.id i.front i.row i.back (subst (λ (l : List RowState). length (filter (covers c.id) l) ≤ 1) i.rows_are (omega (arith, one))) i.covers in
      i.after_are ∙ ap (λ (r : RowState). i.front ++ r ∷ i.back) (failed-row-is c i.row i.row' gone i.step)
      ∙ sym (ap (failed_rows gone c) i.rows_are ∙ put-in (λ (r : RowState). failed_row gone c r ∷ []) c.id i.front i.row i.back none.0 i.covers)

  pub failed-is : (c : Contact) (rows after : List RowState) (gone : Gone) → SoundRows own k b rows → FailedStep c rows gone after → after ≡ failed_rows gone c rows
  failed-is c rows after Unknown s step = step.1 ∙ sym (put-same c.id rows)
  failed-is c rows after Kept s step = in-its-row c rows after Kept s step
  failed-is c rows after Removed s step = in-its-row c rows after Removed s step
  failed-is c rows after Replaced s step = in-its-row c rows after Replaced s step

-- the table from its parts
abbrev pub view_of : BucketsState → List Contact → ℕ → Proofs → TableState
view_of t siblings n proofs = record { own = t.own; k = t.k; b = t.b; rows = t.rows; siblings = siblings; per_address = n; proofs = proofs }

abbrev parts : Id → ℕ → ℕ → List RowState → List Contact → ℕ → Proofs → TableState
parts own k b rows siblings n proofs = record { own = own; k = k; b = b; rows = rows; siblings = siblings; per_address = n; proofs = proofs }

abbrev list_with : Id → List Contact → SiblingList
list_with own list = record { own = own; list = list }

same-parts : (o o' : Id) (k k' b b' : ℕ) (r r' : List RowState) (l l' : List Contact) (n : ℕ) (p p' : Proofs) → o ≡ o' → k ≡ k' → b ≡ b' → r ≡ r' → l ≡ l' → p ≡ p' → parts o k b r l n p ≡ parts o' k' b' r' l' n p'
same-parts o o' k k' b b' r r' l l' n p p' e f g h i j = cc

same-held : (r r' : List RowState) (l l' : List Contact) (p : Proofs) → r ≡ r' → l ≡ l' → of_held (held_by r l) p ≡ of_held (held_by r' l') p
same-held r r' l l' p e f = ap (λ (x : List RowState). of_held (held_by x l) p) e ∙ ap (λ (x : List Contact). of_held (held_by r' x) p) f

-- f says which proofs a call notes, and v' has those of them that stand
pub table-seen : (t : BucketsState) (s : SiblingList) (t' : BucketsState) (s' : SiblingList) (whole : TableState) (n : ℕ) (c : Contact) (seen : Seen) (f : Proofs → Proofs) (v v' : Proofs) → view_of t s.list n (of_held (held_by t.rows s.list) v) ≡ whole → s.own ≡ t.own → SoundRows t.own t.k t.b t.rows
    → IsTakenIn t s c seen t' s' → of_held (held_by t'.rows s'.list) v' ≡ of_held (held_by t'.rows s'.list) (f (of_held (held_by t.rows s.list) v))
    → view_of t' s'.list n (of_held (held_by t'.rows s'.list) v') ≡ after_seen whole c seen (f whole.proofs)
table-seen t s t' s' whole n c seen f v v' view own sound taken stands =
    let noted = f (of_held (held_by t.rows s.list) v) in
    let rows = seen_rows t.own t.k t.b c t.rows in
    let list = seen_siblings (list_with t.own s.list) c seen in
    let rows_are : t'.rows ≡ rows = seen-is t.own t.k t.b c t.rows t'.rows seen sound taken.step in
    let list_is : s'.list ≡ list = taken.list ∙ ap (λ (i : Id). seen_siblings (list_with i s.list) c seen) own in
    same-parts t'.own t.own t'.k t.k t'.b t.b t'.rows rows s'.list list n (of_held (held_by t'.rows s'.list) v') (of_held (held_by rows list) noted) taken.own taken.k taken.b rows_are list_is
    (stands ∙ same-held t'.rows rows s'.list list noted rows_are list_is)
    ∙ ap (λ (w : TableState). after_seen w c seen (f w.proofs)) view

pub table-failed : (t : BucketsState) (s : SiblingList) (t' : BucketsState) (s' : SiblingList) (whole : TableState) (n : ℕ) (c : Contact) (gone : Gone) (v : Proofs) → view_of t s.list n (of_held (held_by t.rows s.list) v) ≡ whole → s.own ≡ t.own → SoundRows t.own t.k t.b t.rows
    → FailedStep c t.rows gone t'.rows → t'.own ≡ t.own → t'.k ≡ t.k → t'.b ≡ t.b → s'.list ≡ failed_siblings s c gone → of_held (held_by t'.rows s'.list) v ≡ of_held (held_by t'.rows s'.list) (of_held (held_by t.rows s.list) v)
    → view_of t' s'.list n (of_held (held_by t'.rows s'.list) v) ≡ with_rows whole (failed_rows gone c whole.rows) (failed_siblings (siblings_of whole) c gone) whole.proofs
table-failed t s t' s' whole n c gone v view own sound step o k b l stands =
    let stood = of_held (held_by t.rows s.list) v in
    let rows = failed_rows gone c t.rows in
    let list = failed_siblings (list_with t.own s.list) c gone in
    let rows_are : t'.rows ≡ rows = failed-is t.own t.k t.b c t.rows t'.rows gone sound step in
    let list_is : s'.list ≡ list = l ∙ ap (λ (i : Id). failed_siblings (list_with i s.list) c gone) own in
    same-parts t'.own t.own t'.k t.k t'.b t.b t'.rows rows s'.list list n (of_held (held_by t'.rows s'.list) v) (of_held (held_by rows list) stood) o k b rows_are list_is
    (stands ∙ same-held t'.rows rows s'.list list stood rows_are list_is)
    ∙ ap (λ (w : TableState). with_rows w (failed_rows gone c w.rows) (failed_siblings (siblings_of w) c gone) w.proofs) view

-- a call that ran out of memory
pub table-same : (t t' : BucketsState) (s s' : SiblingList) (whole : TableState) (n : ℕ) (v v' : Proofs) → view_of t s.list n (of_held (held_by t.rows s.list) v) ≡ whole → t' ≡ t → s' ≡ s → of_held (held_by t.rows s.list) v' ≡ of_held (held_by t.rows s.list) v
    → view_of t' s'.list n (of_held (held_by t'.rows s'.list) v') ≡ whole
table-same t t' s s' whole n v v' view e f same =
    ap (λ (x : BucketsState). view_of x s'.list n (of_held (held_by x.rows s'.list) v')) e
    ∙ ap (λ (x : SiblingList). view_of t x.list n (of_held (held_by t.rows x.list) v')) f
    ∙ ap (view_of t s.list n) same
    ∙ view
