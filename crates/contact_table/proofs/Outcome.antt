-- The reply of a call is determined by the rows before it, and so are a run's by its calls.
use Rattle.std.proofs.Common.{◌≡◌, ◌≢◌, ℕ, suc, ◌<◌, ◌≤◌, List, [], ◌∷◌, ◌++◌, length, Bool, true, false, cond, refl, sym, ap, subst, ◌∙◌, arith}
use Rattle.std.specs.Prelude.{filter}
use Rattle.std.specs.List.{All}
use Rattle.std.proofs.lemmas.List.Elements.{All-head, All-tail}
use Rattle.kad_base.specs.declared.types.Id.{Id}
use Rattle.kad_base.specs.declared.types.Contact.{Contact}
use Rattle.kad_base.specs.declared.serial.Made.{Made}
use Rattle.kad_base.specs.Serial.{IsRun, left_by}
use Rattle.bucket_tree.specs.declared.types.Seen.{Seen}
use Rattle.bucket_tree.specs.declared.types.Seen.TheVariants.{Added, Moved, Spared, Conflict, Own}
use Rattle.bucket_tree.specs.declared.types.Gone.{Gone}
use Rattle.bucket_tree.specs.declared.types.Gone.TheVariants.{Kept, Removed, Replaced, Unknown}
use Rattle.bucket_tree.specs.Rows.{RowState, SoundRows, same_id, live_of, live_in, contact_of}
use Rattle.bucket_tree.specs.BucketSteps.{half, NeedsSplit, RowSeen, SeenStep, is_own, in_row, split, RowFailed, FailedStep, InItsRow}
use Rattle.kad_base.specs.Contacts.{same, among}
use Rattle.bucket_tree.proofs.Counted.{any-map}
use Rattle.bucket_tree.proofs.RowKept.{failed-known}
use Rattle.bucket_tree.proofs.Every.{count-append, count-none, any-count, flat_map-append}
use Rattle.std.proofs.lemmas.List.Concat.{flat_map-cons}
use Rattle.bucket_tree.proofs.Places.{covers, one-covers}
use Rattle.contact_table.specs.declared.calls.TableCall.{TableCall}
use Rattle.contact_table.specs.declared.calls.TableCall.TheVariants.{Seen as Seen_call, Vouched, Failed, Closest, Vouchers}
use Rattle.contact_table.specs.declared.calls.TableReply.{TableReply}
use Rattle.contact_table.specs.declared.calls.TableReply.TheVariants.{Seen as Seen_reply, Gone as Gone_reply, List as List_reply, Reports as Reports_reply, Crowded, NoMemory}
use Rattle.contact_table.specs.TableState.{TableState, SoundTable}
use Rattle.contact_table.specs.TableStep.{TableMay, SeenReplies, TableStep, table_after}
use Rattle.contact_table.specs.Told.{HasMemory, calls_in, replies_in}
use Rattle.contact_table.proofs.Determined.{unknown, one-row, halves-of, some-covers}
use Rattle.contact_table.proofs.StaysSound.{step-sound}

-- one row alone covers the identifier, so a list is taken apart at it in one way
pub record SamePlace (f f' : List RowState) (r r' : RowState) (g g' : List RowState) : Type 0 where
  pub front : f ≡ f'
  pub row : r ≡ r'
  pub back : g ≡ g'

some-there : (id : Id) (f : List RowState) (r : RowState) (g : List RowState) → covers id r ≡ true → 1 ≤ length (filter (covers id) (f ++ r ∷ g))
some-there id f r g e =
    let all = count-append (covers id) f (r ∷ g) in
    let one = ap (λ (t : Bool). length (cond t (r ∷ filter (covers id) g) (filter (covers id) g))) e in
    omega (arith, all, one)

first-counts : (id : Id) (r : RowState) (rows : List RowState) → covers id r ≡ true → length (filter (covers id) (r ∷ rows)) ≡ suc (length (filter (covers id) rows))
first-counts id r rows e = ap (λ (t : Bool). length (cond t (r ∷ filter (covers id) rows) (filter (covers id) rows))) e

rest-counts : (id : Id) (r : RowState) (rows : List RowState) → length (filter (covers id) rows) ≤ length (filter (covers id) (r ∷ rows))
rest-counts id r rows = go (covers id r)
  where
    go : (t : Bool) → length (filter (covers id) rows) ≤ length (cond t (r ∷ filter (covers id) rows) (filter (covers id) rows))
    go true = omega arith
    go false = omega arith

same-place : (id : Id) (f f' : List RowState) (r r' : RowState) (g g' : List RowState) → f ++ r ∷ g ≡ f' ++ r' ∷ g' → covers id r ≡ true → covers id r' ≡ true → length (filter (covers id) (f ++ r ∷ g)) ≤ 1 → SamePlace f f' r r' g g'
same-place id [] [] r r' g g' e h h' le = record { front = refl; row = cc; back = cc }
same-place id [] (z ∷ f') r r' g g' e h h' le =
    let rest : g ≡ f' ++ r' ∷ g' = cc in
    let some = subst (λ (l : List RowState). 1 ≤ length (filter (covers id) l)) (sym rest) (some-there id f' r' g' h') in
    let two = first-counts id r g h in
    absurd (omega (arith, some, two, le))
same-place id (z ∷ f) [] r r' g g' e h h' le =
    let first : z ≡ r' = cc in
    let mine : covers id z ≡ true = ap (covers id) first ∙ h' in
    let some = some-there id f r g h in
    let two = first-counts id z (f ++ r ∷ g) mine in
    absurd (omega (arith, some, two, le))
same-place id (z ∷ f) (z' ∷ f') r r' g g' e h h' le =
    let first : z ≡ z' = cc in
    let rest : f ++ r ∷ g ≡ f' ++ r' ∷ g' = cc in
    let less = rest-counts id z (f ++ r ∷ g) in
    let p = same-place id f f' r r' g g' rest h h' (omega (arith, less, le)) in
    record { front = (let q = p.front in cc); row = p.row; back = p.back }

row-reply : (k : ℕ) (c : Contact) (row a b : RowState) (x y : Seen) → RowSeen k c row x a → RowSeen k c row y b → x ≡ y
row-reply k c row a b Moved Moved s t = refl
row-reply k c row a b Conflict Conflict s t = refl
row-reply k c row a b Added Added s t = refl
row-reply k c row a b Spared Spared s t = refl
row-reply k c row a b Moved Conflict s t = let p = s.0 in let q = t.0 in absurd cc
row-reply k c row a b Conflict Moved s t = let p = s.0 in let q = t.0 in absurd cc
row-reply k c row a b Moved Added s t = let p = s.0 in let q = unknown row c t.0 in absurd cc
row-reply k c row a b Added Moved s t = let p = unknown row c s.0 in let q = t.0 in absurd cc
row-reply k c row a b Moved Spared s t = let p = s.0 in let q = unknown row c t.0 in absurd cc
row-reply k c row a b Spared Moved s t = let p = unknown row c s.0 in let q = t.0 in absurd cc
row-reply k c row a b Conflict Added s t = let p = s.1 in let q = t.0 in absurd cc
row-reply k c row a b Added Conflict s t = let p = s.0 in let q = t.1 in absurd cc
row-reply k c row a b Conflict Spared s t = let p = s.1 in let q = t.0 in absurd cc
row-reply k c row a b Spared Conflict s t = let p = s.0 in let q = t.1 in absurd cc
row-reply k c row a b Added Spared s t = let p = s.1 in let q = t.1 in absurd (omega (arith, p, q))
row-reply k c row a b Spared Added s t = let p = s.1 in let q = t.1 in absurd (omega (arith, p, q))
row-reply k c row a b Own y s t = absurd s
row-reply k c row a b x Own s t = absurd t

module _ (own : Id) (k b : ℕ) where
  -- after a split one half alone covers the contact
  pub half-count : (c : Contact) (f g : List RowState) (row : RowState) (after : List RowState) (seen : Seen) → covers c.id row ≡ true → same_id c.id own ≡ false → length (filter (covers c.id) (f ++ row ∷ g)) ≤ 1
      → SeenStep own k b c (f ++ half false row ∷ half true row ∷ g) seen after → (length row.prefix < 160) × (length (filter (covers c.id) (f ++ half false row ∷ half true row ∷ g)) ≤ 1)
  half-count c f g row after seen here other le step =
      let alone = one-row c.id f row g le here in
      let some = some-covers own k b c (f ++ half false row ∷ half true row ∷ g) after seen step other in
      let parts = count-append (covers c.id) f (half false row ∷ half true row ∷ g) in
      let tail = count-append (covers c.id) (half false row ∷ half true row ∷ []) g in
      let halves = halves-of c.id row here (omega (arith, alone.0, alone.1, some, parts, tail)) in
      let few = halves.count in
      (halves.fits, omega (arith, alone.0, alone.1, parts, tail, few))

  one-seen : (c : Contact) (rows a d : List RowState) (x y : Seen) → SeenStep own k b c rows x a → SeenStep own k b c rows y d → length (filter (covers c.id) rows) ≤ 1 → x ≡ y
  one-seen c rows a d x y (is_own o) (is_own o') le = refl
  one-seen c rows a d x y (is_own o) (in_row f' g' r' m' o' e' h' w' s' q') le = absurd cc
  one-seen c rows a d x y (is_own o) (split f' g' r' o' e' h' n' t') le = absurd cc
  one-seen c rows a d x y (in_row f g r m o e h w s q) (is_own o') le = absurd cc
  one-seen c rows a d x y (split f g r o e h n t) (is_own o') le = absurd cc
  one-seen c rows a d x y (in_row f g r m o e h w s q) (in_row f' g' r' m' o' e' h' w' s' q') le =
      let p = same-place c.id f f' r r' g g' (sym e ∙ e') h h' (subst (λ (l : List RowState). length (filter (covers c.id) l) ≤ 1) e le) in
      row-reply k c r m m' x y s (subst (λ (z : RowState). RowSeen k c z y m') (sym p.row) s')
  one-seen c rows a d x y (in_row f g r m o e h w s q) (split f' g' r' o' e' h' n' t') le =
      let p = same-place c.id f f' r r' g g' (sym e ∙ e') h h' (subst (λ (l : List RowState). length (filter (covers c.id) l) ≤ 1) e le) in
      absurd (w (subst (NeedsSplit own k b c.id) (sym p.row) n'))
  one-seen c rows a d x y (split f g r o e h n t) (in_row f' g' r' m' o' e' h' w' s' q') le =
      let p = same-place c.id f f' r r' g g' (sym e ∙ e') h h' (subst (λ (l : List RowState). length (filter (covers c.id) l) ≤ 1) e le) in
      absurd (w' (subst (NeedsSplit own k b c.id) p.row n))
  one-seen c rows a d x y (split f g r o e h n t) (split f' g' r' o' e' h' n' t') le =
      let few = subst (λ (l : List RowState). length (filter (covers c.id) l) ≤ 1) e le in
      let p = same-place c.id f f' r r' g g' (sym e ∙ e') h h' few in
      let fronts = p.front in
      let rows_same = p.row in
      let backs = p.back in
      let same : f' ++ half false r' ∷ half true r' ∷ g' ≡ f ++ half false r ∷ half true r ∷ g = cc in
      let fit = half-count c f g r a x h o few t in
      one-seen c (f ++ half false r ∷ half true r ∷ g) a d x y t (subst (λ (l : List RowState). SeenStep own k b c l y d) same t') fit.1

end-some : {A : Type 0} (xs : List A) (x : A) → [] ≡ xs ++ x ∷ [] → ⊥
end-some [] x e = absurd cc
end-some (y ∷ xs) x e = absurd cc

row-gone : (c : Contact) (row a d : RowState) (x y : Gone) → RowFailed c row x a → RowFailed c row y d → x ≡ y
row-gone c row a d Kept Kept s t = refl
row-gone c row a d Removed Removed s t = refl
row-gone c row a d Replaced Replaced s t = refl
row-gone c row a d Unknown Unknown s t = refl
row-gone c row a d Kept Removed s t = let p = s.0 in let q = t.0 in absurd cc
row-gone c row a d Kept Replaced s t = let p = s.0 in let q = t.0 in absurd cc
row-gone c row a d Kept Unknown s t = let p = s.0 in let q = t.0 in absurd cc
row-gone c row a d Removed Kept s t = let p = s.0 in let q = t.0 in absurd cc
row-gone c row a d Replaced Kept s t = let p = s.0 in let q = t.0 in absurd cc
row-gone c row a d Unknown Kept s t = let p = s.0 in let q = t.0 in absurd cc
row-gone c row a d Removed Unknown s t = let p = s.0 in let q = t.0 in absurd cc
row-gone c row a d Replaced Unknown s t = let p = s.0 in let q = t.0 in absurd cc
row-gone c row a d Unknown Removed s t = let p = s.0 in let q = t.0 in absurd cc
row-gone c row a d Unknown Replaced s t = let p = s.0 in let q = t.0 in absurd cc
row-gone c row a d Removed Replaced s t = let p = sym s.1 ∙ t.1.spares in absurd (end-some t.1.older t.1.newest p)
row-gone c row a d Replaced Removed s t = let p = sym t.1 ∙ s.1.spares in absurd (end-some s.1.older s.1.newest p)

-- one that failed was live
known-live : (c : Contact) (row a : RowState) (x : Gone) → RowFailed c row x a → x ≢ Unknown → among (live_in row) c ≡ true
known-live c row a Kept s n = any-map contact_of (same c) row.live ∙ failed-known row c 0 s.0
known-live c row a Removed s n = any-map contact_of (same c) row.live ∙ failed-known row c 1 s.0
known-live c row a Replaced s n = any-map contact_of (same c) row.live ∙ failed-known row c 1 s.0
known-live c row a Unknown s n = absurd (n refl)

known-of-all : (c : Contact) (rows after : List RowState) (x : Gone) → InItsRow c x rows after → x ≢ Unknown → among (live_of rows) c ≡ false → ⊥
known-of-all c rows after x i n none =
    let live = known-live c i.row i.row' x i.step n in
    let some = any-count (same c) (live_in i.row) live in
    let all : live_of rows ≡ live_of i.front ++ live_of (i.row ∷ i.back) = ap live_of i.rows_are ∙ flat_map-append live_in i.front (i.row ∷ i.back) in
    let parts = ap (λ (l : List Contact). length (filter (same c) l)) all ∙ count-append (same c) (live_of i.front) (live_of (i.row ∷ i.back)) in
    let here = ap (λ (l : List Contact). length (filter (same c) l)) (flat_map-cons live_in i.row i.back) ∙ count-append (same c) (live_in i.row) (live_of i.back) in
    let zero = count-none (same c) (live_of rows) none in
    omega (arith, some, parts, here, zero)

module _ (own : Id) (k b : ℕ) where
  both-rows : (c : Contact) (rows a d : List RowState) (x y : Gone) → SoundRows own k b rows → InItsRow c x rows a → InItsRow c y rows d → x ≡ y
  both-rows c rows a d x y s i j =
      let one = one-covers c.id rows s.partition s.short in
      let p = same-place c.id i.front j.front i.row j.row i.back j.back (sym i.rows_are ∙ j.rows_are) i.covers j.covers (subst (λ (l : List RowState). length (filter (covers c.id) l) ≤ 1) i.rows_are (omega (arith, one))) in
      row-gone c i.row i.row' j.row' x y i.step (subst (λ (r : RowState). RowFailed c r y j.row') (sym p.row) j.step)

  one-gone : (c : Contact) (rows a d : List RowState) (x y : Gone) → SoundRows own k b rows → FailedStep c rows x a → FailedStep c rows y d → x ≡ y
  one-gone c rows a d Unknown Unknown s t u = refl
  one-gone c rows a d Unknown Kept s t u = absurd (known-of-all c rows d Kept u (λ e. absurd cc) t.0)
  one-gone c rows a d Unknown Removed s t u = absurd (known-of-all c rows d Removed u (λ e. absurd cc) t.0)
  one-gone c rows a d Unknown Replaced s t u = absurd (known-of-all c rows d Replaced u (λ e. absurd cc) t.0)
  one-gone c rows a d Kept Unknown s t u = absurd (known-of-all c rows a Kept t (λ e. absurd cc) u.0)
  one-gone c rows a d Removed Unknown s t u = absurd (known-of-all c rows a Removed t (λ e. absurd cc) u.0)
  one-gone c rows a d Replaced Unknown s t u = absurd (known-of-all c rows a Replaced t (λ e. absurd cc) u.0)
  one-gone c rows a d Kept Kept s t u = refl
  one-gone c rows a d Kept Removed s t u = both-rows c rows a d Kept Removed s t u
  one-gone c rows a d Kept Replaced s t u = both-rows c rows a d Kept Replaced s t u
  one-gone c rows a d Removed Kept s t u = both-rows c rows a d Removed Kept s t u
  one-gone c rows a d Removed Removed s t u = refl
  one-gone c rows a d Removed Replaced s t u = both-rows c rows a d Removed Replaced s t u
  one-gone c rows a d Replaced Kept s t u = both-rows c rows a d Replaced Kept s t u
  one-gone c rows a d Replaced Removed s t u = both-rows c rows a d Replaced Removed s t u
  one-gone c rows a d Replaced Replaced s t u = refl

seen-once : (s : TableState) (c : Contact) (x y : TableReply) → SoundTable s → SeenReplies s c x → SeenReplies s c y → HasMemory x → HasMemory y → x ≡ y
seen-once s c (Seen_reply x) (Seen_reply y) q t u m n =
    let one = one-covers c.id s.rows q.buckets.rows.partition q.buckets.rows.short in
    ap Seen_reply (one-seen s.own s.k s.b c s.rows _ _ x y t.0 u.0 (omega (arith, one)))
seen-once s c Crowded Crowded q t u m n = refl
seen-once s c (Seen_reply x) Crowded q t u m n = absurd (t.1 u)
seen-once s c Crowded (Seen_reply y) q t u m n = absurd (u.1 t)
seen-once s c Crowded (Gone_reply y) q t u m n = absurd u
seen-once s c Crowded (List_reply y) q t u m n = absurd u
seen-once s c Crowded (Reports_reply y) q t u m n = absurd u
seen-once s c Crowded NoMemory q t u m n = absurd n
seen-once s c (Seen_reply x) (Gone_reply y) q t u m n = absurd u
seen-once s c (Seen_reply x) (List_reply y) q t u m n = absurd u
seen-once s c (Seen_reply x) (Reports_reply y) q t u m n = absurd u
seen-once s c (Seen_reply x) NoMemory q t u m n = absurd n
seen-once s c (Gone_reply x) y q t u m n = absurd t
seen-once s c (List_reply x) y q t u m n = absurd t
seen-once s c (Reports_reply x) y q t u m n = absurd t
seen-once s c NoMemory y q t u m n = absurd m

pub one-reply : (s : TableState) (role other : ℕ) (call : TableCall) (x y : TableReply) → SoundTable s → TableStep s role call x → TableStep s other call y → HasMemory x → HasMemory y → x ≡ y
one-reply s role other (Seen_call c) x y q t u m n = seen-once s c x y q t u m n
one-reply s role other (Vouched c p) x y q t u m n = seen-once s c x y q t u m n
one-reply s role other (Failed c) (Gone_reply x) (Gone_reply y) q t u m n = ap Gone_reply (one-gone s.own s.k s.b c s.rows _ _ x y q.buckets.rows t u)
one-reply s role other (Closest target k) (List_reply x) (List_reply y) q t u m n = ap List_reply (t ∙ sym u)
one-reply s role other (Vouchers target k) (Reports_reply x) (Reports_reply y) q t u m n = ap Reports_reply (t ∙ sym u)
one-reply s role other (Failed c) (Seen_reply x) y q t u m n = absurd t
one-reply s role other (Failed c) (List_reply x) y q t u m n = absurd t
one-reply s role other (Failed c) (Reports_reply x) y q t u m n = absurd t
one-reply s role other (Failed c) NoMemory y q t u m n = absurd m
one-reply s role other (Failed c) Crowded y q t u m n = absurd t
one-reply s role other (Failed c) (Gone_reply x) Crowded q t u m n = absurd u
one-reply s role other (Failed c) (Gone_reply x) (Seen_reply y) q t u m n = absurd u
one-reply s role other (Failed c) (Gone_reply x) (List_reply y) q t u m n = absurd u
one-reply s role other (Failed c) (Gone_reply x) (Reports_reply y) q t u m n = absurd u
one-reply s role other (Failed c) (Gone_reply x) NoMemory q t u m n = absurd n
one-reply s role other (Closest target k) (Seen_reply x) y q t u m n = absurd t
one-reply s role other (Closest target k) (Gone_reply x) y q t u m n = absurd t
one-reply s role other (Closest target k) (Reports_reply x) y q t u m n = absurd t
one-reply s role other (Closest target k) NoMemory y q t u m n = absurd m
one-reply s role other (Closest target k) Crowded y q t u m n = absurd t
one-reply s role other (Closest target k) (List_reply x) Crowded q t u m n = absurd u
one-reply s role other (Closest target k) (List_reply x) (Seen_reply y) q t u m n = absurd u
one-reply s role other (Closest target k) (List_reply x) (Gone_reply y) q t u m n = absurd u
one-reply s role other (Closest target k) (List_reply x) (Reports_reply y) q t u m n = absurd u
one-reply s role other (Closest target k) (List_reply x) NoMemory q t u m n = absurd n
one-reply s role other (Vouchers target k) (Seen_reply x) y q t u m n = absurd t
one-reply s role other (Vouchers target k) (Gone_reply x) y q t u m n = absurd t
one-reply s role other (Vouchers target k) (List_reply x) y q t u m n = absurd t
one-reply s role other (Vouchers target k) NoMemory y q t u m n = absurd m
one-reply s role other (Vouchers target k) Crowded y q t u m n = absurd t
one-reply s role other (Vouchers target k) (Reports_reply x) Crowded q t u m n = absurd u
one-reply s role other (Vouchers target k) (Reports_reply x) (Seen_reply y) q t u m n = absurd u
one-reply s role other (Vouchers target k) (Reports_reply x) (Gone_reply y) q t u m n = absurd u
one-reply s role other (Vouchers target k) (Reports_reply x) (List_reply y) q t u m n = absurd u
one-reply s role other (Vouchers target k) (Reports_reply x) NoMemory q t u m n = absurd n

-- who makes the call doesn't count
any-role : (s : TableState) (role other : ℕ) (call : TableCall) (x : TableReply) → table_after s role call x ≡ table_after s other call x
any-role s role other (Seen_call c) (Seen_reply x) = refl
any-role s role other (Seen_call c) (Gone_reply x) = refl
any-role s role other (Seen_call c) (List_reply x) = refl
any-role s role other (Seen_call c) (Reports_reply x) = refl
any-role s role other (Seen_call c) Crowded = refl
any-role s role other (Seen_call c) NoMemory = refl
any-role s role other (Vouched c p) (Seen_reply x) = refl
any-role s role other (Vouched c p) (Gone_reply x) = refl
any-role s role other (Vouched c p) (List_reply x) = refl
any-role s role other (Vouched c p) (Reports_reply x) = refl
any-role s role other (Vouched c p) Crowded = refl
any-role s role other (Vouched c p) NoMemory = refl
any-role s role other (Failed c) (Seen_reply x) = refl
any-role s role other (Failed c) (Gone_reply x) = refl
any-role s role other (Failed c) (List_reply x) = refl
any-role s role other (Failed c) (Reports_reply x) = refl
any-role s role other (Failed c) Crowded = refl
any-role s role other (Failed c) NoMemory = refl
any-role s role other (Closest target n) x = refl
any-role s role other (Vouchers target n) x = refl

pub one-state : (s : TableState) (role other : ℕ) (call : TableCall) (x y : TableReply) → SoundTable s → TableStep s role call x → TableStep s other call y → HasMemory x → HasMemory y → table_after s role call x ≡ table_after s other call y
one-state s role other call x y q t u m n = any-role s role other call x ∙ ap (table_after s other call) (one-reply s role other call x y q t u m n)

-- whole runs
record OneRun (s : TableState) (run other : List (Made TableCall TableReply)) : Type 0 where
  replies : replies_in run ≡ replies_in other
  state : left_by table_after s run ≡ left_by table_after s other

one-run : (s : TableState) (run other : List (Made TableCall TableReply)) → SoundTable s → IsRun TableMay TableStep table_after s run → IsRun TableMay TableStep table_after s other → calls_in run ≡ calls_in other
    → All HasMemory (replies_in run) → All HasMemory (replies_in other) → OneRun s run other
one-run s [] [] q r o e m n = record { replies = refl; state = refl }
one-run s [] (f ∷ other) q r o e m n = absurd cc
one-run s (d ∷ run) [] q r o e m n = absurd cc
one-run s (d ∷ run) (f ∷ other) q r o e m n =
    let call : d.call ≡ f.call = cc in
    let rest : calls_in run ≡ calls_in other = cc in
    let step = subst (λ (c : TableCall). TableStep s f.role c f.reply) (sym call) o.1 in
    let dm = All-head HasMemory d.reply (replies_in run) m in
    let fm = All-head HasMemory f.reply (replies_in other) n in
    let reply : d.reply ≡ f.reply = one-reply s d.role f.role d.call d.reply f.reply q r.1 step dm fm in
    let after : table_after s d.role d.call d.reply ≡ table_after s f.role f.call f.reply = one-state s d.role f.role d.call d.reply f.reply q r.1 step dm fm ∙ ap (λ (c : TableCall). table_after s f.role c f.reply) call in
    let next = one-run (table_after s d.role d.call d.reply) run other (step-sound s d.role d.call d.reply q r.1) r.2 (subst (λ (t : TableState). IsRun TableMay TableStep table_after t other) (sym after) o.2) rest
    (All-tail HasMemory d.reply (replies_in run) m) (All-tail HasMemory f.reply (replies_in other) n) in
    record {
      replies = (let a = next.replies in cc);
      state = next.state ∙ ap (λ (t : TableState). left_by table_after t other) after;
    }

pub run-replies : (s : TableState) (run other : List (Made TableCall TableReply)) → SoundTable s → IsRun TableMay TableStep table_after s run → IsRun TableMay TableStep table_after s other → calls_in run ≡ calls_in other
    → All HasMemory (replies_in run) → All HasMemory (replies_in other) → replies_in run ≡ replies_in other
run-replies s run other q r o e m n = (one-run s run other q r o e m n).replies

pub run-state : (s : TableState) (run other : List (Made TableCall TableReply)) → SoundTable s → IsRun TableMay TableStep table_after s run → IsRun TableMay TableStep table_after s other → calls_in run ≡ calls_in other
    → All HasMemory (replies_in run) → All HasMemory (replies_in other) → left_by table_after s run ≡ left_by table_after s other
run-state s run other q r o e m n = (one-run s run other q r o e m n).state
