-- A call leaves a table no contact but those that it had and the one that it names.
use Rattle.std.proofs.Common.{◌≡◌, ℕ, zero, suc, ◌-◌, List, [], ◌∷◌, ◌++◌, length, take, drop, Bool, true, false, cond, not, refl, sym, ap, subst, ◌∙◌}
use Rattle.std.specs.Prelude.{filter, map, nat_le}
use Rattle.std.specs.List.{All, Contains, flat_map}
use Rattle.std.specs.Str.{bytes_eq}
use Rattle.std.proofs.lemmas.List.{map-append}
use Rattle.std.proofs.lemmas.List.Concat.{flat_map-cons}
use Rattle.std.proofs.lemmas.List.Elements.{All-head, All-tail, All-append, All-cons, All-nil, All-filter, All-take, All-drop, All-contains_itself, Contains-append_left, Contains-append_right}
use Rattle.kad_base.specs.Limits.{max_siblings}
use Rattle.kad_base.specs.declared.types.Id.{Id}
use Rattle.kad_base.specs.declared.types.Contact.{Contact}
use Rattle.kad_base.specs.declared.serial.Made.{Made}
use Rattle.kad_base.specs.Contacts.{same}
use Rattle.kad_base.specs.Serial.{left_by}
use Rattle.kad_distance.specs.KClosest.{k_closest}
use Rattle.kad_distance.proofs.Chosen.{closest_all}
use Rattle.bucket_tree.specs.declared.types.Seen.{Seen}
use Rattle.bucket_tree.specs.declared.types.Seen.TheVariants.{Added, Moved, Spared, Conflict, Own}
use Rattle.bucket_tree.specs.declared.types.Gone.{Gone}
use Rattle.bucket_tree.specs.declared.types.Gone.TheVariants.{Kept, Removed, Replaced, Unknown}
use Rattle.bucket_tree.specs.Partition.{id_bits, begins}
use Rattle.bucket_tree.specs.Rows.{RowState, SoundRows, contact_of, live_in, live_of, same_id}
use Rattle.bucket_tree.specs.BucketSteps.{knows, knows_id, fresh, without, moved, added, spared, with_room, half, marked, removed, SeenStep, is_own, in_row, split}
use Rattle.bucket_tree.proofs.Counted.{filter-map}
use Rattle.bucket_tree.proofs.Every.{all-left, all-right, all-one, all-here, all-put}
use Rattle.bucket_tree.proofs.RowKept.{all-without, all-ended, all-room}
use Rattle.bucket_tree.proofs.RowSteps.{mark-contacts}
use Rattle.sibling_list.specs.Siblings.{with_one, without_one}
use Rattle.contact_table.specs.declared.calls.TableCall.{TableCall}
use Rattle.contact_table.specs.declared.calls.TableCall.TheVariants.{Seen as Seen_call, Vouched, Failed, Closest, Vouchers}
use Rattle.contact_table.specs.declared.calls.TableReply.{TableReply}
use Rattle.contact_table.specs.declared.calls.TableReply.TheVariants.{Seen as Seen_reply, Gone as Gone_reply, List as List_reply, Reports as Reports_reply, Crowded, NoMemory}
use Rattle.contact_table.specs.RowsAfter.{put_rows, needs_split, taken, seen_row, seen_rows, failed_row, failed_rows}
use Rattle.contact_table.specs.TableState.{TableState, siblings_of}
use Rattle.contact_table.specs.TableStep.{table_after, after_seen, contacts_of, seen_siblings, failed_siblings}
use Rattle.contact_table.specs.Told.{told_in, told_by, kept_in, held_by, held_in, limited_table, new_table}
use Rattle.contact_table.specs.Crowded.{IsNew}
use Rattle.contact_table.specs.Vouched.{Proofs, noted}
use Rattle.contact_table.proofs.Determined.{seen-is}
use Rattle.contact_table.proofs.Newness.{passes-among, row-new, new-or-old}

contacts-fresh : (cs : List Contact) → map contact_of (map fresh cs) ≡ cs
contacts-fresh [] = refl
contacts-fresh (c ∷ cs) = ap (λ (l : List Contact). c ∷ l) (contacts-fresh cs)

module _ (P : Contact → Type 0) where
  abbrev Keeps : RowState → Type 0
  Keeps row = All P (kept_in row)

  lives : (row : RowState) → Keeps row → All P (live_in row)
  lives row a = all-left P (live_in row) row.spares a

  spares : (row : RowState) → Keeps row → All P row.spares
  spares row a = all-right P (live_in row) row.spares a

  taken-keeps : (k : ℕ) (c : Contact) (row : RowState) → P c → Keeps row → Keeps (taken k c row)
  taken-keeps k c row p a = go (knows row c) (knows_id row c.id) (nat_le k (length row.live))
    where
      go : (x y z : Bool) → Keeps (cond x (moved c row) (cond y row (cond z (spared k c row) (added c row))))
      go true y z = All-append P (map contact_of (without c row.live ++ fresh c ∷ [])) row.spares (all-ended P (without c row.live) c (all-without P c row.live (lives row a)) p) (spares row a)
      go false true z = a
      go false false true =
          let q = λ (x : Contact). not (same_id x.id c.id) in
          All-append P (live_in row) (with_room k (filter q row.spares) ++ c ∷ []) (lives row a)
          (All-append P (with_room k (filter q row.spares)) (c ∷ []) (all-room P k (filter q row.spares) (All-filter q P row.spares (spares row a))) (all-one P c p))
      go false false false = All-append P (map contact_of (row.live ++ fresh c ∷ [])) row.spares (all-ended P row.live c (lives row a) p) (spares row a)

  half-keeps : (bit : Bool) (row : RowState) → Keeps row → Keeps (half bit row)
  half-keeps bit row a =
      let q = λ (c : Contact). begins (row.prefix ++ bit ∷ []) (id_bits c.id) in
      All-append P (live_in (half bit row)) [] (subst (All P) (filter-map contact_of q row.live) (All-filter q P (live_in row) (lives row a))) (All-nil P)

  put-keeps : (f : RowState → List RowState) (id : Id) (rows : List RowState) → ((row : RowState) → Keeps row → All Keeps (f row)) → All Keeps rows → All Keeps (put_rows f id rows)
  put-keeps f id [] h a = a
  put-keeps f id (row ∷ rows) h a = go (begins row.prefix (id_bits id)) (put-keeps f id rows h (All-tail Keeps row rows a))
    where
      go : (t : Bool) → All Keeps (put_rows f id rows) → All Keeps (cond t (f row ++ rows) (row ∷ put_rows f id rows))
      go true r = All-append Keeps (f row) rows (h row (All-head Keeps row rows a)) (All-tail Keeps row rows a)
      go false r = All-cons Keeps row (put_rows f id rows) (All-head Keeps row rows a) r

  seen_row-keeps : (n : ℕ) (own : Id) (k b : ℕ) (c : Contact) (row : RowState) → P c → Keeps row → All Keeps (seen_row n own k b c row)
  seen_row-keeps zero own k b c row p a = all-one Keeps (taken k c row) (taken-keeps k c row p a)
  seen_row-keeps (suc n) own k b c row p a =
      go (needs_split own k b c.id row)
      (put-keeps (seen_row n own k b c) c.id (half false row ∷ half true row ∷ []) (λ r. seen_row-keeps n own k b c r p)
      (All-cons Keeps (half false row) (half true row ∷ []) (half-keeps false row a) (all-one Keeps (half true row) (half-keeps true row a))))
    where
      go : (t : Bool) → All Keeps (put_rows (seen_row n own k b c) c.id (half false row ∷ half true row ∷ []))
          → All Keeps (cond t (put_rows (seen_row n own k b c) c.id (half false row ∷ half true row ∷ [])) (taken k c row ∷ []))
      go true r = r
      go false r = all-one Keeps (taken k c row) (taken-keeps k c row p a)

  seen_rows-keeps : (own : Id) (k b : ℕ) (c : Contact) (rows : List RowState) → P c → All Keeps rows → All Keeps (seen_rows own k b c rows)
  unfolding seen_rows
  seen_rows-keeps own k b c rows p a = go (same_id c.id own)
    where
      go : (t : Bool) → All Keeps (cond t rows (put_rows (seen_row 160 own k b c) c.id rows))
      go true = a
      go false = put-keeps (seen_row 160 own k b c) c.id rows (λ r. seen_row-keeps 160 own k b c r p) a

  failed_row-keeps : (gone : Gone) (c : Contact) (row : RowState) → Keeps row → Keeps (failed_row gone c row)
  failed_row-keeps Kept c row a = All-append P (live_in (marked c row)) row.spares (subst (All P) (sym (mark-contacts c row.live)) (lives row a)) (spares row a)
  failed_row-keeps Removed c row a = All-append P (live_in (removed c row)) row.spares (all-without P c row.live (lives row a)) (spares row a)
  failed_row-keeps Unknown c row a = a
  failed_row-keeps Replaced c row a =
      let n = length row.spares - 1 in
      let newest = drop n row.spares in
      let e : map contact_of (without c row.live ++ map fresh newest) ≡ map contact_of (without c row.live) ++ newest =
      map-append contact_of (without c row.live) (map fresh newest) ∙ ap (λ (l : List Contact). map contact_of (without c row.live) ++ l) (contacts-fresh newest) in
      All-append P (map contact_of (without c row.live ++ map fresh newest)) (take n row.spares)
      (subst (All P) (sym e) (All-append P (map contact_of (without c row.live)) newest (all-without P c row.live (lives row a)) (All-drop P n row.spares (spares row a))))
      (All-take P n row.spares (spares row a))

  failed_rows-keeps : (gone : Gone) (c : Contact) (rows : List RowState) → All Keeps rows → All Keeps (failed_rows gone c rows)
  failed_rows-keeps gone c rows a = put-keeps (λ row. failed_row gone c row ∷ []) c.id rows (λ r k. all-one Keeps (failed_row gone c r) (failed_row-keeps gone c r k)) a

  to-rows : (rows : List RowState) → All P (flat_map kept_in rows) → All Keeps rows
  to-rows [] a = All-nil Keeps
  to-rows (row ∷ rows) a =
      let b = subst (All P) (flat_map-cons kept_in row rows) a in
      All-cons Keeps row rows (all-left P (kept_in row) (flat_map kept_in rows) b) (to-rows rows (all-right P (kept_in row) (flat_map kept_in rows) b))

  from-rows : (rows : List RowState) → All Keeps rows → All P (flat_map kept_in rows)
  from-rows [] a = All-nil P
  from-rows (row ∷ rows) a = subst (All P) (sym (flat_map-cons kept_in row rows)) (All-append P (kept_in row) (flat_map kept_in rows) (All-head Keeps row rows a) (from-rows rows (All-tail Keeps row rows a)))

  live-rows : (rows : List RowState) → All Keeps rows → All P (live_of rows)
  live-rows [] a = All-nil P
  live-rows (row ∷ rows) a = subst (All P) (sym (flat_map-cons live_in row rows)) (All-append P (live_in row) (live_of rows) (lives row (All-head Keeps row rows a)) (live-rows rows (All-tail Keeps row rows a)))

  with-keeps : (own : Id) (S : List Contact) (c : Contact) → P c → All P S → All P (with_one (record { own = own; list = S }) c)
  with-keeps own S c p a = go (bytes_eq c.id.0 own.0)
    where
      go : (t : Bool) → All P (cond t S (k_closest own max_siblings (S ++ c ∷ [])))
      go true = a
      go false = closest_all own max_siblings (S ++ c ∷ []) P (All-append P S (c ∷ []) a (all-one P c p))

  without-keeps : (own : Id) (S : List Contact) (c : Contact) → All P S → All P (without_one (record { own = own; list = S }) c)
  without-keeps own S c a = All-filter (λ other. not (same other c)) P S a

  seen-siblings : (own : Id) (S : List Contact) (c : Contact) (seen : Seen) → P c → All P S → All P (seen_siblings (record { own = own; list = S }) c seen)
  seen-siblings own S c Added p a = with-keeps own S c p a
  seen-siblings own S c Moved p a = with-keeps own S c p a
  seen-siblings own S c Spared p a = with-keeps own S c p a
  seen-siblings own S c Conflict p a = a
  seen-siblings own S c Own p a = a

  failed-siblings : (own : Id) (S : List Contact) (c : Contact) (gone : Gone) → All P S → All P (failed_siblings (record { own = own; list = S }) c gone)
  failed-siblings own S c Kept a = a
  failed-siblings own S c Removed a = without-keeps own S c a
  failed-siblings own S c Replaced a = without-keeps own S c a
  failed-siblings own S c Unknown a = without-keeps own S c a

  rows-held : (s : TableState) → All P (held_in s) → All Keeps s.rows
  rows-held s a = to-rows s.rows (all-left P (flat_map kept_in s.rows) s.siblings a)

  siblings-held : (s : TableState) → All P (held_in s) → All P s.siblings
  siblings-held s a = all-right P (flat_map kept_in s.rows) s.siblings a

  held : (rows : List RowState) (siblings : List Contact) → All Keeps rows → All P siblings → All P (flat_map kept_in rows ++ siblings)
  held rows siblings a b = All-append P (flat_map kept_in rows) siblings (from-rows rows a) b

  after-holds : (s : TableState) (c : Contact) (seen : Seen) (proofs : Proofs) → P c → All P (held_in s) → All P (held_in (after_seen s c seen proofs))
  after-holds s c seen proofs here a =
      held (seen_rows s.own s.k s.b c s.rows) (seen_siblings (siblings_of s) c seen) (seen_rows-keeps s.own s.k s.b c s.rows here (rows-held s a)) (seen-siblings s.own s.siblings c seen here (siblings-held s a))

  step-holds : (s : TableState) (role : ℕ) (call : TableCall) (x : TableReply) → All P (held_in s) → All P (told_in call) → All P (held_in (table_after s role call x))
  step-holds s role (Seen_call c) (Seen_reply seen) a p = after-holds s c seen s.proofs (All-head P c [] p) a
  step-holds s role (Seen_call c) (Gone_reply x) a p = a
  step-holds s role (Seen_call c) (List_reply x) a p = a
  step-holds s role (Seen_call c) (Reports_reply x) a p = a
  step-holds s role (Seen_call c) Crowded a p = a
  step-holds s role (Seen_call c) NoMemory a p = a
  step-holds s role (Vouched c proof) (Seen_reply seen) a p = after-holds s c seen (noted c proof s.proofs) (All-head P c [] p) a
  step-holds s role (Vouched c proof) (Gone_reply x) a p = a
  step-holds s role (Vouched c proof) (List_reply x) a p = a
  step-holds s role (Vouched c proof) (Reports_reply x) a p = a
  step-holds s role (Vouched c proof) Crowded a p = a
  step-holds s role (Vouched c proof) NoMemory a p = a
  step-holds s role (Failed c) (Gone_reply gone) a p = held (failed_rows gone c s.rows) (failed_siblings (siblings_of s) c gone) (failed_rows-keeps gone c s.rows (rows-held s a)) (failed-siblings s.own s.siblings c gone (siblings-held s a))
  step-holds s role (Failed c) (Seen_reply x) a p = a
  step-holds s role (Failed c) (List_reply x) a p = a
  step-holds s role (Failed c) (Reports_reply x) a p = a
  step-holds s role (Failed c) Crowded a p = a
  step-holds s role (Failed c) NoMemory a p = a
  step-holds s role (Closest target n) x a p = a
  step-holds s role (Vouchers target n) x a p = a

  -- what holds of all that are held, and of a contact that is new to the buckets, holds after that contact was seen
  known-keeps : (own : Id) (k b : ℕ) (c : Contact) (rows after : List RowState) (seen : Seen) (S : List Contact) → SoundRows own k b rows → SeenStep own k b c rows seen after → (¬ IsNew own rows c) → All Keeps rows → All P S
      → All P (held_by after (seen_siblings (record { own = own; list = S }) c seen))
  known-keeps own k b c rows after seen S s (is_own o) old a z = held rows S a z
  known-keeps own k b c rows after seen S s (split f g row o e here n t) old a z =
      absurd (old (row-new own k b rows row c s (record { front = f; back = g; rows_are = e; covers = here }) o n.new))
  known-keeps own k b c rows after Added S s (in_row f g row row' o e here w t q) old a z =
      absurd (old (row-new own k b rows row c s (record { front = f; back = g; rows_are = e; covers = here }) o t.0))
  known-keeps own k b c rows after Spared S s (in_row f g row row' o e here w t q) old a z =
      absurd (old (row-new own k b rows row c s (record { front = f; back = g; rows_are = e; covers = here }) o t.0))
  known-keeps own k b c rows after Own S s (in_row f g row row' o e here w t q) old a z = absurd t
  known-keeps own k b c rows after Conflict S s (in_row f g row row' o e here w t q) old a z =
      held after S (subst (All Keeps) (e ∙ ap (λ (r : RowState). f ++ r ∷ g) (sym t.2) ∙ sym q) a) z
  known-keeps own k b c rows after Moved S s (in_row f g row row' o e here w t q) old a z =
      let all : All Keeps (f ++ row ∷ g) = subst (All Keeps) e a in
      let here_all : Keeps row = all-here Keeps f row g all in
      let p : P c = passes-among P (live_in row) c t.0 (lives row here_all) in
      let kept : Keeps (moved c row) = All-append P (map contact_of (without c row.live ++ fresh c ∷ [])) row.spares (all-ended P (without c row.live) c (all-without P c row.live (lives row here_all)) p) (spares row here_all) in
      held after (with_one (record { own = own; list = S }) c) (subst (All Keeps) (sym q) (all-put Keeps f row row' g all (subst Keeps (sym t.1) kept))) (with-keeps own S c p z)

  pub seen-holds : (own : Id) (k b : ℕ) (c : Contact) (rows after : List RowState) (seen : Seen) (S : List Contact) → SoundRows own k b rows → SeenStep own k b c rows seen after → (IsNew own rows c → P c) → All P (held_by rows S)
      → All P (held_by after (seen_siblings (record { own = own; list = S }) c seen))
  seen-holds own k b c rows after seen S s t new a =
      let in_rows = to-rows rows (all-left P (flat_map kept_in rows) S a) in
      let in_siblings = all-right P (flat_map kept_in rows) S a in
      new-or-old (All P (held_by after (seen_siblings (record { own = own; list = S }) c seen))) own rows c
      (λ is. subst (λ (l : List RowState). All P (held_by l (seen_siblings (record { own = own; list = S }) c seen))) (sym (seen-is own k b c rows after seen s t))
      (held (seen_rows own k b c rows) (seen_siblings (record { own = own; list = S }) c seen) (seen_rows-keeps own k b c rows (new is) in_rows) (seen-siblings own S c seen (new is) in_siblings)))
      (λ old. known-keeps own k b c rows after seen S s t old in_rows in_siblings)

  pub failed-holds : (own : Id) (c : Contact) (rows : List RowState) (gone : Gone) (S : List Contact) → All P (held_by rows S) → All P (held_by (failed_rows gone c rows) (failed_siblings (record { own = own; list = S }) c gone))
  failed-holds own c rows gone S a =
      held (failed_rows gone c rows) (failed_siblings (record { own = own; list = S }) c gone) (failed_rows-keeps gone c rows (to-rows rows (all-left P (flat_map kept_in rows) S a))) (failed-siblings own S c gone (all-right P (flat_map kept_in rows) S a))

  pub run-holds : (s : TableState) (run : List (Made TableCall TableReply)) → All P (held_in s) → All P (told_by run) → All P (held_in (left_by table_after s run))
  run-holds s [] a p = a
  run-holds s (e ∷ run) a p =
      let q = subst (All P) (flat_map-cons (λ (m : Made TableCall TableReply). told_in m.call) e run) p in
      run-holds (table_after s e.role e.call e.reply) run (step-holds s e.role e.call e.reply a (all-left P (told_in e.call) (told_by run) q)) (all-right P (told_in e.call) (told_by run) q)

  pub listed : (s : TableState) → All P (held_in s) → All P (contacts_of s)
  listed s a = All-append P (live_of s.rows) s.siblings (live-rows s.rows (rows-held s a)) (siblings-held s a)

pub holds : (s : TableState) (run : List (Made TableCall TableReply)) → All (Contains (held_in s ++ told_by run)) (held_in (left_by table_after s run))
holds s run =
    let had : All (Contains (held_in s ++ told_by run)) (held_in s) = λ i d lt. Contains-append_left (held_in s) (told_by run) _ (All-contains_itself (held_in s) i d lt) in
    let told : All (Contains (held_in s ++ told_by run)) (told_by run) = λ i d lt. Contains-append_right (held_in s) (told_by run) _ (All-contains_itself (told_by run) i d lt) in
    run-holds (Contains (held_in s ++ told_by run)) s run had told

pub since-limited : (own : Id) (k b n : ℕ) (run : List (Made TableCall TableReply)) → All (Contains (told_by run)) (contacts_of (left_by table_after (limited_table own k b n) run))
since-limited own k b n run =
    listed (Contains (told_by run)) (left_by table_after (limited_table own k b n) run)
    (run-holds (Contains (told_by run)) (limited_table own k b n) run (All-nil (Contains (told_by run))) (All-contains_itself (told_by run)))

pub since-new : (own : Id) (k b : ℕ) (run : List (Made TableCall TableReply)) → All (Contains (told_by run)) (contacts_of (left_by table_after (new_table own k b) run))
since-new own k b run = since-limited own k b 0 run
