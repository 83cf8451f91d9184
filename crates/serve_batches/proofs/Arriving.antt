-- Datagrams are put into the slots of a crew, one after another, as a batch is received.
use Rattle.std.proofs.Common.{◌≡◌, ◌≢◌, ℕ, zero, suc, ◌+◌, ◌*◌, ◌<◌, ◌≤◌, List, [], ◌∷◌, ◌++◌, length, map, set, get_or, true, false, Option, inl, inr, refl, sym, ap, subst, ◌∙◌, append-nil, arith, All}
use Rattle.std.specs.Prelude.{min}
use Rattle.std.proofs.lemmas.List.{get_or-map, get_or-set_same, get_or-set_other, length-map, length-set, get_or_default}
use Rattle.std.proofs.lemmas.List.Elements.{All-nil, All-push, All-same}
use Rattle.std.proofs.lemmas.Bool.{cases_eq}
use Rattle.kad_base.specs.declared.types.Event.{Event}
use Rattle.kad_base.specs.declared.types.Event.TheVariants.{Got, Quiet}
use Rattle.kad_base.specs.Outside.{Grows, Happens}
use Rattle.kad_base.proofs.Grown.{grows_then, grows_none}
use Rattle.serve_batches.specs.declared.place.Place.{Place}
use Rattle.serve_batches.specs.Ring.{ring, behind, in_order}
use Rattle.serve_batches.proofs.Rings.{ring_within, length_in_order}
use Rattle.node_serve.specs.Lasting.{is_over, waits_to}
use Rattle.serve_batches.specs.Batches.{Datagram, IsInTime, quiet, full, over, IsCutOff, max_batch, receives_of, waits_after}
use Rattle.serve_batches.specs.Crew.{slots_of, datagrams_of, batch_datagrams, slot_at, no_slot, no_datagram, HasSlots, AreRoomy, SameCrew, PutAt, IsReceived}
use Rattle.serve_batches.specs.Slots.{datagram_in}
use Rattle.serve_batches.specs.declared.shift.Shift.{Shift}
use Rattle.kad_base.proofs.Happening.{happens_these}
use Rattle.serve_batches.proofs.Rounds.{room_at, in_order_kept, in_order_put}

-- ---- a crew

pub slots_here : (crew : List Shift) (w : ℕ) (d : Shift) → w < length crew → slots_of crew w ≡ (get_or crew w d).slots.items
slots_here crew w d lt = get_or-map (λ (s : Shift). s.slots.items) crew w d [] lt

map_set : {A B : Type 0} (f : A → B) (xs : List A) (i : ℕ) (x : A) → map f (set xs i x) ≡ set (map f xs) i (f x)
map_set f [] i x = refl
map_set f (y ∷ xs) zero x = refl
map_set f (y ∷ xs) (suc i) x = ap (λ l. f y ∷ l) (map_set f xs i x)

pub slots_set : (crew : List Shift) (h : ℕ) (shift : Shift) → h < length crew → slots_of (set crew h shift) h ≡ shift.slots.items
slots_set crew h shift lt =
    let l = length-map crew (λ (s : Shift). s.slots.items) in
    ap (λ l. get_or l h []) (map_set (λ (s : Shift). s.slots.items) crew h shift)
    ∙ get_or-set_same (map (λ (s : Shift). s.slots.items) crew) h shift.slots.items [] (omega (arith, l, lt))

slots_other : (crew : List Shift) (h w : ℕ) (shift : Shift) → w ≢ h → slots_of (set crew h shift) w ≡ slots_of crew w
slots_other crew h w shift ne =
    ap (λ l. get_or l w []) (map_set (λ (s : Shift). s.slots.items) crew h shift)
    ∙ get_or-set_other (map (λ (s : Shift). s.slots.items) crew) h w shift.slots.items [] ne

pub same_crew_more : (old mid new : List Shift) → SameCrew old mid → SameCrew mid new → SameCrew old new
same_crew_more old mid new a b = record {
  len = b.len ∙ a.len;
  workers = λ w d lt. (let l = a.len in b.workers w d (omega (arith, l, lt)) ∙ a.workers w d lt);
  slots = λ w. b.slots w ∙ a.slots w;
}

pub roomy_after : (old new : List Shift) → SameCrew old new → AreRoomy old → AreRoomy new
roomy_after old new same roomy w d lt =
    let l = same.len in
    let there : w < length old = omega (arith, l, lt) in
    let slots : length (get_or old w d).slots.items ≡ length (get_or new w d).slots.items =
    ap length (sym (slots_here old w d there)) ∙ sym (same.slots w) ∙ ap length (slots_here new w d lt) in
    subst (λ n. 32 ≤ length (get_or new w d).slots.items * n) (sym l)
    (subst (λ k. 32 ≤ k * length old) slots (roomy w d there))

-- the slot of a datagram that may come is there
pub has_slot : (crew : List Shift) (j : ℕ) → AreRoomy crew → 0 < length crew → j < 32 → (ring (length crew) j).round < length (slots_of crew (ring (length crew) j).holder)
has_slot crew j roomy some few =
    let n : ℕ = length crew in
    let h : ℕ = (ring n j).holder in
    let within : (ring (length crew) j).holder < length crew = ring_within n j some in
    found crew h n roomy within
  where
    first_of : (xs : List Shift) → 0 < length xs → Shift
    first_of [] lt = absurd (omega (arith, lt))
    first_of (s ∷ xs) lt = s

    found : (xs : List Shift) (h n : ℕ) → All (HasSlots n) xs → h < length xs → (ring n j).round < length (slots_of xs h)
    found xs h n roomy within =
        let d : Shift = first_of xs (omega (arith, within)) in
        subst (λ l. (ring n j).round < length l) (sym (slots_here xs h d within)) (room_at n j (length (get_or xs h d).slots.items) few (roomy h d within))

-- ---- one receive

module _ (p : Place) (old : List Shift) (given shift : Shift) (within : p.holder < length old) (is : given ≡ get_or old p.holder given) where
  given_slots : slots_of old p.holder ≡ given.slots.items
  given_slots = slots_here old p.holder given within ∙ ap (λ (s : Shift). s.slots.items) (sym is)

  pub slot_set : slot_at (set old p.holder shift) p ≡ get_or shift.slots.items p.round no_slot
  slot_set = ap (λ l. get_or l p.round no_slot) (slots_set old p.holder shift within)

  pub put_at : shift.slots.items ≡ set given.slots.items p.round (get_or shift.slots.items p.round no_slot) → PutAt p old (set old p.holder shift)
  put_at put = record {
    here =
        ap (map datagram_in) (slots_set old p.holder shift within)
        ∙ ap (map datagram_in) put
        ∙ map_set datagram_in given.slots.items p.round (get_or shift.slots.items p.round no_slot)
        ∙ ap (λ l. set (map datagram_in l) p.round (datagram_in (get_or shift.slots.items p.round no_slot))) (sym given_slots)
        ∙ ap (λ s. set (datagrams_of old p.holder) p.round (datagram_in s)) (sym slot_set);
    others = λ w ne. ap (map datagram_in) (slots_other old p.holder w shift ne);
  }

  pub same_crew_set : shift.worker ≡ given.worker → length shift.slots.items ≡ length given.slots.items → SameCrew old (set old p.holder shift)
  same_crew_set worker len = record {
    len = length-set old p.holder shift;
    workers = λ w d lt. elim (cases_eq w p.holder) [
      | inl e ↦ ap (λ k. (get_or (set old p.holder shift) k d).worker) e ∙ ap (λ (s : Shift). s.worker) (get_or-set_same old p.holder shift d within) ∙ worker ∙ ap (λ (s : Shift). s.worker) (is ∙ get_or_default old p.holder given d within) ∙ ap (λ k. (get_or old k d).worker) (sym e)
      | inr ne ↦ ap (λ (s : Shift). s.worker) (get_or-set_other old p.holder w shift d ne)
    ];
    slots = λ w. elim (cases_eq w p.holder) [
      | inl e ↦ ap (λ k. length (slots_of (set old p.holder shift) k)) e ∙ ap length (slots_set old p.holder shift within) ∙ len ∙ ap length (sym given_slots) ∙ ap (λ k. length (slots_of old k)) (sym e)
      | inr ne ↦ ap length (slots_other old p.holder w shift ne)
    ];
  }

-- ---- all of a batch

receives_more : (until : ℕ) (ds : List Datagram) (d : Datagram) → receives_of until (ds ++ d ∷ []) ≡ receives_of until ds ++ receives_of (waits_after until ds) (d ∷ [])
receives_more until [] d = refl
receives_more until (x ∷ ds) d = ap (λ l. Got x.from x.bytes until x.at ∷ l) (receives_more x.at ds d)

waits_more : (until : ℕ) (ds : List Datagram) (d : Datagram) → waits_after until (ds ++ d ∷ []) ≡ d.at
waits_more until [] d = refl
waits_more until (x ∷ ds) d = waits_more x.at ds d

module _ (old new : List Shift) (m : ℕ) (len : length new ≡ length old) (put : PutAt (ring (length old) m) old new) where
  -- the datagrams before are as they were
  pub batch_kept : batch_datagrams new m ≡ batch_datagrams old m
  batch_kept =
      ap (λ n. in_order_of n) len
      ∙ in_order_kept no_datagram (length old) (datagrams_of old) (datagrams_of new) m (datagram_in (slot_at new (ring (length old) m))) put.here put.others
    where
      in_order_of : ℕ → List Datagram
      in_order_of n = in_order n no_datagram (datagrams_of new) m

  pub batch_more : (ring (length old) m).round < length (slots_of old (ring (length old) m).holder) → batch_datagrams new (m + 1) ≡ batch_datagrams old m ++ datagram_in (slot_at new (ring (length old) m)) ∷ []
  batch_more room =
      let l = length-map (slots_of old (ring (length old) m).holder) datagram_in in
      ap (λ n. in_order n no_datagram (datagrams_of new) (m + 1)) len
      ∙ in_order_put no_datagram (length old) (datagrams_of old) (datagrams_of new) m (datagram_in (slot_at new (ring (length old) m))) (omega (arith, l, room)) put.here put.others

-- the receives of a batch so far: where the next datagram goes, until when its receive waits, and what the link told
pub record Arrived (limit : Option ℕ) (moment : ℕ) (crew : List Shift) (m : ℕ) (place : Place) (until : ℕ) (told told' : Option (List Event)) : Type 0 where
  pub place_is : place ≡ ring (length crew) m
  pub until_is : until ≡ waits_after (waits_to limit moment) (batch_datagrams crew m)
  pub told_are : Grows told told' (λ es. es ≡ receives_of (waits_to limit moment) (batch_datagrams crew m))

-- the datagrams so far came before the end
abbrev pub AllInTime : Option ℕ → List Shift → ℕ → Type 0
AllInTime limit crew m = All (IsInTime limit) (batch_datagrams crew m)

module _ (limit : Option ℕ) (moment : ℕ) (old new : List Shift) (m : ℕ) (place : Place) (until : ℕ) (a b c : Option (List Event)) (before : Arrived limit moment old m place until a b) (same : SameCrew old new) (put : PutAt place old new) where
  put_here : PutAt (ring (length old) m) old new
  put_here = subst (λ p. PutAt p old new) before.place_is put

  one_more : place.round < length (slots_of old place.holder) → batch_datagrams new (m + 1) ≡ batch_datagrams old m ++ datagram_in (slot_at new place) ∷ []
  one_more room =
      batch_more old new m same.len put_here (subst (λ p. p.round < length (slots_of old p.holder)) before.place_is room)
      ∙ ap (λ p. batch_datagrams old m ++ datagram_in (slot_at new p) ∷ []) (sym before.place_is)

  pub arrived_more : (at : ℕ) (next : Place) → place.round < length (slots_of old place.holder) → next ≡ behind (length old) place → (slot_at new place).at ≡ at
      → Grows b c (λ es. es ≡ receives_of until (datagram_in (slot_at new place) ∷ [])) → Arrived limit moment new (m + 1) next at a c
  arrived_more at next room is came grows =
      let up : suc m ≡ m + 1 = omega arith in
      let d : Datagram = datagram_in (slot_at new place) in
      let more : batch_datagrams new (m + 1) ≡ batch_datagrams old m ++ datagram_in (slot_at new place) ∷ [] = one_more room in
      record {
        place_is = is ∙ ap (behind (length old)) before.place_is ∙ ap (ring (length old)) up ∙ ap (λ n. ring n (m + 1)) (sym same.len);
        until_is = sym came ∙ sym (waits_more (waits_to limit moment) (batch_datagrams old m) d) ∙ ap (waits_after (waits_to limit moment)) (sym more);
        told_are = grows_then a b c _ _ _ before.told_are grows (λ t u e f.
            ap (λ l. l ++ u) e ∙ ap (λ l. receives_of (waits_to limit moment) (batch_datagrams old m) ++ l) f
            ∙ ap (λ w. receives_of (waits_to limit moment) (batch_datagrams old m) ++ receives_of w (d ∷ [])) before.until_is
            ∙ sym (receives_more (waits_to limit moment) (batch_datagrams old m) d) ∙ ap (receives_of (waits_to limit moment)) (sym more));
      }

  -- it came before the end, as those before it
  pub in_time_more : (at : ℕ) → place.round < length (slots_of old place.holder) → (slot_at new place).at ≡ at → is_over limit at ≡ false → AllInTime limit old m → AllInTime limit new (m + 1)
  in_time_more at room came goes all =
      All-same (IsInTime limit) (batch_datagrams new (m + 1)) (batch_datagrams old m ++ datagram_in (slot_at new place) ∷ []) (one_more room)
      (All-push (IsInTime limit) (batch_datagrams old m) (datagram_in (slot_at new place)) all (ap (is_over limit) came ∙ goes))

  -- it came at the end or behind it
  pub arrived_over : (left at : ℕ) (next : Place) → place.round < length (slots_of old place.holder) → next ≡ behind (length old) place → (slot_at new place).at ≡ at
      → Grows b c (λ es. es ≡ receives_of until (datagram_in (slot_at new place) ∷ [])) → m < min left max_batch → is_over limit at ≡ true → AllInTime limit old m
      → Happens a c (IsReceived limit left moment (record { place = next; came = m + 1; made = m + 1; moment = at }) new)
  arrived_over left at next room is came grows few past all =
      let h = arrived_more at next room is came grows in
      let count : length (batch_datagrams new (m + 1)) ≡ m + 1 = length_in_order no_datagram (length new) (datagrams_of new) (m + 1) in
      happens_these a c (receives_of (waits_to limit moment) (batch_datagrams new (m + 1))) _ h.told_are
      (over (batch_datagrams old m) (datagram_in (slot_at new place)) (one_more room) (omega (arith, few, count)) all (ap (is_over limit) came ∙ past) refl (sym count) (sym came))

  pub arrived_quiet : (left at : ℕ) → m < min left max_batch → AllInTime limit old m → Grows b c (λ es. es ≡ Quiet until at ∷ []) → Happens a c (IsReceived limit left moment (record { place = place; came = m; made = m + 1; moment = at }) new)
  arrived_quiet left at few all grows =
      let kept : batch_datagrams new m ≡ batch_datagrams old m = batch_kept old new m same.len put_here in
      let count : length (batch_datagrams new m) ≡ m = length_in_order no_datagram (length new) (datagrams_of new) m in
      let w : ℕ = waits_to limit moment in
      happens_these a c (receives_of w (batch_datagrams new m) ++ Quiet (waits_after w (batch_datagrams new m)) at ∷ []) _
      (grows_then a b c _ _ _ before.told_are grows (λ t u e f.
      ap (λ l. l ++ u) e ∙ ap (λ l. receives_of w (batch_datagrams old m) ++ l) f
      ∙ ap (λ v. receives_of w (batch_datagrams old m) ++ Quiet v at ∷ []) before.until_is
      ∙ ap (λ ds. receives_of w ds ++ Quiet (waits_after w ds) at ∷ []) (sym kept)))
      (quiet (omega (arith, few, count)) (All-same (IsInTime limit) (batch_datagrams new m) (batch_datagrams old m) kept all) refl (omega (arith, count)))

module _ (limit : Option ℕ) (moment : ℕ) (crew : List Shift) where
  pub arrived_none : (place : Place) (until : ℕ) (a : Option (List Event)) → place ≡ ring (length crew) 0 → until ≡ waits_to limit moment → Arrived limit moment crew 0 place until a a
  arrived_none place until a p u = record { place_is = p; until_is = u; told_are = grows_none a _ refl }

  pub none_late : AllInTime limit crew 0
  none_late = All-nil (IsInTime limit)

  pub arrived_cut : (m : ℕ) (place : Place) (until left : ℕ) (a b c : Option (List Event)) → is_over limit moment ≡ false → AllInTime limit crew m → Arrived limit moment crew m place until a b → m < min left max_batch → Grows b c (λ es. es ≡ [])
      → Happens a c (IsCutOff limit left moment)
  arrived_cut m place until left a b c goes all h few grows =
      let ds : List Datagram = batch_datagrams crew m in
      let count : length (batch_datagrams crew m) ≡ m = length_in_order no_datagram (length crew) (datagrams_of crew) m in
      happens_these a c (receives_of (waits_to limit moment) ds) _
      (grows_then a b c _ _ _ h.told_are grows (λ t u e f. ap (λ l. t ++ l) f ∙ append-nil t ∙ e))
      (record { goes = goes; came = ds; in_time = all; few = omega (arith, few, count); are = refl })

  pub arrived_all : (m : ℕ) (place : Place) (until left : ℕ) (a b : Option (List Event)) → AllInTime limit crew m → Arrived limit moment crew m place until a b → m ≡ min left max_batch
      → Happens a b (IsReceived limit left moment (record { place = place; came = m; made = m; moment = until }) crew)
  arrived_all m place until left a b in_time h all =
      let count : length (batch_datagrams crew m) ≡ m = length_in_order no_datagram (length crew) (datagrams_of crew) m in
      happens_these a b (receives_of (waits_to limit moment) (batch_datagrams crew m)) _ h.told_are
      (full (count ∙ all) in_time refl (sym count) h.until_is)
