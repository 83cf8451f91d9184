-- A batch that all workers answered: what became of each datagram, in the order in which they came.
use Rattle.std.proofs.Common.{◌≡◌, ℕ, ◌*◌, ◌<◌, ◌≤◌, List, [], ◌∷◌, length, map, take, get_or, sym, ap, subst, ◌∙◌, arith, All}
use Rattle.std.specs.Prelude.{slice_index_or}
use Rattle.std.specs.List.{flat_map}
use Rattle.std.proofs.lemmas.Simd.{map-map}
use Rattle.std.proofs.lemmas.List.{get_or-map, get_or_default, length-map, length-take-le, take-map, take-take}
use Rattle.std.proofs.lemmas.List.Elements.{All-map}
use Rattle.std.proofs.lemmas.List.Folds.{flat_map-map}
use Rattle.serve_batches.specs.declared.place.Place.{Place}
use Rattle.serve_batches.specs.Deal.{dealt}
use Rattle.serve_batches.specs.Ring.{ring, share, in_order}
use Rattle.serve_batches.proofs.Rings.{dealt_map, in_order_map, ring_within, within_share}
use Rattle.kad_base.specs.declared.types.Event.{Event}
use Rattle.node_serve.specs.Calls.{Did}
use Rattle.node_serve.specs.Sealing.{Tags}
use Rattle.node_serve.specs.declared.node.Answered.{Answered}
use Rattle.node_serve.specs.declared.node.Answered.TheVariants.{Reply as Reply_owed, Silent, NoMemory}
use Rattle.node_serve.specs.declared.setting.ServeSetting.{ServeSetting}
use Rattle.serve_crew.specs.Answered.{IsAnswered}
use Rattle.serve_crew.specs.Hands.{CanWork, Grew}
use Rattle.serve_crew.specs.declared.turns.Turns.{Turns}
use Rattle.serve_batches.specs.Batches.{Datagram, Done, IsAnsweredBy, IsDone, Replies}
use Rattle.serve_batches.specs.Crew.{slots_of, datagrams_of, batch_slots, batch_datagrams, no_slot, no_datagram, AreRoomy, SameCrew, HasShares, AllWorked, AllWent, SendsFor}
use Rattle.serve_batches.specs.Slots.{SlotState, datagram_in, reply_by, reply_in, Went, Handled, IsHandled}
use Rattle.serve_batches.specs.declared.shift.Shift.{Shift}
use Rattle.serve_batches.proofs.Arriving.{slots_here}
use Rattle.serve_batches.proofs.Rounds.{share_room, Chosen, choose, in_order_shared, all_in_order, dealt_all}

abbrev pub no_handled : Handled
no_handled = record { slot = no_slot; did = [] }

abbrev pub done_of : Handled → Done
done_of h = record { datagram = datagram_in h.slot; did = h.did; reply = reply_in h.slot }

-- ---- crews

pub first_of : (crew : List Shift) → 0 < length crew → Shift
first_of [] lt = absurd (omega (arith, lt))
first_of (s ∷ crew) lt = s

pub shares_here : (crew : List Shift) (m : ℕ) (p : Place) → p ≡ ring (length crew) m → m ≤ 32 → AreRoomy crew → HasShares p crew
shares_here crew m p is few roomy w d lt =
    subst (λ q. share q w ≤ length (get_or crew w d).slots.items) (sym is) (share_room (length crew) m w (length (get_or crew w d).slots.items) few (roomy w d lt))

module _ (turns : Turns) where
  abbrev Can : Shift → Type 0
  Can s = CanWork turns s.worker

  pub can_after : (old new : List Shift) → SameCrew old new → All Can old → All Can new
  can_after old new same can w d lt =
      let l = same.len in
      let there : w < length old = omega (arith, l, lt) in
      subst (CanWork turns) (sym (same.workers w d there)) (can w d there)

pub roomy_worked : (tag_of : Tags) (s : ServeSetting) (p : Place) (old new : List Shift) → length new ≡ length old → AllWorked tag_of s p old new → AreRoomy old → AreRoomy new
roomy_worked tag_of s p old new len worked roomy w d lt =
    let there : w < length old = omega (arith, len, lt) in
    subst (λ n. 32 ≤ length (get_or new w d).slots.items * n) (sym len)
    (subst (λ k. 32 ≤ k * length old) (sym (worked w d there).len) (roomy w d there))

-- ---- what became of each

all_unmap : {A B : Type 0} (P : B → Type 0) (f : A → B) (xs : List A) → All P (map f xs) → All (λ x. P (f x)) xs
all_unmap P f xs a k d lt = (let l = length-map xs f in let there : k < length (map f xs) = omega (arith, l, lt) in subst P (get_or-map f xs k d (f d) lt) (a k (f d) there))

is_answered_by : (tag_of : Tags) (s : ServeSetting) (d : Datagram) (answered : Answered) (out : List ℕ) (did : List Did) → IsAnswered tag_of s d.from d.bytes d.at answered out did → Went answered → IsAnsweredBy tag_of s d did (reply_by answered out)
is_answered_by tag_of s d (Reply_owed n) out did h w = h.1
is_answered_by tag_of s d Silent out did h w = h
is_answered_by tag_of s d NoMemory out did h w = absurd w

replies_for : (hs : List Handled) (es : List Event) → SendsFor (map (λ (h : Handled). h.slot) hs) es → Replies (map done_of hs) es
replies_for [] es h = h
replies_for (x ∷ hs) es h = (h.0, h.1, h.2, replies_for hs h.1 h.3)

-- a batch that was answered
pub record Answered_batch (tag_of : Tags) (s : ServeSetting) (m : ℕ) (mid new : List Shift) : Type 0 where
  pub batch : List Done
  pub datagrams : map (λ (d : Done). d.datagram) batch ≡ batch_datagrams mid m
  pub done : All (IsDone tag_of s) batch
  pub grew : (w : ℕ) (d : Shift) → w < length mid → Grew (slice_index_or mid w d).worker (slice_index_or new w d).worker (flat_map (λ (x : Done). x.did) (dealt (length mid) w batch))
  pub replies : (es : List Event) → SendsFor (batch_slots new m) es → Replies batch es

module _ (tag_of : Tags) (s : ServeSetting) (m : ℕ) (mid new : List Shift) (some : 0 < length mid) (len : length new ≡ length mid) (few : m ≤ 32) (roomy : AreRoomy mid) (worked : AllWorked tag_of s (ring (length mid) m) mid new) where
  abbrev pub part : ℕ → ℕ
  part w = share (ring (length mid) m) w

  -- what a worker did with its share
  pub record ShareOf (w : ℕ) (all : List Handled) : Type 0 where
    pub slots_are : map (λ (h : Handled). h.slot) all ≡ take (part w) (slots_of new w)
    pub same : map datagram_in (take (part w) (slots_of new w)) ≡ map datagram_in (take (part w) (slots_of mid w))
    pub count : length all ≡ part w
    pub handled : All (IsHandled tag_of s) all
    pub grew : (d : Shift) → Grew (slice_index_or mid w d).worker (slice_index_or new w d).worker (flat_map (λ (h : Handled). h.did) all)

  pub share_of : (w : ℕ) → w < length mid → (all : List Handled) × ShareOf w all
  share_of w lt =
      let d : Shift = first_of mid some in
      let there : w < length new = omega (arith, len, lt) in
      let h = worked w d lt in
      let old_slots : slots_of mid w ≡ (get_or mid w d).slots.items = slots_here mid w d lt in
      let new_slots : slots_of new w ≡ (get_or new w d).slots.items = slots_here new w d there in
      let slots : map (λ (x : Handled). x.slot) h.answers.all ≡ take (part w) (slots_of new w) = h.answers.slots_are ∙ ap (take (part w)) (sym new_slots) in
      let room : part w ≤ length (get_or mid w d).slots.items = share_room (length mid) m w (length (get_or mid w d).slots.items) few (roomy w d lt) in
      let l = h.len in
      let fits : part w ≤ length (get_or new w d).slots.items = omega (arith, room, l) in (
        h.answers.all,
        record {
          slots_are = slots;
          same = ap (λ k. map datagram_in (take (part w) k)) new_slots ∙ h.answers.same ∙ ap (λ k. map datagram_in (take (part w) k)) (sym old_slots);
          count = sym (length-map h.answers.all (λ (x : Handled). x.slot)) ∙ ap length h.answers.slots_are ∙ length-take-le (part w) (get_or new w d).slots.items fits;
          handled = h.answers.handled;
          grew = λ e.
              subst (λ x. Grew x (slice_index_or new w e).worker (flat_map (λ (y : Handled). y.did) h.answers.all)) (ap (λ (x : Shift). x.worker) (get_or_default mid w d e lt))
              (subst (λ x. Grew (slice_index_or mid w d).worker x (flat_map (λ (y : Handled). y.did) h.answers.all)) (ap (λ (x : Shift). x.worker) (get_or_default new w d e there)) h.answers.grew);
        },
      )

  pub chosen : Chosen {A = List Handled} [] ShareOf (length mid)
  chosen = choose [] ShareOf (length mid) share_of

  pub alls : ℕ → List Handled
  alls w = get_or chosen.items w []

module _ (tag_of : Tags) (s : ServeSetting) (m : ℕ) (mid new : List Shift) (some : 0 < length mid) (len : length new ≡ length mid) (few : m ≤ 32) (roomy : AreRoomy mid) (worked : AllWorked tag_of s (ring (length mid) m) mid new)
    (f : ℕ → List Handled) (each : (w : ℕ) → w < length mid → ShareOf tag_of s m mid new some len few roomy worked w (f w)) where
  abbrev pub all : List Handled
  all = in_order (length mid) no_handled f m

  all_slots : map (λ (h : Handled). h.slot) all ≡ batch_slots new m
  all_slots =
      sym (in_order_map (λ (h : Handled). h.slot) no_handled (length mid) f m)
      ∙ in_order_shared no_slot (length mid) (λ w. map (λ (h : Handled). h.slot) (f w)) (slots_of new) m some
      (λ w lt. ap (take (share (ring (length mid) m) w)) (each w lt).slots_are ∙ take-take (share (ring (length mid) m) w) (share (ring (length mid) m) w) (slots_of new w) (omega arith))
      ∙ ap (λ n. in_order n no_slot (slots_of new) m) (sym len)

  all_datagrams : map datagram_in (batch_slots new m) ≡ batch_datagrams mid m
  all_datagrams =
      ap (λ n. map datagram_in (in_order n no_slot (slots_of new) m)) len
      ∙ sym (in_order_map datagram_in no_slot (length mid) (slots_of new) m)
      ∙ in_order_shared no_datagram (length mid) (datagrams_of new) (datagrams_of mid) m some
      (λ w lt. take-map datagram_in (share (ring (length mid) m) w) (slots_of new w) ∙ (each w lt).same ∙ sym (take-map datagram_in (share (ring (length mid) m) w) (slots_of mid w)))

  all_handled : All (IsHandled tag_of s) all
  all_handled =
      all_in_order no_handled (IsHandled tag_of s) (length mid) f m (λ j lt.
      let h : ℕ = (ring (length mid) j).holder in
      let k = each h (ring_within (length mid) j some) in
      let count = k.count in
      let within : (ring (length mid) j).round < share (ring (length mid) m) (ring (length mid) j).holder = within_share (length mid) j m some lt in
      k.handled (ring (length mid) j).round no_handled (omega (arith, within, count)))

  pub batch_answered : AllWent (batch_slots new m) → Answered_batch tag_of s m mid new
  batch_answered went =
      let each_went : All (λ (h : Handled). Went h.slot.answered) all = all_unmap (λ (x : SlotState). Went x.answered) (λ (h : Handled). h.slot) all (subst AllWent (sym all_slots) went) in
      record {
        batch = map done_of all;
        datagrams = map-map (λ (d : Done). d.datagram) done_of all ∙ sym (map-map datagram_in (λ (h : Handled). h.slot) all) ∙ ap (map datagram_in) all_slots ∙ all_datagrams;
        done = All-map (IsDone tag_of s) done_of all (λ k d lt.
            let h : Handled = get_or all k d in
            is_answered_by tag_of s (datagram_in h.slot) h.slot.answered h.slot.out h.did (all_handled k d lt) (each_went k d lt));
        grew = λ w d lt.
            let h = each w lt in
            subst (Grew (slice_index_or mid w d).worker (slice_index_or new w d).worker)
            (sym (ap (flat_map (λ (x : Done). x.did)) (dealt_map done_of (length mid) w all ∙ ap (map done_of) (dealt_all no_handled (length mid) w f m lt h.count)) ∙ flat_map-map (λ (x : Done). x.did) done_of (f w)))
            (h.grew d);
        replies = λ es sends. replies_for all es (subst (λ l. SendsFor l es) (sym all_slots) sends);
      }

pub answered_all : (tag_of : Tags) (s : ServeSetting) (m : ℕ) (mid new : List Shift) → 0 < length mid → length new ≡ length mid → m ≤ 32 → AreRoomy mid → AllWorked tag_of s (ring (length mid) m) mid new → AllWent (batch_slots new m) → Answered_batch tag_of s m mid new
unfolding alls chosen
answered_all tag_of s m mid new some len few roomy worked went =
    let c = chosen tag_of s m mid new some len few roomy worked in
    batch_answered tag_of s m mid new some len few roomy worked (alls tag_of s m mid new some len few roomy worked) c.each went
