-- Replies are sent one after another.
use Rattle.std.proofs.Common.{◌≡◌, ℕ, ◌+◌, ◌==◌, Bool, true, false, List, [], ◌∷◌, ◌++◌, length, Option, Some, None, refl, sym, ap, subst, ◌∙◌, append-nil, append_assoc, arith}
use Rattle.std.specs.Prelude.{filter}
use Rattle.std.proofs.lemmas.List.{length-append}
use Rattle.std.proofs.lemmas.List.Elements.{filter-append, All-push, All-same}
use Rattle.kad_base.specs.declared.types.Addr.{Addr}
use Rattle.kad_base.specs.declared.types.Event.{Event}
use Rattle.kad_base.specs.Outside.{Grows, Happens}
use Rattle.serve_batches.specs.declared.place.Place.{Place}
use Rattle.serve_batches.specs.Ring.{ring}
use Rattle.serve_batches.proofs.Rings.{in_order_more}
use Rattle.node_serve.specs.Receives.{is_got, got_in, sent_in}
use Rattle.node_serve.proofs.Receiving.{sent_then}
use Rattle.serve_batches.specs.Batches.{sent_for}
use Rattle.serve_batches.specs.Crew.{AllWent, SendsFor, SendsAll, batch_slots, slot_at, slots_of, no_slot}
use Rattle.serve_batches.specs.Slots.{SlotState, Went, reply_in, sends_of}
use Rattle.serve_batches.specs.declared.shift.Shift.{Shift}
use Rattle.kad_base.proofs.Happening.{happens_then, happens_these}

pub got_then : (es fs : List Event) → got_in (es ++ fs) ≡ got_in es + got_in fs
got_then es fs = ap (λ (l : List Event). length l) (filter-append is_got es fs) ∙ length-append (filter is_got es) (filter is_got fs)

none_got : (b : Bool) (to : Addr) (r : Option (List ℕ)) → got_in (sent_for b to r) ≡ 0
none_got b to None = refl
none_got true to (Some text) = refl
none_got false to (Some text) = refl

sends_more : (slots : List SlotState) (s : SlotState) (b : Bool) (es : List Event) → SendsFor slots es → SendsFor (slots ++ s ∷ []) (es ++ sent_for b s.from (reply_in s))
sends_more [] s b es h = (b, [], ap (λ l. l ++ sent_for b s.from (reply_in s)) h ∙ sym (append-nil (sent_for b s.from (reply_in s))), refl)
sends_more (x ∷ slots) s b es h =
    (h.0, h.1 ++ sent_for b s.from (reply_in s), ap (λ l. l ++ sent_for b s.from (reply_in s)) h.2 ∙ append_assoc (sent_for h.0 x.from (reply_in x)) h.1 (sent_for b s.from (reply_in s)), sends_more slots s b h.1 h.3)

batch_slots_more : (crew : List Shift) (m : ℕ) (place : Place) → place ≡ ring (length crew) m → batch_slots crew (m + 1) ≡ batch_slots crew m ++ slot_at crew place ∷ []
batch_slots_more crew m place is = in_order_more no_slot (length crew) (slots_of crew) m ∙ ap (λ p. batch_slots crew m ++ slot_at crew p ∷ []) (sym is)

pub sent_more : (crew : List Shift) (m sent n : ℕ) (place : Place) (a b c : Option (List Event)) → place ≡ ring (length crew) m → Happens a b (SendsAll (batch_slots crew m) sent) → n ≡ sent_in (sends_of (slot_at crew place) n)
    → Grows b c (λ es. es ≡ sends_of (slot_at crew place) n) → Happens a c (SendsAll (batch_slots crew (m + 1)) (sent + n))
sent_more crew m sent n place a b c is h count grows =
    let s : SlotState = slot_at crew place in
    happens_then a b c _ (λ es. es ≡ sends_of s n) _ h (happens_these b c (sends_of s n) _ grows refl) (λ t u p e.
    let x = sent_then t u in
    let y = got_then t u in
    let z : got_in u ≡ 0 = ap got_in e ∙ none_got (n == 1) s.from (reply_in s) in
    let w : sent_in u ≡ n = ap sent_in e ∙ sym count in
    let before = p.sent_are in
    let got = p.none_got in
    record {
      are = subst (λ l. SendsFor l (t ++ u)) (sym (batch_slots_more crew m place is)) (subst (λ v. SendsFor (batch_slots crew m ++ s ∷ []) (t ++ v)) (sym e) (sends_more (batch_slots crew m) s (n == 1) t p.are));
      sent_are = omega (arith, x, w, before);
      none_got = omega (arith, y, z, got);
    })

-- ---- whether there was memory

pub went_more : (crew : List Shift) (m : ℕ) (place : Place) → place ≡ ring (length crew) m → AllWent (batch_slots crew m) → Went (slot_at crew place).answered → AllWent (batch_slots crew (m + 1))
went_more crew m place is h one =
    All-same (λ (s : SlotState). Went s.answered) (batch_slots crew (m + 1)) (batch_slots crew m ++ slot_at crew place ∷ []) (batch_slots_more crew m place is)
    (All-push (λ (s : SlotState). Went s.answered) (batch_slots crew m) (slot_at crew place) h one)
