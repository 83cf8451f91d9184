-- A lookup in a network meets no more datagrams than it asks contacts, and so not the last stray that a lookup takes.
use Rattle.std.proofs.Common.{◌≡◌, ℕ, ◌+◌, ◌*◌, ◌≤◌, ◌<◌, List, [], ◌∷◌, ◌++◌, length, Bool, Option, Some, None, inl, inr, refl, sym, ap, subst, ◌∙◌, arith}
use Rattle.std.specs.Prelude.{IfSome}
use Rattle.std.proofs.lemmas.List.{length-append}
use Rattle.std.proofs.lemmas.Grind.{flat_map-append}
use Rattle.kad_base.specs.declared.types.Contact.{Contact}
use Rattle.kad_base.specs.declared.types.Event.{Event}
use Rattle.kad_base.specs.declared.types.Event.TheVariants.{Now, Sent, Unsent, Got, Quiet}
use Rattle.kad_base.specs.Limits.{max_path_contacts, max_strays}
use Rattle.kad_base.specs.Outside.{Added, Rose}
use Rattle.fake_net.specs.Network.{Network}
use Rattle.fake_net.specs.Plays.{Plays}
use Rattle.fake_net.proofs.Answered.{got_of, sent_of, count, count_append, few_come}
use Rattle.id_puzzles.specs.Drawn.{WordsState}
use Rattle.contact_table.specs.TableState.{TableState}
use Rattle.claim_book.specs.declared.types.Entry.{Entry}
use Rattle.claim_book.specs.declared.types.Entry.TheVariants.{Seed, Ask, Heard, Lost, Note, Taken, Held, Turned, Rejected, Skipped}
use Rattle.claim_book.specs.Journal.{ask_of, asked}
use Rattle.claim_book.proofs.Bounds.{asked_few}
use Rattle.lookup_run.specs.declared.types.LookSetting.{LookSetting}
use Rattle.lookup_run.specs.Tells.{Given, Seen, driven, Gives, TellsFrom, begun, TellsSoFar, EndsAtStray}
use Rattle.lookup_run.specs.Lookup.{IsWithinLimits, setting_of, given_of, TellsEarly, Unfinished, EndsByStrays}
use Rattle.lookup_core.specs.Sealed.{Accepts}

-- ---- whom a journal asks

asks_append : (J K : List Entry) → length (asked (J ++ K)) ≡ length (asked J) + length (asked K)
unfolding asked
asks_append J K = ap length (flat_map-append ask_of J K) ∙ length-append (asked J) (asked K)

no_fewer : (xs more : List Entry) (n : ℕ) → n ≡ 0 → length (asked xs) + n ≤ length (asked (xs ++ more))
no_fewer xs more n none_more = (let a = asks_append xs more in omega (arith, a, none_more))

one_ask : (p : ℕ) (c : Contact) → length (asked (Ask p c ∷ [])) ≡ 1
unfolding asked
one_ask p c = refl

asked_driven : (J : List Entry) → asked (driven J) ≡ asked J
unfolding asked driven
asked_driven [] = refl
asked_driven (Seed p c ∷ J) = asked_driven J
asked_driven (Ask p c ∷ J) = ap (λ l. c ∷ l) (asked_driven J)
asked_driven (Heard p c reports ∷ J) = asked_driven J
asked_driven (Lost p c cause ∷ J) = asked_driven J
asked_driven (Note p c ∷ J) = asked_driven J
asked_driven (Taken p c ∷ J) = asked_driven J
asked_driven (Held p c by ∷ J) = asked_driven J
asked_driven (Turned p c ∷ J) = asked_driven J
asked_driven (Rejected p r ∷ J) = asked_driven J
asked_driven (Skipped p r ∷ J) = asked_driven J

-- ---- each stray is a datagram, and each query that is sent asks a contact

record Counts (s : Seen) (e : Event) (t : Seen) : Type 0 where
  strays : t.strays ≤ s.strays + got_of e
  asks : length (asked s.given) + sent_of e ≤ length (asked t.given)

counts : (g : Given) (J : List Entry) (s : Seen) (e : Event) (t : Seen) → Gives g J s e t → Counts s e t
counts g J s (Now at) t h = absurd h
counts g J s (Sent to bytes) t h = subst (Counts s (Sent to bytes)) (sym h.after) (record {
  strays = omega arith;
  asks = (let a = asks_append s.given (Ask h.path h.contact ∷ []) in let b = one_ask h.path h.contact in omega (arith, a, b));
})
counts g J s (Unsent to bytes) t h = subst (Counts s (Unsent to bytes)) (sym h.after) (record {
  strays = omega arith;
  asks = no_fewer s.given _ 0 refl;
})
counts g J s (Got from bytes until at) t h =
    elim h.1 [
      | inl m ↦ subst (Counts s (Got from bytes until at)) (sym m.after) (record { strays = omega arith; asks = no_fewer s.given _ 0 refl })
      | inr n ↦ subst (Counts s (Got from bytes until at)) (sym n.1) (record { strays = omega arith; asks = no_fewer s.given _ 0 refl })
    ]
counts g J s (Quiet until at) t h = subst (Counts s (Quiet until at)) (sym h.1) (record {
  strays = omega arith;
  asks = no_fewer s.given _ 0 refl;
})

record Counted (s : Seen) (es : List Event) (t : Seen) : Type 0 where
  strays : t.strays ≤ s.strays + count got_of es
  asks : length (asked s.given) + count sent_of es ≤ length (asked t.given)

counted : (g : Given) (J : List Entry) (s : Seen) (es : List Event) (t : Seen) → TellsFrom g J s es t → Counted s es t
counted g J s [] t h = subst (Counted s []) (sym h) (record { strays = omega arith; asks = omega arith })
counted g J s (e ∷ es) t h =
    let a = counts g J s e h.0 h.1 in
    let b = counted g J h.0 es t h.2 in
    let more_strays = a.strays in
    let all_strays = b.strays in
    let more_asks = a.asks in
    let all_asks = b.asks in
    record { strays = omega (arith, more_strays, all_strays); asks = omega (arith, more_asks, all_asks) }

record Few (J : List Entry) (events : List Event) (end : Seen) : Type 0 where
  strays : end.strays ≤ count got_of events
  asks : count sent_of events ≤ length (asked J)

few : (g : Given) (J : List Entry) (events : List Event) (end : Seen) → TellsSoFar g J events end → Few J events end
few g J [] end h = subst (Few J []) (sym h.1) (record { strays = omega arith; asks = omega arith })
few g J (Now at ∷ rest) end h =
    let c = counted g J (begun at) rest end h.0 in
    let strays = c.strays in
    let asks = c.asks in
    let same = ap (λ l. length (asked l)) h.1 in
    let all = ap length (asked_driven J) in
    record { strays = omega (arith, strays); asks = omega (arith, asks, same, all) }
few g J (Sent to bytes ∷ rest) end h = absurd h
few g J (Unsent to bytes ∷ rest) end h = absurd h
few g J (Got from bytes until at ∷ rest) end h = absurd h
few g J (Quiet until at ∷ rest) end h = absurd h

-- ---- the last stray

early : (g : Given) (J : List Entry) (events : List Event) → TellsEarly g J events → count sent_of events ≤ length (asked J)
early g J events t =
    let asks = (few g J t.front t.end t.so_far).asks in
    elim t.whole [
      | inl e ↦ (let same = ap (count sent_of) e in omega (arith, asks, same))
      | inr w ↦ (let same = ap (count sent_of) w.4 in let sum = count_append sent_of t.front (Got w.0 w.1 w.2 w.3 ∷ []) in omega (arith, asks, same, sum))
    ]

last : (g : Given) (J : List Entry) (events : List Event) (n : ℕ) → EndsAtStray g J events n → n ≤ count got_of events
last g J events n h =
    let strays = (few g J h.before h.end h.so_far).strays in
    let is = h.count in
    let same = ap (count got_of) h.last in
    let sum = count_append got_of h.before (Got h.from h.bytes h.until h.at ∷ []) in
    omega (arith, strays, is, same, sum)

-- what is told from the first event on
pub whole : (before : Option (List Event)) (events : List Event) (P : List Event → Type 0) → before ≡ Some [] → Added before events P → P events
whole before events P began a =
    let none_before : Some [] ≡ Some a.before = sym began ∙ a.was in
    let empty : [] ≡ a.before = cc in
    subst P (sym (a.sum_is ∙ ap (λ (l : List Event). l ++ a.added) (sym empty))) a.holds

few_asked : (look : LookSetting) (J : List Entry) (n : ℕ) → IsWithinLimits look → n ≤ length (asked J) → length (asked J) ≤ max_path_contacts * look.paths → n < max_strays
few_asked look J n limits le most = (let paths = limits.few_paths in omega (arith, le, most, paths))

pub no_strays : (look : LookSetting) (accepts : Accepts) (table : TableState) (words words' : WordsState) (net : Network) (wide : Bool) (before after : Option (List Event)) (sends sends' : ℕ) → IsWithinLimits look → before ≡ Some [] → (after ≡ None → ⊥)
    → IfSome after (Plays net wide) → Unfinished look accepts table words words' before after sends sends' → EndsByStrays look accepts table words before after → ⊥
no_strays look accepts table words words' net wide before None sends sends' limits began goes_on plays left ends = absurd (goes_on refl)
no_strays look accepts table words words' net wide before (Some events) sends sends' limits began goes_on plays left ends =
    let asks = early (given_of look accepts words) left.journal events (whole before events _ began left.tells) in
    let strays = last (given_of look accepts words) ends.journal events max_strays (whole before events _ began ends.tells) in
    let come = few_come net wide events plays in
    let some_path = limits.some_path in
    let few_live = limits.few in
    let most = asked_few (setting_of look) left.journal (omega (arith, some_path)) (omega (arith, few_live)) left.legal in
    let less = few_asked look left.journal (count sent_of events) limits asks most in
    absurd (omega (arith, strays, come, less))

-- a count that stands at 0 didn't rise
pub no_rise : Rose 0 0 → ⊥
no_rise (inl lt) = absurd (omega (arith, lt))
no_rise (inr le) = absurd (omega (arith, le))
