-- Each datagram that comes answers one that was sent, so that no more come than were sent.
use Rattle.std.proofs.Common.{◌≡◌, ℕ, ◌+◌, ◌≤◌, List, [], ◌∷◌, ◌++◌, length, Bool, Option, Some, None, refl, ap, arith}
use Rattle.std.proofs.lemmas.List.{length-append}
use Rattle.std.proofs.lemmas.List.Edits.{length-remove}
use Rattle.std.proofs.lemmas.Option.{slice_get_within}
use Rattle.kad_base.specs.declared.types.Addr.{Addr}
use Rattle.kad_base.specs.declared.types.Came.{Came}
use Rattle.kad_base.specs.declared.types.Came.TheVariants.{Packet, Quiet}
use Rattle.kad_base.specs.declared.types.Event.{Event}
use Rattle.kad_base.specs.declared.types.Event.TheVariants as event
use Rattle.kad_base.specs.Outside.{EventOf}
use Rattle.kad_krpc.specs.declared.message.Message.{Message}
use Rattle.fake_net.specs.declared.waiting.Waiting.{Waiting}
use Rattle.fake_net.specs.Network.{Network}
use Rattle.fake_net.specs.Replies.{reply_of, on_its_way, BringsAbout}
use Rattle.fake_net.specs.Queue.{Gets}
use Rattle.fake_net.specs.Plays.{PlaysTo, Plays, begins, tells, sends, receives}

-- ---- counts of events

abbrev pub got_of : Event → ℕ
got_of (event.Now at) = 0
got_of (event.Sent to bytes) = 0
got_of (event.Unsent to bytes) = 0
got_of (event.Got from bytes until at) = 1
got_of (event.Quiet until at) = 0

abbrev pub sent_of : Event → ℕ
sent_of (event.Now at) = 0
sent_of (event.Sent to bytes) = 1
sent_of (event.Unsent to bytes) = 0
sent_of (event.Got from bytes until at) = 0
sent_of (event.Quiet until at) = 0

abbrev pub count : (Event → ℕ) → List Event → ℕ
count f [] = 0
count f (e ∷ es) = f e + count f es

pub count_append : (f : Event → ℕ) (es fs : List Event) → count f (es ++ fs) ≡ count f es + count f fs
count_append f [] fs = omega arith
count_append f (e ∷ es) fs = (let h = count_append f es fs in omega (arith, h))

count_more : (f : Event → ℕ) (es : List Event) (e : Event) → count f (es ++ e ∷ []) ≡ count f es + f e
count_more f es e = (let h : count f (es ++ e ∷ []) ≡ count f es + (f e + 0) = count_append f es (e ∷ []) in omega (arith, h))

-- ---- one answer at most

way_few : (moment i : ℕ) (o : Option Message) (w x : Waiting) (ws : List Waiting) → w ∷ x ∷ ws ≡ on_its_way moment i o → ⊥
way_few moment i None w x ws e = (let n = ap length e in absurd (omega (arith, n)))
way_few moment i (Some m) w x ws e = (let n = ap length e in absurd (omega (arith, n)))

brings_few : (net : Network) (moment : ℕ) (to : Addr) (bytes : List ℕ) (answers : List Waiting) → BringsAbout net moment to bytes answers → length answers ≤ 1
brings_few net moment to bytes [] b = omega arith
brings_few net moment to bytes (w ∷ []) b = omega arith
brings_few net moment to bytes (w ∷ x ∷ ws) b =
    let nobody : w ∷ x ∷ ws ≡ [] = b.unanswered (λ i tx target lt at says. way_few moment i (reply_of net i tx target) w x ws (b.answered i tx target lt at says)) in
    absurd cc

-- ---- what comes waits no longer

one_less : (waiting : List Waiting) (moment until room : ℕ) (buf : List ℕ) (after : List Waiting) (came : Came) → Gets waiting moment until room buf after came → got_of (EventOf came until buf) + length after ≤ length waiting
one_less waiting moment until room buf after (Packet from len at) gets =
    let n = length-remove waiting gets.place (slice_get_within waiting gets.place gets.answer gets.next.here) in
    let m = ap length gets.left in
    omega (arith, n, m)
one_less waiting moment until room buf after (Quiet at) gets = (let m = ap length gets.left in omega (arith, m))

not_sent : (came : Came) (until : ℕ) (buf : List ℕ) → sent_of (EventOf came until buf) ≡ 0
not_sent (Packet from len at) until buf = refl
not_sent (Quiet at) until buf = refl

few_wait : (net : Network) (wide : Bool) (events : List Event) (moment : ℕ) (waiting : List Waiting) → PlaysTo net wide events moment waiting → count got_of events + length waiting ≤ count sent_of events
few_wait net wide events moment waiting begins = omega arith
few_wait net wide events moment waiting (tells {events = es} p) =
    let h = few_wait net wide es moment waiting p in
    let a = count_more got_of es (event.Now moment) in
    let b = count_more sent_of es (event.Now moment) in
    omega (arith, h, a, b)
few_wait net wide events moment waiting (sends {events = es} {moment = at} {waiting = held} to bytes p queued) =
    let h = few_wait net wide es at held p in
    let a = count_more got_of es (event.Sent to bytes) in
    let b = count_more sent_of es (event.Sent to bytes) in
    let few = brings_few net at to bytes queued.answers queued.brought in
    let all = ap length queued.behind in
    let sum = length-append held queued.answers in
    omega (arith, h, a, b, few, all, sum)
few_wait net wide events moment waiting (receives {events = es} {moment = last} {waiting = held} until room buf came has_room p gets) =
    let h = few_wait net wide es last held p in
    let a = count_more got_of es (EventOf came until buf) in
    let b = count_more sent_of es (EventOf came until buf) in
    let none_sent = not_sent came until buf in
    let less = one_less held last until room buf waiting came gets in
    omega (arith, h, a, b, none_sent, less)

pub few_come : (net : Network) (wide : Bool) (events : List Event) → Plays net wide events → count got_of events ≤ count sent_of events
few_come net wide events p = (let h = few_wait net wide events p.moment p.waiting p.plays in omega (arith, h))
