-- A network whose receives are wide goes one way alone: what it gives to a call follows from the events before.
use Rattle.std.proofs.Common.{◌≡◌, ◌⊎◌, ℕ, ◌+◌, ◌<◌, ◌≤◌, List, [], ◌∷◌, ◌++◌, length, get_or, slice_get, true, Option, Some, inl, inr, refl, sym, ap, subst, ◌∙◌, arith}
use Rattle.std.specs.Prelude.{min, max, take, remove}
use Rattle.std.proofs.lemmas.Bool.{cases_eq}
use Rattle.std.proofs.lemmas.Option.{slice_get_within, get_or_from_slice_get}
use Rattle.kad_base.specs.declared.types.Ip.{Ip}
use Rattle.kad_base.specs.declared.types.Ip.TheVariants.{V4, V6}
use Rattle.kad_base.specs.declared.types.Addr.{Addr}
use Rattle.kad_base.specs.declared.types.Came.{Came}
use Rattle.kad_base.specs.declared.types.Came.TheVariants as came_as
use Rattle.kad_base.specs.declared.types.Event.{Event}
use Rattle.kad_base.specs.declared.types.Event.TheVariants.{Now, Sent, Unsent, Got, Quiet}
use Rattle.kad_base.specs.Limits.{max_datagram}
use Rattle.kad_base.specs.Outside.{EventOf, came_at}
use Rattle.fake_net.specs.declared.waiting.Waiting.{Waiting}
use Rattle.fake_net.specs.Network.{Network}
use Rattle.fake_net.specs.Replies.{BringsAbout}
use Rattle.fake_net.specs.Queue.{IsNextWaiting, NoneWaits, Gets, QueuedBy}
use Rattle.fake_net.specs.Plays.{PlaysTo, Plays, begins, tells, sends, receives, until_of}

-- ---- two lists of answers are equal or aren't

numbers_eq : (xs ys : List ℕ) → (xs ≡ ys) ⊎ (xs ≡ ys → ⊥)
numbers_eq [] [] = inl refl
numbers_eq [] (y ∷ ys) = inr (λ e. absurd cc)
numbers_eq (x ∷ xs) [] = inr (λ e. absurd cc)
numbers_eq (x ∷ xs) (y ∷ ys) =
    elim (cases_eq x y) [
      | inl e ↦ elim (numbers_eq xs ys) [ inl es ↦ inl (ap (λ n. n ∷ xs) e ∙ ap (λ l. y ∷ l) es) | inr ne ↦ inr (λ all. let tail : xs ≡ ys = cc in ne tail) ]
      | inr ne ↦ inr (λ all. let head : x ≡ y = cc in ne head)
    ]

ip_eq : (x y : Ip) → (x ≡ y) ⊎ (x ≡ y → ⊥)
ip_eq (V4 a) (V4 b) = elim (numbers_eq a b) [ inl e ↦ inl (ap V4 e) | inr ne ↦ inr (λ all. let bytes : a ≡ b = cc in ne bytes) ]
ip_eq (V4 a) (V6 b) = inr (λ e. absurd cc)
ip_eq (V6 a) (V4 b) = inr (λ e. absurd cc)
ip_eq (V6 a) (V6 b) = elim (numbers_eq a b) [ inl e ↦ inl (ap V6 e) | inr ne ↦ inr (λ all. let bytes : a ≡ b = cc in ne bytes) ]

addr_eq : (x y : Addr) → (x ≡ y) ⊎ (x ≡ y → ⊥)
addr_eq x y =
    elim (ip_eq x.ip y.ip) [
      | inl e ↦ elim (cases_eq x.port y.port) [
        | inl f ↦ inl (ap (λ (i : Ip). record { ip = i; port = x.port }) e ∙ ap (λ (p : ℕ). record { ip = y.ip; port = p }) f)
        | inr ne ↦ inr (λ all. ne (ap (λ (a : Addr). a.port) all))
      ]
      | inr ne ↦ inr (λ all. ne (ap (λ (a : Addr). a.ip) all))
    ]

answer_eq : (x y : Waiting) → (x ≡ y) ⊎ (x ≡ y → ⊥)
answer_eq x y =
    elim (cases_eq x.at y.at) [
      | inl e ↦ elim (addr_eq x.from y.from) [
        | inl f ↦ elim (numbers_eq x.bytes y.bytes) [
          | inl g ↦ inl (made e f g)
          | inr ne ↦ inr (λ all. ne (ap (λ (w : Waiting). w.bytes) all))
        ]
        | inr ne ↦ inr (λ all. ne (ap (λ (w : Waiting). w.from) all))
      ]
      | inr ne ↦ inr (λ all. ne (ap (λ (w : Waiting). w.at) all))
    ]
  where
    made : x.at ≡ y.at → x.from ≡ y.from → x.bytes ≡ y.bytes → x ≡ y
    made e f g =
        let one : (n : ℕ) (a : Addr) (l : List ℕ) → Waiting = (λ n a l. record { at = n; from = a; bytes = l }) in
        ap (λ (n : ℕ). one n x.from x.bytes) e ∙ ap (λ (a : Addr). one y.at a x.bytes) f ∙ ap (λ (l : List ℕ). one y.at y.from l) g

answers_eq : (xs ys : List Waiting) → (xs ≡ ys) ⊎ (xs ≡ ys → ⊥)
answers_eq [] [] = inl refl
answers_eq [] (y ∷ ys) = inr (λ e. absurd cc)
answers_eq (x ∷ xs) [] = inr (λ e. absurd cc)
answers_eq (x ∷ xs) (y ∷ ys) =
    elim (answer_eq x y) [
      | inl e ↦ elim (answers_eq xs ys) [ inl es ↦ inl (ap (λ w. w ∷ xs) e ∙ ap (λ l. y ∷ l) es) | inr ne ↦ inr (λ all. let tail : xs ≡ ys = cc in ne tail) ]
      | inr ne ↦ inr (λ all. let head : x ≡ y = cc in ne head)
    ]

-- ---- what a datagram brings about

brings_once : (net : Network) (moment : ℕ) (to : Addr) (bytes : List ℕ) (a b : List Waiting) → BringsAbout net moment to bytes a → BringsAbout net moment to bytes b → a ≡ b
brings_once net moment to bytes a b h k =
    elim (answers_eq a b) [
      | inl e ↦ e
      | inr ne ↦
          let nobody : (i : ℕ) (tx : List ℕ) (target : _) → _ → _ → _ → ⊥ = (λ i tx target lt at says. ne (h.answered i tx target lt at says ∙ sym (k.answered i tx target lt at says))) in
          h.unanswered nobody ∙ sym (k.unanswered nobody)
    ]

queued_once : (net : Network) (moment : ℕ) (to : Addr) (bytes : List ℕ) (old a b : List Waiting) → QueuedBy net moment to bytes old a → QueuedBy net moment to bytes old b → a ≡ b
queued_once net moment to bytes old a b h k = h.behind ∙ ap (λ (l : List Waiting). old ++ l) (brings_once net moment to bytes h.answers k.answers h.brought k.brought) ∙ sym k.behind

-- ---- which answer is the next

not_before : (waiting : List Waiting) (until p q : ℕ) (a b : Waiting) → IsNextWaiting waiting until p a → IsNextWaiting waiting until q b → ¬ (p < q)
not_before waiting until p q a b is other lt =
    let at_p : get_or waiting p a ≡ a = get_or_from_slice_get waiting p a a is.here in
    let at_q : get_or waiting q b ≡ b = get_or_from_slice_get waiting q b b other.here in
    let later : b.at < a.at = subst (λ (w : Waiting). b.at < w.at) at_p (other.first p a (omega arith) lt) in
    let sooner : a.at ≤ b.at = subst (λ (w : Waiting). a.at ≤ w.at) at_q (is.earliest q b (slice_get_within waiting q b other.here)) in
    omega arith

place_once : (waiting : List Waiting) (until p q : ℕ) (a b : Waiting) → IsNextWaiting waiting until p a → IsNextWaiting waiting until q b → p ≡ q
place_once waiting until p q a b is other =
    let no_less = not_before waiting until p q a b is other in
    let no_more = not_before waiting until q p b a other is in
    omega arith

answer_once : (waiting : List Waiting) (until p q : ℕ) (a b : Waiting) → IsNextWaiting waiting until p a → IsNextWaiting waiting until q b → a ≡ b
answer_once waiting until p q a b is other =
    let place = place_once waiting until p q a b is other in
    let both : ◌≡◌ {A = Option Waiting} (Some a) (Some b) = sym is.here ∙ ap (λ n. slice_get waiting n) place ∙ other.here in
    cc

none_next : (waiting : List Waiting) (until p : ℕ) (a : Waiting) → NoneWaits waiting until → ¬ IsNextWaiting waiting until p a
none_next waiting until p a nothing is =
    let at_p : get_or waiting p a ≡ a = get_or_from_slice_get waiting p a a is.here in
    let late : until < a.at = subst (λ (w : Waiting). until < w.at) at_p (nothing p a (slice_get_within waiting p a is.here)) in
    let soon = is.soon in
    omega arith

-- what two receives give, that wait for one moment with one room
pub record SameGift (e f : Event) (m n : ℕ) (v w : List Waiting) : Type 0 where
  pub event : e ≡ f
  pub moment : m ≡ n
  pub waiting : v ≡ w

gets_once : (waiting : List Waiting) (moment until room : ℕ) (buf buf' : List ℕ) (v w : List Waiting) (c d : Came) → Gets waiting moment until room buf v c → Gets waiting moment until room buf' w d
    → SameGift (EventOf c until buf) (EventOf d until buf') (came_at c) (came_at d) v w
gets_once waiting moment until room buf buf' v w (came_as.Packet from len at) (came_as.Packet from' len' at') h k =
    let place = place_once waiting until h.place k.place h.answer k.answer h.next k.next in
    let answer = answer_once waiting until h.place k.place h.answer k.answer h.next k.next in
    let from_is : from ≡ from' = h.from_is ∙ ap (λ (x : Waiting). x.from) answer ∙ sym k.from_is in
    let len_is : len ≡ len' = h.len_is ∙ ap (λ (x : Waiting). min (length x.bytes) room) answer ∙ sym k.len_is in
    let at_is : at ≡ at' = h.at_is ∙ ap (λ (x : Waiting). max x.at moment) answer ∙ sym k.at_is in
    let cut : take len buf ≡ take len' buf' = h.cut ∙ ap (λ (x : Waiting). take len x.bytes) answer ∙ ap (λ n. take n k.answer.bytes) len_is ∙ sym k.cut in
    record {
      event = ap (λ (a : Addr). Got a (take len buf) until at) from_is ∙ ap (λ (l : List ℕ). Got from' l until at) cut ∙ ap (λ (n : ℕ). Got from' (take len' buf') until n) at_is;
      moment = at_is;
      waiting = h.left ∙ ap (λ n. remove waiting n) place ∙ sym k.left;
    }
gets_once waiting moment until room buf buf' v w (came_as.Packet from len at) (came_as.Quiet at') h k = absurd (none_next waiting until h.place h.answer k.nothing h.next)
gets_once waiting moment until room buf buf' v w (came_as.Quiet at) (came_as.Packet from' len' at') h k = absurd (none_next waiting until k.place k.answer h.nothing k.next)
gets_once waiting moment until room buf buf' v w (came_as.Quiet at) (came_as.Quiet at') h k =
    let at_is : at ≡ at' = h.at_is ∙ sym k.at_is in
    record { event = ap (λ (n : ℕ). Quiet until n) at_is; moment = at_is; waiting = h.left ∙ sym k.left }

-- ---- from the front

-- one event is played, from one moment and what waits to the next
pub data PlaysOne (net : Network) (m : ℕ) (v : List Waiting) : Event → ℕ → List Waiting → Type 0 where
  told : PlaysOne net m v (Now m) m v
  sent : {w : List Waiting} (to : Addr) (bytes : List ℕ) → QueuedBy net m to bytes v w → PlaysOne net m v (Sent to bytes) m w
  came : {w : List Waiting} (until : ℕ) (buf : List ℕ) (c : Came) → Gets v m until (max_datagram + 1) buf w c → PlaysOne net m v (EventOf c until buf) (came_at c) w

-- events are played one after another
abbrev pub PlaysFrom : Network → ℕ → List Waiting → List Event → ℕ → List Waiting → Type 0
PlaysFrom net m v [] n w = (n ≡ m) × (w ≡ v)
PlaysFrom net m v (e ∷ es) n w = (mid : ℕ) × (held : List Waiting) × PlaysOne net m v e mid held × PlaysFrom net mid held es n w

plays_push : (net : Network) (m n k : ℕ) (u v w : List Waiting) (es : List Event) (e : Event) → PlaysFrom net m u es n v → PlaysOne net n v e k w → PlaysFrom net m u (es ++ e ∷ []) k w
plays_push net m n k u v w [] e h one =
    (k, w, subst (λ (l : List Waiting). PlaysOne net m l e k w) h.1 (subst (λ (i : ℕ). PlaysOne net i v e k w) h.0 one), (refl, refl))
plays_push net m n k u v w (x ∷ es) e h one = (h.0, h.1, h.2, plays_push net h.0 n k h.1 v w es e h.3 one)

pub in_front : (net : Network) (events : List Event) (n : ℕ) (w : List Waiting) → PlaysTo net true events n w → PlaysFrom net 0 [] events n w
in_front net events n w begins = (refl, refl)
in_front net events n w (tells {events = es} p) = plays_push net 0 n n [] w w es (Now n) (in_front net es n w p) told
in_front net events n w (sends {events = es} {waiting = v} to bytes p queued) = plays_push net 0 n n [] v w es (Sent to bytes) (in_front net es n v p) (sent to bytes queued)
in_front net events n w (receives {events = es} {moment = m} {waiting = v} until room buf c has_room p gets) =
    plays_push net 0 m (came_at c) [] v w es (EventOf c until buf) (in_front net es m v p) (came until buf c (subst (λ (r : ℕ). Gets v m until r buf w c) (has_room refl) gets))

-- ---- one event leaves one state

until_eventof : (c : Came) (until : ℕ) (buf : List ℕ) → until_of (EventOf c until buf) ≡ Some until
until_eventof (came_as.Packet from len at) until buf = refl
until_eventof (came_as.Quiet at) until buf = refl

no_moment : (c : Came) (until at : ℕ) (buf : List ℕ) → EventOf c until buf ≡ Now at → ⊥
no_moment (came_as.Packet from len m) until at buf e = absurd cc
no_moment (came_as.Quiet m) until at buf e = absurd cc

no_sent : (c : Came) (until : ℕ) (buf : List ℕ) (to : Addr) (bytes : List ℕ) → EventOf c until buf ≡ Sent to bytes → ⊥
no_sent (came_as.Packet from len m) until buf to bytes e = absurd cc
no_sent (came_as.Quiet m) until buf to bytes e = absurd cc

no_unsent : (c : Came) (until : ℕ) (buf : List ℕ) (to : Addr) (bytes : List ℕ) → EventOf c until buf ≡ Unsent to bytes → ⊥
no_unsent (came_as.Packet from len m) until buf to bytes e = absurd cc
no_unsent (came_as.Quiet m) until buf to bytes e = absurd cc

-- both are receives that wait for one moment
both_come : (m until until' : ℕ) (v w x : List Waiting) (buf buf' : List ℕ) (c d : Came) → until ≡ until' → Gets v m until (max_datagram + 1) buf w c → Gets v m until' (max_datagram + 1) buf' x d
    → SameGift (EventOf c until buf) (EventOf d until' buf') (came_at c) (came_at d) w x
both_come m until until' v w x buf buf' c d e h k =
    let gift = gets_once v m until' (max_datagram + 1) buf buf' w x c d (subst (λ (n : ℕ). Gets v m n (max_datagram + 1) buf w c) e h) k in
    record { event = ap (λ (n : ℕ). EventOf c n buf) e ∙ gift.event; moment = gift.moment; waiting = gift.waiting }

until_is : (m n : ℕ) (o : Option ℕ) → o ≡ Some m → o ≡ Some n → m ≡ n
until_is m n o e f = (let both : ◌≡◌ {A = Option ℕ} (Some m) (Some n) = sym e ∙ f in cc)

one_left : (net : Network) (m n k : ℕ) (v w x : List Waiting) (e f : Event) → PlaysOne net m v e n w → PlaysOne net m v f k x → e ≡ f → (n ≡ k) × (w ≡ x)
one_left net m n k v w x e f told told same = (refl, refl)
one_left net m n k v w x e f told (sent to bytes q) same = absurd cc
one_left net m n k v w x e f told (came until buf c g) same = absurd (no_moment c until m buf (sym same))
one_left net m n k v w x e f (sent to bytes q) told same = absurd cc
one_left net m n k v w x e f (sent to bytes q) (sent to' bytes' q') same =
    let to_is : to ≡ to' = cc in
    let bytes_are : bytes ≡ bytes' = cc in
    (refl, queued_once net m to' bytes' v w x (subst (λ (l : List ℕ). QueuedBy net m to' l v w) bytes_are (subst (λ (a : Addr). QueuedBy net m a bytes v w) to_is q)) q')
one_left net m n k v w x e f (sent to bytes q) (came until buf c g) same = absurd (no_sent c until buf to bytes (sym same))
one_left net m n k v w x e f (came until buf c g) told same = absurd (no_moment c until m buf same)
one_left net m n k v w x e f (came until buf c g) (sent to bytes q) same = absurd (no_sent c until buf to bytes same)
one_left net m n k v w x e f (came until buf c g) (came until' buf' d h) same =
    let until_same : until ≡ until' = until_is until until' (until_of (EventOf c until buf)) (until_eventof c until buf) (ap until_of same ∙ until_eventof d until' buf') in
    let gift = both_come m until until' v w x buf buf' c d until_same g h in
    (gift.moment, gift.waiting)

-- ---- the state after so many events

all_left : (net : Network) (m n k : ℕ) (v w x : List Waiting) (es : List Event) → PlaysFrom net m v es n w → PlaysFrom net m v es k x → (n ≡ k) × (w ≡ x)
all_left net m n k v w x [] h j = (h.0 ∙ sym j.0, h.1 ∙ sym j.1)
all_left net m n k v w x (e ∷ es) h j =
    let same = one_left net m h.0 j.0 v h.1 j.1 e e h.2 j.2 refl in
    all_left net j.0 n k j.1 w x es (subst (λ (l : List Waiting). PlaysFrom net j.0 l es n w) same.1 (subst (λ (i : ℕ). PlaysFrom net i h.1 es n w) same.0 h.3)) j.3

-- an event behind others, and where it is played from
pub record Behind (net : Network) (before : List Event) (e : Event) : Type 0 where
  pub moment : ℕ
  pub waiting : List Waiting
  pub front : PlaysFrom net 0 [] before moment waiting
  pub then : ℕ
  pub left : List Waiting
  pub one : PlaysOne net moment waiting e then left

behind_from : (net : Network) (m n : ℕ) (v w : List Waiting) (before rest : List Event) (e : Event) → PlaysFrom net m v (before ++ e ∷ rest) n w
    → (k : ℕ) × (x : List Waiting) × PlaysFrom net m v before k x × (then : ℕ) × (left : List Waiting) × PlaysOne net k x e then left
behind_from net m n v w [] rest e h = (m, v, (refl, refl), h.0, h.1, h.2)
behind_from net m n v w (x ∷ before) rest e h =
    let b = behind_from net h.0 n h.1 w before rest e h.3 in
    (b.0, b.1, (h.0, h.1, h.2, b.2), b.3, b.4, b.5)

behind : (net : Network) (before rest : List Event) (e : Event) → Plays net true (before ++ e ∷ rest) → Behind net before e
behind net before rest e p =
    let b = behind_from net 0 p.moment [] p.waiting before rest e (in_front net (before ++ e ∷ rest) p.moment p.waiting p.plays) in
    record { moment = b.0; waiting = b.1; front = b.2; then = b.3; left = b.4; one = b.5 }

-- both are played from one state
at_one : (net : Network) (before : List Event) (e f : Event) (b : Behind net before e) (d : Behind net before f) → PlaysOne net d.moment d.waiting e b.then b.left
at_one net before e f b d =
    let same = all_left net 0 b.moment d.moment [] b.waiting d.waiting before b.front d.front in
    subst (λ (l : List Waiting). PlaysOne net d.moment l e b.then b.left) same.1 (subst (λ (i : ℕ). PlaysOne net i b.waiting e b.then b.left) same.0 b.one)

-- ---- the laws

one_gift : (net : Network) (m n k u : ℕ) (v w x : List Waiting) (e f : Event) → PlaysOne net m v e n w → PlaysOne net m v f k x → until_of e ≡ Some u → until_of f ≡ Some u → e ≡ f
one_gift net m n k u v w x e f told other i j = absurd cc
one_gift net m n k u v w x e f (sent to bytes q) other i j = absurd cc
one_gift net m n k u v w x e f (came until buf c g) told i j = absurd cc
one_gift net m n k u v w x e f (came until buf c g) (sent to bytes q) i j = absurd cc
one_gift net m n k u v w x e f (came until buf c g) (came until' buf' d h) i j =
    (both_come m until until' v w x buf buf' c d (until_is until u (until_of (EventOf c until buf)) (until_eventof c until buf) i ∙ sym (until_is until' u (until_of (EventOf d until' buf')) (until_eventof d until' buf') j)) g h).event

told_moment : (net : Network) (m n at : ℕ) (v w : List Waiting) (e : Event) → PlaysOne net m v e n w → e ≡ Now at → at ≡ m
told_moment net m n at v w e told is = cc
told_moment net m n at v w e (sent to bytes q) is = absurd cc
told_moment net m n at v w e (came until buf c g) is = absurd (no_moment c until at buf is)

never_unsent : (net : Network) (m n : ℕ) (v w : List Waiting) (e : Event) (to : Addr) (bytes : List ℕ) → PlaysOne net m v e n w → e ≡ Unsent to bytes → ⊥
never_unsent net m n v w e to bytes told is = absurd cc
never_unsent net m n v w e to bytes (sent to' bytes' q) is = absurd cc
never_unsent net m n v w e to bytes (came until buf c g) is = no_unsent c until buf to bytes is

pub received_once : (net : Network) (before rest others : List Event) (e f : Event) (until : ℕ) → Plays net true (before ++ e ∷ rest) → Plays net true (before ++ f ∷ others) → until_of e ≡ Some until → until_of f ≡ Some until → e ≡ f
received_once net before rest others e f until p q i j =
    let b = behind net before rest e p in
    let d = behind net before others f q in
    one_gift net d.moment b.then d.then until d.waiting b.left d.left e f (at_one net before e f b d) d.one i j

pub told_once : (net : Network) (before rest others : List Event) (at at' : ℕ) → Plays net true (before ++ Now at ∷ rest) → Plays net true (before ++ Now at' ∷ others) → at ≡ at'
told_once net before rest others at at' p q =
    let b = behind net before rest (Now at) p in
    let d = behind net before others (Now at') q in
    told_moment net d.moment b.then at d.waiting b.left (Now at) (at_one net before (Now at) (Now at') b d) refl ∙ sym (told_moment net d.moment d.then at' d.waiting d.left (Now at') d.one refl)

pub none_unsent : (net : Network) (before rest : List Event) (to : Addr) (bytes : List ℕ) → ¬ Plays net true (before ++ Unsent to bytes ∷ rest)
none_unsent net before rest to bytes p =
    let b = behind net before rest (Unsent to bytes) p in
    never_unsent net b.moment b.then b.waiting b.left (Unsent to bytes) to bytes b.one refl
