-- Receive calls of a node that serves, one after another.
use Rattle.std.proofs.Common.{◌≡◌, ◌≤◌, ◌<◌, ℕ, zero, suc, ◌+◌, Bool, true, false, List, [], ◌∷◌, ◌++◌, length, Option, ◌⊎◌, inl, inr, refl, sym, ap, subst, ◌∙◌, arith}
use Rattle.std.specs.Prelude.{filter}
use Rattle.std.proofs.lemmas.List.{append-nil, append_assoc, length-append}
use Rattle.std.proofs.lemmas.List.Elements.{filter-append}
use Rattle.kad_base.specs.declared.types.Addr.{Addr}
use Rattle.kad_base.specs.declared.types.Event.{Event}
use Rattle.kad_base.specs.declared.types.Event.TheVariants.{Got, Quiet}
use Rattle.kad_base.specs.Outside.{Grows, Rose}
use Rattle.kad_base.proofs.Grown.{grows_then, grows_weaker, grows_none}
use Rattle.contact_table.specs.TableState.{TableState}
use Rattle.node_serve.specs.declared.lasting.Lasting.{Lasting}
use Rattle.node_serve.specs.declared.service.Server.{Server}
use Rattle.node_serve.specs.declared.service.ServeFault.{ServeFault}
use Rattle.node_serve.specs.declared.service.ServeFault.TheVariants.{LinkFault, NoMemory}
use Rattle.node_serve.specs.AnswerOf.{Answers, EndsEarly}
use Rattle.node_serve.specs.Lasting.{end_of, is_over, waits_to}
use Rattle.node_serve.specs.NodeState.{NodeState}
use Rattle.node_serve.specs.Queries.{IsSilent}
use Rattle.node_serve.specs.Receives.{ServeState, silent, answered, ServesOne, quiet, came, Serves, ServesAll, ServesSome, tried, is_sent, sent_in, is_got, got_in}
use Rattle.node_serve.specs.Sealing.{Tags}
use Rattle.node_serve.specs.Responded.{serve_state, server_at, RespondsWith, ReceivesOne, ReceivesAll, Stops}

-- ---- counts

pub sent_then : (es fs : List Event) → sent_in (es ++ fs) ≡ sent_in es + sent_in fs
sent_then es fs = ap (λ (l : List Event). length l) (filter-append is_sent es fs) ∙ length-append (filter is_sent es) (filter is_sent fs)

-- the number that says whether one was sent
abbrev pub number_sent : Bool → ℕ
number_sent true = 1
number_sent false = 0

pub rose_behind : (a b c : ℕ) → a ≤ b → Rose b c → Rose a c
rose_behind a b c le h = elim h [ inl lt ↦ inl (omega (arith, le, lt)) | inr last ↦ inr last ]

-- ---- one receive call

-- a reply was sent, or the link refused it
pub replied_with : (tag_of : Tags) (s next : NodeState) (from : Addr) (bytes : List ℕ) (at : ℕ) (text : List ℕ) (was_sent : Bool) (n : ℕ) (a b : Option (List Event)) → Answers tag_of s from bytes at text next → n ≡ number_sent was_sent
    → Grows a b (λ es. es ≡ tried was_sent from text ∷ []) → Grows a b (RespondsWith tag_of s from bytes at n next)
replied_with tag_of s next from bytes at text was_sent n a b h count g =
    grows_weaker a b _ _ g (λ es e. record {
      responds = answered h.reply was_sent h.answer (e ∙ ap (λ (l : List ℕ). tried was_sent from l ∷ []) h.written);
      none_got = ap got_in e ∙ none_got was_sent;
      sent_are = count ∙ sym (ap sent_in e ∙ one_sent was_sent);
    })
  where
    none_got : (b : Bool) → got_in (tried b from text ∷ []) ≡ 0
    none_got true = refl
    none_got false = refl

    one_sent : (b : Bool) → sent_in (tried b from text ∷ []) ≡ number_sent b
    one_sent true = refl
    one_sent false = refl

-- none is owed
pub none_owed : (tag_of : Tags) (s next : NodeState) (from : Addr) (bytes : List ℕ) (at : ℕ) (a : Option (List Event)) → IsSilent from bytes → next ≡ s → Grows a a (RespondsWith tag_of s from bytes at 0 next)
none_owed tag_of s next from bytes at a is same = grows_none a _ (record { responds = silent is refl same; none_got = refl; sent_are = refl })

-- the table of a node whose answer found no memory
pub early_table : (s next : NodeState) (from : Addr) (bytes : List ℕ) (at : ℕ) → EndsEarly s from bytes at next → next.table ≡ s.table
early_table s next from bytes at ends = ap (λ (n : NodeState). n.table) ends.rest

module _ (tag_of : Tags) (limit : Option ℕ) where
  -- a datagram came
  pub datagram_came : (s : Server) (next : NodeState) (from : Addr) (bytes : List ℕ) (until at sent : ℕ) (a b c : Option (List Event)) → until ≡ waits_to limit s.moment → Grows a b (λ es. es ≡ Got from bytes until at ∷ [])
      → Grows b c (RespondsWith tag_of s.node from bytes at sent next) → Grows a c (ReceivesOne tag_of limit s (record { node = next; moment = at; received = s.received + 1; replied = s.replied + sent }))
  datagram_came s next from bytes until at sent a b c waits g h =
      grows_then a b c _ _ _ g h (λ es fs e r.
      let none_ = r.none_got in
      let some = r.sent_are in
      let whole : es ++ fs ≡ Got from bytes (waits_to limit s.moment) at ∷ fs = ap (λ (l : List Event). l ++ fs) e ∙ ap (λ u. Got from bytes u at ∷ fs) waits in
      let got : got_in (es ++ fs) ≡ got_in fs + 1 = ap got_in whole ∙ omega arith in
      let sent_ : sent_in (es ++ fs) ≡ sent_in fs = ap sent_in whole in
      record {
        serves = came from bytes fs whole r.responds;
        received_are = omega (arith, none_, got);
        replied_are = omega (arith, some, sent_);
      })

  -- nothing came
  pub nothing_came : (s : Server) (until at : ℕ) (a b : Option (List Event)) → until ≡ waits_to limit s.moment → Grows a b (λ es. es ≡ Quiet until at ∷ [])
      → Grows a b (ReceivesOne tag_of limit s (record { node = s.node; moment = at; received = s.received; replied = s.replied }))
  nothing_came s until at a b waits g =
      grows_weaker a b _ _ g (λ es e.
      let whole : es ≡ Quiet (waits_to limit s.moment) at ∷ [] = e ∙ ap (λ u. Quiet u at ∷ []) waits in
      let none_ : got_in es ≡ 0 = ap got_in whole in
      let unsent : sent_in es ≡ 0 = ap sent_in whole in
      record { serves = quiet whole refl; received_are = omega (arith, none_); replied_are = omega (arith, unsent) })

-- ---- all of them

got_then : (es fs : List Event) → got_in (es ++ fs) ≡ got_in es + got_in fs
got_then es fs = ap (λ (l : List Event). length l) (filter-append is_got es fs) ∙ length-append (filter is_got es) (filter is_got fs)

module _ (tag_of : Tags) (limit : Option ℕ) where
  serves_more : (n : ℕ) (s u t : ServeState) (es fs : List Event) → Serves tag_of limit n s es u → is_over limit u.moment ≡ false → ServesOne tag_of limit u fs t → Serves tag_of limit (suc n) s (es ++ fs) t
  serves_more zero s u t es fs h goes one = (
    fs,
    t,
    [],
    ap (λ (l : List Event). l ++ fs) h.0 ∙ sym (append-nil fs),
    subst (λ (x : ServeState). is_over limit x.moment ≡ false) h.1 goes,
    subst (λ (x : ServeState). ServesOne tag_of limit x fs t) h.1 one,
    (refl, refl),
  )
  serves_more (suc n) s u t es fs h goes one = (h.0, h.1, h.2 ++ fs, ap (λ (l : List Event). l ++ fs) h.3 ∙ append_assoc h.0 h.2 fs, h.4, h.5, serves_more n h.1 u t h.2 fs h.6 goes one)

  pub received_none : (s : Server) (a : Option (List Event)) → Grows a a (ReceivesAll tag_of limit 0 s s)
  received_none s a = grows_none a _ (record { serves = (refl, refl); received_are = omega arith; replied_are = omega arith })

  pub received_more : (n : ℕ) (s t u : Server) (a b c : Option (List Event)) → is_over limit t.moment ≡ false → Grows a b (ReceivesAll tag_of limit n s t) → Grows b c (ReceivesOne tag_of limit t u) → Grows a c (ReceivesAll tag_of limit (n + 1) s u)
  received_more n s t u a b c goes g h =
      grows_then a b c _ _ _ g h (λ es fs p q.
      let got = got_then es fs in
      let sent = sent_then es fs in
      let x = p.received_are in
      let y = q.received_are in
      let v = p.replied_are in
      let w = q.replied_are in
      let next : suc n ≡ n + 1 = omega arith in
      record {
        serves = subst (λ m. Serves tag_of limit m (serve_state s) (es ++ fs) (serve_state u)) next (serves_more n (serve_state s) (serve_state t) (serve_state u) es fs p.serves goes q.serves);
        received_are = omega (arith, got, x, y);
        replied_are = omega (arith, sent, v, w);
      })

-- ---- to the end

-- what is known once so many were made
module _ (tag_of : Tags) (node : NodeState) (began : ℕ) (lasting : Lasting) (n : ℕ) (t : Server) (after : TableState) where
  abbrev Made : Option (List Event) → Option (List Event) → Type 0
  Made a b = Grows a b (ReceivesAll tag_of (end_of began lasting.minutes) n (server_at node began) t)

  abbrev start : ServeState
  start = record { node = node; moment = began }

  -- one stops, and so do all
  pub all_stop : (fault : ServeFault) (a b c : Option (List Event)) → n < lasting.receives → after ≡ t.node.table → Made a b → Stops (end_of began lasting.minutes) fault (serve_state t) b c → Grows a c (ServesSome tag_of start lasting after)
  all_stop LinkFault a b c lt is g h =
      grows_then a b c _ _ _ g h (λ es fs p e. record { made = n; few = omega (arith, lt); front = es; end = serve_state t; serves = p.serves; table_is = is; last = fs; whole = refl; ended = inl e })
  all_stop NoMemory a b c lt is g h =
      grows_then a b c _ _ _ g h (λ es fs p q. record { made = n; few = omega (arith, lt); front = es; end = serve_state t; serves = p.serves; table_is = is; last = fs; whole = refl; ended = inr (lt, q) })

  -- no more are made
  pub all_made : (received replied : ℕ) (a b : Option (List Event)) → n ≤ lasting.receives → (n ≡ lasting.receives) ⊎ (is_over (end_of began lasting.minutes) t.moment ≡ true) → after ≡ t.node.table → received ≡ t.received → replied ≡ t.replied → Made a b
      → Grows a b (ServesAll tag_of start lasting after received replied)
  all_made received replied a b few ended is got sent g =
      grows_weaker a b _ _ g (λ es p.
      let received_ = p.received_are in
      let replied_ = p.replied_are in
      record {
        made = n;
        few = few;
        end = serve_state t;
        serves = p.serves;
        ended = ended;
        table_is = is;
        received_are = omega (arith, received_, got);
        replied_are = omega (arith, replied_, sent);
      })

-- all of them are some of them
pub all_some : (tag_of : Tags) (s : ServeState) (lasting : Lasting) (after : TableState) (received replied : ℕ) (a b : Option (List Event)) → Grows a b (ServesAll tag_of s lasting after received replied) → Grows a b (ServesSome tag_of s lasting after)
all_some tag_of s lasting after received replied a b g =
    grows_weaker a b _ _ g (λ es p. record { made = p.made; few = p.few; front = es; end = p.end; serves = p.serves; table_is = p.table_is; last = []; whole = sym (append-nil es); ended = inl refl })
