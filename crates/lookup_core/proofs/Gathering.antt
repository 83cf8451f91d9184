-- Who is heard by a datagram, and what is kept of what was heard.
use Rattle.std.proofs.Common.{◌≡◌, ℕ, ◌^◌, ◌<◌, List, [], ◌∷◌, ◌++◌, inl, inr, refl, sym, ap, subst, ◌∙◌, arith}
use Rattle.std.specs.Prelude.{Contains, map}
use Rattle.std.specs.List.{AllByRecursion, flat_map}
use Rattle.std.proofs.lemmas.List.{append-nil}
use Rattle.std.proofs.lemmas.List.Concat.{flat_map-append}
use Rattle.kad_base.specs.declared.types.Addr.{Addr}
use Rattle.kad_krpc.specs.declared.message.Answer.{Answer}
use Rattle.query_book.specs.declared.Query.{Query}
use Rattle.claim_book.specs.declared.types.Entry.{Entry}
use Rattle.lookup_core.specs.declared.gather.Gathered.{Gathered}
use Rattle.lookup_core.specs.declared.gather.Item.{Item}
use Rattle.lookup_core.specs.declared.gather.Token.{Token}
use Rattle.lookup_core.specs.declared.quest.AskKind.{AskKind}
use Rattle.lookup_core.specs.declared.quest.AskKind.TheVariants.{FindNode, GetPeers, GetItem}
use Rattle.lookup_core.specs.declared.quest.Quest.{Quest}
use Rattle.lookup_core.specs.declared.state.Lookup.{Lookup}
use Rattle.lookup_core.specs.Gathered.{HeardIn, HearsOne, IsEachOnce, values_of, token_of, item_of, GathersOf, Keeping, KeepsAlso, KeepsFor}
use Rattle.lookup_core.specs.LookupSteps.{as_open, Holds, HearsIn, IsMatch, RepliesToNone}
use Rattle.lookup_core.specs.Matching.{OpenQuery, Replies, IsStray}
use Rattle.lookup_core.specs.Reply.{Answered, Reply}
use Rattle.lookup_core.specs.Reply as reply
use Rattle.lookup_core.specs.Says.{IsReply}
use Rattle.lookup_core.specs.Sealed.{Accepts}
use Rattle.lookup_core.proofs.Lists.{in_map, map_in, in_middle, all_in}
use Rattle.lookup_core.proofs.Matching.{to_reply}

-- ---- a datagram that replies to none

pub none_replies : (quest : Quest) (accepts : Accepts) (from : Addr) (bytes : List ℕ) (k : Lookup) → RepliesToNone quest accepts from bytes k → IsStray quest accepts (map (as_open k.book.journal) k.queries) from bytes
none_replies quest accepts from bytes k none q has r h =
    let found = in_map (as_open k.book.journal) k.queries q has in
    none found.0 found.1 r (subst (λ y. Replies quest accepts bytes from y r) found.2 h)

-- is heard by nobody
pub none_heard : (quest : Quest) (accepts : Accepts) (from : Addr) (bytes : List ℕ) (k : Lookup) → RepliesToNone quest accepts from bytes k → (a : Answered) → ¬ HeardIn quest accepts (map (as_open k.book.journal) k.queries) from bytes a
none_heard quest accepts from bytes k none a h = none_replies quest accepts from bytes k none h.query h.is_open (reply.Answer a.answer) h.replies

-- ---- a datagram that replies to one

the_one : (quest : Quest) (accepts : Accepts) (J : List Entry) (qs : List Query) (q : Query) (from : Addr) (bytes : List ℕ) (what : Reply) (a : Answered) → AllByRecursion (λ (x : Query). x.tx < 2 ^ 32) qs → IsReply bytes (record { tx = q.tx; reply = what }) → ((x : Query) → Contains qs x → x.tx ≡ q.tx → x ≡ q)
    → (h : HeardIn quest accepts (map (as_open J) qs) from bytes a) → (h.query ≡ as_open J q) × (reply.Answer a.answer ≡ what)
the_one quest accepts J qs q from bytes what a ids reads alone h =
    let found = in_map (as_open J) qs h.query h.is_open in
    let x = found.0 in
    let small = all_in (λ (y : Query). y.tx < 2 ^ 32) qs x ids found.1 in
    let replies = to_reply quest accepts J bytes from x (reply.Answer a.answer) (subst (λ y. Replies quest accepts bytes from y (reply.Answer a.answer)) found.2 h.replies) in
    let same : x ≡ q = alone x found.1 (reads.same_id x.tx (reply.Answer a.answer) small replies) in
    (found.2 ∙ ap (as_open J) same, reads.same_reply x.tx (reply.Answer a.answer) small replies)

hears_one : (quest : Quest) (accepts : Accepts) (J : List Entry) (qs : List Query) (q : Query) (from : Addr) (bytes : List ℕ) (what : Reply) (heard : List Answered) → Contains qs q → AllByRecursion (λ (x : Query). x.tx < 2 ^ 32) qs → Replies quest accepts bytes from (as_open J q) what
    → IsReply bytes (record { tx = q.tx; reply = what }) → ((x : Query) → Contains qs x → x.tx ≡ q.tx → x ≡ q) → HearsIn q.contact what heard → HearsOne quest accepts (map (as_open J) qs) from bytes heard
hears_one quest accepts J qs q from bytes (reply.Answer answer) heard has ids replies reads alone (inl own) = inl (
  record { contact = q.contact; answer = answer },
  record { query = as_open J q; is_open = map_in (as_open J) qs q has; replies = replies; own_name = own.0; contact_is = refl },
  own.1,
)
hears_one quest accepts J qs q from bytes (reply.Answer answer) heard has ids replies reads alone (inr other) = inr (
  (λ a h.
      let one = the_one quest accepts J qs q from bytes (reply.Answer answer) a ids reads alone h in
      let said = one.1 in
      let same : a.answer ≡ answer = cc in
      other.0 (ap (λ (x : Answer). x.id) (sym same) ∙ h.own_name ∙ ap (λ (y : OpenQuery). y.contact.id) one.0)),
  other.1,
)
hears_one quest accepts J qs q from bytes (reply.Error code) heard has ids replies reads alone none = inr (
  (λ a h.
      let one = the_one quest accepts J qs q from bytes (reply.Error code) a ids reads alone h in
      let said = one.1 in absurd cc),
  none,
)

-- what is handed out of a match is what the datagram shows to be heard
pub match_heard : (quest : Quest) (accepts : Accepts) (from : Addr) (bytes : List ℕ) (old new : Lookup) (heard : List Answered) → Holds old → IsMatch quest accepts from bytes old new heard → HearsOne quest accepts (map (as_open old.book.journal) old.queries) from bytes heard
match_heard quest accepts from bytes old new heard holds m =
    hears_one quest accepts old.book.journal old.queries m.query from bytes m.what heard (subst (λ qs. Contains qs m.query) (sym m.was_open) (in_middle m.before m.query m.behind)) holds.ids m.replies m.reads m.alone m.hears_in

-- ---- what is kept

none_more : (old new : Gathered) → new ≡ old → KeepsAlso [] [] [] old new
none_more old new is = record {
  peers = ap (λ (g : Gathered). g.peers) is ∙ sym (append-nil old.peers);
  tokens = ap (λ (g : Gathered). g.tokens) is ∙ sym (append-nil old.tokens);
  items = ap (λ (g : Gathered). g.items) is ∙ sym (append-nil old.items);
}

-- nothing was heard, and nothing kept
pub keeps_none : (kind : AskKind) (old new : Gathered) → new ≡ old → KeepsFor kind [] old new
keeps_none FindNode old new is = is
keeps_none GetPeers old new is = none_more old new is
keeps_none GetItem old new is = none_more old new is

-- nothing is kept if only contacts are asked for
pub kept_find : (kind : AskKind) (heard : List Answered) (g h : Gathered) → kind ≡ FindNode → KeepsFor kind heard g h → h ≡ g
kept_find kind heard g h is k = subst (λ x. KeepsFor x heard g h) is k

-- nothing yet
pub begun_keeping : (kind : AskKind) (g : Gathered) → g.peers ≡ [] → g.tokens ≡ [] → g.items ≡ [] → Keeping kind [] g
begun_keeping FindNode g p t i = (p, t, i)
begun_keeping GetPeers g p t i = (p, t, i)
begun_keeping GetItem g p t i = (p, t, i)

-- a list that was kept of what was heard goes on to be
kept_more : {B : Type 0} (f : Answered → List B) (heard more : List Answered) (old new : List B) → old ≡ flat_map f heard → new ≡ old ++ flat_map f more → new ≡ flat_map f (heard ++ more)
kept_more f heard more old new was is = is ∙ ap (λ l. l ++ flat_map f more) was ∙ sym (flat_map-append f heard more)

still_none : {B : Type 0} (old new : List B) → old ≡ [] → new ≡ old ++ [] → new ≡ []
still_none old new was is = is ∙ append-nil old ∙ was

-- one step more
pub keeping_more : (kind : AskKind) (heard more : List Answered) (old new : Gathered) → Keeping kind heard old → KeepsFor kind more old new → Keeping kind (heard ++ more) new
keeping_more FindNode heard more old new h k = (ap (λ (x : Gathered). x.peers) k ∙ h.0, ap (λ (x : Gathered). x.tokens) k ∙ h.1, ap (λ (x : Gathered). x.items) k ∙ h.2)
keeping_more GetPeers heard more old new h k = (
  kept_more values_of heard more old.peers new.peers h.0 k.peers,
  kept_more token_of heard more old.tokens new.tokens h.1 k.tokens,
  still_none old.items new.items h.2 k.items,
)
keeping_more GetItem heard more old new h k = (
  still_none old.peers new.peers h.0 k.peers,
  kept_more token_of heard more old.tokens new.tokens h.1 k.tokens,
  kept_more item_of heard more old.items new.items h.2 k.items,
)

-- ---- what is handed out in the end

pub each_of_none : (xs ys : List Addr) → xs ≡ [] → IsEachOnce xs ys → ys ≡ []
each_of_none xs [] none h = refl
each_of_none xs (y ∷ ys) none h = (let has = subst (λ l. Contains l y) none ((h.same y).0 (0, omega arith, refl)) in let lt = has.1 in absurd (omega (arith, lt)))

pub gathers_of : (kind : AskKind) (heard : List Answered) (g : Gathered) (peers : List Addr) (tokens : List Token) (items : List Item) → Keeping kind heard g → IsEachOnce g.peers peers → tokens ≡ g.tokens → items ≡ g.items → GathersOf kind heard peers tokens items
gathers_of FindNode heard g peers tokens items h once is are = (each_of_none g.peers peers h.0 once, is ∙ h.1, are ∙ h.2)
gathers_of GetPeers heard g peers tokens items h once is are = (subst (λ l. IsEachOnce l peers) h.0 once, is ∙ h.1, are ∙ h.2)
gathers_of GetItem heard g peers tokens items h once is are = (each_of_none g.peers peers h.0 once, is ∙ h.1, are ∙ h.2)
