-- What a lookup gathered follows from its journal and its events.
use Rattle.std.proofs.Common.{◌≡◌, ◌≢◌, ℕ, zero, suc, ◌^◌, ◌<◌, List, [], ◌∷◌, ◌++◌, inl, inr, sym, ap, subst, ◌∙◌, arith}
use Rattle.std.specs.Prelude.{Contains}
use Rattle.std.specs.List.{flat_map}
use Rattle.std.specs.Cmp.{IsTotalOrder}
use Rattle.std.proofs.lemmas.Cmp.{nat_list_cmp_total, nat_cmp_total, on_total, then_total}
use Rattle.kad_base.specs.declared.types.Addr.{Addr}
use Rattle.kad_base.specs.declared.types.Contact.{Contact}
use Rattle.kad_base.specs.declared.types.Event.{Event}
use Rattle.kad_base.specs.declared.types.Event.TheVariants.{Now, Got}
use Rattle.kad_base.specs.Contacts.{address_bytes}
use Rattle.kad_distance.proofs.Members.{same_members}
use Rattle.kad_krpc.specs.declared.message.Answer.{Answer}
use Rattle.claim_book.specs.declared.types.Entry.{Entry}
use Rattle.lookup_core.specs.declared.quest.AskKind.{AskKind}
use Rattle.lookup_core.specs.declared.quest.AskKind.TheVariants.{FindNode, GetPeers, GetItem}
use Rattle.lookup_core.specs.declared.quest.Quest.{Quest}
use Rattle.lookup_core.specs.Matching.{OpenQuery}
use Rattle.lookup_core.specs.Reply as reply
use Rattle.lookup_core.specs.Reply.{Answered, Reply}
use Rattle.lookup_core.specs.Sealed.{Accepts}
use Rattle.lookup_core.proofs.Lists.{all_in}
use Rattle.lookup_core.specs.declared.gather.Item.{Item}
use Rattle.lookup_core.specs.declared.gather.Token.{Token}
use Rattle.lookup_run.specs.Tells.{Given, Seen, TellsFrom, begun}
use Rattle.lookup_core.specs.Gathered.{HeardIn, addr_cmp, IsEachOnce, values_of, GathersOf}
use Rattle.lookup_run.specs.Gathered.{Hears, HearsFrom, Gathers}
use Rattle.lookup_run.proofs.OnceEvents.{Apart, apart_gives, reply_once}
use Rattle.lookup_run.proofs.OnceGiven.{past_once}

-- ---- one answer of a datagram

small_in : (qs : List OpenQuery) (q : OpenQuery) → Apart qs → Contains qs q → q.tx < 2 ^ 32
small_in [] q h (k, lt, is) = absurd (omega (arith, lt))
small_in (x ∷ qs) q h (zero, lt, is) = subst (λ (y : OpenQuery). y.tx < 2 ^ 32) is h.0
small_in (x ∷ qs) q h (suc k, lt, is) = small_in qs q h.2 (k, omega (arith, lt), is)

-- queries of one id are one
same_query : (qs : List OpenQuery) (p q : OpenQuery) → Apart qs → Contains qs p → Contains qs q → p.tx ≡ q.tx → p ≡ q
same_query [] p q h (k, lt, is) c same = absurd (omega (arith, lt))
same_query (x ∷ qs) p q h (zero, lt, is) (zero, less, e) same = sym is ∙ e
same_query (x ∷ qs) p q h (zero, lt, is) (suc j, less, e) same = absurd (all_in (λ (y : OpenQuery). y.tx ≢ x.tx) qs q h.1 (j, omega (arith, less), e) (sym same ∙ ap (λ (y : OpenQuery). y.tx) (sym is)))
same_query (x ∷ qs) p q h (suc k, lt, is) (zero, less, e) same = absurd (all_in (λ (y : OpenQuery). y.tx ≢ x.tx) qs p h.1 (k, omega (arith, lt), is) (same ∙ ap (λ (y : OpenQuery). y.tx) (sym e)))
same_query (x ∷ qs) p q h (suc k, lt, is) (suc j, less, e) same = same_query qs p q h.2 (k, omega (arith, lt), is) (j, omega (arith, less), e) same

same_answered : (c d : Contact) (x y : Answer) → c ≡ d → ◌≡◌ {A = Reply} (reply.Answer x) (reply.Answer y) → ◌≡◌ {A = Answered} (record { contact = c; answer = x }) (record { contact = d; answer = y })
same_answered c d x y e f = (let is : x ≡ y = cc in cc)

heard_once : (quest : Quest) (accepts : Accepts) (s : Seen) (from : Addr) (bytes : List ℕ) (a b : Answered) → Apart s.queries → HeardIn quest accepts s.queries from bytes a → HeardIn quest accepts s.queries from bytes b → a ≡ b
heard_once quest accepts s from bytes a b apart h k =
    let says = reply_once quest accepts bytes from h.query k.query (reply.Answer a.answer) (reply.Answer b.answer) (small_in s.queries h.query apart h.is_open) (small_in s.queries k.query apart k.is_open) h.replies k.replies in
    let query = same_query s.queries h.query k.query apart h.is_open k.is_open says.0 in
    same_answered a.contact b.contact a.answer b.answer (h.contact_is ∙ ap (λ (q : OpenQuery). q.contact) query ∙ sym k.contact_is) says.1

hears_once : (quest : Quest) (accepts : Accepts) (s : Seen) (e : Event) (found others : List Answered) → Apart s.queries → Hears quest accepts s e found → Hears quest accepts s e others → found ≡ others
hears_once quest accepts s (Got from bytes until at) found others apart h k =
    elim h [
      | inl x ↦ elim k [ inl y ↦ x.2 ∙ ap (λ (a : Answered). a ∷ []) (heard_once quest accepts s from bytes x.0 y.0 apart x.1 y.1) ∙ sym y.2 | inr y ↦ absurd (y.0 x.0 x.1) ]
      | inr x ↦ elim k [ inl y ↦ absurd (x.0 y.0 y.1) | inr y ↦ x.1 ∙ sym y.1 ]
    ]
hears_once quest accepts s other found others apart h k = h ∙ sym k

-- ---- the answers of a lookup

hears_tell : (g : Given) (J : List Entry) (s t : Seen) (es : List Event) (heard : List Answered) → HearsFrom g J s es t heard → TellsFrom g J s es t
hears_tell g J s t [] heard h = h.0
hears_tell g J s t (e ∷ es) heard h = (h.0.mid, h.0.gives, hears_tell g J h.0.mid t es h.1 h.2)

all_heard_once : (g : Given) (J : List Entry) (s t u : Seen) (es : List Event) (heard others : List Answered) → Apart s.queries → HearsFrom g J s es t heard → HearsFrom g J s es u others → t.given ≡ u.given → heard ≡ others
all_heard_once g J s t u [] heard others apart h k same = h.1 ∙ sym k.1
all_heard_once g J s t u (e ∷ es) heard others apart h k same =
    let one = past_once g J J s h.0.mid k.0.mid t u e es apart h.0.gives k.0.gives (hears_tell g J h.0.mid t es h.1 h.2) (hears_tell g J k.0.mid u es k.1 k.2) same in
    let found = hears_once g.quest g.accepts s e h.0.found k.0.found apart h.0.hears k.0.hears in
    let rest = all_heard_once g J k.0.mid t u es h.1 k.1 (apart_gives g J s k.0.mid e apart k.0.gives) (subst (λ x. HearsFrom g J x es t h.1) one h.2) k.2 same in
    h.3 ∙ ap (λ l. l ++ h.1) found ∙ ap (λ l. k.0.found ++ l) rest ∙ sym k.3

-- ---- what they gave

addr_total : IsTotalOrder addr_cmp
addr_total = then_total (on_total (λ (a : Addr). address_bytes a.ip) nat_list_cmp_total) (on_total (λ (a : Addr). a.port) nat_cmp_total)

peers_once : (all found others : List Addr) → IsEachOnce all found → IsEachOnce all others → found ≡ others
peers_once all found others h k = same_members addr_total found others h.in_order k.in_order (λ a c. (k.same a).1 ((h.same a).0 c)) (λ a c. (h.same a).1 ((k.same a).0 c))

-- what two have that gathered from the same
pub record SameGathered (peers others : List Addr) (tokens these : List Token) (items those : List Item) : Type 0 where
  pub peers_are : peers ≡ others
  pub tokens_are : tokens ≡ these
  pub items_are : items ≡ those

of_once : (kind : AskKind) (heard : List Answered) (peers others : List Addr) (tokens these : List Token) (items those : List Item) → GathersOf kind heard peers tokens items → GathersOf kind heard others these those → SameGathered peers others tokens these items those
of_once FindNode heard peers others tokens these items those h k = record { peers_are = h.0 ∙ sym k.0; tokens_are = h.1 ∙ sym k.1; items_are = h.2 ∙ sym k.2 }
of_once GetPeers heard peers others tokens these items those h k = record { peers_are = peers_once (flat_map values_of heard) peers others h.0 k.0; tokens_are = h.1 ∙ sym k.1; items_are = h.2 ∙ sym k.2 }
of_once GetItem heard peers others tokens these items those h k = record { peers_are = h.0 ∙ sym k.0; tokens_are = h.1 ∙ sym k.1; items_are = h.2 ∙ sym k.2 }

pub gathered_once : (g : Given) (J : List Entry) (events : List Event) (peers others : List Addr) (tokens these : List Token) (items those : List Item) → Gathers g J events peers tokens items → Gathers g J events others these those
    → SameGathered peers others tokens these items those
gathered_once g J events peers others tokens these items those h k =
    let first : Now h.at ∷ h.rest ≡ Now k.at ∷ k.rest = sym h.first ∙ k.first in
    let at : h.at ≡ k.at = cc in
    let rest : h.rest ≡ k.rest = cc in
    let hears = subst (λ es. HearsFrom g J (begun k.at) es h.end h.heard) rest (subst (λ n. HearsFrom g J (begun n) h.rest h.end h.heard) at h.hears) in
    let heard = all_heard_once g J (begun k.at) h.end k.end k.rest h.heard k.heard tt hears k.hears (h.tells ∙ sym k.tells) in
    of_once g.quest.kind k.heard peers others tokens these items those (subst (λ l. GathersOf g.quest.kind l peers tokens items) heard h.gathers) k.gathers
