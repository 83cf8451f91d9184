-- A datagram has one answer.
use Rattle.std.proofs.Common.{◌≡◌, ◌≢◌, ℕ, ◌<◌, ◌≤◌, length, arith, Bool, true, false, List, Option, Some, None, refl, sym, ap, subst, ◌∙◌}
use Rattle.kad_base.specs.declared.types.Id.{Id}
use Rattle.kad_base.specs.declared.types.Addr.{Addr}
use Rattle.kad_base.specs.declared.types.Proof.{Proof}
use Rattle.kad_krpc.specs.declared.message.Ask.{Ask}
use Rattle.kad_krpc.specs.declared.message.Ask.TheVariants.{Ping, FindNode, GetPeers, AnnouncePeer, Get as GetItem, Put as PutItem, Other}
use Rattle.kad_krpc.specs.declared.message.Message.{Message}
use Rattle.kad_krpc.specs.declared.message.Message.TheVariants as message
use Rattle.contact_table.specs.declared.calls.TableCall.{TableCall}
use Rattle.contact_table.specs.declared.calls.TableReply.{TableReply}
use Rattle.contact_table.specs.declared.calls.TableReply.TheVariants as reply
use Rattle.contact_table.specs.TableState.{TableState, SoundTable}
use Rattle.contact_table.specs.Told.{HasMemory}
use Rattle.node_serve.specs.AnswerOf.{AnswerOf, IsTold, notify_by}
use Rattle.node_serve.specs.NodeState.{NodeState, Stores, stores_of, with_parts}
use Rattle.node_serve.specs.Replies.{Announces, Puts, Outcome, RepliesWith, refused, full, added, strange, changing, long, crowded, kept}
use Rattle.kad_krpc.proofs.ReadBack.{one_said}
use Rattle.contact_table.proofs.Outcome.{one-state}

-- ---- the query

-- the parts of two queries
pub record SameQuery (t u : List ℕ) (r q : Bool) (o p : Option Proof) (a b : Ask) : Type 0 where
  pub tx : t ≡ u
  pub mark : r ≡ q
  pub proof : o ≡ p
  pub ask : a ≡ b

same_query : (t u : List ℕ) (r q : Bool) (o p : Option Proof) (a b : Ask) → message.Query t r o a ≡ message.Query u q p b → SameQuery t u r q o p a b
same_query t u r q o p a b e = record { tx = cc; mark = cc; proof = cc; ask = cc }

-- ---- the reply

announced_once : (s : NodeState) (from : Addr) (at : ℕ) (tx : List ℕ) (key : Id) (peer : Addr) (token : List ℕ) (o p : Outcome) → Announces s from at tx key peer token o → Announces s from at tx key peer token p → o ≡ p
announced_once s from at tx key peer token o p (refused h e) (refused k f) = e ∙ sym f
announced_once s from at tx key peer token o p (refused h e) (full k n f) = absurd (h k)
announced_once s from at tx key peer token o p (refused h e) (added k n f) = absurd (h k)
announced_once s from at tx key peer token o p (full h m e) (refused k f) = absurd (k h)
announced_once s from at tx key peer token o p (full h m e) (full k n f) = e ∙ sym f
announced_once s from at tx key peer token o p (full h m e) (added k n f) = absurd (n m)
announced_once s from at tx key peer token o p (added h m e) (refused k f) = absurd (k h)
announced_once s from at tx key peer token o p (added h m e) (full k n f) = absurd (m n)
announced_once s from at tx key peer token o p (added h m e) (added k n f) = e ∙ sym f

true_false : (b : Bool) → b ≡ true → b ≡ false → ⊥
true_false b e f = cc

not_both : (n : ℕ) → 1000 < n → n ≤ 1000 → ⊥
not_both n a b = omega (arith, a, b)

puts_once : (s : NodeState) (from : Addr) (at : ℕ) (tx token v : List ℕ) (mutable : Bool) (o p : Outcome) → Puts s from at tx token v mutable o → Puts s from at tx token v mutable p → o ≡ p
puts_once s from at tx token v mutable o p (strange h e) (strange k f) = e ∙ sym f
puts_once s from at tx token v mutable o p (strange h e) (changing k m f) = absurd (h k)
puts_once s from at tx token v mutable o p (strange h e) (long k m l f) = absurd (h k)
puts_once s from at tx token v mutable o p (strange h e) (crowded t n f) = absurd (h t.own_token)
puts_once s from at tx token v mutable o p (strange h e) (kept t n f) = absurd (h t.own_token)
puts_once s from at tx token v mutable o p (changing h m e) (strange k f) = absurd (k h)
puts_once s from at tx token v mutable o p (changing h m e) (changing k n f) = e ∙ sym f
puts_once s from at tx token v mutable o p (changing h m e) (long k n l f) = absurd (true_false mutable m n)
puts_once s from at tx token v mutable o p (changing h m e) (crowded t n f) = absurd (true_false mutable m t.immutable)
puts_once s from at tx token v mutable o p (changing h m e) (kept t n f) = absurd (true_false mutable m t.immutable)
puts_once s from at tx token v mutable o p (long h m l e) (strange k f) = absurd (k h)
puts_once s from at tx token v mutable o p (long h m l e) (changing k n f) = absurd (true_false mutable n m)
puts_once s from at tx token v mutable o p (long h m l e) (long k n i f) = e ∙ sym f
puts_once s from at tx token v mutable o p (long h m l e) (crowded t n f) = absurd (not_both (length v) l t.short)
puts_once s from at tx token v mutable o p (long h m l e) (kept t n f) = absurd (not_both (length v) l t.short)
puts_once s from at tx token v mutable o p (crowded t n e) (strange k f) = absurd (k t.own_token)
puts_once s from at tx token v mutable o p (crowded t n e) (changing k m f) = absurd (true_false mutable m t.immutable)
puts_once s from at tx token v mutable o p (crowded t n e) (long k m l f) = absurd (not_both (length v) l t.short)
puts_once s from at tx token v mutable o p (crowded t n e) (crowded u m f) = e ∙ sym f
puts_once s from at tx token v mutable o p (crowded t n e) (kept u m f) = absurd (m n)
puts_once s from at tx token v mutable o p (kept t n e) (strange k f) = absurd (k t.own_token)
puts_once s from at tx token v mutable o p (kept t n e) (changing k m f) = absurd (true_false mutable m t.immutable)
puts_once s from at tx token v mutable o p (kept t n e) (long k m l f) = absurd (not_both (length v) l t.short)
puts_once s from at tx token v mutable o p (kept t n e) (crowded u m f) = absurd (n m)
puts_once s from at tx token v mutable o p (kept t n e) (kept u m f) = e ∙ sym f

replies_once : (s : NodeState) (from : Addr) (at : ℕ) (tx : List ℕ) (ask : Ask) (o p : Outcome) → RepliesWith s from at tx ask o → RepliesWith s from at tx ask p → o ≡ p
replies_once s from at tx (Ping id) o p h k = h ∙ sym k
replies_once s from at tx (FindNode id target want) o p h k = h ∙ sym k
replies_once s from at tx (GetPeers id key want) o p h k = h ∙ sym k
replies_once s from at tx (AnnouncePeer id key port token) o p h k = announced_once s from at tx key _ token o p h k
replies_once s from at tx (GetItem id key want) o p h k = h ∙ sym k
replies_once s from at tx (PutItem id token v mutable) o p h k = puts_once s from at tx token v mutable o p h k
replies_once s from at tx (Other method) o p h k = h ∙ sym k

-- ---- the table

has_memory : (x : TableReply) → x ≢ reply.NoMemory → HasMemory x
has_memory (reply.Seen seen) h = tt
has_memory (reply.Gone gone) h = tt
has_memory (reply.List list) h = tt
has_memory (reply.Reports reports) h = tt
has_memory reply.Crowded h = tt
has_memory reply.NoMemory h = absurd (h refl)

told_once : (o : Option TableCall) (t x y : TableState) → SoundTable t → IsTold o t x → IsTold o t y → x ≡ y
told_once None t x y sound h k = h ∙ sym k
told_once (Some call) t x y sound h k =
    h.leaves ∙ one-state t 0 0 call h.reply k.reply sound h.step k.step (has_memory h.reply h.kept) (has_memory k.reply k.kept) ∙ sym k.leaves

-- ---- the answer

module _ (s : NodeState) (from : Addr) (bytes : List ℕ) (at : ℕ) (m n : Message) (x y : NodeState) (a : AnswerOf s from bytes at m x) (b : AnswerOf s from bytes at n y) where
  query_same : SameQuery a.tx b.tx a.read_only b.read_only a.proof b.proof a.ask b.ask
  query_same =
      same_query a.tx b.tx a.read_only b.read_only a.proof b.proof a.ask b.ask
      (one_said bytes (message.Query a.tx a.read_only a.proof a.ask) (message.Query b.tx b.read_only b.proof b.ask) a.query.says b.query.says)

  outcome_same : ◌≡◌ {A = Outcome} (record { message = m; stores = stores_of x }) (record { message = n; stores = stores_of y })
  outcome_same =
      let same = query_same in
      replies_once s from at b.tx b.ask (record { message = m; stores = stores_of x }) (record { message = n; stores = stores_of y })
      (subst (λ ask. RepliesWith s from at b.tx ask (record { message = m; stores = stores_of x })) same.ask
      (subst (λ tx. RepliesWith s from at tx a.ask (record { message = m; stores = stores_of x })) same.tx a.replies))
      b.replies

  pub one_reply : m ≡ n
  one_reply = ap (λ (o : Outcome). o.message) outcome_same

  pub one_next : SoundTable s.table → x ≡ y
  one_next sound =
      let same = query_same in
      let told : IsTold (notify_by s.policy b.read_only b.proof b.ask from) s.table x.table =
      subst (λ mark. IsTold (notify_by s.policy mark b.proof b.ask from) s.table x.table) same.mark
      (subst (λ proof. IsTold (notify_by s.policy a.read_only proof b.ask from) s.table x.table) same.proof
      (subst (λ ask. IsTold (notify_by s.policy a.read_only a.proof ask from) s.table x.table) same.ask a.told)) in
      let table = told_once (notify_by s.policy b.read_only b.proof b.ask from) s.table x.table y.table sound told b.told in
      let stores = ap (λ (o : Outcome). o.stores) outcome_same in
      a.rest
      ∙ ap (λ t. with_parts s t (stores_of x)) table
      ∙ ap (λ (p : Stores). with_parts s y.table p) stores
      ∙ sym b.rest
