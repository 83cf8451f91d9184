-- The answer of a node from what it holds.
use Rattle.std.proofs.Common.{◌≡◌, ℕ, List, [], ◌∷◌, map, refl, ap, subst, ◌∙◌}
use Rattle.kad_base.specs.declared.types.Addr.{Addr}
use Rattle.kad_krpc.specs.Asking.{proof_of}
use Rattle.kad_krpc.specs.Views.{ask_seen}
use Rattle.kad_krpc.specs.declared.message.Message.{Message}
use Rattle.contact_table.specs.TableState.{TableState}
use Rattle.contact_table.specs.TableStep.{table_after}
use Rattle.contact_table.specs.declared.calls.TableCall.{TableCall}
use Rattle.contact_table.specs.declared.calls.TableCall.TheVariants.{Seen, Vouched, Failed}
use Rattle.contact_table.specs.declared.calls.TableReply.{TableReply}
use Rattle.contact_table.specs.declared.calls.TableReply.TheVariants.{Seen as Seen_reply, Gone as Gone_reply}
use Rattle.peer_store.specs.PeersStep.{peers_after}
use Rattle.item_store.specs.ItemSteps.{item_after}
use Rattle.node_serve.specs.declared.asked.Asked.{Asked}
use Rattle.node_serve.specs.declared.holder.Own.{Own}
use Rattle.node_serve.specs.declared.setting.ServeSetting.{ServeSetting}
use Rattle.node_serve.specs.AnswerBy.{Steps, setting_of}
use Rattle.node_serve.specs.AnswerOf.{Answers}
use Rattle.node_serve.specs.Asked.{IsAsked}
use Rattle.node_serve.specs.Calls.{Did, on_table, on_peers, on_items, reply_of, calls_of, answer_with}
use Rattle.node_serve.specs.Gathered.{AnswersAsked, node_of, own_does, own_stores}
use Rattle.node_serve.specs.Holding.{Runs}
use Rattle.node_serve.specs.NodeState.{NodeState, Stores}
use Rattle.node_serve.specs.Responses.{RepliesTo}
use Rattle.node_serve.specs.Sealing.{Tags, sent_form}
use Rattle.node_serve.proofs.Same.{by_rules}

-- ---- calls on what is one's own are steps of it

pub own_steps : (o u : Own) (did : List Did) → Runs own_does o did u → Steps o.table (own_stores o) did u.table (own_stores u)
own_steps o u [] run = (ap (λ (x : Own). x.table) run, ap own_stores run)
own_steps o u (on_table call reply ∷ did) run =
    let d = run.1 in (
      d.0,
      subst (λ (t : TableState). Steps t (own_stores o) did u.table (own_stores u)) d.1
          (subst (λ (p : Stores). Steps run.0.table p did u.table (own_stores u)) d.2 (own_steps run.0 u did run.2)),
    )
own_steps o u (on_peers call reply ∷ did) run =
    let d = run.1 in (
      d.0,
      subst (λ (t : TableState). Steps t (record { peers = peers_after o.peers 0 call reply; items = o.items }) did u.table (own_stores u)) d.1
          (subst (λ (p : Stores). Steps run.0.table p did u.table (own_stores u)) d.2 (own_steps run.0 u did run.2)),
    )
own_steps o u (on_items call reply ∷ did) run =
    let d = run.1 in (
      d.0,
      subst (λ (t : TableState). Steps t (record { peers = o.peers; items = item_after o.items 0 call reply }) did u.table (own_stores u)) d.1
          (subst (λ (p : Stores). Steps run.0.table p did u.table (own_stores u)) d.2 (own_steps run.0 u did run.2)),
    )

-- ---- the table stays the node's own

after_own : (t : TableState) (call : TableCall) (reply : TableReply) → (table_after t 0 call reply).own ≡ t.own
after_own t (Seen c) (Seen_reply seen) = refl
after_own t (Vouched c proof) (Seen_reply seen) = refl
after_own t (Failed c) (Gone_reply gone) = refl
after_own t call reply = refl

pub kept_own : (o u : Own) (did : List Did) → Runs own_does o did u → u.table.own ≡ o.table.own
kept_own o u [] run = ap (λ (x : Own). x.table.own) run
kept_own o u (on_table call reply ∷ did) run = kept_own run.0 u did run.2 ∙ ap (λ (t : TableState). t.own) run.1.1 ∙ after_own o.table call reply
kept_own o u (on_peers call reply ∷ did) run = kept_own run.0 u did run.2 ∙ ap (λ (t : TableState). t.own) run.1.1
kept_own o u (on_items call reply ∷ did) run = kept_own run.0 u did run.2 ∙ ap (λ (t : TableState). t.own) run.1.1

-- ---- the answer

pub answered : (tag_of : Tags) (s : ServeSetting) (o u : Own) (asked : Asked) (at : ℕ) (text : List ℕ) → RepliesTo own_does tag_of s asked at text o u → AnswersAsked tag_of (node_of s o) asked at text (node_of s u)
answered tag_of s o u asked at text r = record { did = r.did; calls = r.calls; memory = r.memory; steps = own_steps o u r.did r.run; written = r.written; rest = refl }

-- by the rules of one node
pub answers : (tag_of : Tags) (s : NodeState) (from : Addr) (bytes : List ℕ) (at : ℕ) (asked : Asked) (text : List ℕ) (next : NodeState) → IsAsked from bytes asked → AnswersAsked tag_of s asked at text next → Answers tag_of s from bytes at text next
answers tag_of s from bytes at asked text next is a =
    let S = setting_of s in
    let ask = ask_seen asked.ask in
    let m : Message = answer_with S from at asked.tx.now ask (map reply_of a.did) in
    record {
      reply = m;
      answer = by_rules s from bytes at m next (record {
        tx = asked.tx.now;
        read_only = asked.read_only;
        proof = proof_of asked.arguments;
        ask = ask;
        query = is.query;
        did = a.did;
        calls = a.calls ∙ ap (λ f. calls_of S f at asked.read_only (proof_of asked.arguments) ask) is.from_is;
        memory = a.memory;
        steps = a.steps;
        reply_is = refl;
        rest = a.rest;
      });
      written = a.written ∙ ap (λ f. sent_form tag_of s.sealed s.own (answer_with S f at asked.tx.now ask (map reply_of a.did))) is.from_is;
    }
