-- What a worker does for a query, said of the datagram.
use Rattle.std.proofs.Common.{◌≤◌, ℕ, List, [], map, take, refl, ap, ◌∙◌}
use Rattle.kad_base.specs.declared.types.Addr.{Addr}
use Rattle.kad_krpc.specs.Asking.{proof_of}
use Rattle.kad_krpc.specs.Views.{ask_seen}
use Rattle.node_serve.specs.Asked.{IsAsked}
use Rattle.node_serve.specs.Calls.{reply_of, calls_of, answer_with}
use Rattle.node_serve.specs.Queries.{IsSilent}
use Rattle.node_serve.specs.Responses.{RepliesTo, StopsAt}
use Rattle.node_serve.specs.Sealing.{Tags, sent_form}
use Rattle.node_serve.specs.declared.asked.Asked.{Asked}
use Rattle.node_serve.specs.declared.node.Answered.TheVariants.{Reply as Reply_owed, Silent, NoMemory}
use Rattle.node_serve.specs.declared.setting.ServeSetting.{ServeSetting}
use Rattle.node_serve.proofs.Responding.{ends_first}
use Rattle.serve_crew.specs.Hands.{Hands, does}
use Rattle.serve_crew.specs.Serving.{Answers}
use Rattle.serve_crew.proofs.Growing.{grew_none, runs_grew}

module _ (tag_of : Tags) (s : ServeSetting) (from : Addr) (bytes : List ℕ) (at : ℕ) (out : List ℕ) (old new : Hands) where
  pub answers_reply : (asked : Asked) (n : ℕ) → IsAsked from bytes asked → n ≤ 4096 → RepliesTo does tag_of s asked at (take n out) old new → Answers tag_of s from bytes at (Reply_owed n) out old new
  answers_reply asked n is room r = record {
    did = r.did;
    grew = (runs_grew old new r.did r.run).1;
    answer = (
      room,
      record {
        tx = asked.tx.now;
        read_only = asked.read_only;
        proof = proof_of asked.arguments;
        ask = ask_seen asked.ask;
        query = is.query;
        calls = r.calls ∙ ap (λ f. calls_of s f at asked.read_only (proof_of asked.arguments) (ask_seen asked.ask)) is.from_is;
        memory = r.memory;
        written = r.written ∙ ap (λ f. sent_form tag_of s.sealed s.own (answer_with s f at asked.tx.now (ask_seen asked.ask) (map reply_of r.did))) is.from_is;
      },
    );
  }

  pub answers_stop : (asked : Asked) → IsAsked from bytes asked → StopsAt does s asked at old new → Answers tag_of s from bytes at NoMemory out old new
  answers_stop asked is h =
      let first = ends_first s asked at h.did h.ends in
      record {
        did = h.did;
        grew = (runs_grew old new h.did h.run).1;
        answer = record {
          tx = asked.tx.now;
          read_only = asked.read_only;
          proof = proof_of asked.arguments;
          ask = ask_seen asked.ask;
          query = is.query;
          left = first.0;
          calls = first.1 ∙ ap (λ f. calls_of s f at asked.read_only (proof_of asked.arguments) (ask_seen asked.ask)) is.from_is;
        };
      }

pub answers_none : (tag_of : Tags) (s : ServeSetting) (from : Addr) (bytes : List ℕ) (at : ℕ) (out : List ℕ) (h : Hands) → IsSilent from bytes → Answers tag_of s from bytes at Silent out h h
answers_none tag_of s from bytes at out h silent = record { did = []; grew = grew_none h; answer = (silent, refl) }
