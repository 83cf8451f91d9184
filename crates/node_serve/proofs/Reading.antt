-- What a datagram is that says a message.
use Rattle.std.proofs.Common.{◌≡◌, ◌≢◌, ℕ, ◌<◌, ◌≤◌, List, length, Option, Some, None, Result, Ok, Err, refl, subst, ◌∙◌, arith}
use Rattle.std.specs.Prelude.{MatchOption, IsNone}
use Rattle.kad_base.specs.declared.types.Addr.{Addr}
use Rattle.kad_base.specs.Limits.{max_datagram, max_answered_tx}
use Rattle.kad_krpc.specs.declared.message.KrpcFault.{KrpcFault}
use Rattle.kad_krpc.specs.declared.message.Message.{Message}
use Rattle.kad_krpc.specs.Form.{IsV4}
use Rattle.kad_krpc.specs.Reading.{Says, Refuses}
use Rattle.kad_krpc.specs.declared.borrowed.View.{View}
use Rattle.kad_krpc.specs.Views.{message_seen, viewed}
use Rattle.node_serve.specs.declared.asked.Asked.{Asked}
use Rattle.node_serve.specs.Asked.{IsAsked, IsOf}
use Rattle.node_serve.specs.Queries.{IsNotAnswered, IsSilent, long, no_port, other_family, unread, not_answered}

module _ (from : Addr) (bytes : List ℕ) (m : Message) (short : length bytes ≤ max_datagram) (port : from.port ≢ 0) (family : IsV4 from.ip) (says : Says bytes m) where
  pub asked_read : (o : Option Asked) → MatchOption o (IsNotAnswered m) (IsOf from m) → MatchOption o (IsSilent from bytes) (IsAsked from bytes)
  asked_read None no_query = not_answered m says no_query
  asked_read (Some asked) is = record {
    from_is = is.from_is;
    ip = is.ip;
    query = record { short = short; port = port; family = family; says = subst (Says bytes) is.message says; short_tx = is.short };
  }

  pub silent_none : (o : Option Asked) → ((other : Message) → Says bytes other → other ≡ m) → ((fault : KrpcFault) → Refuses bytes fault → ⊥) → MatchOption o (IsNotAnswered m) (IsOf from m) → IsSilent from bytes → IsNone o
  silent_none None once never is h = refl
  silent_none (Some asked) once never is (long h) = absurd (omega (arith, h, short))
  silent_none (Some asked) once never is (no_port e) = absurd (port e)
  silent_none (Some asked) once never is (other_family h) = absurd (h family)
  silent_none (Some asked) once never is (unread fault h) = absurd (never fault h)
  silent_none (Some asked) once never is (not_answered other h no_query) =
      let long_tx : max_answered_tx < length asked.tx.now = subst IsNotAnswered (once other h ∙ is.message) no_query in
      let short_tx = is.short in
      absurd (omega (arith, long_tx, short_tx))

-- a reading gives one message, and then no refusal
pub same_message : (view : View) (m : Message) → viewed (Ok view) ≡ Ok m → m ≡ message_seen view
same_message view m e = cc

pub not_refused : (view : View) (fault : KrpcFault) → ◌≡◌ {A = Result View KrpcFault} (Ok view) (Err fault) → ⊥
not_refused view fault e = absurd cc
