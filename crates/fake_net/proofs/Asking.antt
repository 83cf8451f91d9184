-- The query that bytes say.
use Rattle.std.proofs.Common.{◌≡◌, ℕ, List, [], ◌∷◌, ◌++◌, Option, Some, None, Result, Ok, Err, refl, sym, ap, subst, ◌∙◌}
use Rattle.std.specs.Prelude.{IfSome, OnOk, OnErr}
use Rattle.kad_base.specs.declared.types.Addr.{Addr}
use Rattle.kad_krpc.specs.declared.message.Message.{Message}
use Rattle.kad_krpc.specs.declared.message.Message.TheVariants as message
use Rattle.kad_krpc.specs.declared.message.KrpcFault.{KrpcFault}
use Rattle.kad_krpc.specs.Fields.{Step}
use Rattle.kad_krpc.specs.Reading.{Says}
use Rattle.fake_net.specs.declared.script.SentQuery.{SentQuery}
use Rattle.fake_net.specs.Scripts.{SaysQuery, IsQuery, query_tx, Asks}

-- bytes that say a message say no other
pub read_only : (bytes tx : List ℕ) (m : Message) → ((n : Message) → Says bytes n → ◌≡◌ {A = Step Message} (Ok m) (Ok n)) → SaysQuery bytes tx
    → query_tx m ≡ Some tx
read_only bytes tx m only q =
    let query = message.Query tx q.read_only q.proof q.ask in
    let same : m ≡ query = (let e = only query q.says in cc) in
    ap query_tx same

-- bytes that are refused say none
pub refused_only : (bytes tx : List ℕ) (fault : KrpcFault) (query : Option (List ℕ)) → ((n : Message) → Says bytes n → ◌≡◌ {A = Step Message} (Err fault) (Ok n))
    → SaysQuery bytes tx → query ≡ Some tx
refused_only bytes tx fault query only q = let e = only _ q.says in absurd cc

-- where it isn't kept there was a query to keep
pub unkept_only : {A E : Type 0} (r : Result A E) (bytes tx : List ℕ) → SaysQuery bytes tx → OnErr r (IsQuery bytes)
unkept_only (Ok x) bytes tx says = tt
unkept_only (Err e) bytes tx says = record { tx = tx; says = says }

asks_one : (to : Addr) (bytes tx : List ℕ) (old new : List SentQuery) → SaysQuery bytes tx → ((t : List ℕ) → SaysQuery bytes t → Some tx ≡ Some t)
    → new ≡ old ++ record { to = to; tx = tx } ∷ [] → Asks to bytes old new
asks_one to bytes tx old new says only e = record {
  query = λ t q. (let same : tx ≡ t = (let s = only t q in cc) in e ∙ ap (λ (x : List ℕ). old ++ record { to = to; tx = x } ∷ []) same);
  other = λ not. absurd (not tx says);
}

pub asks_pushed : {A E : Type 0} (r : Result A E) (to : Addr) (bytes : List ℕ) (query : Option (List ℕ)) (tx : List ℕ) (old new : List SentQuery) → query ≡ Some tx
    → IfSome query (SaysQuery bytes) → ((t : List ℕ) → SaysQuery bytes t → query ≡ Some t) → OnOk r (new ≡ old ++ record { to = to; tx = tx } ∷ []) → OnOk r (Asks to bytes old new)
asks_pushed (Ok x) to bytes (Some given) tx old new is says only e =
    let same : given ≡ tx = cc in
    asks_one to bytes tx old new (subst (λ (t : List ℕ). SaysQuery bytes t) same says) (λ t q. sym is ∙ only t q) e
asks_pushed (Ok x) to bytes None tx old new is says only e = absurd cc
asks_pushed (Err x) to bytes query tx old new is says only e = tt

pub asks_none : (to : Addr) (bytes : List ℕ) (query : Option (List ℕ)) (old : List SentQuery) → query ≡ None → ((t : List ℕ) → SaysQuery bytes t → query ≡ Some t)
    → Asks to bytes old old
asks_none to bytes query old is only = record { query = λ t q. (let e = only t q in absurd cc); other = λ not. refl }
