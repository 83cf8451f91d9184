-- What decoding answers, from what bencode's reading answers and what its value says.
use Rattle.std.proofs.Common.{◌≡◌, ℕ, List, Result, Ok, Err, IfOk, IfErr, sym, ap, ◌∙◌, subst}
use Rattle.std.specs.Prelude.{codes}
use Rattle.kad_bencode.specs.Parts.{bytes_of}
use Rattle.kad_bencode.specs.Spelling.{Spells}
use Rattle.kad_bencode.specs.Faults.{IsFirstFault}
use Rattle.kad_bencode.proofs.Faults.{one_value, no_fault}
use Rattle.kad_bencode.specs.declared.value.Value.{Value}
use Rattle.kad_bencode.specs.declared.value.Bad.{Bad as BadValue}
use Rattle.kad_krpc.specs.declared.message.Message.{Message}
use Rattle.kad_krpc.specs.declared.message.Kind.{Kind}
use Rattle.kad_krpc.specs.declared.message.Kind.TheVariants as kind
use Rattle.kad_krpc.specs.declared.message.Key.TheVariants as key
use Rattle.kad_krpc.specs.declared.message.KrpcFault.{KrpcFault}
use Rattle.kad_krpc.specs.declared.message.KrpcFault.TheVariants.{Bad, Missing, Shape, Records, NoMemory}
use Rattle.kad_krpc.specs.declared.borrowed.View.{View}
use Rattle.kad_krpc.specs.Fields.{Step, Look, of_kind, needed, look_of}
use Rattle.kad_krpc.specs.Asking.{ask_of, method_in}
use Rattle.kad_krpc.specs.Answering.{answer_at}
use Rattle.kad_krpc.specs.Reading.{kind_of, code_text_of, body_at, said, Says, Fails, Refuses, Gives}
use Rattle.kad_krpc.specs.Views.{message_seen, viewed}
use Rattle.kad_krpc.proofs.Stepping.{NotBad, both, kinds, needs}
use Rattle.kad_krpc.proofs.Asking.{asks_not_bad}
use Rattle.kad_krpc.proofs.Answering.{answer_not_bad}

-- ---- no step fails as bencode does, or by want of memory

bodies : (k : Kind) (tx : List ℕ) (top : Look) → NotBad (body_at k tx top)
bodies kind.Query tx top =
    both (needed bytes_of key.Q (top (codes "q"))) _ (needs bytes_of key.Q (top (codes "q"))) (λ name.
    both (ask_of name (top (codes "a"))) _ (asks_not_bad (method_in name) name (top (codes "a"))) (λ ask. tt))
bodies kind.Answer tx top =
    both (needed look_of key.R (top (codes "r"))) _ (needs look_of key.R (top (codes "r"))) (λ r.
    both (answer_at r) _ (answer_not_bad r) (λ answer. tt))
bodies kind.Fault tx top = both (needed code_text_of key.E (top (codes "e"))) _ (needs code_text_of key.E (top (codes "e"))) (λ e. tt)

not_bad : (v : Value) → NotBad (said v)
not_bad v =
    both (of_kind key.Top (look_of v)) _ (kinds key.Top (look_of v)) (λ top.
    both (needed bytes_of key.T (top (codes "t"))) _ (needs bytes_of key.T (top (codes "t"))) (λ tx.
    both (needed kind_of key.Y (top (codes "y"))) _ (needs kind_of key.Y (top (codes "y"))) (λ k. bodies k tx top)))

never_bad : (v : Value) (bad : BadValue) → said v ≡ Err (Bad bad) → ⊥
never_bad v bad e = subst NotBad e (not_bad v)

never_without : (v : Value) → said v ≡ Err NoMemory → ⊥
never_without v e = subst NotBad e (not_bad v)

-- ---- a view, where a value was read

ok_is : {A E : Type 0} {x y : A} → ◌≡◌ {A = Result A E} (Ok x) (Ok y) → x ≡ y
ok_is e = cc

no_value : {A E : Type 0} {x : A} {e : E} → ◌≡◌ {A = Result A E} (Err e) (Ok x) → ⊥
no_value e = cc

no_error : {A E : Type 0} {x : A} {e : E} → ◌≡◌ {A = Result A E} (Ok x) (Err e) → ⊥
no_error e = cc

same_error : {A B E : Type 0} {x y : E} → ◌≡◌ {A = Result A E} (Err x) (Err y) → ◌≡◌ {A = Result B E} (Err x) (Err y)
same_error e = cc

module _ (bytes : List ℕ) (top : Value) (s : Spells bytes top) (r : Result View KrpcFault) (e : viewed r ≡ said top) where
  of_value : (v : Value) → Spells bytes v → viewed r ≡ said v
  of_value v t = e ∙ ap said (one_value bytes top v s t)

  pub says : IfOk r (λ v. Says bytes (message_seen v))
  says = so r e
    where
      so : (r : Result View KrpcFault) → viewed r ≡ said top → IfOk r (λ v. Says bytes (message_seen v))
      so (Ok v) h = record { value = top; spelled = s; says = sym h }
      so (Err fault) h = tt

  pub refuses : IfErr r (Refuses bytes)
  refuses = so r e
    where
      so : (r : Result View KrpcFault) → viewed r ≡ said top → IfErr r (Refuses bytes)
      so (Ok v) h = tt
      so (Err (Bad bad)) h = absurd (never_bad top bad (sym h))
      so (Err (Missing key)) h = record { value = top; spelled = s; fails = sym h }
      so (Err (Shape key)) h = record { value = top; spelled = s; fails = sym h }
      so (Err (Records key len)) h = record { value = top; spelled = s; fails = sym h }
      so (Err NoMemory) h = absurd (never_without top (sym h))

  pub only : (m : Message) → Says bytes m → viewed r ≡ Ok m
  only m h = of_value h.value h.spelled ∙ h.says

  fails : (fault : KrpcFault) → Fails bytes fault → r ≡ Err fault
  fails fault f = so r (of_value f.value f.spelled ∙ f.fails)
    where
      so : (r : Result View KrpcFault) → viewed r ≡ Err fault → r ≡ Err fault
      so (Ok v) h = absurd (no_error h)
      so (Err other) h = same_error h

  pub refused : (fault : KrpcFault) → Refuses bytes fault → r ≡ Err fault
  refused (Bad bad) f = absurd (no_fault bytes top bad f.seen s f.here)
  refused (Missing key) f = fails (Missing key) f
  refused (Shape key) f = fails (Shape key) f
  refused (Records key len) f = fails (Records key len) f
  refused NoMemory f = absurd f

-- ---- a view, where bencode had a fault

pub bad_only : (bytes : List ℕ) (bad : BadValue) → ((v : Value) → Spells bytes v → ◌≡◌ {A = Result Value BadValue} (Err bad) (Ok v)) → (m : Message) → Says bytes m → ◌≡◌ {A = Step Message} (Err (Bad bad)) (Ok m)
bad_only bytes bad one m s = absurd (no_value (one s.value s.spelled))

pub bad_refused : {A : Type 0} (bytes : List ℕ) (bad : BadValue) → ((v : Value) → Spells bytes v → ◌≡◌ {A = Result Value BadValue} (Err bad) (Ok v)) → ((other : BadValue) → IsFirstFault bytes other → ◌≡◌ {A = Result Value BadValue} (Err bad) (Err other)) → (fault : KrpcFault) → Refuses bytes fault → ◌≡◌ {A = Step A} (Err (Bad bad)) (Err fault)
bad_refused {A} bytes bad one first (Bad other) f = same (first other f)
  where
    same : {x y : BadValue} → ◌≡◌ {A = Result Value BadValue} (Err x) (Err y) → ◌≡◌ {A = Step A} (Err (Bad x)) (Err (Bad y))
    same e = cc
bad_refused bytes bad one first (Missing key) f = absurd (no_value (one f.value f.spelled))
bad_refused bytes bad one first (Shape key) f = absurd (no_value (one f.value f.spelled))
bad_refused bytes bad one first (Records key len) f = absurd (no_value (one f.value f.spelled))
bad_refused bytes bad one first NoMemory f = absurd f

-- ---- a message in memory of its own

pub owned_only : (v : View) (m n : Message) → n ≡ message_seen v → viewed (Ok v) ≡ Ok m → Gives (Ok m) (Ok n)
owned_only v m n e h = ap Ok (sym (ok_is h) ∙ sym e)

pub fault_only : (fault : KrpcFault) (m : Message) → ◌≡◌ {A = Step Message} (Err fault) (Ok m) → Gives {A = Message} (Ok m) (Err fault)
fault_only fault m h = absurd (no_value h)
