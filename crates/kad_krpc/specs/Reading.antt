-- What a datagram says: the steps in which a KRPC message is read off the value that the datagram spells (BEP 5; `ro`
-- is BEP 43's, `snodes`, `sk` and the order of the steps are this project's own). The first step that fails is the refusal.
-- Keys that no step names are passed over.
use Rattle.std.specs.Prelude.{◌≡◌, ℕ, cond, List, [], ◌∷◌, codes, bytes_eq, ℤ, Option, Some, None, Result, Ok, Err}
use Rattle.kad_bencode.specs.Faults.{IsFirstFault}
use Rattle.kad_bencode.specs.Parts.{bytes_of, integer_of, list_of}
use Rattle.kad_bencode.specs.Spelling.{Spells}
use Rattle.kad_bencode.specs.declared.value.Value.{Value}
use Rattle.kad_krpc.specs.declared.message.Message.{Message}
use Rattle.kad_krpc.specs.declared.message.Message.TheVariants as message
use Rattle.kad_krpc.specs.declared.message.Key.TheVariants as key
use Rattle.kad_krpc.specs.declared.message.KrpcFault.{KrpcFault}
use Rattle.kad_krpc.specs.declared.message.KrpcFault.TheVariants.{Bad, Missing, Shape, Records, NoMemory}
use Rattle.kad_krpc.specs.declared.message.Kind.{Kind}
use Rattle.kad_krpc.specs.declared.message.Kind.TheVariants.{Query as Kind_query, Answer as Kind_answer, Fault as Kind_fault}
use Rattle.kad_krpc.specs.Fields.{Step, Look, then, of_kind, needed, look_of}
use Rattle.kad_krpc.specs.Asking.{ask_of, proof_of, arguments_read, is_read_only}
use Rattle.kad_krpc.specs.Answering.{answer_at}

-- ---- the kinds of a value

-- the kind of a message
abbrev pub kind_in : Option (List ℕ) → Option Kind
kind_in None = None
kind_in (Some name) =
    cond (bytes_eq name (codes "q")) (Some Kind_query)
    (cond (bytes_eq name (codes "r")) (Some Kind_answer)
    (cond (bytes_eq name (codes "e")) (Some Kind_fault) None))

-- the kind of message that the value of `y` names: q, r or e
abbrev pub kind_of : Value → Option Kind
kind_of v = kind_in (bytes_of v)

-- a code and a text, and whatever follows them in their list
abbrev pub code_text : Option ℤ → Option (List ℕ) → Option (ℤ × List ℕ)
code_text (Some code) (Some text) = Some (code, text)
code_text code text = None

-- the first two of a list's values, if they are an integer and a string
abbrev pub code_text_in : Option (List Value) → Option (ℤ × List ℕ)
code_text_in None = None
code_text_in (Some []) = None
code_text_in (Some (code ∷ [])) = None
code_text_in (Some (code ∷ text ∷ rest)) = code_text (integer_of code) (bytes_of text)

-- the value of `e`: a list of a code and a text
abbrev pub code_text_of : Value → Option (ℤ × List ℕ)
code_text_of v = code_text_in (list_of v)

-- ---- messages, by their kind

-- a query, by the values of `q`, `a` and `ro`: the method first, then what it asks, and the proof that it brings
abbrev pub query_by : List ℕ → Option Value → Option Value → Option Value → Step Message
query_by tx q a ro =
    then (needed bytes_of key.Q q) (λ method.
    then (ask_of method a) (λ ask.
    Ok (message.Query tx (is_read_only ro) (proof_of (arguments_read ask a)) ask)))

-- the message whose `r` is an answer
abbrev pub answer_message_by : List ℕ → Option Value → Step Message
answer_message_by tx r =
    then (needed look_of key.R r) (λ r.
    then (answer_at r) (λ answer.
    Ok (message.Answer tx answer)))

-- the message whose `e` is a code and a text
abbrev pub fault_by : List ℕ → Option Value → Step Message
fault_by tx e = then (needed code_text_of key.E e) (λ e. Ok (message.Fault tx e.0 e.1))

-- what a message says beside its transaction id, by its kind
abbrev pub body_at : Kind → List ℕ → Look → Step Message
body_at Kind_query tx top = query_by tx (top (codes "q")) (top (codes "a")) (top (codes "ro"))
body_at Kind_answer tx top = answer_message_by tx (top (codes "r"))
body_at Kind_fault tx top = fault_by tx (top (codes "e"))

-- what a message's dictionary says: the transaction id and the kind come before the body
abbrev pub message_at : Look → Step Message
message_at top =
    then (needed bytes_of key.T (top (codes "t"))) (λ tx.
    then (needed kind_of key.Y (top (codes "y"))) (λ kind.
    body_at kind tx top))

-- what a value says
abbrev pub said : Value → Step Message
said v = then (of_kind key.Top (look_of v)) message_at

-- the bytes spell a value that says the message
pub record Says (bytes : List ℕ) (m : Message) : Type 0 where
  pub value : Value
  pub spelled : Spells bytes value
  pub says : said value ≡ Ok m

-- the bytes spell a value, and this is the first step that fails on it
pub record Fails (bytes : List ℕ) (fault : KrpcFault) : Type 0 where
  pub value : Value
  pub spelled : Spells bytes value
  pub fails : said value ≡ Err fault

-- why the bytes say nothing
abbrev pub Refuses : List ℕ → KrpcFault → Type 0
Refuses bytes (Bad bad) = IsFirstFault bytes bad
Refuses bytes (Missing key) = Fails bytes (Missing key)
Refuses bytes (Shape key) = Fails bytes (Shape key)
Refuses bytes (Records key len) = Fails bytes (Records key len)
Refuses bytes NoMemory = ⊥

-- what is answered is what was to be, unless memory ran out
abbrev pub Gives : {A : Type 0} → Step A → Result A KrpcFault → Type 0
Gives step (Ok x) = step ≡ Ok x
Gives step (Err NoMemory) = Unit {0}
Gives step (Err (Bad bad)) = step ≡ Err (Bad bad)
Gives step (Err (Missing key)) = step ≡ Err (Missing key)
Gives step (Err (Shape key)) = step ≡ Err (Shape key)
Gives step (Err (Records key len)) = step ≡ Err (Records key len)

-- what the refusal is, unless memory ran out
abbrev pub IfRefused : {A : Type 0} → Result A KrpcFault → (KrpcFault → Type 0) → Type 0
IfRefused (Ok x) P = Unit {0}
IfRefused (Err NoMemory) P = Unit {0}
IfRefused (Err (Bad bad)) P = P (Bad bad)
IfRefused (Err (Missing key)) P = P (Missing key)
IfRefused (Err (Shape key)) P = P (Shape key)
IfRefused (Err (Records key len)) P = P (Records key len)
