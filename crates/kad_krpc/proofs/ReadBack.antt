-- What a written message says: each step of the reading gives its part back.
use Rattle.std.proofs.Common.{◌≡◌, ℕ, Bool, true, false, List, [], ◌∷◌, pos, Option, Some, None, Ok, refl, sym, ap, ◌∙◌}
use Rattle.std.specs.Prelude.{codes}
use Rattle.kad_base.specs.declared.types.Proof.{Proof}
use Rattle.kad_bencode.specs.Keys.{value_of}
use Rattle.kad_bencode.specs.Parts.{bytes_of}
use Rattle.kad_bencode.specs.declared.entries.Pair.{Pair}
use Rattle.kad_bencode.specs.declared.value.Value.{Value}
use Rattle.kad_bencode.specs.declared.value.Value.TheVariants.{Int, Text, Dict}
use Rattle.kad_bencode.proofs.Faults.{one_value}
use Rattle.kad_krpc.specs.declared.message.Message.{Message}
use Rattle.kad_krpc.specs.declared.message.Message.TheVariants as message
use Rattle.kad_krpc.specs.declared.message.Ask.{Ask}
use Rattle.kad_krpc.specs.declared.message.Kind.{Kind}
use Rattle.kad_krpc.specs.declared.message.Kind.TheVariants as kind
use Rattle.kad_krpc.specs.declared.message.Key.TheVariants as key
use Rattle.kad_krpc.specs.Fields.{Step, of_kind, needed, look_of}
use Rattle.kad_krpc.specs.Asking.{arguments_of, name_of, is_read_only, is_one, IsWritableAsk, IsWellAsk}
use Rattle.kad_krpc.specs.Answering.{answer_pairs}
use Rattle.kad_krpc.specs.Reading.{kind_of, kind_in, code_text_of, code_text_in, code_text, query_by, body_at, said, Says}
use Rattle.kad_krpc.specs.Form.{IsWritable, message_pairs}
use Rattle.kad_krpc.specs.WellTyped.{IsWell, IsWellProof}
use Rattle.kad_krpc.proofs.Stepping.{bytes_text, integer_int, list_list, look_dict, stepped, had}
use Rattle.kad_krpc.proofs.Asking.{ask_back, proof_back}
use Rattle.kad_krpc.proofs.Answering.{answer_back}

message_said : (ps : List (Pair Value)) (tx name : List ℕ) (k : Kind) (r : Step Message) → value_of ps (codes "t") ≡ Some (Text tx) → value_of ps (codes "y") ≡ Some (Text name) → kind_in (Some name) ≡ Some k → body_at k tx (value_of ps) ≡ r → said (Dict ps) ≡ r
message_said ps tx name k r t y is body =
    stepped _ (value_of ps) _ _ (ap (of_kind key.Top) (look_dict ps))
    (stepped _ tx _ _ (ap (needed bytes_of key.T) t ∙ had bytes_of key.T _ _ (bytes_text tx))
    (stepped _ k _ _ (ap (needed kind_of key.Y) y ∙ had kind_of key.Y _ _ (ap kind_in (bytes_text name) ∙ is)) body))

query_said : (tx : List ℕ) (ro : Bool) (proof : Option Proof) (ask : Ask) (r : Option Value) → is_read_only r ≡ ro → IsWellProof proof → IsWellAsk ask → IsWritableAsk proof ask → query_by tx (Some (Text (name_of ask))) (Some (Dict (arguments_of proof ask))) r ≡ Ok (message.Query tx ro proof ask)
query_said tx ro proof ask r is v w n =
    stepped _ (name_of ask) _ _ (had bytes_of key.Q _ _ (bytes_text (name_of ask)))
    (stepped _ ask _ _ (ask_back proof ask w n) (λ i. Ok (message.Query tx (is i) (proof_back proof ask v n i) ask)))

pub said_back : (m : Message) → IsWell m → IsWritable m → said (Dict (message_pairs m)) ≡ Ok m
said_back (message.Query tx true proof ask) w n =
    message_said (message_pairs (message.Query tx true proof ask)) tx (codes "q") kind.Query _ refl refl refl
    (query_said tx true proof ask (Some (Int (pos 1))) (ap is_one (integer_int (pos 1))) w.0 w.1 n)
said_back (message.Query tx false proof ask) w n =
    message_said (message_pairs (message.Query tx false proof ask)) tx (codes "q") kind.Query _ refl refl refl
    (query_said tx false proof ask None refl w.0 w.1 n)
said_back (message.Answer tx answer) w n =
    message_said (message_pairs (message.Answer tx answer)) tx (codes "r") kind.Answer _ refl refl refl
    (stepped _ (value_of (answer_pairs answer)) _ _ (had look_of key.R _ _ (look_dict (answer_pairs answer)))
    (stepped _ answer _ _ (answer_back answer w n) refl))
said_back (message.Fault tx code text) w n =
    message_said (message_pairs (message.Fault tx code text)) tx (codes "e") kind.Fault _ refl refl refl
    (stepped _ (code, text) _ _ (had code_text_of key.E _ _ (ap code_text_in (list_list (Int code ∷ Text text ∷ [])) ∙ (λ i. code_text (integer_int code i) (bytes_text text i)))) refl)

-- bytes spell one value, which says one message
pub one_said : (bytes : List ℕ) (m n : Message) → Says bytes m → Says bytes n → m ≡ n
one_said bytes m n s t = same m n (sym s.says ∙ ap said (one_value bytes s.value t.value s.spelled t.spelled) ∙ t.says)
  where
    same : (m n : Message) → ◌≡◌ {A = Step Message} (Ok m) (Ok n) → m ≡ n
    same m n e = cc
