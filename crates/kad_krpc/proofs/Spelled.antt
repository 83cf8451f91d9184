-- The dictionary of a message is a value that bencode reads back: its integers are of 64 bits, its pairs are in order, and
-- it nests at most two lists and dictionaries more than a value that it carries.
use Rattle.std.proofs.Common.{ℕ, ◌≤◌, true, false, List, [], ◌∷◌, ℤ, pos, refl, arith}
use Rattle.std.specs.Prelude.{codes}
use Rattle.kad_bencode.specs.Spelling.{depth_of, Spells}
use Rattle.kad_bencode.specs.declared.value.Value.TheVariants.{Int, Text, List as Values, Dict}
use Rattle.kad_bencode.proofs.Folds.{depth_of-list}
use Rattle.kad_bencode.proofs.Ordered.{text_spells}
use Rattle.kad_krpc.specs.declared.message.Message.{Message}
use Rattle.kad_krpc.specs.declared.message.Message.TheVariants as message
use Rattle.kad_krpc.specs.Asking.{arguments_of, name_of}
use Rattle.kad_krpc.specs.Answering.{answer_pairs}
use Rattle.kad_krpc.specs.Form.{HasForms, message_pairs, form}
use Rattle.kad_krpc.specs.WellTyped.{IsWell}
use Rattle.kad_krpc.proofs.Pairing.{Good, good_text, good_int, good_list, good_dict, Within, dict_within, text_within, int_within}
use Rattle.kad_krpc.proofs.Asking.{good_ask, ask_within}
use Rattle.kad_krpc.proofs.Answering.{good_answer_dict, answer_within}

good_message : (m : Message) → IsWell m → HasForms m → Good (Dict (message_pairs m))
good_message (message.Query tx true proof ask) w f = good_dict (message_pairs (message.Query tx true proof ask)) (good_ask proof ask w.1 f, (good_text (name_of ask), (good_int (pos 1) refl, (good_text tx, (good_text (codes "q"), tt))))) refl refl
good_message (message.Query tx false proof ask) w f = good_dict (message_pairs (message.Query tx false proof ask)) (good_ask proof ask w.1 f, (good_text (name_of ask), (good_text tx, (good_text (codes "q"), tt)))) refl refl
good_message (message.Answer tx answer) w f = good_dict (message_pairs (message.Answer tx answer)) (good_answer_dict answer f, (good_text tx, (good_text (codes "r"), tt))) refl refl
good_message (message.Fault tx code said) w f = good_dict (message_pairs (message.Fault tx code said)) (good_list (Int code ∷ Text said ∷ []) (good_int code w, (good_text said, tt)), (good_text tx, (good_text (codes "e"), tt))) refl refl

error_within : (code : ℤ) (said : List ℕ) → depth_of (Values (Int code ∷ Text said ∷ [])) ≤ 15
error_within code said =
    let a = int_within 0 code in
    let b = text_within 0 said in
    let e = depth_of-list (Int code ∷ Text said ∷ []) in
    omega arith

message_within : (m : Message) → HasForms m → Within 15 (message_pairs m)
message_within (message.Query tx true proof ask) f = (dict_within 14 (arguments_of proof ask) (ask_within proof ask f), (text_within 15 (name_of ask), (int_within 15 (pos 1), (text_within 15 tx, (text_within 15 (codes "q"), tt)))))
message_within (message.Query tx false proof ask) f = (dict_within 14 (arguments_of proof ask) (ask_within proof ask f), (text_within 15 (name_of ask), (text_within 15 tx, (text_within 15 (codes "q"), tt))))
message_within (message.Answer tx answer) f = (dict_within 14 (answer_pairs answer) (answer_within answer f), (text_within 15 tx, (text_within 15 (codes "r"), tt)))
message_within (message.Fault tx code said) f = (error_within code said, (text_within 15 tx, (text_within 15 (codes "e"), tt)))

shallow : (m : Message) → HasForms m → depth_of (Dict (message_pairs m)) ≤ 16
shallow m f = let d = dict_within 15 (message_pairs m) (message_within m f) in omega arith

pub spelled : (m : Message) → IsWell m → HasForms m → Spells (form m) (Dict (message_pairs m))
unfolding form
spelled m w f = let g = good_message m w f in let d = shallow m f in text_spells (Dict (message_pairs m)) (record { depth = grind (arith, d); plain = g.plain }) g.ordered
