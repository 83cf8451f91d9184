-- The one written form of a KRPC message (BEP 5): a dictionary with its keys in ascending order.
use Rattle.std.specs.Prelude.{ℕ, Bool, false, List, [], ◌∷◌, ◌++◌, codes, Option}
use Rattle.kad_base.specs.declared.types.Id.{Id}
use Rattle.kad_base.specs.declared.types.Proof.{Proof}
use Rattle.kad_base.specs.Words.{word_bytes}
use Rattle.kad_bencode.specs.Faults.{pairs_of}
use Rattle.kad_bencode.specs.Spelling.{pairs_text, text_of}
use Rattle.kad_bencode.specs.declared.entries.Pair.{Pair}
use Rattle.kad_bencode.specs.declared.value.Value.{Value}
use Rattle.kad_bencode.specs.declared.value.Value.TheVariants.{Int, Text, List as Values, Dict}
use Rattle.kad_krpc.specs.declared.message.Message.{Message}
use Rattle.kad_krpc.specs.declared.message.Message.TheVariants as message
use Rattle.kad_krpc.specs.declared.message.Ask.TheVariants.{FindNode, GetPeers, Get}
use Rattle.kad_krpc.specs.declared.message.Want.{Want}
pub use Rattle.kad_records.specs.Records.{peers_value, IsV4, IsNode, IsNodeOf, HasProof, IsProved, IsProvedOf}
pub use Rattle.kad_krpc.specs.Fields.{IsCarried, pair, maybe, Each}
pub use Rattle.kad_krpc.specs.Answering.{nodes_value, snodes_value, answer_pairs, BearsForm, IsWritableAnswer}
pub use Rattle.kad_krpc.specs.Asking.{announced, arguments_of, two_ids, proof_value, proof_pair, want_pair, name_of, read_only_pair, IsGivenPort, IsUnknown, is_mutable_ask, CarriesForm, IsPutting, IsBare, IsWritableAsk}

-- the pairs of the message's dictionary
abbrev pub message_pairs : Message → List (Pair Value)
message_pairs (message.Query tx read_only proof ask) =
    pair (codes "a") (Dict (arguments_of proof ask))
    ++ pair (codes "q") (Text (name_of ask))
    ++ read_only_pair read_only
    ++ pair (codes "t") (Text tx)
    ++ pair (codes "y") (Text (codes "q"))
message_pairs (message.Answer tx answer) =
    pair (codes "r") (Dict (answer_pairs answer))
    ++ pair (codes "t") (Text tx)
    ++ pair (codes "y") (Text (codes "r"))
message_pairs (message.Fault tx code said) =
    pair (codes "e") (Values (Int code ∷ Text said ∷ []))
    ++ pair (codes "t") (Text tx)
    ++ pair (codes "y") (Text (codes "e"))

-- the written form
unfoldable pub form : Message → List ℕ
form m = text_of (Dict (message_pairs m))

-- the value that a message carries, where it carries one, is given by its written form
abbrev pub HasForms : Message → Type 0
HasForms (message.Query tx read_only proof ask) = CarriesForm ask
HasForms (message.Answer tx answer) = BearsForm answer
HasForms (message.Fault tx code text) = Unit {0}

-- whether a message puts a mutable item (BEP 44), which no message is written of
abbrev pub is_mutable : Message → Bool
is_mutable (message.Query tx read_only proof ask) = is_mutable_ask ask
is_mutable (message.Answer tx answer) = false
is_mutable (message.Fault tx code text) = false

-- the message has a written form that is read back; an error message always has one
abbrev pub IsWritable : Message → Type 0
IsWritable (message.Query tx read_only proof ask) = IsWritableAsk proof ask
IsWritable (message.Answer tx answer) = IsWritableAnswer answer
IsWritable (message.Fault tx code text) = Unit {0}

-- ---- the queries of a lookup

-- the text of the pair of a proof
unfoldable pub proof_text : Option Proof → List ℕ
proof_text proof = pairs_text (pairs_of (proof_pair proof))

-- contacts of IPv6 alone are wanted, or nothing is said (BEP 32)
abbrev pub only : Bool → Want
only six = record { four = false; six = six }

-- the find_node query, whose transaction id is the bytes of a word, in the network of IPv6 or not, read-only or not (BEP
-- 43), with the proof of who asks or without
abbrev pub find_node_query : Id → Id → Bool → Bool → Option Proof → ℕ → Message
find_node_query own target six read_only proof tx = message.Query (word_bytes tx) read_only proof (FindNode own target (only six))

-- the get_peers query, in the same way
abbrev pub get_peers_query : Id → Id → Bool → Bool → Option Proof → ℕ → Message
get_peers_query own info_hash six read_only proof tx = message.Query (word_bytes tx) read_only proof (GetPeers own info_hash (only six))

-- the get query (BEP 44), in the same way
abbrev pub get_query : Id → Id → Bool → Bool → Option Proof → ℕ → Message
get_query own target six read_only proof tx = message.Query (word_bytes tx) read_only proof (Get own target (only six))
