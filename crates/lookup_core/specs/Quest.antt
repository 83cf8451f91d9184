-- What a lookup asks, and what of an answer it believes.
use Rattle.std.specs.Prelude.{ℕ, ◌≤◌, List, [], length, take, map, Option, Some, None, Bool, true, false, cond}
use Rattle.kad_base.specs.declared.types.Id.{Id}
use Rattle.kad_base.specs.declared.types.Contact.{Contact}
use Rattle.kad_base.specs.declared.types.Family.{Family}
use Rattle.kad_base.specs.declared.types.Family.TheVariants.{Four, Six}
use Rattle.kad_base.specs.declared.types.Proof.{Proof}
use Rattle.kad_base.specs.declared.types.Report.{Report}
use Rattle.kad_base.specs.declared.types.Policy.{Policy}
use Rattle.kad_base.specs.declared.types.Policy.TheVariants.{Plain, Puzzled}
use Rattle.kad_base.specs.Limits.{max_reports, max_datagram}
use Rattle.kad_krpc.specs.declared.message.Answer.{Answer}
use Rattle.kad_krpc.specs.declared.message.Message.{Message}
use Rattle.kad_krpc.specs.Form.{find_node_query, get_peers_query, get_query}
use Rattle.lookup_core.specs.declared.quest.AskKind.{AskKind}
use Rattle.lookup_core.specs.declared.quest.AskKind.TheVariants.{FindNode, GetPeers, GetItem}
use Rattle.lookup_core.specs.declared.quest.Quest.{Quest}

-- whether it is the network of IPv6
abbrev pub is_six : Family → Bool
is_six Four = false
is_six Six = true

-- the proof that a query brings: none if it is read-only
abbrev pub brought : Bool → Option Proof → Option Proof
brought read_only proof = cond read_only None proof

-- the query of each kind (BEP 5, BEP 44), which asks for contacts of IPv6 or says nothing of whose (BEP 32), is read-only
-- or not (BEP 43), and brings this proof of who asks, or none
abbrev pub message_of : AskKind → Id → Id → Bool → Bool → Option Proof → ℕ → Message
message_of FindNode own target six read_only proof tx = find_node_query own target six read_only proof tx
message_of GetPeers own target six read_only proof tx = get_peers_query own target six read_only proof tx
message_of GetItem own target six read_only proof tx = get_query own target six read_only proof tx

-- the query that a lookup sends
abbrev pub query_message : Quest → ℕ → Message
query_message quest tx = message_of quest.kind quest.own quest.target (is_six quest.family) quest.read_only (brought quest.read_only quest.proof) tx

-- a contact as a report without a proof
abbrev pub bare : Contact → Report
bare c = record { contact = c; proof = None }

-- the members of a list that may be missing
abbrev pub part_of : {A : Type 0} → Option (List A) → List A
part_of None = []
part_of (Some items) = items

-- the reports that an answer gives: the first 16 contacts of `nodes` (BEP 5), without proofs; where the lookup wants
-- proofs the first 16 of `snodes` alone (this project's own key). In the network of IPv6 those of `nodes6` (BEP 32), or of
-- `snodes6` alone (this project's own key). None where that part is missing
abbrev pub reports_by : Family → Policy → Answer → List Report
reports_by Four Plain answer = map bare (take max_reports (part_of answer.nodes))
reports_by Four (Puzzled c1 c2) answer = take max_reports (part_of answer.snodes)
reports_by Six Plain answer = map bare (take max_reports (part_of answer.nodes6))
reports_by Six (Puzzled c1 c2) answer = take max_reports (part_of answer.snodes6)

-- the reports that a lookup believes
abbrev pub reports_of : Quest → Answer → List Report
reports_of quest answer = reports_by quest.family quest.policy answer

-- what a datagram must meet to be believed, whatever it says and to which query: it is short enough to be read (this project's
-- own limit)
abbrev pub IsBelievable : List ℕ → Type 0
IsBelievable bytes = length bytes ≤ max_datagram
