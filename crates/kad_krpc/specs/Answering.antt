-- The dictionary `r` of an answer (BEP 5, BEP 32, BEP 44; `snodes`, `snodes6` and the order of the steps are this project's
-- own): how it is read, how it is written, and which answers have a written form. A key more is a line in each part.
use Rattle.std.specs.Prelude.{List, ◌++◌, codes, Option, option_copied, option_map, IfSome, Result, Ok, Err}
use Rattle.kad_base.specs.declared.types.Addr.{Addr}
use Rattle.kad_base.specs.declared.types.Contact.{Contact}
use Rattle.kad_base.specs.declared.types.Family.TheVariants.{Four, Six}
use Rattle.kad_base.specs.declared.types.Report.{Report}
use Rattle.kad_bencode.specs.Naming.{named}
use Rattle.kad_bencode.specs.Parts.{bytes_of, list_of}
use Rattle.kad_bencode.specs.Spelling.{text_of}
use Rattle.kad_bencode.specs.declared.entries.Pair.{Pair}
use Rattle.kad_bencode.specs.declared.value.Value.{Value}
use Rattle.kad_bencode.specs.declared.value.Value.TheVariants.{Text}
use Rattle.kad_krpc.specs.declared.message.Answer.{Answer}
use Rattle.kad_krpc.specs.declared.message.Key.TheVariants as key
use Rattle.kad_krpc.specs.declared.message.KrpcFault.{KrpcFault}
use Rattle.kad_krpc.specs.declared.answer.AnswerView.{AnswerView}
use Rattle.kad_records.specs.Records.{nodes_bytes, snodes_bytes, peers_value, node_in, proved_in, IsNodeOf, IsProvedOf, IsWellId, IsWellAddr, IsWellContact, IsWellReport}
use Rattle.kad_krpc.specs.Fields.{Step, Look, then, needed, optional, id_of, records_by, peers_in, IsCarried, pair, maybe, Each}

-- ---- read

-- the value of `nodes`: records of 26 bytes, if it is there
abbrev pub nodes_by : Option Value → Step (Option (List Contact))
nodes_by nodes = records_by 26 (node_in Four) key.Nodes nodes

-- the value of `snodes`: records of 78 bytes, if it is there (this project's own)
abbrev pub snodes_by : Option Value → Step (Option (List Report))
snodes_by snodes = records_by 78 (proved_in Four) key.Snodes snodes

-- the value of `nodes6`: records of 38 bytes, if it is there (BEP 32)
abbrev pub nodes6_by : Option Value → Step (Option (List Contact))
nodes6_by nodes6 = records_by 38 (node_in Six) key.Nodes6 nodes6

-- the value of `snodes6`: records of 90 bytes, if it is there (this project's own)
abbrev pub snodes6_by : Option Value → Step (Option (List Report))
snodes6_by snodes6 = records_by 90 (proved_in Six) key.Snodes6 snodes6

-- the value of `values`: peers, if it is there
abbrev pub values_by : Option Value → Step (Option (List Addr))
values_by values = then (optional list_of key.Values values) (λ values. Ok (peers_in values))

-- an answer, by the values of its eight keys; who answered comes first. The value of `v` is of any kind, so its step never
-- fails
abbrev pub answer_by : Option Value → Option Value → Option Value → Option Value → Option Value → Option Value → Option Value → Option Value → Step Answer
answer_by id nodes snodes nodes6 snodes6 token v values =
    then (needed id_of key.Id id) (λ id.
    then (nodes_by nodes) (λ nodes.
    then (snodes_by snodes) (λ snodes.
    then (nodes6_by nodes6) (λ nodes6.
    then (snodes6_by snodes6) (λ snodes6.
    then (optional bytes_of key.Token token) (λ token.
    then (values_by values) (λ values.
    Ok (record { id = id; nodes = nodes; snodes = snodes; nodes6 = nodes6; snodes6 = snodes6; token = token; v = option_map text_of v; values = values }))))))))

-- the answer that a dictionary says
abbrev pub answer_at : Look → Step Answer
answer_at r = answer_by (r (codes "id")) (r (codes "nodes")) (r (codes "snodes")) (r (codes "nodes6")) (r (codes "snodes6")) (r (codes "token")) (r (codes "v")) (r (codes "values"))

-- ---- written

-- a string of the records of the nodes, one after another (compact node info)
abbrev pub nodes_value : List Contact → Value
nodes_value nodes = Text (nodes_bytes nodes)

-- the same of nodes with their proofs (this project's own)
abbrev pub snodes_value : List Report → Value
snodes_value snodes = Text (snodes_bytes snodes)

-- the `r` of an answer: who answered, and those of its parts that it has
abbrev pub answer_pairs : Answer → List (Pair Value)
answer_pairs answer =
    pair (codes "id") (Text answer.id.0)
    ++ maybe (codes "nodes") nodes_value answer.nodes
    ++ maybe (codes "nodes6") nodes_value answer.nodes6
    ++ maybe (codes "snodes") snodes_value answer.snodes
    ++ maybe (codes "snodes6") snodes_value answer.snodes6
    ++ maybe (codes "token") Text answer.token
    ++ maybe (codes "v") named answer.v
    ++ maybe (codes "values") peers_value answer.values

-- ---- which answers there are

-- what an answer carries is the written form of a value
abbrev pub BearsForm : Answer → Type 0
BearsForm answer = IfSome answer.v IsCarried

-- each part of the answer has a written form: the records of a key have a place for the addresses of one family
pub record IsWritableAnswer (answer : Answer) : Type 0 where
  pub nodes : Each (IsNodeOf Four) answer.nodes
  pub snodes : Each (IsProvedOf Four) answer.snodes
  pub nodes6 : Each (IsNodeOf Six) answer.nodes6
  pub snodes6 : Each (IsProvedOf Six) answer.snodes6
  pub v : BearsForm answer

-- each part of an answer has arrays and numbers as its types have them
pub record IsWellAnswer (answer : Answer) : Type 0 where
  pub id : IsWellId answer.id
  pub nodes : Each IsWellContact answer.nodes
  pub snodes : Each IsWellReport answer.snodes
  pub nodes6 : Each IsWellContact answer.nodes6
  pub snodes6 : Each IsWellReport answer.snodes6
  pub values : Each IsWellAddr answer.values

-- ---- where it stands in its datagram

-- what a view gives
abbrev pub answer_seen : AnswerView → Answer
answer_seen a = record { id = a.id; nodes = a.nodes; snodes = a.snodes; nodes6 = a.nodes6; snodes6 = a.snodes6; token = option_copied a.token; v = option_map text_of a.v; values = peers_in a.values }

-- what was answered, by a view of it, or the refusal
abbrev pub answered : Result AnswerView KrpcFault → Step Answer
answered (Ok x) = Ok (answer_seen x)
answered (Err fault) = Err fault
