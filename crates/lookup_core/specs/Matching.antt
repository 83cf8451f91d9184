-- Which datagrams reply to a lookup's open queries, and what a reply gives to its journal. Answers and error messages are
-- matched to queries by transaction id and source address (BEP 5).
use Rattle.std.specs.Prelude.{◌≡◌, ◌≢◌, ◌⊎◌, ℕ, Bool, List, ◌∷◌, ◌++◌, map, Contains}
use Rattle.kad_base.specs.declared.types.Addr.{Addr}
use Rattle.kad_base.specs.declared.types.Contact.{Contact}
use Rattle.kad_base.specs.Words.{word_bytes}
use Rattle.kad_krpc.specs.declared.message.Answer.{Answer}
use Rattle.kad_krpc.specs.declared.message.Message.{Message}
use Rattle.kad_krpc.specs.declared.message.Message.TheVariants as message
use Rattle.kad_krpc.specs.Form.{form}
use Rattle.kad_krpc.specs.Reading.{Says}
use Rattle.query_book.specs.declared.Query.{Query}
use Rattle.query_book.specs.Queries.{IsFirstFree}
use Rattle.claim_book.specs.declared.types.Cause.TheVariants.{WrongId, Error}
use Rattle.claim_book.specs.declared.types.Entry.{Entry}
use Rattle.claim_book.specs.declared.types.Entry.TheVariants.{Heard, Lost}
use Rattle.lookup_core.specs.declared.quest.Quest.{Quest}
use Rattle.lookup_core.specs.Reply.{Reply}
use Rattle.lookup_core.specs.Reply as reply
use Rattle.lookup_core.specs.Quest.{query_message, reports_of, IsBelievable}
use Rattle.lookup_core.specs.Sealed.{Accepts, IsSealed, speaker}

-- an open query: the path and the contact of its Ask, its transaction id and its deadline
pub record OpenQuery : Type 0 where
  pub path : ℕ
  pub contact : Contact
  pub tx : ℕ
  pub deadline : ℕ

-- an open query without its path
abbrev pub query_of : OpenQuery → Query
query_of q = record { tx = q.tx; contact = q.contact; deadline = q.deadline }

-- the datagram is the written form of the lookup's query, to the contact and under the first free transaction id from the
-- drawn word on
pub record IsQuery (quest : Quest) (queries : List OpenQuery) (drawn : ℕ) (to : Addr) (bytes : List ℕ) (c : Contact) (tx : ℕ) : Type 0 where
  pub address : to ≡ c.addr
  pub id : IsFirstFree (map query_of queries) drawn tx
  pub form : bytes ≡ form (query_message quest tx)

-- what a message says to the query with this transaction id: an answer, or an error message with its code (BEP 5); a
-- query says nothing to it
abbrev pub SaysTo : List ℕ → Message → Reply → Type 0
SaysTo id (message.Query tx read_only proof ask) r = ⊥
SaysTo id (message.Answer tx answer) r = (tx ≡ id) × (r ≡ reply.Answer answer)
SaysTo id (message.Fault tx code text) r = (tx ≡ id) × (r ≡ reply.Error code)

-- What is accepted as a reply to a query: it may be believed, says an answer or an error
-- message with the query's transaction id, and comes from the query's address (BEP 5); where tags are asked for it carries one
-- of who says it, too (this project's own).
pub record IsReplyTo (asks_seal : Bool) (accepts : Accepts) (bytes : List ℕ) (from : Addr) (q : Query) (r : Reply) : Type 0 where
  pub believable : IsBelievable bytes
  pub said : Message
  pub says : Says bytes said
  pub to_query : SaysTo (word_bytes q.tx) said r
  pub source : from ≡ q.contact.addr
  pub sealed : IsSealed asks_seal accepts bytes (speaker q.contact r)

-- what a lookup accepts as a reply to one of its open queries
abbrev pub Replies : Quest → Accepts → List ℕ → Addr → OpenQuery → Reply → Type 0
Replies quest accepts bytes from q r = IsReplyTo quest.sealed accepts bytes from (query_of q) r

-- an answer in the contact's own name is heard, and one in another name loses the contact
abbrev pub AnswerGives : Quest → OpenQuery → Answer → Entry → Type 0
AnswerGives quest q answer e =
    ((answer.id ≡ q.contact.id) × (e ≡ Heard q.path q.contact (reports_of quest answer)))
    ⊎ ((answer.id ≢ q.contact.id) × (e ≡ Lost q.path q.contact WrongId))

-- what a reply gives: an error message loses the contact, with its code
abbrev pub ReplyGives : Quest → OpenQuery → Reply → Entry → Type 0
ReplyGives quest q (reply.Answer answer) e = AnswerGives quest q answer e
ReplyGives quest q (reply.Error code) e = e ≡ Lost q.path q.contact (Error code)

-- the datagram is matched: it replies to one of the open queries, which it closes
pub record Matched (quest : Quest) (accepts : Accepts) (opens : List OpenQuery) (from : Addr) (bytes : List ℕ) (e : Entry) (left : List OpenQuery) : Type 0 where
  pub before : List OpenQuery
  pub query : OpenQuery
  pub behind : List OpenQuery
  pub what : Reply
  pub queries : opens ≡ before ++ query ∷ behind
  pub replies : Replies quest accepts bytes from query what
  pub entry : ReplyGives quest query what e
  pub closes : left ≡ before ++ behind

-- the datagram is a stray: it replies to no open query
abbrev pub IsStray : Quest → Accepts → List OpenQuery → Addr → List ℕ → Type 0
IsStray quest accepts opens from bytes = (q : OpenQuery) → Contains opens q → (r : Reply) → ¬ Replies quest accepts bytes from q r
