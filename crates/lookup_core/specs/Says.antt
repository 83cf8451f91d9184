-- What a datagram says, to whatever query.
use Rattle.std.specs.Prelude.{◌≡◌, ◌≢◌, ℕ, ◌^◌, ◌<◌, List}
use Rattle.kad_base.specs.Words.{word_bytes}
use Rattle.kad_krpc.specs.declared.message.Message.{Message}
use Rattle.kad_krpc.specs.Reading.{Says}
use Rattle.kad_bencode.specs.Spelling.{Spells}
use Rattle.lookup_core.specs.declared.reply.SaidView.{SaidView}
use Rattle.lookup_core.specs.Reply.{Reply, Said, said_seen}
use Rattle.lookup_core.specs.Matching.{SaysTo}
use Rattle.lookup_core.specs.Quest.{IsBelievable}

-- no word has these four bytes
abbrev pub IsNoId : List ℕ → Type 0
IsNoId bytes = (w : ℕ) → w < 2 ^ 32 → bytes ≢ word_bytes w

-- the message says nothing to whatever query
abbrev pub SaysNothing : Message → Type 0
SaysNothing m = (w : ℕ) (r : Reply) → w < 2 ^ 32 → ¬ SaysTo (word_bytes w) m r

-- it says this, and nothing else
pub record SaysAll (m : Message) (said : Said) : Type 0 where
  pub says_it : SaysTo (word_bytes said.tx) m said.reply
  pub same_id : (w : ℕ) (r : Reply) → w < 2 ^ 32 → SaysTo (word_bytes w) m r → w ≡ said.tx
  pub same_reply : (w : ℕ) (r : Reply) → w < 2 ^ 32 → SaysTo (word_bytes w) m r → r ≡ said.reply

-- the datagram replies to the query of this transaction id, whoever sent it
pub record RepliesTo (bytes : List ℕ) (w : ℕ) (r : Reply) : Type 0 where
  pub believable : IsBelievable bytes
  pub message : Message
  pub says : Says bytes message
  pub to_query : SaysTo (word_bytes w) message r

-- the datagram replies to no query, whatever its transaction id
abbrev pub IsNoReply : List ℕ → Type 0
IsNoReply bytes = (w : ℕ) (r : Reply) → w < 2 ^ 32 → ¬ RepliesTo bytes w r

-- the datagram replies to this transaction id alone, and says this reply alone
pub record IsReply (bytes : List ℕ) (said : Said) : Type 0 where
  pub replies : RepliesTo bytes said.tx said.reply
  pub same_id : (w : ℕ) (r : Reply) → w < 2 ^ 32 → RepliesTo bytes w r → w ≡ said.tx
  pub same_reply : (w : ℕ) (r : Reply) → w < 2 ^ 32 → RepliesTo bytes w r → r ≡ said.reply

-- the reply was read in the datagram: the value that it spells, and what that says
pub record IsRead (bytes : List ℕ) (said : SaidView) : Type 0 where
  pub spelled : Spells bytes said.top
  pub says : IsReply bytes (said_seen said)
