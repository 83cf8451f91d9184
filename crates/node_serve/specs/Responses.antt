-- What answering a query does to whoever holds the table, the peers and the items: which calls were made, in order, and the
-- reply that their replies give. What one call makes of the holder is a parameter.
use Rattle.std.specs.Prelude.{◌≡◌, ℕ, List, [], ◌∷◌, ◌++◌, map, Option, Some, None}
use Rattle.std.specs.List.{All}
use Rattle.kad_krpc.specs.Asking.{proof_of}
use Rattle.kad_krpc.specs.Views.{ask_seen}
use Rattle.contact_table.specs.TableStep.{TableMay}
use Rattle.contact_table.specs.Told.{HasMemory}
use Rattle.contact_table.specs.declared.calls.TableCall.{TableCall}
use Rattle.contact_table.specs.declared.calls.TableReply.{TableReply}
use Rattle.contact_table.specs.declared.calls.TableReply.TheVariants.{NoMemory}
use Rattle.node_serve.specs.AnswerOf.{notify_by}
use Rattle.node_serve.specs.Calls.{Did, on_table, HadMemory, call_of, reply_of, calls_of, answer_with}
use Rattle.node_serve.specs.Gains.{IsFor, MayFail, FailsBy, did_for, wants_of}
use Rattle.node_serve.specs.Holding.{Runs}
use Rattle.node_serve.specs.Sealing.{Tags, sent_form}
use Rattle.node_serve.specs.declared.asked.Asked.{Asked}
use Rattle.node_serve.specs.declared.composing.Gained.{Gained}
use Rattle.node_serve.specs.declared.planning.Wants.{Wants}
use Rattle.node_serve.specs.declared.setting.ServeSetting.{ServeSetting}

-- ---- the whole

-- the text is what is sent for the reply to the query
pub record RepliesTo {S : Type 0} (does : S → Did → S → Type 0) (tag_of : Tags) (s : ServeSetting) (asked : Asked) (at : ℕ) (text : List ℕ) (old new : S) : Type 0 where
  pub did : List Did
  pub calls : map call_of did ≡ calls_of s asked.from at asked.read_only (proof_of asked.arguments) (ask_seen asked.ask)
  pub memory : All HadMemory did
  pub written : text ≡ sent_form tag_of s.sealed s.own (answer_with s asked.from at asked.tx.now (ask_seen asked.ask) (map reply_of did))
  pub run : Runs does old did new

-- how far the calls came where memory ran out: to none; to one for what is wanted that found none; to all of these, and
-- there was none for the reply; or to all of these, and the table had none for the asker
pub data Ends (s : ServeSetting) (asked : Asked) (at : ℕ) (did : List Did) : Type 0 where
  unasked : did ≡ [] → Ends s asked at did
  gathering : FailsBy s at (wants_of s asked.from at (ask_seen asked.ask)) did → Ends s asked at did
  composing : (g : Gained) → IsFor (wants_of s asked.from at (ask_seen asked.ask)) g → MayFail g → did ≡ did_for s at (wants_of s asked.from at (ask_seen asked.ask)) g → Ends s asked at did
  telling : (call : TableCall) (g : Gained) → notify_by s.policy asked.read_only (proof_of asked.arguments) (ask_seen asked.ask) asked.from ≡ Some call → IsFor (wants_of s asked.from at (ask_seen asked.ask)) g
      → did ≡ did_for s at (wants_of s asked.from at (ask_seen asked.ask)) g ++ on_table call NoMemory ∷ [] → Ends s asked at did

-- there was no memory for the answer to the query
pub record StopsAt {S : Type 0} (does : S → Did → S → Type 0) (s : ServeSetting) (asked : Asked) (at : ℕ) (old new : S) : Type 0 where
  pub did : List Did
  pub ends : Ends s asked at did
  pub run : Runs does old did new

-- ---- the parts of it

-- the calls for what is wanted were made, and this is what they gave
pub record Gathers {S : Type 0} (does : S → Did → S → Type 0) (s : ServeSetting) (at : ℕ) (wants : Wants) (g : Gained) (old new : S) : Type 0 where
  pub fits : IsFor wants g
  pub run : Runs does old (did_for s at wants g) new

-- one of these calls found no memory
pub record Fails {S : Type 0} (does : S → Did → S → Type 0) (s : ServeSetting) (at : ℕ) (wants : Wants) (old new : S) : Type 0 where
  pub did : List Did
  pub fails : FailsBy s at wants did
  pub run : Runs does old did new

-- any role may tell the table so
abbrev pub MayTell : Option TableCall → Type 0
MayTell None = Unit {0}
MayTell (Some call) = (role : ℕ) → TableMay role call

-- the table was told of the asker, where it is to be told
abbrev pub Tells : {S : Type 0} → (S → Did → S → Type 0) → Option TableCall → S → S → Type 0
Tells does None old new = new ≡ old
Tells does (Some call) old new = (reply : TableReply) × HasMemory reply × does old (on_table call reply) new

-- it had no memory for it
abbrev pub TellsNot : {S : Type 0} → (S → Did → S → Type 0) → Option TableCall → S → S → Type 0
TellsNot does None old new = ⊥
TellsNot does (Some call) old new = does old (on_table call NoMemory) new
