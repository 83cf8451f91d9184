-- What a datagram is to a ping, by what it says.
use Rattle.std.proofs.Common.{◌≡◌, ◌≢◌, ◌^◌, ◌<◌, ℕ, List, Bool, sym, subst}
use Rattle.kad_base.specs.declared.types.Addr.{Addr}
use Rattle.query_book.specs.declared.Query.{Query}
use Rattle.lookup_core.specs.Matching.{SaysTo}
use Rattle.kad_base.specs.Words.{word_bytes}
use Rattle.lookup_core.specs.Reply.{Reply, Said}
use Rattle.lookup_core.specs.Says.{IsReply, IsNoReply, RepliesTo}
use Rattle.lookup_core.specs.Sealed.{Accepts, IsSealed, speaker}
use Rattle.table_refresh.specs.Refreshed.{IsMatched, IsStray}

-- what is matched replies to the ping's transaction id
to_ping : (sealed : Bool) (accepts : Accepts) (q : Query) (from : Addr) (bytes : List ℕ) (r : Reply) → IsMatched sealed accepts q from bytes r → RepliesTo bytes q.tx r
to_ping sealed accepts q from bytes r h = record { believable = h.believable; message = h.said; says = h.says; to_query = h.to_query }

-- so is what is no reply
pub stray_silent : (sealed : Bool) (accepts : Accepts) (q : Query) (from : Addr) (bytes : List ℕ) → q.tx < 2 ^ 32 → IsNoReply bytes → IsStray sealed accepts q from bytes
stray_silent sealed accepts q from bytes small none r h = none q.tx r small (to_ping sealed accepts q from bytes r h)

-- what replies to another query
pub stray_other : (sealed : Bool) (accepts : Accepts) (q : Query) (from : Addr) (bytes : List ℕ) (said : Said) → q.tx < 2 ^ 32 → IsReply bytes said → said.tx ≢ q.tx → IsStray sealed accepts q from bytes
stray_other sealed accepts q from bytes said small reads other r h = other (sym (reads.same_id q.tx r small (to_ping sealed accepts q from bytes r h)))

-- and a reply without the tag that is asked for
pub stray_untagged : (sealed : Bool) (accepts : Accepts) (q : Query) (from : Addr) (bytes : List ℕ) (said : Said) → q.tx < 2 ^ 32 → IsReply bytes said → ¬ IsSealed sealed accepts bytes (speaker q.contact said.reply) → IsStray sealed accepts q from bytes
stray_untagged sealed accepts q from bytes said small reads lacks r h =
    lacks (subst (λ x. IsSealed sealed accepts bytes (speaker q.contact x)) (reads.same_reply q.tx r small (to_ping sealed accepts q from bytes r h)) h.sealed)

-- any other is matched
pub matched_ping : (sealed : Bool) (accepts : Accepts) (q : Query) (from : Addr) (bytes : List ℕ) (said : Said) → from ≡ q.contact.addr → said.tx ≡ q.tx → IsReply bytes said → IsSealed sealed accepts bytes (speaker q.contact said.reply) → IsMatched sealed accepts q from bytes said.reply
matched_ping sealed accepts q from bytes said source same reads has =
    let replies = reads.replies in
    record { believable = replies.believable; said = replies.message; says = replies.says; to_query = subst (λ w. SaysTo (word_bytes w) replies.message said.reply) same replies.to_query; source = source; sealed = has }
