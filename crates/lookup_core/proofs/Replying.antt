-- What a datagram says, and that it says nothing else.
use Rattle.std.proofs.Common.{◌≡◌, ℕ, Bool, ◌+◌, ◌*◌, ◌^◌, ◌<◌, ◌≤◌, List, length, get_or, Option, Some, None, Result, Ok, Err, refl, sym, ap, subst, ◌∙◌, arith, w32}
use Rattle.std.specs.Prelude.{IfSome, MatchOption, ℤ}
use Rattle.std.specs.Int.{from_le_bytes}
use Rattle.std.proofs.lemmas.Nat.{from_le_bytes-to_le_bytes_4, le_bytes_4}
use Rattle.kad_base.specs.Limits.{max_datagram}
use Rattle.kad_base.specs.Words.{word_bytes}
use Rattle.kad_bencode.specs.Spelling.{Spells}
use Rattle.kad_bencode.specs.declared.value.Value.{Value}
use Rattle.kad_krpc.specs.declared.message.Answer.{Answer}
use Rattle.kad_krpc.specs.declared.message.Message.{Message}
use Rattle.kad_krpc.specs.declared.message.Message.TheVariants as message
use Rattle.kad_krpc.specs.declared.message.KrpcFault.{KrpcFault}
use Rattle.kad_krpc.specs.Reading.{Says}
use Rattle.kad_krpc.proofs.ReadBack.{one_said}
use Rattle.query_book.specs.declared.Query.{Query}
use Rattle.kad_base.specs.declared.types.Addr.{Addr}
use Rattle.lookup_core.specs.Reply.{Reply, said_seen}
use Rattle.lookup_core.specs.Reply as reply
use Rattle.lookup_core.specs.Matching.{SaysTo, IsReplyTo}
use Rattle.lookup_core.specs.Sealed.{Accepts}
use Rattle.lookup_core.specs.declared.reply.SaidView.{SaidView}
use Rattle.lookup_core.specs.Says.{SaysAll, SaysNothing, IsNoReply, IsRead}

-- a word has its own four bytes
pub word_same : (v w : ℕ) → v < 2 ^ 32 → w < 2 ^ 32 → word_bytes v ≡ word_bytes w → v ≡ w
unfolding word_bytes
word_same v w a b e = sym (from_le_bytes-to_le_bytes_4 v a) ∙ ap (from_le_bytes w32) e ∙ from_le_bytes-to_le_bytes_4 w b

-- four bytes are those of a word
pub four_bytes : (bytes : List ℕ) (w : ℕ) → length bytes ≡ 4 → ((i : ℕ) → get_or bytes i 0 < 256) → w ≡ get_or bytes 0 0 + get_or bytes 1 0 * 256 + get_or bytes 2 0 * 65536 + get_or bytes 3 0 * 16777216 → bytes ≡ word_bytes w
unfolding word_bytes
four_bytes bytes w len small is = sym (le_bytes_4 bytes w len small is)

pub says_answer : (tx : List ℕ) (answer : Answer) (w : ℕ) → w < 2 ^ 32 → tx ≡ word_bytes w → SaysAll (message.Answer tx answer) (record { tx = w; reply = reply.Answer answer })
says_answer tx answer w lt e = record {
  says_it = (e, refl);
  same_id = λ v r small h. word_same v w small lt (sym h.0 ∙ e);
  same_reply = λ v r small h. h.1;
}

pub says_fault : (tx text : List ℕ) (code : ℤ) (w : ℕ) → w < 2 ^ 32 → tx ≡ word_bytes w → SaysAll (message.Fault tx code text) (record { tx = w; reply = reply.Error code })
says_fault tx text code w lt e = record {
  says_it = (e, refl);
  same_id = λ v r small h. word_same v w small lt (sym h.0 ∙ e);
  same_reply = λ v r small h. h.1;
}

same_ok : (x y : Message) → ◌≡◌ {A = Result Message KrpcFault} (Ok x) (Ok y) → x ≡ y
same_ok x y e = cc

-- what the message says the datagram says
pub view_read : (bytes : List ℕ) (top : Value) (m : Message) (o : Option SaidView) → length bytes ≤ max_datagram → Spells bytes top → Says bytes m
    → ((other : Message) → Says bytes other → ◌≡◌ {A = Result Message KrpcFault} (Ok m) (Ok other))
    → MatchOption o (SaysNothing m) (λ said. SaysAll m (said_seen said)) → IfSome o (λ said. said.top ≡ top) → MatchOption o (IsNoReply bytes) (IsRead bytes)
view_read bytes top m None believable spells says once nothing is = λ w r lt h. nothing w r lt (subst (λ x. SaysTo (word_bytes w) x r) (sym (same_ok m h.message (once h.message h.says))) h.to_query)
view_read bytes top m (Some said) believable spells says once all is = record {
  spelled = subst (Spells bytes) (sym is) spells;
  says = record {
    replies = record { believable = believable; message = m; says = says; to_query = all.says_it };
    same_id = λ w r lt h. all.same_id w r lt (subst (λ x. SaysTo (word_bytes w) x r) (sym (same_ok m h.message (once h.message h.says))) h.to_query);
    same_reply = λ w r lt h. all.same_reply w r lt (subst (λ x. SaysTo (word_bytes w) x r) (sym (same_ok m h.message (once h.message h.says))) h.to_query);
  };
}

-- what is refused says nothing
pub refused_read : (bytes : List ℕ) (fault : KrpcFault) → ((m : Message) → Says bytes m → ◌≡◌ {A = Result Message KrpcFault} (Err fault) (Ok m)) → IsNoReply bytes
refused_read bytes fault only w r lt h = (let e = only h.message h.says in absurd cc)

-- nor does what is too long
pub too_long : (bytes : List ℕ) → max_datagram < length bytes → IsNoReply bytes
too_long bytes long w r lt h = (let few = h.believable in absurd (omega (arith, few, long)))

-- ---- a datagram says one thing, to one id

said_once : (m : Message) (x y : List ℕ) (r t : Reply) → SaysTo x m r → SaysTo y m t → (x ≡ y) × (r ≡ t)
said_once (message.Query tx read_only proof ask) x y r t h k = absurd h
said_once (message.Answer tx answer) x y r t h k = (sym h.0 ∙ k.0, h.1 ∙ sym k.1)
said_once (message.Fault tx code text) x y r t h k = (sym h.0 ∙ k.0, h.1 ∙ sym k.1)

pub one_reply : (sealed : Bool) (accepts : Accepts) (bytes : List ℕ) (from : Addr) (p q : Query) (r t : Reply) → IsReplyTo sealed accepts bytes from p r → IsReplyTo sealed accepts bytes from q t → (word_bytes p.tx ≡ word_bytes q.tx) × (r ≡ t)
one_reply sealed accepts bytes from p q r t h k =
    let one = one_said bytes h.said k.said h.says k.says in
    said_once k.said (word_bytes p.tx) (word_bytes q.tx) r t (subst (λ m. SaysTo (word_bytes p.tx) m r) one h.to_query) k.to_query
