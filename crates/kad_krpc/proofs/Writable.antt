-- What is said has a written form, unless it puts a mutable item: the addresses of its records are of the family of their
-- key, its ports aren't 0, its unknown methods are unknown, and the values that it carries are within the limits.
use Rattle.std.proofs.Common.{◌≡◌, ℕ, List, [], ◌∷◌, false, Option, None, refl, subst}
use Rattle.std.specs.Prelude.{codes}
use Rattle.kad_bencode.specs.Faults.{InList}
use Rattle.kad_bencode.specs.Parts.{bytes_of}
use Rattle.kad_bencode.specs.declared.value.Value.{Value}
use Rattle.kad_krpc.specs.declared.message.Message.{Message}
use Rattle.kad_krpc.specs.declared.message.Message.TheVariants as message
use Rattle.kad_krpc.specs.declared.message.Ask.{Ask}
use Rattle.kad_krpc.specs.declared.message.Ask.TheVariants.{Ping, FindNode, GetPeers, AnnouncePeer, Get, Put, Other}
use Rattle.kad_krpc.specs.declared.message.Kind.{Kind}
use Rattle.kad_krpc.specs.declared.message.Kind.TheVariants as kind
use Rattle.kad_krpc.specs.declared.message.Key.TheVariants as key
use Rattle.kad_krpc.specs.Fields.{Look, of_kind, needed, look_of}
use Rattle.kad_krpc.specs.Asking.{ask_by, method_in, proof_of, arguments_read, is_mutable_ask, CarriesForm, IsWritableAsk}
use Rattle.kad_krpc.specs.Answering.{answer_at, IsWritableAnswer}
use Rattle.kad_krpc.specs.Form.{HasForms, IsWritable, is_mutable}
use Rattle.kad_krpc.specs.Reading.{kind_of, code_text_of, body_at, said, Says}
use Rattle.kad_krpc.proofs.Stepping.{Gets, Any, any, after}
use Rattle.kad_bencode.proofs.Formed.{IsSound}
use Rattle.kad_bencode.proofs.Ordered.{spelled_fits, spelled_in_order}
use Rattle.kad_krpc.proofs.Carried.{SoundLook, looks, needs_look}
use Rattle.kad_krpc.proofs.Asking.{asks_get}
use Rattle.kad_krpc.proofs.Answering.{answer_gets}

-- the message has a written form, unless it puts a mutable item
abbrev IsSaid : Message → Type 0
IsSaid m = is_mutable m ≡ false → IsWritable m

-- a query that brings no proof has one, in the same way
abbrev IsAsked : Ask → Type 0
IsAsked ask = is_mutable_ask ask ≡ false → IsWritableAsk None ask

-- whatever its arguments bring
may_bring : (ask : Ask) (a : Option Value) → IsWritableAsk None ask → IsWritableAsk (proof_of (arguments_read ask a)) ask
may_bring (Ping id) a n = tt
may_bring (FindNode id target want) a n = tt
may_bring (GetPeers id info_hash want) a n = tt
may_bring (AnnouncePeer id info_hash port token) a n = n
may_bring (Get id target want) a n = tt
may_bring (Put id token v mutable) a n = n
may_bring (Other method) a n = n

bodies : (k : Kind) (tx : List ℕ) (top : Look) → SoundLook 1 top → Gets IsSaid (body_at k tx top)
bodies kind.Query tx top s =
    after Any IsSaid (needed bytes_of key.Q (top (codes "q"))) _ (any (needed bytes_of key.Q (top (codes "q")))) (λ name u.
    after IsAsked IsSaid (ask_by (method_in name) name (top (codes "a"))) _ (asks_get (method_in name) name (top (codes "a")) refl (s (codes "a"))) (λ ask h e. may_bring ask (top (codes "a")) (h e)))
bodies kind.Answer tx top s =
    after (SoundLook 2) IsSaid (needed look_of key.R (top (codes "r"))) _ (needs_look (InList [] ∷ []) key.R (top (codes "r")) (s (codes "r"))) (λ r h.
    after IsWritableAnswer IsSaid (answer_at r) _ (answer_gets r h) (λ answer h e. h))
bodies kind.Fault tx top s = after Any IsSaid (needed code_text_of key.E (top (codes "e"))) _ (any (needed code_text_of key.E (top (codes "e")))) (λ e u n. tt)

gets_writable : (v : Value) → IsSound 0 v → Gets IsSaid (said v)
gets_writable v s =
    after (SoundLook 1) IsSaid (of_kind key.Top (look_of v)) _ (looks [] key.Top v s) (λ top h.
    after Any IsSaid (needed bytes_of key.T (top (codes "t"))) _ (any (needed bytes_of key.T (top (codes "t")))) (λ tx w.
    after Any IsSaid (needed kind_of key.Y (top (codes "y"))) _ (any (needed kind_of key.Y (top (codes "y")))) (λ k x. bodies k tx top h)))

pub writable : (bytes : List ℕ) (m : Message) → Says bytes m → is_mutable m ≡ false → IsWritable m
writable bytes m s =
    subst (Gets IsSaid) s.says (gets_writable s.value (record { fits = spelled_fits bytes s.value s.spelled; ordered = spelled_in_order bytes s.value s.spelled }))

-- ---- what has a written form carries one

pub writable_forms : (m : Message) → IsWritable m → HasForms m
writable_forms (message.Query tx ro proof ask) n = asks ask n
  where
    asks : (ask : Ask) → IsWritableAsk proof ask → CarriesForm ask
    asks (Ping id) n = tt
    asks (FindNode id target want) n = tt
    asks (GetPeers id info_hash want) n = tt
    asks (AnnouncePeer id info_hash port token) n = tt
    asks (Get id target want) n = tt
    asks (Put id token v mutable) n = n.form
    asks (Other method) n = tt
writable_forms (message.Answer tx answer) n = n.v
writable_forms (message.Fault tx code text) n = tt

pub writable_immutable : (m : Message) → IsWritable m → is_mutable m ≡ false
writable_immutable (message.Query tx ro proof ask) n = asks ask n
  where
    asks : (ask : Ask) → IsWritableAsk proof ask → is_mutable_ask ask ≡ false
    asks (Ping id) n = refl
    asks (FindNode id target want) n = refl
    asks (GetPeers id info_hash want) n = refl
    asks (AnnouncePeer id info_hash port token) n = refl
    asks (Get id target want) n = refl
    asks (Put id token v mutable) n = n.immutable
    asks (Other method) n = refl
writable_immutable (message.Answer tx answer) n = refl
writable_immutable (message.Fault tx code text) n = refl
