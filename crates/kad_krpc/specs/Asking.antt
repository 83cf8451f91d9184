-- The dictionary `a` of a query, by its method (BEP 5; `get` and `put` are BEP 44's; the order of the steps is this
-- project's own, and so is the key `sk`; `ro` is BEP 43's, `want` BEP 32's): how it is read, how it is written, and which
-- queries have a written form. A method more is a line in each part.
use Rattle.std.specs.Prelude.{◌≡◌, ◌≢◌, ◌<◌, ℕ, Bool, true, false, cond, is_some, ◌&&◌, ◌||◌, List, [], ◌∷◌, ◌++◌, length, codes, bytes_eq, nat_eq, nat_le, nat_lt, ℤ, pos, negsuc, Option, Some, None, Result, Ok, Err}
use Rattle.std.specs.List.{list_any}
use Rattle.kad_base.specs.declared.types.Id.{Id}
use Rattle.kad_base.specs.declared.types.Proof.{Proof}
use Rattle.kad_bencode.specs.Naming.{named}
use Rattle.kad_bencode.specs.Parts.{bytes_of, integer_of, list_of, member_of}
use Rattle.kad_bencode.specs.Spelling.{text_of}
use Rattle.kad_bencode.specs.declared.entries.Pair.{Pair}
use Rattle.kad_bencode.specs.declared.value.Value.{Value}
use Rattle.kad_bencode.specs.declared.value.Value.TheVariants.{Int, Text, List as Values}
use Rattle.kad_krpc.specs.declared.message.Ask.{Ask}
use Rattle.kad_krpc.specs.declared.message.Ask.TheVariants.{Ping, FindNode, GetPeers, AnnouncePeer, Get, Put, Other}
use Rattle.kad_krpc.specs.declared.message.Want.{Want}
use Rattle.kad_krpc.specs.declared.message.Port.{Port}
use Rattle.kad_krpc.specs.declared.message.Port.TheVariants.{Given, Implied}
use Rattle.kad_krpc.specs.declared.message.Key.TheVariants as key
use Rattle.kad_krpc.specs.declared.message.KrpcFault.{KrpcFault}
use Rattle.kad_krpc.specs.declared.message.Method.{Method}
use Rattle.kad_krpc.specs.declared.message.Method.TheVariants.{Ping as Method_ping, FindNode as Method_find_node, GetPeers as Method_get_peers, AnnouncePeer as Method_announce_peer, Get as Method_get, Put as Method_put}
use Rattle.kad_krpc.specs.declared.ask.AskView.{AskView}
use Rattle.kad_krpc.specs.declared.ask.AskView.TheVariants as seen
use Rattle.kad_records.specs.Records.{IsWellId, proof_at, proof_bytes}
use Rattle.kad_krpc.specs.Fields.{Step, Look, then, needed, optional, look_of, id_of, IsCarried, pair, maybe}

-- ---- read

-- an integer of 1 to 65535
abbrev pub port_in : Option ℤ → Option ℕ
port_in None = None
port_in (Some (pos n)) = cond (nat_le 1 n && nat_lt n 65536) (Some n) None
port_in (Some (negsuc n)) = None

-- the port that a value gives
abbrev pub port_of : Value → Option ℕ
port_of v = port_in (integer_of v)

-- an implied port is any integer but 0
abbrev pub is_implied : Option ℤ → Bool
is_implied None = false
is_implied (Some (pos n)) = nat_lt 0 n
is_implied (Some (negsuc n)) = true

-- the port that is announced: an implied one, whatever `port` says, or the one that `port` gives
abbrev pub port_by : Option Value → Option Value → Step Port
port_by implied_port port =
    then (optional integer_of key.ImpliedPort implied_port) (λ implied.
    cond (is_implied implied) (Ok Implied)
    (then (needed port_of key.Port port) (λ given. Ok (Given given))))

-- the string is this word
abbrev pub is_text : List ℕ → Option (List ℕ) → Bool
is_text word None = false
is_text word (Some text) = bytes_eq text word

-- the value is this word
abbrev pub is_word : List ℕ → Value → Bool
is_word word v = is_text word (bytes_of v)

-- the values of a list that the word is among
abbrev pub is_named : List ℕ → Option (List Value) → Bool
is_named word None = false
is_named word (Some values) = list_any (is_word word) values

-- the value is a list that the word is among
abbrev pub names : List ℕ → Value → Bool
names word v = is_named word (list_of v)

-- whose contacts are wanted (BEP 32): those that the words of the list name. Another value counts as missing
abbrev pub want_of : Option Value → Want
want_of None = record { four = false; six = false }
want_of (Some v) = record { four = names (codes "n4") v; six = names (codes "n6") v }

-- the rest of a find_node query: its target, and whose contacts it wants
abbrev pub find_node_at : Look → Id → Step Ask
find_node_at a id = then (needed id_of key.Target (a (codes "target"))) (λ target. Ok (FindNode id target (want_of (a (codes "want")))))

-- the rest of a get_peers query: its info hash, and whose contacts it wants
abbrev pub get_peers_at : Look → Id → Step Ask
get_peers_at a id = then (needed id_of key.InfoHash (a (codes "info_hash"))) (λ info_hash. Ok (GetPeers id info_hash (want_of (a (codes "want")))))

-- what an announce_peer query says, by the values of its keys: info hash, token, then port
abbrev pub announced_by : Id → Option Value → Option Value → Option Value → Option Value → Step Ask
announced_by id info_hash token implied_port port =
    then (needed id_of key.InfoHash info_hash) (λ info_hash.
    then (needed bytes_of key.Token token) (λ token.
    then (port_by implied_port port) (λ port.
    Ok (AnnouncePeer id info_hash port token))))

-- the rest of an announce_peer query
abbrev pub announce_peer_at : Look → Id → Step Ask
announce_peer_at a id = announced_by id (a (codes "info_hash")) (a (codes "token")) (a (codes "implied_port")) (a (codes "port"))

-- the rest of a get query: its target, and whose contacts it wants
abbrev pub get_at : Look → Id → Step Ask
get_at a id = then (needed id_of key.Target (a (codes "target"))) (λ target. Ok (Get id target (want_of (a (codes "want")))))

-- What a put query says, by the values of its keys: token, then the value, of any kind, as its written form. One with a key
-- `k` puts a mutable item.
abbrev pub put_by : Id → Option Value → Option Value → Option Value → Step Ask
put_by id token v k =
    then (needed bytes_of key.Token token) (λ token.
    then (needed Some key.V v) (λ v.
    Ok (Put id token (text_of v) (is_some k))))

-- the rest of a put query
abbrev pub put_at : Look → Id → Step Ask
put_at a id = put_by id (a (codes "token")) (a (codes "v")) (a (codes "k"))

-- what a query says beside who asks, by its method
abbrev pub rest_at : Method → Look → Id → Step Ask
rest_at Method_ping a id = Ok (Ping id)
rest_at Method_find_node a id = find_node_at a id
rest_at Method_get_peers a id = get_peers_at a id
rest_at Method_announce_peer a id = announce_peer_at a id
rest_at Method_get a id = get_at a id
rest_at Method_put a id = put_at a id

-- who asks comes before what the method names
abbrev pub asked_at : Method → Look → Step Ask
asked_at method a = then (needed id_of key.Id (a (codes "id"))) (rest_at method a)

abbrev pub arguments_at : Method → Option Value → Step Ask
arguments_at method a = then (needed look_of key.A a) (asked_at method)

-- the methods of BEP 5 and BEP 44
abbrev pub method_in : List ℕ → Option Method
method_in name =
    cond (bytes_eq name (codes "ping")) (Some Method_ping)
    (cond (bytes_eq name (codes "find_node")) (Some Method_find_node)
    (cond (bytes_eq name (codes "get_peers")) (Some Method_get_peers)
    (cond (bytes_eq name (codes "announce_peer")) (Some Method_announce_peer)
    (cond (bytes_eq name (codes "get")) (Some Method_get)
    (cond (bytes_eq name (codes "put")) (Some Method_put) None)))))

-- what a method asks; the arguments of one that isn't known are not read
abbrev pub ask_by : Option Method → List ℕ → Option Value → Step Ask
ask_by None name a = Ok (Other name)
ask_by (Some method) name a = arguments_at method a

-- what a query asks, by the name of its method and its arguments
abbrev pub ask_of : List ℕ → Option Value → Step Ask
ask_of name a = ask_by (method_in name) name a

-- the proof that a string is, of 52 bytes (this project's own)
abbrev pub proof_from : Option (List ℕ) → Option Proof
proof_from None = None
proof_from (Some bytes) = cond (nat_eq (length bytes) 52) (Some (proof_at 0 bytes)) None

-- the proof that the value of `sk` is; another value counts as missing
abbrev pub proof_by : Option Value → Option Proof
proof_by None = None
proof_by (Some v) = proof_from (bytes_of v)

-- the proof that arguments bring of who asks, if they bring one
abbrev pub proof_of : Option Value → Option Proof
proof_of None = None
proof_of (Some a) = proof_by (member_of a (codes "sk"))

-- the arguments that are read: those of a method that isn't known are not
abbrev pub arguments_read : Ask → Option Value → Option Value
arguments_read (Other method) a = None
arguments_read other a = a

-- a query is read-only exactly if `ro` is the integer 1
abbrev pub is_one : Option ℤ → Bool
is_one None = false
is_one (Some (pos n)) = nat_eq n 1
is_one (Some (negsuc n)) = false

-- whether a query is read-only, by its `ro`, which may be missing (BEP 43)
abbrev pub is_read_only : Option Value → Bool
is_read_only None = false
is_read_only (Some v) = is_one (integer_of v)

-- ---- written

-- a proof as one string: public key and X
abbrev pub proof_value : Proof → Value
proof_value proof = Text (proof_bytes (Some proof))

-- the proof of who asks, if it is brought (this project's own). Its key `sk` comes after `port` and before `target`
abbrev pub proof_pair : Option Proof → List (Pair Value)
proof_pair proof = maybe (codes "sk") proof_value proof

-- an implied port is written as 1, beside `implied_port`
abbrev pub announced : Option Proof → Id → Id → Port → List ℕ → List (Pair Value)
announced proof id info_hash (Given port) token =
    pair (codes "id") (Text id.0)
    ++ pair (codes "info_hash") (Text info_hash.0)
    ++ pair (codes "port") (Int (pos port))
    ++ proof_pair proof
    ++ pair (codes "token") (Text token)
announced proof id info_hash Implied token =
    pair (codes "id") (Text id.0)
    ++ pair (codes "implied_port") (Int (pos 1))
    ++ pair (codes "info_hash") (Text info_hash.0)
    ++ pair (codes "port") (Int (pos 1))
    ++ proof_pair proof
    ++ pair (codes "token") (Text token)

-- two identifiers, under `id` and a key after it, with what stands between them and behind them
abbrev pub two_ids : Id → List (Pair Value) → List ℕ → Id → List (Pair Value) → List (Pair Value)
two_ids id between key other behind = pair (codes "id") (Text id.0) ++ between ++ pair key (Text other.0) ++ behind

-- a word of `want`, if it is said
abbrev pub word_if : Bool → List ℕ → List Value
word_if true word = Text word ∷ []
word_if false word = []

-- the list of `want`, `n4` before `n6` (BEP 32)
abbrev pub want_value : Want → Value
want_value want = Values (word_if want.four (codes "n4") ++ word_if want.six (codes "n6"))

-- what is wanted, if anything is
abbrev pub some_want : Want → Option Want
some_want want = cond (want.four || want.six) (Some want) None

-- whose contacts are wanted, if it is said
abbrev pub want_pair : Want → List (Pair Value)
want_pair want = maybe (codes "want") want_value (some_want want)

-- a token, and a value by its written form
abbrev pub put_pairs : Option Proof → Id → List ℕ → List ℕ → List (Pair Value)
put_pairs proof id token v = pair (codes "id") (Text id.0) ++ proof_pair proof ++ pair (codes "token") (Text token) ++ pair (codes "v") (named v)

-- the arguments of a query, with the proof that it brings; those of a method that isn't known are none
abbrev pub arguments_of : Option Proof → Ask → List (Pair Value)
arguments_of proof (Ping id) = pair (codes "id") (Text id.0) ++ proof_pair proof
arguments_of proof (FindNode id target want) = two_ids id (proof_pair proof) (codes "target") target (want_pair want)
arguments_of proof (GetPeers id info_hash want) = two_ids id [] (codes "info_hash") info_hash (proof_pair proof ++ want_pair want)
arguments_of proof (AnnouncePeer id info_hash port token) = announced proof id info_hash port token
arguments_of proof (Get id target want) = two_ids id (proof_pair proof) (codes "target") target (want_pair want)
arguments_of proof (Put id token v mutable) = put_pairs proof id token v
arguments_of proof (Other method) = []

-- the `q` of a query: the name of its method
abbrev pub name_of : Ask → List ℕ
name_of (Ping id) = codes "ping"
name_of (FindNode id target want) = codes "find_node"
name_of (GetPeers id info_hash want) = codes "get_peers"
name_of (AnnouncePeer id info_hash port token) = codes "announce_peer"
name_of (Get id target want) = codes "get"
name_of (Put id token v mutable) = codes "put"
name_of (Other method) = method

-- a read-only query says `ro` 1; another says nothing of it (BEP 43)
abbrev pub read_only_pair : Bool → List (Pair Value)
read_only_pair true = pair (codes "ro") (Int (pos 1))
read_only_pair false = []

-- ---- which queries there are

-- no peer announces port 0; an implied port says none
abbrev pub IsGivenPort : Port → Type 0
IsGivenPort (Given port) = port ≢ 0
IsGivenPort Implied = Unit {0}

-- a method that isn't known isn't named as one of the six
pub record IsUnknown (method : List ℕ) : Type 0 where
  pub ping : method ≢ codes "ping"
  pub find_node : method ≢ codes "find_node"
  pub get_peers : method ≢ codes "get_peers"
  pub announce_peer : method ≢ codes "announce_peer"
  pub get : method ≢ codes "get"
  pub put : method ≢ codes "put"

-- whether a query puts a mutable item
abbrev pub is_mutable_ask : Ask → Bool
is_mutable_ask (Put id token v mutable) = mutable
is_mutable_ask other = false

-- what a query puts is the written form of a value
abbrev pub CarriesForm : Ask → Type 0
CarriesForm (Put id token v mutable) = IsCarried v
CarriesForm other = Unit {0}

-- a value that is put, and what is put is immutable
pub record IsPutting (v : List ℕ) (mutable : Bool) : Type 0 where
  pub form : IsCarried v
  pub immutable : mutable ≡ false

-- a method that isn't known, with no proof: its arguments are written as none
pub record IsBare (proof : Option Proof) (method : List ℕ) : Type 0 where
  pub unknown : IsUnknown method
  pub no_proof : proof ≡ None

-- the query that brings this proof, or none, has a written form that is read back
abbrev pub IsWritableAsk : Option Proof → Ask → Type 0
IsWritableAsk proof (Ping id) = Unit {0}
IsWritableAsk proof (FindNode id target want) = Unit {0}
IsWritableAsk proof (GetPeers id info_hash want) = Unit {0}
IsWritableAsk proof (AnnouncePeer id info_hash port token) = IsGivenPort port
IsWritableAsk proof (Get id target want) = Unit {0}
IsWritableAsk proof (Put id token v mutable) = IsPutting v mutable
IsWritableAsk proof (Other method) = IsBare proof method

-- the port that is announced has 16 bits
abbrev pub IsWellPort : Port → Type 0
IsWellPort (Given port) = port < 65536
IsWellPort Implied = Unit {0}

-- what a query asks has arrays and numbers as its types have them
abbrev pub IsWellAsk : Ask → Type 0
IsWellAsk (Ping id) = IsWellId id
IsWellAsk (FindNode id target want) = IsWellId id × IsWellId target
IsWellAsk (GetPeers id info_hash want) = IsWellId id × IsWellId info_hash
IsWellAsk (AnnouncePeer id info_hash port token) = IsWellId id × (IsWellId info_hash × IsWellPort port)
IsWellAsk (Get id target want) = IsWellId id × IsWellId target
IsWellAsk (Put id token v mutable) = IsWellId id
IsWellAsk (Other method) = Unit {0}

-- ---- where it stands in its datagram

-- what a view asks
abbrev pub ask_seen : AskView → Ask
ask_seen (seen.Ping id) = Ping id
ask_seen (seen.FindNode id target want) = FindNode id target want
ask_seen (seen.GetPeers id info_hash want) = GetPeers id info_hash want
ask_seen (seen.AnnouncePeer id info_hash port token) = AnnouncePeer id info_hash port token.now
ask_seen (seen.Get id target want) = Get id target want
ask_seen (seen.Put id token v mutable) = Put id token.now (text_of v) mutable
ask_seen (seen.Other method) = Other method.now

-- what was asked, by a view of it, or the refusal
abbrev pub ask_outcome : Result AskView KrpcFault → Step Ask
ask_outcome (Ok x) = Ok (ask_seen x)
ask_outcome (Err fault) = Err fault
