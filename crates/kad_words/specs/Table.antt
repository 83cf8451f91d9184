-- The commands and their options, which are this project's own: one line an option, with what its value is, whether it
-- is required or what holds without it, and the commands that have it; and what the words of each command ask for.
use Rattle.std.specs.Prelude.{◌≡◌, Bool, true, false, ℕ, List, [], ◌∷◌, ◌++◌, map, filter, codes, bytes_eq, find, option_map, is_some, replicate, Option, Some, None}
use Rattle.std.specs.List.{list_any}
use Rattle.kad_base.specs.declared.types.ClaimRule.{ClaimRule}
use Rattle.kad_base.specs.declared.types.Family.{Family}
use Rattle.kad_base.specs.declared.types.Family.TheVariants.{Four}
use Rattle.kad_base.specs.declared.types.Id.{Id}
use Rattle.kad_base.specs.declared.types.Proof.{Proof}
use Rattle.kad_base.specs.declared.types.Policy.{Policy}
use Rattle.kad_base.specs.declared.types.Policy.TheVariants as policy
use Rattle.kad_base.specs.Puzzles.{hash}
use Rattle.kad_text.specs.Text.{SpellsBytes, SpellsHex, SpellsId}
use Rattle.kad_words.specs.Values.{ClaimBy, FamilyBy, IsGiven, MayBeGiven, MayNumberBy, NumberBy, SpellsProofWord, YesBy}
use Rattle.kad_words.specs.declared.command.Command.{Command}
use Rattle.kad_words.specs.declared.command.Command.TheVariants.{Lookup, Peers, Get, Put, Serve, Node, Table, Refresh, Check, Mint, Sim}
use Rattle.kad_words.specs.declared.command.CommandKind.{CommandKind}
use Rattle.kad_words.specs.declared.command.CommandKind.TheVariants as kind
use Rattle.kad_words.specs.declared.command.LookWords.{LookWords}
use Rattle.kad_words.specs.declared.choice.Kind.{Kind}
use Rattle.kad_words.specs.declared.choice.Kind.TheVariants.{Identifier, Bytes32, AnyBytes, Number, IpVersion, Address, YesNo, Claim, KeyAndX}
use Rattle.kad_words.specs.declared.choice.Need.{Need}
use Rattle.kad_words.specs.declared.choice.Need.TheVariants.{Required, Optional, OrElse, OrNo, OrNamed}

-- a word, as its bytes
abbrev pub Word : Type 0
Word = List ℕ

-- what a command knows of an option: its name, what its value is, and what holds if it isn't given
pub record Entry : Type 0 where
  pub name : Word
  pub kind : Kind
  pub need : Need

-- an option, and the commands that have it
pub record Choice : Type 0 where
  pub entry : Entry
  pub commands : List Word

-- an option by its parts
abbrev pub choice : Word → Kind → Need → List Word → Choice
choice name kind need commands = record { entry = record { name = name; kind = kind; need = need }; commands = commands }

-- ---- the commands

-- the words of the commands
abbrev pub lookup : Word
lookup = codes "lookup"

abbrev pub peers : Word
peers = codes "peers"

abbrev pub get : Word
get = codes "get"

abbrev pub put : Word
put = codes "put"

abbrev pub serve : Word
serve = codes "serve"

abbrev pub node : Word
node = codes "node"

abbrev pub table : Word
table = codes "table"

abbrev pub refresh : Word
refresh = codes "refresh"

abbrev pub check : Word
check = codes "check"

abbrev pub mint : Word
mint = codes "mint"

abbrev pub sim : Word
sim = codes "sim"

-- the word of a command
abbrev pub kind_word : CommandKind → Word
kind_word kind.Lookup = lookup
kind_word kind.Peers = peers
kind_word kind.Get = get
kind_word kind.Put = put
kind_word kind.Serve = serve
kind_word kind.Node = node
kind_word kind.Table = table
kind_word kind.Refresh = refresh
kind_word kind.Check = check
kind_word kind.Mint = mint
kind_word kind.Sim = sim

-- whether it asks over a link
abbrev pub links : CommandKind → Bool
links kind.Lookup = true
links kind.Peers = true
links kind.Get = true
links kind.Put = true
links kind.Serve = true
links kind.Node = true
links kind.Refresh = true
links other = false

-- ---- the options. An identifier is 40 hex digits, and 32 bytes are 64; other bytes are two digits each, however many they
-- are; a proof is 64 hex digits, a comma and 40; times are milliseconds

abbrev pub target_option : Choice
target_option = choice (codes "target") Identifier Required (lookup ∷ [])

abbrev pub key_option : Choice
key_option = choice (codes "key") Identifier Required (peers ∷ get ∷ [])

abbrev pub value_option : Choice
value_option = choice (codes "value") AnyBytes Required (put ∷ [])

abbrev pub own_option : Choice
own_option = choice (codes "own") Identifier Optional (lookup ∷ peers ∷ get ∷ put ∷ serve ∷ node ∷ table ∷ [])

-- the proof that the node's own identifier was made (S/Kademlia, 2007, section 4.1)
abbrev pub proof_option : Choice
proof_option = choice (codes "proof") KeyAndX Optional (node ∷ [])

abbrev pub k_option : Choice
k_option = choice (codes "k") (Number 1 20) (OrElse 8) (lookup ∷ peers ∷ get ∷ put ∷ serve ∷ node ∷ table ∷ sim ∷ [])

abbrev pub paths_option : Choice
paths_option = choice (codes "paths") (Number 1 8) (OrElse 4) (lookup ∷ peers ∷ get ∷ put ∷ node ∷ sim ∷ [])

abbrev pub alpha_option : Choice
alpha_option = choice (codes "alpha") (Number 1 4) (OrElse 3) (lookup ∷ peers ∷ get ∷ put ∷ node ∷ sim ∷ [])

abbrev pub timeout_option : Choice
timeout_option = choice (codes "timeout") (Number 1 60000) (OrElse 2000) (lookup ∷ peers ∷ get ∷ put ∷ node ∷ refresh ∷ sim ∷ [])

abbrev pub bits_option : Choice
bits_option = choice (codes "bits") (Number 1 5) (OrElse 1) (lookup ∷ peers ∷ get ∷ put ∷ serve ∷ node ∷ table ∷ [])

abbrev pub c1_option : Choice
c1_option = choice (codes "c1") (Number 0 32) (OrElse 0) (lookup ∷ peers ∷ get ∷ put ∷ serve ∷ node ∷ table ∷ check ∷ mint ∷ [])

abbrev pub c2_option : Choice
c2_option = choice (codes "c2") (Number 0 32) (OrElse 0) (lookup ∷ peers ∷ get ∷ put ∷ serve ∷ node ∷ table ∷ check ∷ mint ∷ [])

abbrev pub family_option : Choice
family_option = choice (codes "family") IpVersion (OrElse 4) (lookup ∷ peers ∷ get ∷ put ∷ [])

-- how many contacts of one host a path has at most, and of `serve` and `node` how many their tables, how many pairs of a key and a
-- peer, and how many items they keep; 0 for as many as come
abbrev pub per_address_option : Choice
per_address_option = choice (codes "per-address") (Number 0 255) (OrElse 0) (lookup ∷ peers ∷ get ∷ put ∷ serve ∷ node ∷ [])

-- from when on a contact is a path's
abbrev pub claim_option : Choice
claim_option = choice (codes "claim") Claim OrNamed (lookup ∷ peers ∷ get ∷ put ∷ node ∷ sim ∷ [])

abbrev pub bind_option : Choice
bind_option = choice (codes "bind") Address Optional (lookup ∷ peers ∷ get ∷ put ∷ serve ∷ node ∷ refresh ∷ [])

abbrev pub group_option : Choice
group_option = choice (codes "group") Bytes32 Optional (lookup ∷ peers ∷ get ∷ put ∷ serve ∷ node ∷ refresh ∷ [])

abbrev pub announce_option : Choice
announce_option = choice (codes "announce") (Number 0 65535) Optional (peers ∷ [])

abbrev pub spread_option : Choice
spread_option = choice (codes "spread") YesNo OrNo (peers ∷ put ∷ [])

abbrev pub receives_option : Choice
receives_option = choice (codes "receives") (Number 1 1000000000) (OrElse 1000000000) (serve ∷ [])

-- the same option of `node`, which may want none
abbrev pub node_receives_option : Choice
node_receives_option = choice (codes "receives") (Number 0 1000000000) (OrElse 0) (node ∷ [])

-- of a week at most
abbrev pub minutes_option : Choice
minutes_option = choice (codes "minutes") (Number 0 10080) (OrElse 0) (serve ∷ node ∷ [])

abbrev pub workers_option : Choice
workers_option = choice (codes "workers") (Number 1 8) (OrElse 1) (serve ∷ [])

abbrev pub table_option : Choice
table_option = choice (codes "table") YesNo OrNo (serve ∷ node ∷ [])

abbrev pub all_option : Choice
all_option = choice (codes "all") YesNo OrNo (refresh ∷ [])

abbrev pub seed_option : Choice
seed_option = choice (codes "seed") Bytes32 Optional (mint ∷ sim ∷ [])

abbrev pub tries_option : Choice
tries_option = choice (codes "tries") (Number 1 16777216) (OrElse 1048576) (mint ∷ [])

abbrev pub nodes_option : Choice
nodes_option = choice (codes "nodes") (Number 1 20000) (OrElse 2000) (sim ∷ [])

abbrev pub hostile_option : Choice
hostile_option = choice (codes "hostile") (Number 0 100) (OrElse 0) (sim ∷ [])

-- all of them
abbrev pub every_option : List Choice
every_option = target_option ∷ key_option ∷ value_option ∷ own_option ∷ proof_option ∷ k_option ∷ paths_option ∷ alpha_option ∷ timeout_option ∷ bits_option ∷ c1_option ∷ c2_option ∷ family_option ∷ per_address_option ∷ claim_option ∷ bind_option ∷ group_option ∷ announce_option ∷ spread_option
    ∷ receives_option ∷ node_receives_option ∷ minutes_option ∷ workers_option ∷ table_option ∷ all_option ∷ seed_option ∷ tries_option ∷ nodes_option ∷ hostile_option ∷ []

-- the options of a command
abbrev pub options_of : Word → List Entry
options_of command = map (λ (c : Choice). c.entry) (filter (λ (c : Choice). list_any (bytes_eq command) c.commands) every_option)

-- an option's word is its name after two dashes
abbrev pub option_word : Word → Word
option_word name = codes "--" ++ name

-- what the value of an option is, if it is one of these
abbrev pub kind_named : List Entry → Word → Option Kind
kind_named entries word = option_map (λ (e : Entry). e.kind) (find (λ (e : Entry). bytes_eq (option_word e.name) word) entries)

-- ---- what the values of a command line give

-- the values of a command line, by the options' names
abbrev pub Values : Type 0
Values = Word → Option Word

-- what the values give for an option of each kind: an identifier, a proof, a seed, a number, a family, a rule of claims, whether
-- it says yes, or whether it is given
abbrev pub MayIdOf : Choice → Values → Option Id → Type 0
MayIdOf c value id = MayBeGiven SpellsId (value c.entry.name) id

abbrev pub MayProofOf : Choice → Values → Option Proof → Type 0
MayProofOf c value proof = MayBeGiven SpellsProofWord (value c.entry.name) proof

abbrev pub MaySeedOf : Choice → Values → Option (List ℕ) → Type 0
MaySeedOf c value seed = MayBeGiven (SpellsHex 32) (value c.entry.name) seed

abbrev pub NumberOf : Choice → Values → ℕ → Type 0
NumberOf c value n = NumberBy c.entry.kind c.entry.need (value c.entry.name) n

abbrev pub MayNumberOf : Choice → Values → Option ℕ → Type 0
MayNumberOf c value n = MayNumberBy c.entry.kind (value c.entry.name) n

abbrev pub FamilyOf : Choice → Values → Family → Type 0
FamilyOf c value family = FamilyBy c.entry.kind c.entry.need (value c.entry.name) family

abbrev pub ClaimOf : Choice → Values → ClaimRule → Type 0
ClaimOf c value rule = ClaimBy c.entry.kind c.entry.need (value c.entry.name) rule

abbrev pub YesOf : Choice → Values → Bool → Type 0
YesOf c value said = YesBy c.entry.kind c.entry.need (value c.entry.name) said

abbrev pub StandsOf : Choice → Values → Bool → Type 0
StandsOf c value stands = stands ≡ is_some (value c.entry.name)

-- the policy is plain if neither number of bits is given. If one is given, the other is its default
abbrev pub PolicyBy : Option Word → Option Word → Policy → Type 0
PolicyBy None None policy.Plain = Unit {0}
PolicyBy None None (policy.Puzzled c1 c2) = ⊥
PolicyBy (Some v) _ policy.Plain = ⊥
PolicyBy None (Some v) policy.Plain = ⊥
PolicyBy v w (policy.Puzzled c1 c2) = NumberBy c1_option.entry.kind c1_option.entry.need v c1 × NumberBy c2_option.entry.kind c2_option.entry.need w c2

-- the policy, by the values of the two numbers of bits (S/Kademlia, 2007, section 4.1)
abbrev pub PolicyOf : Values → Policy → Type 0
PolicyOf value p = PolicyBy (value c1_option.entry.name) (value c2_option.entry.name) p

-- ---- what the words of each command ask for

-- the key of an immutable item (BEP 44): the SHA-1 of the written form of its value
abbrev pub key_of : List ℕ → Id
key_of item = record { 0 = hash item }

-- the identifier that the key of a proof makes: its hash (S/Kademlia, 2007, section 4.1)
abbrev pub made_by : Proof → Id
made_by proof = record { 0 = hash proof.key }

-- a node's own identifier, if any: the one that is named; or if none is, the one that its proof makes
abbrev pub named_or_made : Option Id → Option Proof → Option Id
named_or_made (Some id) proof = Some id
named_or_made None None = None
named_or_made None (Some proof) = Some (made_by proof)

-- the target if the words name none: 20 zero bytes
abbrev pub no_target : Id
no_target = record { 0 = replicate 20 0 }

-- a lookup over IPv4 that names these: its own identifier is drawn, buckets split by one bit, and every report passes
abbrev pub plain_look : Id → ℕ → ℕ → ℕ → ℕ → ClaimRule → LookWords
plain_look goal k paths alpha timeout rule = record {
  target = goal;
  own = None;
  k = k;
  paths = paths;
  alpha = alpha;
  timeout = timeout;
  bits = 1;
  policy = policy.Plain;
  family = Four;
  sealed = false;
  per_address = 0;
  claim = rule;
}

-- the options of a lookup with this target, but for its own identifier, its family and how many contacts of one host a path has
pub record IsLookAt (goal : Id) (value : Values) (look : LookWords) : Type 0 where
  pub target : look.target ≡ goal
  pub k : NumberOf k_option value look.k
  pub paths : NumberOf paths_option value look.paths
  pub alpha : NumberOf alpha_option value look.alpha
  pub timeout : NumberOf timeout_option value look.timeout
  pub bits : NumberOf bits_option value look.bits
  pub policy : PolicyOf value look.policy
  pub sealed : StandsOf group_option value look.sealed
  pub claim : ClaimOf claim_option value look.claim

-- the same, if the target is the value of `goal`, and the family, how many of one host and its own identifier are those of the
-- words
abbrev pub IsLook : Entry → Values → LookWords → Type 0
IsLook goal value look =
    (IsGiven SpellsId (value goal.name) look.target × FamilyOf family_option value look.family × NumberOf per_address_option value look.per_address × MayIdOf own_option value look.own)
    × IsLookAt look.target value look

-- the same, if the target is the key of an item, which is the value of an option
abbrev pub IsLookOf : Entry → Values → List ℕ → LookWords → Type 0
IsLookOf goal value item look =
    (IsGiven SpellsBytes (value goal.name) item × FamilyOf family_option value look.family × NumberOf per_address_option value look.per_address × MayIdOf own_option value look.own)
    × IsLookAt (key_of item) value look

-- a node's own identifier, by what the words name and by its proof
abbrev pub IsNodeOwn : Values → Option Proof → Option Id → Type 0
IsNodeOwn value proof own = (named : Option Id) × MayIdOf own_option value named × (own ≡ named_or_made named proof)

-- the same of lookups over IPv4, whose targets the words don't name, by a node that may have a proof
abbrev pub AreLooks : Values → Option Proof → LookWords → Type 0
AreLooks value proof look =
    (look.family ≡ Four) × NumberOf per_address_option value look.per_address × IsLookAt no_target value look × MayProofOf proof_option value proof × IsNodeOwn value proof look.own

-- a part of a command, and the option that gives it: an identifier, a seed, a number, a number that may be left out, a rule of
-- claims, whether it says yes, whether it is given; or a policy, a lookup with the option that names its target, an item and the
-- lookup of its key, or a proof and lookups whose targets no option names
pub data Part : Type 0 where
  gives_id : Choice → Option Id → Part
  gives_seed : Choice → Option (List ℕ) → Part
  gives_number : Choice → ℕ → Part
  may_give_number : Choice → Option ℕ → Part
  gives_claim : Choice → ClaimRule → Part
  gives_yes : Choice → Bool → Part
  says_whether : Choice → Bool → Part
  gives_policy : Policy → Part
  gives_look : Choice → LookWords → Part
  gives_item : Choice → List ℕ → LookWords → Part
  gives_looks : Option Proof → LookWords → Part

-- the values give this part
abbrev pub IsSaid : Values → Part → Type 0
IsSaid value (gives_id c id) = MayIdOf c value id
IsSaid value (gives_seed c seed) = MaySeedOf c value seed
IsSaid value (gives_number c n) = NumberOf c value n
IsSaid value (may_give_number c n) = MayNumberOf c value n
IsSaid value (gives_claim c rule) = ClaimOf c value rule
IsSaid value (gives_yes c said) = YesOf c value said
IsSaid value (says_whether c stands) = StandsOf c value stands
IsSaid value (gives_policy policy) = PolicyOf value policy
IsSaid value (gives_look c look) = IsLook c.entry value look
IsSaid value (gives_item c item look) = IsLookOf c.entry value item look
IsSaid value (gives_looks proof look) = AreLooks value proof look

-- each of these
abbrev pub AreSaid : Values → List Part → Type 0
AreSaid value [] = Unit {0}
AreSaid value (part ∷ parts) = IsSaid value part × AreSaid value parts

-- the parts of a command, command by command
abbrev pub parts_of : Command → List Part
parts_of (Lookup look) = gives_look target_option look ∷ []
parts_of (Peers look announce spread) = gives_look key_option look ∷ may_give_number announce_option announce ∷ gives_yes spread_option spread ∷ []
parts_of (Get look) = gives_look key_option look ∷ []
parts_of (Put look item spread) = gives_item value_option item look ∷ gives_yes spread_option spread ∷ []
parts_of (Serve words) =
    gives_id own_option words.own ∷ gives_number k_option words.k ∷ gives_number bits_option words.bits ∷ gives_policy words.policy ∷ gives_number per_address_option words.per_address ∷ gives_number receives_option words.receives ∷ gives_number minutes_option words.minutes ∷ gives_number workers_option words.workers ∷ says_whether group_option words.sealed ∷ gives_yes table_option words.table ∷ []
parts_of (Node words) = gives_looks words.proof words.look ∷ gives_number node_receives_option words.receives ∷ gives_number minutes_option words.minutes ∷ gives_yes table_option words.table ∷ []
parts_of (Table words) = gives_id own_option words.own ∷ gives_number k_option words.k ∷ gives_number bits_option words.bits ∷ gives_policy words.policy ∷ []
parts_of (Refresh words) = gives_number timeout_option words.timeout ∷ says_whether group_option words.sealed ∷ gives_yes all_option words.all ∷ []
parts_of (Check policy) = gives_policy policy ∷ []
parts_of (Mint words) = gives_seed seed_option words.seed ∷ gives_number c1_option words.c1 ∷ gives_number c2_option words.c2 ∷ gives_number tries_option words.tries ∷ []
parts_of (Sim words) =
    gives_seed seed_option words.seed ∷ gives_number nodes_option words.nodes ∷ gives_number hostile_option words.hostile ∷ gives_number k_option words.k ∷ gives_number paths_option words.paths ∷ gives_number alpha_option words.alpha ∷ gives_number timeout_option words.timeout ∷ gives_claim claim_option words.claim ∷ []

-- what the values of a command line ask for
abbrev pub Says : Values → Command → Type 0
Says value command = AreSaid value (parts_of command)

-- which command it is, and its word
abbrev pub kind_of : Command → CommandKind
kind_of (Lookup look) = kind.Lookup
kind_of (Peers look announce spread) = kind.Peers
kind_of (Get look) = kind.Get
kind_of (Put look item spread) = kind.Put
kind_of (Serve words) = kind.Serve
kind_of (Node words) = kind.Node
kind_of (Table words) = kind.Table
kind_of (Refresh words) = kind.Refresh
kind_of (Check policy) = kind.Check
kind_of (Mint words) = kind.Mint
kind_of (Sim words) = kind.Sim

abbrev pub word_of : Command → Word
word_of command = kind_word (kind_of command)
