-- What a datagram brings about: the query that its bytes say, and the answer to it.
use Rattle.std.proofs.Common.{◌≡◌, ℕ, ◌<◌, ◌≤◌, List, [], ◌∷◌, Option, Some, None, Result, Ok, Err, refl, sym, ap, subst, ◌∙◌, arith}
use Rattle.std.specs.Prelude.{IfSome, IfOk, map, filter, option_to_list}
use Rattle.std.specs.List.{AllByRecursion}
use Rattle.std.proofs.lemmas.List.Elements.{All-from_recursion, recursion_from_All}
use Rattle.kad_base.specs.declared.types.Id.{Id}
use Rattle.kad_base.specs.declared.types.Addr.{Addr}
use Rattle.kad_distance.specs.KClosest.{k_closest}
use Rattle.kad_distance.proofs.Chosen.{closest_all}
use Rattle.kad_krpc.specs.declared.message.Message.{Message}
use Rattle.kad_krpc.specs.declared.message.Message.TheVariants as message
use Rattle.kad_krpc.specs.declared.message.Ask.TheVariants.{FindNode}
use Rattle.kad_krpc.specs.declared.message.KrpcFault.{KrpcFault}
use Rattle.kad_krpc.specs.Fields.{Step}
use Rattle.kad_krpc.specs.Reading.{Says}
use Rattle.kad_krpc.specs.Form.{IsNode, IsWritable}
use Rattle.fake_net.specs.declared.replies.Conduct.{Conduct}
use Rattle.fake_net.specs.declared.replies.Conduct.TheVariants.{Honest, Inventing, Silent, Posing, Failing}
use Rattle.fake_net.specs.declared.waiting.Waiting.{Waiting}
use Rattle.fake_net.specs.Network.{Network, numbers, node, address_of, number_at, knows}
use Rattle.fake_net.specs.Replies.{SaysFindNode, find_node_of, conduct_of, invented, said, reply_of, on_its_way, BringsAbout}
use Rattle.fake_net.proofs.Numbered.{number_back}

-- ---- the query that bytes say

-- bytes that say a message say no other
pub find_only : (bytes tx : List ℕ) (target : Id) (m : Message) → ((n : Message) → Says bytes n → ◌≡◌ {A = Step Message} (Ok m) (Ok n)) → SaysFindNode bytes tx target
    → find_node_of m ≡ Some (tx, target)
find_only bytes tx target m only q =
    let query = message.Query tx q.read_only q.proof (FindNode q.asker target q.want) in
    let same : m ≡ query = (let e = only query q.says in cc) in
    ap find_node_of same

-- bytes that are refused say none
pub refused_find : (bytes tx : List ℕ) (target : Id) (fault : KrpcFault) (query : Option (List ℕ × Id))
    → ((n : Message) → Says bytes n → ◌≡◌ {A = Step Message} (Err fault) (Ok n)) → SaysFindNode bytes tx target → query ≡ Some (tx, target)
refused_find bytes tx target fault query only q = let e = only _ q.says in absurd cc

-- ---- what is said can be written

nodes_v4 : (seed xs : List ℕ) → AllByRecursion IsNode (map (node seed) xs)
nodes_v4 seed [] = tt
nodes_v4 seed (x ∷ xs) = (tt, nodes_v4 seed xs)

invented_v4 : (target : Id) (i : ℕ) (xs : List ℕ) → AllByRecursion IsNode (map (invented target i) xs)
invented_v4 target i [] = tt
invented_v4 target i (x ∷ xs) = (tt, invented_v4 target i xs)

near_v4 : (target : Id) (seed xs : List ℕ) → AllByRecursion IsNode (k_closest target 8 (map (node seed) xs))
near_v4 target seed xs =
    let S = map (node seed) xs in
    recursion_from_All IsNode (k_closest target 8 (map (node seed) xs)) (closest_all target 8 S IsNode (All-from_recursion IsNode S (nodes_v4 seed xs)))

said_writable : (c : Conduct) (net : Network) (i : ℕ) (tx : List ℕ) (target : Id) → IfSome (said c net i tx target) IsWritable
said_writable Honest net i tx target = record { nodes = near_v4 target net.seed (filter (knows net.seed i) (numbers net.count)); snodes = tt; nodes6 = tt; snodes6 = tt; v = tt }
said_writable Inventing net i tx target = record { nodes = invented_v4 target i (numbers 16); snodes = tt; nodes6 = tt; snodes6 = tt; v = tt }
said_writable Silent net i tx target = tt
said_writable Posing net i tx target = record { nodes = near_v4 target net.seed (filter (knows net.seed i) (numbers net.count)); snodes = tt; nodes6 = tt; snodes6 = tt; v = tt }
said_writable Failing net i tx target = tt

pub reply_writable : (net : Network) (i : ℕ) (tx : List ℕ) (target : Id) (m : Message) → Some m ≡ reply_of net i tx target → IsWritable m
reply_writable net i tx target m e =
    subst (λ (o : Option Message). IfSome o IsWritable) (sym e) (said_writable (conduct_of net.hostile i) net i tx target)

-- ---- what a datagram brings about

tx_or : List ℕ → Option (List ℕ × Id) → List ℕ
tx_or other None = other
tx_or other (Some q) = q.0

target_or : Id → Option (List ℕ × Id) → Id
target_or other None = other
target_or other (Some q) = q.1

some_not : (q : List ℕ × Id) → ◌≡◌ {A = Option (List ℕ × Id)} None (Some q) → ⊥
some_not q e = let apart : None ≡ Some q = e in absurd cc

pub brings_none : (net : Network) (moment : ℕ) (to : Addr) (bytes : List ℕ) (query : Option (List ℕ × Id)) → query ≡ None
    → ((tx : List ℕ) (target : Id) → SaysFindNode bytes tx target → query ≡ Some (tx, target)) → BringsAbout net moment to bytes []
brings_none net moment to bytes query none_read only = record {
  answered = λ i tx target lt at says. absurd (some_not (tx, target) (sym none_read ∙ only tx target says));
  unanswered = λ none_asked. refl;
}

brings_one : (net : Network) (moment : ℕ) (to : Addr) (bytes : List ℕ) (i : ℕ) (tx : List ℕ) (target : Id) (answers : List Waiting)
    → net.count ≤ 20000 → i < net.count → to ≡ address_of i → SaysFindNode bytes tx target
    → ((t : List ℕ) (x : Id) → SaysFindNode bytes t x → ◌≡◌ {A = Option (List ℕ × Id)} (Some (tx, target)) (Some (t, x)))
    → answers ≡ on_its_way moment i (reply_of net i tx target) → BringsAbout net moment to bytes answers
unfolding tx_or target_or
brings_one net moment to bytes i tx target answers few lt at says only are = record {
  answered = λ j t x below there said_so.
      (let here : i ≡ j = sym (number_back i (omega (arith, few, lt))) ∙ ap (λ (a : Addr). number_at a.ip) (sym at ∙ there) ∙ number_back j (omega (arith, few, below)) in
      let same = only t x said_so in
      let same_tx : tx ≡ t = ap (tx_or tx) same in
      let same_target : target ≡ x = ap (target_or target) same in
      are
      ∙ ap (λ (n : ℕ). on_its_way moment n (reply_of net n tx target)) here
      ∙ ap (λ (l : List ℕ). on_its_way moment j (reply_of net j l target)) same_tx
      ∙ ap (λ (y : Id). on_its_way moment j (reply_of net j t y)) same_target);
  unanswered = λ none_asked. absurd (none_asked i tx target lt at says);
}

pub brings_answer : {E : Type 0} (r : Result (Option Waiting) E) (net : Network) (moment : ℕ) (to : Addr) (bytes : List ℕ) (i : ℕ) (query : Option (List ℕ × Id)) (tx : List ℕ) (target : Id)
    → net.count ≤ 20000 → i < net.count → to ≡ address_of i → query ≡ Some (tx, target) → IfSome query (λ q. SaysFindNode bytes q.0 q.1)
    → ((t : List ℕ) (x : Id) → SaysFindNode bytes t x → query ≡ Some (t, x))
    → IfOk r (λ answer. option_to_list answer ≡ on_its_way moment i (reply_of net i tx target)) → IfOk r (λ answer. BringsAbout net moment to bytes (option_to_list answer))
brings_answer (Ok answer) net moment to bytes i query tx target few lt at is says only are =
    brings_one net moment to bytes i tx target (option_to_list answer) few lt at
    (subst (λ (o : Option (List ℕ × Id)). IfSome o (λ q. SaysFindNode bytes q.0 q.1)) is says)
    (λ t x said_so. sym is ∙ only t x said_so) are
brings_answer (Err e) net moment to bytes i query tx target few lt at is says only are = tt
