-- What is gathered of the two halves of a fork, the one with the target's bit first.
use Rattle.std.proofs.Common.{◌≡◌, ◌≢◌, ℕ, ◌+◌, ◌≤◌, List, [], ◌∷◌, ◌++◌, length, get_or, Bool, true, false, sym, ap, subst, ◌∙◌}
use Rattle.std.specs.List.{All}
use Rattle.std.specs.List.Sorted.{IsStrictlySortedBy}
use Rattle.std.proofs.lemmas.List.{append-nil, length-append}
use Rattle.std.proofs.lemmas.List.Elements.{All-head, All-append, All-same}
use Rattle.kad_base.specs.declared.types.Id.{Id}
use Rattle.kad_base.specs.declared.types.Contact.{Contact}
use Rattle.kad_distance.specs.Order.{closeness, IsCloser}
use Rattle.kad_distance.specs.KClosest.{k_closest}
use Rattle.kad_distance.proofs.Chosen.{closest_rises, closest_few, closest_all}
use Rattle.bucket_tree.specs.Partition.{bit, id_bits, begins}
use Rattle.bucket_tree.specs.Rows.{live_in, live_of}
use Rattle.bucket_tree.proofs.Begun.{begins-front}
use Rattle.bucket_tree.proofs.Every.{all-left, all-right, flat_map-append}
use Rattle.bucket_tree.specs.declared.node.Node.{Node}
use Rattle.bucket_tree.specs.declared.node.Node.TheVariants.{Leaf, Fork'}
use Rattle.bucket_tree.specs.Trees.{rows_of, IsUnder, IsShort, IsTidy, IsWhole, HangsAt, AllCloser}
use Rattle.bucket_tree.proofs.Nearer.{half_nearer}

-- an identifier of twenty bytes that begins so
abbrev pub BeginsSo : List Bool → Contact → Type 0
BeginsSo p c = (begins p (id_bits c.id) ≡ true) × IsWhole c.id

less_so : (p q : List Bool) (cs : List Contact) → All (BeginsSo (p ++ q)) cs → All (BeginsSo p) cs
less_so p q cs all k d lt = let h = all k d lt in (begins-front p q (id_bits (get_or cs k d).id) h.0, h.1)

-- the contacts of a tree begin with the way to it
begins_all : (p : List Bool) (n : Node) → IsUnder p n → All IsTidy (rows_of n) → All (BeginsSo p) (live_of (rows_of n))
begins_all p (Leaf row) u t =
    let tidy = All-head IsTidy row.value [] t in
    let here : All (BeginsSo p) (live_in row.value) = λ k d lt. (subst (λ (q : List Bool). begins q (id_bits (get_or (live_in row.value) k d).id) ≡ true) u (tidy.covered k d lt), tidy.whole k d lt) in
    All-same (BeginsSo p) (live_in row.value ++ []) (live_in row.value) (append-nil (live_in row.value)) here
begins_all p (Fork' a low b high) u t =
    let l = begins_all (p ++ false ∷ []) low u.0 (all-left IsTidy (rows_of low) (rows_of high) t) in
    let h = begins_all (p ++ true ∷ []) high u.1 (all-right IsTidy (rows_of low) (rows_of high) t) in
    All-same (BeginsSo p) (live_of (rows_of low ++ rows_of high)) (live_of (rows_of low) ++ live_of (rows_of high)) (flat_map-append live_in (rows_of low) (rows_of high))
    (All-append (BeginsSo p) (live_of (rows_of low)) (live_of (rows_of high)) (less_so p (false ∷ []) (live_of (rows_of low)) l) (less_so p (true ∷ []) (live_of (rows_of high)) h))

all_nearer : (target : Id) (p : List Bool) (x y : Bool) (S T : List Contact) → x ≡ bit target.0 (length p) → y ≢ bit target.0 (length p) → All (BeginsSo (p ++ x ∷ [])) S → All (BeginsSo (p ++ y ∷ [])) T → AllCloser target S T
all_nearer target p x y S T same other s t i d lt j e lt' =
    let a = s i d lt in
    let c = t j e lt' in
    half_nearer target p x y (get_or S i d) (get_or T j e) same other a.1 c.1 a.0 c.0

-- the half with the target's bit is closer than the other
pub high_nearer : (target : Id) (at : ℕ) (node : Node) (a : _) (low : Node) (b : _) (high : Node) → node ≡ Fork' a low b high → HangsAt at node → All IsTidy (rows_of node) → true ≡ bit target.0 at → AllCloser target (live_of (rows_of high)) (live_of (rows_of low))
high_nearer target at node a low b high e h t is =
    let u : IsUnder h.prefix (Fork' a low b high) = subst (IsUnder h.prefix) e h.under in
    let tidy : All IsTidy (rows_of low ++ rows_of high) = subst (λ (n : Node). All IsTidy (rows_of n)) e t in
    let same : true ≡ bit target.0 (length h.prefix) = is ∙ ap (bit target.0) (sym h.deep) in
    all_nearer target h.prefix true false (live_of (rows_of high)) (live_of (rows_of low)) same (λ q. never (q ∙ sym same))
    (begins_all (h.prefix ++ true ∷ []) high u.1 (all-right IsTidy (rows_of low) (rows_of high) tidy)) (begins_all (h.prefix ++ false ∷ []) low u.0 (all-left IsTidy (rows_of low) (rows_of high) tidy))
  where
    never : false ≡ true → ⊥
    never e = absurd cc

pub low_nearer : (target : Id) (at : ℕ) (node : Node) (a : _) (low : Node) (b : _) (high : Node) → node ≡ Fork' a low b high → HangsAt at node → All IsTidy (rows_of node) → false ≡ bit target.0 at → AllCloser target (live_of (rows_of low)) (live_of (rows_of high))
low_nearer target at node a low b high e h t is =
    let u : IsUnder h.prefix (Fork' a low b high) = subst (IsUnder h.prefix) e h.under in
    let tidy : All IsTidy (rows_of low ++ rows_of high) = subst (λ (n : Node). All IsTidy (rows_of n)) e t in
    let same : false ≡ bit target.0 (length h.prefix) = is ∙ ap (bit target.0) (sym h.deep) in
    all_nearer target h.prefix false true (live_of (rows_of low)) (live_of (rows_of high)) same (λ q. never (q ∙ sym same))
    (begins_all (h.prefix ++ false ∷ []) low u.0 (all-left IsTidy (rows_of low) (rows_of high) tidy)) (begins_all (h.prefix ++ true ∷ []) high u.1 (all-right IsTidy (rows_of low) (rows_of high) tidy))
  where
    never : true ≡ false → ⊥
    never e = absurd cc

-- what a call on one half asks
abbrev pub Ready : Id → List Contact → ℕ → Node → Type 0
Ready target N at child = HangsAt at child × (All IsShort (rows_of child) × (All IsTidy (rows_of child) × AllCloser target N (live_of (rows_of child))))

both_lives : (low high : Node) → live_of (rows_of low ++ rows_of high) ≡ live_of (rows_of low) ++ live_of (rows_of high)
both_lives low high = flat_map-append live_in (rows_of low) (rows_of high)

-- the half is ready where what was gathered before is closer than the whole fork
pub low_ready : (target : Id) (N : List Contact) (at : ℕ) (node : Node) (a : _) (low : Node) (b : _) (high : Node) → node ≡ Fork' a low b high → HangsAt at node → All IsShort (rows_of node) → All IsTidy (rows_of node) → AllCloser target N (live_of (rows_of low)) → Ready target N (at + 1) low
low_ready target N at node a low b high e h s t closer =
    let u : IsUnder h.prefix (Fork' a low b high) = subst (IsUnder h.prefix) e h.under in (
      record { prefix = h.prefix ++ false ∷ []; deep = length-append h.prefix (false ∷ []) ∙ ap (λ (n : ℕ). n + 1) h.deep; under = u.0 },
      (
        all-left IsShort (rows_of low) (rows_of high) (subst (λ (n : Node). All IsShort (rows_of n)) e s),
        (all-left IsTidy (rows_of low) (rows_of high) (subst (λ (n : Node). All IsTidy (rows_of n)) e t), closer),
      ),
    )

pub high_ready : (target : Id) (N : List Contact) (at : ℕ) (node : Node) (a : _) (low : Node) (b : _) (high : Node) → node ≡ Fork' a low b high → HangsAt at node → All IsShort (rows_of node) → All IsTidy (rows_of node) → AllCloser target N (live_of (rows_of high)) → Ready target N (at + 1) high
high_ready target N at node a low b high e h s t closer =
    let u : IsUnder h.prefix (Fork' a low b high) = subst (IsUnder h.prefix) e h.under in (
      record { prefix = h.prefix ++ true ∷ []; deep = length-append h.prefix (true ∷ []) ∙ ap (λ (n : ℕ). n + 1) h.deep; under = u.1 },
      (
        all-right IsShort (rows_of low) (rows_of high) (subst (λ (n : Node). All IsShort (rows_of n)) e s),
        (all-right IsTidy (rows_of low) (rows_of high) (subst (λ (n : Node). All IsTidy (rows_of n)) e t), closer),
      ),
    )

pub low_closer : (target : Id) (N : List Contact) (node : Node) (a : _) (low : Node) (b : _) (high : Node) → node ≡ Fork' a low b high → AllCloser target N (live_of (rows_of node)) → AllCloser target N (live_of (rows_of low))
low_closer target N node a low b high e closer i d lt =
    let P = IsCloser target (get_or N i d) in
    all-left P (live_of (rows_of low)) (live_of (rows_of high)) (subst (All P) (ap (λ (n : Node). live_of (rows_of n)) e ∙ both_lives low high) (closer i d lt))

pub high_closer : (target : Id) (N : List Contact) (node : Node) (a : _) (low : Node) (b : _) (high : Node) → node ≡ Fork' a low b high → AllCloser target N (live_of (rows_of node)) → AllCloser target N (live_of (rows_of high))
high_closer target N node a low b high e closer i d lt =
    let P = IsCloser target (get_or N i d) in
    all-right P (live_of (rows_of low)) (live_of (rows_of high)) (subst (All P) (ap (λ (n : Node). live_of (rows_of n)) e ∙ both_lives low high) (closer i d lt))

-- after the first half, what was gathered is closer than the second
pub then_closer : (target : Id) (k : ℕ) (S U T N : List Contact) → N ≡ k_closest target k (S ++ U) → AllCloser target S T → AllCloser target U T → AllCloser target N T
then_closer target k S U T N e s u =
    let P = λ (c : Contact). All (IsCloser target c) T in
    All-same P N (k_closest target k (S ++ U)) e (closest_all target k (S ++ U) P (All-append P S U s u))

pub gathered_sorted : (target : Id) (k : ℕ) (S N : List Contact) → N ≡ k_closest target k S → IsStrictlySortedBy (closeness target) N
gathered_sorted target k S N e = subst (IsStrictlySortedBy (closeness target)) (sym e) (closest_rises target k S)

pub gathered_few : (target : Id) (k : ℕ) (S N : List Contact) → N ≡ k_closest target k S → length N ≤ k
gathered_few target k S N e = subst (λ (l : List Contact). length l ≤ k) (sym e) (closest_few target k S)

pub fork_lives : (node : Node) (a : _) (low : Node) (b : _) (high : Node) → node ≡ Fork' a low b high → live_of (rows_of node) ≡ live_of (rows_of low) ++ live_of (rows_of high)
fork_lives node a low b high e = ap (λ (n : Node). live_of (rows_of n)) e ∙ both_lives low high
