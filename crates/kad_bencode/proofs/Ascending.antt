-- Pairs whose keys ascend, seen from the front, where the sizes of their values are known.
use Rattle.std.proofs.Common.{◌≡◌, ◌+◌, ◌<◌, ◌≤◌, ℕ, List, [], ◌∷◌, ◌++◌, length, get_or, refl, sym, ap, ◌∙◌, subst, arith, append_assoc, length-append}
use Rattle.std.specs.List.Sorted.{IsStrictlySortedBy}
use Rattle.std.specs.declared.cmp.Ordering.TheVariants.{Greater}
use Rattle.std.proofs.lemmas.List.{length-map}
use Rattle.kad_bencode.specs.Keys.{IsAscending, key_cmp, keys_of}
use Rattle.kad_bencode.specs.Spelling.{text_of}
use Rattle.kad_bencode.specs.Finding.{ArePairs}
use Rattle.kad_bencode.specs.Forming.{value_size, AreSizes}
use Rattle.kad_bencode.specs.declared.entries.Pair.{Pair}
use Rattle.kad_bencode.specs.declared.value.Value.{Value}
use Rattle.kad_bencode.proofs.Forming.{none_beyond, size_there}
use Rattle.kad_bencode.proofs.Places.{all_above, turned_back}

-- the pair that was seen last, how many were seen, and those that are left: if these ascend, all do
pub record AscendsSoFar (last rest : List ℕ) (i : ℕ) (pairs : List (Pair Value)) : Type 0 where
  pub pair : Pair Value
  pub seen : List (Pair Value)
  pub left : List (Pair Value)
  pub all : pairs ≡ seen ++ left
  pub count : i ≡ length seen
  pub key_is : last ≡ pair.key
  pub texts : ArePairs rest left
  pub so_far : IsAscending (pair ∷ left) → IsAscending pairs

-- what is read of the first of some pairs, whose value's text has this size
abbrev pub ReadsFirst : List ℕ → ℕ → List ℕ → List ℕ → List ℕ → Type 0
ReadsFirst bytes size key text rest = (p : Pair Value) (ps : List (Pair Value)) → ArePairs bytes (p ∷ ps) → size ≡ length (text_of p.value)
    → (key ≡ p.key) × (text ≡ text_of p.value) × ArePairs rest ps

-- none or one
pub few_ascend : (sizes : List ℕ) (pairs : List (Pair Value)) → AreSizes sizes pairs → length sizes < 2 → IsAscending pairs
unfolding IsStrictlySortedBy
few_ascend sizes [] z h = tt
few_ascend sizes (p ∷ []) z h = (tt, tt)
few_ascend sizes (p ∷ q ∷ ps) z h = absurd (let l = ap length z in let m = length-map (p ∷ q ∷ ps) value_size in omega (arith, l, m, h))

module _ (sizes : List ℕ) (pairs : List (Pair Value)) (z : AreSizes sizes pairs) where
  pub first_sized : (bytes : List ℕ) → ArePairs bytes pairs → 0 < length sizes
      → (p : Pair Value) × (ps : List (Pair Value)) × (pairs ≡ p ∷ ps) × ArePairs bytes (p ∷ ps) × (get_or sizes 0 0 ≡ length (text_of p.value))
  first_sized bytes a h =
      let x = size_there sizes pairs [] 0 z refl pairs refl h in
      (x.0, x.1, x.2, subst (ArePairs bytes) x.2 a, x.3)

  pub first_seen : (bytes key text rest : List ℕ) → ArePairs bytes pairs → 0 < length sizes → ReadsFirst bytes (get_or sizes 0 0) key text rest
      → AscendsSoFar key rest 1 pairs
  first_seen bytes key text rest a h reads =
      let x = first_sized bytes a h in
      let r = reads x.0 x.1 x.3 x.4 in
      record { pair = x.0; seen = x.0 ∷ []; left = x.1; all = x.2; count = refl; key_is = r.0; texts = r.2; so_far = λ o. subst IsAscending (sym x.2) o }

  module _ (last bytes : List ℕ) (i : ℕ) (s : AscendsSoFar last bytes i pairs) where
    pub next_sized : i < length sizes → (q : Pair Value) × (qs : List (Pair Value)) × (s.left ≡ q ∷ qs) × ArePairs bytes (q ∷ qs) × (get_or sizes i 0 ≡ length (text_of q.value))
    next_sized h =
        let x = size_there sizes pairs s.seen i z s.count s.left s.all h in
        (x.0, x.1, x.2, subst (ArePairs bytes) x.2 s.texts, x.3)

    pub next_seen : (key text rest : List ℕ) → i < length sizes → ReadsFirst bytes (get_or sizes i 0) key text rest → key_cmp key last ≡ Greater
        → AscendsSoFar key rest (i + 1) pairs
    unfolding IsStrictlySortedBy
    next_seen key text rest h reads g =
        let x = next_sized h in
        let q : Pair Value = x.0 in
        let r = reads q x.1 x.3 x.4 in
        let low = turned_back q.key s.pair.key ((λ j. key_cmp (sym r.0 j) (sym s.key_is j)) ∙ g) in
        let n = s.count in
        let l = length-append s.seen (q ∷ []) in
        record {
          pair = q;
          seen = s.seen ++ q ∷ [];
          left = x.1;
          all = s.all ∙ ap (λ y. s.seen ++ y) x.2 ∙ sym (append_assoc s.seen (q ∷ []) x.1);
          count = omega (arith, n, l);
          key_is = r.0;
          texts = r.2;
          so_far = λ o. s.so_far (subst (λ y. IsAscending (s.pair ∷ y)) (sym x.2) ((low, all_above Value s.pair.key q.key (keys_of x.1) low o.0), o));
        }

    pub all_seen : length sizes ≤ i → IsAscending pairs
    unfolding IsStrictlySortedBy
    all_seen h = s.so_far (subst (λ l. IsAscending (s.pair ∷ l)) (sym (none_beyond sizes pairs s.seen i z s.count s.left s.all h)) (tt, tt))
