-- The pairs of a dictionary in its text.
use Rattle.std.proofs.Common.{◌≡◌, ℕ, ◌-◌, ◌≤◌, true, List, [], ◌∷◌, ◌++◌, length, take, drop, Some, refl, sym, ap, ◌∙◌, subst, append-nil, ◌<◌, arith, length-append}
use Rattle.kad_bencode.specs.Keys.{value_of}
use Rattle.kad_bencode.specs.Parts.{dict_of, dict_in}
use Rattle.kad_bencode.specs.Spelling.{string_text, pairs_text, text_of, Fits, Spells, in_order}
use Rattle.kad_bencode.specs.Faults.{pairs_of}
use Rattle.kad_bencode.specs.Machine.{Keyless, run, HasByte}
use Rattle.kad_bencode.specs.Finding.{ArePairs}
use Rattle.kad_bencode.specs.Naming.{named, pairs_at, pairs_in, pairs_named, named_pairs, IsFirstPair, IsDictWith, IsDictOf}
use Rattle.kad_bencode.specs.declared.entries.Pair.{Pair}
use Rattle.kad_bencode.specs.declared.value.Value.{Value}
use Rattle.kad_bencode.specs.declared.value.Value.TheVariants as value
use Rattle.kad_bencode.proofs.First.{string_long}
use Rattle.kad_bencode.proofs.Limits.{dict_fits}
use Rattle.kad_bencode.proofs.Takes.{pairs_taken}
use Rattle.kad_bencode.proofs.Layers.{dict_is}
use Rattle.kad_bencode.proofs.Looking.{of_tree, are_pairs, long, value_named, value_ordered}
use Rattle.kad_bencode.proofs.Pieces.{is_dict, named_is, names_itself}

pub pairs_is : (bytes : List ℕ) (ps : List (Pair Value)) → ArePairs bytes ps → pairs_in bytes ≡ ps
pairs_is bytes ps a = ap (λ l. pairs_at (run (Some (Keyless [] [])) l)) (a.text ∙ sym (append-nil (pairs_text (pairs_of ps)))) ∙ ap pairs_at (pairs_taken ps [] [])

pub themselves : (bytes : List ℕ) (ps : List (Pair Value)) → ArePairs bytes ps → ArePairs bytes (pairs_in bytes)
themselves bytes ps a = subst (ArePairs bytes) (sym (pairs_is bytes ps a)) a

-- ---- the first pair

pub none_left : (bytes : List ℕ) → length bytes ≤ 0 → (ps : List (Pair Value)) → ArePairs bytes ps → ps ≡ []
none_left bytes h [] a = refl
none_left bytes h (p ∷ ps) a =
    let l = ap length a.text in
    let m = length-append (string_text p.key ++ text_of p.value) (pairs_text (pairs_of ps)) in
    let n = length-append (string_text p.key) (text_of p.value) in
    let k = string_long p.key in
    absurd (omega (arith, h, l, m, n, k))

pub no_pair : (bytes : List ℕ) → ((p : Pair Value) (ps : List (Pair Value)) → ArePairs bytes (p ∷ ps) → ⊥) → (ps : List (Pair Value)) → ArePairs bytes ps → ps ≡ []
no_pair bytes none [] a = refl
no_pair bytes none (p ∷ ps) a = absurd (none p ps a)

pub one_pair : (bytes key text rest : List ℕ) → 0 < length bytes → ((p : Pair Value) (ps : List (Pair Value)) → ArePairs bytes (p ∷ ps) → (key ≡ p.key) × (text ≡ text_of p.value) × ArePairs rest ps) → (ps : List (Pair Value)) → ArePairs bytes ps → IsFirstPair ps key text rest
one_pair bytes key text rest h reads [] a = absurd (let l = ap length a.text in omega (arith, h, l))
one_pair bytes key text rest h reads (p ∷ ps) a =
    let r = reads p ps a in
    record { pair = p; others = ps; cut = refl; key_is = r.0; spells = record { tree = p.value; text = r.1; fits = a.fits.0; names = refl }; left = r.2 }

pub pair_named : (pairs : List (Pair Value)) (key text rest : List ℕ) → IsFirstPair pairs key text rest → pairs_named pairs ≡ record { key = key; value = named text } ∷ named_pairs rest
pair_named pairs key text rest f =
    ap pairs_named f.cut
    ∙ (λ i. record { key = sym f.key_is i; value = sym (named_is text (in_order f.pair.value) f.spells) i } ∷ pairs_named (sym (pairs_is rest f.others f.left) i))

pub pair_invariants : (pairs : List (Pair Value)) (key text rest : List ℕ) → IsFirstPair pairs key text rest → Spells text (named text) × ArePairs rest (pairs_in rest)
pair_invariants pairs key text rest f = (names_itself text (in_order f.pair.value) f.spells, themselves rest f.others f.left)

-- ---- all of them

pub is_dict_of : (bytes : List ℕ) (v : Value) → Spells bytes v → HasByte bytes 0 100 true → (n : ℕ) → n ≡ length bytes - 2 → IsDictOf v (take n (drop 1 bytes))
is_dict_of bytes v s h n e =
    let d = is_dict bytes v s h in
    let t : Spells bytes (value.Dict d.0) = subst (Spells bytes) d.1 s in
    let o = of_tree bytes d.0 t in
    let f = dict_fits [] o.0 (subst (Fits 0) o.1 t.fits) in
    record {
      pairs = o.0;
      texts = are_pairs bytes d.0 t n e;
      whole = record {
        dict = d.0;
        dict_is = ap dict_of d.1 ∙ dict_is dict_in d.0;
        same = λ key. value_ordered o.0 key ∙ sym (value_named o.0 key f.2) ∙ ap (λ l. value_of l key) (sym o.2);
        filed = o.2;
      };
    }

pub dict_long : (bytes : List ℕ) (v : Value) → Spells bytes v → HasByte bytes 0 100 true → 2 ≤ length bytes
dict_long bytes v s h = let d = is_dict bytes v s h in long bytes d.0 (subst (Spells bytes) d.1 s)

pub dict_named : (v : Value) (bytes : List ℕ) → IsDictOf v bytes → ArePairs bytes (pairs_in bytes) × IsDictWith v (named_pairs bytes)
dict_named v bytes d = (themselves bytes d.pairs d.texts, subst (λ ps. IsDictWith v (pairs_named ps)) (sym (pairs_is bytes d.pairs d.texts)) d.whole)
