-- From pairs that the plain form has to the pairs that clap reads.
use Rattle.std.proofs.Common.{◌≡◌, Bool, true, false, cond, ◌||◌, List, [], ◌∷◌, map, drop, Option, Some, None, refl, sym, ap, ap₂, ◌∙◌, subst}
use Rattle.std.specs.Prelude.{All, bytes_eq, find, option_map}
use Rattle.std.specs.List.{AllByRecursion, IsDistinct}
use Rattle.std.specs.Option.{IsSomeAnd}
use Rattle.std.proofs.lemmas.Bool.{and_parts}
use Rattle.std.proofs.lemmas.List.Elements.{All-head, All-tail}
use Rattle.std.proofs.lemmas.Map.Keys.{IsDistinct-head, IsDistinct-tail}
use Rattle.std.proofs.lemmas.Slice.Eq.{bytes_eq-Decides}
use Rattle.kad_words.specs.Table.{Entry, Word, kind_named, option_word}
use Rattle.kad_words.specs.Listed.{entries_of}
use Rattle.kad_words.specs.Plain.{Belongs, IsOfKind, IsValue, values_of, words_of}
use Rattle.kad_words.specs.Taken.{are_names, is_name, names_of}
use Rattle.kad_words.specs.declared.choice.Choice.{Choice}
use Rattle.kad_words.specs.declared.choice.Kind.{Kind}
use Rattle.kad_words.proofs.ClapWalk.{Fine, has, pair_words}
use Rattle.kad_words.proofs.Listing.{one_word}

-- a pair with its option's name in place of its word
abbrev pub strip : Word × Word → Word × Word
strip p = (drop 2 p.0, p.1)

abbrev pub stripped : List (Word × Word) → List (Word × Word)
stripped = map strip

abbrev pub names_in : List Entry → List Word
names_in = map (λ (e : Entry). e.name)

pub names_are : (xs : List Choice) → names_in (entries_of xs) ≡ names_of xs
names_are [] = refl
names_are (x ∷ xs) = ap (λ (ns : List Word). x.name.now ∷ ns) (names_are xs)

or_right : (a b : Bool) → b ≡ true → (a || b) ≡ true
or_right true b e = refl
or_right false b e = e

-- an option that has a kind is the word of a name
named : (entries : List Entry) (word : Word) (kind : Kind) → kind_named entries word ≡ Some kind → (word ≡ option_word (drop 2 word)) × (has (names_in entries) (drop 2 word) ≡ true)
named [] word kind h = cc h
named (e ∷ entries) word kind h = go (bytes_eq (option_word e.name) word) refl (named entries word kind) h
  where
    go : (b : Bool) → bytes_eq (option_word e.name) word ≡ b → (kind_named entries word ≡ Some kind → (word ≡ option_word (drop 2 word)) × (has (names_in entries) (drop 2 word) ≡ true))
        → option_map (λ (x : Entry). x.kind) (cond b (Some e) (find (λ (x : Entry). bytes_eq (option_word x.name) word) entries)) ≡ Some kind
        → (word ≡ option_word (drop 2 word)) × ((bytes_eq e.name (drop 2 word) || has (names_in entries) (drop 2 word)) ≡ true)
    go true t rest is =
        let same : option_word e.name ≡ word = (bytes_eq-Decides (option_word e.name) word).0 t in
        let back : e.name ≡ drop 2 word = ap (drop 2) same in
        (sym same ∙ ap option_word back, ap (λ (b : Bool). b || has (names_in entries) (drop 2 word)) (one_word e.name (drop 2 word) back))
    go false t rest is =
        let more = rest is in
        (more.0, or_right (bytes_eq e.name (drop 2 word)) _ more.1)

belongs_named : (entries : List Entry) (p : Word × Word) → Belongs entries p → (p.0 ≡ option_word (drop 2 p.0)) × (has (names_in entries) (drop 2 p.0) ≡ true) × IsValue p.1
belongs_named entries p h = go (kind_named entries p.0) refl h
  where
    go : (o : Option Kind) → kind_named entries p.0 ≡ o → IsSomeAnd o (λ kind. IsValue p.1 × IsOfKind kind p.1) → (p.0 ≡ option_word (drop 2 p.0)) × (has (names_in entries) (drop 2 p.0) ≡ true) × IsValue p.1
    go None e h = absurd h
    go (Some kind) e h =
        let n = named entries p.0 kind e in
        (n.0, n.1, h.0)

name_among : (names : List Word) (name : Word) → are_names names ≡ true → has names name ≡ true → is_name name ≡ true
name_among [] name h k = cc k
name_among (n ∷ names) name h k =
    let parts = and_parts (is_name n) (are_names names) h in
    go (bytes_eq n name) refl parts.0 (name_among names name parts.1) k
  where
    go : (b : Bool) → bytes_eq n name ≡ b → is_name n ≡ true → (has names name ≡ true → is_name name ≡ true) → (b || has names name) ≡ true → is_name name ≡ true
    go true e here rest k = subst (λ (x : Word). is_name x ≡ true) ((bytes_eq-Decides n name).0 e) here
    go false e here rest k = rest k

module _ (entries : List Entry) (good : are_names (names_in entries) ≡ true) where
  apart : (p : Word × Word) (pairs : List (Word × Word)) → p.0 ≡ option_word (drop 2 p.0) → All (Belongs entries) pairs → AllByRecursion (λ (y : Word). bytes_eq p.0 y ≡ false) (map (λ (q : Word × Word). q.0) pairs)
      → AllByRecursion (λ (q : Word × Word). bytes_eq (drop 2 p.0) q.0 ≡ false) (stripped pairs)
  apart p [] e belong h = tt
  apart p (q ∷ pairs) e belong h =
      let b = belongs_named entries q (All-head (Belongs entries) q pairs belong) in
      let here : bytes_eq (option_word (drop 2 p.0)) (option_word (drop 2 q.0)) ≡ false = ap₂ bytes_eq (sym e) (sym b.0) ∙ h.0 in
      (here, apart p pairs e (All-tail (Belongs entries) q pairs belong) h.1)

  pub fine : (pairs : List (Word × Word)) → All (Belongs entries) pairs → IsDistinct bytes_eq (map (λ (p : Word × Word). p.0) pairs) → Fine (names_in entries) (stripped pairs)
  fine [] belong once = tt
  fine (p ∷ pairs) belong once =
      let b = belongs_named entries p (All-head (Belongs entries) p pairs belong) in
      let more = All-tail (Belongs entries) p pairs belong in
      let keys = map (λ (q : Word × Word). q.0) pairs in (
        b.1,
        name_among (names_in entries) (drop 2 p.0) good b.1,
        b.2,
        apart p pairs b.0 more (IsDistinct-head bytes_eq p.0 keys once),
        fine pairs more (IsDistinct-tail bytes_eq p.0 keys once),
      )

  pub same_words : (pairs : List (Word × Word)) → All (Belongs entries) pairs → words_of pairs ≡ pair_words (stripped pairs)
  same_words [] belong = refl
  same_words (p ∷ pairs) belong =
      let b = belongs_named entries p (All-head (Belongs entries) p pairs belong) in
      ap₂ (λ (o : Word) (l : List Word). o ∷ p.1 ∷ l) b.0 (same_words pairs (All-tail (Belongs entries) p pairs belong))

  pub same_values : (name : Word) (pairs : List (Word × Word)) → All (Belongs entries) pairs
      → option_map (λ (p : Word × Word). p.1) (find (λ (p : Word × Word). bytes_eq p.0 name) (stripped pairs)) ≡ values_of pairs name
  same_values name [] belong = refl
  same_values name (p ∷ pairs) belong =
      let b = belongs_named entries p (All-head (Belongs entries) p pairs belong) in
      let test : bytes_eq p.0 (option_word name) ≡ bytes_eq (drop 2 p.0) name = ap (λ (o : Word). bytes_eq o (option_word name)) b.0 in
      go (bytes_eq (drop 2 p.0) name) (same_values name pairs (All-tail (Belongs entries) p pairs belong))
      ∙ sym (ap (λ (t : Bool). option_map (λ (q : Word × Word). q.1) (cond t (Some p) (find (λ (q : Word × Word). bytes_eq q.0 (option_word name)) pairs))) test)
    where
      go : (b : Bool) → option_map (λ (q : Word × Word). q.1) (find (λ (q : Word × Word). bytes_eq q.0 name) (stripped pairs)) ≡ values_of pairs name
          → option_map (λ (q : Word × Word). q.1) (cond b (Some (strip p)) (find (λ (q : Word × Word). bytes_eq q.0 name) (stripped pairs)))
          ≡ option_map (λ (q : Word × Word). q.1) (cond b (Some p) (find (λ (q : Word × Word). bytes_eq q.0 (option_word name)) pairs))
      go true e = refl
      go false e = e
