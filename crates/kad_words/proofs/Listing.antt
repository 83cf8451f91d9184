-- The options of a command, one after the other.
use Rattle.std.proofs.Common.{[], ◌≡◌, ℕ, ◌+◌, ◌<◌, Bool, true, false, List, ◌∷◌, length, get_or, drop, Some, refl, sym, ap, ◌∙◌, subst, drop-cons, add-one}
use Rattle.std.specs.Prelude.{◌↔◌, bytes_eq, All}
use Rattle.std.proofs.lemmas.Cmp.{nat_list_eq_equiv}
use Rattle.std.proofs.lemmas.Slice.Eq.{bytes_eq-Decides}
use Rattle.std.proofs.lemmas.List.Elements.{All-cons, All-head, All-tail}
use Rattle.kad_words.specs.Table.{Entry, Word, kind_named, option_word}
use Rattle.kad_words.specs.Listed.{entries_of, entry_of}
use Rattle.kad_words.specs.Plain.{AreThere, IsThere, pairs_of, value_of}
use Rattle.kad_words.specs.declared.choice.Choice.{Choice}
use Rattle.kad_words.specs.declared.choice.Kind.TheVariants.{Identifier}
use Rattle.kad_words.specs.declared.choice.Need.TheVariants.{Required}

-- ---- words that are one, or not

pub one_word : (a b : Word) → a ≡ b → bytes_eq a b ≡ true
one_word a b e = ap (λ (x : Word). bytes_eq x b) e ∙ nat_list_eq_equiv.refl b

pub two_words_apart : (a b : Word) → (a ≡ b → ⊥) → bytes_eq a b ≡ false
two_words_apart a b apart = go (bytes_eq a b) refl
  where
    go : (t : Bool) → bytes_eq a b ≡ t → bytes_eq a b ≡ false
    go true e = absurd (apart ((bytes_eq-Decides a b).0 e))
    go false e = e

-- ---- the options from one on

-- what stands past the end of a list of options
abbrev pub past : Choice
past = record { name = record { ref_ptr = (0, 0); now = [] }; kind = Identifier; need = Required }

from_here : (xs : List Choice) (i : ℕ) (d : Choice) → i < length xs → entries_of (drop i xs) ≡ entry_of (get_or xs i d) ∷ entries_of (drop (i + 1) xs)
from_here xs i d lt = ap entries_of (drop-cons xs i d lt) ∙ rw add-one refl

pub kind_here : (xs : List Choice) (i : ℕ) (d : Choice) (word : Word) → i < length xs → word ≡ option_word (get_or xs i d).name.now
    → Some (get_or xs i d).kind ≡ kind_named (entries_of (drop i xs)) word
kind_here xs i d word lt is =
    let hit = one_word (option_word (get_or xs i d).name.now) word (sym is) in
    rw (from_here xs i d lt, hit) refl

pub kind_passed : (xs : List Choice) (i : ℕ) (d : Choice) (word : Word) → i < length xs → (word ≡ option_word (get_or xs i d).name.now → ⊥)
    → kind_named (entries_of (drop (i + 1) xs)) word ≡ kind_named (entries_of (drop i xs)) word
kind_passed xs i d word lt other =
    let miss = two_words_apart (option_word (get_or xs i d).name.now) word (λ e. other (sym e)) in
    rw (from_here xs i d lt, miss) refl

-- ---- those that have to stand

module _ (pairs : List (Word × Word)) where
  abbrev There : Entry → Type 0
  There e = IsThere e.need (value_of (option_word e.name) pairs)

  pub lacking : (xs : List Choice) (i : ℕ) (d : Choice) → i < length xs → (There (entry_of (get_or xs i d)) → ⊥) → AreThere (entries_of (drop i xs)) pairs → ⊥
  lacking xs i d lt lacks h = lacks (All-head There (entry_of (get_or xs i d)) (entries_of (drop (i + 1) xs)) (subst (All There) (from_here xs i d lt) h))

  pub there_too : (P : Type 0) (xs : List Choice) (i : ℕ) (d : Choice) → i < length xs → There (entry_of (get_or xs i d)) → AreThere (entries_of (drop i xs)) pairs ↔ P → AreThere (entries_of (drop (i + 1) xs)) pairs ↔ P
  there_too P xs i d lt stands whole = (
    λ h. whole.0 (subst (All There) (sym (from_here xs i d lt)) (All-cons There (entry_of (get_or xs i d)) (entries_of (drop (i + 1) xs)) stands h)),
    λ p. All-tail There (entry_of (get_or xs i d)) (entries_of (drop (i + 1) xs)) (subst (All There) (from_here xs i d lt) (whole.1 p)),
  )

-- ---- a pair that is passed over

pub value_passed : (name o v : Word) (words more : List Word) → words ≡ o ∷ v ∷ more → (o ≡ name → ⊥) → value_of name (pairs_of more) ≡ value_of name (pairs_of words)
value_passed name o v words more e other =
    let miss = two_words_apart o name other in
    rw (e, miss) refl
