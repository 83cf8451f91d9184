-- The steps of the reader over values, lists and dictionaries.
use Rattle.std.proofs.Common.{◌≡◌, ℕ, suc, ◌+◌, ◌-◌, ◌<◌, ◌≤◌, Bool, true, false, cond, List, [], ◌∷◌, ◌++◌, length, take, drop, get_or, Option, Some, None, is_some, option_copied, Bor, ℤ, nat_eq, refl, sym, ap, ◌∙◌, arith, ◌⊎◌}
use Rattle.std.specs.List.{AllByRecursion}
use Rattle.std.proofs.lemmas.Bool.Decides.{nat_tests}
use Rattle.std.proofs.lemmas.List.{take_all}
use Rattle.std.proofs.Math.Seq.{drop-cons}
use Rattle.kad_bencode.specs.Keys.{keys_of}
use Rattle.kad_bencode.specs.Spelling.{string_text, has_key, in_order, Fits, Spells}
use Rattle.kad_bencode.specs.Faults.{Open, InList, InPair, IsAt, IsFirstFault}
use Rattle.kad_bencode.specs.Machine.{Place, AsValue, AsKey, State, Ready, Keyless, Whole, Sign, NoLength, Length, filled, closed, is_digit, is_nonzero, length_begins, step, Reached, FitsPairs, FitsOpen, Awaits, AwaitsInteger, AwaitsString, ReadsValue, ReadsInteger, ReadsString, HasByte}
use Rattle.kad_bencode.specs.declared.entries.Pair.{Pair}
use Rattle.kad_bencode.specs.declared.value.Value.{Value}
use Rattle.kad_bencode.specs.declared.value.Value.TheVariants as value
use Rattle.kad_bencode.specs.declared.value.Bad.TheVariants.{Deep, KeyTwice, Trailing}
use Rattle.kad_bencode.proofs.Said.{run_front, is_equal}
use Rattle.kad_bencode.proofs.Limits.{all_push, fits_list, fits_dict, fits_text, fits_int, at_most_16, fits_pairs_push}
use Rattle.kad_bencode.proofs.First.{reached_more, first}
use Rattle.kad_bencode.proofs.Reading.{different, stands_between, length_between}

-- ---- values

pub awaits_integer : (bytes : List ℕ) (at : ℕ) (os : List Open) → Awaits bytes at os → AwaitsInteger bytes at os
awaits_integer bytes at os a = record { begins = a.reached; fits = a.fits }

pub integer_value : (bytes : List ℕ) (at : ℕ) (os : List Open) (n : ℤ) (next : ℕ) → Awaits bytes at os → ReadsInteger bytes at os n next → ReadsValue bytes at os next
integer_value bytes at os n next a r = record {
  tree = value.Int n;
  reached = r.reached;
  fits = fits_int (length os) n (at_most_16 os a.fits) r.plain;
  within = r.within;
  after = r.after;
}

-- a byte that stands at a place
pub begun : (bytes : List ℕ) (at b : ℕ) → HasByte bytes at b true → IsAt bytes at (b ∷ [])
begun bytes at b h = (drop (suc at) bytes, drop-cons bytes at 0 h.0 ∙ ap (λ x. x ∷ drop (suc at) bytes) h.1)

pub too_deep : (bytes : List ℕ) (at : ℕ) (os : List Open) → Awaits bytes at os → length os ≡ 16
    → IsAt bytes at (108 ∷ []) ⊎ IsAt bytes at (100 ∷ []) → IsFirstFault bytes (Deep at)
too_deep bytes at os a many h = record {
  seen = at;
  here = (record { opens = os; front = run_front (take at bytes) (Ready os) a.reached; many = many; begins = h }, refl);
  first = first bytes at (Ready os) a.reached a.fits a.within;
}

pub list_opened : (bytes : List ℕ) (at : ℕ) (os : List Open) → Awaits bytes at os → HasByte bytes at 108 true → Reached bytes (at + 1) (Ready (InList [] ∷ os))
list_opened bytes at os a h = reached_more bytes at (Ready os) (Ready (InList [] ∷ os)) a.reached h.0 (ap (step (Ready os)) h.1)

pub dictionary_opened : (bytes : List ℕ) (at : ℕ) (os : List Open) → Awaits bytes at os → HasByte bytes at 100 true → Reached bytes (at + 1) (Keyless os [])
dictionary_opened bytes at os a h = reached_more bytes at (Ready os) (Keyless os []) a.reached h.0 (ap (step (Ready os)) h.1)

pub opened_value : (bytes : List ℕ) (at : ℕ) (os : List Open) (next : ℕ) → ReadsValue bytes (at + 1) os next → ReadsValue bytes at os next
opened_value bytes at os next r = let after : at + 1 < next = r.after in record { tree = r.tree; reached = r.reached; fits = r.fits; within = r.within; after = omega arith }

no_length : (p : Place) (b : ℕ) → is_digit b ≡ false → length_begins p b ≡ None
no_length p b h =
    ap (λ c. cond c (Some (NoLength p)) (cond (is_nonzero b) (Some (Length p (b - 48))) None)) (not_zero b h)
    ∙ ap (λ c. cond c (Some (Length p (b - 48))) None) (not_more b h)
  where
    not_zero : (b : ℕ) → is_digit b ≡ false → nat_eq b 48 ≡ false
    not_zero b h = grind (arith, nat_tests)

    not_more : (b : ℕ) → is_digit b ≡ false → is_nonzero b ≡ false
    not_more b h = grind (arith, nat_tests)

stuck_ready : (os : List Open) (b : ℕ) → (b ≡ 105 → ⊥) → (b ≡ 108 → ⊥) → (b ≡ 100 → ⊥) → (b ≡ 101 → closed os ≡ None) → is_digit b ≡ false → step (Ready os) b ≡ None
stuck_ready os b i l d e n =
    ap (λ c. cond c (Some (Sign os)) (cond (nat_eq b 108) (Some (Ready (InList [] ∷ os))) (cond (nat_eq b 100) (Some (Keyless os [])) (cond (nat_eq b 101) (closed os) (length_begins (AsValue os) b))))) (different b 105 i)
    ∙ ap (λ c. cond c (Some (Ready (InList [] ∷ os))) (cond (nat_eq b 100) (Some (Keyless os [])) (cond (nat_eq b 101) (closed os) (length_begins (AsValue os) b)))) (different b 108 l)
    ∙ ap (λ c. cond c (Some (Keyless os [])) (cond (nat_eq b 101) (closed os) (length_begins (AsValue os) b))) (different b 100 d)
    ∙ ends (nat_eq b 101) (closed os) (length_begins (AsValue os) b) (λ h. e (is_equal b 101 h)) (no_length (AsValue os) b n)
  where
    ends : (c : Bool) (x y : Option State) → (c ≡ true → x ≡ None) → y ≡ None → cond c x y ≡ None
    ends true x y f g = f refl
    ends false x y f g = g

pub awaits_text : (bytes : List ℕ) (at : ℕ) (os : List Open) → Awaits bytes at os → HasByte bytes at 105 false → HasByte bytes at 108 false → HasByte bytes at 100 false → AwaitsString bytes at (AsValue os)
awaits_text bytes at os a i l d = record {
  reached = a.reached;
  fits = a.fits;
  within = a.within;
  goes = λ h n. stuck_ready os (get_or bytes at 0) (i h) (l h) (d h) (a.goes h) n;
}

pub text_value : (bytes : List ℕ) (at : ℕ) (os : List Open) (s : List ℕ) (next : ℕ) → Awaits bytes at os → ReadsString bytes at (AsValue os) s next → ReadsValue bytes at os next
text_value bytes at os s next a r = record {
  tree = value.Text s;
  reached = r.reached;
  fits = fits_text (length os) s (at_most_16 os a.fits);
  within = r.within;
  after = r.after;
}

-- ---- lists

pub record ListSoFar (bytes : List ℕ) (at : ℕ) (os : List Open) : Type 0 where
  pub trees : List Value
  pub reached : Reached bytes at (Ready (InList trees ∷ os))
  pub fits : AllByRecursion (Fits (suc (length os))) trees

pub list_awaits : (bytes : List ℕ) (at : ℕ) (os : List Open) (l : ListSoFar bytes at os) → suc (length os) ≤ 16 → FitsOpen os → at ≤ length bytes → HasByte bytes at 101 false → Awaits bytes at (InList l.trees ∷ os)
list_awaits bytes at os l d f h n = record { reached = l.reached; fits = (d, l.fits, f); within = h; goes = λ k e. absurd (n k e) }

pub list_more : (bytes : List ℕ) (at : ℕ) (os : List Open) (next : ℕ) (l : ListSoFar bytes at os) → ReadsValue bytes at (InList l.trees ∷ os) next → ListSoFar bytes next os
list_more bytes at os next l r = record {
  trees = l.trees ++ r.tree ∷ [];
  reached = r.reached;
  fits = all_push (Fits (suc (length os))) l.trees r.tree l.fits r.fits;
}

pub list_ends : (bytes : List ℕ) (from at : ℕ) (os : List Open) → ListSoFar bytes at os → suc (length os) ≤ 16 → from ≤ at → HasByte bytes at 101 true → ReadsValue bytes from os (at + 1)
list_ends bytes from at os l d k h =
    let inside : at < length bytes = h.0 in
    record {
      tree = value.List l.trees;
      reached = reached_more bytes at (Ready (InList l.trees ∷ os)) (filled os (value.List l.trees)) l.reached h.0 (ap (step (Ready (InList l.trees ∷ os))) h.1);
      fits = fits_list (length os) l.trees d l.fits;
      within = omega arith;
      after = omega arith;
    }

-- ---- dictionaries

pub record PairsSoFar (bytes : List ℕ) (at : ℕ) (os : List Open) : Type 0 where
  pub pairs : List (Pair Value)
  pub reached : Reached bytes at (Keyless os pairs)
  pub fits : FitsPairs os pairs

pub pairs_await : (bytes : List ℕ) (at : ℕ) (os : List Open) (l : PairsSoFar bytes at os) → FitsOpen os → at ≤ length bytes → HasByte bytes at 101 false → AwaitsString bytes at (AsKey os l.pairs)
pairs_await bytes at os l f h n = record {
  reached = l.reached;
  fits = (l.fits, f);
  within = h;
  goes = λ k e. ap (λ c. cond c (Some (filled os (value.Dict l.pairs))) (length_begins (AsKey os l.pairs) (get_or bytes at 0))) (different (get_or bytes at 0) 101 (n k)) ∙ no_length (AsKey os l.pairs) (get_or bytes at 0) e;
}

pub key_twice : (bytes : List ℕ) (at : ℕ) (os : List Open) (key : List ℕ) (next : ℕ) (l : PairsSoFar bytes at os) → at ≤ length bytes → ReadsString bytes at (AsKey os l.pairs) key next → has_key (keys_of l.pairs) key ≡ true → IsFirstFault bytes (KeyTwice at)
key_twice bytes at os key next l k r h =
    let after : at < next = r.after in
    let within : next ≤ length bytes = r.within in
    record {
      seen = next - 1;
      here = record {
        opens = os;
        pairs = l.pairs;
        front = run_front (take at bytes) (Keyless os l.pairs) l.reached;
        key = key;
        stands = stands_between bytes at next (string_text key) k r.text;
        last = length_between bytes at next (string_text key) k r.within r.text ∙ (let e : next ≡ next - 1 + 1 = omega arith in e);
        twice = h;
      };
      first = first bytes (next - 1) r.state r.before_last r.fits (omega arith);
    }

pub key_new : (bytes : List ℕ) (at : ℕ) (os : List Open) (key : List ℕ) (next : ℕ) (l : PairsSoFar bytes at os) → FitsOpen os → ReadsString bytes at (AsKey os l.pairs) key next → has_key (keys_of l.pairs) key ≡ false → Awaits bytes next (InPair l.pairs key ∷ os)
key_new bytes at os key next l f r h = record {
  reached = r.reached;
  fits = (l.fits, h, f);
  within = r.within;
  goes = λ k e. refl;
}

abbrev pub pairs_more : (bytes : List ℕ) (at : ℕ) (os : List Open) (key : List ℕ) (behind next : ℕ) (l : PairsSoFar bytes at os) → has_key (keys_of l.pairs) key ≡ false → ReadsValue bytes behind (InPair l.pairs key ∷ os) next → PairsSoFar bytes next os
pairs_more bytes at os key behind next l h r = record {
  pairs = l.pairs ++ record { key = key; value = r.tree } ∷ [];
  reached = r.reached;
  fits = fits_pairs_push os l.pairs key r.tree l.fits h r.fits;
}

pub pairs_end : (bytes : List ℕ) (from at : ℕ) (os : List Open) → PairsSoFar bytes at os → from ≤ at → HasByte bytes at 101 true → ReadsValue bytes from os (at + 1)
pairs_end bytes from at os l k h =
    let inside : at < length bytes = h.0 in
    record {
      tree = value.Dict l.pairs;
      reached = reached_more bytes at (Keyless os l.pairs) (filled os (value.Dict l.pairs)) l.reached h.0 (ap (step (Keyless os l.pairs)) h.1);
      fits = fits_dict os l.pairs l.fits;
      within = omega arith;
      after = omega arith;
    }

-- ---- the whole

pub awaits_first : (bytes : List ℕ) → Awaits bytes 0 []
awaits_first bytes = record { reached = refl; fits = tt; within = omega arith; goes = λ h e. refl }

pub whole : (bytes : List ℕ) (next : ℕ) (r : ReadsValue bytes 0 [] next) → length bytes ≤ next → Spells bytes (in_order r.tree)
whole bytes next r h = record {
  tree = r.tree;
  text = sym (take_all next bytes h) ∙ run_front (take next bytes) (Whole r.tree) r.reached;
  fits = r.fits;
  names = refl;
}

pub trailing : (bytes : List ℕ) (next : ℕ) → ReadsValue bytes 0 [] next → next < length bytes → IsFirstFault bytes (Trailing next)
trailing bytes next r h = record {
  seen = next;
  here = (record { whole = (r.tree, run_front (take next bytes) (Whole r.tree) r.reached); more = h }, refl);
  first = first bytes next (Whole r.tree) r.reached r.fits r.within;
}

-- ---- exits

pub some_copied : {V : Type 0} (o : Option (Bor V)) → is_some (option_copied o) ≡ is_some o
some_copied None = refl
some_copied (Some x) = refl
