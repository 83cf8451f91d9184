-- Words that are of the plain form, seen from their first word.
use Rattle.std.proofs.Common.{◌≡◌, ◌<◌, Bool, true, false, cond, List, [], ◌∷◌, length, drop, Option, Some, None, MatchOption, Result, Ok, Err, IfOk, IfErr, refl, sym, ap, ap₂, ◌∙◌, subst, arith}
use Rattle.std.specs.Prelude.{◌↔◌, IsTrue, All, IfSome, bytes_eq, find, option_map}
use Rattle.std.specs.Option.{IsSomeAnd}
use Rattle.std.specs.Bool.{then_some}
use Rattle.std.proofs.lemmas.List.Elements.{All-head, All-tail}
use Rattle.std.proofs.lemmas.Slice.Eq.{bytes_eq-Decides}
use Rattle.kad_words.specs.Table.{Entry, Word, kind_named, option_word, options_of, kind_word, Says, Values, word_of}
use Rattle.kad_words.specs.Listed.{entries_of}
use Rattle.kad_words.specs.Plain.{AreThere, Belongs, CommandOf, InPairs, IsOfKind, IsPlain, IsThere, IsValue, pairs_of, value_of, values_of, words_of}
use Rattle.kad_words.specs.Fitting.{AllFit, Fits, IsPlainBy}
use Rattle.kad_words.specs.Taken.{are_names, names_of}
use Rattle.kad_words.specs.declared.choice.Choice.{Choice}
use Rattle.kad_words.specs.declared.choice.Kind.{Kind}
use Rattle.kad_words.specs.declared.command.Command.{Command}
use Rattle.kad_words.specs.declared.command.CommandKind.{CommandKind}
use Rattle.kad_words.specs.declared.command.CommandKind.TheVariants as kind
use Rattle.kad_words.proofs.Stripped.{names_are, names_in}

-- ---- the pairs are the words two by two

pairs_back : (pairs : List (Word × Word)) → pairs_of (words_of pairs) ≡ pairs
pairs_back [] = refl
pairs_back (p ∷ pairs) = ap (λ (l : List (Word × Word)). p ∷ l) (pairs_back pairs)

pub pairs_are : (entries : List Entry) (words : List Word) (pairs : List (Word × Word)) → InPairs entries words pairs → pairs ≡ pairs_of words
pairs_are entries words pairs h = sym (pairs_back pairs) ∙ ap pairs_of (sym h.joined)

-- ---- whether they are plain

pub no_command : (texts rest : List Word) (first : Word) → texts ≡ first ∷ rest → ((n : CommandKind) → first ≡ kind_word n → ⊥) → IsPlain texts → ⊥
no_command texts rest first cut other h = other h.kind (let e = h.begins in cc)

pub by_name : (n : CommandKind) (texts rest : List Word) (first : Word) → texts ≡ first ∷ rest → first ≡ kind_word n → IsPlain texts
    → InPairs (options_of (kind_word n)) rest (pairs_of rest) × AreThere (options_of (kind_word n)) (pairs_of rest)
by_name n texts rest first cut is h =
    let command : kind_word h.kind ≡ kind_word n = (let e = h.begins in cc) in
    let tail : h.rest ≡ rest = (let e = h.begins in cc) in
    let pairs = pairs_are (options_of (kind_word h.kind)) h.rest h.pairs h.plain ∙ ap pairs_of tail in
    let options = ap options_of command in (
      subst (λ (es : List Entry). InPairs es rest (pairs_of rest)) options
          (subst (λ (ps : List (Word × Word)). InPairs (options_of (kind_word h.kind)) rest ps) pairs (subst (λ (ws : List Word). InPairs (options_of (kind_word h.kind)) ws h.pairs) tail h.plain)),
      subst (λ (es : List Entry). AreThere es (pairs_of rest)) options (subst (AreThere (options_of (kind_word h.kind))) pairs h.there),
    )

pub plain_by : (n : CommandKind) (texts rest : List Word) (first : Word) → texts ≡ first ∷ rest → first ≡ kind_word n → InPairs (options_of (kind_word n)) rest (pairs_of rest)
    → AreThere (options_of (kind_word n)) (pairs_of rest) → IsPlainBy n texts
plain_by n texts rest first cut is plain there =
    let tail : rest ≡ drop 1 texts = sym (ap (drop 1) cut) in
    record {
      begins = cut ∙ ap₂ (λ (w : Word) (l : List Word). w ∷ l) is tail;
      plain = subst (λ (l : List Word). InPairs (options_of (kind_word n)) l (pairs_of l)) tail plain;
      there = subst (λ (l : List Word). AreThere (options_of (kind_word n)) (pairs_of l)) tail there;
    }

pub is_plain_then : (n : CommandKind) (texts : List Word) → IsPlainBy n texts → IsPlain texts
is_plain_then n texts h = record {
  kind = n;
  rest = drop 1 texts;
  pairs = pairs_of (drop 1 texts);
  begins = h.begins;
  plain = h.plain;
  there = h.there;
}

pub some_word : (n : CommandKind) (texts : List Word) → IsPlainBy n texts → 0 < length texts
some_word n texts h = (let e = ap length h.begins in omega arith)

-- the names of a command's options are names that clap doesn't cut
good_names : (n : CommandKind) → are_names (names_in (options_of (kind_word n))) ≡ true
good_names kind.Lookup = refl
good_names other = refl

pub names_good : (n : CommandKind) (choices : List Choice) → entries_of choices ≡ options_of (kind_word n) → are_names (names_of choices) ≡ true
names_good n choices e = ap are_names (sym (names_are choices) ∙ ap names_in e) ∙ good_names n

-- ---- the values fit

found_passes : (p : Entry → Bool) (xs : List Entry) (e : Entry) → find p xs ≡ Some e → p e ≡ true
found_passes p [] e h = cc h
found_passes p (x ∷ xs) e h = go (p x) refl (found_passes p xs e) h
  where
    go : (b : Bool) → p x ≡ b → (find p xs ≡ Some e → p e ≡ true) → cond b (Some x) (find p xs) ≡ Some e → p e ≡ true
    go true t more h =
        let same : x ≡ e = cc in
        ap p (sym same) ∙ t
    go false t more h = more h

found_holds : (P : Entry → Type 0) (p : Entry → Bool) (xs : List Entry) (e : Entry) → All P xs → find p xs ≡ Some e → P e
found_holds P p [] e all h = cc h
found_holds P p (x ∷ xs) e all h = go (p x) (found_holds P p xs e (All-tail P x xs all)) h
  where
    go : (b : Bool) → (find p xs ≡ Some e → P e) → cond b (Some x) (find p xs) ≡ Some e → P e
    go true more h =
        let same : x ≡ e = cc in
        subst P same (All-head P x xs all)
    go false more h = more h

value_belongs : (entries : List Entry) (o : Word) (pairs : List (Word × Word)) → All (Belongs entries) pairs → IfSome (value_of o pairs) (λ v. Belongs entries (o, v))
value_belongs entries o [] all = tt
value_belongs entries o (p ∷ pairs) all = go (bytes_eq p.0 o) refl (All-head (Belongs entries) p pairs all) (value_belongs entries o pairs (All-tail (Belongs entries) p pairs all))
  where
    go : (b : Bool) → bytes_eq p.0 o ≡ b → Belongs entries p → IfSome (value_of o pairs) (λ v. Belongs entries (o, v))
        → IfSome (option_map (λ (q : Word × Word). q.1) (cond b (Some p) (find (λ (q : Word × Word). bytes_eq q.0 o) pairs))) (λ v. Belongs entries (o, v))
    go true t here more = subst (λ (w : Word). Belongs entries (w, p.1)) ((bytes_eq-Decides p.0 o).0 t) here
    go false t here more = more

of_kind : (kind : Kind) (o : Option Kind) (v : Word) → o ≡ Some kind → IsSomeAnd o (λ k. IsValue v × IsOfKind k v) → IsOfKind kind v
of_kind kind None v e h = absurd h
of_kind kind (Some k) v e h =
    let same : k ≡ kind = cc in
    subst (λ (x : Kind). IsOfKind x v) same h.1

each_of_kind : (entries : List Entry) (o : Word) (kind : Kind) (value : Option Word) → kind_named entries o ≡ Some kind → IfSome value (λ v. Belongs entries (o, v)) → IfSome value (IsOfKind kind)
each_of_kind entries o kind None e h = tt
each_of_kind entries o kind (Some v) e h = of_kind kind (kind_named entries o) v e h

pub all_fit : (entries : List Entry) (words : List Word) (pairs : List (Word × Word)) → InPairs entries words pairs → AreThere entries pairs → AllFit entries (values_of pairs)
all_fit entries words pairs plain there name e found =
    let same : e.name ≡ name = (bytes_eq-Decides e.name name).0 (found_passes (λ (x : Entry). bytes_eq x.name name) entries e found) in
    let kind : kind_named entries (option_word name) ≡ Some e.kind = ap (option_map (λ (x : Entry). x.kind)) found in
    let stands = found_holds (λ (x : Entry). IsThere x.need (value_of (option_word x.name) pairs)) (λ (x : Entry). bytes_eq x.name name) entries e there found in (
      subst (λ (w : Word). IsThere e.need (value_of (option_word w) pairs)) same stands,
      each_of_kind entries (option_word name) e.kind (value_of (option_word name) pairs) kind (value_belongs entries (option_word name) pairs plain.belong),
    )

-- the same of other values that are one by one the same
pub fit_too : (entries : List Entry) (value taken : Values) → ((n : Word) → taken n ≡ value n) → AllFit entries value → AllFit entries taken
fit_too entries value taken same all name e found = subst (Fits e) (sym (same name)) (all name e found)

pub command_is : (n : CommandKind) (texts : List Word) (taken : Values) (command : Command) → IsPlainBy n texts → ((m : Word) → taken m ≡ values_of (pairs_of (drop 1 texts)) m) → Says taken command
    → word_of command ≡ kind_word n → CommandOf texts command
command_is n texts taken command h same says is =
    let values : taken ≡ values_of (pairs_of (drop 1 texts)) = λ i m. same m i in
    let options : options_of (kind_word n) ≡ options_of (word_of command) = ap options_of (sym is) in
    record {
      rest = drop 1 texts;
      pairs = pairs_of (drop 1 texts);
      begins = h.begins ∙ ap (λ (w : Word). w ∷ drop 1 texts) (sym is);
      plain = subst (λ (es : List Entry). InPairs es (drop 1 texts) (pairs_of (drop 1 texts))) options h.plain;
      there = subst (λ (es : List Entry). AreThere es (pairs_of (drop 1 texts))) options h.there;
      says = subst (λ (v : Values). Says v command) values says;
    }

-- the same of what may be a command
pub commands_are : {F : Type 0} (n : CommandKind) (texts : List Word) (taken : Values) (r : Result Command F) → IsPlainBy n texts → ((m : Word) → taken m ≡ values_of (pairs_of (drop 1 texts)) m) → IfOk r (λ command. Says taken command)
    → IfOk r (λ command. word_of command ≡ kind_word n) → IfOk r (λ command. CommandOf texts command)
commands_are n texts taken (Ok command) h same says is = command_is n texts taken command h same says is
commands_are n texts taken (Err f) h same says is = tt

pub err_shows : {T F : Type 0} (r : Result T F) (P : F → Type 0) (X : Type 0) → X → IfErr r (λ f. P f → X)
err_shows (Ok x) P X h = tt
err_shows (Err f) P X h = λ p. h

pub plain_cases : (n : CommandKind) (texts rest : List Word) (first : Word) (entries : List Entry) (b : Bool) → texts ≡ first ∷ rest → first ≡ kind_word n → entries ≡ options_of (kind_word n)
    → IsTrue b ↔ (InPairs entries rest (pairs_of rest) × AreThere entries (pairs_of rest)) → MatchOption (then_some b n) (IsPlain texts → ⊥) (λ m. IsPlainBy m texts)
plain_cases n texts rest first entries true cut is same h =
    let both = h.0 refl in
    plain_by n texts rest first cut is (subst (λ (es : List Entry). InPairs es rest (pairs_of rest)) same both.0) (subst (λ (es : List Entry). AreThere es (pairs_of rest)) same both.1)
plain_cases n texts rest first entries false cut is same h = λ plain.
    let both = by_name n texts rest first cut is plain in
    cc (h.1 (subst (λ (es : List Entry). InPairs es rest (pairs_of rest)) (sym same) both.0, subst (λ (es : List Entry). AreThere es (pairs_of rest)) (sym same) both.1))
