-- What clap makes of pairs of an option and its value: it takes them, and finds each value under its option's name.
use Rattle.std.proofs.Common.{◌≡◌, ◌≢◌, ℕ, suc, ◌+◌, Bool, true, false, cond, not, ◌&&◌, ◌||◌, ◌==◌, List, [], ◌∷◌, ◌++◌, map, take, Option, Some, None, refl, sym, ap, ap₂, ◌∙◌, subst, arith, append-nil, append_assoc, is_some}
use Rattle.std.proofs.lemmas.Bool.{eqb-true}
use Rattle.std.specs.Prelude.{bytes_eq, count_by, find, option_map, flat_map, nat_eq}
use Rattle.std.specs.List.{AllByRecursion, before_first, fold, list_all, list_any, position_or_len}
use Rattle.std.proofs.lemmas.Cmp.{nat_list_eq_equiv}
use Rattle.std.proofs.lemmas.Slice.Eq.{bytes_eq-Decides}
use Rattle.clap.specs.Lexer.{has_byte, long_of, short_of}
use Rattle.clap.specs.Walk.{Held, Rule, Row, Walk, arg_by_id, arg_by_long, first_of, finished, has_row, is_early_multiple, nothing_held, settled, settled_rows, used, walk, walk_from, walked, with_default, without, with_values, more_values, option}
use Rattle.clap.specs.Simple.{Shape, built, filled, filled_from, is_simple, matches_of}
use Rattle.clap.specs.Takes.{default_passes, settle_passes, takes, use_passes, walk_passes, turn_passes}
use Rattle.clap.specs.declared.builder.value_parser.Reading.TheVariants as reading
use Rattle.clap.specs.declared.parser.matches.ValueSource.TheVariants.{CommandLine}
use Rattle.kad_words.specs.Table.{Word, option_word}
use Rattle.kad_words.specs.Plain.{IsValue}
use Rattle.kad_words.specs.Taken.{app, is_name, rule}

-- ---- the arguments, as clap fills them in

abbrev full : Word → Rule
full name = record (filled (rule name)) { index = None }

abbrev pub all_full : List Word → List Rule
all_full names = map full names

filled_all : (names : List Word) → filled_from 1 (map rule names) ≡ all_full names
filled_all [] = refl
filled_all (n ∷ names) = ap (λ (rs : List Rule). full n ∷ rs) (filled_all names)

-- one of the names
abbrev pub has : List Word → Word → Bool
has names name = list_any (λ (n : Word). bytes_eq n name) names

found : (b : Bool) (n name : Word) (rest : Option Rule) → (b ≡ true → n ≡ name) → (b ≡ false → rest ≡ Some (full name)) → cond b (Some (full n)) rest ≡ Some (full name)
found true n name rest one other = ap (λ (m : Word). Some (full m)) (one refl)
found false n name rest one other = other refl

by_id : (names : List Word) (name : Word) → has names name ≡ true → arg_by_id (all_full names) name ≡ Some (full name)
by_id [] name h = cc h
by_id (n ∷ names) name h =
    found (bytes_eq n name) n name (arg_by_id (all_full names) name) (λ e. (bytes_eq-Decides n name).0 e) (λ e. by_id names name (rw e at h))

or_none : (b : Bool) → (b || false) ≡ b
or_none true = refl
or_none false = refl

by_long : (names : List Word) (name : Word) → has names name ≡ true → arg_by_long (all_full names) name ≡ Some (full name)
by_long [] name h = cc h
by_long (n ∷ names) name h =
    rw (or_none (bytes_eq n name)) (found (bytes_eq n name) n name (arg_by_long (all_full names) name) (λ e. (bytes_eq-Decides n name).0 e) (λ e. by_long names name (rw e at h)))

-- ---- words, as clap sees them

whole_front : (p : ℕ → Bool) (xs : List ℕ) → list_any p xs ≡ false → take (position_or_len p xs) xs ≡ xs
whole_front p [] h = refl
whole_front p (x ∷ xs) h = go (p x) h (whole_front p xs)
  where
    go : (b : Bool) → (b || list_any p xs) ≡ false → (list_any p xs ≡ false → take (position_or_len p xs) xs ≡ xs) → take (cond (not b) (1 + position_or_len p xs) 0) (x ∷ xs) ≡ x ∷ xs
    go true h more = cc h
    go false h more =
        let next : 1 + position_or_len p xs ≡ suc (position_or_len p xs) = omega arith in
        rw next (ap (λ (l : List ℕ). x ∷ l) (more h))

no_equals : (name : Word) → is_name name ≡ true → has_byte 61 name ≡ false
no_equals [] h = refl
no_equals (x ∷ xs) h = go (has_byte 61 (x ∷ xs)) h
  where
    go : (b : Bool) → not b ≡ true → b ≡ false
    go true e = cc e
    go false e = refl

long_name : (name : Word) → is_name name ≡ true → long_of (option_word name) ≡ Some (name, None)
long_name [] h = cc h
long_name (x ∷ xs) h =
    let lacks = no_equals (x ∷ xs) h in
    rw (lacks, whole_front (λ (c : ℕ). c == 61) (x ∷ xs) lacks) refl

-- a value is no option, to clap either
plain_value : (value : Word) → IsValue value → (bytes_eq value (45 ∷ 45 ∷ []) ≡ false) × (long_of value ≡ None) × (short_of value ≡ None)
plain_value [] h = absurd h
plain_value (c ∷ rest) h =
    let e = nat_apart c 45 h in
    rw e (refl, refl, refl)
  where
    nat_apart : (a b : ℕ) → a ≢ b → (a == b) ≡ false
    nat_apart a b apart = go (a == b) refl
      where
        go : (t : Bool) → (a == b) ≡ t → (a == b) ≡ false
        go true e = absurd (apart (eqb-true a b e))
        go false e = e

-- ---- rows

pub row : Word → Word → Row
row name value = record { id = name; values = value ∷ []; count = None; source = Some CommandLine; reading = reading.AsWritten }

abbrev pub rows : List (Word × Word) → List Row
rows pairs = map (λ (p : Word × Word). row p.0 p.1) pairs

kept : (id : Word) (rs : List Row) → has_row id rs ≡ false → without id rs ≡ rs
kept id [] h = refl
kept id (r ∷ rs) h = go (bytes_eq r.id id) h (kept id rs)
  where
    go : (b : Bool) → (b || has_row id rs) ≡ false → (has_row id rs ≡ false → without id rs ≡ rs) → cond b ([] ++ rs) (r ∷ without id rs) ≡ r ∷ rs
    go true h more = cc h
    go false h more = ap (λ (l : List Row). r ∷ l) (more h)

joined : (id value : Word) (rs : List Row) → has_row id rs ≡ false → with_values id reading.AsWritten CommandLine (value ∷ []) rs ≡ rs ++ row id value ∷ []
unfolding row
joined id value [] h = refl
joined id value (r ∷ rs) h = go (bytes_eq r.id id) h (joined id value rs)
  where
    go : (b : Bool) → (b || has_row id rs) ≡ false → (has_row id rs ≡ false → with_values id reading.AsWritten CommandLine (value ∷ []) rs ≡ rs ++ row id value ∷ [])
        → cond b (more_values CommandLine (value ∷ []) r ++ rs) (r ∷ with_values id reading.AsWritten CommandLine (value ∷ []) rs) ≡ r ∷ (rs ++ row id value ∷ [])
    go true h more = cc h
    go false h more = ap (λ (l : List Row). r ∷ l) (more h)

used_once : (name value : Word) (rs : List Row) → has_row name rs ≡ false → used (full name) (value ∷ []) rs ≡ rs ++ row name value ∷ []
used_once name value rs h = ap (with_values name reading.AsWritten CommandLine (value ∷ [])) (kept name rs h) ∙ joined name value rs h

-- one row more
has_more : (name other value : Word) (rs : List Row) → has_row name rs ≡ false → bytes_eq other name ≡ false → has_row name (rs ++ row other value ∷ []) ≡ false
unfolding row
has_more name other value [] h apart = rw apart refl
has_more name other value (r ∷ rs) h apart = go (bytes_eq r.id name) h (has_more name other value rs)
  where
    go : (b : Bool) → (b || has_row name rs) ≡ false → (has_row name rs ≡ false → bytes_eq other name ≡ false → has_row name (rs ++ row other value ∷ []) ≡ false)
        → (b || has_row name (rs ++ row other value ∷ [])) ≡ false
    go true h more = cc h
    go false h more = more h apart

-- what the rows give under a name
pub first_is : (name : Word) (pairs : List (Word × Word)) → first_of name (rows pairs) ≡ option_map (λ (p : Word × Word). p.1) (find (λ (p : Word × Word). bytes_eq p.0 name) pairs)
unfolding row
first_is name [] = refl
first_is name (p ∷ pairs) = go (bytes_eq p.0 name) (first_is name pairs)
  where
    go : (b : Bool) → first_of name (rows pairs) ≡ option_map (λ (q : Word × Word). q.1) (find (λ (q : Word × Word). bytes_eq q.0 name) pairs)
        → Rattle.std.specs.Prelude.option_and_then (λ (r : Row). Rattle.std.specs.Prelude.slice_get r.values 0) (cond b (Some (row p.0 p.1)) (find (λ (r : Row). bytes_eq r.id name) (rows pairs)))
        ≡ option_map (λ (q : Word × Word). q.1) (cond b (Some p) (find (λ (q : Word × Word). bytes_eq q.0 name) pairs))
    go true e = refl
    go false e = e

-- no option has a default
no_defaults : (names : List Word) (rs : List Row) → fold with_default rs (all_full names) ≡ rs
no_defaults [] rs = refl
no_defaults (n ∷ names) rs = ap (λ (l : List Row). fold with_default l (all_full names)) (go (has_row n rs)) ∙ no_defaults names rs
  where
    go : (b : Bool) → cond b rs rs ≡ rs
    go true = refl
    go false = refl

-- ---- the walk over pairs

-- the pairs' options are among the names and don't stand twice, and the values are values
abbrev pub Fine : List Word → List (Word × Word) → Type 0
Fine names [] = Unit {0}
Fine names (p ∷ pairs) = (has names p.0 ≡ true) × (is_name p.0 ≡ true) × IsValue p.1 × AllByRecursion (λ (q : Word × Word). bytes_eq p.0 q.0 ≡ false) pairs × Fine names pairs

-- none of the pairs has a row
abbrev New : List Row → List (Word × Word) → Type 0
New rs pairs = AllByRecursion (λ (q : Word × Word). has_row q.0 rs ≡ false) pairs

new_more : (rs : List Row) (name value : Word) (pairs : List (Word × Word)) → New rs pairs → AllByRecursion (λ (q : Word × Word). bytes_eq name q.0 ≡ false) pairs → New (rs ++ row name value ∷ []) pairs
new_more rs name value [] new apart = tt
new_more rs name value (q ∷ pairs) new apart = (has_more q.0 name value rs new.0 apart.0, new_more rs name value pairs new.1 apart.1)

abbrev pub pair_words : List (Word × Word) → List Word
pair_words pairs = flat_map (λ (p : Word × Word). option_word p.0 ∷ p.1 ∷ []) pairs

no_dashes : (name : Word) → is_name name ≡ true → bytes_eq (option_word name) (45 ∷ 45 ∷ []) ≡ false
no_dashes [] h = cc h
no_dashes (x ∷ xs) h = refl

module _ (s : Shape) (names : List Word) (never : s.args_override_self ≡ false)
    (ids : (n : Word) → has names n ≡ true → arg_by_id s.rules n ≡ Some (full n)) (longs : (n : Word) → has names n ≡ true → arg_by_long s.rules n ≡ Some (full n)) where
  abbrev waiting_for : Held → Word → Walk
  waiting_for h name = record (walk_from (record (settled s.rules h) { pending = Some (name, []) })) { waiting = option name }

  abbrev held_after : Held → Word → Word → Held
  held_after h name value = record (settled s.rules h) { pending = Some (name, value ∷ []) }

  option_step : (h : Held) (word name : Word) → bytes_eq word (45 ∷ 45 ∷ []) ≡ false → long_of word ≡ Some (name, None) → has names name ≡ true
      → walked s.rules [] (walk_from h) word ≡ waiting_for h name
  unfolding walked
  option_step h word name e l k =
      let a = longs name k in
      rw (e, l, a) refl

  value_step : (h : Held) (name value : Word) → IsValue value → has names name ≡ true → walked s.rules [] (waiting_for h name) value ≡ walk_from (held_after h name value)
  unfolding walked
  value_step h name value v k =
      let p = plain_value value v in
      let a = ids name k in
      let same = nat_list_eq_equiv.refl name in
      rw (p.0, p.1, p.2, a, same) refl

  option_turn : (h : Held) (word name : Word) → bytes_eq word (45 ∷ 45 ∷ []) ≡ false → long_of word ≡ Some (name, None) → has names name ≡ true → settle_passes s.rules false h ≡ true
      → turn_passes s [] (walk_from h) word ≡ true
  option_turn h word name e l k passes =
      let a = longs name k in
      rw (e, l, a, never, passes) refl

  value_turn : (h : Held) (name value : Word) → IsValue value → has names name ≡ true → turn_passes s [] (waiting_for h name) value ≡ true
  value_turn h name value v k =
      let p = plain_value value v in
      rw (p.0, p.1, p.2) refl

  -- the rows once what is pending is settled, which passes
  abbrev IsHeldAs : List Row → Held → Type 0
  IsHeldAs rs h = (settled_rows s.rules h.pending h.rows ≡ rs) × (settle_passes s.rules false h ≡ true)

  stands_next : (rs : List Row) (h : Held) (name value : Word) → IsHeldAs rs h → has_row name rs ≡ false → has names name ≡ true → IsHeldAs (rs ++ row name value ∷ []) (held_after h name value)
  stands_next rs h name value st new k =
      let a = ids name k in (
        rw a (ap (used (full name) (value ∷ [])) st.0 ∙ used_once name value rs new),
        rw (a, st.0, new) refl,
      )

  pub walks : (pairs : List (Word × Word)) (h : Held) (rs : List Row) → IsHeldAs rs h → New rs pairs → Fine names pairs
      → (h' : Held) × (fold (walked s.rules []) (walk_from h) (pair_words pairs) ≡ walk_from h') × IsHeldAs (rs ++ rows pairs) h' × (walk_passes s [] (walk_from h) (pair_words pairs) ≡ true)
  unfolding walk_passes
  walks [] h rs st new fine = (h, refl, subst (λ (l : List Row). IsHeldAs l h) (sym (append-nil rs)) st, refl)
  walks (p ∷ pairs) h rs st new fine =
      let named = no_dashes p.0 fine.1 in
      let long = long_name p.0 fine.1 in
      let one = option_step h (option_word p.0) p.0 named long fine.0 in
      let two = value_step h p.0 p.1 fine.2 fine.0 in
      let both : walked s.rules [] (walked s.rules [] (walk_from h) (option_word p.0)) p.1 ≡ walk_from (held_after h p.0 p.1) = ap (λ (w : Walk). walked s.rules [] w p.1) one ∙ two in
      let rest = walks pairs (held_after h p.0 p.1) (rs ++ row p.0 p.1 ∷ []) (stands_next rs h p.0 p.1 st new.0 fine.0) (new_more rs p.0 p.1 pairs new.1 fine.3) fine.4 in
      let first = option_turn h (option_word p.0) p.0 named long fine.0 st.1 in
      let second = value_turn h p.0 p.1 fine.2 fine.0 in (
        rest.0,
        ap (λ (w : Walk). fold (walked s.rules []) w (pair_words pairs)) both ∙ rest.1,
        subst (λ (l : List Row). IsHeldAs l rest.0) (append_assoc rs (row p.0 p.1 ∷ []) (rows pairs)) rest.2,
        ap₂ (λ (x y : Bool). x && y) first
            (ap₂ (λ (x y : Bool). x && y) (ap (λ (w : Walk). turn_passes s [] w p.1) one ∙ second) (ap (λ (w : Walk). walk_passes s [] w (pair_words pairs)) both ∙ rest.3)),
      )

-- ---- the whole parse

simple_rules : (names : List Word) → list_all (λ (a : Rule). a.is_simple) (map rule names) ≡ true
simple_rules [] = refl
simple_rules (n ∷ names) = simple_rules names

simple_full : (names : List Word) → list_all (λ (a : Rule). a.is_simple) (all_full names) ≡ true
simple_full [] = refl
simple_full (n ∷ names) = simple_full names

none_early : (count : ℕ) (names : List Word) → list_any (is_early_multiple count) (all_full names) ≡ false
none_early count [] = refl
none_early count (n ∷ names) = none_early count names

defaults_pass : (names : List Word) → list_all default_passes (all_full names) ≡ true
defaults_pass [] = refl
defaults_pass (n ∷ names) = defaults_pass names

all_free : (names : List Word) → list_all (λ (a : Rule). a.is_free) (all_full names) ≡ true
all_free [] = refl
all_free (n ∷ names) = all_free names

none_required : (names : List Word) (rs : List Row) → list_all (λ (a : Rule). not a.required || Rattle.clap.specs.Takes.is_given a.id rs) (all_full names) ≡ true
none_required [] rs = refl
none_required (n ∷ names) rs = none_required names rs

pub clap_simple : (names : List Word) → is_simple (app names) ≡ true
clap_simple names =
    let a = simple_rules names in
    let b = filled_all names in
    let c = simple_full names in
    let d = none_early (count_by (λ (r : Rule). is_some r.index) (all_full names)) names in
    rw (a, b, c, d) refl

module _ (names : List Word) (pairs : List (Word × Word)) (fine : Fine names pairs) (first : Word) where
  top : Shape
  top = (built (app names)).top

  rules_are : (built (app names)).top.rules ≡ all_full names
  rules_are = filled_all names

  nothing_new : (ps : List (Word × Word)) → New [] ps
  nothing_new [] = tt
  nothing_new (p ∷ ps) = (refl, nothing_new ps)

  whole_walk : (h : Held) × (walk (all_full names) [] nothing_held (pair_words pairs) ≡ walk_from h) × (settled_rows (all_full names) h.pending h.rows ≡ rows pairs)
      × (settle_passes (all_full names) false h ≡ true) × (walk_passes (record (built (app names)).top { rules = all_full names }) [] (walk_from nothing_held) (pair_words pairs) ≡ true)
  whole_walk =
      let s : Shape = record (built (app names)).top { rules = all_full names } in
      let w = walks s names refl (by_id names) (by_long names) pairs nothing_held [] (refl, refl) (nothing_new pairs) fine in
      (w.0, w.1, w.2.0, w.2.1, w.3)

  pub clap_finds : (name : Word) → first_of name (matches_of (app names) (first ∷ pair_words pairs)) ≡ option_map (λ (p : Word × Word). p.1) (find (λ (p : Word × Word). bytes_eq p.0 name) pairs)
  clap_finds name =
      let w = whole_walk in
      let held : (walk (all_full names) [] nothing_held (pair_words pairs)).held ≡ w.0 = ap (λ (x : Walk). x.held) w.1 in
      let rules = rules_are in
      let are : matches_of (app names) (first ∷ pair_words pairs) ≡ rows pairs =
      ap (λ (rs : List Rule). finished rs (walk rs [] nothing_held (pair_words pairs)).held) rules ∙ ap (finished (all_full names)) held ∙ no_defaults names (settled (all_full names) w.0).rows ∙ w.2 in
      ap (first_of name) are ∙ first_is name pairs

  pub clap_takes : takes (app names) (first ∷ pair_words pairs) ≡ true
  clap_takes =
      let w = whole_walk in
      let a = clap_simple names in
      let b = rules_are in
      let c = defaults_pass names in
      let d = all_free names in
      let e = none_required names (finished (all_full names) w.0) in
      let held = w.1 in
      let f = w.3 in
      let g = w.4 in
      rw (a, b, held, c, d, e, f, g) refl
