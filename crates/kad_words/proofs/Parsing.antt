-- What clap answers at words of the plain form.
use Rattle.std.proofs.Common.{◌≡◌, ℕ, ◌+◌, ◌<◌, true, List, [], ◌∷◌, ◌++◌, map, length, drop, take, get_or, refl, sym, ap, ap₂, ◌∙◌, subst, arith}
use Rattle.std.proofs.lemmas.List.{map-append, take_more}
use Rattle.clap.specs.Walk.{Rule, first_of}
use Rattle.clap.specs.Simple.{App, matches_of, with_rule}
use Rattle.clap.specs.Simple.{HasMatchesOf}
use Rattle.clap.specs.Takes.{takes}
use Rattle.clap.specs.Matches.{found_of}
use Rattle.clap.proofs.WalkLemmas.{first_value-rows}
use Rattle.clap.specs.declared.parser.matches.ArgMatches.{ArgMatches}
use Rattle.kad_words.specs.Table.{Word}
use Rattle.kad_words.specs.Listed.{entries_of}
use Rattle.kad_words.specs.Plain.{InPairs, pairs_of, values_of}
use Rattle.kad_words.specs.Taken.{app, are_names, names_of, rule, taken_of}
use Rattle.kad_words.specs.declared.choice.Choice.{Choice}
use Rattle.kad_words.proofs.ClapWalk.{Fine, clap_finds, clap_simple, clap_takes, pair_words}
use Rattle.kad_words.proofs.Stripped.{fine, names_are, names_in, same_values, same_words, stripped}

-- ---- the command, one option more

pub rule_more : (a : App) (xs : List Choice) (i : ℕ) (d : Choice) → i < length xs → a ≡ app (names_of (take i xs)) → with_rule a (rule (get_or xs i d).name.now) ≡ app (names_of (take (i + 1) xs))
rule_more a xs i d lt is =
    let front = names_of (take i xs) in
    let name = (get_or xs i d).name.now in
    let names : names_of (take (i + 1) xs) ≡ front ++ name ∷ [] = ap names_of (take_more xs i d lt) ∙ map-append (λ (c : Choice). c.name.now) (take i xs) (get_or xs i d ∷ []) in
    let rules : map rule front ++ rule name ∷ [] ≡ map rule (front ++ name ∷ []) = sym (map-append rule front (name ∷ [])) in
    ap (λ (b : App). with_rule b (rule name)) is
    ∙ ap (λ (rs : List Rule). record (app front) { top = record (app front).top { rules = rs } }) rules
    ∙ ap app (sym names)

-- ---- the words that the command is given

module _ (choices : List Choice) (good : are_names (names_of choices) ≡ true) where
  good_in : are_names (names_in (entries_of choices)) ≡ true
  good_in = ap are_names (names_are choices) ∙ good

  module _ (texts : List Word) (some_word : 0 < length texts) (plain : InPairs (entries_of choices) (drop 1 texts) (pairs_of (drop 1 texts))) where
    abbrev pairs : List (Word × Word)
    pairs = pairs_of (drop 1 texts)

    cut : (ts : List Word) → 0 < length ts → (first : Word) × (ts ≡ first ∷ drop 1 ts)
    cut [] lt = absurd (omega arith)
    cut (t ∷ ts) lt = (t, refl)

    abbrev first : Word
    first = (cut texts some_word).0

    given : texts ≡ first ∷ pair_words (stripped pairs)
    given = (cut texts some_word).1 ∙ ap (λ (l : List Word). first ∷ l) (plain.joined ∙ same_words (entries_of choices) good_in pairs plain.belong)

    is_fine : Fine (names_in (entries_of choices)) (stripped pairs)
    is_fine = fine (entries_of choices) good_in pairs plain.belong plain.once

    pub parse_passes : takes (app (names_of choices)) texts ≡ true
    parse_passes =
        ap₂ takes (ap app (sym (names_are choices))) given ∙ clap_takes (names_in (entries_of choices)) (stripped pairs) is_fine first

    pub parse_finds : (name : Word) → first_of name (matches_of (app (names_of choices)) texts) ≡ values_of pairs name
    parse_finds name =
        ap (first_of name) (ap₂ matches_of (ap app (sym (names_are choices))) given) ∙ clap_finds (names_in (entries_of choices)) (stripped pairs) is_fine first name
        ∙ same_values (entries_of choices) good_in name pairs plain.belong

    pub taken_is : (a : App) (m : ArgMatches) → a ≡ app (names_of choices) → HasMatchesOf a texts m → (name : Word) → taken_of m name ≡ values_of pairs name
    taken_is a m is has name =
        let has_all = subst (λ (b : App). HasMatchesOf b texts m) is has in
        first_value-rows (found_of m) name ∙ ap (first_of name) (has_all (clap_simple (names_of choices))).0 ∙ parse_finds name
