-- Each command has one text.
use Rattle.std.proofs.Common.{◌≡◌, ℕ, List, [], ◌∷◌, Bool, true, false, Option, Some, None, refl, sym, ap, subst, ◌∙◌, inl, inr}
use Rattle.std.specs.Prelude.{IsSome}
use Rattle.std.specs.List.{AllZip}
use Rattle.std.proofs.lemmas.Bool.{cases_order}
use Rattle.kad_base.specs.declared.types.Policy.{Policy}
use Rattle.kad_base.specs.declared.types.Report.{Report}
use Rattle.kad_base.specs.Puzzles.{hash}
use Rattle.id_puzzles.specs.Minting.{value_at, IsFirstKey, IsFirstValue}
use Rattle.kad_words.specs.declared.command.MintWords.{MintWords}
use Rattle.kad_words.specs.declared.command.SimWords.{SimWords}
use Rattle.plain_commands.specs.Checked.{Judges, verdicts_printed, CheckText}
use Rattle.plain_commands.specs.Minted.{minted_line, seed_of, MintText}
use Rattle.plain_commands.specs.Simulated.{simulation_by, simulation_of, IsSimulable, SimText}
use Rattle.command_base.specs.Shown.{SameInput, Shown}
use Rattle.plain_commands.proofs.Minting.{first_key_once}
use Rattle.plain_commands.proofs.OneSim.{sim_once}
use Rattle.command_base.proofs.Repeated.{lists_once}

verdict_once : (policy : Policy) (r : Report) (a b : Bool) → Judges policy r a → Judges policy r b → a ≡ b
verdict_once policy r true true h k = refl
verdict_once policy r true false h k = sym (k.1 (h.0 refl))
verdict_once policy r false true h k = h.1 (k.0 refl)
verdict_once policy r false false h k = refl

verdicts_once : (policy : Policy) (reports : List Report) (a b : List Bool) → AllZip (Judges policy) reports a → AllZip (Judges policy) reports b → a ≡ b
verdicts_once policy [] [] [] h k = refl
verdicts_once policy [] [] (y ∷ b) h k = absurd k
verdicts_once policy [] (x ∷ a) b h k = absurd h
verdicts_once policy (r ∷ reports) [] b h k = absurd h
verdicts_once policy (r ∷ reports) (x ∷ a) [] h k = absurd k
verdicts_once policy (r ∷ reports) (x ∷ a) (y ∷ b) h k =
    ap (λ (v : Bool). v ∷ a) (verdict_once policy r x y h.0 k.0) ∙ ap (λ (l : List Bool). y ∷ l) (verdicts_once policy reports a b h.1 k.1)

pub check_once : (policy : Policy) (source again : Shown ℕ) (t u : List ℕ) → SameInput source again → CheckText policy source t → CheckText policy again u → t ≡ u
check_once policy source again t u same h k =
    let reports = lists_once source again h.reports k.reports same h.lists k.lists in
    let each = subst (λ (l : List Report). AllZip (Judges policy) l h.printed.verdicts) reports h.printed.each in
    h.printed.text_is ∙ ap verdicts_printed (verdicts_once policy k.reports h.printed.verdicts k.printed.verdicts each k.printed.each) ∙ sym k.printed.text_is

first_value_once : (id : List ℕ) (c2 tries : ℕ) (a b : List ℕ) → IsFirstValue id c2 tries a → IsFirstValue id c2 tries b → a ≡ b
first_value_once id c2 tries a b s t =
    elim (cases_order s.number t.number) [
      | inl same ↦ s.is_value ∙ ap value_at same ∙ sym t.is_value
      | inr more ↦ elim more [
        | inl lt ↦ absurd (t.none_before s.number lt s.solves)
        | inr lt ↦ absurd (s.none_before t.number lt t.solves)
      ]
    ]

-- ---- by the seed, which the words name or random bytes are

pub seed_once : (seed : Option (List ℕ)) (a b : List ℕ) → IsSome seed → seed_of seed a ≡ seed_of seed b
seed_once (Some seed) a b named = refl
seed_once None a b named = absurd cc

pub mint_once : (words : MintWords) (r s t u : List ℕ) → seed_of words.seed r ≡ seed_of words.seed s → MintText words r t → MintText words s u → t ≡ u
mint_once words r s t u same a b =
    let first = subst (λ (seed : List ℕ). IsFirstKey seed words.c1 words.tries a.key) same a.first_key in
    let key = first_key_once (seed_of words.seed s) words.c1 words.tries a.key b.key first b.first_key in
    let x = first_value_once (hash b.key) words.c2 words.tries a.x b.x (subst (λ (k : List ℕ). IsFirstValue (hash k) words.c2 words.tries a.x) key a.first_value) b.first_value in
    a.text_is ∙ ap (λ (k : List ℕ). minted_line (hash k) k a.x) key ∙ ap (λ (v : List ℕ). minted_line (hash b.key) b.key v) x ∙ sym b.text_is

pub simulated_once : (words : SimWords) (r s t u : List ℕ) → seed_of words.seed r ≡ seed_of words.seed s → IsSimulable (simulation_of words s)
    → SimText (simulation_of words r) t → SimText (simulation_of words s) u → t ≡ u
simulated_once words r s t u same bounds a b = sim_once (simulation_of words s) t u bounds (subst (λ (seed : List ℕ). SimText (simulation_by words seed) t) same a) b
