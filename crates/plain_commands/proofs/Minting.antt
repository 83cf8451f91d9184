-- What `mint` makes excludes that there is nothing to be found.
use Rattle.std.proofs.Common.{◌≡◌, ℕ, List, [], ◌∷◌, inl, inr, refl, sym, ap, subst, ◌∙◌, ◌++◌}
use Rattle.std.proofs.lemmas.Bool.{cases_order}
use Rattle.kad_base.specs.declared.types.Event.{Event}
use Rattle.kad_base.specs.Puzzles.{hash}
use Rattle.id_puzzles.specs.Minting.{key_at, IsFirstKey, HasNoFirstValue}
use Rattle.kad_words.specs.declared.command.MintWords.{MintWords}
use Rattle.command_base.specs.declared.status.Status.{Status}
use Rattle.command_base.specs.declared.status.Status.TheVariants.{NoMemory, Unminted}
use Rattle.plain_commands.specs.Minted.{seed_of, MintText, MintCause, FindsNothing, mint_promise, minted_line}
use Rattle.command_base.specs.Shown.{Shown}
use Rattle.command_base.proofs.Lawful.{Lawful}
use Rattle.command_base.proofs.Staged.{unread_lawful}
use Rattle.command_base.specs.Called.{Called}
use Rattle.std.specs.Prelude.{codes}
use Rattle.std.proofs.lemmas.List.{append_assoc}
use Rattle.hex.specs.Hex.{encode_lower}

pub first_key_once : (seed : List ℕ) (c1 tries : ℕ) (a b : List ℕ) → IsFirstKey seed c1 tries a → IsFirstKey seed c1 tries b → a ≡ b
first_key_once seed c1 tries a b s t =
    elim (cases_order s.number t.number) [
      | inl same ↦ s.is_key ∙ ap (key_at seed) same ∙ sym t.is_key
      | inr more ↦ elim more [
        | inl lt ↦ absurd (t.none_before s.number lt s.solves)
        | inr lt ↦ absurd (s.none_before t.number lt t.solves)
      ]
    ]

pub minted_not_nothing : (words : MintWords) (random text : List ℕ) → MintText words random text → FindsNothing words random → ⊥
minted_not_nothing words random text m n =
    elim n [
      | inl no_key ↦ no_key m.first_key.number m.first_key.in_tries m.first_key.solves
      | inr no_value ↦
          (let same = first_key_once (seed_of words.seed random) words.c1 words.tries no_value.key m.key no_value.first_key m.first_key in
          let none_ = subst (λ (key : List ℕ). HasNoFirstValue (hash key) words.c2 words.tries) same no_value.no_value in
          none_ m.first_value.number m.first_value.in_tries m.first_value.solves)
    ]

pub mint_lawful : (words : MintWords) → Lawful (mint_promise words)
mint_lawful words =
    unread_lawful (10 ∷ []) (Unit {0}) (λ random text. MintText words random text) (λ random. FindsNothing words random)
    (λ random text t nothing. minted_not_nothing words random text t nothing) (λ random nothing. inl refl)

-- its own cause is that of its promise, where nothing was read
pub mint_cause : (words : MintWords) (called : Called) (source : Shown ℕ) (link : Shown Event) → source.after ≡ source.before
    → (s : Status) → MintCause words called.random s → (mint_promise words).cause called source link s
mint_cause words called source link same NoMemory h = tt
mint_cause words called source link same Unminted h = (h, same)
mint_cause words called source link same other h = h

pub minted_pieces : (id key x a b d : List ℕ) → a ≡ encode_lower id → b ≡ encode_lower key → d ≡ encode_lower x
    → a ++ (32 ∷ (b ++ (32 ∷ (d ++ (10 ∷ []))))) ≡ minted_line id key x
minted_pieces id key x a b d e f g =
    let space : List ℕ = codes " " in
    let end : List ℕ = codes "\n" in
    let A = encode_lower id in
    let B = encode_lower key in
    let D = encode_lower x in
    rw (e, f, g) (sym (append_assoc (A ++ space ++ B ++ space) D end ∙ append_assoc (A ++ space ++ B) space (D ++ end) ∙ append_assoc (A ++ space) B (space ++ (D ++ end)) ∙ append_assoc A space (B ++ (space ++ (D ++ end)))))
