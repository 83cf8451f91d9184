-- A word that is a proof is cut at its comma, and is one proof.
use Rattle.std.proofs.Common.{◌≡◌, ◌≢◌, ℕ, Bool, List, ◌∷◌, ◌++◌, Option, Some, None, MatchOption, is_some, sym, ap, subst, ◌∙◌, Bor, lit<}
use Rattle.std.specs.Prelude.{◌↔◌, IfSome, IsTrue, codes, option_map, All}
use Rattle.std.proofs.lemmas.List.{append_assoc}
use Rattle.std.proofs.lemmas.Str.Pattern.{IsSplitOnceResult, split_after}
use Rattle.kad_base.specs.declared.types.Proof.{Proof}
use Rattle.kad_text.specs.Text.{SpellsHex}
use Rattle.kad_text.proofs.HexSpelling.{spells_digits}
use Rattle.kad_text.proofs.OneSpelling.{cut_once, hex_once}
use Rattle.kad_words.specs.Table.{Word}
use Rattle.kad_words.specs.Plain.{IsOfKind}
use Rattle.kad_words.specs.Values.{MayBeGiven, SpellsProofWord}
use Rattle.kad_words.specs.declared.choice.Kind.{Kind}
use Rattle.kad_words.specs.declared.choice.Kind.TheVariants.{KeyAndX}

-- a comma is no hex digit
hex_no_comma : (n : ℕ) (text bytes : List ℕ) → SpellsHex n text bytes → All (λ d. d ≢ 44) text
hex_no_comma n text bytes s k d lt e = let h = (spells_digits n text bytes s).1 k d lt in cc (rw e at h)

cut_at : (word : List ℕ) (proof : Proof) (s : SpellsProofWord word proof) → word ≡ s.key ++ (44 ∷ s.x)
cut_at word proof s = s.spelled ∙ append_assoc s.key (codes ",") s.x

pub proof_cut : (word : List ℕ) (r : Option (Bor (List ℕ) × Bor (List ℕ))) (proof : Proof) → IsSplitOnceResult 44 word r → SpellsProofWord word proof
    → MatchOption r ⊥ (λ y. SpellsHex 32 y.0.now proof.key × SpellsHex 20 y.1.now proof.x)
proof_cut word None proof h s = split_after 44 word s.key s.x None h (lit< tt) (cut_at word proof s) (λ i lt f. hex_no_comma 32 s.key proof.key s.spells_key i 0 lt f)
proof_cut word (Some y) proof h s =
    let cut = split_after 44 word s.key s.x (Some y) h (lit< tt) (cut_at word proof s) (λ i lt f. hex_no_comma 32 s.key proof.key s.spells_key i 0 lt f) in
    rw (cut.0, cut.1) (s.spells_key, s.spells_x)

pub proof_once : (word : List ℕ) (a b : Proof) → SpellsProofWord word a → SpellsProofWord word b → a ≡ b
proof_once word a b s t =
    let cut = cut_once 44 s.key t.key s.x t.x (hex_no_comma 32 s.key a.key s.spells_key) (hex_no_comma 32 t.key b.key t.spells_key) (sym (cut_at word a s) ∙ cut_at word b t) in
    let key : a.key ≡ b.key = hex_once 32 t.key a.key b.key (rw cut.0 at s.spells_key) t.spells_key in
    let x : a.x ≡ b.x = hex_once 20 t.x a.x b.x (rw cut.1 at s.spells_x) t.spells_x in
    λ i. record { key = key i; x = x i }

-- what a word gives that is read as a proof
pub some_spells : (word : List ℕ) (r : Option Proof) (b : Bool) → MatchOption r ((proof : Proof) → SpellsProofWord word proof → ⊥) (λ proof. SpellsProofWord word proof) → b ≡ is_some r
    → IsTrue b ↔ ((proof : Proof) × SpellsProofWord word proof)
some_spells word None b h e = (λ t. cc (t, e), λ s. absurd (h s.0 s.1))
some_spells word (Some proof) b h e = (λ t. (proof, h), λ s. e)

-- the same of the value of an option that may be left out, where a value that is there is read as one
pub read_given : (value : Option Word) (kind : Kind) (r : Option Proof) (got : Option (Bor (List ℕ))) (text : Bor (List ℕ)) → kind ≡ KeyAndX → IfSome value (IsOfKind kind) → option_map (λ v. v.now) got ≡ value
    → got ≡ Some text → MatchOption r ((proof : Proof) → SpellsProofWord text.now proof → ⊥) (λ proof. SpellsProofWord text.now proof) → MayBeGiven SpellsProofWord value r
read_given value kind r got text is fits named some_ h =
    let here : value ≡ Some text.now = sym named ∙ ap (option_map (λ v. v.now)) some_ in
    let one : IsOfKind KeyAndX text.now = subst (λ (k : Kind). IsOfKind k text.now) is (subst (λ (o : Option Word). IfSome o (IsOfKind kind)) here fits) in
    subst (λ (o : Option Word). MayBeGiven SpellsProofWord o r) (sym here) (go r h one)
  where
    go : (r : Option Proof) → MatchOption r ((proof : Proof) → SpellsProofWord text.now proof → ⊥) (λ proof. SpellsProofWord text.now proof) → ((proof : Proof) × SpellsProofWord text.now proof)
        → MayBeGiven SpellsProofWord (Some text.now) r
    go None h one = absurd (h one.0 one.1)
    go (Some proof) h one = h
