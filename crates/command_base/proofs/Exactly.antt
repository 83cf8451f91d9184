-- What may be seen of an input and a link has one reading, so that causes keep each other out.
use Rattle.std.proofs.Common.{◌≡◌, ◌≢◌, ℕ, ◌+◌, ◌≤◌, List, [], ◌∷◌, ◌++◌, length, Option, Some, None, inl, inr, refl, sym, ap, subst, ◌∙◌, arith}
use Rattle.std.proofs.lemmas.List.{append-nil, append_cancel_left, length-append}
use Rattle.kad_base.specs.declared.types.Family.{Family}
use Rattle.kad_base.specs.declared.types.Id.{Id}
use Rattle.kad_base.specs.declared.types.Contact.{Contact}
use Rattle.kad_base.specs.declared.types.Report.{Report}
use Rattle.kad_base.specs.declared.types.Policy.{Policy}
use Rattle.kad_base.specs.Outside.{Grows, Rose}
use Rattle.kad_text.specs.Lines.{lines, Reporting, IsBad, IsFirstBad}
use Rattle.command_base.specs.Shown.{Shown}
use Rattle.command_base.specs.Input.{ReadsAll, ReadsFew, ReadsTooMuch, Admits, Reads, ReadsSome, ReadsAs, IsGood, IsBadLine, AreGoodLines, IsBadContactLine}
use Rattle.kad_text.proofs.TextLaws.{read_or_bad, reading_once}

-- ---- what was read

pub rose_after : (a b c : ℕ) → a ≤ b → Rose b c → Rose a c
rose_after a b c le h = elim h [ inl lt ↦ inl (omega (arith, le, lt)) | inr last ↦ inr last ]

-- where the rest is told, one input was read to its end
pub input_once : (old new : Option (List ℕ)) (x y : List ℕ) → new ≢ None → ReadsAll old new x → ReadsAll old new y → x ≡ y
input_once old None x y told s t = absurd (told refl)
input_once old (Some rest) x y told s t = let p = s.1 in let q = t.1 in cc

-- an input that was read to its end was not too long, and one that was not read neither
pub all_few : (old new : Option (List ℕ)) (x : List ℕ) → ReadsAll old new x → ReadsFew old new
all_few old None x s = tt
all_few old (Some rest) x s = (x, s.2, s.1 ∙ ap (λ l. Some l) (sym (append-nil x)) ∙ ap (λ l. Some (x ++ l)) (sym s.0))

pub unread_few : (old new : Option (List ℕ)) → new ≡ old → ReadsFew old new
unread_few old None same = tt
unread_few old (Some rest) same = ([], omega arith, sym same)

pub few_not_much : (old new : Option (List ℕ)) → new ≢ None → ReadsFew old new → ReadsTooMuch old new → ⊥
few_not_much old None told s t = told refl
few_not_much old (Some rest) told s t =
    let same : s.0 ++ rest ≡ t.0 ++ rest = (let p = s.2 in let q = t.2 in cc) in
    let long : length s.0 + length rest ≡ length t.0 + length rest = sym (length-append s.0 rest) ∙ ap length same ∙ length-append t.0 rest in
    let few = s.1 in
    let much = t.1 in
    absurd (omega (arith, long, few, much))

-- nothing was read, and it is told that nothing is left: the input has no bad line
empty_good : (number : ℕ) → IsFirstBad (lines []) number → ⊥
empty_good number f = one_line f.before f.line f.after f.split f.bad
  where
    nothing_more : (xs after : List (List ℕ)) (x : List ℕ) → [] ≡ xs ++ x ∷ after → ⊥
    nothing_more [] after x e = cc
    nothing_more (y ∷ ys) after x e = cc

    one_line : (before : List (List ℕ)) (line : List ℕ) (after : List (List ℕ)) → [] ∷ [] ≡ before ++ line ∷ after → IsBad line → ⊥
    one_line [] line after e bad = let same : [] ≡ line = cc in subst IsBad (sym same) bad None tt
    one_line (x ∷ xs) line after e bad = nothing_more xs after line (cc)

unread_empty : (old new : Option (List ℕ)) (x : List ℕ) → new ≢ None → new ≡ old → ReadsAll old new x → x ≡ []
unread_empty old None x told same s = absurd (told refl)
unread_empty old (Some rest) x told same s = let p = s.0 in let q = s.1 in cc

pub unread_not_bad : (source : Shown ℕ) (number : ℕ) → source.after ≢ None → source.after ≡ source.before → IsBadLine IsBadContactLine source number → ⊥
unread_not_bad source number told same bad =
    let empty = unread_empty source.before source.after bad.input told same bad.read in
    empty_good number (subst (λ (l : List ℕ). IsFirstBad (lines l) number) empty bad.is_bad)

-- nor has it one of another kind, where an empty input is good
pub unread_not_bad_of : (good : List ℕ → Type 0) (bad : List ℕ → ℕ → Type 0) → ((input : List ℕ) (number : ℕ) → good input → bad input number → ⊥) → good [] → (source : Shown ℕ) (number : ℕ) → source.after ≢ None
    → source.after ≡ source.before → IsBadLine bad source number → ⊥
unread_not_bad_of good bad apart empty_is source number told same b =
    let empty = unread_empty source.before source.after b.input told same b.read in
    apart [] number empty_is (subst (λ (l : List ℕ). bad l number) empty b.is_bad)

-- ---- what it gives

pub admits_once : (own : Id) (family : Family) (policy : Policy) (rs : List Report) (xs ys : List Contact) → Admits own family policy rs xs → Admits own family policy rs ys → xs ≡ ys
admits_once own family policy [] xs ys s t = s ∙ sym t
admits_once own family policy (r ∷ rs) xs ys s t =
    elim s [
      | inl a ↦ elim t [
        | inl b ↦ a.1 ∙ ap (λ l. r.contact ∷ l) (admits_once own family policy rs a.0 b.0 a.3 b.3) ∙ sym b.1
        | inr b ↦ absurd (b.0 a.2)
      ]
      | inr a ↦ elim t [
        | inl b ↦ absurd (a.0 b.2)
        | inr b ↦ admits_once own family policy rs xs ys a.1 b.1
      ]
    ]

reads_once : (own : Id) (family : Family) (policy : Policy) (source : Shown ℕ) (xs ys : List Contact) → source.after ≢ None → Reads own family policy source xs → Reads own family policy source ys → xs ≡ ys
reads_once own family policy source xs ys told s t =
    let same = input_once source.before source.after s.input t.input told s.read t.read in
    let one = reading_once (lines t.input) s.reports t.reports (subst (λ l. Reporting (lines l) s.reports) same s.good_lines) t.good_lines in
    admits_once own family policy t.reports xs ys (subst (λ rs. Admits own family policy rs xs) one s.admits) t.admits

-- lines that are good are not bad
pub lines_apart : (input : List ℕ) (number : ℕ) → AreGoodLines input → IsBadContactLine input number → ⊥
lines_apart input number good bad = read_or_bad (lines input) good.0 number good.1 bad

-- whatever contacts it gives, its lines are good
pub lines_good : (source : Shown ℕ) → IsGood source → ReadsAs AreGoodLines source
lines_good source good = record { input = good.lists.input; read = good.lists.read; is_good = (good.reports, good.lists.good_lines) }

pub reads_good : (own : Id) (family : Family) (policy : Policy) (source : Shown ℕ) (contacts : List Contact) → Reads own family policy source contacts → ReadsAs AreGoodLines source
reads_good own family policy source contacts r = record { input = r.input; read = r.read; is_good = (r.reports, r.good_lines) }

-- what excludes a bad line in one text does so in an input
pub good_not_bad : (good : List ℕ → Type 0) (bad : List ℕ → ℕ → Type 0) → ((input : List ℕ) (number : ℕ) → good input → bad input number → ⊥) → (source : Shown ℕ) (number : ℕ) → source.after ≢ None
    → ReadsAs good source → IsBadLine bad source number → ⊥
good_not_bad good bad apart source number told g b =
    let same = input_once source.before source.after g.input b.input told g.read b.read in
    apart b.input number (subst good same g.is_good) b.is_bad

pub good_few : (good : List ℕ → Type 0) (source : Shown ℕ) → ReadsAs good source → ReadsFew source.before source.after
good_few good source g = all_few source.before source.after g.input g.read

-- it gives a contact or none
pub some_not_none : (own : Id) (family : Family) (policy : Policy) (source : Shown ℕ) → source.after ≢ None → ReadsSome own family policy source → Reads own family policy source [] → ⊥
some_not_none own family policy source told some_ none_ = some_.some_one (reads_once own family policy source some_.contacts [] told some_.reads none_)

-- ---- whether the last stray came

-- where the content is told, one list was added
pub added_once : {A : Type 0} (old new : Option (List A)) (P : List A → Type 0) → new ≢ None → Grows old new P → Grows old new (λ t. P t → ⊥) → ⊥
added_once old None P told g h = told refl
added_once {A} old (Some after) P told g h =
    let before : g.before ≡ h.before = (let e = g.was in let f = h.was in cc) in
    let same : g.before ++ g.added ≡ g.before ++ h.added = sym g.sum_is ∙ h.sum_is ∙ ap (λ (l : List A). l ++ h.added) (sym before) in
    h.holds (subst P (append_cancel_left g.before g.added h.added same) g.holds)
