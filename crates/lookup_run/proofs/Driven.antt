-- Small facts of lists, of the driver's entries and of open queries.
use Rattle.std.proofs.Common.{◌≡◌, List, [], ◌∷◌, ◌++◌, true, false, cond, refl, ap, ◌∙◌}
use Rattle.std.specs.Prelude.{map}
use Rattle.std.specs.List.{AllByRecursion}
use Rattle.std.proofs.lemmas.List.{append-nil}
use Rattle.claim_book.specs.declared.types.Entry.{Entry}
use Rattle.lookup_run.specs.Tells.{is_driven, driven}
use Rattle.lookup_core.proofs.Received.{driven_append}

pub driven_more : (J : List Entry) (e : Entry) → is_driven e ≡ true → driven (J ++ e ∷ []) ≡ driven J ++ e ∷ []
unfolding driven
driven_more J e is = driven_append J (e ∷ []) ∙ ap (λ b. driven J ++ cond b (e ∷ []) []) is

pub driven_quiet : (J : List Entry) (e : Entry) → is_driven e ≡ false → driven (J ++ e ∷ []) ≡ driven J
unfolding driven
driven_quiet J e is = driven_append J (e ∷ []) ∙ ap (λ b. driven J ++ cond b (e ∷ []) []) is ∙ append-nil (driven J)

pub map_push : {A B : Type 0} (f : A → B) (xs : List A) (x : A) → map f (xs ++ x ∷ []) ≡ map f xs ++ f x ∷ []
map_push f [] x = refl
map_push f (y ∷ xs) x = ap (λ l. f y ∷ l) (map_push f xs x)

pub all_push : {A : Type 0} (P : A → Type 0) (xs : List A) (x : A) → AllByRecursion P xs → P x → AllByRecursion P (xs ++ x ∷ [])
all_push P [] x h p = (p, tt)
all_push P (y ∷ xs) x h p = (h.0, all_push P xs x h.1 p)
