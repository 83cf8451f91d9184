-- What settles loses nobody to a refused send.
use Rattle.std.proofs.Common.{◌≡◌, List, [], ◌∷◌, ◌++◌, refl, ap, ◌∙◌}
use Rattle.std.specs.List.{AllByRecursion, flat_map}
use Rattle.std.proofs.lemmas.List.{append-nil}
use Rattle.claim_book.specs.declared.types.Entry.{Entry}
use Rattle.claim_book.specs.declared.types.Entry.TheVariants.{Seed, Ask, Heard, Lost, Note, Taken, Held, Turned, Rejected, Skipped}
use Rattle.claim_book.specs.Journal.{fail_of}
use Rattle.lookup_core.specs.SendFaults.{unsent_of, unsent}
use Rattle.lookup_core.proofs.Refusing.{unsent_append}
use Rattle.lookup_core.proofs.Settling.{no_fail}
use Rattle.lookup_run.proofs.Quiet.{IsMute}

mute_unsent : (e : Entry) → fail_of e ≡ [] → unsent_of e ≡ []
mute_unsent (Lost p c cause) h = absurd cc
mute_unsent (Seed p c) h = refl
mute_unsent (Ask p c) h = refl
mute_unsent (Heard p c reports) h = refl
mute_unsent (Note p c) h = refl
mute_unsent (Taken p c) h = refl
mute_unsent (Held p c by) h = refl
mute_unsent (Turned p c) h = refl
mute_unsent (Rejected p r) h = refl
mute_unsent (Skipped p r) h = refl

none_unsent : (es : List Entry) → AllByRecursion IsMute es → unsent es ≡ []
unfolding unsent
none_unsent [] h = refl
none_unsent (e ∷ es) h = ap (λ l. l ++ flat_map unsent_of es) (mute_unsent e (no_fail e h.0.quiet)) ∙ none_unsent es h.1

pub unsent_settled : (J es : List Entry) → AllByRecursion IsMute es → unsent (J ++ es) ≡ unsent J
unsent_settled J es h = unsent_append J es ∙ ap (λ l. unsent J ++ l) (none_unsent es h) ∙ append-nil (unsent J)
