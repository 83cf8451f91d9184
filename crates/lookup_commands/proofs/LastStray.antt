-- Whether the last stray that a lookup takes came has one answer.
use Rattle.std.proofs.Common.{◌≡◌, ◌≢◌, ℕ, List, [], ◌∷◌, ◌++◌, Option, None, sym, subst}
use Rattle.kad_base.specs.declared.types.Event.{Event}
use Rattle.kad_base.specs.declared.types.Event.TheVariants.{Got}
use Rattle.kad_base.specs.Limits.{max_strays}
use Rattle.kad_base.specs.Outside.{Grows}
use Rattle.kad_base.proofs.Grown.{grows_none, grows_weaker}
use Rattle.claim_book.specs.declared.types.Entry.{Entry}
use Rattle.lookup_run.specs.Tells.{Given, EndsAtStray}
use Rattle.command_base.specs.Shown.{Shown}
use Rattle.command_base.specs.Input.{ReadsAs, AreGoodLines}
use Rattle.lookup_commands.specs.Looked.{NeverInStrays, IsInStrays, GivesNoSeeds, Sought}
use Rattle.command_base.specs.Started.{own_of, lookup_of}
use Rattle.command_base.specs.Called.{Called}
use Rattle.command_base.proofs.Exactly.{reads_good, added_once}

pub none_good : (sought : Sought) (random : List ℕ) (source : Shown ℕ) → GivesNoSeeds sought random source → ReadsAs AreGoodLines source
none_good sought random source n = reads_good (own_of sought.look.own random) sought.look.family sought.look.policy source [] n

pub few_not_last : (sought : Sought) (called : Called) (link : Shown Event) → link.after ≢ None → NeverInStrays sought.kind sought.look called link → IsInStrays sought.kind sought.look called link → ⊥
few_not_last sought called link told never ends =
    let g = lookup_of sought.kind sought.look called in
    added_once link.before link.after (λ events. (J : List Entry) × EndsAtStray g J events max_strays) told ends.1 (grows_weaker link.before link.after _ _ (never ends.0) (λ t none_ e. none_ e.0 e.1))

none_last : (g : Given) (number : ℕ) → ((J : List Entry) × EndsAtStray g J [] number) → ⊥
none_last g number e = nothing_more e.1.before (Got e.1.from e.1.bytes e.1.until e.1.at) e.1.last
  where
    nothing_more : (es : List Event) (x : Event) → [] ≡ es ++ x ∷ [] → ⊥
    nothing_more [] x e = cc
    nothing_more (y ∷ es) x e = cc

-- where nothing was told it didn't
pub uncalled_not_last : (sought : Sought) (called : Called) (link : Shown Event) → link.after ≢ None → link.after ≡ link.before → IsInStrays sought.kind sought.look called link → ⊥
uncalled_not_last sought called link told same t =
    let g = lookup_of sought.kind sought.look called in
    let Last : List Event → Type 0 = (λ events. (J : List Entry) × EndsAtStray g J events max_strays) in
    let none_ : Grows link.before link.after (λ events. Last events → ⊥) = subst (λ (o : Option (List Event)). Grows link.before o (λ events. Last events → ⊥)) (sym same) (grows_none link.before (λ events. Last events → ⊥) (none_last g max_strays)) in
    added_once link.before link.after Last told t.1 none_
