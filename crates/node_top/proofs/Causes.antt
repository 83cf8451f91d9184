-- The ends of the top calls, whatever the command is. Nothing here names one.
use Rattle.std.proofs.Common.{◌≡◌, ◌≢◌, ◌⊎◌, ℕ, List, Result, Ok, Err, IfOk, IfErr, IsTrue, inl, inr, refl, sym, subst, ◌∙◌, arith}
use Rattle.kad_base.specs.declared.types.Event.{Event}
use Rattle.kad_base.specs.Outside.{Grows, Rose}
use Rattle.kad_words.specs.Table.{Word}
use Rattle.kad_words.specs.Plain.{CommandOf}
use Rattle.kad_words.specs.declared.command.Command.{Command}
use Rattle.kad_words.proofs.OneCommand.{command_once}
use Rattle.command_base.specs.declared.status.Status.{Status}
use Rattle.command_base.specs.declared.status.Status.TheVariants.{Usage, BadLine, LinkFault, SourceFault, Strays, NoSeeds, NoMemory, Unminted, TooLong, BadValue, Unsound, BadProof}
use Rattle.node_top.specs.Asked.{Asks}
use Rattle.command_base.specs.Shown.{Shown, IsTold, HasFailed, nowhere}
use Rattle.command_base.specs.Input.{ReadsTooMuch}
use Rattle.node_top.specs.Commands.{OfCommand, EndsInStrays, promise_of, HasText, IsCaused, HasCause, HasBegun, HasStart, HasNoSeeds, HasStrays, HasBadLine, HasBadValue, HasBadProof, HasUnsound, HasNoLastStray, HasNothing, ReadsInput, GoesWell, IsDone}
use Rattle.command_base.specs.Endings.{number_of, OrNoMemory, MayEnd}
use Rattle.node_top.specs.Endings.{Names, CutShort, EndsByCommand}
use Rattle.command_base.specs.Written.{IsFront}
use Rattle.command_base.proofs.Exactly.{unread_few, few_not_much}
use Rattle.command_base.proofs.Lawful.{Sign, IsJudged, Means, IsUncalled}
use Rattle.node_top.proofs.Lawfully.{lawful}
use Rattle.command_base.specs.Called.{Called}

-- ---- what holds of a command holds of the one that it is

pub ranges_at : (a b : Command) → a ≡ b → (promise_of a).ranges → (promise_of b).ranges
ranges_at a b e h = subst (λ (k : Command). (promise_of k).ranges) e h

pub text_at : {F : Type 0} (r : Result (List ℕ) F) (called : Called) (source : Shown ℕ) (link : Shown Event) (a b : Command) → a ≡ b → IfOk r ((promise_of a).text called source link) → IfOk r ((promise_of b).text called source link)
text_at r called source link a b e h = subst (λ (k : Command). IfOk r ((promise_of k).text called source link)) e h

pub cause_at : {T : Type 0} (r : Result T Status) (called : Called) (source : Shown ℕ) (link : Shown Event) (a b : Command) → a ≡ b → IfErr r ((promise_of a).cause called source link) → IfErr r ((promise_of b).cause called source link)
cause_at r called source link a b e h = subst (λ (k : Command). IfErr r ((promise_of k).cause called source link)) e h

pub begun_at : {T : Type 0} (r : Result T Status) (X : Type 0) (called : Called) (source : Shown ℕ) (link : Shown Event) (a b : Command) → a ≡ b → IfErr r (λ status. status ≡ NoMemory → (promise_of a).begun called source link ⊎ X)
    → IfErr r (λ status. status ≡ NoMemory → (promise_of b).begun called source link ⊎ X)
begun_at r X called source link a b e h = subst (λ (k : Command). IfErr r (λ status. status ≡ NoMemory → (promise_of k).begun called source link ⊎ X)) e h

-- ---- a command that has its output

module _ (words : List Word) (called : Called) (source : Shown ℕ) (link : Shown Event) (sink : Shown ℕ) (text t : List ℕ) (same : t ≡ text) (has : HasText words called source link text) where
  pub done_of : Grows sink.before sink.after (λ added. added ≡ t) → IsDone words called source link sink
  done_of w = record { text = text; has_text = has; writes = subst (λ (l : List ℕ). Grows sink.before sink.after (λ added. added ≡ l)) same w }

  pub cut_of : Grows sink.before sink.after (λ added. IsFront added t) → CutShort words called source link sink
  cut_of w = record { text = text; has_text = has; writes = subst (λ (l : List ℕ). Grows sink.before sink.after (λ added. IsFront added l)) same w }

pub done_end : (words : List Word) (status : ℕ) → (status ≡ 0) ⊎ (status ≡ 5) → EndsByCommand words status
done_end words status e command asked = elim e [ inl done ↦ inl done | inr cut ↦ inr (inl cut) ]

-- the sign of a status, of the command that the words ask for
abbrev HasSign : List Word → Called → Shown ℕ → Shown Event → Status → Type 0
HasSign words called source link status = OfCommand words (λ c. Sign (promise_of c) called source link status)

module _ (words : List Word) (called : Called) (source : Shown ℕ) (link : Shown Event) (text : List ℕ) (h : HasText words called source link text) where
  not_signed : (t : Status) → IsJudged source link t → HasSign words called source link t → ⊥
  not_signed t j d =
      let sign = subst (λ (k : Command). Sign (promise_of k) called source link t) (command_once words d.command h.command d.asked h.asked) d.holds in
      (lawful h.command).no_sign called source link text t j h.holds sign

  pub not_bad : IsTold source → ¬ HasFailed source → HasBadLine words source → ⊥
  not_bad told quiet bad = not_signed (BadLine bad.0) (told, quiet) bad.1

  pub not_unsound : IsTold source → ¬ HasFailed source → HasUnsound words source → ⊥
  not_unsound told quiet n = not_signed Unsound (told, quiet) n

  pub not_much : IsTold source → ReadsTooMuch source.before source.after → ⊥
  not_much told much = not_signed TooLong told (record { command = h.command; asked = h.asked; holds = much })

  pub not_seedless : IsTold source → ¬ HasFailed source → HasNoSeeds words called source → ⊥
  not_seedless told quiet n = not_signed NoSeeds (told, quiet) n

  pub not_refused : HasBadValue words → ⊥
  not_refused n = not_signed BadValue tt n

  pub not_unproved : HasBadProof words called.random → ⊥
  not_unproved n = not_signed BadProof tt n

  pub not_strays : IsTold link → EndsInStrays words called link → ⊥
  not_strays told n = not_signed Strays told n

  pub not_nothing : HasNothing words called.random → ⊥
  not_nothing n = not_signed Unminted tt n

-- ---- and one that has none, by its cause

never_rose : Rose 0 0 → ⊥
never_rose h = elim h [ inl more ↦ absurd (omega (arith, more)) | inr last ↦ absurd (omega (arith, last)) ]

-- the cause of a command that takes no link is none of a link's
pub linkless : (command : Command) → ¬ IsTrue (promise_of command).links → (called : Called) (source : Shown ℕ) (s : Status) → (promise_of command).cause called source nowhere s → (number_of s ≢ 4) × (number_of s ≢ 7) × (number_of s ≢ 8) × (number_of s ≢ 12) × (number_of s ≢ 13) × (number_of s ≢ 15)
linkless command n called source LinkFault c = absurd (never_rose ((lawful command).means called source nowhere LinkFault c).0)
linkless command n called source Strays c = absurd ((lawful command).counts n called source nowhere ((lawful command).means called source nowhere Strays c).0)
linkless command n called source Unsound c = absurd ((lawful command).restores n source ((lawful command).means called source nowhere Unsound c))
linkless command n called source BadValue c = absurd ((lawful command).refuses n ((lawful command).means called source nowhere BadValue c))
linkless command n called source BadProof c = absurd ((lawful command).vouches n called.random ((lawful command).means called source nowhere BadProof c))
linkless command n called source NoSeeds c =
    let none_ = (lawful command).means called source nowhere NoSeeds c in
    absurd ((lawful command).seeks n called source none_.1)
linkless command n called source other c = ((λ e. absurd cc), (λ e. absurd cc), (λ e. absurd cc), (λ e. absurd cc), (λ e. absurd cc), (λ e. absurd cc))

-- no command's cause is that of words which ask for none
pub unasked : (command : Command) (called : Called) (source : Shown ℕ) (link : Shown Event) (s : Status) → (promise_of command).cause called source link s → number_of s ≡ 2 → ⊥
unasked command called source link Usage c e = (lawful command).means called source link Usage c
unasked command called source link other c e = absurd cc

-- where a command refuses no value, no cause of its is that
pub unrefused : {T : Type 0} (r : Result T Status) (X : Type 0) (command : Command) → ¬ (promise_of command).refused → (called : Called) (source : Shown ℕ) (link : Shown Event) → IfErr r ((promise_of command).cause called source link)
    → IfErr r (λ status. number_of status ≡ 12 → X)
unrefused (Ok x) X command n called source link c = tt
unrefused (Err s) X command n called source link c = by s c
  where
    by : (s : Status) → (promise_of command).cause called source link s → number_of s ≡ 12 → X
    by BadValue h e = absurd (n ((lawful command).means called source link BadValue h))
    by other h e = absurd cc

-- where a command refuses no proof, no cause of its is that
pub unvouched : {T : Type 0} (r : Result T Status) (X : Type 0) (command : Command) (called : Called) → ¬ (promise_of command).unproved called.random → (source : Shown ℕ) (link : Shown Event) → IfErr r ((promise_of command).cause called source link)
    → IfErr r (λ status. number_of status ≡ 15 → X)
unvouched (Ok x) X command called n source link c = tt
unvouched (Err s) X command called n source link c = by s c
  where
    by : (s : Status) → (promise_of command).cause called source link s → number_of s ≡ 15 → X
    by BadProof h e = absurd (n ((lawful command).means called source link BadProof h))
    by other h e = absurd cc

-- words that gave no command
pub refused : {T : Type 0} (asks : Type 0) (words : List Word) (called : Called) (source : Shown ℕ) (link : Shown Event) (r : Result T Status) (y x : Status) → r ≡ Err y → y ≡ x
    → (asks → Asks words) → (x ≡ Usage → ¬ Asks words) → (x ≡ Usage) ⊎ (x ≡ NoMemory) → source.after ≡ source.before → IfErr r (HasCause asks words called source link)
refused {T} asks words called source link r y x e f asking usage either same =
    let cause : HasCause asks words called source link x = elim either as (λ _. HasCause asks words called source link x) [
      | inl is ↦ subst (HasCause asks words called source link) (sym is) ((λ a. usage is (asking a)), same)
      | inr is ↦ subst (HasCause asks words called source link) (sym is) tt
    ] in
    subst (λ (q : Result T Status). IfErr q (HasCause asks words called source link)) (sym e) (subst (HasCause asks words called source link) (sym f) cause)

pub is_link_fault : (status : Status) → number_of status ≡ 4 → status ≡ LinkFault
is_link_fault LinkFault e = refl
is_link_fault other e = absurd cc

pub is_source_fault : (status : Status) → number_of status ≡ 6 → status ≡ SourceFault
is_source_fault SourceFault e = refl
is_source_fault other e = absurd cc

-- words that ask for no command, and want of memory for them, are no fault of the outside
pub no_fault : {T : Type 0} (fault : Status) → fault ≢ Usage → fault ≢ NoMemory → (r : Result T Status) (y x : Status) → r ≡ Err y → y ≡ x → (x ≡ Usage) ⊎ (x ≡ NoMemory) → r ≡ Err fault → ⊥
no_fault {T} fault other short r y x e f either is =
    let there : ◌≡◌ {A = Result T Status} (Err y) (Err fault) = sym e ∙ is in
    let it : y ≡ fault = cc in
    let same : fault ≡ x = sym it ∙ f in
    elim either [ inl usage ↦ other (same ∙ usage) | inr none_ ↦ short (same ∙ none_) ]

pub is_no_memory : (status : Status) → number_of status ≡ 9 → status ≡ NoMemory
is_no_memory NoMemory e = refl
is_no_memory other e = absurd cc

module _ (asks : Type 0) (words : List Word) (called : Called) (source : Shown ℕ) (link : Shown Event) where
  -- a command's own cause is that of its words
  pub caused : (command : Command) → CommandOf words command → (s : Status) → (promise_of command).cause called source link s → HasCause asks words called source link s
  caused command asked Usage c = absurd ((lawful command).means called source link Usage c)
  caused command asked NoMemory c = tt
  caused command asked s c = record { command = command; asked = asked; holds = c }

  means : (s : Status) (c : IsCaused words called source link s) → Means (promise_of c.command) called source link s
  means s c = (lawful c.command).means called source link s c.holds

  pub named : (s : Status) → HasCause asks words called source link s → Names words source s
  named (BadLine line) c = record { command = c.command; asked = c.asked; holds = (means (BadLine line) c).1 }
  named other c = tt

  pub usage_alone : (s : Status) → HasCause asks words called source link s → number_of s ≡ 2 → ¬ asks
  usage_alone Usage c e = c.0
  usage_alone other c e = absurd cc

  pub bad_line : (s : Status) → HasCause asks words called source link s → number_of s ≡ 3 → ReadsInput words × HasBadLine words source
  bad_line (BadLine line) c e = let m = means (BadLine line) c in (record { command = c.command; asked = c.asked; holds = m.0 }, (line, record { command = c.command; asked = c.asked; holds = m.1 }))
  bad_line other c e = absurd cc

  pub link_fault : (s : Status) → HasCause asks words called source link s → number_of s ≡ 4 → HasFailed link × HasStart words called source × HasBegun words called source link × HasNoLastStray words called source link
  link_fault LinkFault c e =
      let m = means LinkFault c in
      (m.0, record { command = c.command; asked = c.asked; holds = m.1 }, record { command = c.command; asked = c.asked; holds = m.2 }, record { command = c.command; asked = c.asked; holds = m.3 })
  link_fault other c e = absurd cc

  pub source_fault : (s : Status) → HasCause asks words called source link s → number_of s ≡ 6 → ReadsInput words × HasFailed source
  source_fault SourceFault c e = let m = means SourceFault c in (record { command = c.command; asked = c.asked; holds = m.0 }, m.1)
  source_fault other c e = absurd cc

  pub strays : (s : Status) → HasCause asks words called source link s → number_of s ≡ 7 → HasStrays words called source link × HasStart words called source × HasBegun words called source link
  strays Strays c e =
      let m = means Strays c in
      (record { command = c.command; asked = c.asked; holds = m.0 }, record { command = c.command; asked = c.asked; holds = m.1 }, record { command = c.command; asked = c.asked; holds = m.2 })
  strays other c e = absurd cc

  pub no_seeds : (s : Status) → HasCause asks words called source link s → number_of s ≡ 8 → HasNoSeeds words called source
  no_seeds NoSeeds c e = let m = means NoSeeds c in record { command = c.command; asked = c.asked; holds = m }
  no_seeds other c e = absurd cc

  pub unminted : (s : Status) → HasCause asks words called source link s → number_of s ≡ 10 → HasNothing words called.random
  unminted Unminted c e = record { command = c.command; asked = c.asked; holds = means Unminted c }
  unminted other c e = absurd cc

  pub too_long : (s : Status) → HasCause asks words called source link s → number_of s ≡ 11 → ReadsInput words × ReadsTooMuch source.before source.after
  too_long TooLong c e = let m = means TooLong c in (record { command = c.command; asked = c.asked; holds = m.0 }, m.1)
  too_long other c e = absurd cc

  pub bad_value : (s : Status) → HasCause asks words called source link s → number_of s ≡ 12 → HasBadValue words
  bad_value BadValue c e = record { command = c.command; asked = c.asked; holds = means BadValue c }
  bad_value other c e = absurd cc

  pub bad_proof : (s : Status) → HasCause asks words called source link s → number_of s ≡ 15 → HasBadProof words called.random
  bad_proof BadProof c e = record { command = c.command; asked = c.asked; holds = means BadProof c }
  bad_proof other c e = absurd cc

  pub unsound : (s : Status) → HasCause asks words called source link s → number_of s ≡ 13 → HasUnsound words source
  unsound Unsound c e = record { command = c.command; asked = c.asked; holds = means Unsound c }
  unsound other c e = absurd cc

  -- the sign of a status brings it
  comes : (s t : Status) → HasCause asks words called source link s → IsUncalled link s → IsJudged source link t → HasSign words called source link t → (HasSign words called source link t → asks) → OrNoMemory (number_of s) (number_of t)
  comes Usage t c early j d asking = absurd (c.0 (asking d))
  comes NoMemory t c early j d asking = inr refl
  comes s t c early j d asking =
      let sign = subst (λ (k : Command). Sign (promise_of k) called source link t) (command_once words d.command c.command d.asked c.asked) d.holds in
      (lawful c.command).one_sign called source link s t j early c.holds sign

  pub no_seeds_come : (s : Status) → HasCause asks words called source link s → IsUncalled link s → ((command : Command) → CommandOf words command → asks) → IsTold source → ¬ HasFailed source → HasNoSeeds words called source → OrNoMemory (number_of s) 8
  no_seeds_come s c early asking told quiet n = comes s NoSeeds c early (told, quiet) n (λ d. asking d.command d.asked)

  pub strays_come : (s : Status) → HasCause asks words called source link s → IsUncalled link s → ((command : Command) → CommandOf words command → asks) → IsTold link → EndsInStrays words called link → OrNoMemory (number_of s) 7
  strays_come s c early asking told n = comes s Strays c early told n (λ d. asking d.command d.asked)

  pub unminted_comes : (s : Status) → HasCause asks words called source link s → IsUncalled link s → (HasNothing words called.random → asks) → HasNothing words called.random → OrNoMemory (number_of s) 10
  unminted_comes s c early asking n = comes s Unminted c early tt n (λ d. asking n)

  pub bad_line_comes : (s : Status) → HasCause asks words called source link s → IsUncalled link s → ((command : Command) → CommandOf words command → asks) → IsTold source → ¬ HasFailed source → HasBadLine words source → OrNoMemory (number_of s) 3
  bad_line_comes s c early asking told quiet bad = comes s (BadLine bad.0) c early (told, quiet) bad.1 (λ d. asking d.command d.asked)

  pub unsound_comes : (s : Status) → HasCause asks words called source link s → IsUncalled link s → ((command : Command) → CommandOf words command → asks) → IsTold source → ¬ HasFailed source → HasUnsound words source → OrNoMemory (number_of s) 13
  unsound_comes s c early asking told quiet n = comes s Unsound c early (told, quiet) n (λ d. asking d.command d.asked)

  pub bad_value_comes : (s : Status) → HasCause asks words called source link s → IsUncalled link s → ((command : Command) → CommandOf words command → asks) → HasBadValue words → OrNoMemory (number_of s) 12
  bad_value_comes s c early asking n = comes s BadValue c early tt n (λ d. asking d.command d.asked)

  pub bad_proof_comes : (s : Status) → HasCause asks words called source link s → IsUncalled link s → ((command : Command) → CommandOf words command → asks) → HasBadProof words called.random → OrNoMemory (number_of s) 15
  bad_proof_comes s c early asking n = comes s BadProof c early tt n (λ d. asking d.command d.asked)

  pub too_long_comes : (s : Status) → HasCause asks words called source link s → IsUncalled link s → IsTold source → ReadsTooMuch source.before source.after → OrNoMemory (number_of s) 11
  too_long_comes Usage c early told much = absurd (few_not_much source.before source.after told (unread_few source.before source.after c.1) much)
  too_long_comes NoMemory c early told much = inr refl
  too_long_comes s c early told much = (lawful c.command).one_sign called source link s TooLong told early c.holds much

  pub completes : (sink : Shown ℕ) (s : Status) → HasCause asks words called source link s → asks → GoesWell words called source link sink → number_of s ≡ 9
  completes sink Usage c asking well = absurd (c.0 asking)
  completes sink NoMemory c asking well = refl
  completes sink s c asking well =
      let needs = subst (λ (k : Command). (promise_of k).needs called source link) (command_once words well.command c.command well.asked c.asked) well.needs in
      (lawful c.command).needed called source link s needs c.holds

  pub may_end : (s : Status) → HasCause asks words called source link s → asks → EndsByCommand words (number_of s)
  may_end Usage c asking command asked = absurd (c.0 asking)
  may_end NoMemory c asking command asked = inr (inr (inl refl))
  may_end s c asking command asked = subst (λ (k : Command). MayEnd (promise_of k) (number_of s)) (command_once words c.command command c.asked asked) ((lawful c.command).may_end called source link s c.holds)
