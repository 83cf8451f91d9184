-- Events are read from a journal in one way: two readings that give the same entries show the same.
use Rattle.std.proofs.Common.{◌≡◌, ℕ, zero, suc, ◌+◌, List, [], ◌∷◌, ◌++◌, true, cond, inl, inr, refl, sym, ap, subst, ◌∙◌}
use Rattle.std.specs.Prelude.{map, filter}
use Rattle.std.specs.List.{AllByRecursion}
use Rattle.std.proofs.lemmas.List.{append-nil, append_assoc, append_cancel_left}
use Rattle.kad_base.specs.declared.types.Event.{Event}
use Rattle.kad_base.specs.declared.types.Event.TheVariants.{Now, Sent, Unsent, Got, Quiet}
use Rattle.kad_base.specs.Words.{word}
use Rattle.claim_book.specs.declared.types.Cause.TheVariants.{SendFault}
use Rattle.claim_book.specs.declared.types.Entry.{Entry}
use Rattle.claim_book.specs.declared.types.Entry.TheVariants.{Ask, Lost}
use Rattle.lookup_core.proofs.Received.{driven_append, driven_closed}
use Rattle.lookup_core.specs.declared.quest.Quest.{Quest}
use Rattle.lookup_core.specs.Matching.{OpenQuery, query_of, ReplyGives}
use Rattle.lookup_core.specs.Reply.{Reply}
use Rattle.lookup_core.specs.Reply as reply
use Rattle.lookup_core.specs.Timeouts.{is_overdue, closed_at}
use Rattle.lookup_run.specs.Tells.{Given, Seen, is_driven, driven, Gives, TellsFrom}
use Rattle.lookup_run.specs.Rounds.{Scheduling, path_number, SettlesFrom, SettlesIn, RoundsFrom}
use Rattle.lookup_run.proofs.OnceEvents.{Apart, apart_gives, got_once, free_once, sent_after, unsent_after}
use Rattle.lookup_run.proofs.Quiet.{IsMute, quiet_entry, none_driven}

-- ---- what is given only grows, by entries of the driver

pub record Adds (s t : Seen) : Type 0 where
  pub more : List Entry
  pub given : t.given ≡ s.given ++ more
  pub all_driven : driven more ≡ more

driven_entry : (quest : Quest) (q : OpenQuery) (r : Reply) (e : Entry) → ReplyGives quest q r e → is_driven e ≡ true
driven_entry quest q (reply.Answer answer) e h = elim h [ inl x ↦ ap is_driven x.1 | inr x ↦ ap is_driven x.1 ]
driven_entry quest q (reply.Error code) e h = ap is_driven h

driven_first : (e : Entry) (es : List Entry) → is_driven e ≡ true → driven es ≡ es → driven (e ∷ es) ≡ e ∷ es
unfolding driven
driven_first e es is rest = ap (λ b. cond b (e ∷ filter is_driven es) (filter is_driven es)) is ∙ ap (λ l. e ∷ l) rest

adds : (g : Given) (J : List Entry) (s t : Seen) (e : Event) → Gives g J s e t → Adds s t
unfolding driven
adds g J s t (Now at) h = absurd h
adds g J s t (Sent to bytes) h = record { more = Ask h.path h.contact ∷ []; given = ap (λ (x : Seen). x.given) h.after; all_driven = refl }
adds g J s t (Unsent to bytes) h = record { more = Ask h.path h.contact ∷ Lost h.path h.contact SendFault ∷ []; given = ap (λ (x : Seen). x.given) h.after; all_driven = refl }
adds g J s t (Got from bytes until at) h =
    elim h.1 [
      | inl m ↦ record {
        more = m.entry ∷ closed_at at m.left;
        given = ap (λ (x : Seen). x.given) m.after;
        all_driven = driven_first m.entry (closed_at at m.left) (driven_entry g.quest m.matched.query m.matched.what m.entry m.matched.entry) (driven_closed (filter (is_overdue at) m.left));
      }
      | inr m ↦ record { more = closed_at at s.queries; given = ap (λ (x : Seen). x.given) m.1; all_driven = driven_closed (filter (is_overdue at) s.queries) }
    ]
adds g J s t (Quiet until at) h = record { more = closed_at at s.queries; given = ap (λ (x : Seen). x.given) h.1; all_driven = driven_closed (filter (is_overdue at) s.queries) }

grown : (g : Given) (J : List Entry) (s t : Seen) (es : List Event) → TellsFrom g J s es t → (more : List Entry) × (t.given ≡ s.given ++ more)
grown g J s t [] h = ([], ap (λ (x : Seen). x.given) h ∙ sym (append-nil s.given))
grown g J s t (e ∷ es) h =
    let one = adds g J s h.0 e h.1 in
    let rest = grown g J h.0 t es h.2 in
    (one.more ++ rest.0, rest.1 ∙ ap (λ l. l ++ rest.0) one.given ∙ append_assoc s.given one.more rest.0)

-- ---- one reading

-- what an event adds begins what is given at last
adds_front : (given more last : List Entry) (s : List Entry) → given ≡ s ++ more → given ++ last ≡ s ++ (more ++ last)
adds_front given more last s is = ap (λ l. l ++ last) is ∙ append_assoc s more last

pub gives_once : (g : Given) (J K : List Entry) (s t u : Seen) (e : Event) (m n : List Entry) → Apart s.queries → Gives g J s e t → Gives g K s e u → t.given ++ m ≡ u.given ++ n → t ≡ u
gives_once g J K s t u (Now at) m n apart h k same = absurd h
gives_once g J K s t u (Sent to bytes) m n apart h k same =
    let both : Ask h.path h.contact ∷ m ≡ Ask k.path k.contact ∷ n = append_cancel_left s.given (Ask h.path h.contact ∷ m) (Ask k.path k.contact ∷ n)
    (sym (adds_front t.given (Ask h.path h.contact ∷ []) m s.given (ap (λ (x : Seen). x.given) h.after)) ∙ same ∙ adds_front u.given (Ask k.path k.contact ∷ []) n s.given (ap (λ (x : Seen). x.given) k.after)) in
    let path : h.path ≡ k.path = cc in
    let contact : h.contact ≡ k.contact = cc in
    let tx = free_once (map query_of s.queries) (word g.seed (g.place + s.sends)) h.tx k.tx h.is_query.id k.is_query.id in
    h.after ∙ ap (λ p. sent_after g s p h.contact h.tx) path ∙ ap (λ c. sent_after g s k.path c h.tx) contact ∙ ap (λ i. sent_after g s k.path k.contact i) tx ∙ sym k.after
gives_once g J K s t u (Unsent to bytes) m n apart h k same =
    let both : Ask h.path h.contact ∷ Lost h.path h.contact SendFault ∷ m ≡ Ask k.path k.contact ∷ Lost k.path k.contact SendFault ∷ n = append_cancel_left s.given (Ask h.path h.contact ∷ Lost h.path h.contact SendFault ∷ m) (Ask k.path k.contact ∷ Lost k.path k.contact SendFault ∷ n)
    (sym (adds_front t.given (Ask h.path h.contact ∷ Lost h.path h.contact SendFault ∷ []) m s.given (ap (λ (x : Seen). x.given) h.after)) ∙ same ∙ adds_front u.given (Ask k.path k.contact ∷ Lost k.path k.contact SendFault ∷ []) n s.given (ap (λ (x : Seen). x.given) k.after)) in
    let path : h.path ≡ k.path = cc in
    let contact : h.contact ≡ k.contact = cc in
    h.after ∙ ap (λ p. unsent_after s p h.contact) path ∙ ap (λ c. unsent_after s k.path c) contact ∙ sym k.after
gives_once g J K s t u (Got from bytes until at) m n apart h k same = got_once g s t u from bytes at apart h.1 k.1
gives_once g J K s t u (Quiet until at) m n apart h k same = h.1 ∙ sym k.1

-- past one event of both
pub past_once : (g : Given) (J K : List Entry) (s t u x y : Seen) (e : Event) (es : List Event) → Apart s.queries → Gives g J s e t → Gives g K s e u → TellsFrom g J t es x → TellsFrom g K u es y → x.given ≡ y.given → t ≡ u
past_once g J K s t u x y e es apart h k rest others same =
    let a = grown g J t x es rest in
    let b = grown g K u y es others in
    gives_once g J K s t u e a.0 b.0 apart h k (sym a.1 ∙ same ∙ b.1)

pub told_once : (g : Given) (J K : List Entry) (s t u : Seen) (es : List Event) → Apart s.queries → TellsFrom g J s es t → TellsFrom g K s es u → t.given ≡ u.given → t ≡ u
told_once g J K s t u [] apart h k same = h ∙ sym k
told_once g J K s t u (e ∷ es) apart h k same =
    let one = past_once g J K s h.0 k.0 t u e es apart h.1 k.1 h.2 k.2 same in
    told_once g J K k.0 t u es (apart_gives g K s k.0 e apart k.1) (subst (λ x. TellsFrom g J x es t) one h.2) k.2 same

-- ---- the end of a walk by rounds

all_mute : (scheduling : Scheduling) (p : ℕ) (es : List Entry) → SettlesFrom scheduling p es → AllByRecursion IsMute es
all_mute scheduling p [] h = tt
all_mute scheduling p (e ∷ es) h = ((quiet_entry (path_number e) e h.1).mute, all_mute scheduling (path_number e) es h.2)

settled_undriven : (scheduling : Scheduling) (n : ℕ) (es : List Entry) → SettlesIn scheduling n es → driven es ≡ []
unfolding driven
settled_undriven scheduling zero es h = none_driven es (all_mute scheduling 0 es h)
settled_undriven scheduling (suc n) es h = ap driven h

-- the entries of the driver, once more of them were settled
undriven_more : (scheduling : Scheduling) (n : ℕ) (P between : List Entry) → SettlesIn scheduling n between → driven (P ++ between) ≡ driven P
undriven_more scheduling n P between h = driven_append P between ∙ ap (λ l. driven P ++ l) (settled_undriven scheduling n between h) ∙ append-nil (driven P)

module _ (scheduling : Scheduling) (g : Given) (J : List Entry) where
  unfoldable pub last_seen : (P : List Entry) (s : Seen) (es : List Event) → RoundsFrom scheduling g J P s es → Seen
  last_seen P s [] h = s
  last_seen P s (e ∷ es) h = last_seen ((P ++ h.0.between) ++ h.0.gave) h.0.mid es h.1

  pub rounds_tell : (P : List Entry) (s : Seen) (es : List Event) (h : RoundsFrom scheduling g J P s es) → TellsFrom g J s es (last_seen P s es h)
  unfolding last_seen
  rounds_tell P s [] h = refl
  rounds_tell P s (e ∷ es) h = (h.0.mid, h.0.gives, rounds_tell ((P ++ h.0.between) ++ h.0.gave) h.0.mid es h.1)

  -- they give the driver's entries of the journal
  pub rounds_give : (P : List Entry) (s : Seen) (es : List Event) (h : RoundsFrom scheduling g J P s es) → s.given ≡ driven P → (last_seen P s es h).given ≡ driven J
  unfolding last_seen
  rounds_give P s [] h so_far = so_far ∙ sym (undriven_more scheduling s.receives P h.0 h.2) ∙ ap driven (sym h.1)
  rounds_give P s (e ∷ es) h so_far =
      let step = h.0 in
      let one = adds g J s step.mid e step.gives in
      let gave : step.gave ≡ one.more = append_cancel_left s.given step.gave one.more (sym step.given ∙ one.given) in
      let gave_driven : driven step.gave ≡ step.gave = ap driven gave ∙ one.all_driven ∙ sym gave in
      rounds_give ((P ++ step.between) ++ step.gave) step.mid es h.1
      (step.given ∙ ap (λ l. l ++ step.gave) (so_far ∙ sym (undriven_more scheduling s.receives P step.between step.settles)) ∙ ap (λ l. driven (P ++ step.between) ++ l) (sym gave_driven) ∙ sym (driven_append (P ++ step.between) step.gave))
