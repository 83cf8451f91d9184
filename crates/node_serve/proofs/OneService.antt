-- The events of a service by one worker determine what it leaves.
use Rattle.std.proofs.Common.{◌≡◌, ℕ, zero, suc, Bool, true, false, List, [], ◌∷◌, ◌++◌, Option, Some, None, refl, sym, ap, subst, ◌∙◌}
use Rattle.kad_base.specs.declared.types.Addr.{Addr}
use Rattle.kad_base.specs.declared.types.Event.{Event}
use Rattle.kad_base.specs.declared.types.Event.TheVariants.{Got, Quiet, Sent, Unsent}
use Rattle.contact_table.specs.TableState.{TableState, SoundTable}
use Rattle.contact_table.specs.declared.calls.TableCall.{TableCall}
use Rattle.contact_table.proofs.StaysSound.{step-sound}
use Rattle.node_serve.specs.AnswerOf.{IsTold, notify_by}
use Rattle.node_serve.specs.Lasting.{waits_to}
use Rattle.node_serve.specs.NodeState.{NodeState}
use Rattle.node_serve.specs.Receives.{ServeState, Responds, silent, answered, ServesOne, quiet, came, Serves, ServesAll, tried}
use Rattle.node_serve.specs.Sealing.{Tags}
use Rattle.node_serve.specs.declared.lasting.Lasting.{Lasting}
use Rattle.node_serve.proofs.Once.{one_next}

same_state : (s t : ServeState) → s.node ≡ t.node → s.moment ≡ t.moment → s ≡ t
same_state s t node moment =
    let state : NodeState → ℕ → ServeState = (λ n m. record { node = n; moment = m }) in
    ap (λ (n : NodeState). state n s.moment) node ∙ ap (λ (m : ℕ). state t.node m) moment

-- ---- the table stays sound

told_sound : (o : Option TableCall) (t x : TableState) → SoundTable t → IsTold o t x → SoundTable x
told_sound None t x sound h = subst SoundTable (sym h) sound
told_sound (Some call) t x sound h = subst SoundTable (sym h.leaves) (step-sound t 0 call h.reply sound h.step)

module _ (tag_of : Tags) where
  responds_sound : (s : NodeState) (from : Addr) (bytes : List ℕ) (at : ℕ) (es : List Event) (next : NodeState) → SoundTable s.table → Responds tag_of s from bytes at es next → SoundTable next.table
  responds_sound s from bytes at es next sound (silent is none_ same) = subst (λ (n : NodeState). SoundTable n.table) (sym same) sound
  responds_sound s from bytes at es next sound (answered reply was_sent a e) = told_sound (notify_by s.policy a.read_only a.proof a.ask from) s.table next.table sound a.told

  module _ (limit : Option ℕ) where
    one_sound : (s t : ServeState) (es : List Event) → SoundTable s.node.table → ServesOne tag_of limit s es t → SoundTable t.node.table
    one_sound s t es sound (quiet e same) = subst (λ (n : NodeState). SoundTable n.table) (sym same) sound
    one_sound s t es sound (came from bytes then e r) = responds_sound s.node from bytes t.moment then t.node sound r

    -- ---- one step

    -- no receive begins with a send
    no_send : (n : ℕ) (s t : ServeState) (es : List Event) (was_sent : Bool) (to : Addr) (text : List ℕ) (rest : List Event) → Serves tag_of limit n s es t → es ≡ tried was_sent to text ∷ rest → ⊥
    no_send zero s t es was_sent to text rest h e =
        let x : ◌≡◌ {A = List Event} [] (tried was_sent to text ∷ rest) = sym h.0 ∙ e in
        absurd cc
    no_send (suc n) s t es was_sent to text rest h e = unsent s h.1 h.0 h.2 was_sent h.5 (sym h.3 ∙ e)
      where
        unsent : (s u : ServeState) (one more : List Event) (b : Bool) → ServesOne tag_of limit s one u → one ++ more ≡ tried b to text ∷ rest → ⊥
        unsent s u one more true (quiet a same) x =
            let y : ◌≡◌ {A = List Event} (Quiet (waits_to limit s.moment) u.moment ∷ more) (Sent to text ∷ rest) = ap (λ (l : List Event). l ++ more) (sym a) ∙ x in
            absurd cc
        unsent s u one more false (quiet a same) x =
            let y : ◌≡◌ {A = List Event} (Quiet (waits_to limit s.moment) u.moment ∷ more) (Unsent to text ∷ rest) = ap (λ (l : List Event). l ++ more) (sym a) ∙ x in
            absurd cc
        unsent s u one more true (came from bytes then a r) x =
            let y : ◌≡◌ {A = List Event} (Got from bytes (waits_to limit s.moment) u.moment ∷ (then ++ more)) (Sent to text ∷ rest) = ap (λ (l : List Event). l ++ more) (sym a) ∙ x in
            absurd cc
        unsent s u one more false (came from bytes then a r) x =
            let y : ◌≡◌ {A = List Event} (Got from bytes (waits_to limit s.moment) u.moment ∷ (then ++ more)) (Unsent to text ∷ rest) = ap (λ (l : List Event). l ++ more) (sym a) ∙ x in
            absurd cc

    some_event : (s u : ServeState) (one more : List Event) → ServesOne tag_of limit s one u → [] ≡ one ++ more → ⊥
    some_event s u one more (quiet a same) x =
        let y : ◌≡◌ {A = List Event} [] (Quiet (waits_to limit s.moment) u.moment ∷ more) = x ∙ ap (λ (l : List Event). l ++ more) a in
        absurd cc
    some_event s u one more (came from bytes then a r) x =
        let y : ◌≡◌ {A = List Event} [] (Got from bytes (waits_to limit s.moment) u.moment ∷ (then ++ more)) = x ∙ ap (λ (l : List Event). l ++ more) a in
        absurd cc

    -- what follows a datagram, where runs follow that
    module _ (n m : ℕ) (v w t u : ServeState) (more rest : List Event) (h : Serves tag_of limit n v more t) (k : Serves tag_of limit m w rest u) where
      answered_once : (s : NodeState) (from : Addr) (bytes : List ℕ) (at : ℕ) (one other : List Event) (x y : NodeState) → SoundTable s.table → Responds tag_of s from bytes at one x → Responds tag_of s from bytes at other y → one ++ more ≡ other ++ rest
          → (x ≡ y) × (more ≡ rest)
      answered_once s from bytes at one other x y sound (silent i a same) (silent j b again) e = (same ∙ sym again, ap (λ (l : List Event). l ++ more) (sym a) ∙ e ∙ ap (λ (l : List Event). l ++ rest) b)
      answered_once s from bytes at one other x y sound (silent i a same) (answered reply was_sent c d) e = absurd (no_send n v t more was_sent from _ rest h (ap (λ (l : List Event). l ++ more) (sym a) ∙ e ∙ ap (λ (l : List Event). l ++ rest) d))
      answered_once s from bytes at one other x y sound (answered reply was_sent c d) (silent i b same) e = absurd (no_send m w u rest was_sent from _ more k (ap (λ (l : List Event). l ++ rest) (sym b) ∙ sym e ∙ ap (λ (l : List Event). l ++ more) d))
      answered_once s from bytes at one other x y sound (answered reply was_sent c d) (answered again were_sent p q) e = (
        one_next s from bytes at reply again x y c p sound,
        behind _ _ more rest (ap (λ (l : List Event). l ++ more) (sym d) ∙ e ∙ ap (λ (l : List Event). l ++ rest) q),
      )
        where
          behind : (a b : Event) (l k : List Event) → a ∷ l ≡ b ∷ k → l ≡ k
          behind a b l k e = cc

      state_once : (s : ServeState) (one other : List Event) → SoundTable s.node.table → ServesOne tag_of limit s one v → ServesOne tag_of limit s other w → one ++ more ≡ other ++ rest → (v ≡ w) × (more ≡ rest)
      state_once s one other sound (quiet a same) (quiet b again) e =
          let x : ◌≡◌ {A = List Event} (Quiet (waits_to limit s.moment) v.moment ∷ more) (Quiet (waits_to limit s.moment) w.moment ∷ rest) = ap (λ (l : List Event). l ++ more) (sym a) ∙ e ∙ ap (λ (l : List Event). l ++ rest) b in
          let moment : v.moment ≡ w.moment = cc in
          let tail : more ≡ rest = cc in
          (same_state v w (same ∙ sym again) moment, tail)
      state_once s one other sound (quiet a same) (came from bytes then b r) e =
          let x : ◌≡◌ {A = List Event} (Quiet (waits_to limit s.moment) v.moment ∷ more) (Got from bytes (waits_to limit s.moment) w.moment ∷ (then ++ rest)) = ap (λ (l : List Event). l ++ more) (sym a) ∙ e ∙ ap (λ (l : List Event). l ++ rest) b in
          absurd cc
      state_once s one other sound (came from bytes then a r) (quiet b again) e =
          let x : ◌≡◌ {A = List Event} (Got from bytes (waits_to limit s.moment) v.moment ∷ (then ++ more)) (Quiet (waits_to limit s.moment) w.moment ∷ rest) = ap (λ (l : List Event). l ++ more) (sym a) ∙ e ∙ ap (λ (l : List Event). l ++ rest) b in
          absurd cc
      state_once s one other sound (came from bytes then a r) (came source text after b q) e =
          let x : ◌≡◌ {A = List Event} (Got from bytes (waits_to limit s.moment) v.moment ∷ (then ++ more)) (Got source text (waits_to limit s.moment) w.moment ∷ (after ++ rest)) = ap (λ (l : List Event). l ++ more) (sym a) ∙ e ∙ ap (λ (l : List Event). l ++ rest) b in
          let sources : from ≡ source = cc in
          let texts : bytes ≡ text = cc in
          let moment : v.moment ≡ w.moment = cc in
          let tail : then ++ more ≡ after ++ rest = cc in
          let same = subst (λ (f : Addr). Responds tag_of s.node f bytes v.moment after w.node) (sym sources)
          (subst (λ (l : List ℕ). Responds tag_of s.node source l v.moment after w.node) (sym texts)
          (subst (λ (at : ℕ). Responds tag_of s.node source text at after w.node) (sym moment) q)) in
          let both = answered_once s.node from bytes v.moment then after v.node w.node sound r same tail in
          (same_state v w both.0 moment, both.1)

    -- ---- all of them

    run_once : (n m : ℕ) (s t u : ServeState) (es fs : List Event) → SoundTable s.node.table → es ≡ fs → Serves tag_of limit n s es t → Serves tag_of limit m s fs u → t ≡ u
    run_once zero zero s t u es fs sound e h k = h.1 ∙ sym k.1
    run_once zero (suc m) s t u es fs sound e h k = absurd (some_event s k.1 k.0 k.2 k.5 (sym h.0 ∙ e ∙ k.3))
    run_once (suc n) zero s t u es fs sound e h k = absurd (some_event s h.1 h.0 h.2 h.5 (sym k.0 ∙ sym e ∙ h.3))
    run_once (suc n) (suc m) s t u es fs sound e h k =
        let both = state_once n m h.1 k.1 t u h.2 k.2 h.6 k.6 s h.0 k.0 sound h.5 k.5 (sym h.3 ∙ e ∙ k.3) in
        run_once n m h.1 t u h.2 k.2 (one_sound s h.1 h.0 sound h.5) both.1 h.6 (subst (λ (x : ServeState). Serves tag_of limit m x k.2 u) (sym both.0) k.6)

-- the table that a service leaves follows from how it began and from its events
pub service_once : (tag_of : Tags) (s : ServeState) (lasting : Lasting) (a b : TableState) (x y p q : ℕ) (es : List Event) → SoundTable s.node.table → ServesAll tag_of s lasting a x p es → ServesAll tag_of s lasting b y q es → a ≡ b
service_once tag_of s lasting a b x y p q es sound h k = h.table_is ∙ ap (λ (e : ServeState). e.node.table) (run_once tag_of _ h.made k.made s h.end k.end es es sound refl h.serves k.serves) ∙ sym k.table_is
