-- A run is made of the calls of its roles, each once.
use Rattle.std.proofs.Common.{◌≡◌, ◌≢◌, ℕ, ◌≤◌, Bool, not, eqb, List, [], ◌∷◌, ◌++◌, refl, sym, ap, ◌∙◌, subst, arith, eq-eqb, ne_eqb, filter, cond}
use mathlib.Core.Logic.{dite}
use native.Mathlib.Decide.{ℕ_discrete}
use Rattle.std.specs.List.{flat_map}
use Rattle.std.specs.List.Sorted.{IsPermutation}
use Rattle.std.proofs.lemmas.List.Sorted.{IsPermutation-refl, IsPermutation-trans, IsPermutation-append_right, IsPermutation-filter_both}
use Rattle.kad_base.specs.declared.serial.Made.{Made}
use Rattle.kad_base.specs.Serial.{calls_of}
use Rattle.turn_book.specs.Turns.{PassState, mine}
use Rattle.turn_book.specs.Rule.{Each, total, either_of}

module _ {C R : Type 0} where
  abbrev others_of : ℕ → List (Made C R) → List (Made C R)
  others_of r run = filter (λ e. not (eqb e.role r)) run

  -- how many of the passes have the role
  abbrev pub holders : ℕ → List (PassState C R) → ℕ
  holders r ps = total (λ p. either_of (eqb p.role r)) ps

  -- the calls of one role stand among those of all roles but another
  calls_of-others : (r q : ℕ) (run : List (Made C R)) → q ≢ r → calls_of q (others_of r run) ≡ calls_of q run
  calls_of-others r q [] ne = refl
  calls_of-others r q (e ∷ run) ne =
      let rest = calls_of-others r q run ne in dite (ℕ_discrete e.role r)
      (λ here. ap (λ (b : Bool). calls_of q (cond (not b) (e ∷ others_of r run) (others_of r run))) (eq-eqb e.role r here) ∙ (rest ∙ sym (ap (λ (b : Bool). cond b (e ∷ calls_of q run) (calls_of q run)) (ne_eqb e.role q (λ same. ne (sym same ∙ here))))))
      (λ other. ap (λ (b : Bool). calls_of q (cond (not b) (e ∷ others_of r run) (others_of r run))) (ne_eqb e.role r other) ∙ ap (λ l. cond (eqb e.role q) (e ∷ l) l) rest)

  Each-others : (P Q : Made C R → Type 0) (r : ℕ) (run : List (Made C R)) → ((e : Made C R) → e.role ≢ r → P e → Q e) → Each P run → Each Q (others_of r run)
  Each-others P Q r [] f a = tt
  Each-others P Q r (e ∷ run) f a =
      let rest = Each-others P Q r run f a.1 in dite (ℕ_discrete e.role r)
      (λ here. subst (λ (b : Bool). Each Q (cond (not b) (e ∷ others_of r run) (others_of r run))) (sym (eq-eqb e.role r here)) rest)
      (λ other. subst (λ (b : Bool). Each Q (cond (not b) (e ∷ others_of r run) (others_of r run))) (sym (ne_eqb e.role r other)) (f e other a.0, rest))

  same_shares : (r : ℕ) (run : List (Made C R)) (ps : List (PassState C R)) → holders r ps ≡ 0 → flat_map (λ (p : PassState C R). calls_of p.role (others_of r run)) ps ≡ flat_map (λ (p : PassState C R). calls_of p.role run) ps
  same_shares r run [] none_has = refl
  same_shares r run (p ∷ ps) none_has =
      let other : p.role ≢ r = λ here. (let on = ap either_of (eq-eqb p.role r here) in absurd (omega arith)) in
      let one = calls_of-others r p.role run other in
      let rest = same_shares r run ps (omega arith) in
      λ i. one i ++ rest i

  -- where no two passes have one role, and each call is of a pass's role
  pub shares : (ps : List (PassState C R)) (run : List (Made C R)) → ((r : ℕ) → holders r ps ≤ 1) → Each (λ e. 1 ≤ holders e.role ps) run → IsPermutation run (flat_map (λ (p : PassState C R). calls_of p.role run) ps)
  shares [] [] one known = IsPermutation-refl []
  shares [] (e ∷ run) one known = absurd (let k = known.0 in omega arith)
  shares (p ∷ ps) run one known =
      let on = ap either_of (eq-eqb p.role p.role refl) in
      let none_has : holders p.role ps ≡ 0 = (let o = one p.role in omega arith) in
      let rest = shares ps (others_of p.role run) (λ r. let o = one r in omega arith)
      (Each-others (λ (e : Made C R). 1 ≤ holders e.role (p ∷ ps)) (λ (e : Made C R). 1 ≤ holders e.role ps) p.role run
      (λ e other k. let off = ap either_of (ne_eqb p.role e.role (λ same. other (sym same))) in omega arith) known) in
      IsPermutation-trans _ _ _ (IsPermutation-filter_both (λ (e : Made C R). eqb e.role p.role) (λ (e : Made C R). not (eqb e.role p.role)) (λ e. refl) run)
      (IsPermutation-append_right (calls_of p.role run) _ _ (subst (IsPermutation (others_of p.role run)) (same_shares p.role run ps none_has) rest))

  pub all_mine : (run : List (Made C R)) (ps : List (PassState C R)) → Each (λ p. mine p ≡ calls_of p.role run) ps → flat_map (λ (p : PassState C R). calls_of p.role run) ps ≡ flat_map mine ps
  all_mine run [] a = refl
  all_mine run (p ∷ ps) a = let rest = all_mine run ps a.1 in λ i. sym a.0 i ++ rest i
