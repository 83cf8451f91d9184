-- What a call's steps come to together.
use Rattle.std.proofs.Common.{◌≡◌, ℕ, ◌+◌, ◌*◌, ◌%◌, ◌^◌, ◌<◌, ◌≤◌, false, List, [], ◌∷◌, ◌++◌, length, Some, Option, refl, sym, ap, ◌∙◌, subst, arith, eq-eqb, eqb, IfSome}
use prog.Atomic.{either}
use mathlib.Core.Option.{none}
use Rattle.atomic_table.specs.Table.{Me, step, Allows, rest}
use Rattle.kad_base.specs.declared.serial.Made.{Made}
use Rattle.kad_base.specs.Serial.{made, calls_of, left_by}
use Rattle.kad_base.proofs.Runs.{IsRun-push}
use Rattle.turn_book.specs.declared.board.View.{View}
use Rattle.turn_book.specs.Turns.{IsPrefix}
use Rattle.turn_book.specs.Rule.{either_of, has, part, view, Kept, Took, Taken, Gave, seen_in, seen_by, IsIdle, IsBusy, IsReady, Called}
use Rattle.turn_book.proofs.Lists.{calls_of-same}
use Rattle.turn_book.proofs.TurnSteps.{gives, takes}

module _ {S C R : Type 0} where
  pub has_own : (role : ℕ) (m m' : Me S (View C R)) → IsIdle role m → m' ≡ m → 1 ≤ has role m'.0
  has_own role m m' idle same = let e = ap (λ (z : Me S (View C R)). has role z.0) (same ∙ idle) in let t = ap either_of (eq-eqb role role refl) in omega arith

module _ {S C R : Type 0} (may : ℕ → C → Type 0) (move : S → ℕ → C → R → Type 0) (after : S → ℕ → C → R → S) (start : S) where
  abbrev M : Type 0
  M = Me S (View C R)

  abbrev idle_me : ℕ → List (Made C R) → M
  idle_me role seen = (view (part role seen ∷ []) false, [])

  abbrev pub IsTaken : ℕ → List (Made C R) → ℕ → M → Type 0
  IsTaken role seen found m' =
      IsBusy may move after start role m' × IsPrefix seen (seen_by m') × (calls_of role seen ≡ calls_of role (seen_by m')) × (found ≡ 2 * length (seen_by m'))

  pub takes_at : (n slots id : ℕ) (m : M) (told : Option S) (old new role : ℕ) → told ≡ Some start → 1 ≤ has role m.0 → old % 2 ≡ 0 → new ≡ old + 1
      → Allows (Kept may move after start n) slots id m 0 (λ x. either (eqb x old) new x) (Taken may move after told (step slots 0 old new none) m)
  takes_at n slots id m told old new role is own even up =
      subst (λ (z : Option S). Allows (Kept may move after start n) slots id m 0 (λ x. either (eqb x old) new x) (Taken may move after z (step slots 0 old new none) m)) (sym is) (takes may move after start n slots id m old new role own even up)

  pub told_took : (m m' : M) (told : Option S) (found : ℕ) → told ≡ Some start → IfSome told (λ z. Took may move after z m found m') → Took may move after start m found m'
  told_took m m' told found is t = subst (λ (z : Option S). IfSome z (λ u. Took may move after u m found m')) is t

  took : (role : ℕ) (seen : List (Made C R)) (found : ℕ) (m' : M) → Took may move after start (idle_me role seen) found m' → IsTaken role seen found m'
  took role seen found m' t = let k = t.6.0 in subst (IsTaken role seen found) (sym t.2) ((t.1, refl, t.4, t.5), k.0, k.1, t.3)

  pub took_at : (role : ℕ) (m m' : M) (found : ℕ) → IsIdle role m → Took may move after start m found m' → IsTaken role (seen_by m) found m'
  took_at role m m' found idle t = took role (seen_by m) found m' (subst (λ (z : M). Took may move after start z found m') idle t)

  pub gives_at : (n slots id role : ℕ) (call : C) (reply : R) (noted : Option (Made C R)) (m : M) → noted ≡ Some (made role call reply) → may role call → IsReady may move after start role call reply m → 2 * length (seen_by m) + 2 < 2 ^ 64
      → Allows (Kept may move after start n) slots id m 0 (λ x. (x + 1) % 2 ^ 64) (Gave noted (step slots 0 1 0 none) m)
  gives_at n slots id role call reply noted m is allowed ready room =
      let P : Option (Made C R) × M → Type 0 = λ z. Allows (Kept may move after start n) slots id z.1 0 (λ x. (x + 1) % 2 ^ 64) (Gave z.0 (step slots 0 1 0 none) z.1) in
      subst P (λ i. (sym is i, sym ready.1 i)) (gives may move after start n slots id (seen_by m) (made role call reply) ready.0 allowed ready.3 ready.4 room)

  pub given_at : (slots role : ℕ) (call : C) (reply : R) (noted : Option (Made C R)) (m m' : M) (found : ℕ) → noted ≡ Some (made role call reply) → IsReady may move after start role call reply m → Gave noted (step slots 0 1 0 none) m found m'
      → ◌≡◌ {A = M} m' (view (part role (seen_by m ++ made role call reply ∷ []) ∷ []) false, [])
  given_at slots role call reply noted m m' found is ready gave =
      let P : Option (Made C R) × M → Type 0 = λ z. Gave z.0 (step slots 0 1 0 none) z.1 found m' in
      subst P (λ i. (is i, ready.1 i)) gave

  pub called : (role : ℕ) (call : C) (reply : R) (before : List (Made C R)) (m m' : M) → may role call → IsPrefix before (seen_by m) × (calls_of role before ≡ calls_of role (seen_by m)) → IsReady may move after start role call reply m
      → ◌≡◌ {A = M} m' (view (part role (seen_by m ++ made role call reply ∷ []) ∷ []) false, []) → IsIdle role m' × Called may move after start role call reply before (seen_by m')
  called role call reply before m m' allowed taken ready last =
      let seen = seen_by m in
      let new : Made C R = made role call reply in
      let P : M → Type 0 = λ z. IsIdle role z × Called may move after start role call reply before (seen_by z) in
      subst P (sym last) (
        refl,
        (
          taken.0.0,
          ap (λ l. l ++ new ∷ []) taken.0.1,
          IsRun-push may move after start seen new ready.2 allowed ready.3,
          calls_of-same role seen new refl ∙ ap (λ l. l ++ new ∷ []) (sym taken.1),
        ),
      )

  abbrev head_of : S → List (ℕ × S) → S
  head_of d [] = d
  head_of d (x ∷ xs) = x.1

  -- the call at what the slot holds
  pub ready_at : (role : ℕ) (call : C) (reply : R) (m : M) (old st : S) → IsBusy may move after start role m → m.1 ≡ (0, old) ∷ rest m.1 → move old role call reply → st ≡ after old role call reply
      → IsReady may move after start role call reply (m.0, (0, st) ∷ rest m.1)
  ready_at role call reply m old st busy at told left =
      let slot : m.1 ≡ (0, busy.0) ∷ [] = ap (λ (z : M). z.1) busy.1 in
      let state : old ≡ left_by after start (seen_by m) = ap (head_of old) (sym at ∙ slot) ∙ busy.3 in
      (st, (λ i. ((busy.1 i).0, (0, st) ∷ rest (slot i))), busy.2, subst (λ z. move z role call reply) state told, left ∙ ap (λ z. after z role call reply) state)

  pub slot_of : (role : ℕ) (m : M) → IsBusy may move after start role m → (st : S) × (m.1 ≡ (0, st) ∷ rest m.1)
  slot_of role m busy = let slot : m.1 ≡ (0, busy.0) ∷ [] = ap (λ (z : M). z.1) busy.1 in (busy.0, slot ∙ (λ i. (0, busy.0) ∷ rest (sym slot i)))

  -- the same, where the call was told by a copy of it
  pub called_at : (role : ℕ) (call told : C) (reply : R) (before : List (Made C R)) (m m' m'' : M) → told ≡ call → may role call → IsPrefix before (seen_by m) × (calls_of role before ≡ calls_of role (seen_by m)) → m'.0 ≡ m.0
      → IsReady may move after start role call reply m' → ◌≡◌ {A = M} m'' (view (part role (seen_by m' ++ made role told reply ∷ []) ∷ []) false, []) → Called may move after start role call reply before (seen_by m'')
  called_at role call told reply before m m' m'' same allowed taken kept ready last =
      let P : List (Made C R) → Type 0 = λ l. IsPrefix before l × (calls_of role before ≡ calls_of role l) in
      (called role call reply before m' m'' allowed (subst P (ap (λ (v : View C R). seen_in v.parts) (sym kept)) taken) ready
      (last ∙ (λ i. (view (part role (seen_by m' ++ made role (same i) reply ∷ []) ∷ []) false, [])))).1
