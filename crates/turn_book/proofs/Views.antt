-- Views that are dealt out, put together again, and read at the end.
use Rattle.std.proofs.Common.{◌≡◌, ℕ, suc, ◌+◌, ◌-◌, ◌*◌, ◌/◌, ◌<◌, ◌≤◌, false, true≢false, eqb, List, [], ◌∷◌, ◌++◌, map, length, get_or, refl, sym, ap, ◌∙◌, subst, arith, lt_of_not-le}
use mathlib.Core.Logic.{dite}
use mathlib.Core.Option.{some, some-injective, some-ne-none}
use native.Mathlib.Decide.{ℕ_discrete}
use lib.ListN.{get_elem?}
use Rattle.std.specs.List.{range_with_len}
use Rattle.atomic_table.specs.Table.{State, Me, Final, Seen}
use Rattle.kad_base.specs.Serial.{left_by}
use Rattle.turn_book.specs.declared.board.Part.{Part}
use Rattle.turn_book.specs.declared.board.View.{View}
use Rattle.turn_book.specs.Turns.{TurnState, PassState, fresh, all_fresh, AreAll, Closed}
use Rattle.std.proofs.lemmas.List.FromFn.{length-map-range_with_len}
use Rattle.std.proofs.lemmas.List.Elements.{All-map}
use Rattle.turn_book.specs.Rule.{either_of, has, part, view, roles_from, without_first, only_first, part_of, Kept}
use Rattle.turn_book.proofs.Lists.{Each-weaker, Each-unmap, Each-all, total-at, total-two, total-map, holds_every}
use Rattle.turn_book.proofs.Shares.{holders, shares, all_mine}
use Rattle.std.specs.List.Sorted.{IsPermutation}

abbrev pub Stood : Type 0 → Type 0 → Type 0 → Type 0
Stood S C R = Me S (View C R)

at_first : (l : List ℕ) (w : ℕ) → get_elem? l 0 ≡ some w → get_or l 0 0 ≡ w
at_first [] w e = absurd (some-ne-none w (sym e))
at_first (x ∷ l) w e = some-injective x w e

module _ {S C R : Type 0} where
  -- the first role goes to another seat
  pub dealt : (r n : ℕ) (m : Stood S C R) → r < n → m ≡ (view (roles_from r (n - r)) false, [])
      → (m.0.marked ≡ false) × (◌≡◌ {A = Stood S C R} (without_first m.0, m.1) (view (roles_from (r + 1) (n - (r + 1))) false, [])) × ((only_first m.0) ≡ view (part r [] ∷ []) false)
  dealt r n m lt is =
      let more : n - r ≡ suc (n - (r + 1)) = omega arith in
      let e : m ≡ (view (roles_from r (suc (n - (r + 1)))) false, []) = is ∙ (λ i. (view (roles_from r (more i)) false, [])) in
      (ap (λ (z : Stood S C R). z.0.marked) e, ap (λ (z : Stood S C R). (without_first z.0, z.1)) e, ap (λ (z : Stood S C R). only_first z.0) e)

  -- the parts of one view go before those of another
  pub gathered : (p : PassState C R) (done : List (PassState C R)) (m w : Stood S C R) → m ≡ (view (part_of p ∷ []) false, []) → w ≡ (view (map part_of done) false, [])
      → ◌≡◌ {A = Stood S C R} (view (m.0.parts ++ w.0.parts) false, m.1) (view (map part_of (p ∷ done)) false, [])
  gathered p done m w is all = λ i. (view ((is i).0.parts ++ (all i).0.parts) false, (is i).1)

module _ {C R : Type 0} where
  parts_long : (ps : List (PassState C R)) → length (map part_of ps) ≡ length ps
  parts_long [] = refl
  parts_long (p ∷ ps) = ap suc (parts_long ps)

  -- the passes that are dealt out are all
  pub all_are : {S : Type 0} (t : TurnState S) → AreAll {C = C} {R = R} t (all_fresh t)
  all_are t = record {
    count = length-map-range_with_len (fresh t.id) 0 t.roles;
    own = All-map (λ (p : PassState C R). p.turn ≡ t.id) (fresh t.id) (range_with_len 0 t.roles) (λ k d lt. refl);
  }

module _ {S C R : Type 0} (may : ℕ → C → Type 0) (move : S → ℕ → C → R → Type 0) (after : S → ℕ → C → R → S) (t : TurnState S) where
  abbrev Rule : State S (View C R) → Type 0
  Rule = Kept may move after t.start t.roles

  -- as many parts as there are roles are one of each
  all_roles : (id : ℕ) (ps : List (PassState C R)) (s : State S (View C R)) → Rule s → get_elem? s.views id ≡ some (view (map part_of ps) false) → length ps ≡ t.roles → (role : ℕ) → role < t.roles → 1 ≤ has role (view (map part_of ps) false)
  all_roles id ps s r at long role below =
      let v : View C R = view (map part_of ps) false in
      holds_every (λ (p : Part C R). p.role) t.roles (map part_of ps) (parts_long ps ∙ long)
      (λ k. let a = r.apart k in let b = total-at (has k) s.views id v at in omega arith)
      (λ k above. let a = r.known k above in let b = total-at (has k) s.views id v at in omega arith)
      role below

  -- while one seat has all roles and is not marked, the slot is at home
  at_rest : (id : ℕ) (ps : List (PassState C R)) (s : State S (View C R)) (r : Rule s) → get_elem? s.views id ≡ some (view (map part_of ps) false) → length ps ≡ t.roles → r.busy ≡ 0
  at_rest id ps s r at long = dite (ℕ_discrete r.busy 1)
      (λ busy.
      let o = r.owner busy in
      let role : ℕ = o.3.0 in
      let some_role = o.3.1 in
      let apart : id ≡ r.holder → ⊥ = λ same. true≢false (sym o.2 ∙ ap (λ (v : View C R). v.marked) (some-injective o.0 (view (map part_of ps) false) (sym o.1 ∙ (ap (get_elem? s.views) (sym same) ∙ at)))) in
      let below : role < t.roles = lt_of_not-le (λ (above : t.roles ≤ role). let none = r.known role above in let b = total-at (has role) s.views r.holder o.0 o.1 in omega arith) in
      let own = all_roles id ps s r at long role below in
      let both = total-two (has role) s.views id r.holder (view (map part_of ps) false) o.0 apart at o.1 in
      let one = r.apart role in
      absurd (omega arith))
      (λ free. let b = r.bit in omega arith)

  pub ends : (id : ℕ) (ps : List (PassState C R)) (me : Stood S C R) (words : List ℕ) (slots : List S) (word : ℕ) (state : S) → me ≡ (view (map part_of ps) false, []) → AreAll t ps
      → Final (Seen Rule id me.0) words slots → get_elem? words 0 ≡ some word → get_elem? slots 0 ≡ some state → Closed may move after t ps state (word / 2)
  ends id ps me words slots word state me_is all f at_word at_slot =
      let s = f.0 in
      let r = f.1.0 in
      let long = all.count in
      let at : get_elem? s.views id ≡ some (view (map part_of ps) false) = f.1.1 ∙ ap (λ (m : Stood S C R). some m.0) me_is in
      let rest = at_rest id ps s r at long in
      let home = r.home rest in
      let same : some (left_by after t.start r.run) ≡ some state = sym (f.4 0 (left_by after t.start r.run) (ap (λ l. get_elem? l 0) home)) ∙ at_slot in
      let held : left_by after t.start r.run ≡ state = some-injective _ _ same in
      let known = r.each_seat id (view (map part_of ps) false) at in
      let number : word ≡ 2 * length r.run = (let w = r.word in let e = at_first words word at_word in let same_words = ap (λ l. get_or l 0 0) f.2 in omega arith) in
      let counted : (role : ℕ) → has role (view (map part_of ps) false) ≡ holders role ps = λ role. total-map (λ (p : Part C R). either_of (eqb p.role role)) part_of ps in
      let knows = Each-unmap _ part_of ps known.0 in record {
        run = r.run;
        legal = r.legal;
        left = sym held;
        told = (let m = number in omega arith);
        prefixes = Each-all _ ps (Each-weaker _ _ ps (λ p k. k.0) knows);
        in_order = Each-all _ ps (Each-weaker _ _ ps (λ p k. sym k.1) knows);
        each_once = subst (IsPermutation r.run) (all_mine r.run ps (Each-weaker _ _ ps (λ p k. k.1) knows))
            (shares ps r.run (λ role. let a = r.apart role in let b = total-at (has role) s.views id (view (map part_of ps) false) at in let c = counted role in omega arith)
            (Each-weaker _ _ r.run (λ e below. let a = all_roles id ps s r at long e.role below in let c = counted e.role in omega arith) r.below));
      }
