-- Each step at the table keeps the rule.
use Rattle.std.proofs.Common.{◌≡◌, ◌≢◌, ℕ, zero, suc, ◌+◌, ◌*◌, ◌%◌, ◌^◌, ◌<◌, ◌≤◌, Bool, true, false, true≢false, eqb, List, [], ◌∷◌, ◌++◌, map, length, get_or, set, drop, take, Some, refl, sym, ap, ◌∙◌, subst, ⊎_elim, arith, lt_of_not-le, length-append, length-set, get_or-set_same, eq-eqb, ne_eqb}
use Rattle.std.proofs.lemmas.Bool.{eqb-false}
use mathlib.Core.Logic.{dite}
use mathlib.Core.Option.{some, none, some-injective, some-ne-none}
use native.Mathlib.Decide.{ℕ_discrete}
use lib.ListN.{get_elem?}
use lib.Seq.{set-get_or}
use prog.Atomic.{either}
use Rattle.std.proofs.Math.Nat.{mod-eq_of_lt}
use Rattle.atomic_table.specs.Table.{State, Me, step, keeps, takes as grab, gives as put, stepped, Allows, Splits, Joins, opening}
use Rattle.atomic_table.proofs.Lists.{at_set, set_again, at_snoc, set_here, set_else, at_longer}
use Rattle.kad_base.specs.declared.serial.Made.{Made}
use Rattle.kad_base.specs.Serial.{calls_of, left_by}
use Rattle.kad_base.proofs.Runs.{left_by-append, IsRun-push}
use Rattle.turn_book.specs.declared.board.Part.{Part}
use Rattle.turn_book.specs.declared.board.View.{View}
use Rattle.turn_book.specs.Turns.{IsPrefix}
use Rattle.turn_book.specs.Rule.{Each, total, either_of, part, view, nobody, roles_from, newcomer, without_first, only_first, joined, has, shown, Knows, Kept, Taken, Gave}
use Rattle.turn_book.proofs.Lists.{Each-append, Each-both, Each-drop, Each-take, total-append, total-set, total-at, total-two, total-map, IsPrefix-push, IsPrefix-refl, none_of, calls_of-other}

module _ {C R : Type 0} where
  -- what holds of each view holds still, once that of one seat has changed
  views_stay : (K : ℕ → View C R → Type 0) (vs : List (View C R)) (id : ℕ) (w : View C R) → K id w → ((j : ℕ) (v : View C R) → j ≢ id → get_elem? vs j ≡ some v → K j v)
      → (j : ℕ) (v : View C R) → get_elem? (set vs id w) j ≡ some v → K j v
  views_stay K vs id w mine others j v e = ⊎_elim (λ (t : (j ≡ id) × (w ≡ v)). subst (λ (x : ℕ × View C R). K x.0 x.1) (λ i. (sym t.0 i, t.1 i)) mine)
      (λ (t : (j ≢ id) × (get_elem? vs j ≡ some v)). others j v t.0 t.1) (at_set vs id j w v e)

  -- the holders of a role, where one view has changed and has the same roles
  same_roles : (r : ℕ) (vs : List (View C R)) (id : ℕ) (v w : View C R) → get_elem? vs id ≡ some v → has r w ≡ has r v → total (has r) (set vs id w) ≡ total (has r) vs
  same_roles r vs id v w at same = let h = total-set (has r) vs id v w at in omega arith

  shown_roles : (r : ℕ) (run : List (Made C R)) (ps : List (Part C R)) (m k : Bool) → has r (view (map (shown run) ps) m) ≡ has r (view ps k)
  shown_roles r run ps m k = total-map (λ (p : Part C R). either_of (eqb p.role r)) (shown run) ps

  all_shown : (run : List (Made C R)) (ps : List (Part C R))
      → Each (λ p. IsPrefix p.seen run × (calls_of p.role p.seen ≡ calls_of p.role run)) (map (shown run) ps) × Each (λ p. p.seen ≡ run) (map (shown run) ps)
  all_shown run [] = (tt, tt)
  all_shown run (p ∷ ps) = let rest = all_shown run ps in (((IsPrefix-refl run run refl, refl), rest.0), (refl, rest.1))

  at_inside : (vs : List (View C R)) (i : ℕ) (v : View C R) → get_elem? vs i ≡ some v → i < length vs
  at_inside [] i v e = absurd (some-ne-none v (sym e))
  at_inside (x ∷ vs) zero v e = omega arith
  at_inside (x ∷ vs) (suc i) v e = let h = at_inside vs i v e in omega arith

  -- the marked view stays, where another changes
  unset : (vs : List (View C R)) (id holder : ℕ) (v w o : View C R) → v.marked ≡ false → get_elem? vs id ≡ some v → get_elem? vs holder ≡ some o → o.marked ≡ true → get_elem? (set vs id w) holder ≡ some o
  unset vs id holder v w o free at there marked =
      set_else vs id holder w
      (λ same. true≢false (sym marked ∙ (ap (λ (z : View C R). z.marked) (some-injective o v (sym there ∙ (ap (get_elem? vs) same ∙ at))) ∙ free)))
      ∙ there

module _ {S C R : Type 0} (may : ℕ → C → Type 0) (move : S → ℕ → C → R → Type 0) (after : S → ℕ → C → R → S) (start : S) (n : ℕ) where
  abbrev St : Type 0
  St = State S (View C R)

  abbrev M : Type 0
  M = Me S (View C R)

  abbrev Rule : St → Type 0
  Rule = Kept may move after start n

  -- a step that changes nothing
  unmoved : (s : St) (r : Rule s) (id : ℕ) (cs : List (ℕ × S)) (v : View C R) → get_elem? s.views id ≡ some v → Rule (stepped s 0 (get_or s.words 0 0) id cs v keeps)
  unmoved s r id cs v at = subst Rule (λ i. record { words = sym (set-get_or s.words 0 0) i; homes = s.homes; views = sym (set_again s.views id v at) i }) r

  pub takes : (slots id : ℕ) (me : M) (old new role : ℕ) → 1 ≤ has role me.0 → old % 2 ≡ 0 → new ≡ old + 1 → Allows Rule slots id me 0 (λ x. either (eqb x old) new x) (Taken may move after (Some start) (step slots 0 old new none) me)
  takes slots id me old new role some_role even up s r wide at small = let x : ℕ = get_or s.words 0 0 in dite (ℕ_discrete x old)
      (λ hit.
      let free : r.busy ≡ 0 = (let b = r.bit in let w = r.word in omega arith) in
      let known = r.each_seat id me.0 at in
      let home = r.home free in
      let now : S = left_by after start r.run in
      let seen = all_shown r.run me.0.parts in
      let one = r.wide in
      let word = r.word in
      let w : View C R = view (map (shown r.run) me.0.parts) true in (
        w,
        grab 0 now,
        ap (λ l. get_elem? l 0) home,
        subst (λ b. Rule (stepped s 0 (either b new x) id me.1 w (grab 0 now))) (sym (eq-eqb x old hit)) record {
          run = r.run;
          busy = 1;
          holder = id;
          wide = length-set s.words 0 new ∙ r.wide;
          bit = omega arith;
          word = get_or-set_same s.words 0 new 0 (omega arith) ∙ omega arith;
          legal = r.legal;
          below = r.below;
          each_seat = views_stay (Knows r.run 1 id) s.views id w (seen.0, λ _. (refl, refl, seen.1))
              (λ j v other e. let k = r.each_seat j v e in (k.0, λ m. let b = (k.1 m).0 in absurd (omega arith)));
          apart = λ role. let same = same_roles role s.views id me.0 w at (shown_roles role r.run me.0.parts true me.0.marked) in let a = r.apart role in omega arith;
          known = λ role above. same_roles role s.views id me.0 w at (shown_roles role r.run me.0.parts true me.0.marked) ∙ r.known role above;
          home = λ e. absurd (omega arith);
          out = λ _. ap (λ l. set l 0 none) home;
          owner = λ _. (w, set_here s.views id w (at_inside s.views id me.0 at), refl, (role, (let e = shown_roles role r.run me.0.parts true me.0.marked in omega arith)));
        },
        (
          λ _. (
            r.run,
            now,
            refl,
            omega arith,
            r.legal,
            refl,
            known.0,
          ),
          λ miss. absurd (miss hit),
        ),
      ))
      (λ miss. (
        me.0,
        keeps,
        tt,
        subst (λ b. Rule (stepped s 0 (either b new x) id me.1 me.0 keeps)) (sym (ne_eqb x old miss)) (unmoved s r id me.1 me.0 at),
        ((λ hit. absurd (miss hit)), λ _. refl),
      ))

  -- what another seat knows stays so, where an made of a role that it has not is added
  others_know : (run : List (Made C R)) (busy holder : ℕ) (e : Made C R) (j : ℕ) (v : View C R) → (j ≡ holder → ⊥) → has e.role v ≡ 0 → Knows run busy holder j v → Knows (run ++ e ∷ []) 0 0 j v
  others_know run busy holder e j v apart none_has k = (
    Each-both (λ (p : Part C R). IsPrefix p.seen run × (calls_of p.role p.seen ≡ calls_of p.role run)) (λ (p : Part C R). eqb p.role e.role ≡ false)
        (λ (p : Part C R). IsPrefix p.seen (run ++ e ∷ []) × (calls_of p.role p.seen ≡ calls_of p.role (run ++ e ∷ []))) v.parts
        (λ p a f. (IsPrefix-push p.seen run e a.0, a.1 ∙ sym (calls_of-other p.role run e (λ is. eqb-false p.role e.role f (sym is))))) k.0
        (none_of (λ (p : Part C R). eqb p.role e.role) v.parts none_has),
    λ m. absurd (apart ((k.1 m).1)),
  )

  -- the view of a seat that has the slot
  abbrev pub busy_view : ℕ → List (Made C R) → View C R
  busy_view role seen = view (part role seen ∷ []) true

  pub gives : (slots id : ℕ) (seen : List (Made C R)) (e : Made C R) (st : S) → may e.role e.call → move (left_by after start seen) e.role e.call e.reply → st ≡ after (left_by after start seen) e.role e.call e.reply
      → 2 * length seen + 2 < 2 ^ 64 → Allows Rule slots id (busy_view e.role seen, (0, st) ∷ []) 0 (λ x. (x + 1) % 2 ^ 64) (Gave (Some e) (step slots 0 1 0 none) (busy_view e.role seen, (0, st) ∷ []))
  gives slots id seen e st allowed told left small s r wide at fits =
      let me = busy_view e.role seen in
      let known = r.each_seat id me at in
      let mark = known.1 refl in
      let here : seen ≡ r.run = mark.2.0 in
      let w : View C R = view (part e.role (seen ++ e ∷ []) ∷ []) false in
      let run : List (Made C R) = r.run ++ e ∷ [] in
      let x : ℕ = get_or s.words 0 0 in
      let one = r.wide in
      let word = r.word in
      let busy = mark.0 in
      let long : length seen ≡ length r.run = ap length here in
      let up : (x + 1) % 2 ^ 64 ≡ x + 1 = mod-eq_of_lt (omega arith) in
      let self_has : has e.role me ≡ 1 = (let t = ap either_of (eq-eqb e.role e.role refl) in omega arith) in
      let roles : (role : ℕ) → has role w ≡ has role me = λ role. refl in
      let left_now : left_by after start run ≡ st = left_by-append after start r.run (e ∷ []) ∙ (ap (λ z. after z e.role e.call e.reply) (sym (ap (left_by after start) here)) ∙ sym left) in (
        w,
        put,
        tt,
        record {
          run = run;
          busy = 0;
          holder = 0;
          wide = length-set s.words 0 ((x + 1) % 2 ^ 64) ∙ r.wide;
          bit = omega arith;
          word = get_or-set_same s.words 0 ((x + 1) % 2 ^ 64) 0 (omega arith) ∙ (up ∙ omega (arith, length-append r.run (e ∷ [])));
          legal = IsRun-push may move after start r.run e r.legal allowed (subst (λ z. move (left_by after start z) e.role e.call e.reply) here told);
          below = Each-append (λ (y : Made C R). y.role < n) r.run (e ∷ []) r.below (lt_of_not-le (λ (above : n ≤ e.role). let z = r.known e.role above in let t = total-at (has e.role) s.views id me at in omega arith), tt);
          each_seat = views_stay (Knows run 0 0) s.views id w
              (((IsPrefix-refl (seen ++ e ∷ []) run (ap (λ l. l ++ e ∷ []) here), ap (λ l. calls_of e.role (l ++ e ∷ [])) here), tt), λ m. absurd (true≢false (sym m)))
              (λ j v other is. others_know r.run r.busy r.holder e j v (λ same. other (same ∙ sym mark.1)) (let t = total-two (has e.role) s.views id j me v (λ q. other (sym q)) at is in let a = r.apart e.role in omega arith) (r.each_seat j v is));
          apart = λ role. let same = same_roles role s.views id me w at refl in let a = r.apart role in omega arith;
          known = λ role above. same_roles role s.views id me w at refl ∙ r.known role above;
          home = λ _. ap (λ l. set l 0 (some st)) (r.out busy) ∙ (λ i. some (sym left_now i) ∷ []);
          out = λ b. absurd (omega arith);
          owner = λ b. absurd (omega arith);
        },
        refl,
      )

  opened : (from count : ℕ) → Each (λ (p : Part C R). IsPrefix p.seen [] × (calls_of p.role p.seen ≡ [])) (roles_from from count)
  opened from zero = tt
  opened from (suc k) = ((([], refl), refl), opened (from + 1) k)

  none_below : (role from count : ℕ) → role < from → total (λ (p : Part C R). either_of (eqb p.role role)) (roles_from from count) ≡ 0
  none_below role from zero lt = refl
  none_below role from (suc k) lt = let f : eqb from role ≡ false = ne_eqb from role (λ e. omega arith) in let g = ap either_of f in let h = none_below role (from + 1) k (omega arith) in omega arith

  none_above : (role from count : ℕ) → from + count ≤ role → total (λ (p : Part C R). either_of (eqb p.role role)) (roles_from from count) ≡ 0
  none_above role from zero lt = refl
  none_above role from (suc k) lt = let f : eqb from role ≡ false = ne_eqb from role (λ e. omega arith) in let g = ap either_of f in let h = none_above role (from + 1) k (omega arith) in omega arith

  one_each : (role from count : ℕ) → total (λ (p : Part C R). either_of (eqb p.role role)) (roles_from from count) ≤ 1
  one_each role from zero = omega arith
  one_each role from (suc k) = dite (ℕ_discrete from role)
      (λ is. let g = ap either_of (eq-eqb from role is) in let h = none_below role (from + 1) k (omega arith) in omega arith)
      (λ not. let g = ap either_of (ne_eqb from role not) in let h = one_each role (from + 1) k in omega arith)

  pub starts : Rule (opening (0 ∷ []) (start ∷ []) (newcomer n))
  starts = record {
    run = [];
    busy = 0;
    holder = 0;
    wide = refl;
    bit = omega arith;
    word = refl;
    legal = tt;
    below = tt;
    each_seat = first;
    apart = λ role. let a = one_each role 0 n in omega arith;
    known = λ role above. let a = none_above role 0 n (omega arith) in omega arith;
    home = λ _. refl;
    out = λ b. absurd (omega arith);
    owner = λ b. absurd (omega arith);
  }
    where
      first : (j : ℕ) (v : View C R) → get_elem? (newcomer n ∷ []) j ≡ some v → Knows [] 0 0 j v
      first zero v e = subst (Knows [] 0 0 0) (some-injective _ _ e) (opened 0 n, λ m. absurd (true≢false (sym m)))
      first (suc j) v e = absurd (some-ne-none v (sym e))

  dealt_roles : (role : ℕ) (ps : List (Part C R)) (m k : Bool) → has role (view (drop 1 ps) m) + has role (view (take 1 ps) k) ≡ has role (view ps m)
  dealt_roles role [] m k = refl
  dealt_roles role (p ∷ ps) m k = omega arith

  pub deals : (id : ℕ) (v : View C R) → v.marked ≡ false → Splits Rule id v (without_first v) (only_first v)
  deals id v free s r at = let known = r.each_seat id v at in record {
    run = r.run;
    busy = r.busy;
    holder = r.holder;
    wide = r.wide;
    bit = r.bit;
    word = r.word;
    legal = r.legal;
    below = r.below;
    each_seat = λ j u e. ⊎_elim
        (views_stay (Knows r.run r.busy r.holder) s.views id (without_first v) (Each-drop _ v.parts known.0, λ m. let k = known.1 m in (k.0, k.1, Each-drop _ v.parts k.2)) (λ i x _. r.each_seat i x) j u)
        (λ (t : only_first v ≡ u). subst (Knows r.run r.busy r.holder j) t (Each-take _ v.parts known.0, λ m. absurd (true≢false (sym m))))
        (at_snoc (set s.views id (without_first v)) (only_first v) u j e);
    apart = λ role. let same = kept role s.views at in let a = r.apart role in omega arith;
    known = λ role above. kept role s.views at ∙ r.known role above;
    home = r.home;
    out = r.out;
    owner = λ b. let o = r.owner b in (o.0, at_longer (set s.views id (without_first v)) (only_first v ∷ []) r.holder o.0 (unset s.views id r.holder v (without_first v) o.0 free at o.1 o.2), o.2, o.3);
  }
    where
      kept : (role : ℕ) (vs : List (View C R)) → get_elem? vs id ≡ some v → total (has role) (set vs id (without_first v) ++ only_first v ∷ []) ≡ total (has role) vs
      kept role vs at =
          let a = total-append (has role) (set vs id (without_first v)) (only_first v ∷ []) in let b = total-set (has role) vs id v (without_first v) at in let c = dealt_roles role v.parts v.marked false in omega arith

  pub joins : (id : ℕ) (v : View C R) (other : ℕ) (w : View C R) → v.marked ≡ false → w.marked ≡ false → Joins Rule id v other w (joined v w) nobody
  joins id v other w free free_too s r at apart there = let known = r.each_seat id v at in
      let theirs = ⊎_elim (λ (t : (other ≡ id) × (joined v w ≡ w)). absurd (apart t.0)) (λ (t : (other ≢ id) × (get_elem? s.views other ≡ some w)). t.1) (at_set s.views id other (joined v w) w there) in
      let K = Knows r.run r.busy r.holder in record {
        run = r.run;
        busy = r.busy;
        holder = r.holder;
        wide = r.wide;
        bit = r.bit;
        word = r.word;
        legal = r.legal;
        below = r.below;
        each_seat = views_stay K (set s.views id (joined v w)) other nobody (tt, λ m. absurd (true≢false (sym m)))
            (λ j u _ e. views_stay K s.views id (joined v w) (Each-append _ v.parts w.parts known.0 (r.each_seat other w theirs).0, λ m. absurd (true≢false (sym m))) (λ i x _. r.each_seat i x) j u e);
        apart = λ role. let same = kept role s.views at there in let a = r.apart role in omega arith;
        known = λ role above. kept role s.views at there ∙ r.known role above;
        home = r.home;
        out = r.out;
        owner = λ b. let o = r.owner b in
            (o.0, unset (set s.views id (joined v w)) other r.holder w nobody o.0 free_too there (unset s.views id r.holder v (joined v w) o.0 free at o.1 o.2) o.2, o.2, o.3);
      }
    where
      kept : (role : ℕ) (vs : List (View C R)) → get_elem? vs id ≡ some v → get_elem? (set vs id (joined v w)) other ≡ some w → total (has role) (set (set vs id (joined v w)) other nobody) ≡ total (has role) vs
      kept role vs at there =
          let a = total-set (has role) (set vs id (joined v w)) other w nobody there in let b = total-set (has role) vs id v (joined v w) at in
          let c = total-append (λ (p : Part C R). either_of (eqb p.role role)) v.parts w.parts in omega arith
