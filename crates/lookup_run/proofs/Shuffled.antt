-- All paths settled at once, each on a thread of its own: the events show the longer journal, and each worker told the table
-- of whom its path notes, in order.
use Rattle.std.proofs.Common.{◌≡◌, ◌≢◌, ◌⊎◌, ℕ, ◌+◌, ◌-◌, ◌==◌, ◌<◌, ◌≤◌, List, [], ◌∷◌, ◌++◌, Option, Bool, true, false, cond, inl, inr, refl, sym, ap, subst, ◌∙◌, arith}
use Rattle.std.specs.Prelude.{map}
use Rattle.std.specs.List.{All, AllByRecursion, flat_map}
use Rattle.std.proofs.lemmas.Bool.{cases_lt, false≢true}
use Rattle.std.proofs.lemmas.Bool.Decides.{eqb_tells}
use Rattle.std.proofs.lemmas.List.{map-append}
use Rattle.std.proofs.lemmas.List.Concat.{flat_map-append}
use Rattle.std.proofs.lemmas.List.Elements.{All-head, All-tail, filter-append}
use Rattle.kad_base.specs.declared.types.Event.{Event}
use Rattle.kad_base.specs.declared.serial.Made.{Made}
use Rattle.kad_base.specs.Serial.{calls_of}
use Rattle.contact_table.specs.declared.calls.TableCall.{TableCall}
use Rattle.contact_table.specs.declared.calls.TableCall.TheVariants.{Seen as Seen_call}
use Rattle.contact_table.specs.declared.calls.TableReply.{TableReply}
use Rattle.claim_book.specs.declared.types.Setting.{Setting}
use Rattle.claim_book.specs.declared.types.Entry.{Entry}
use Rattle.claim_book.specs.declared.types.Entry.TheVariants.{Seed, Ask, Heard, Lost, Note, Taken, Held, Turned, Rejected, Skipped}
use Rattle.claim_book.specs.Journal.{settles_on, settled}
use Rattle.path_worker.specs.Settling.{role_of, seen_with}
use Rattle.path_worker.specs.Together.{IsSettling, IsWorkers, StopsTogether, SettlesTogether}
use Rattle.lookup_run.specs.declared.types.LookSetting.{LookSetting}
use Rattle.lookup_run.specs.declared.types.LookupState.{LookupState}
use Rattle.lookup_run.specs.Rounds.{concurrent, path_number}
use Rattle.lookup_run.specs.Lookup.{Told, told_in, told_of, told_by, TableRan}
use Rattle.lookup_run.specs.inner.DriverInvariant.{Keeps}
use Rattle.lookup_run.specs.inner.RoundSteps.{SettlesPaths}
use Rattle.lookup_core.proofs.Lists.{kept_one, left_one}
use Rattle.lookup_core.proofs.Settling.{elsewhere}
use Rattle.lookup_run.proofs.Quiet.{IsMute, quiet_entry, settles_mixed}
use Rattle.lookup_run.proofs.Settled.{settles_more}

-- ---- numbers and filters

same_or_not : (a b : ℕ) → (((a == b) ≡ true) × (a ≡ b)) ⊎ (((a == b) ≡ false) × (a ≢ b))
same_or_not a b = eqb_tells a b

is_same : (a b : ℕ) → a ≡ b → (a == b) ≡ true
is_same a b is = elim (same_or_not a b) [ inl h ↦ h.0 | inr h ↦ absurd (h.1 is) ]

is_other : (a b : ℕ) → a ≢ b → (a == b) ≡ false
is_other a b ne = elim (same_or_not a b) [ inl h ↦ absurd (ne h.1) | inr h ↦ h.0 ]

-- ---- the calls of a role

abbrev by_role : ℕ → TableCall → Told
by_role role call = record { role = role; call = call }

-- those that were made in a role, without their replies
made_by : (role : ℕ) (run : List (Made TableCall TableReply)) → told_by role (map told_in run) ≡ map (λ call. record { role = role; call = call }) (map (λ m. m.call) (calls_of role run))
made_by role [] = refl
made_by role (m ∷ run) = elim (same_or_not m.role role) [
  | inl h ↦
      kept_one (λ t. t.role == role) (told_in m) (map told_in run) h.0
      ∙ ap (λ n. record { role = n; call = m.call } ∷ told_by role (map told_in run)) h.1
      ∙ ap (λ l. record { role = role; call = m.call } ∷ l) (made_by role run)
      ∙ ap (λ l. map (λ call. record { role = role; call = call }) (map (λ (x : Made TableCall TableReply). x.call) l)) (sym (kept_one (λ (e : Made TableCall TableReply). e.role == role) m run h.0))
  | inr h ↦
      left_one (λ t. t.role == role) (told_in m) (map told_in run) h.0
      ∙ made_by role run
      ∙ ap (λ l. map (λ call. record { role = role; call = call }) (map (λ (x : Made TableCall TableReply). x.call) l)) (sym (left_one (λ (e : Made TableCall TableReply). e.role == role) m run h.0))
]

-- ---- what entries tell

seen_none : (e : Entry) (b : Bool) → seen_with e ≡ [] → flat_map seen_with (cond b (e ∷ []) []) ≡ []
seen_none e true is = ap (λ l. l ++ []) is
seen_none e false is = refl

-- an entry tells whom it notes, in the role of its path's worker
told_one : (n p : ℕ) (e : Entry) → IsSettling n e → told_by (p + 1) (told_of e) ≡ map (by_role (p + 1)) (flat_map seen_with (settled p (e ∷ [])))
unfolding settled
told_one n p (Note q c) h = elim (same_or_not q p) [
  | inl is ↦
      kept_one (λ (t : Told). t.role == p + 1) (record { role = q + 1; call = Seen_call c }) [] (is_same (q + 1) (p + 1) (ap (λ k. k + 1) is.1))
      ∙ ap (λ k. record { role = k + 1; call = Seen_call c } ∷ []) is.1
      ∙ ap (λ l. map (by_role (p + 1)) (flat_map seen_with l)) (sym (kept_one (settles_on p) (Note q c) [] is.0))
  | inr ne ↦
      left_one (λ (t : Told). t.role == p + 1) (record { role = q + 1; call = Seen_call c }) [] (is_other (q + 1) (p + 1) (λ k. ne.1 (omega (arith, k))))
      ∙ ap (λ l. map (by_role (p + 1)) (flat_map seen_with l)) (sym (left_one (settles_on p) (Note q c) [] ne.0))
]
told_one n p (Taken q c) h = ap (map (by_role (p + 1))) (sym (seen_none (Taken q c) (q == p) refl))
told_one n p (Held q c by) h = ap (map (by_role (p + 1))) (sym (seen_none (Held q c by) (q == p) refl))
told_one n p (Turned q c) h = ap (map (by_role (p + 1))) (sym (seen_none (Turned q c) (q == p) refl))
told_one n p (Rejected q r) h = ap (map (by_role (p + 1))) (sym (seen_none (Rejected q r) (q == p) refl))
told_one n p (Skipped q r) h = ap (map (by_role (p + 1))) (sym (seen_none (Skipped q r) (q == p) refl))
told_one n p (Seed q c) h = refl
told_one n p (Ask q c) h = refl
told_one n p (Heard q c reports) h = refl
told_one n p (Lost q c cause) h = absurd (false≢true h.2)

settled_cons : (p : ℕ) (e : Entry) (es : List Entry) → settled p (e ∷ es) ≡ settled p (e ∷ []) ++ settled p es
unfolding settled
settled_cons p e es = filter-append (settles_on p) (e ∷ []) es

told_by_path : (n p : ℕ) (es : List Entry) → All (IsSettling n) es → told_by (p + 1) (flat_map told_of es) ≡ map (by_role (p + 1)) (flat_map seen_with (settled p es))
unfolding settled
told_by_path n p [] h = refl
told_by_path n p (e ∷ es) h =
    filter-append (λ (t : Told). t.role == p + 1) (told_of e) (flat_map told_of es)
    ∙ ap (λ l. l ++ told_by (p + 1) (flat_map told_of es)) (told_one n p e (All-head (IsSettling n) e es h))
    ∙ ap (λ l. map (by_role (p + 1)) (flat_map seen_with (settled p (e ∷ []))) ++ l) (told_by_path n p es (All-tail (IsSettling n) e es h))
    ∙ sym (map-append (by_role (p + 1)) (flat_map seen_with (settled p (e ∷ []))) (flat_map seen_with (settled p es)))
    ∙ ap (map (by_role (p + 1))) (sym (flat_map-append seen_with (settled p (e ∷ [])) (settled p es)))
    ∙ ap (λ l. map (by_role (p + 1)) (flat_map seen_with l)) (sym (settled_cons p e es))

-- nothing in the driver's role
told_by_driver : (n : ℕ) (es : List Entry) → All (IsSettling n) es → told_by 0 (flat_map told_of es) ≡ []
told_by_driver n [] h = refl
told_by_driver n (e ∷ es) h = filter-append (λ (t : Told). t.role == 0) (told_of e) (flat_map told_of es) ∙ ap (λ l. l ++ told_by 0 (flat_map told_of es)) (one e (All-head (IsSettling n) e es h)) ∙ told_by_driver n es (All-tail (IsSettling n) e es h)
  where
    one : (e : Entry) → IsSettling n e → told_by 0 (told_of e) ≡ []
    one (Note q c) x = left_one (λ (t : Told). t.role == 0) (record { role = q + 1; call = Seen_call c }) [] (is_other (q + 1) 0 (λ k. absurd (omega (arith, k))))
    one (Taken q c) x = refl
    one (Held q c by) x = refl
    one (Turned q c) x = refl
    one (Rejected q r) x = refl
    one (Skipped q r) x = refl
    one (Seed q c) x = refl
    one (Ask q c) x = refl
    one (Heard q c reports) x = refl
    one (Lost q c cause) x = absurd (false≢true x.2)

-- ---- roles of nobody

calls_none : (n role : ℕ) (run : List (Made TableCall TableReply)) → ((k : ℕ) → 0 < k → k ≤ n → k ≢ role) → All (IsWorkers n) run → calls_of role run ≡ []
calls_none n role [] out h = refl
calls_none n role (m ∷ run) out h =
    let one = All-head (IsWorkers n) m run h in
    left_one (λ (e : Made TableCall TableReply). e.role == role) m run (is_other m.role role (out m.role one.0 one.1)) ∙ calls_none n role run out (All-tail (IsWorkers n) m run h)

settled_none : (n p : ℕ) (es : List Entry) → n ≤ p → All (IsSettling n) es → settled p es ≡ []
unfolding settled
settled_none n p [] le h = refl
settled_none n p (e ∷ es) le h =
    let one = All-head (IsSettling n) e es h in
    let off = elsewhere one.0 p e one.2 (λ k. (let lt = one.1 in absurd (omega (arith, k, lt, le)))) in
    left_one (settles_on p) e es off ∙ settled_none n p es le (All-tail (IsSettling n) e es h)

-- ---- the calls of all workers

abbrev AreEach : List (Made TableCall TableReply) → List Entry → ℕ → Type 0
AreEach run es role = told_by role (map told_in run) ≡ told_by role (flat_map told_of es)

each_role : (n : ℕ) (es : List Entry) (run : List (Made TableCall TableReply)) → All (IsSettling n) es → All (IsWorkers n) run → ((p : ℕ) → p < n → map (λ (m : Made TableCall TableReply). m.call) (calls_of (role_of p) run) ≡ flat_map seen_with (settled p es))
    → (role : ℕ) → AreEach run es role
each_role n es run settles roles tells role = elim (cases_lt role 1) [
  | inl driver ↦ (let is : role ≡ 0 = omega (arith, driver) in subst (AreEach run es) (sym is) (made_by 0 run ∙ ap (λ l. map (by_role 0) (map (λ (m : Made TableCall TableReply). m.call) l)) (calls_none n 0 run (λ k lt le e. absurd (omega (arith, lt, e))) roles) ∙ sym (told_by_driver n es settles)))
  | inr worker ↦ (let is : (role - 1) + 1 ≡ role = omega (arith, worker) in subst (AreEach run es) is (of_path (role - 1)))
]
  where
    of_path : (p : ℕ) → AreEach run es (p + 1)
    of_path p = made_by (p + 1) run ∙ ap (map (by_role (p + 1))) (same p) ∙ sym (told_by_path n p es settles)
      where
        same : (p : ℕ) → map (λ (m : Made TableCall TableReply). m.call) (calls_of (p + 1) run) ≡ flat_map seen_with (settled p es)
        same p = elim (cases_lt p n) [
          | inl lt ↦ tells p lt
          | inr le ↦ ap (map (λ (m : Made TableCall TableReply). m.call)) (calls_none n (p + 1) run (λ k gt fits e. absurd (omega (arith, fits, e, le))) roles) ∙ sym (ap (flat_map seen_with) (settled_none n p es le settles))
        ]

-- ---- the whole

each_mute : (n : ℕ) (es : List Entry) → All (IsSettling n) es → AllByRecursion IsMute es
each_mute n [] h = tt
each_mute n (e ∷ es) h = (let one = All-head (IsSettling n) e es h in ((quiet_entry one.0 e one.2).mute, each_mute n es (All-tail (IsSettling n) e es h)))

each_below : (n : ℕ) (es : List Entry) → All (IsSettling n) es → AllByRecursion (λ e. path_number e < n) es
each_below n [] h = tt
each_below n (e ∷ es) h = (let one = All-head (IsSettling n) e es h in let is = (quiet_entry one.0 e one.2).number in let lt = one.1 in (omega (arith, is, lt), each_below n es (All-tail (IsSettling n) e es h)))

below_zero : (n : ℕ) (front es : List Entry) → AllByRecursion (λ e. path_number e < n) es → AllByRecursion (λ e. path_number e < 0) front → AllByRecursion (λ e. path_number e < n) (front ++ es)
below_zero n [] es h b = h
below_zero n (f ∷ front) es h b = (let lt = b.0 in absurd (omega (arith, lt)))

pub ran_together : (old new : LookupState) → StopsTogether old.lookup.book new.lookup.book old.table new.table → TableRan old.table new.table
ran_together old new h = record { run = h.run; is_run = h.is_run; leaves = h.leaves }

pub settles_together : (look : LookSetting) (old new : LookupState) (told : Option (List Event)) → Keeps look old → old.progress.receives ≡ 0 → SettlesTogether old.lookup.book new.lookup.book old.table new.table → new.lookup.queries ≡ old.lookup.queries → new.progress ≡ old.progress → new.gathered ≡ old.gathered
    → SettlesPaths concurrent look 0 look.paths old new told
settles_together look old new told k over h queries progress gathered =
    let s = h.settling in
    let paths : old.lookup.book.setting.paths ≡ look.paths = ap (λ (x : Setting). x.paths) k.setting in
    let settles : All (IsSettling look.paths) s.more = subst (λ n. All (IsSettling n) s.more) paths s.settles in
    let roles : All (IsWorkers look.paths) s.run = subst (λ n. All (IsWorkers n) s.run) paths s.roles in
    let mute = each_mute look.paths s.more settles in
    settles_more concurrent look 0 look.paths old new s.more told k over (record {
      setting = s.setting;
      journal = s.journal;
      continues = record {
        mute = mute;
        settles = λ front f below. settles_mixed 0 front s.more f mute;
        below = λ front below. below_zero look.paths front s.more (each_below look.paths s.more settles) below;
      };
      tabled = record {
        run = s.run;
        is_run = s.is_run;
        leaves = s.leaves;
        calls_are = each_role look.paths s.more s.run settles roles (λ p lt. h.tells p (omega (arith, lt, paths)));
        kept = h.kept;
      };
      queries = queries;
      progress = progress;
      gathered = gathered;
    }) (λ p lt. h.none_left p (omega (arith, lt, paths)))
