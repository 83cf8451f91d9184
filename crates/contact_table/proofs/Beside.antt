-- What a run leaves of the proofs of a table.
use Rattle.std.proofs.Common.{◌≡◌, ℕ, List, [], ◌∷◌, ◌++◌, Bool, true, false, cond, Option, None, Some, refl, sym, ap, subst, ◌∙◌}
use Rattle.std.specs.Prelude.{filter}
use Rattle.std.specs.List.{All, Contains}
use Rattle.std.specs.List.Sorted.{IsStrictlySortedBy}
use Rattle.std.specs.Map.{keys_of}
use Rattle.std.specs.Option.{is_some}
use Rattle.std.specs.BTreeMap.{insert_entry}
use Rattle.std.specs.Ordering.{match_ordering, is_eq, ordering_reverse}
use Rattle.std.specs.declared.cmp.Ordering.{Ordering}
use Rattle.std.specs.declared.cmp.Ordering.TheVariants.{Less, Equal, Greater}
use Rattle.std.proofs.lemmas.List.Concat.{flat_map-cons}
use Rattle.std.proofs.lemmas.List.Elements.{All-cons, All-contains_itself, All-filter, All-from_recursion, All-head, All-nil, All-tail, All-weaker, Contains-append_left, Contains-append_right, filter_passes, recursion_from_All}
use Rattle.std.proofs.lemmas.List.Kept.{IsStrictlySortedBy-filter}
use Rattle.std.proofs.lemmas.Map.Views.{All-keys-insert_entry}
use Rattle.kad_base.specs.declared.types.Id.{Id}
use Rattle.kad_base.specs.declared.types.Contact.{Contact}
use Rattle.kad_base.specs.declared.types.Proof.{Proof}
use Rattle.kad_base.specs.declared.serial.Made.{Made}
use Rattle.kad_base.specs.Contacts.{contact_cmp, among, same}
use Rattle.kad_base.specs.Serial.{left_by}
use Rattle.kad_base.proofs.Contacts.{contact_total, same_back, same_exact, same_itself}
use Rattle.bucket_tree.specs.declared.types.Seen.{Seen}
use Rattle.bucket_tree.specs.Rows.{RowState}
use Rattle.bucket_tree.proofs.Every.{all-left, all-right}
use Rattle.contact_table.specs.declared.calls.TableCall.{TableCall}
use Rattle.contact_table.specs.declared.calls.TableCall.TheVariants.{Seen as Seen_call, Vouched, Failed}
use Rattle.contact_table.specs.declared.calls.TableReply.{TableReply}
use Rattle.contact_table.specs.declared.calls.TableReply.TheVariants.{Seen as Seen_reply, Gone as Gone_reply}
use Rattle.contact_table.specs.RowsAfter.{seen_rows, failed_rows}
use Rattle.contact_table.specs.TableState.{TableState, siblings_of}
use Rattle.contact_table.specs.TableStep.{table_after, with_rows, seen_siblings, failed_siblings}
use Rattle.contact_table.specs.Told.{IsVouched, held_by, held_in, limited_table, vouched_by, vouched_in}
use Rattle.contact_table.specs.Vouched.{Proofs, noted, of_held, proof_beside}
use Rattle.contact_table.proofs.Seating.{among-contains, contains-among}
use Rattle.contact_table.proofs.Vouching.{stands-beside}

abbrev Entry : Type 0
Entry = Contact × Proof

abbrev AreAscending : Proofs → Type 0
AreAscending es = IsStrictlySortedBy contact_cmp (keys_of es)

-- ---- in order

module _ (c : Contact) (p : Proof) where
  sorted-put : (es : Proofs) → AreAscending es → AreAscending (insert_entry contact_cmp es c p)
  unfolding IsStrictlySortedBy
  sorted-put [] s = (tt, tt)
  sorted-put (e ∷ es) s = go (contact_cmp c e.0) refl (sorted-put es s.1)
    where
      go : (o : Ordering) → contact_cmp c e.0 ≡ o → AreAscending (insert_entry contact_cmp es c p) → AreAscending (match_ordering o ((c, p) ∷ e ∷ es) ((e.0, p) ∷ es) (e ∷ insert_entry contact_cmp es c p))
      go Less f r =
          let behind = All-weaker (λ (y : Contact). contact_cmp e.0 y ≡ Less) (λ (y : Contact). contact_cmp c y ≡ Less) (λ y l. contact_total.trans c e.0 y f l) (keys_of es) (All-from_recursion (λ (y : Contact). contact_cmp e.0 y ≡ Less) (keys_of es) s.0) in
          ((f, recursion_from_All (λ (y : Contact). contact_cmp c y ≡ Less) (keys_of es) behind), s)
      go Equal f r = s
      go Greater f r =
          let P = λ (y : Contact). contact_cmp e.0 y ≡ Less in
          let first : contact_cmp e.0 c ≡ Less = contact_total.antisymm e.0 c ∙ ap ordering_reverse f in
          (recursion_from_All P (keys_of (insert_entry contact_cmp es c p)) (All-keys-insert_entry contact_cmp c p P es (All-from_recursion P (keys_of es) s.0) first), r)

  sorted-noted : (es : Proofs) → AreAscending es → AreAscending (noted c p es)
  sorted-noted es s = go (is_some (proof_beside es c))
    where
      go : (b : Bool) → AreAscending (cond b es (insert_entry contact_cmp es c p))
      go true = s
      go false = sorted-put es s

  module _ (P : Entry → Type 0) (here : P (c, p)) where
    all-put : (es : Proofs) → All P es → All P (insert_entry contact_cmp es c p)
    all-put [] a = All-cons P (c, p) [] here (All-nil P)
    all-put (e ∷ es) a = go (contact_cmp c e.0) refl (all-put es (All-tail P e es a))
      where
        go : (o : Ordering) → contact_cmp c e.0 ≡ o → All P (insert_entry contact_cmp es c p) → All P (match_ordering o ((c, p) ∷ e ∷ es) ((e.0, p) ∷ es) (e ∷ insert_entry contact_cmp es c p))
        go Less f r = All-cons P (c, p) (e ∷ es) here a
        go Equal f r = All-cons P (e.0, p) es (subst (λ (x : Contact). P (x, p)) (same_exact c e.0 (ap is_eq f)) here) (All-tail P e es a)
        go Greater f r = All-cons P e (insert_entry contact_cmp es c p) (All-head P e es a) r

    all-noted : (es : Proofs) → All P es → All P (noted c p es)
    all-noted es a = go (is_some (proof_beside es c))
      where
        go : (b : Bool) → All P (cond b es (insert_entry contact_cmp es c p))
        go true = a
        go false = all-put es a

keys-held : (held : List Contact) (es : Proofs) → keys_of (of_held held es) ≡ filter (among held) (keys_of es)
keys-held held [] = refl
keys-held held (e ∷ es) = go (among held e.0) ∙ ap (λ (l : List Contact). cond (among held e.0) (e.0 ∷ l) l) (keys-held held es)
  where
    go : (b : Bool) → keys_of (cond b (e ∷ of_held held es) (of_held held es)) ≡ cond b (e.0 ∷ keys_of (of_held held es)) (keys_of (of_held held es))
    go true = refl
    go false = refl

with-vouched : (s : TableState) (rows : List RowState) (siblings : List Contact) (es : Proofs) → AreAscending es → IsVouched (with_rows s rows siblings es)
with-vouched s rows siblings es sorted = record {
  held = All-weaker (λ (e : Entry). among all e.0 ≡ true) (λ (e : Entry). Contains all e.0) (λ e t. among-contains all e.0 t) (of_held all es) (filter_passes (λ (e : Entry). among all e.0) es);
  once = subst (IsStrictlySortedBy contact_cmp) (sym (keys-held all es)) (IsStrictlySortedBy-filter contact_cmp (among all) (keys_of es) sorted);
}
  where
    all : List Contact
    all = held_by rows siblings

pub step-vouched : (s : TableState) (role : ℕ) (call : TableCall) (x : TableReply) → IsVouched s → IsVouched (table_after s role call x)
step-vouched s role (Seen_call c) (Seen_reply seen) v = with-vouched s (seen_rows s.own s.k s.b c s.rows) (seen_siblings (siblings_of s) c seen) s.proofs v.once
step-vouched s role (Vouched c p) (Seen_reply seen) v = with-vouched s (seen_rows s.own s.k s.b c s.rows) (seen_siblings (siblings_of s) c seen) (noted c p s.proofs) (sorted-noted c p s.proofs v.once)
step-vouched s role (Failed c) (Gone_reply gone) v = with-vouched s (failed_rows gone c s.rows) (failed_siblings (siblings_of s) c gone) s.proofs v.once
step-vouched s role call x v = v

pub run-vouched : (s : TableState) (run : List (Made TableCall TableReply)) → IsVouched s → IsVouched (left_by table_after s run)
run-vouched s [] v = v
run-vouched s (m ∷ run) v = run-vouched (table_after s m.role m.call m.reply) run (step-vouched s m.role m.call m.reply v)

pub limited-vouched : (own : Id) (k b n : ℕ) → IsVouched (limited_table own k b n)
unfolding IsStrictlySortedBy
limited-vouched own k b n = record { held = All-nil (λ (e : Entry). Contains (held_by (limited_table own k b n).rows []) e.0); once = tt }

-- ---- what holds of all proofs, and of those that were shown since

module _ (P : Entry → Type 0) where
  step-shown : (s : TableState) (role : ℕ) (call : TableCall) (x : TableReply) → All P s.proofs → All P (vouched_in call) → All P (table_after s role call x).proofs
  step-shown s role (Seen_call c) (Seen_reply seen) a p =
      All-filter (λ (e : Entry). among (held_by (seen_rows s.own s.k s.b c s.rows) (seen_siblings (siblings_of s) c seen)) e.0) P s.proofs a
  step-shown s role (Vouched c proof) (Seen_reply seen) a p =
      All-filter (λ (e : Entry). among (held_by (seen_rows s.own s.k s.b c s.rows) (seen_siblings (siblings_of s) c seen)) e.0) P (noted c proof s.proofs) (all-noted c proof P (All-head P (c, proof) [] p) s.proofs a)
  step-shown s role (Failed c) (Gone_reply gone) a p =
      All-filter (λ (e : Entry). among (held_by (failed_rows gone c s.rows) (failed_siblings (siblings_of s) c gone)) e.0) P s.proofs a
  step-shown s role call x a p = a

  run-shown : (s : TableState) (run : List (Made TableCall TableReply)) → All P s.proofs → All P (vouched_by run) → All P (left_by table_after s run).proofs
  run-shown s [] a p = a
  run-shown s (m ∷ run) a p =
      let q = subst (All P) (flat_map-cons (λ (e : Made TableCall TableReply). vouched_in e.call) m run) p in
      run-shown (table_after s m.role m.call m.reply) run (step-shown s m.role m.call m.reply a (all-left P (vouched_in m.call) (vouched_by run) q)) (all-right P (vouched_in m.call) (vouched_by run) q)

pub shown : (s : TableState) (run : List (Made TableCall TableReply)) → All (Contains (s.proofs ++ vouched_by run)) (left_by table_after s run).proofs
shown s run =
    run-shown (Contains (s.proofs ++ vouched_by run)) s run
    (λ i d lt. Contains-append_left s.proofs (vouched_by run) _ (All-contains_itself s.proofs i d lt))
    (λ i d lt. Contains-append_right s.proofs (vouched_by run) _ (All-contains_itself (vouched_by run) i d lt))

-- ---- the first proof of a contact stays as long as it is held

-- what was put under a contact is found, and what was found under another
put-finds : (c x : Contact) (p : Proof) (es : Proofs) → proof_beside (insert_entry contact_cmp es c p) x ≡ cond (same c x) (Some p) (proof_beside es x)
put-finds c x p [] = ap (λ (b : Bool). cond b (Some p) None) (same_back x c)
put-finds c x p (e ∷ es) = go (contact_cmp c e.0) refl (put-finds c x p es)
  where
    replaced : (a b : Bool) → a ≡ b → cond a (Some p) (proof_beside es x) ≡ cond b (Some p) (cond a (Some e.1) (proof_beside es x))
    replaced true true h = refl
    replaced false false h = refl
    replaced true false h = absurd cc
    replaced false true h = absurd cc

    passed : (a b : Bool) → (a ≡ true → b ≡ true → ⊥) → cond a (Some e.1) (cond b (Some p) (proof_beside es x)) ≡ cond b (Some p) (cond a (Some e.1) (proof_beside es x))
    passed true true apart = absurd (apart refl refl)
    passed true false apart = refl
    passed false b apart = refl

    go : (o : Ordering) → contact_cmp c e.0 ≡ o → proof_beside (insert_entry contact_cmp es c p) x ≡ cond (same c x) (Some p) (proof_beside es x)
        → proof_beside (match_ordering o ((c, p) ∷ e ∷ es) ((e.0, p) ∷ es) (e ∷ insert_entry contact_cmp es c p)) x ≡ cond (same c x) (Some p) (proof_beside (e ∷ es) x)
    go Less f r = ap (λ (b : Bool). cond b (Some p) (proof_beside (e ∷ es) x)) (same_back x c)
    go Equal f r = replaced (same x e.0) (same c x) (ap (same x) (sym (same_exact c e.0 (ap is_eq f))) ∙ same_back x c)
    go Greater f r =
        ap (λ (o : Option Proof). cond (same x e.0) (Some e.1) o) r
        ∙ passed (same x e.0) (same c x) (λ a b. (let here : same c e.0 ≡ true = ap (same c) (sym (same_exact x e.0 a)) ∙ b in let there : same c e.0 ≡ false = ap is_eq f in absurd cc))

noted-stays : (c x : Contact) (p q : Proof) (es : Proofs) → proof_beside es x ≡ Some q → proof_beside (noted c p es) x ≡ Some q
noted-stays c x p q es found = go (is_some (proof_beside es c)) refl
  where
    other : is_some (proof_beside es c) ≡ false → (b : Bool) → same c x ≡ b → cond b (Some p) (proof_beside es x) ≡ Some q
    other f true g = let here : is_some (proof_beside es c) ≡ true = ap (λ (y : Contact). is_some (proof_beside es y)) (same_exact c x g) ∙ ap is_some found in absurd cc
    other f false g = found

    go : (b : Bool) → is_some (proof_beside es c) ≡ b → proof_beside (cond b es (insert_entry contact_cmp es c p)) x ≡ Some q
    go true f = found
    go false f = put-finds c x p es ∙ other f (same c x) refl

held-stays : (held : List Contact) (c : Contact) (q : Proof) (es : Proofs) → proof_beside es c ≡ Some q → Contains held c → proof_beside (of_held held es) c ≡ Some q
held-stays held c q es found has = stands-beside held es c ∙ ap (λ (b : Bool). cond b (proof_beside es c) None) (contains-among held c has) ∙ found

pub step-stays : (s : TableState) (role : ℕ) (call : TableCall) (x : TableReply) (c : Contact) (q : Proof) → proof_beside s.proofs c ≡ Some q → Contains (held_in (table_after s role call x)) c → proof_beside (table_after s role call x).proofs c ≡ Some q
step-stays s role (Seen_call d) (Seen_reply seen) c q found has = held-stays (held_by (seen_rows s.own s.k s.b d s.rows) (seen_siblings (siblings_of s) d seen)) c q s.proofs found has
step-stays s role (Vouched d p) (Seen_reply seen) c q found has = held-stays (held_by (seen_rows s.own s.k s.b d s.rows) (seen_siblings (siblings_of s) d seen)) c q (noted d p s.proofs) (noted-stays d c p q s.proofs found) has
step-stays s role (Failed d) (Gone_reply gone) c q found has = held-stays (held_by (failed_rows gone d s.rows) (failed_siblings (siblings_of s) d gone)) c q s.proofs found has
step-stays s role call x c q found has = found

pub first-noted : (s : TableState) (role : ℕ) (c : Contact) (p : Proof) (seen : Seen) → proof_beside s.proofs c ≡ None → Contains (held_in (table_after s role (Vouched c p) (Seen_reply seen))) c
    → proof_beside (table_after s role (Vouched c p) (Seen_reply seen)).proofs c ≡ Some p
first-noted s role c p seen none has =
    held-stays (held_by (seen_rows s.own s.k s.b c s.rows) (seen_siblings (siblings_of s) c seen)) c p (noted c p s.proofs)
    (ap (λ (b : Bool). proof_beside (cond b s.proofs (insert_entry contact_cmp s.proofs c p)) c) (ap is_some none)
    ∙ put-finds c c p s.proofs ∙ ap (λ (b : Bool). cond b (Some p) (proof_beside s.proofs c)) (same_itself c))
    has
