-- Which proofs stand: entries of contacts that aren't held make no difference, and what is noted is put in its place.
use Rattle.std.proofs.Common.{◌≡◌, ◌≢◌, ◌&&◌, List, [], ◌∷◌, Bool, true, false, cond, Option, None, Some, refl, sym, ap, ◌∙◌}
use Rattle.std.specs.List.{All, AllByRecursion, Contains}
use Rattle.std.specs.List.Sorted.{IsStrictlySortedBy}
use Rattle.std.specs.Map.{keys_of, remove_entry}
use Rattle.std.specs.Option.{is_some}
use Rattle.std.specs.BTreeMap.{insert_entry}
use Rattle.std.specs.Ordering.{match_ordering, is_eq}
use Rattle.std.specs.declared.cmp.Ordering.{Ordering}
use Rattle.std.specs.declared.cmp.Ordering.TheVariants.{Less, Equal, Greater}
use Rattle.std.proofs.lemmas.Map.{none_passes_from_lookup}
use Rattle.std.proofs.lemmas.Map.Entries.{lookup-filter-keys}
use Rattle.std.proofs.lemmas.Map.Keys.{sorted_head, sorted_tail}
use Rattle.std.proofs.lemmas.List.Elements.{All-contains, All-contains_itself, All-head, All-tail}
use Rattle.kad_base.specs.declared.types.Contact.{Contact}
use Rattle.kad_base.specs.declared.types.Proof.{Proof}
use Rattle.kad_base.specs.declared.types.Report.{Report}
use Rattle.kad_base.specs.Contacts.{contact_cmp, same, among}
use Rattle.kad_base.proofs.Contacts.{contact_total, same_exact, same_itself}
use Rattle.contact_table.specs.Vouched.{Proofs, NoneElse, noted, of_held, proof_beside, report_of, reports_of}
use Rattle.contact_table.proofs.Seating.{contains-among, among-contains}

abbrev Entry : Type 0
Entry = Contact × Proof

-- ---- a look-up

pub stands-beside : (held : List Contact) (es : Proofs) (c : Contact) → proof_beside (of_held held es) c ≡ cond (among held c) (proof_beside es c) None
stands-beside held es c = lookup-filter-keys (same c) (among held) (among held c) (λ x t. ap (among held) (sym (same_exact c x t))) es

is-held : (held : List Contact) (es : Proofs) (c : Contact) → is_some (proof_beside (of_held held es) c) ≡ (among held c && is_some (proof_beside es c))
is-held held es c = ap is_some (stands-beside held es c) ∙ go (among held c)
  where
    go : (b : Bool) → is_some (cond b (proof_beside es c) None) ≡ (b && is_some (proof_beside es c))
    go true = refl
    go false = refl

pub has-none : (held : List Contact) (es : Proofs) (c : Contact) (b : Bool) → b ≡ is_some (proof_beside es c) → b ≡ false → false ≡ is_some (proof_beside (of_held held es) c)
has-none held es c b is f = go (among held c) ∙ ap (λ (t : Bool). among held c && t) (sym f ∙ is) ∙ sym (is-held held es c)
  where
    go : (t : Bool) → false ≡ (t && false)
    go true = refl
    go false = refl

pub has-one : (held : List Contact) (es : Proofs) (c : Contact) (b t : Bool) → b ≡ is_some (proof_beside es c) → b ≡ true → t ≡ among held c → t ≡ is_some (proof_beside (of_held held es) c)
has-one held es c b t is f at = at ∙ go (among held c) ∙ ap (λ (t : Bool). among held c && t) (sym f ∙ is) ∙ sym (is-held held es c)
  where
    go : (t : Bool) → t ≡ (t && true)
    go true = refl
    go false = refl

both-true : (s t : Bool) → (s && t) ≡ true → s ≡ true
both-true true t e = refl
both-true false t e = absurd cc

pub held-then : (held : List Contact) (es : Proofs) (c : Contact) → is_some (proof_beside (of_held held es) c) ≡ true → among held c ≡ true
held-then held es c is = both-true (among held c) (is_some (proof_beside es c)) (sym (is-held held es c) ∙ is)

abbrev report_with : Contact → Option Proof → Report
report_with c p = record { contact = c; proof = p }

pub reports-held : (held : List Contact) (es : Proofs) (cs : List Contact) → All (Contains held) cs → reports_of es cs ≡ reports_of (of_held held es) cs
reports-held held es [] a = refl
reports-held held es (c ∷ cs) a =
    let here : among held c ≡ true = contains-among held c (All-head (Contains held) c cs a) in
    let beside : proof_beside es c ≡ proof_beside (of_held held es) c = sym (stands-beside held es c ∙ ap (λ (b : Bool). cond b (proof_beside es c) None) here) in
    ap (λ (p : Option Proof). report_with c p ∷ reports_of es cs) beside
    ∙ ap (λ (l : List Report). report_of (of_held held es) c ∷ l) (reports-held held es cs (All-tail (Contains held) c cs a))

-- ---- entries of contacts that aren't held

-- those of one list of contacts, some of which another has
abbrev Fewer : List Contact → List Contact → Proofs → Type 0
Fewer held after es = AllByRecursion (λ (e : Entry). among after e.0 ≡ true → among held e.0 ≡ true) es

dropped : (held after : List Contact) (e : Entry) (es : Proofs) → (among after e.0 ≡ true → among held e.0 ≡ true) → among held e.0 ≡ false → of_held after (e ∷ es) ≡ of_held after es
dropped held after e es less f = go (among after e.0) less
  where
    go : (b : Bool) → (b ≡ true → among held e.0 ≡ true) → cond b (e ∷ of_held after es) (of_held after es) ≡ of_held after es
    go true g = let t = g refl in absurd cc
    go false g = refl

again : (held after : List Contact) (es : Proofs) → Fewer held after es → of_held after es ≡ of_held after (of_held held es)
again held after [] a = refl
again held after (e ∷ es) a = go (among held e.0) refl (again held after es a.1)
  where
    go : (b : Bool) → among held e.0 ≡ b → of_held after es ≡ of_held after (of_held held es) → of_held after (e ∷ es) ≡ of_held after (cond b (e ∷ of_held held es) (of_held held es))
    go true f r = ap (λ (l : Proofs). cond (among after e.0) (e ∷ l) l) r
    go false f r = dropped held after e es a.0 f ∙ r

each : (P : Entry → Type 0) → ((e : Entry) → P e) → (es : Proofs) → AllByRecursion P es
each P f [] = tt
each P f (e ∷ es) = (f e, each P f es)

each-of : (P Q : Entry → Type 0) → ((e : Entry) → P e → Q e) → (es : Proofs) → AllByRecursion P es → AllByRecursion Q es
each-of P Q f [] a = tt
each-of P Q f (e ∷ es) a = (f e a.0, each-of P Q f es a.1)

pub fewer : (held after : List Contact) (es : Proofs) → All (Contains held) after → of_held after es ≡ of_held after (of_held held es)
fewer held after es all =
    again held after es (each (λ (e : Entry). among after e.0 ≡ true → among held e.0 ≡ true)
    (λ e t. contains-among held e.0 (All-contains (Contains held) after e.0 all (among-contains after e.0 t))) es)

pub twice : (held : List Contact) (es : Proofs) → of_held held (of_held held es) ≡ of_held held es
twice held es = sym (fewer held held es (All-contains_itself held))

pub forgets : (held : List Contact) (c : Contact) (es : Proofs) → among held c ≡ false → of_held held (remove_entry (same c) es) ≡ of_held held es
forgets held c [] none = refl
forgets held c (e ∷ es) none = go (same c e.0) refl (forgets held c es none)
  where
    go : (b : Bool) → same c e.0 ≡ b → of_held held (remove_entry (same c) es) ≡ of_held held es → of_held held (cond b es (e ∷ remove_entry (same c) es)) ≡ of_held held (e ∷ es)
    go true f r = ap (λ (b : Bool). cond b (e ∷ of_held held es) (of_held held es)) (sym none ∙ ap (among held) (same_exact c e.0 f))
    go false f r = ap (λ (l : Proofs). cond (among held e.0) (e ∷ l) l) r

-- ---- a contact is seen

module _ (held after : List Contact) (c : Contact) (new : NoneElse held c after) where
  less : (x : Contact) → same c x ≡ false → among after x ≡ true → among held x ≡ true
  less x ne t =
      contains-among held x (All-contains (λ (y : Contact). y ≢ c → Contains held y) after x new (among-contains after x t)
      (λ e. (let is : same c x ≡ true = ap (same c) e ∙ same_itself c in absurd cc)))

  pub stands-held : (es : Proofs) → among held c ≡ true → of_held after es ≡ of_held after (of_held held es)
  stands-held es here = again held after es (each (λ (e : Entry). among after e.0 ≡ true → among held e.0 ≡ true) (λ e. go e.0 (same c e.0) refl) es)
    where
      go : (x : Contact) (b : Bool) → same c x ≡ b → among after x ≡ true → among held x ≡ true
      go x true f t = ap (among held) (sym (same_exact c x f)) ∙ here
      go x false f t = less x f t

  others : (es : Proofs) → AllByRecursion (λ (e : Entry). same c e.0 ≡ false) es → Fewer held after es
  others es a = each-of (λ (e : Entry). same c e.0 ≡ false) (λ (e : Entry). among after e.0 ≡ true → among held e.0 ≡ true) (λ e. less e.0) es a

  pub stands-absent : (es : Proofs) → proof_beside es c ≡ None → of_held after es ≡ of_held after (of_held held es)
  stands-absent es none = again held after es (others es (none_passes_from_lookup (same c) es none))

  -- ---- and its proof is put

  module _ (p : Proof) where
    abbrev put : Proofs → Proofs
    put es = insert_entry contact_cmp es c p

    at : (e : Entry) (es : Proofs) (o : Ordering) → contact_cmp c e.0 ≡ o → put (e ∷ es) ≡ match_ordering o ((c, p) ∷ e ∷ es) ((e.0, p) ∷ es) (e ∷ put es)
    at e es o f = ap (λ (r : Ordering). match_ordering r ((c, p) ∷ e ∷ es) ((e.0, p) ∷ es) (e ∷ put es)) f

    abbrev AreBehind : Proofs → Type 0
    AreBehind es = AllByRecursion (λ (e : Entry). contact_cmp c e.0 ≡ Less) es

    front : (es : Proofs) → AreBehind es → put es ≡ (c, p) ∷ es
    front [] a = refl
    front (e ∷ es) a = at e es Less a.0

    apart : (es : Proofs) → AreBehind es → AllByRecursion (λ (e : Entry). same c e.0 ≡ false) es
    apart es a = each-of (λ (e : Entry). contact_cmp c e.0 ≡ Less) (λ (e : Entry). same c e.0 ≡ false) (λ e l. ap is_eq l) es a

    behind : (x : Contact) (es : Proofs) → ((y : Contact) → contact_cmp x y ≡ Less → contact_cmp c y ≡ Less) → AllByRecursion (λ (y : Contact). contact_cmp x y ≡ Less) (keys_of es) → AreBehind es
    behind x [] f a = tt
    behind x (e ∷ es) f a = (f e.0 a.0, behind x es f a.1)

    pub put-stands : (es : Proofs) → IsStrictlySortedBy contact_cmp (keys_of es) → of_held after (put es) ≡ of_held after (put (of_held held es))
    put-stands [] s = refl
    put-stands (e ∷ es) s = go (contact_cmp c e.0) refl (among held e.0) refl (put-stands es (sorted_tail contact_cmp e.0 (keys_of es) s))
      where
        keep : Proofs → Proofs
        keep l = cond (among after e.0) (e ∷ l) l

        gone : (es : Proofs) → same c e.0 ≡ false → among held e.0 ≡ false → of_held after (e ∷ es) ≡ of_held after es
        gone es ne f = dropped held after e es (less e.0 ne) f

        above : (o : Ordering) → contact_cmp c e.0 ≡ o → ((y : Contact) → contact_cmp e.0 y ≡ Less → contact_cmp c y ≡ Less) → AreBehind es
        above o f h = behind e.0 es h (sorted_head contact_cmp e.0 (keys_of es) s)

        go : (o : Ordering) → contact_cmp c e.0 ≡ o → (b : Bool) → among held e.0 ≡ b → of_held after (put es) ≡ of_held after (put (of_held held es))
            → of_held after (put (e ∷ es)) ≡ of_held after (put (cond b (e ∷ of_held held es) (of_held held es)))
        go Less f true g r =
            let all = above Less f (λ y l. contact_total.trans c e.0 y f l) in
            ap (of_held after) (at e es Less f)
            ∙ ap (λ (l : Proofs). cond (among after c) ((c, p) ∷ cond (among after e.0) (e ∷ l) l) (cond (among after e.0) (e ∷ l) l)) (again held after es (others es (apart es all)))
            ∙ sym (ap (of_held after) (at e (of_held held es) Less f))
        go Less f false g r =
            let all = above Less f (λ y l. contact_total.trans c e.0 y f l) in
            ap (of_held after) (at e es Less f)
            ∙ ap (λ (l : Proofs). cond (among after c) ((c, p) ∷ l) l) (gone es (ap is_eq f) g)
            ∙ sym (ap (of_held after) (front es all)) ∙ r
        go Equal f true g r =
            let all = above Equal f (λ y l. contact_total.congr c e.0 y f ∙ l) in
            ap (of_held after) (at e es Equal f)
            ∙ ap (λ (l : Proofs). cond (among after e.0) ((e.0, p) ∷ l) l) (again held after es (others es (apart es all)))
            ∙ sym (ap (of_held after) (at e (of_held held es) Equal f))
        go Equal f false g r =
            let all = above Equal f (λ y l. contact_total.congr c e.0 y f ∙ l) in
            ap (of_held after) (at e es Equal f)
            ∙ ap (λ (x : Contact). of_held after ((x, p) ∷ es)) (sym (same_exact c e.0 (ap is_eq f)))
            ∙ sym (ap (of_held after) (front es all)) ∙ r
        go Greater f true g r =
            ap (of_held after) (at e es Greater f)
            ∙ ap keep r
            ∙ sym (ap (of_held after) (at e (of_held held es) Greater f))
        go Greater f false g r =
            ap (of_held after) (at e es Greater f) ∙ gone (put es) (ap is_eq f) g ∙ r

-- ---- and taken back

module _ (c : Contact) (p : Proof) where
  -- the contact had none
  took-back : (es : Proofs) → proof_beside es c ≡ None → remove_entry (same c) (insert_entry contact_cmp es c p) ≡ es
  took-back [] none = ap (λ (b : Bool). cond b [] ((c, p) ∷ [])) (same_itself c)
  took-back (e ∷ es) none = go (contact_cmp c e.0) refl none (took-back es)
    where
      go : (o : Ordering) → contact_cmp c e.0 ≡ o → cond (is_eq o) (Some e.1) (proof_beside es c) ≡ None → (proof_beside es c ≡ None → remove_entry (same c) (insert_entry contact_cmp es c p) ≡ es)
          → remove_entry (same c) (match_ordering o ((c, p) ∷ e ∷ es) ((e.0, p) ∷ es) (e ∷ insert_entry contact_cmp es c p)) ≡ e ∷ es
      go Less f n r = ap (λ (b : Bool). cond b (e ∷ es) ((c, p) ∷ remove_entry (same c) (e ∷ es))) (same_itself c)
      go Equal f n r = absurd cc
      go Greater f n r = ap (λ (b : Bool). cond b (insert_entry contact_cmp es c p) (e ∷ remove_entry (same c) (insert_entry contact_cmp es c p))) (ap is_eq f) ∙ ap (λ (l : Proofs). e ∷ l) (r n)

  -- the contact isn't held
  unheld : (held : List Contact) (es : Proofs) → among held c ≡ false → of_held held (insert_entry contact_cmp es c p) ≡ of_held held es
  unheld held [] none = ap (λ (b : Bool). cond b ((c, p) ∷ []) []) none
  unheld held (e ∷ es) none = go (contact_cmp c e.0) refl (unheld held es none)
    where
      go : (o : Ordering) → contact_cmp c e.0 ≡ o → of_held held (insert_entry contact_cmp es c p) ≡ of_held held es
          → of_held held (match_ordering o ((c, p) ∷ e ∷ es) ((e.0, p) ∷ es) (e ∷ insert_entry contact_cmp es c p)) ≡ of_held held (e ∷ es)
      go Less f r = ap (λ (b : Bool). cond b ((c, p) ∷ of_held held (e ∷ es)) (of_held held (e ∷ es))) none
      go Equal f r =
          let out : among held e.0 ≡ false = ap (among held) (sym (same_exact c e.0 (ap is_eq f))) ∙ none in
          ap (λ (b : Bool). cond b ((e.0, p) ∷ of_held held es) (of_held held es)) out ∙ sym (ap (λ (b : Bool). cond b (e ∷ of_held held es) (of_held held es)) out)
      go Greater f r = ap (λ (l : Proofs). cond (among held e.0) (e ∷ l) l) r

  pub undone : (held : List Contact) (es : Proofs) → is_some (proof_beside (of_held held es) c) ≡ false → of_held held (remove_entry (same c) (insert_entry contact_cmp es c p)) ≡ of_held held es
  undone held es none = go (among held c) refl (proof_beside es c) refl (sym (ap is_some (stands-beside held es c)) ∙ none)
    where
      go : (b : Bool) → among held c ≡ b → (o : Option Proof) → proof_beside es c ≡ o → is_some (cond b o None) ≡ false → of_held held (remove_entry (same c) (insert_entry contact_cmp es c p)) ≡ of_held held es
      go true f None g n = ap (of_held held) (took-back es g)
      go true f (Some q) g n = absurd cc
      go false f o g n = forgets held c (insert_entry contact_cmp es c p) f ∙ unheld held es f

-- ---- the first proof of a contact stays

pub had : (c : Contact) (p : Proof) (es : Proofs) → is_some (proof_beside es c) ≡ true → noted c p es ≡ es
had c p es is = ap (λ (b : Bool). cond b es (insert_entry contact_cmp es c p)) is

pub had-none : (c : Contact) (p : Proof) (es : Proofs) → is_some (proof_beside es c) ≡ false → noted c p es ≡ insert_entry contact_cmp es c p
had-none c p es is = ap (λ (b : Bool). cond b es (insert_entry contact_cmp es c p)) is
