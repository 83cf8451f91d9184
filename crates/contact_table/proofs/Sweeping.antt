-- Seats from which those rose who had left the table.
use Rattle.std.proofs.Common.{◌≡◌, ℕ, List, [], ◌∷◌, Bool, true, false, cond, Option, None, Some, refl, sym, ap, ◌∙◌}
use Rattle.std.specs.Prelude.{filter}
use Rattle.std.specs.List.{All, AllByRecursion, Contains}
use Rattle.std.specs.List.Sorted.{IsStrictlySortedBy}
use Rattle.std.specs.Map.{keys_of, lookup}
use Rattle.std.specs.BTreeMap.{BTreeMap, IsOrdered, is_at}
use Rattle.std.specs.Ordering.{is_eq}
use Rattle.std.specs.declared.cmp.Ordering.TheVariants.{Less}
use Rattle.std.proofs.lemmas.List.Elements.{All-contains_itself}
use Rattle.kad_base.specs.declared.types.Contact.{Contact}
use Rattle.kad_base.specs.declared.host.Host.{Host}
use Rattle.kad_base.specs.Contacts.{among}
use Rattle.kad_base.specs.Hosts.{host}
use Rattle.contact_table.specs.declared.seats.Seat.{Seat}
use Rattle.contact_table.specs.Seats.{seat_cmp, sitter, IsSeated, HasSeats}
use Rattle.contact_table.proofs.Seating.{seat_of, seat_exact, contains-among}

-- what is left of who sits somewhere
abbrev kept : (Contact → Bool) → Option Contact → Option Contact
kept p None = None
kept p (Some c) = cond (p c) (Some c) None

kept-is : (p : Contact → Bool) (o : Option Contact) (c : Contact) → kept p o ≡ Some c → o ≡ Some c
kept-is p None c e = absurd cc
kept-is p (Some x) c e = go (p x) e
  where
    go : (t : Bool) → cond t (Some x) None ≡ Some c → Some x ≡ Some c
    go true e = e
    go false e = absurd cc

kept-stays : (p : Contact → Bool) (o : Option Contact) (c : Contact) → o ≡ Some c → p c ≡ true → kept p o ≡ Some c
kept-stays p o c e t = ap (kept p) e ∙ ap (λ (b : Bool). cond b (Some c) None) t

abbrev Entries : Type 0
Entries = List (Seat × Contact)

module _ (h : Host) (i : ℕ) (p : Contact → Bool) where
  abbrev here : Seat → Bool
  here = is_at (seat_cmp (seat_of h i))

  abbrev left : Entries → Entries
  left es = filter (λ (e : Seat × Contact). p e.1) es

  -- behind a seat there is no second of that name
  alone : (k : Seat) (es : Entries) → here k ≡ true → AllByRecursion (λ (y : Seat). seat_cmp k y ≡ Less) (keys_of es) → lookup here (left es) ≡ None
  alone k [] t a = refl
  alone k (e ∷ es) t a = go (here e.0) refl (p e.1) (alone k es t a.1)
    where
      go : (s : Bool) → here e.0 ≡ s → (b : Bool) → lookup here (left es) ≡ None → lookup here (cond b (e ∷ left es) (left es)) ≡ None
      go true f b r =
          let one = seat_exact h k.host i k.place t in
          let is : seat_of h i ≡ k = cc in
          let less : seat_cmp (seat_of h i) e.0 ≡ Less = ap (λ (s : Seat). seat_cmp s e.0) is ∙ a.0 in
          let no : is_eq Less ≡ true = sym (ap is_eq less) ∙ f in
          absurd cc
      go false f true r = ap (λ (s : Bool). cond s (Some e.1) (lookup here (left es))) f ∙ r
      go false f false r = r

  swept : (es : Entries) → IsStrictlySortedBy seat_cmp (keys_of es) → lookup here (left es) ≡ kept p (lookup here es)
  unfolding IsStrictlySortedBy
  swept [] s = refl
  swept (e ∷ es) s = go (here e.0) refl (p e.1) refl (swept es s.1)
    where
      go : (t : Bool) → here e.0 ≡ t → (b : Bool) → p e.1 ≡ b → lookup here (left es) ≡ kept p (lookup here es) → lookup here (cond b (e ∷ left es) (left es)) ≡ kept p (cond t (Some e.1) (lookup here es))
      go true f true g r = ap (λ (s : Bool). cond s (Some e.1) (lookup here (left es))) f ∙ sym (ap (λ (s : Bool). cond s (Some e.1) None) g)
      go true f false g r = alone e.0 es f s.0 ∙ sym (ap (λ (s : Bool). cond s (Some e.1) None) g)
      go false f true g r = ap (λ (s : Bool). cond s (Some e.1) (lookup here (left es))) f ∙ r
      go false f false g r = r

all-with : (P Q : Contact → Type 0) (xs : List Contact) → ((x : Contact) → Contains xs x → P x → Q x) → All P xs → All Q xs
all-with P Q xs f a = λ i d lt. f _ (All-contains_itself xs i d lt) (a i d lt)

module _ (n : ℕ) (held : List Contact) (m m' : BTreeMap Seat Contact) (order : IsOrdered seat_cmp m) (is : m'.entries ≡ filter (λ (e : Seat × Contact). among held e.1) m.entries) where
  sat : (h : Host) (i : ℕ) → sitter m' h i ≡ kept (among held) (sitter m h i)
  sat h i = ap (lookup (is_at (seat_cmp (seat_of h i)))) is ∙ swept h i (among held) m.entries order

  pub sat-before : (h : Host) (i : ℕ) (c : Contact) → sitter m' h i ≡ Some c → sitter m h i ≡ Some c
  sat-before h i c e = kept-is (among held) (sitter m h i) c (sym (sat h i) ∙ e)

  pub sweeps : HasSeats n held m → HasSeats n held m'
  sweeps seats = record {
    are = record {
      home = λ h i c e. seats.are.home h i c (sat-before h i c e);
      within = λ h i c e. seats.are.within h i c (sat-before h i c e);
      once = λ h i j c e f. seats.are.once h i j c (sat-before h i c e) (sat-before h j c f);
    };
    each = λ lim. all-with (IsSeated n m) (IsSeated n m') held
        (λ c has at. record { place = at.place; within = at.within; sits = sat (host c.addr) at.place ∙ kept-stays (among held) (sitter m (host c.addr) at.place) c at.sits (contains-among held c has) })
        (seats.each lim);
  }
