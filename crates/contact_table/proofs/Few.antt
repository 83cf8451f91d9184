-- A table with a limit never holds more contacts of a host than the limit says.
use Rattle.std.proofs.Common.{◌≡◌, ◌≢◌, ℕ, ◌+◌, ◌<◌, ◌≤◌, ◌||◌, List, [], ◌∷◌, ◌++◌, length, Bool, true, false, cond, not, refl, sym, ap, subst, ◌∙◌, arith}
use Rattle.std.specs.Prelude.{filter}
use Rattle.std.specs.List.{All, AllByRecursion, Contains, IsDistinct}
use Rattle.std.proofs.lemmas.Cmp.{eq_by_cmp_equiv}
use Rattle.std.proofs.lemmas.List.Concat.{flat_map-cons}
use Rattle.std.proofs.lemmas.List.Elements.{All-cons, All-contains, All-contains_itself, All-filter, All-head}
use Rattle.std.proofs.lemmas.Map.Made.{length-le_from_is_member}
use Rattle.kad_base.specs.declared.types.Id.{Id}
use Rattle.kad_base.specs.declared.types.Contact.{Contact}
use Rattle.kad_base.specs.declared.serial.Made.{Made}
use Rattle.kad_base.specs.Serial.{IsRun, left_by}
use Rattle.kad_base.specs.Contacts.{same, among}
use Rattle.kad_base.specs.Hosts.{host}
use Rattle.kad_base.proofs.Contacts.{contact_total, same_exact, same_itself}
use Rattle.bucket_tree.specs.declared.types.Seen.{Seen}
use Rattle.contact_table.specs.declared.calls.TableCall.{TableCall}
use Rattle.contact_table.specs.declared.calls.TableCall.TheVariants.{Seen as Seen_call, Vouched, Failed, Closest, Vouchers}
use Rattle.contact_table.specs.declared.calls.TableReply.{TableReply}
use Rattle.contact_table.specs.declared.calls.TableReply.TheVariants.{Seen as Seen_reply, Gone as Gone_reply, List as List_reply, Reports as Reports_reply, Crowded, NoMemory}
use Rattle.contact_table.specs.RowsAfter.{seen_rows, failed_rows}
use Rattle.contact_table.specs.TableState.{TableState, SoundTable, siblings_of}
use Rattle.contact_table.specs.TableStep.{TableMay, SeenReplies, TableStep, table_after, after_seen, seen_siblings, failed_siblings}
use Rattle.contact_table.specs.Told.{kept_in, held_by, held_in, limited_table}
use Rattle.contact_table.specs.Crowded.{IsCrowded, HasFew}
use Rattle.contact_table.specs.Vouched.{Proofs, noted}
use Rattle.contact_table.proofs.Holding.{seen-holds, failed-holds}
use Rattle.contact_table.proofs.Newness.{new-or-old, all-none, passes-among}
use Rattle.contact_table.proofs.StaysSound.{step-sound, limited-sound}

all-with : (P Q : Contact → Type 0) (xs : List Contact) → ((x : Contact) → Contains xs x → P x → Q x) → All P xs → All Q xs
all-with P Q xs f a = λ i d lt. f _ (All-contains_itself xs i d lt) (a i d lt)

-- what all that are held later have, those of a list have
of-all : (P : Contact → Type 0) (held cs : List Contact) → All P held → All (Contains held) cs → All P cs
of-all P held cs a b = λ i d lt. All-contains P held _ a (b i d lt)

apart : (a b : Contact) → same a b ≡ false → b ≢ a
apart a b e f = let t : same a b ≡ true = ap (same a) f ∙ same_itself a in absurd cc

each-filter : (P : Contact → Type 0) (q : Contact → Bool) (cs : List Contact) → AllByRecursion P cs → AllByRecursion P (filter q cs)
each-filter P q [] a = tt
each-filter P q (x ∷ cs) a = go (q x) (each-filter P q cs a.1)
  where
    go : (t : Bool) → AllByRecursion P (filter q cs) → AllByRecursion P (cond t (x ∷ filter q cs) (filter q cs))
    go true r = (a.0, r)
    go false r = r

distinct-filter : (q : Contact → Bool) (cs : List Contact) → IsDistinct same cs → IsDistinct same (filter q cs)
unfolding IsDistinct
distinct-filter q [] d = tt
distinct-filter q (x ∷ cs) d = go (q x) (distinct-filter q cs d.1)
  where
    go : (t : Bool) → IsDistinct same (filter q cs) → IsDistinct same (cond t (x ∷ filter q cs) (filter q cs))
    go true r = (each-filter (λ (y : Contact). same x y ≡ false) q cs d.0, r)
    go false r = r

abbrev others : Contact → List Contact → List Contact
others c cs = filter (λ (x : Contact). not (same c x)) cs

not-true : (t : Bool) → not t ≡ true → t ≡ false
not-true true e = absurd cc
not-true false e = refl

others-apart : (c : Contact) (cs : List Contact) → All (λ (x : Contact). x ≢ c) (others c cs)
others-apart c [] = λ i d lt. absurd (omega (arith, lt))
others-apart c (x ∷ cs) = go (same c x) refl (others-apart c cs)
  where
    go : (t : Bool) → same c x ≡ t → All (λ (y : Contact). y ≢ c) (others c cs) → All (λ (y : Contact). y ≢ c) (cond (not t) (x ∷ others c cs) (others c cs))
    go true e r = r
    go false e r = All-cons (λ (y : Contact). y ≢ c) x (others c cs) (apart c x e) r

-- without one contact a list of different ones has one less at most
others-or-it : (c q : Contact) (cs : List Contact) → among cs q ≡ true → among (c ∷ others c cs) q ≡ true
others-or-it c q [] e = absurd cc
others-or-it c q (x ∷ cs) e = go (same q c) (same q x) (same c x) refl refl refl e (others-or-it c q cs)
  where
    go : (s t u : Bool) → same q c ≡ s → same q x ≡ t → same c x ≡ u → (t || among cs q) ≡ true → (among cs q ≡ true → (same q c || among (others c cs) q) ≡ true)
        → (s || among (cond (not u) (x ∷ others c cs) (others c cs)) q) ≡ true
    go true t u a b d has rest = refl
    go false true true a b d has rest =
        let q_is : q ≡ x = same_exact q x b in
        let c_is : c ≡ x = same_exact c x d in
        let it : same q c ≡ true = ap (same q) (c_is ∙ sym q_is) ∙ same_itself q in
        absurd cc
    go false true false a b d has rest = ap (λ (t : Bool). t || among (others c cs) q) b
    go false false true a b d has rest = ap (λ (t : Bool). t || among (others c cs) q) (sym a) ∙ rest has
    go false false false a b d has rest = ap (λ (t : Bool). t || among (others c cs) q) b ∙ (ap (λ (t : Bool). t || among (others c cs) q) (sym a) ∙ rest has)

many-others : (n : ℕ) (c : Contact) (cs : List Contact) → n + 1 ≤ length cs → IsDistinct same cs → n ≤ length (others c cs)
many-others n c cs many different =
    let le = length-le_from_is_member (eq_by_cmp_equiv contact_total) cs (c ∷ others c cs) different (λ q t. others-or-it c q cs t) in
    omega (arith, many, le)

few-seen : (n : ℕ) (held after : List Contact) (c : Contact) → HasFew n held → (¬ IsCrowded n held c) → All (λ (x : Contact). x ≢ c → Contains held x) after → HasFew n after
few-seen n held after c few free all limited h cs crowd = go (among cs c) refl
  where
    known : All (λ (x : Contact). x ≢ c → Contains held x) cs
    known = of-all (λ (x : Contact). x ≢ c → Contains held x) after cs all crowd.each

    go : (t : Bool) → among cs c ≡ t → ⊥
    go false e =
        let ne : All (λ (x : Contact). x ≢ c) cs = all-none (same c) (λ (x : Contact). x ≢ c) (λ x f. apart c x f) cs e in
        few limited h cs (record {
          as_many = crowd.as_many;
          different = crowd.different;
          each = all-with (λ (x : Contact). x ≢ c → Contains held x) (Contains held) cs (λ x has f. f (All-contains (λ (y : Contact). y ≢ c) cs x ne has)) known;
          of_host = crowd.of_host;
        })
    go true e =
        let at : host c.addr ≡ h = passes-among (λ (x : Contact). host x.addr ≡ h) cs c e crowd.of_host in
        let keep = λ (x : Contact). not (same c x) in
        free (record {
          limited = limited;
          crowd = others c cs;
          has = record {
            as_many = many-others n c cs crowd.as_many crowd.different;
            different = distinct-filter keep cs crowd.different;
            each = all-with (λ (x : Contact). x ≢ c → Contains held x) (Contains held) (others c cs) (λ x has f. f (All-contains (λ (y : Contact). y ≢ c) (others c cs) x (others-apart c cs) has)) (All-filter keep (λ (x : Contact). x ≢ c → Contains held x) cs known);
            of_host = all-with (λ (x : Contact). host x.addr ≡ h) (λ (x : Contact). host x.addr ≡ host c.addr) (others c cs) (λ x has f. f ∙ sym at) (All-filter keep (λ (x : Contact). host x.addr ≡ h) cs crowd.of_host);
          };
          others = others-apart c cs;
        })

few-fewer : (n : ℕ) (held after : List Contact) → HasFew n held → All (Contains held) after → HasFew n after
few-fewer n held after few all limited h cs crowd =
    few limited h cs (record { as_many = crowd.as_many; different = crowd.different; each = of-all (Contains held) after cs all crowd.each; of_host = crowd.of_host })

abbrev Few : TableState → Type 0
Few s = HasFew s.per_address (held_in s)

after-few : (s : TableState) (c : Contact) (seen : Seen) (proofs : Proofs) → SoundTable s → SeenReplies s c (Seen_reply seen) → Few s → Few (after_seen s c seen proofs)
after-few s c seen proofs q t few =
    let rows = seen_rows s.own s.k s.b c s.rows in
    let after = held_by rows (seen_siblings (siblings_of s) c seen) in
    new-or-old (HasFew s.per_address after) s.own s.rows c
    (λ new. few-seen s.per_address (held_in s) after c few (λ crowded. t.1 (new, crowded))
    (seen-holds (λ (x : Contact). x ≢ c → Contains (held_in s) x) s.own s.k s.b c s.rows rows seen s.siblings q.buckets.rows t.0 (λ _ ne. absurd (ne refl)) (all-with (Contains (held_in s)) (λ (x : Contact). x ≢ c → Contains (held_in s) x) (held_in s) (λ x has f ne. f) (All-contains_itself (held_in s)))))
    (λ old. few-fewer s.per_address (held_in s) after few
    (seen-holds (Contains (held_in s)) s.own s.k s.b c s.rows rows seen s.siblings q.buckets.rows t.0 (λ new. absurd (old new)) (All-contains_itself (held_in s))))

pub step-few : (s : TableState) (role : ℕ) (call : TableCall) (x : TableReply) → SoundTable s → TableStep s role call x → Few s → Few (table_after s role call x)
step-few s role (Seen_call c) (Seen_reply seen) q t few = after-few s c seen s.proofs q t few
step-few s role (Seen_call c) (Gone_reply x) q t few = few
step-few s role (Seen_call c) (List_reply x) q t few = few
step-few s role (Seen_call c) Crowded q t few = few
step-few s role (Seen_call c) NoMemory q t few = few
step-few s role (Seen_call c) (Reports_reply x) q t few = few
step-few s role (Vouched c p) (Seen_reply seen) q t few = after-few s c seen (noted c p s.proofs) q t few
step-few s role (Vouched c p) (Gone_reply x) q t few = few
step-few s role (Vouched c p) (List_reply x) q t few = few
step-few s role (Vouched c p) (Reports_reply x) q t few = few
step-few s role (Vouched c p) Crowded q t few = few
step-few s role (Vouched c p) NoMemory q t few = few
step-few s role (Failed c) (Gone_reply gone) q t few =
    few-fewer s.per_address (held_in s) (held_by (failed_rows gone c s.rows) (failed_siblings (siblings_of s) c gone)) few
    (failed-holds (Contains (held_in s)) s.own c s.rows gone s.siblings (All-contains_itself (held_in s)))
step-few s role (Failed c) (Seen_reply x) q t few = few
step-few s role (Failed c) (List_reply x) q t few = few
step-few s role (Failed c) (Reports_reply x) q t few = few
step-few s role (Failed c) Crowded q t few = few
step-few s role (Failed c) NoMemory q t few = few
step-few s role (Closest target n) x q t few = few
step-few s role (Vouchers target n) x q t few = few

pub run-few : (s : TableState) (run : List (Made TableCall TableReply)) → SoundTable s → IsRun TableMay TableStep table_after s run → Few s → Few (left_by table_after s run)
run-few s [] q r few = few
run-few s (e ∷ run) q r few = run-few (table_after s e.role e.call e.reply) run (step-sound s e.role e.call e.reply q r.1) r.2 (step-few s e.role e.call e.reply q r.1 few)

nobody : (own : Id) (k b n : ℕ) → held_in (limited_table own k b n) ≡ []
nobody own k b n = ap (λ (l : List Contact). l ++ []) (flat_map-cons kept_in (record { prefix = []; live = []; spares = [] }) [])

none-held : (n : ℕ) (held : List Contact) → held ≡ [] → HasFew n held
none-held n held e limited h [] crowd = let many = crowd.as_many in omega (arith, many)
none-held n held e limited h (c ∷ cs) crowd =
    let has = All-head (Contains []) c cs (subst (λ (l : List Contact). All (Contains l) (c ∷ cs)) e crowd.each) in
    let lt = has.1 in
    absurd (omega (arith, lt))

left-limit : (s : TableState) (role : ℕ) (call : TableCall) (x : TableReply) → (table_after s role call x).per_address ≡ s.per_address
left-limit s role (Seen_call c) (Seen_reply seen) = refl
left-limit s role (Seen_call c) (Gone_reply x) = refl
left-limit s role (Seen_call c) (List_reply x) = refl
left-limit s role (Seen_call c) Crowded = refl
left-limit s role (Seen_call c) NoMemory = refl
left-limit s role (Seen_call c) (Reports_reply x) = refl
left-limit s role (Vouched c p) (Seen_reply seen) = refl
left-limit s role (Vouched c p) (Gone_reply x) = refl
left-limit s role (Vouched c p) (List_reply x) = refl
left-limit s role (Vouched c p) (Reports_reply x) = refl
left-limit s role (Vouched c p) Crowded = refl
left-limit s role (Vouched c p) NoMemory = refl
left-limit s role (Failed c) (Gone_reply gone) = refl
left-limit s role (Failed c) (Seen_reply x) = refl
left-limit s role (Failed c) (List_reply x) = refl
left-limit s role (Failed c) (Reports_reply x) = refl
left-limit s role (Failed c) Crowded = refl
left-limit s role (Failed c) NoMemory = refl
left-limit s role (Closest target n) x = refl
left-limit s role (Vouchers target n) x = refl

-- no call changes the limit
pub run-limit : (s : TableState) (run : List (Made TableCall TableReply)) → (left_by table_after s run).per_address ≡ s.per_address
run-limit s [] = refl
run-limit s (e ∷ run) = run-limit (table_after s e.role e.call e.reply) run ∙ left-limit s e.role e.call e.reply

pub few-of-a-host : (own : Id) (k b n : ℕ) (run : List (Made TableCall TableReply)) → 0 < k → k ≤ 20 → 0 < b → b ≤ 5 → IsRun TableMay TableStep table_after (limited_table own k b n) run → HasFew n (held_in (left_by table_after (limited_table own k b n) run))
few-of-a-host own k b n run some few_k bits few_bits is =
    let s = limited_table own k b n in
    subst (λ (m : ℕ). HasFew m (held_in (left_by table_after s run))) (run-limit s run)
    (run-few s run (limited-sound own k b n some few_k bits few_bits) is (none-held n (held_in s) (nobody own k b n)))
