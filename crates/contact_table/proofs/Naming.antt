-- A new table that was told of contacts has one at least.
use Rattle.std.proofs.Common.{◌≡◌, ◌≢◌, ◌⊎◌, inl, inr, ℕ, ◌<◌, ◌≤◌, List, [], ◌∷◌, ◌++◌, length, Bool, true, false, cond, refl, sym, ap, subst, ◌∙◌, arith}
use Rattle.std.specs.Prelude.{◌↔◌}
use Rattle.std.specs.List.{All, Contains}
use Rattle.std.specs.Str.{bytes_eq}
use Rattle.std.proofs.lemmas.Map.Text.{is_eq-slice_cmp}
use Rattle.std.proofs.lemmas.List.Concat.{flat_map-cons}
use Rattle.std.proofs.lemmas.List.Elements.{All-head}
use Rattle.kad_base.specs.declared.types.Id.{Id}
use Rattle.kad_base.specs.declared.types.Contact.{Contact}
use Rattle.kad_base.specs.declared.serial.Made.{Made}
use Rattle.kad_base.specs.Limits.{max_siblings}
use Rattle.kad_base.specs.Serial.{IsRun, left_by}
use Rattle.kad_distance.specs.KClosest.{k_closest}
use Rattle.kad_distance.proofs.Chosen.{closest_nil, closest_none}
use Rattle.bucket_tree.specs.declared.types.Seen.{Seen}
use Rattle.bucket_tree.specs.declared.types.Seen.TheVariants.{Added, Moved, Spared, Conflict, Own}
use Rattle.bucket_tree.specs.Rows.{RowState, live_in, live_of}
use Rattle.bucket_tree.specs.BucketSteps.{knows_id, RowSeen, SeenStep, is_own, in_row, split}
use Rattle.bucket_tree.proofs.Ids.{same_id-exact}
use Rattle.sibling_list.specs.Siblings.{SiblingList, with_one}
use Rattle.contact_table.specs.declared.calls.TableCall.{TableCall}
use Rattle.contact_table.specs.declared.calls.TableCall.TheVariants.{Seen as Seen_call}
use Rattle.contact_table.specs.declared.calls.TableReply.{TableReply}
use Rattle.contact_table.specs.declared.calls.TableReply.TheVariants.{Seen as Seen_reply, Gone as Gone_reply, List as List_reply, Reports as Reports_reply, Crowded, NoMemory}
use Rattle.contact_table.specs.TableState.{TableState, siblings_of}
use Rattle.contact_table.specs.TableStep.{TableMay, TableStep, table_after, contacts_of, seen_siblings}
use Rattle.contact_table.specs.Told.{HasMemory, calls_in, replies_in, kept_in, held_in, limited_table, seen_calls}
use Rattle.contact_table.specs.Crowded.{IsCrowded}

-- ---- the first contact that a new table is told of is taken in

-- the one row of a new table
abbrev whole : RowState
whole = record { prefix = []; live = []; spares = [] }

some-member : (f g : List RowState) (r : RowState) → [] ≡ f ++ r ∷ g → ⊥
some-member [] g r e = cc
some-member (x ∷ f) g r e = cc

alone : (f g : List RowState) (r x : RowState) → x ∷ [] ≡ f ++ r ∷ g → r ≡ x
alone [] g r x e = cc
alone (y ∷ f) g r x e = absurd (some-member f g r cc)

-- nobody is held, so no host is crowded
empty : (own : Id) (k b l : ℕ) → held_in (limited_table own k b l) ≡ []
empty own k b l = ap (λ (cs : List Contact). cs ++ []) (flat_map-cons kept_in whole [])

nothing : (cs : List Contact) → All (Contains []) cs → length cs ≡ 0
nothing [] a = refl
nothing (c ∷ cs) a = let has = All-head (Contains []) c cs a in let lt = has.1 in absurd (omega (arith, lt))

uncrowded : (own : Id) (k b l : ℕ) (c : Contact) → ¬ IsCrowded l (held_in (limited_table own k b l)) c
uncrowded own k b l c crowded =
    let none_held = nothing crowded.crowd (subst (λ (cs : List Contact). All (Contains cs) crowded.crowd) (empty own k b l) crowded.has.each) in
    let some = crowded.limited in
    let many = crowded.has.as_many in
    omega (arith, none_held, some, many)

abbrev IsTaken : Seen → Type 0
IsTaken Added = Unit {0}
IsTaken Moved = Unit {0}
IsTaken Spared = Unit {0}
IsTaken Conflict = ⊥
IsTaken Own = ⊥

row-takes : (k : ℕ) (c : Contact) (row after : RowState) (seen : Seen) → row ≡ whole → RowSeen k c row seen after → IsTaken seen
row-takes k c row after Added e t = tt
row-takes k c row after Moved e t = tt
row-takes k c row after Spared e t = tt
row-takes k c row after Own e t = t
row-takes k c row after Conflict e t =
    let unknown : knows_id row c.id ≡ false = ap (λ (r : RowState). knows_id r c.id) e in
    let known = t.1 in
    absurd cc

first-taken : (own : Id) (k b : ℕ) (c : Contact) (rows after : List RowState) (seen : Seen) → 0 < k → c.id ≢ own → rows ≡ whole ∷ [] → SeenStep own k b c rows seen after → IsTaken seen
first-taken own k b c rows after seen some other e (is_own o) = absurd (other (same_id-exact c.id own o))
first-taken own k b c rows after seen some other e (in_row f g row row' o r here w t q) = row-takes k c row row' seen (alone f g row whole (sym e ∙ r)) t
first-taken own k b c rows after seen some other e (split f g row o r here n t) =
    let full : k ≤ 0 = subst (λ (x : RowState). k ≤ length x.live) (alone f g row whole (sym e ∙ r)) n.full in
    absurd (omega (arith, some, full))

-- ---- and then it has a sibling for good

ended : (S : List Contact) (c : Contact) → S ++ c ∷ [] ≢ []
ended [] c e = cc
ended (x ∷ S) c e = cc

put-some : (s : SiblingList) (c : Contact) → (c.id ≢ s.own) ⊎ (s.list ≢ []) → with_one s c ≢ []
put-some s c either = go (bytes_eq c.id.0 s.own.0) (λ t. same_id-exact c.id s.own (is_eq-slice_cmp c.id.0 s.own.0 ∙ t))
  where
    go : (t : Bool) → (t ≡ true → c.id ≡ s.own) → cond t s.list (k_closest s.own max_siblings (s.list ++ c ∷ [])) ≢ []
    go true own e = elim either [ inl other ↦ other (own refl) | inr some ↦ some e ]
    go false own e = ended s.list c (closest_none s.own max_siblings (s.list ++ c ∷ []) e (omega arith))

first-some : (s : SiblingList) (c : Contact) (seen : Seen) → c.id ≢ s.own → IsTaken seen → seen_siblings s c seen ≢ []
first-some s c Added other t = put-some s c (inl other)
first-some s c Moved other t = put-some s c (inl other)
first-some s c Spared other t = put-some s c (inl other)
first-some s c Conflict other t = absurd t
first-some s c Own other t = absurd t

more-some : (s : SiblingList) (c : Contact) (seen : Seen) → s.list ≢ [] → seen_siblings s c seen ≢ []
more-some s c Added some = put-some s c (inr some)
more-some s c Moved some = put-some s c (inr some)
more-some s c Spared some = put-some s c (inr some)
more-some s c Conflict some = some
more-some s c Own some = some

step-some : (s : TableState) (role : ℕ) (c : Contact) (x : TableReply) → s.siblings ≢ [] → (table_after s role (Seen_call c) x).siblings ≢ []
step-some s role c (Seen_reply seen) some = more-some (siblings_of s) c seen some
step-some s role c (Gone_reply gone) some = some
step-some s role c (List_reply list) some = some
step-some s role c (Reports_reply reports) some = some
step-some s role c Crowded some = some
step-some s role c NoMemory some = some

run-some : (s : TableState) (cs : List Contact) (run : List (Made TableCall TableReply)) → s.siblings ≢ [] → calls_in run ≡ seen_calls cs → (left_by table_after s run).siblings ≢ []
run-some s cs [] some e = some
run-some s [] (m ∷ run) some e = absurd cc
run-some s (c ∷ cs) (m ∷ run) some e =
    let first : m.call ≡ Seen_call c = cc in
    let rest : calls_in run ≡ seen_calls cs = cc in
    run-some (table_after s m.role m.call m.reply) cs run (subst (λ (call : TableCall). (table_after s m.role call m.reply).siblings ≢ []) (sym first) (step-some s m.role c m.reply some)) rest

begins-some : (own : Id) (k b l role : ℕ) (c : Contact) (x : TableReply) → 0 < k → c.id ≢ own → TableStep (limited_table own k b l) role (Seen_call c) x → HasMemory x → (table_after (limited_table own k b l) role (Seen_call c) x).siblings ≢ []
begins-some own k b l role c (Seen_reply seen) some other step memory = first-some (siblings_of (limited_table own k b l)) c seen other (first-taken own k b c (whole ∷ []) _ seen some other refl step.0)
begins-some own k b l role c (Gone_reply gone) some other step memory = absurd step
begins-some own k b l role c (List_reply list) some other step memory = absurd step
begins-some own k b l role c (Reports_reply reports) some other step memory = absurd step
begins-some own k b l role c Crowded some other step memory = absurd (uncrowded own k b l c step.1)
begins-some own k b l role c NoMemory some other step memory = absurd memory

-- ---- so it names some

no-calls : (run : List (Made TableCall TableReply)) → calls_in run ≡ [] → run ≡ []
no-calls [] e = refl
no-calls (m ∷ run) e = absurd cc

nobody : (own : Id) (k b l : ℕ) → contacts_of (limited_table own k b l) ≡ []
nobody own k b l = ap (λ (l : List Contact). l ++ []) (flat_map-cons live_in whole [])

some-back : (xs ys : List Contact) → ys ≢ [] → xs ++ ys ≢ []
some-back [] ys some e = some e
some-back (x ∷ xs) ys some e = cc

abbrev After : Id → ℕ → ℕ → ℕ → List (Made TableCall TableReply) → TableState
After own k b l run = left_by table_after (limited_table own k b l) run

told-some : (own : Id) (k b l : ℕ) (c : Contact) (cs : List Contact) (run : List (Made TableCall TableReply)) → 0 < k → c.id ≢ own → IsRun TableMay TableStep table_after (limited_table own k b l) run → calls_in run ≡ seen_calls (c ∷ cs) → All HasMemory (replies_in run) → (After own k b l run).siblings ≢ []
told-some own k b l c cs [] some other is e memory = absurd cc
told-some own k b l c cs (m ∷ run) some other is e memory =
    let first : m.call ≡ Seen_call c = cc in
    let rest : calls_in run ≡ seen_calls cs = cc in
    let step = subst (λ (call : TableCall). TableStep (limited_table own k b l) m.role call m.reply) first is.1 in
    let begun = begins-some own k b l m.role c m.reply some other step (All-head HasMemory m.reply (replies_in run) memory) in
    run-some (table_after (limited_table own k b l) m.role m.call m.reply) cs run (subst (λ (call : TableCall). (table_after (limited_table own k b l) m.role call m.reply).siblings ≢ []) (sym first) begun) rest

none-back : (own target : Id) (k b l n : ℕ) (cs : List Contact) (run : List (Made TableCall TableReply)) → 0 < k → 0 < n → All (λ (c : Contact). c.id ≢ own) cs → IsRun TableMay TableStep table_after (limited_table own k b l) run → calls_in run ≡ seen_calls cs → All HasMemory (replies_in run) → k_closest target n (contacts_of (After own k b l run)) ≡ [] → cs ≡ []
none-back own target k b l n [] run some more others is e memory none_ = refl
none-back own target k b l n (c ∷ cs) run some more others is e memory none_ =
    let s = After own k b l run in
    let kept = told-some own k b l c cs run some (All-head (λ (x : Contact). x.id ≢ own) c cs others) is e memory in
    absurd (some-back (live_of s.rows) s.siblings kept (closest_none target n (contacts_of s) none_ more))

none-told : (own target : Id) (k b l n : ℕ) (cs : List Contact) (run : List (Made TableCall TableReply)) → calls_in run ≡ seen_calls cs → cs ≡ [] → k_closest target n (contacts_of (After own k b l run)) ≡ []
none-told own target k b l n cs run e is =
    let empty = no-calls run (e ∙ ap seen_calls is) in
    ap (λ (r : List (Made TableCall TableReply)). k_closest target n (contacts_of (After own k b l r))) empty
    ∙ ap (k_closest target n) (nobody own k b l)
    ∙ closest_nil target n

pub names-none : (own target : Id) (k b l n : ℕ) (cs : List Contact) (run : List (Made TableCall TableReply)) → 0 < k → 0 < n → All (λ (c : Contact). c.id ≢ own) cs → IsRun TableMay TableStep table_after (limited_table own k b l) run → calls_in run ≡ seen_calls cs → All HasMemory (replies_in run) → (k_closest target n (contacts_of (After own k b l run)) ≡ []) ↔ (cs ≡ [])
names-none own target k b l n cs run some more others is e memory = (none-back own target k b l n cs run some more others is e memory, none-told own target k b l n cs run e)
