-- A table that was told of usable contacts has usable contacts alone.
use Rattle.std.proofs.Common.{◌≡◌, ◌≢◌, ℕ, ◌+◌, ◌<◌, List, [], ◌∷◌, ◌++◌, length, take, get_or, refl, sym, ap, subst, ◌∙◌, inl, inr}
use Rattle.std.specs.Prelude.{map}
use Rattle.std.specs.List.{All, Contains}
use Rattle.std.proofs.lemmas.List.{map-append, take_more}
use Rattle.std.proofs.lemmas.List.Concat.{flat_map-cons}
use Rattle.std.proofs.lemmas.List.Elements.{All-append, All-cons, All-nil, All-contains}
use Rattle.kad_base.specs.declared.types.Id.{Id}
use Rattle.kad_base.specs.declared.types.Contact.{Contact}
use Rattle.kad_base.specs.declared.serial.Made.{Made}
use Rattle.kad_base.specs.Contacts.{IsUsable}
use Rattle.kad_base.specs.Serial.{left_by, IsRun, made}
use Rattle.contact_table.specs.declared.calls.TableCall.{TableCall}
use Rattle.contact_table.specs.declared.calls.TableCall.TheVariants.{Seen as Seen_call, Vouched, Failed}
use Rattle.contact_table.specs.declared.calls.TableReply.{TableReply}
use Rattle.contact_table.specs.declared.calls.TableReply.TheVariants.{Seen as Seen_reply, Gone as Gone_reply, NoMemory}
use Rattle.contact_table.specs.TableState.{TableState}
use Rattle.contact_table.specs.TableStep.{TableMay, TableStep, table_after, contacts_of}
use Rattle.contact_table.specs.Told.{limited_table, told_by, told_in as contacts_in}
use Rattle.contact_table.proofs.Holding.{since-limited}
use Rattle.lookup_run.specs.Lookup.{Told, told_in, TableTold, IsWithinLimits}
use Rattle.node_serve.specs.AnswerOf.{IsSeen}
use Rattle.command_base.specs.Started.{seen_call, look_of, IsInRange}
use Rattle.kad_base.specs.declared.types.Family.{Family}
use Rattle.kad_base.specs.declared.types.Report.{Report}
use Rattle.kad_base.specs.declared.types.Policy.{Policy}
use Rattle.lookup_core.specs.declared.quest.AskKind.{AskKind}
use Rattle.kad_words.specs.declared.command.LookWords.{LookWords}
use Rattle.command_base.specs.Input.{Admits}

-- ---- one run after another

run_then : (s : TableState) (run more : List (Made TableCall TableReply)) → IsRun TableMay TableStep table_after s run → IsRun TableMay TableStep table_after (left_by table_after s run) more
    → IsRun TableMay TableStep table_after s (run ++ more)
run_then s [] more a b = b
run_then s (e ∷ run) more a b = (a.0, a.1, run_then (table_after s e.role e.call e.reply) run more a.2 b)

left_then : (s : TableState) (run more : List (Made TableCall TableReply)) → left_by table_after s (run ++ more) ≡ left_by table_after (left_by table_after s run) more
left_then s [] more = refl
left_then s (e ∷ run) more = left_then (table_after s e.role e.call e.reply) run more

pub told_then : (calls more : List Told) (t u v : TableState) → TableTold calls t u → TableTold more u v → TableTold (calls ++ more) t v
told_then calls more t u v a b = record {
  run = a.run ++ b.run;
  is_run = run_then t a.run b.run a.is_run (subst (λ (s : TableState). IsRun TableMay TableStep table_after s b.run) a.leaves b.is_run);
  leaves = b.leaves ∙ ap (λ (s : TableState). left_by table_after s b.run) a.leaves ∙ sym (left_then t a.run b.run);
  calls_are = map-append told_in a.run b.run ∙ ap (λ (l : List Told). l ++ map told_in b.run) a.calls_are ∙ ap (λ (l : List Told). calls ++ l) b.calls_are;
  kept = All-append (λ (m : Made TableCall TableReply). m.reply ≢ NoMemory) a.run b.run a.kept b.kept;
}

pub told_none : (t u : TableState) → u ≡ t → TableTold [] t u
told_none t u same = record { run = []; is_run = tt; leaves = same; calls_are = refl; kept = All-nil (λ (m : Made TableCall TableReply). m.reply ≢ NoMemory) }

told_one : (c : Contact) (t u : TableState) → IsSeen c t u → TableTold (seen_call c ∷ []) t u
told_one c t u h = record {
  run = made 0 (Seen_call c) h.reply ∷ [];
  is_run = (tt, h.step, tt);
  leaves = h.leaves;
  calls_are = refl;
  kept = All-cons (λ (m : Made TableCall TableReply). m.reply ≢ NoMemory) (made 0 (Seen_call c) h.reply) [] h.kept (All-nil (λ (m : Made TableCall TableReply). m.reply ≢ NoMemory));
}

-- one contact more
pub told_more : (cs : List Contact) (i : ℕ) (c : Contact) (t u v : TableState) → i < length cs → TableTold (map seen_call (take i cs)) t u → IsSeen (get_or cs i c) u v → TableTold (map seen_call (take (i + 1) cs)) t v
told_more cs i c t u v lt a b =
    subst (λ (l : List Told). TableTold l t v) (sym (map-append seen_call (take i cs) (get_or cs i c ∷ [])) ∙ ap (map seen_call) (sym (take_more cs i c lt)))
    (told_then (map seen_call (take i cs)) (seen_call (get_or cs i c) ∷ []) t u v a (told_one (get_or cs i c) u v b))

-- ---- whose table it is

own_after : (s : TableState) (role : ℕ) (call : TableCall) (reply : TableReply) → (table_after s role call reply).own ≡ s.own
own_after s role (Seen_call c) (Seen_reply seen) = refl
own_after s role (Vouched c proof) (Seen_reply seen) = refl
own_after s role (Failed c) (Gone_reply gone) = refl
own_after s role call reply = refl

own_left : (s : TableState) (run : List (Made TableCall TableReply)) → (left_by table_after s run).own ≡ s.own
own_left s [] = refl
own_left s (e ∷ run) = own_left (table_after s e.role e.call e.reply) run ∙ own_after s e.role e.call e.reply

pub own_told : (calls : List Told) (t u : TableState) → TableTold calls t u → u.own ≡ t.own
own_told calls t u h = ap (λ (s : TableState). s.own) h.leaves ∙ own_left t h.run

-- ---- what the table has

-- the run of these calls tells of these contacts
told_contacts : (run : List (Made TableCall TableReply)) (cs : List Contact) → map told_in run ≡ map seen_call cs → told_by run ≡ cs
told_contacts [] [] e = refl
told_contacts [] (c ∷ cs) e = absurd cc
told_contacts (m ∷ run) [] e = absurd cc
told_contacts (m ∷ run) (c ∷ cs) e =
    let first : told_in m ≡ seen_call c = cc in
    let rest : map told_in run ≡ map seen_call cs = cc in
    flat_map-cons (λ (e : Made TableCall TableReply). contacts_in e.call) m run
    ∙ ap (λ (t : Told). contacts_in t.call ++ told_by run) first ∙ ap (λ (l : List Contact). c ∷ l) (told_contacts run cs rest)

pub usable_told : (own : Id) (k b n : ℕ) (cs : List Contact) (t : TableState) → All (IsUsable own) cs → TableTold (map seen_call cs) (limited_table own k b n) t → All (IsUsable own) (contacts_of t)
usable_told own k b n cs t usable h i d lt =
    let held : Contains cs (get_or (contacts_of t) i d) =
    subst (λ (l : List Contact). Contains l (get_or (contacts_of t) i d)) (told_contacts h.run cs h.calls_are)
    (subst (λ (s : TableState). All (Contains (told_by h.run)) (contacts_of s)) (sym h.leaves) (since-limited own k b n h.run) i d lt) in
    All-contains (IsUsable own) cs _ usable held

pub admits_usable : (own : Id) (family : Family) (policy : Policy) (rs : List Report) (cs : List Contact) → Admits own family policy rs cs → All (IsUsable own) cs
admits_usable own family policy [] cs h = subst (All (IsUsable own)) (sym h) (All-nil (IsUsable own))
admits_usable own family policy (r ∷ rs) cs h =
    elim h [
      | inl a ↦ subst (All (IsUsable own)) (sym a.1) (All-cons (IsUsable own) r.contact a.0 a.2.0 (admits_usable own family policy rs a.0 a.3))
      | inr b ↦ admits_usable own family policy rs cs b.1
    ]

pub within_limits : (kind : AskKind) (look : LookWords) (random : List ℕ) → IsInRange look → IsWithinLimits (look_of kind look random)
within_limits kind look random h = record { few = h.few_live; some_path = h.some_path; few_paths = h.few_paths; some_query = h.some_query; few_queries = h.few_queries }
