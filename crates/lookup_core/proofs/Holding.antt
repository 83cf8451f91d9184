-- The open contacts are those of the open queries, whatever comes.
use Rattle.std.proofs.Common.{◌≡◌, ℕ, suc, ◌^◌, ◌<◌, List, [], ◌∷◌, ◌++◌, take, drop, Bool, true, false, ◌||◌, inl, inr, sym, ap, subst, ◌∙◌, refl}
use Rattle.std.specs.Prelude.{map}
use Rattle.std.specs.List.{AllByRecursion, IsDistinct}
use Rattle.kad_base.specs.declared.types.Contact.{Contact}
use Rattle.kad_base.specs.Contacts.{same, among, without}
use Rattle.kad_base.proofs.Contacts.{same_itself}
use Rattle.query_book.specs.declared.Query.{Query}
use Rattle.claim_book.specs.declared.types.Cause.TheVariants.{WrongId, Error}
use Rattle.claim_book.specs.declared.types.Entry.{Entry}
use Rattle.claim_book.specs.Journal.{open_any}
use Rattle.claim_book.specs.Legal.{Legal}
use Rattle.claim_book.specs.Calls.{asker}
use Rattle.claim_book.specs.State.{BookState}
use Rattle.lookup_core.specs.declared.on_reply.Taken.{Taken}
use Rattle.lookup_core.specs.declared.quest.Quest.{Quest}
use Rattle.lookup_core.specs.Reply.{Reply}
use Rattle.lookup_core.specs.Reply as reply
use Rattle.lookup_core.specs.declared.state.Lookup.{Lookup}
use Rattle.lookup_core.specs.Matching.{ReplyGives}
use Rattle.lookup_core.specs.LookupSteps.{Holds, query_to, HearsAt}
use Rattle.lookup_core.proofs.Lists.{map_append, split_at}
use Rattle.lookup_core.proofs.Opens.{opens_heard, opens_lost, opens_distinct, without_one}

pub among_middle : (before : List Query) (q : Query) (behind : List Query) → among (map (λ (q : Query). q.contact) (before ++ q ∷ behind)) q.contact ≡ true
among_middle [] q behind = ap (λ b. b || among (map (λ (x : Query). x.contact) behind) q.contact) (same_itself q.contact)
among_middle (x ∷ before) q behind = either (same q.contact x.contact) (among (map (λ (q : Query). q.contact) (before ++ q ∷ behind)) q.contact) (among_middle before q behind)
  where
    either : (a b : Bool) → b ≡ true → (a || b) ≡ true
    either true b h = refl
    either false b h = h

pub all_dropped : (P : Query → Type 0) (before : List Query) (q : Query) (behind : List Query) → AllByRecursion P (before ++ q ∷ behind) → AllByRecursion P (before ++ behind)
all_dropped P [] q behind h = h.1
all_dropped P (x ∷ before) q behind h = (h.0, all_dropped P before q behind h.1)

-- what a reply gives closes one
pub closing_of : (quest : Quest) (J : List Entry) (c : Contact) (what : Reply) (e : Entry) → ReplyGives quest (query_to J c) what e → open_any (J ++ e ∷ []) ≡ without (open_any J) (c ∷ [])
closing_of quest J c (reply.Answer answer) e (inl own) = subst (λ x. open_any (J ++ x ∷ []) ≡ without (open_any J) (c ∷ [])) (sym own.1) (opens_heard (asker c J) J c _)
closing_of quest J c (reply.Answer answer) e (inr other) = subst (λ x. open_any (J ++ x ∷ []) ≡ without (open_any J) (c ∷ [])) (sym other.1) (opens_lost (asker c J) J c WrongId)
closing_of quest J c (reply.Error code) e is = subst (λ x. open_any (J ++ x ∷ []) ≡ without (open_any J) (c ∷ [])) (sym is) (opens_lost (asker c J) J c (Error code))

-- one of the open contacts is closed with its query
pub one_closed : (c : Contact) (J K : List Entry) (before behind old new : List Query) (q : Query) → q.contact ≡ c → old ≡ before ++ q ∷ behind → new ≡ before ++ behind → map (λ (x : Query). x.contact) old ≡ open_any J → IsDistinct same (open_any J) → open_any K ≡ without (open_any J) (c ∷ [])
    → map (λ (x : Query). x.contact) new ≡ open_any K
one_closed c J K before behind old new q is was closes opens distinct after =
    let cs = map (λ (x : Query). x.contact) before in
    let ds = map (λ (x : Query). x.contact) behind in
    let were : open_any J ≡ cs ++ c ∷ ds = sym opens ∙ ap (map (λ (x : Query). x.contact)) was ∙ map_append (λ (x : Query). x.contact) before (q ∷ behind) ∙ ap (λ x. cs ++ x ∷ ds) is in
    ap (map (λ (x : Query). x.contact)) closes ∙ map_append (λ (x : Query). x.contact) before behind
    ∙ sym (after ∙ ap (λ l. without l (c ∷ [])) were ∙ without_one c cs ds (subst (IsDistinct same) were distinct))

pub reply_holds : (quest : Quest) (place : ℕ) (r : Reply) (old new : Lookup) (out : Taken) → Holds old → Legal old.book.setting old.book.journal → HearsAt quest place r old new out → Holds new
reply_holds quest place r old new out holds legal h =
    let J = old.book.journal in
    let q = h.query in
    let before = take place old.queries in
    let behind = drop (suc place) old.queries in
    let was = split_at old.queries place q h.was_open in
    record {
      is_open = one_closed q.contact J new.book.journal before behind old.queries new.queries q refl was h.closes holds.is_open (opens_distinct old.book.setting J legal)
          (ap (λ (b : BookState). open_any b.journal) h.hears.hears.after ∙ closing_of quest J q.contact r h.hears.hears.entry h.hears.hears.gives);
      ids = subst (AllByRecursion (λ (q : Query). q.tx < 2 ^ 32)) (sym h.closes) (all_dropped (λ (q : Query). q.tx < 2 ^ 32) before q behind (subst (AllByRecursion (λ (q : Query). q.tx < 2 ^ 32)) was holds.ids));
    }
