-- One receive, whoever drives the lookup: what it leaves of the open queries, and what it adds to the journal.
use Rattle.std.proofs.Common.{◌≡◌, ℕ, ◌<◌, ◌≤◌, List, [], ◌∷◌, ◌++◌, length, Bool, true, false, not, ◌||◌, cond, inl, inr, refl, sym, ap, subst, arith}
use Rattle.std.specs.Prelude.{Contains, map, filter, nat_lt}
use Rattle.std.specs.List.{AllByRecursion}
use Rattle.std.proofs.lemmas.List.Concat.{flat_map-append}
use Rattle.std.proofs.lemmas.List.Elements.{filter-append}
use Rattle.kad_base.specs.declared.types.Contact.{Contact}
use Rattle.kad_base.specs.Contacts.{same, among}
use Rattle.query_book.specs.declared.Query.{Query}
use Rattle.claim_book.specs.declared.types.Cause.TheVariants.{WrongId, Error}
use Rattle.claim_book.specs.declared.types.Entry.{Entry}
use Rattle.claim_book.specs.declared.types.Entry.TheVariants.{Seed, Heard, Lost}
use Rattle.claim_book.specs.Journal.{ask_of, asked, seed_of, seeds}
use Rattle.claim_book.specs.Legal.{seeded}
use Rattle.claim_book.proofs.Seeding.{AreSeeds, seeded_seeds}
use Rattle.lookup_core.specs.declared.quest.Quest.{Quest}
use Rattle.lookup_core.specs.Driven.{is_driven, driven}
use Rattle.lookup_core.specs.Matching.{OpenQuery, query_of, ReplyGives}
use Rattle.lookup_core.specs.Reply.{Reply}
use Rattle.lookup_core.specs.Reply as reply
use Rattle.lookup_core.specs.Timeouts.{timed_out, open_at}
use Rattle.lookup_core.specs.LookupSteps.{as_open, query_to}
use Rattle.lookup_core.proofs.Expiring.{late}
use Rattle.lookup_core.proofs.Lists.{in_cons, in_first, in_rest, none_in}

-- ---- what is overdue

pub open_still : (at : ℕ) (J : List Entry) (qs : List Query) → open_at at (map (as_open J) qs) ≡ map (as_open J) (filter (λ (q : Query). nat_lt at q.deadline) qs)
open_still at J [] = refl
open_still at J (q ∷ qs) = pick (nat_lt at q.deadline) (open_still at J qs)
  where
    pick : (b : Bool) → open_at at (map (as_open J) qs) ≡ map (as_open J) (filter (λ (q : Query). nat_lt at q.deadline) qs)
        → cond (not (not b)) (as_open J q ∷ open_at at (map (as_open J) qs)) (open_at at (map (as_open J) qs)) ≡ map (as_open J) (cond b (q ∷ filter (λ (q : Query). nat_lt at q.deadline) qs) (filter (λ (q : Query). nat_lt at q.deadline) qs))
    pick true h = ap (λ l. as_open J q ∷ l) h
    pick false h = h

pub all_still : (P : Query → Type 0) (at : ℕ) (qs : List Query) → AllByRecursion P qs → AllByRecursion P (filter (λ (q : Query). nat_lt at q.deadline) qs)
all_still P at [] h = tt
all_still P at (q ∷ qs) h =
    elim (nat_lt at q.deadline) as (λ b. AllByRecursion P (cond b (q ∷ filter (λ (q : Query). nat_lt at q.deadline) qs) (filter (λ (q : Query). nat_lt at q.deadline) qs))) [
      | true ↦ (h.0, all_still P at qs h.1)
      | false ↦ all_still P at qs h.1
    ]

pub fewer_still : (at : ℕ) (qs : List Query) → length (filter (λ (q : Query). nat_lt at q.deadline) qs) ≤ length qs
fewer_still at [] = omega arith
fewer_still at (q ∷ qs) =
    let rest = fewer_still at qs in
    elim (nat_lt at q.deadline) as (λ b. length (cond b (q ∷ filter (λ (q : Query). nat_lt at q.deadline) qs) (filter (λ (q : Query). nat_lt at q.deadline) qs)) ≤ length (q ∷ qs)) [
      | true ↦ omega (arith, rest)
      | false ↦ omega (arith, rest)
    ]

pub one_less : (at d : ℕ) (qs : List Query) → Contains (map (λ (q : Query). q.deadline) qs) d → d ≤ at → length (filter (λ (q : Query). nat_lt at q.deadline) qs) < length qs
one_less at d [] has le = absurd (none_in d has)
one_less at d (q ∷ qs) has le =
    elim (in_cons q.deadline (map (λ (q : Query). q.deadline) qs) d has) [
      | inl is ↦
          let gone : nat_lt at q.deadline ≡ false = late at q.deadline (subst (λ n. n ≤ at) is le) in
          let few = fewer_still at qs in
          subst (λ b. length (cond b (q ∷ filter (λ (q : Query). nat_lt at q.deadline) qs) (filter (λ (q : Query). nat_lt at q.deadline) qs)) < length (q ∷ qs)) (sym gone) (omega (arith, few))
      | inr rest ↦
          let less = one_less at d qs rest le in
          elim (nat_lt at q.deadline) as (λ b. length (cond b (q ∷ filter (λ (q : Query). nat_lt at q.deadline) qs) (filter (λ (q : Query). nat_lt at q.deadline) qs)) < length (q ∷ qs)) [
            | true ↦ omega (arith, less)
            | false ↦ omega (arith, less)
          ]
    ]

pub among_still : (at : ℕ) (qs : List Query) (c : Contact) → among (map (λ (q : Query). q.contact) (filter (λ (q : Query). nat_lt at q.deadline) qs)) c ≡ true → among (map (λ (q : Query). q.contact) qs) c ≡ true
among_still at [] c h = h
among_still at (q ∷ qs) c h = pick (nat_lt at q.deadline) h (among_still at qs c)
  where
    pick : (b : Bool) → among (map (λ (q : Query). q.contact) (cond b (q ∷ filter (λ (q : Query). nat_lt at q.deadline) qs) (filter (λ (q : Query). nat_lt at q.deadline) qs))) c ≡ true
        → (among (map (λ (q : Query). q.contact) (filter (λ (q : Query). nat_lt at q.deadline) qs)) c ≡ true → among (map (λ (q : Query). q.contact) qs) c ≡ true)
        → (same c q.contact || among (map (λ (q : Query). q.contact) qs) c) ≡ true
    pick true h f = both (same c q.contact) (among (map (λ (q : Query). q.contact) (filter (λ (q : Query). nat_lt at q.deadline) qs)) c) (among (map (λ (q : Query). q.contact) qs) c) h f
      where
        both : (a b d : Bool) → (a || b) ≡ true → (b ≡ true → d ≡ true) → (a || d) ≡ true
        both true b d h f = refl
        both false b d h f = f h
    pick false h f = last (same c q.contact) (among (map (λ (q : Query). q.contact) qs) c) (f h)
      where
        last : (a b : Bool) → b ≡ true → (a || b) ≡ true
        last true b h = refl
        last false b h = h

pub still_in : (at : ℕ) (qs : List Query) (q : Query) → Contains (filter (λ (x : Query). nat_lt at x.deadline) qs) q → Contains qs q
still_in at [] q h = h
still_in at (x ∷ qs) q h = pick (nat_lt at x.deadline) (still_in at qs q) h
  where
    pick : (b : Bool) → (Contains (filter (λ (x : Query). nat_lt at x.deadline) qs) q → Contains qs q) → Contains (cond b (x ∷ filter (λ (x : Query). nat_lt at x.deadline) qs) (filter (λ (x : Query). nat_lt at x.deadline) qs)) q → Contains (x ∷ qs) q
    pick true rest h = elim (in_cons x (filter (λ (x : Query). nat_lt at x.deadline) qs) q h) [
      | inl e ↦ subst (λ y. Contains (x ∷ qs) y) (sym e) (in_first x qs)
      | inr k ↦ in_rest x qs q (rest k)
    ]
    pick false rest h = in_rest x qs q (rest h)

-- ---- the entries of the driver

pub driven_append : (J K : List Entry) → driven (J ++ K) ≡ driven J ++ driven K
unfolding driven
driven_append J K = filter-append is_driven J K

pub none_driven : driven [] ≡ []
unfolding driven
none_driven = refl

pub driven_closed : (qs : List OpenQuery) → driven (map timed_out qs) ≡ map timed_out qs
unfolding driven
driven_closed [] = refl
driven_closed (q ∷ qs) = ap (λ l. timed_out q ∷ l) (driven_closed qs)

pub seeds_closed : (qs : List OpenQuery) → seeds (map timed_out qs) ≡ []
unfolding seeds
seeds_closed [] = refl
seeds_closed (q ∷ qs) = seeds_closed qs

pub seeds_append : (J K : List Entry) → seeds (J ++ K) ≡ seeds J ++ seeds K
unfolding seeds
seeds_append J K = flat_map-append seed_of J K

-- a seed is none of the driver's
pub all_quiet : (J : List Entry) → AreSeeds J → driven J ≡ []
unfolding driven
all_quiet [] h = refl
all_quiet (Seed q c ∷ J) h = all_quiet J h.1
all_quiet (x ∷ J) h = absurd h.0

pub seeds_quiet : (limit paths : ℕ) (cs : List Contact) → driven (seeded limit paths cs) ≡ []
seeds_quiet limit paths cs = all_quiet (seeded limit paths cs) (seeded_seeds limit paths cs)

pub asks_closed : (qs : List OpenQuery) → asked (map timed_out qs) ≡ []
unfolding asked
asks_closed [] = refl
asks_closed (q ∷ qs) = asks_closed qs

pub asked_append : (J K : List Entry) → asked (J ++ K) ≡ asked J ++ asked K
unfolding asked
asked_append J K = flat_map-append ask_of J K

heard_driven : (p : ℕ) (c : Contact) (reports : _) → driven (Heard p c reports ∷ []) ≡ Heard p c reports ∷ []
unfolding driven
heard_driven p c reports = refl

lost_driven : (p : ℕ) (c : Contact) (cause : _) → driven (Lost p c cause ∷ []) ≡ Lost p c cause ∷ []
unfolding driven
lost_driven p c cause = refl

-- what a reply gives is the driver's
pub reply_driven : (quest : Quest) (q : OpenQuery) (what : Reply) (e : Entry) → ReplyGives quest q what e → driven (e ∷ []) ≡ e ∷ []
reply_driven quest q (reply.Answer answer) e (inl own) = subst (λ x. driven (x ∷ []) ≡ x ∷ []) (sym own.1) (heard_driven q.path q.contact _)
reply_driven quest q (reply.Answer answer) e (inr other) = subst (λ x. driven (x ∷ []) ≡ x ∷ []) (sym other.1) (lost_driven q.path q.contact WrongId)
reply_driven quest q (reply.Error code) e is = subst (λ x. driven (x ∷ []) ≡ x ∷ []) (sym is) (lost_driven q.path q.contact (Error code))

heard_asks : (p : ℕ) (c : _) (reports : _) → asked (Heard p c reports ∷ []) ≡ []
unfolding asked
heard_asks p c reports = refl

lost_asks : (p : ℕ) (c : _) (cause : _) → asked (Lost p c cause ∷ []) ≡ []
unfolding asked
lost_asks p c cause = refl

pub reply_asks : (quest : Quest) (q : OpenQuery) (what : Reply) (e : Entry) → ReplyGives quest q what e → asked (e ∷ []) ≡ []
reply_asks quest q (reply.Answer answer) e (inl own) = subst (λ x. asked (x ∷ []) ≡ []) (sym own.1) (heard_asks q.path q.contact _)
reply_asks quest q (reply.Answer answer) e (inr other) = subst (λ x. asked (x ∷ []) ≡ []) (sym other.1) (lost_asks q.path q.contact WrongId)
reply_asks quest q (reply.Error code) e is = subst (λ x. asked (x ∷ []) ≡ []) (sym is) (lost_asks q.path q.contact (Error code))

-- ---- the queries that stay

pub gives_of : (quest : Quest) (J : List Entry) (q : Query) (what : Reply) (e : Entry) → ReplyGives quest (query_to J q.contact) what e → ReplyGives quest (as_open J q) what e
gives_of quest J q (reply.Answer answer) e h = h
gives_of quest J q (reply.Error code) e h = h

pub among_dropped : (before : List Query) (q : Query) (behind : List Query) (c : Contact) → among (map (λ (q : Query). q.contact) (before ++ behind)) c ≡ true → among (map (λ (q : Query). q.contact) (before ++ q ∷ behind)) c ≡ true
among_dropped [] q behind c h = last (same c q.contact) (among (map (λ (q : Query). q.contact) behind) c) h
  where
    last : (a b : Bool) → b ≡ true → (a || b) ≡ true
    last true b h = refl
    last false b h = h
among_dropped (x ∷ before) q behind c h = both (same c x.contact) (among (map (λ (q : Query). q.contact) (before ++ behind)) c) (among (map (λ (q : Query). q.contact) (before ++ q ∷ behind)) c) h (among_dropped before q behind c)
  where
    both : (a b d : Bool) → (a || b) ≡ true → (b ≡ true → d ≡ true) → (a || d) ≡ true
    both true b d h f = refl
    both false b d h f = f h

pub in_wider : (before : List Query) (x : Query) (behind : List Query) (q : Query) → Contains (before ++ behind) q → Contains (before ++ x ∷ behind) q
in_wider [] x behind q h = in_rest x behind q h
in_wider (y ∷ before) x behind q h = elim (in_cons y (before ++ behind) q h) [
  | inl e ↦ subst (λ z. Contains (y ∷ (before ++ x ∷ behind)) z) (sym e) (in_first y (before ++ x ∷ behind))
  | inr rest ↦ in_rest y (before ++ x ∷ behind) q (in_wider before x behind q rest)
]

pub same_deadlines : (J : List Entry) (qs : List Query) → map (λ (q : OpenQuery). q.deadline) (map (as_open J) qs) ≡ map (λ (q : Query). q.deadline) qs
same_deadlines J [] = refl
same_deadlines J (q ∷ qs) = ap (λ l. q.deadline ∷ l) (same_deadlines J qs)

pub query_back : (J : List Entry) (qs : List Query) → map query_of (map (as_open J) qs) ≡ qs
query_back J [] = refl
query_back J (q ∷ qs) = ap (λ l. q ∷ l) (query_back J qs)
