-- Who is lost to a refused send: from step to step, and in which steps nobody is.
use Rattle.std.proofs.Common.{◌≡◌, ℕ, ◌+◌, ◌≤◌, List, [], ◌∷◌, ◌++◌, length, inl, inr, refl, sym, ap, subst, ◌∙◌, arith}
use Rattle.std.specs.Prelude.{map}
use Rattle.std.proofs.lemmas.List.{append-nil, length-append}
use Rattle.std.proofs.lemmas.List.Concat.{flat_map-append}
use Rattle.kad_base.specs.declared.types.Contact.{Contact}
use Rattle.kad_base.specs.Outside.{Rose}
use Rattle.claim_book.specs.declared.types.Cause.TheVariants.{SendFault, WrongId, Error}
use Rattle.claim_book.specs.declared.types.Entry.{Entry}
use Rattle.claim_book.specs.declared.types.Entry.TheVariants.{Seed, Ask, Heard, Lost, Note, Taken, Held, Turned, Rejected, Skipped}
use Rattle.claim_book.specs.Legal.{seeded}
use Rattle.claim_book.proofs.Seeding.{AreSeeds, seeded_seeds}
use Rattle.claim_book.specs.State.{BookState, added}
use Rattle.lookup_core.specs.declared.quest.Quest.{Quest}
use Rattle.lookup_core.specs.Driven.{driven}
use Rattle.lookup_core.specs.Matching.{OpenQuery, ReplyGives}
use Rattle.lookup_core.specs.Reply.{Reply}
use Rattle.lookup_core.specs.Reply as reply
use Rattle.lookup_core.specs.Timeouts.{timed_out}
use Rattle.lookup_core.specs.SendFaults.{unsent_of, unsent, IsCounted, Refused, RefusedIn, Refuses}

-- ---- counts

pub both_counted : (m n a b c : ℕ) → b ≤ c → IsCounted m a b → IsCounted n b c → IsCounted (m + n) a c
both_counted m n a b c le (inl x) (inl y) = inl (omega (arith, x, y))
both_counted m n a b c le (inr full) k = inr (omega (arith, full, le))
both_counted m n a b c le h (inr full) = inr full

pub refused_then : (m n a b c : ℕ) → Refused m a b → Refused n b c → Refused (m + n) a c
refused_then m n a b c h k = record {
  counted = both_counted m n a b c k.no_less h.counted k.counted;
  none = λ e. k.none (omega (arith, e)) ∙ h.none (omega (arith, e));
  no_less = (let x = h.no_less in let y = k.no_less in omega (arith, x, y));
}

pub refused_none : (a : ℕ) → Refused 0 a a
refused_none a = record { counted = inl (omega arith); none = λ e. refl; no_less = omega arith }

one_counted : (a b : ℕ) → Rose a b → IsCounted 1 a b
one_counted a b (inl less) = inl (omega (arith, less))
one_counted a b (inr full) = inr full

refused_one : (a b : ℕ) → a ≤ b → Rose a b → Refused 1 a b
refused_one a b le rose = record { counted = one_counted a b rose; none = λ e. absurd (omega (arith, e)); no_less = le }

-- ---- from journal to journal

pub refuses_none : (J K : List Entry) (a b : ℕ) → unsent K ≡ unsent J → b ≡ a → Refuses J K a b
refuses_none J K a b same is = record {
  number = 0;
  more = (let e = ap length same in omega (arith, e));
  refused = subst (λ n. Refused 0 a n) (sym is) (refused_none a);
}

pub refuses_then : (J K L : List Entry) (a b c : ℕ) → Refuses J K a b → Refuses K L b c → Refuses J L a c
refuses_then J K L a b c h k = record {
  number = h.number + k.number;
  more = (let x = h.more in let y = k.more in omega (arith, x, y));
  refused = refused_then h.number k.number a b c h.refused k.refused;
}

-- behind a journal that has lost so many
pub refused_more : (J K : List Entry) (a b c : ℕ) → RefusedIn J a b → Refuses J K b c → RefusedIn K a c
refused_more J K a b c h k = subst (λ n. Refused n a c) (sym k.more) (refused_then (length (unsent J)) k.number a b c h k.refused)

-- ---- a query

pub unsent_append : (J K : List Entry) → unsent (J ++ K) ≡ unsent J ++ unsent K
unfolding unsent
unsent_append J K = flat_map-append unsent_of J K

asked_none : (p : ℕ) (c : Contact) → unsent (Ask p c ∷ []) ≡ []
unfolding unsent
asked_none p c = refl

lost_one : (p : ℕ) (c : Contact) → unsent (Lost p c SendFault ∷ []) ≡ c ∷ []
unfolding unsent
lost_one p c = refl

pub refuses_sent : (p : ℕ) (c : Contact) (old new : BookState) (a b : ℕ) → new ≡ added old (Ask p c) → b ≡ a → Refuses old.journal new.journal a b
refuses_sent p c old new a b is same =
    refuses_none old.journal new.journal a b
    (ap (λ (x : BookState). unsent x.journal) is ∙ unsent_append old.journal (Ask p c ∷ []) ∙ ap (λ l. unsent old.journal ++ l) (asked_none p c) ∙ append-nil (unsent old.journal)) same

refuses_lost : (p : ℕ) (c : Contact) (mid new : BookState) (a b : ℕ) → new ≡ added mid (Lost p c SendFault) → a ≤ b → Rose a b → Refuses mid.journal new.journal a b
refuses_lost p c mid new a b is le rose = record {
  number = 1;
  more = ap (λ (x : BookState). length (unsent x.journal)) is ∙ ap length (unsent_append mid.journal (Lost p c SendFault ∷ []) ∙ ap (λ l. unsent mid.journal ++ l) (lost_one p c)) ∙ length-append (unsent mid.journal) (c ∷ []);
  refused = refused_one a b le rose;
}

pub refuses_unsent : (p q : ℕ) (c d : Contact) (old mid new : BookState) (a b : ℕ) → mid ≡ added old (Ask p c) → new ≡ added mid (Lost q d SendFault) → a ≤ b → Rose a b → Refuses old.journal new.journal a b
refuses_unsent p q c d old mid new a b asks loses le rose = refuses_then old.journal mid.journal new.journal a a b (refuses_sent p c old mid a a asks refl) (refuses_lost q d mid new a b loses le rose)

-- ---- what begins, and what is overdue

pub unsent_all : (J : List Entry) → AreSeeds J → unsent J ≡ []
unfolding unsent
unsent_all [] h = refl
unsent_all (Seed q c ∷ J) h = unsent_all J h.1
unsent_all (x ∷ J) h = absurd h.0

pub unsent_seeded : (limit paths : ℕ) (cs : List Contact) → unsent (seeded limit paths cs) ≡ []
unsent_seeded limit paths cs = unsent_all (seeded limit paths cs) (seeded_seeds limit paths cs)

-- nobody was lost so where a lookup begins
pub refused_seeded : (limit paths : ℕ) (cs : List Contact) (sends : ℕ) → RefusedIn (seeded limit paths cs) sends sends
refused_seeded limit paths cs sends = subst (λ l. Refused (length l) sends sends) (sym (unsent_seeded limit paths cs)) (refused_none sends)

unsent_closed : (qs : List OpenQuery) → unsent (map timed_out qs) ≡ []
unfolding unsent
unsent_closed [] = refl
unsent_closed (q ∷ qs) = unsent_closed qs

-- entries that end a query, none of which is a refused send, and then those of what is overdue
pub unsent_left : (J first : List Entry) (qs : List OpenQuery) → unsent first ≡ [] → unsent (J ++ (first ++ map timed_out qs)) ≡ unsent J
unsent_left J first qs none =
    unsent_append J (first ++ map timed_out qs) ∙ ap (λ l. unsent J ++ l) (unsent_append first (map timed_out qs) ∙ ap (λ l. l ++ unsent (map timed_out qs)) none ∙ unsent_closed qs) ∙ append-nil (unsent J)

-- what is overdue alone
pub unsent_late : (J : List Entry) (qs : List OpenQuery) → unsent (J ++ map timed_out qs) ≡ unsent J
unsent_late J qs = unsent_append J (map timed_out qs) ∙ ap (λ l. unsent J ++ l) (unsent_closed qs) ∙ append-nil (unsent J)

-- ---- what a reply gives, and what no event does

heard_unsent : (p : ℕ) (c : _) (reports : _) → unsent (Heard p c reports ∷ []) ≡ []
unfolding unsent
heard_unsent p c reports = refl

wrong_unsent : (p : ℕ) (c : _) → unsent (Lost p c WrongId ∷ []) ≡ []
unfolding unsent
wrong_unsent p c = refl

error_unsent : (p : ℕ) (c : _) (code : _) → unsent (Lost p c (Error code) ∷ []) ≡ []
unfolding unsent
error_unsent p c code = refl

reply_unsent : (quest : Quest) (q : OpenQuery) (what : Reply) (e : Entry) → ReplyGives quest q what e → unsent (e ∷ []) ≡ []
reply_unsent quest q (reply.Answer answer) e (inl own) = subst (λ x. unsent (x ∷ []) ≡ []) (sym own.1) (heard_unsent q.path q.contact _)
reply_unsent quest q (reply.Answer answer) e (inr other) = subst (λ x. unsent (x ∷ []) ≡ []) (sym other.1) (wrong_unsent q.path q.contact)
reply_unsent quest q (reply.Error code) e is = subst (λ x. unsent (x ∷ []) ≡ []) (sym is) (error_unsent q.path q.contact code)

pub unsent_replied : (J : List Entry) (quest : Quest) (q : OpenQuery) (what : Reply) (e : Entry) → ReplyGives quest q what e → unsent (J ++ e ∷ []) ≡ unsent J
unsent_replied J quest q what e gives = unsent_append J (e ∷ []) ∙ ap (λ l. unsent J ++ l) (reply_unsent quest q what e gives) ∙ append-nil (unsent J)

-- no entry of the driver: nobody was lost
pub none_lost : (es : List Entry) → driven es ≡ [] → unsent es ≡ []
unfolding unsent driven
none_lost [] h = refl
none_lost (Ask p c ∷ es) h = absurd cc
none_lost (Heard p c reports ∷ es) h = absurd cc
none_lost (Lost p c cause ∷ es) h = absurd cc
none_lost (Seed p c ∷ es) h = none_lost es h
none_lost (Note p c ∷ es) h = none_lost es h
none_lost (Taken p c ∷ es) h = none_lost es h
none_lost (Held p c by ∷ es) h = none_lost es h
none_lost (Turned p c ∷ es) h = none_lost es h
none_lost (Rejected p r ∷ es) h = none_lost es h
none_lost (Skipped p r ∷ es) h = none_lost es h

pub unsent_quiet : (J es : List Entry) → driven es ≡ [] → unsent (J ++ es) ≡ unsent J
unsent_quiet J es none = unsent_append J es ∙ ap (λ l. unsent J ++ l) (none_lost es none) ∙ append-nil (unsent J)
