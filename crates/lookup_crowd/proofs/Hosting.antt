-- What the node that serves has done: first the one, and then the other.
use Rattle.std.proofs.Common.{◌≡◌, ℕ, List, [], ◌∷◌, ◌++◌, Option, Some, None, refl, sym, ap, subst, ◌∙◌}
use Rattle.std.specs.Prelude.{map, filter, ◌<◌}
use Rattle.std.specs.List.{All, flat_map}
use Rattle.std.proofs.lemmas.List.Concat.{flat_map-append}
use Rattle.std.proofs.lemmas.List.Elements.{All-nil, All-append}
use Rattle.kad_base.specs.declared.types.Addr.{Addr}
use Rattle.kad_base.specs.declared.types.Contact.{Contact}
use Rattle.query_book.specs.declared.Query.{Query}
use Rattle.claim_book.specs.declared.types.Cause.TheVariants.{Timeout}
use Rattle.claim_book.specs.declared.types.Entry.{Entry}
use Rattle.claim_book.specs.declared.types.Entry.TheVariants.{Lost}
use Rattle.lookup_core.specs.declared.state.Lookup.{Lookup}
use Rattle.lookup_core.specs.Matching.{OpenQuery}
use Rattle.lookup_core.specs.Timeouts.{is_overdue, timed_out}
use Rattle.lookup_core.specs.LookupSteps.{LosesOldest}
use Rattle.lookup_core.proofs.Lists.{map_append}
use Rattle.lookup_core.proofs.Expiring.{Expiring as ExpiringOne, lost_so_far, none_expired, none_lost, oldest_expires, all_expired, closed_all}
use Rattle.node_serve.specs.declared.node.Answered.TheVariants as answered
use Rattle.node_serve.specs.declared.setting.ServeSetting.{ServeSetting}
use Rattle.node_serve.specs.Calls.{Did, HadMemory}
use Rattle.node_serve.specs.Sealing.{Tags}
use Rattle.serve_crew.specs.Hands.{Hands, SameHands, Grew}
use Rattle.serve_crew.specs.Serving.{Answers as ServeAnswers, TellsLost}
use Rattle.serve_crew.proofs.Growing.{grew_none, grew_more, same_none, same_more}
use Rattle.lookup_crowd.specs.declared.seeker.Seeker.{Seeker}
use Rattle.lookup_crowd.specs.Errands.{answering, losing, did_of, answer_in, loss_in}
use Rattle.lookup_crowd.specs.Many.{Owed, Owes}
use Rattle.lookup_crowd.specs.inner.Crowd.{Holding, opens, SameSeat, Ran}
use Rattle.lookup_crowd.specs.inner.ManySteps.{Answers, Expires, lapsed, owed_in, RanOn}

pub ran_none : (h : Hands) → Ran h h [] []
ran_none h = record { errands = []; grew = grew_none h; answers = refl; losses = refl; memory = All-nil HadMemory }

pub ran_then : (old mid new : Hands) (d : List Did) (l : List Contact) (d' : List Did) (l' : List Contact) → SameHands old mid → Ran old mid d l → Ran mid new d' l' → Ran old new (d ++ d') (l ++ l')
ran_then old mid new d l d' l' same a b = record {
  errands = a.errands ++ b.errands;
  grew = subst (Grew old new) (sym (map_append did_of a.errands b.errands)) (grew_more old mid new (map did_of a.errands) (map did_of b.errands) same a.grew b.grew);
  answers = flat_map-append answer_in a.errands b.errands ∙ ap (λ x. x ++ flat_map answer_in b.errands) a.answers ∙ ap (λ x. d ++ x) b.answers;
  losses = flat_map-append loss_in a.errands b.errands ∙ ap (λ x. x ++ flat_map loss_in b.errands) a.losses ∙ ap (λ x. l ++ x) b.losses;
  memory = All-append HadMemory d d' a.memory b.memory;
}

same_did : (did : List Did) → map did_of (map answering did) ≡ did
same_did [] = refl
same_did (d ∷ did) = ap (λ l. d ∷ l) (same_did did)

all_answers : (did : List Did) → flat_map answer_in (map answering did) ≡ did
all_answers [] = refl
all_answers (d ∷ did) = ap (λ l. d ∷ l) (all_answers did)

no_losses : (did : List Did) → flat_map loss_in (map answering did) ≡ []
no_losses [] = refl
no_losses (d ∷ did) = no_losses did

-- what was done for a foreign datagram
pub ran_answer : (old new : Hands) (did : List Did) → Grew old new did → All HadMemory did → Ran old new did []
ran_answer old new did grew memory = record { errands = map answering did; grew = subst (Grew old new) (sym (same_did did)) grew; answers = all_answers did; losses = no_losses did; memory = memory }

-- no reply was want of memory, where none is owed as where one is
pub had_memory : (tags : Tags) (server : ServeSetting) (from : Addr) (bytes : List ℕ) (at : ℕ) (did : List Did) (owed : Option Owed) → Owes tags server from bytes at did owed → All HadMemory did
had_memory tags server from bytes at did None owes = subst (All HadMemory) (sym owes.1) (All-nil HadMemory)
had_memory tags server from bytes at did (Some owed) owes = owes.1.memory

-- the table was told of one that was lost
ran_lost : (old new : Hands) (c : Contact) → TellsLost c old new → Ran old new [] (c ∷ [])
ran_lost old new c t = record { errands = losing c t.reply ∷ []; grew = t.grew; answers = refl; losses = refl; memory = All-nil HadMemory }

-- ---- a foreign datagram

pub replied : (tags : Tags) (server : ServeSetting) (from : Addr) (bytes : List ℕ) (at n : ℕ) (out : List ℕ) (old new : Hands) → ServeAnswers tags server from bytes at (answered.Reply n) out old new → SameHands old new → Answers tags server from bytes at (owed_in (Some n) from out) old new
replied tags server from bytes at n out old new h same = record { did = h.did; owes = (refl, h.answer.1); grew = h.grew; same = same }

-- there was no memory to go on
pub not_answered : (tags : Tags) (server : ServeSetting) (from : Addr) (bytes : List ℕ) (at : ℕ) (out : List ℕ) (old new : Hands) → ServeAnswers tags server from bytes at answered.NoMemory out old new → RanOn old new
not_answered tags server from bytes at out old new h = (h.did, h.grew)

-- nothing was done
pub ran_on_none : (h : Hands) → RanOn h h
ran_on_none h = ([], grew_none h)

-- ---- one lookup's overdue queries

-- whom entries lose
abbrev loss_of : Entry → List Contact
loss_of (Lost p c cause) = c ∷ []
loss_of other = []

losses_closed : (qs : List OpenQuery) → flat_map loss_of (map timed_out qs) ≡ map (λ (q : OpenQuery). q.contact) qs
losses_closed [] = refl
losses_closed (q ∷ qs) = ap (λ l. q.contact ∷ l) (losses_closed qs)

-- as far as the loop has come
pub record ExpiringBy (at : ℕ) (old now : Seeker) (h g : Hands) : Type 0 where
  pub one : ExpiringOne at old.lookup now.lookup
  pub quest : now.quest ≡ old.quest
  pub gathered : now.gathered ≡ old.gathered
  pub seat : SameSeat old now
  pub same : SameHands h g
  pub ran : Ran h g [] (flat_map loss_of (lost_so_far at old.lookup now.lookup one))

pub expires_none : (at : ℕ) (k : Seeker) (h : Hands) → Holding k → ExpiringBy at k k h h
expires_none at k h holds = record {
  one = none_expired at k.lookup holds;
  quest = refl;
  gathered = refl;
  seat = refl;
  same = same_none h;
  ran = subst (λ l. Ran h h [] (flat_map loss_of l)) (sym (none_lost at k.lookup holds)) (ran_none h);
}

pub expires_one : (at : ℕ) (c : Contact) (old now : Seeker) (after : Lookup) (h g k : Hands) → ExpiringBy at old now h g → LosesOldest at c now.lookup after → SameHands g k → TellsLost c g k → ExpiringBy at old (record now { lookup = after }) h k
expires_one at c old now after h g k x loses same told =
    let more = oldest_expires at c old.lookup now.lookup after x.one loses in
    let so_far = lost_so_far at old.lookup now.lookup x.one in
    record {
      one = more.expiring;
      quest = x.quest;
      gathered = x.gathered;
      seat = x.seat;
      same = same_more h g k x.same same;
      ran = subst (λ l. Ran h k [] (flat_map loss_of l)) (sym more.lost) (subst (Ran h k []) (sym (flat_map-append loss_of so_far (Lost more.path c Timeout ∷ [])))
          (ran_then h g k [] (flat_map loss_of so_far) [] (c ∷ []) x.same x.ran (ran_lost g k c told)));
    }

pub expires_all : (at : ℕ) (old now : Seeker) (h g : Hands) → ExpiringBy at old now h g → All (λ (q : Query). at < q.deadline) now.lookup.queries → Expires at old now
expires_all at old now h g x none = record { loses = all_expired at old.lookup now.lookup x.one none; quest = x.quest; gathered = x.gathered; holds = x.one.holds; seat = x.seat }

pub expires_ran : (at : ℕ) (old now : Seeker) (h g : Hands) → ExpiringBy at old now h g → All (λ (q : Query). at < q.deadline) now.lookup.queries → Ran h g [] (lapsed at old)
expires_ran at old now h g x none =
    let is : flat_map loss_of (lost_so_far at old.lookup now.lookup x.one) ≡ lapsed at old = ap (flat_map loss_of) (sym (closed_all at old.lookup now.lookup x.one none)) ∙ losses_closed (filter (is_overdue at) (opens old)) in
    subst (Ran h g []) is x.ran
