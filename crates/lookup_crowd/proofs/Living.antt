-- A lookup from where it began: its entries since, and what the table was told for it.
use Rattle.std.proofs.Common.{◌≡◌, List, [], ◌∷◌, ◌++◌, true, refl, sym, ap, subst, ◌∙◌, All}
use Rattle.std.specs.List.{flat_map}
use Rattle.std.proofs.lemmas.List.{append-nil, append_assoc, map-append}
use Rattle.std.proofs.lemmas.List.Elements.{All-nil, All-head, All-tail, All-append, filter_passes}
use Rattle.std.proofs.lemmas.List.Concat.{flat_map-append}
use Rattle.kad_base.specs.declared.types.Contact.{Contact}
use Rattle.kad_base.specs.declared.serial.Made.{Made}
use Rattle.turn_book.specs.Turns.{PassState, mine}
use Rattle.contact_table.specs.Told.{HasMemory, calls_in, seen_calls}
use Rattle.contact_table.specs.declared.calls.TableCall.{TableCall}
use Rattle.contact_table.specs.declared.calls.TableCall.TheVariants.{Seen}
use Rattle.contact_table.specs.declared.calls.TableReply.{TableReply}
use Rattle.claim_book.specs.declared.types.Entry.{Entry}
use Rattle.claim_book.specs.declared.types.Entry.TheVariants.{Seed, Ask, Heard, Lost, Note, Taken, Held, Turned, Rejected, Skipped}
use Rattle.claim_book.specs.Journal.{seed_of, seeds}
use Rattle.serve_crew.specs.Hands.{SamePass}
use Rattle.lookup_core.proofs.Received.{seeds_append}
use Rattle.lookup_core.specs.declared.quest.Quest.{Quest}
use Rattle.lookup_crowd.specs.declared.seeker.Seeker.{Seeker}
use Rattle.lookup_crowd.specs.Mine.{is_driven, driven}
use Rattle.lookup_crowd.specs.Errands.{note_of, noted}
use Rattle.lookup_crowd.specs.inner.Crowd.{Longer, DrivenOn, SameSeat}
use Rattle.lookup_crowd.specs.inner.ManySteps.{SettlesSome, SettlesWhole}
use Rattle.lookup_crowd.specs.inner.Going.{Lives, Goes}

-- ---- entries of the driver alone

all_driven : (K : List Entry) → driven K ≡ K → All (λ (e : Entry). is_driven e ≡ true) K
unfolding driven
all_driven K e = subst (All (λ (x : Entry). is_driven x ≡ true)) e (filter_passes is_driven K)

no_note : (e : Entry) → is_driven e ≡ true → note_of e ≡ []
no_note (Seed p c) h = absurd cc
no_note (Ask p c) h = refl
no_note (Heard p c reports) h = refl
no_note (Lost p c cause) h = refl
no_note (Note p c) h = absurd cc
no_note (Taken p c) h = refl
no_note (Held p c q) h = refl
no_note (Turned p c) h = refl
no_note (Rejected p r) h = refl
no_note (Skipped p r) h = refl

no_seed : (e : Entry) → is_driven e ≡ true → seed_of e ≡ []
no_seed (Seed p c) h = absurd cc
no_seed (Ask p c) h = refl
no_seed (Heard p c reports) h = refl
no_seed (Lost p c cause) h = refl
no_seed (Note p c) h = refl
no_seed (Taken p c) h = refl
no_seed (Held p c q) h = refl
no_seed (Turned p c) h = refl
no_seed (Rejected p r) h = refl
no_seed (Skipped p r) h = refl

none_of : {B : Type 0} (f : Entry → List B) → ((e : Entry) → is_driven e ≡ true → f e ≡ []) → (K : List Entry) → All (λ (e : Entry). is_driven e ≡ true) K → flat_map f K ≡ []
none_of f h [] all = refl
none_of f h (e ∷ K) all = ap (λ l. l ++ flat_map f K) (h e (All-head (λ (x : Entry). is_driven x ≡ true) e K all)) ∙ none_of f h K (All-tail (λ (x : Entry). is_driven x ≡ true) e K all)

driven_notes : (K : List Entry) → driven K ≡ K → noted K ≡ []
driven_notes K e = none_of note_of no_note K (all_driven K e)

driven_seeds : (K : List Entry) → driven K ≡ K → seeds K ≡ []
unfolding seeds
driven_seeds K e = none_of seed_of no_seed K (all_driven K e)

no_seeds_both : (J K : List Entry) → seeds J ≡ [] → seeds K ≡ [] → seeds (J ++ K) ≡ []
no_seeds_both J K a b = seeds_append J K ∙ ap (λ l. l ++ seeds K) a ∙ b

-- ---- a lookup

pub same_pass : (old new : Seeker) → SameSeat old new → SamePass old.pass new.pass
same_pass old new e = record { turn = ap (λ (p : PassState TableCall TableReply). p.turn) e; role = ap (λ (p : PassState TableCall TableReply). p.role) e }

pub lives_driven : (old new : Seeker) → Longer old new → DrivenOn old new → SameSeat old new → Lives old new
lives_driven old new l d seat = record { quest = l.quest; setting = l.setting; more = d.more; journal = d.journal; no_seeds = driven_seeds d.more d.all_driven; gathered = l.gathered; same = same_pass old new seat }

pub goes_driven : (old new : Seeker) → Longer old new → DrivenOn old new → SameSeat old new → Goes old new
unfolding lives_driven
goes_driven old new l d seat = record {
  lives = lives_driven old new l d seat;
  told = [];
  grew = ap mine seat ∙ sym (append-nil (mine old.pass));
  calls = ap seen_calls (sym (driven_notes d.more d.all_driven));
  memory = All-nil (λ (m : Made TableCall TableReply). HasMemory m.reply);
}

pub lives_settled : (old new : Seeker) → SettlesSome old new → Lives old new
lives_settled old new s = record { quest = s.quest; setting = s.setting; more = s.more; journal = s.journal; no_seeds = s.no_seeds; gathered = λ is. s.gathered; same = s.same }

pub goes_settled : (old new : Seeker) → SettlesWhole old new → Goes old new
unfolding lives_settled
goes_settled old new s = record { lives = lives_settled old new s.some; told = s.told; grew = s.grew; calls = s.calls; memory = s.memory }

pub lives_same : (k : Seeker) → Lives k k
unfolding seeds
lives_same k = record { quest = refl; setting = refl; more = []; journal = sym (append-nil k.lookup.book.journal); no_seeds = refl; gathered = λ is. refl; same = record { turn = refl; role = refl } }

pub goes_same : (k : Seeker) → Goes k k
unfolding lives_same
goes_same k = record { lives = lives_same k; told = []; grew = sym (append-nil (mine k.pass)); calls = refl; memory = All-nil (λ (m : Made TableCall TableReply). HasMemory m.reply) }

pub lives_then : (a b c : Seeker) → Lives a b → Lives b c → Lives a c
lives_then a b c g h = record {
  quest = h.quest ∙ g.quest;
  setting = h.setting ∙ g.setting;
  more = g.more ++ h.more;
  journal = h.journal ∙ ap (λ J. J ++ h.more) g.journal ∙ append_assoc a.lookup.book.journal g.more h.more;
  no_seeds = no_seeds_both g.more h.more g.no_seeds h.no_seeds;
  gathered = λ is. h.gathered (ap (λ (q : Quest). q.kind) g.quest ∙ is) ∙ g.gathered is;
  same = record { turn = h.same.turn ∙ g.same.turn; role = h.same.role ∙ g.same.role };
}

seen_append : (cs ds : List Contact) → seen_calls (cs ++ ds) ≡ seen_calls cs ++ seen_calls ds
seen_append cs ds = map-append Seen cs ds

pub goes_then : (a b c : Seeker) → Goes a b → Goes b c → Goes a c
unfolding lives_then
goes_then a b c g h = record {
  lives = lives_then a b c g.lives h.lives;
  told = g.told ++ h.told;
  grew = h.grew ∙ ap (λ l. l ++ h.told) g.grew ∙ append_assoc (mine a.pass) g.told h.told;
  calls = map-append (λ (m : Made TableCall TableReply). m.call) g.told h.told ∙ ap (λ l. l ++ calls_in h.told) g.calls ∙ ap (λ l. seen_calls (noted g.lives.more) ++ l) h.calls
      ∙ sym (seen_append (noted g.lives.more) (noted h.lives.more)) ∙ ap seen_calls (sym (flat_map-append note_of g.lives.more h.lives.more));
  memory = All-append (λ (m : Made TableCall TableReply). HasMemory m.reply) g.told h.told g.memory h.memory;
}
