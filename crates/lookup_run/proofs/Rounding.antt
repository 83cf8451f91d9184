-- One round of a lookup: asking, receiving and settling, one after another.
use Rattle.std.proofs.Common.{◌≡◌, ℕ, ◌+◌, ◌-◌, ◌*◌, ◌^◌, ◌<◌, List, [], length, Option, sym, ap, subst, ◌∙◌, arith}
use Rattle.kad_base.specs.declared.types.Event.{Event}
use Rattle.kad_base.specs.Limits.{max_strays}
use Rattle.id_puzzles.specs.Drawn.{WordsState}
use Rattle.claim_book.specs.Journal.{asked}
use Rattle.lookup_run.specs.declared.types.LookSetting.{LookSetting}
use Rattle.lookup_run.specs.declared.types.LookupState.{LookupState}
use Rattle.lookup_run.specs.Rounds.{Scheduling}
use Rattle.lookup_run.specs.inner.DriverInvariant.{max_asks, weight_of, PreservesBy}
use Rattle.lookup_run.specs.inner.RoundSteps.{Asks, ReceivesAll, SettlesPaths, Begins, HasReceived, RoundAlong, IsOver, Stops, StopsRound, EndsByStray, RoundEndsByStray, FewStrays, RoundFewStrays}
use Rattle.lookup_core.specs.SendFaults.{Refuses}
use Rattle.lookup_run.proofs.Early.{ended_after}
use Rattle.lookup_core.specs.Sealed.{Accepts}

pub round_over : (scheduling : Scheduling) (look : LookSetting) (accepts : Accepts) (words words' : WordsState) (old new : LookupState) (told told' : Option (List Event)) → Asks look 0 look.paths words words' old new told told' → new.lookup.queries ≡ [] → IsOver scheduling look accepts words words' old new told told'
round_over scheduling look accepts words words' old new told told' a none = record {
  keeps = a.keeps;
  none_open = none;
  settled = a.settled;
  none_asks = a.none_below;
  goes = a.goes look.paths accepts scheduling;
}

weight_same : (old new : LookupState) → length (asked new.lookup.book.journal) ≡ length (asked old.lookup.book.journal) → new.lookup.queries ≡ old.lookup.queries → new.progress ≡ old.progress → weight_of new ≡ weight_of old
weight_same old new asks queries progress =
    ap (λ n. 2 * (max_asks - n) + (length new.lookup.queries + (max_strays - new.progress.strays))) asks
    ∙ ap (λ l. 2 * (max_asks - length (asked old.lookup.book.journal)) + (length l + (max_strays - new.progress.strays))) queries
    ∙ ap (λ s. 2 * (max_asks - length (asked old.lookup.book.journal)) + (length old.lookup.queries + (max_strays - s.strays))) progress

pub has_received : (look : LookSetting) (accepts : Accepts) (words words' : WordsState) (a b c : LookupState) (t u v : Option (List Event)) → Asks look 0 look.paths words words' a b t u → ReceivesAll look accepts b c u v → HasReceived look accepts words words' a c t v
has_received look accepts words words' a b c t u v asks receives = record {
  keeps = receives.keeps;
  has_words = subst (λ n. words'.place < 2 ^ 59 + n) (sym receives.same_asks) asks.has_words;
  round_over = receives.round_over;
  lighter = (let x = asks.lighter in let y = receives.lighter in omega (arith, x, y));
  goes = λ scheduling start table began al. receives.goes words' look.paths look.paths scheduling start table began (asks.goes look.paths accepts scheduling start table began al);
}

pub round_more : (scheduling : Scheduling) (look : LookSetting) (accepts : Accepts) (words words' : WordsState) (a b c : LookupState) (t u : Option (List Event)) → HasReceived look accepts words words' a b t u → SettlesPaths scheduling look 0 look.paths b c u → RoundAlong scheduling look accepts words words' a c t u
round_more scheduling look accepts words words' a b c t u h settles = record {
  begins = record {
    keeps = settles.keeps;
    has_words = subst (λ n. words'.place < 2 ^ 59 + n) (sym settles.same_asks) h.has_words;
    round_over = ap (λ s. s.receives) settles.progress ∙ h.round_over;
    settled = settles.settled;
  };
  lighter = (let w = weight_same b c settles.same_asks settles.queries settles.progress in let x = h.lighter in omega (arith, w, x));
  goes = λ start table began al. settles.goes words' 0 accepts start table began (h.goes scheduling start table began al);
}

pub stops_receiving : (scheduling : Scheduling) (look : LookSetting) (accepts : Accepts) (words words' : WordsState) (a b c : LookupState) (t u v : Option (List Event)) → Asks look 0 look.paths words words' a b t u → Stops look accepts words' words' b c u v → (sends sends' : ℕ) → Refuses a.lookup.book.journal b.lookup.book.journal sends sends' → StopsRound scheduling look accepts words words' a c t v sends sends'
stops_receiving scheduling look accepts words words' a b c t u v asks stops sends sends' refuses start table began al =
    ended_after look accepts start table began words' c.table v a.lookup.book.journal b.lookup.book.journal sends sends' sends' refuses (stops scheduling start table began look.paths look.paths (asks.goes look.paths accepts scheduling start table began al) sends')

pub strays_receiving : (scheduling : Scheduling) (look : LookSetting) (accepts : Accepts) (words words' : WordsState) (a b : LookupState) (t u v : Option (List Event)) → Asks look 0 look.paths words words' a b t u → EndsByStray look accepts words' b u v → RoundEndsByStray scheduling look accepts words a t v
strays_receiving scheduling look accepts words words' a b t u v asks ends start table began al = ends scheduling start table began look.paths look.paths (asks.goes look.paths accepts scheduling start table began al)

pub stops_settling_round : (scheduling : Scheduling) (look : LookSetting) (accepts : Accepts) (words words' : WordsState) (a b c : LookupState) (t u : Option (List Event)) → HasReceived look accepts words words' a b t u → Stops look accepts words' words' b c u u → (sends sends' : ℕ) → Refuses a.lookup.book.journal b.lookup.book.journal sends sends' → StopsRound scheduling look accepts words words' a c t u sends sends'
stops_settling_round scheduling look accepts words words' a b c t u h stops sends sends' refuses start table began al =
    ended_after look accepts start table began words' c.table u a.lookup.book.journal b.lookup.book.journal sends sends' sends' refuses (stops scheduling start table began 0 0 (h.goes scheduling start table began al) sends')

-- ---- round after round

-- where the rounds so far have come to
pub record Rounding (scheduling : Scheduling) (look : LookSetting) (accepts : Accepts) (words words' : WordsState) (old new : LookupState) (told told' : Option (List Event)) : Type 0 where
  pub begins : Begins look words' new
  pub goes : PreservesBy scheduling look accepts words words' old new look.paths 0 look.paths 0 told told'

pub rounds_none : (scheduling : Scheduling) (look : LookSetting) (accepts : Accepts) (words : WordsState) (work : LookupState) (told : Option (List Event)) → Begins look words work → Rounding scheduling look accepts words words work work told told
rounds_none scheduling look accepts words work told b = record { begins = b; goes = λ start table began al. al }

pub rounds_then : (scheduling : Scheduling) (look : LookSetting) (accepts : Accepts) (w x y : WordsState) (a b c : LookupState) (t u v : Option (List Event)) → Rounding scheduling look accepts w x a b t u → RoundAlong scheduling look accepts x y b c u v → Rounding scheduling look accepts w y a c t v
rounds_then scheduling look accepts w x y a b c t u v h k = record { begins = k.begins; goes = λ start table began al. k.goes start table began (h.goes start table began al) }

pub rounds_over : (scheduling : Scheduling) (look : LookSetting) (accepts : Accepts) (w x y : WordsState) (a b c : LookupState) (t u v : Option (List Event)) → Rounding scheduling look accepts w x a b t u → IsOver scheduling look accepts x y b c u v → IsOver scheduling look accepts w y a c t v
rounds_over scheduling look accepts w x y a b c t u v h k = record {
  keeps = k.keeps;
  none_open = k.none_open;
  settled = k.settled;
  none_asks = k.none_asks;
  goes = λ start table began al. k.goes start table began (h.goes start table began al);
}

pub rounds_stop : (scheduling : Scheduling) (look : LookSetting) (accepts : Accepts) (w x y : WordsState) (a b c : LookupState) (t u v : Option (List Event)) → Rounding scheduling look accepts w x a b t u → (sends since sends' : ℕ) → Refuses a.lookup.book.journal b.lookup.book.journal sends since → StopsRound scheduling look accepts x y b c u v since sends' → StopsRound scheduling look accepts w y a c t v sends sends'
rounds_stop scheduling look accepts w x y a b c t u v h sends since sends' refuses k start table began al =
    ended_after look accepts start table began y c.table v a.lookup.book.journal b.lookup.book.journal sends since sends' refuses (k start table began (h.goes start table began al))

pub rounds_stray : (scheduling : Scheduling) (look : LookSetting) (accepts : Accepts) (w x : WordsState) (a b : LookupState) (t u v : Option (List Event)) → Rounding scheduling look accepts w x a b t u → RoundEndsByStray scheduling look accepts x b u v → RoundEndsByStray scheduling look accepts w a t v
rounds_stray scheduling look accepts w x a b t u v h k start table began al = k start table began (h.goes start table began al)

pub few_receiving : (scheduling : Scheduling) (look : LookSetting) (accepts : Accepts) (words words' : WordsState) (a b : LookupState) (t u v : Option (List Event)) → Asks look 0 look.paths words words' a b t u → FewStrays look accepts words' b u v → RoundFewStrays scheduling look accepts words a t v
few_receiving scheduling look accepts words words' a b t u v asks few start table began h = few scheduling start table began look.paths look.paths (asks.goes look.paths accepts scheduling start table began h)

pub rounds_few : (scheduling : Scheduling) (look : LookSetting) (accepts : Accepts) (w x : WordsState) (a b : LookupState) (t u v : Option (List Event)) → Rounding scheduling look accepts w x a b t u → RoundFewStrays scheduling look accepts x b u v → RoundFewStrays scheduling look accepts w a t v
rounds_few scheduling look accepts w x a b t u v r few start table began h = few start table began (r.goes start table began h)
