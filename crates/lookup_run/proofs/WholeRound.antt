-- The receives of a round, one after another.
use Rattle.std.proofs.Common.{◌≡◌, ◌≢◌, ℕ, ◌<◌, ◌≤◌, [], List, length, Option, refl, ◌∙◌, arith}
use Rattle.kad_base.specs.declared.types.Event.{Event}
use Rattle.id_puzzles.specs.Drawn.{WordsState}
use Rattle.claim_book.specs.Journal.{asked}
use Rattle.lookup_run.specs.declared.types.LookSetting.{LookSetting}
use Rattle.lookup_run.specs.declared.types.LookupState.{LookupState}
use Rattle.lookup_run.specs.inner.DriverInvariant.{Keeps, weight_of, Preserves}
use Rattle.lookup_run.specs.inner.RoundSteps.{ReceivesOne, Stops, EndsByStray, FewStrays}
use Rattle.lookup_core.specs.SendFaults.{unsent}
use Rattle.lookup_run.proofs.Early.{ended_after}
use Rattle.lookup_core.proofs.Refusing.{refuses_none}
use Rattle.lookup_core.specs.Sealed.{Accepts}

-- one receive or more
pub record Rounding (look : LookSetting) (accepts : Accepts) (old new : LookupState) (told told' : Option (List Event)) : Type 0 where
  pub keeps : Keeps look new
  pub some_open : new.progress.receives ≢ 0 → new.lookup.queries ≢ []
  pub same_asks : length (asked new.lookup.book.journal) ≡ length (asked old.lookup.book.journal)
  pub same_unsent : unsent new.lookup.book.journal ≡ unsent old.lookup.book.journal
  pub lighter : weight_of new < weight_of old
  pub goes : (words : WordsState) (b a : ℕ) → Preserves look accepts words words old new b a 0 0 told told'

pub next_receive : (look : LookSetting) (accepts : Accepts) (old w new : LookupState) (told mid told' : Option (List Event)) → Rounding look accepts old w told mid → ReceivesOne look accepts w new mid told' → Rounding look accepts old new told told'
next_receive look accepts old w new told mid told' h r = record {
  keeps = r.keeps;
  some_open = r.some_open;
  same_asks = r.same_asks ∙ h.same_asks;
  same_unsent = r.same_unsent ∙ h.same_unsent;
  lighter = (let a = r.lighter in let b = h.lighter in less (weight_of new) (weight_of w) (weight_of old) a b);
  goes = λ words b a scheduling start table began along. r.goes words 0 0 scheduling start table began (h.goes words b a scheduling start table began along);
}
  where
    less : (x y z : ℕ) → x ≤ y → y < z → x < z
    less x y z a b = omega (arith, a, b)

pub stops_after : (look : LookSetting) (accepts : Accepts) (old w new : LookupState) (told mid told' : Option (List Event)) → Rounding look accepts old w told mid → ((words : WordsState) → Stops look accepts words words w new mid told') → (words : WordsState) → Stops look accepts words words old new told told'
stops_after look accepts old w new told mid told' h stops words scheduling start table began b a along sends =
    ended_after look accepts start table began words new.table told' old.lookup.book.journal w.lookup.book.journal sends sends sends (refuses_none old.lookup.book.journal w.lookup.book.journal sends sends h.same_unsent refl) (stops words scheduling start table began 0 0 (h.goes words b a scheduling start table began along) sends)

pub stray_after : (look : LookSetting) (accepts : Accepts) (old w : LookupState) (told mid told' : Option (List Event)) → Rounding look accepts old w told mid → ((words : WordsState) → EndsByStray look accepts words w mid told') → (words : WordsState) → EndsByStray look accepts words old told told'
stray_after look accepts old w told mid told' h ends words scheduling start table began b a along = ends words scheduling start table began 0 0 (h.goes words b a scheduling start table began along)

pub few_after : (look : LookSetting) (accepts : Accepts) (old w : LookupState) (told mid told' : Option (List Event)) → Rounding look accepts old w told mid → ((words : WordsState) → FewStrays look accepts words w mid told') → (words : WordsState) → FewStrays look accepts words old told told'
few_after look accepts old w told mid told' h few words scheduling start table began b a along = few words scheduling start table began 0 0 (h.goes words b a scheduling start table began along)
