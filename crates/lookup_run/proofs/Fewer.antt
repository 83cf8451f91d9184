-- A lookup that goes on, or that a failing receive ends, has met fewer strays than it takes.
use Rattle.std.proofs.Common.{◌≡◌, ℕ, ◌<◌, List, [], ◌++◌, Option, false, sym, subst, ◌∙◌, ap, arith}
use Rattle.std.proofs.lemmas.List.{append-nil}
use Rattle.kad_base.specs.declared.types.Event.{Event}
use Rattle.kad_base.specs.Limits.{max_strays}
use Rattle.kad_base.specs.Outside.{Grows}
use Rattle.kad_base.proofs.Grown.{grows_then, grows_weaker}
use Rattle.id_puzzles.specs.Drawn.{WordsState}
use Rattle.contact_table.specs.TableState.{TableState}
use Rattle.claim_book.specs.Journal.{seeds}
use Rattle.claim_book.specs.Legal.{Legal}
use Rattle.lookup_run.specs.declared.types.LookSetting.{LookSetting}
use Rattle.lookup_run.specs.declared.types.LookupState.{LookupState}
use Rattle.lookup_run.specs.Tells.{Given, HasFewStrays, NeverEnds, begun}
use Rattle.lookup_run.specs.Rounds.{Scheduling}
use Rattle.lookup_run.specs.Lookup.{setting_of, given_of}
use Rattle.lookup_run.specs.inner.DriverInvariant.{Shows, TraceInvariant}
use Rattle.lookup_run.specs.inner.RoundSteps.{FewStrays}
use Rattle.lookup_run.proofs.Alike.{not_ended}
use Rattle.lookup_run.proofs.Early.{tells_of, so_far_of}
use Rattle.lookup_core.specs.Sealed.{Accepts}

few_shown : (scheduling : Scheduling) (g : Given) (work : LookupState) (place b a : ℕ) (es : List Event) → work.progress.strays < max_strays → Shows scheduling g work place b a es → HasFewStrays g work.lookup.book.journal es max_strays
few_shown scheduling g work place b a es few h = record {
  end = h.end;
  so_far = so_far_of scheduling g work place b a es h;
  few = (let strays = h.stands.strays in omega (arith, few, strays));
}

never_shown : (scheduling : Scheduling) (g : Given) (work : LookupState) (place b a : ℕ) (es : List Event) → g.quest.sealed ≡ false → work.progress.strays < max_strays → Shows scheduling g work place b a es → NeverEnds g max_strays es
never_shown scheduling g work place b a es plain few h =
    let J = work.lookup.book.journal in
    let strays = h.stands.strays in
    subst (NeverEnds g max_strays) (sym h.first)
    (not_ended g J h.at h.rest h.end max_strays plain (tells_of scheduling g J (seeds J) (begun h.at) h.rest h.end h.last h.heard h.walk) (omega (arith, few, strays)))

-- the events tell the lookup's own journal with few strays
pub few_told : (scheduling : Scheduling) (look : LookSetting) (accepts : Accepts) (start : WordsState) (table : TableState) (began : Option (List Event)) (words : WordsState) (work : LookupState) (b a : ℕ) (told : Option (List Event)) → work.progress.strays < max_strays → TraceInvariant scheduling look accepts start table began words work b a told
    → Grows began told (λ events. HasFewStrays (given_of look accepts start) work.lookup.book.journal events max_strays)
few_told scheduling look accepts start table began words work b a told few h = grows_weaker began told _ _ h.shows (λ es x. few_shown scheduling (given_of look accepts start) work words.place b a es few x)

-- and where it isn't sealed they end with no last one by any
pub never_told : (scheduling : Scheduling) (look : LookSetting) (accepts : Accepts) (start : WordsState) (table : TableState) (began : Option (List Event)) (words : WordsState) (work : LookupState) (b a : ℕ) (told : Option (List Event)) → look.sealed ≡ false → work.progress.strays < max_strays → TraceInvariant scheduling look accepts start table began words work b a told
    → Grows began told (NeverEnds (given_of look accepts start) max_strays)
never_told scheduling look accepts start table began words work b a told plain few h = grows_weaker began told _ _ h.shows (λ es x. never_shown scheduling (given_of look accepts start) work words.place b a es plain few x)

nothing_more : {A : Type 0} (es fs : List A) → fs ≡ [] → es ≡ es ++ fs
nothing_more es fs is = sym (ap (λ l. es ++ l) is ∙ append-nil es)

-- nothing more was told
pub few_still : (look : LookSetting) (accepts : Accepts) (words : WordsState) (work : LookupState) (told told' : Option (List Event)) → Legal (setting_of look) work.lookup.book.journal → work.progress.strays < max_strays → Grows told told' (λ es. es ≡ []) → FewStrays look accepts words work told told'
few_still look accepts words work told told' legal few grows scheduling start table began b a h = record {
  meets = record {
    journal = work.lookup.book.journal;
    legal = legal;
    seeds_are = h.seeds_are;
    tells = grows_then began told told' _ _ _ (few_told scheduling look accepts start table began words work b a told few h) grows (λ es fs x is. subst (λ l. HasFewStrays (given_of look accepts start) work.lookup.book.journal l max_strays) (nothing_more es fs is) x);
  };
  never = λ plain. grows_then began told told' _ _ _ (never_told scheduling look accepts start table began words work b a told plain few h) grows (λ es fs x is. subst (NeverEnds (given_of look accepts start) max_strays) (nothing_more es fs is) x);
}
