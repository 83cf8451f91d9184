-- A text is read up to a line, which is bad, or to its end.
use Rattle.std.proofs.Common.{◌≡◌, ℕ, zero, suc, ◌+◌, ◌<◌, ◌≤◌, List, [], ◌∷◌, ◌++◌, length, map, refl, sym, ap, ◌∙◌, subst, arith, lit<}
use Rattle.std.specs.Prelude.{codes, All}
use Rattle.std.proofs.lemmas.Grind.{flat_map-append}
use Rattle.std.proofs.lemmas.List.{append_assoc, append-nil, length-append, length-map}
use Rattle.std.proofs.lemmas.List.Elements.{All-append, All-cons, All-head, All-nil, All-tail}
use Rattle.std.proofs.Math.Seq.{get_or-append_seam}
use Rattle.hex.specs.Hex.{IsBytes}
use Rattle.kad_base.specs.declared.types.Id.{Id}
use Rattle.kad_base.specs.declared.types.Contact.{Contact}
use Rattle.bucket_tree.specs.declared.rows.Row.{Row}
use Rattle.contact_table.specs.declared.saved.Saved.{Saved}
use Rattle.kad_text.proofs.OneSpelling.{cut_once}
use Rattle.table_file.specs.declared.draft.Head.{Head}
use Rattle.table_file.specs.declared.draft.Draft.{Draft}
use Rattle.table_file.specs.declared.draft.Draft.TheVariants as draft
use Rattle.table_file.specs.declared.line.Line.{Line}
use Rattle.table_file.specs.declared.line.Line.TheVariants as line
use Rattle.table_file.specs.Drafts.{IsDraft, IsUnfit, Refuses, Takes, lines_of_draft, whole_lines}
use Rattle.table_file.specs.Reading.{IsBadLine, IsBegun, Spells, fed}
use Rattle.kad_text.specs.Cut.{IsCut, Lacks}
use Rattle.table_file.specs.SavedText.{FitsLine, IsSavedText, ended, joined, lines_of, text_of}
use Rattle.table_file.proofs.Chain.{at_front, ended_of, last_kind, last_saved}
use Rattle.table_file.proofs.Drafting.{end_behind_row, end_behind_siblings}
use Rattle.table_file.proofs.Fronts.{fed_once, front_lines, no_feeds, not_empty, nothing_behind, whole_text}

-- what was read of a text, and the number of the line that is next
pub record HasRead (bytes : List ℕ) (before : Draft) (rest : List ℕ) (number : ℕ) : Type 0 where
  pub sound : IsDraft before
  pub fits : All FitsLine (lines_of_draft before)
  pub split : bytes ≡ joined (lines_of_draft before) ++ rest
  pub place : number ≡ length (lines_of_draft before) + 1
  pub within : number + length rest ≤ length bytes + 1

-- ---- lines and their texts

pub fed_joined : (ls : List Line) → fed (map text_of ls) ≡ joined ls
fed_joined [] = refl
fed_joined (l ∷ ls) = ap (λ (x : List ℕ). (text_of l ++ codes "\n") ++ x) (fed_joined ls)

texts_whole : (ls : List Line) → All FitsLine ls → All (Lacks 10) (map text_of ls)
texts_whole [] h = All-nil (Lacks 10)
texts_whole (l ∷ ls) h = All-cons (Lacks 10) (text_of l) (map text_of ls) (whole_text l (All-head FitsLine l ls h)) (texts_whole ls (All-tail FitsLine l ls h))

fed_more : (ls : List Line) (text r : List ℕ) → fed (map text_of ls ++ text ∷ []) ++ r ≡ joined ls ++ (text ++ 10 ∷ r)
fed_more ls text r =
    let feed : List ℕ → List ℕ = λ t. t ++ codes "\n" in
    let one : fed (map text_of ls ++ text ∷ []) ≡ joined ls ++ (text ++ codes "\n") = flat_map-append feed (map text_of ls) (text ∷ []) ∙ ap (λ (x : List ℕ). fed (map text_of ls) ++ x) (append-nil (text ++ codes "\n")) ∙ ap (λ (x : List ℕ). x ++ (text ++ codes "\n")) (fed_joined ls) in
    ap (λ (x : List ℕ). x ++ r) one ∙ append_assoc (joined ls) (text ++ codes "\n") r ∙ ap (λ (x : List ℕ). joined ls ++ x) (fed_once text r)

joined_more : (ls : List Line) (l : Line) (r : List ℕ) → joined (ls ++ l ∷ []) ++ r ≡ joined ls ++ (text_of l ++ 10 ∷ r)
joined_more ls l r =
    let one : joined (ls ++ l ∷ []) ≡ joined ls ++ ended l = flat_map-append ended ls (l ∷ []) ∙ ap (λ (x : List ℕ). joined ls ++ x) (append-nil (ended l)) in
    ap (λ (x : List ℕ). x ++ r) one ∙ append_assoc (joined ls) (ended l) r ∙ ap (λ (x : List ℕ). joined ls ++ x) (fed_once (text_of l) r)

-- ---- each draft is the front of a table

zeros : ℕ → List ℕ
zeros zero = []
zeros (suc n) = 0 ∷ zeros n

zeros_bytes : (n : ℕ) → IsBytes (zeros n)
unfolding zeros
zeros_bytes zero k = lit< tt
zeros_bytes (suc n) zero = lit< tt
zeros_bytes (suc n) (suc k) = zeros_bytes n k

zeros_length : (n : ℕ) → length (zeros n) ≡ n
unfolding zeros
zeros_length zero = refl
zeros_length (suc n) = let h = zeros_length n in omega arith

abbrev some_id : Id
some_id = record { 0 = zeros 20 }

abbrev made : Head → List Row → List Contact → Saved
made head rows siblings = record { own = head.own; k = head.k; b = head.b; rows = rows; siblings = siblings }

abbrev completing : Draft → Saved
completing draft.Empty = record { own = some_id; k = 0; b = 0; rows = []; siblings = [] }
completing (draft.Started head) = made head [] []
completing (draft.InRow head rows row) = made head (rows ++ row ∷ []) []
completing (draft.InSiblings head rows siblings) = made head rows siblings
completing (draft.Ended saved) = saved

abbrev remaining : Draft → List Line
remaining draft.Empty = line.Table some_id 0 0 ∷ line.End ∷ []
remaining (draft.Started head) = line.End ∷ []
remaining (draft.InRow head rows row) = line.End ∷ []
remaining (draft.InSiblings head rows siblings) = line.End ∷ []
remaining (draft.Ended saved) = []

completed : (d : Draft) → lines_of (completing d) ≡ lines_of_draft d ++ remaining d
completed draft.Empty = refl
completed (draft.Started head) = refl
completed (draft.InRow head rows row) = end_behind_row head rows (rows ++ row ∷ []) row [] (whole_lines head (rows ++ row ∷ []) []) refl refl refl
completed (draft.InSiblings head rows siblings) = end_behind_siblings head rows siblings (whole_lines head rows siblings) refl
completed (draft.Ended saved) = sym (append-nil (lines_of saved))

end_fits : All FitsLine (line.End ∷ [])
end_fits = All-cons FitsLine line.End [] tt (All-nil FitsLine)

remaining_fits : (d : Draft) → All FitsLine (remaining d)
remaining_fits draft.Empty = All-cons FitsLine (line.Table some_id 0 0) (line.End ∷ []) ((zeros_length 20, zeros_bytes 20), lit< tt, lit< tt) end_fits
remaining_fits (draft.Started head) = end_fits
remaining_fits (draft.InRow head rows row) = end_fits
remaining_fits (draft.InSiblings head rows siblings) = end_fits
remaining_fits (draft.Ended saved) = All-nil FitsLine

begun : (d : Draft) → All FitsLine (lines_of_draft d) → IsBegun (map text_of (lines_of_draft d))
begun d fits =
    let ls : List Line = lines_of_draft d in
    let text : fed (map text_of ls) ++ joined (remaining d) ≡ joined (lines_of (completing d)) = ap (λ (x : List ℕ). x ++ joined (remaining d)) (fed_joined ls) ∙ sym (flat_map-append ended ls (remaining d)) ∙ ap joined (sym (completed d)) in
    let all : All FitsLine (lines_of (completing d)) = subst (All FitsLine) (sym (completed d)) (All-append FitsLine ls (remaining d) fits (remaining_fits d)) in
    (completing d, joined (remaining d), record { fits = all; text = text })

-- ---- a line that no table has there

no_table : (ls : List Line) (text tail : List ℕ) (s : Saved) → All FitsLine ls → All FitsLine (lines_of s) → joined (lines_of s) ≡ joined ls ++ (text ++ 10 ∷ tail) → Lacks 10 text
    → ((l : Line) → Spells text l → IsUnfit ls l) → ⊥
no_table ls text tail s fl fs e w refuse =
    let r = front_lines (lines_of s) ls (text ++ 10 ∷ tail) fs fl e in
    go r.0 r.1 r.2
  where
    go : (more : List Line) → lines_of s ≡ ls ++ more → text ++ 10 ∷ tail ≡ joined more → ⊥
    go [] f g = not_empty text tail (sym g)
    go (a ∷ more) f g =
        let all : All FitsLine (ls ++ a ∷ more) = subst (All FitsLine) f fs in
        let lt : length ls < length (ls ++ a ∷ more) = rw length-append (omega arith) in
        let fa : FitsLine a = subst FitsLine (get_or-append_seam ls a more a) (all (length ls) a lt) in
        let cut = cut_once 10 text (text_of a) tail (joined more) w (whole_text a fa) (g ∙ fed_once (text_of a) (joined more)) in
        refuse a (record { fits = fa; printed = cut.0 }) s more f

place_of : (d : Draft) (n : ℕ) → n ≡ length (lines_of_draft d) + 1 → n ≡ length (map text_of (lines_of_draft d)) + 1
place_of d n e = e ∙ ap (λ (k : ℕ). k + 1) (sym (length-map (lines_of_draft d) text_of))

pub refused : (bytes rest text after : List ℕ) (d : Draft) (n : ℕ) → HasRead bytes d rest n → IsCut 10 rest text after → Refuses d text → IsBadLine bytes n
refused bytes rest text after d n h c refuse =
    let ls : List Line = lines_of_draft d in
    record {
      before = map text_of ls;
      rest = rest;
      split = h.split ∙ ap (λ (x : List ℕ). x ++ rest) (sym (fed_joined ls));
      lines = texts_whole ls h.fits;
      place = place_of d n h.place;
      begun = begun d h.fits;
      bad = λ other more w e b.
          let same = cut_once 10 text other after more c.lacks w (sym c.split ∙ e) in
          no_table ls other b.1 b.0 h.fits b.2.fits (sym b.2.text ∙ fed_more ls other b.1) w (λ l s. refuse l (record { fits = s.fits; printed = same.0 ∙ s.printed }));
      unread = λ s t. no_table ls text after s h.fits t.fits (sym t.text ∙ h.split ∙ ap (λ (x : List ℕ). joined ls ++ x) c.split) c.lacks refuse;
    }

pub unfinished : (bytes rest : List ℕ) (d : Draft) (n : ℕ) → HasRead bytes d rest n → Lacks 10 rest → ((saved : Saved) → d ≡ draft.Ended saved → rest ≡ [] → ⊥) → IsBadLine bytes n
unfinished bytes rest d n h w open_ =
    let ls : List Line = lines_of_draft d in
    record {
      before = map text_of ls;
      rest = rest;
      split = h.split ∙ ap (λ (x : List ℕ). x ++ rest) (sym (fed_joined ls));
      lines = texts_whole ls h.fits;
      place = place_of d n h.place;
      begun = begun d h.fits;
      bad = λ other more v e b. no_feeds rest other more w e;
      unread = λ s t.
          let r = front_lines (lines_of s) ls rest t.fits h.fits (sym t.text ∙ h.split) in
          let none = nothing_behind r.0 rest w r.2 in
          let same : lines_of s ≡ ls = r.1 ∙ ap (λ (x : List Line). ls ++ x) none.0 ∙ append-nil ls in
          let it = ended_of d h.sound (ap (last_kind at_front) (sym same) ∙ last_saved s) in
          open_ it.0 it.1 none.1;
    }

-- ---- what was read

pub at_first : (bytes : List ℕ) → HasRead bytes draft.Empty bytes 1
at_first bytes = record { sound = tt; fits = All-nil FitsLine; split = refl; place = refl; within = omega arith }

pub one_more : (bytes rest text after : List ℕ) (d next : Draft) (n : ℕ) → HasRead bytes d rest n → IsCut 10 rest text after → Takes d text next → HasRead bytes next after (n + 1)
one_more bytes rest text after d next n h c t =
    let ls : List Line = lines_of_draft d in
    let l : Line = t.next in
    let place = h.place in
    let within = h.within in
    let long : length rest ≡ length text + (length after + 1) = ap length c.split ∙ length-append text (10 ∷ after) ∙ omega arith in
    let more : length (lines_of_draft next) ≡ length ls + 1 = ap length t.added ∙ length-append ls (l ∷ []) in
    record {
      sound = t.sound;
      fits = subst (All FitsLine) (sym t.added) (All-append FitsLine ls (l ∷ []) h.fits (All-cons FitsLine l [] t.spells.fits (All-nil FitsLine)));
      split = h.split ∙ ap (λ (x : List ℕ). joined ls ++ x) (c.split ∙ ap (λ (x : List ℕ). x ++ 10 ∷ after) t.spells.printed) ∙ sym (joined_more ls l after) ∙ ap (λ (x : List Line). joined x ++ after) (sym t.added);
      place = omega arith;
      within = omega arith;
    }

pub all_read : (bytes rest : List ℕ) (d : Draft) (saved : Saved) (n : ℕ) → HasRead bytes d rest n → d ≡ draft.Ended saved → rest ≡ [] → IsSavedText bytes saved
all_read bytes rest d saved n h e r =
    let ls : lines_of_draft d ≡ lines_of saved = ap lines_of_draft e in
    record {
      fits = subst (All FitsLine) ls h.fits;
      text = h.split ∙ ap (λ (x : List ℕ). joined (lines_of_draft d) ++ x) r ∙ append-nil (joined (lines_of_draft d)) ∙ ap joined ls;
    }

-- ---- a text has one bad line

-- of two ways to cut a text at its line feeds, one goes further
data Further (F G : List (List ℕ)) (r s : List ℕ) : Type 0 where
  same : F ≡ G → Further F G r s
  second : (x : List ℕ) (X : List (List ℕ)) → G ≡ F ++ x ∷ X → Lacks 10 x → r ≡ x ++ 10 ∷ (fed X ++ s) → Further F G r s
  first : (x : List ℕ) (X : List (List ℕ)) → F ≡ G ++ x ∷ X → Lacks 10 x → s ≡ x ++ 10 ∷ (fed X ++ r) → Further F G r s

fed_first : (x : List ℕ) (X : List (List ℕ)) (r : List ℕ) → fed (x ∷ X) ++ r ≡ x ++ 10 ∷ (fed X ++ r)
fed_first x X r = append_assoc (x ++ codes "\n") (fed X) r ∙ fed_once x (fed X ++ r)

further : (F G : List (List ℕ)) (r s : List ℕ) → All (Lacks 10) F → All (Lacks 10) G → fed F ++ r ≡ fed G ++ s → Further F G r s
further [] [] r s hf hg e = same refl
further [] (x ∷ X) r s hf hg e = second x X refl (All-head (Lacks 10) x X hg) (e ∙ fed_first x X s)
further (x ∷ X) [] r s hf hg e = first x X refl (All-head (Lacks 10) x X hf) (sym e ∙ fed_first x X r)
further (x ∷ X) (y ∷ Y) r s hf hg e =
    let cut = cut_once 10 x y (fed X ++ r) (fed Y ++ s) (All-head (Lacks 10) x X hf) (All-head (Lacks 10) y Y hg) (sym (fed_first x X r) ∙ e ∙ fed_first y Y s) in
    go cut.0 (further X Y r s (All-tail (Lacks 10) x X hf) (All-tail (Lacks 10) y Y hg) cut.1)
  where
    go : x ≡ y → Further X Y r s → Further (x ∷ X) (y ∷ Y) r s
    go e (same f) = same (ap (λ (l : List (List ℕ)). x ∷ l) f ∙ ap (λ (t : List ℕ). t ∷ Y) e)
    go e (second z Z f w g) = second z Z (ap (λ (l : List (List ℕ)). y ∷ l) f ∙ ap (λ (t : List ℕ). t ∷ (X ++ z ∷ Z)) (sym e)) w g
    go e (first z Z f w g) = first z Z (ap (λ (l : List (List ℕ)). x ∷ l) f ∙ ap (λ (t : List ℕ). t ∷ (Y ++ z ∷ Z)) e) w g

-- what begins a saved text has fronts that do
begun_front : (F X : List (List ℕ)) (x : List ℕ) → IsBegun (F ++ x ∷ X) → IsBegun (F ++ x ∷ [])
begun_front F X x b =
    let feed : List ℕ → List ℕ = λ t. t ++ codes "\n" in
    let regroup : F ++ x ∷ X ≡ (F ++ x ∷ []) ++ X = sym (append_assoc F (x ∷ []) X) in
    let cut : fed (F ++ x ∷ X) ≡ fed (F ++ x ∷ []) ++ fed X = ap fed regroup ∙ flat_map-append feed (F ++ x ∷ []) X in
    (b.0, fed X ++ b.1, record { fits = b.2.fits; text = sym (append_assoc (fed (F ++ x ∷ [])) (fed X) b.1) ∙ ap (λ (t : List ℕ). t ++ b.1) (sym cut) ∙ b.2.text })

pub bad_once : (bytes : List ℕ) (m n : ℕ) → IsBadLine bytes m → IsBadLine bytes n → m ≡ n
bad_once bytes m n f g = go (further f.before g.before f.rest g.rest f.lines g.lines (sym f.split ∙ g.split))
  where
    go : Further f.before g.before f.rest g.rest → m ≡ n
    go (same e) = f.place ∙ ap (λ (l : List (List ℕ)). length l + 1) e ∙ sym g.place
    go (second x X e w r) = absurd (f.bad x (fed X ++ g.rest) w r (begun_front f.before X x (subst IsBegun e g.begun)))
    go (first x X e w r) = absurd (g.bad x (fed X ++ f.rest) w r (begun_front g.before X x (subst IsBegun e f.begun)))
