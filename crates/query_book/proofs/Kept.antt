-- What the list of open queries keeps.
use Rattle.std.proofs.Common.{◌≡◌, ◌≢◌, ℕ, zero, suc, ◌<◌, ◌≤◌, List, [], ◌∷◌, length, get_or, Some, sym, ap, ◌∙◌, arith}
use Rattle.std.specs.Prelude.{All, Any, slice_get, remove}
use Rattle.std.proofs.lemmas.List.Edits.{length-remove}
use Rattle.std.proofs.lemmas.List.Quantifiers.{all_pairs_remove}
use Rattle.kad_base.specs.declared.types.Addr.{Addr}
use Rattle.query_book.specs.declared.Query.{Query}
use Rattle.query_book.specs.Queries.{IsQueries, IsOf, IsOfAt, Closes}

-- none is due before the oldest
pub oldest_first : (qs : List Query) (q : Query) → IsQueries qs → Some q ≡ slice_get qs 0 → All (λ x. q.deadline ≤ x.deadline) qs
oldest_first [] q is e k d lt = absurd (omega arith)
oldest_first (x ∷ qs) q is e zero d lt = let same : q ≡ x = cc in let at : q.deadline ≡ x.deadline = ap (λ (y : Query). y.deadline) same in omega arith
oldest_first (x ∷ qs) q is e (suc k) d lt =
    let same : q ≡ x = cc in
    let at : q.deadline ≡ x.deadline = ap (λ (y : Query). y.deadline) same in
    let le : x.deadline ≤ (get_or qs k d).deadline = is.deadlines 0 (suc k) d (omega arith) lt in
    omega arith

-- one that is closed
pub queries_remove : (qs : List Query) (n : ℕ) → IsQueries qs → n < length qs → IsQueries (remove qs n)
queries_remove qs n is lt = record {
  few = omega (arith, length-remove qs n lt, is.few);
  ids = all_pairs_remove (λ (a b : Query). a.tx ≢ b.tx) qs n lt is.ids;
  deadlines = all_pairs_remove (λ (a b : Query). a.deadline ≤ b.deadline) qs n lt is.deadlines;
}

-- the query at a place, as a search finds it
pub found_at : (qs : List Query) (k : ℕ) (q : Query) → slice_get qs k ≡ Some q → (k < length qs) × ((d : Query) → get_or qs k d ≡ q)
found_at [] k q e = absurd cc
found_at (x ∷ qs) zero q e = (omega arith, λ d. (let same : x ≡ q = cc in same))
found_at (x ∷ qs) (suc k) q e = let more = found_at qs k q e in (omega (arith, more.0), more.1)

-- the query that a search found
pub found_any : (tx : ℕ) (from : Addr) (found again qs : List Query) (k : ℕ) (d : Query) → found ≡ qs → again ≡ qs → IsOfAt tx from found k
    → Any (λ q. IsOf tx from q × (q.contact ≡ (get_or again k d).contact)) qs
found_any tx from found again qs k d e f at =
    let here = found_at qs k at.query (ap (λ (l : List Query). slice_get l k) (sym e) ∙ at.here) in
    let same : at.query.contact ≡ (get_or again k d).contact = ap (λ (q : Query). q.contact) (sym (ap (λ (l : List Query). get_or l k d) f ∙ here.1 d)) in
    (k, at.query, here.0, here.1 at.query, (at.answers, same))

-- and that is taken out
pub closes_found : (tx : ℕ) (from : Addr) (found old items new : List Query) (k : ℕ) (q : Query) → found ≡ items → items ≡ old → IsOfAt tx from found k
    → q ≡ get_or items k q → new ≡ remove items k → Closes tx from q.contact old new
closes_found tx from found old items new k q e f at is others =
    let here : slice_get items k ≡ Some at.query = ap (λ (l : List Query). slice_get l k) (sym e) ∙ at.here in
    let same : q ≡ at.query = is ∙ (found_at items k at.query here).1 q in
    record {
      place = k;
      query = at.query;
      here = ap (λ (l : List Query). slice_get l k) (sym f) ∙ here;
      answers = at.answers;
      contact_is = ap (λ (x : Query). x.contact) same;
      others = others ∙ ap (λ (l : List Query). remove l k) f;
    }
