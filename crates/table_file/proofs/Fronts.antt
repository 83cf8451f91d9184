-- A text of whole lines has them in one way.
use Rattle.std.proofs.Common.{◌≡◌, ◌≢◌, ℕ, ◌<◌, List, [], ◌∷◌, ◌++◌, length, get_or, refl, sym, ap, ◌∙◌, arith}
use Rattle.std.specs.Prelude.{codes, All}
use Rattle.std.proofs.lemmas.List.{append_assoc, length-append}
use Rattle.std.proofs.lemmas.List.Elements.{All-head, All-tail}
use Rattle.std.proofs.Math.Seq.{get_or-append_seam}
use Rattle.kad_text.proofs.OneSpelling.{cut_once}
use Rattle.table_file.specs.declared.line.Line.{Line}
use Rattle.table_file.specs.SavedText.{FitsLine, joined, text_of}
use Rattle.table_file.proofs.Once.{line_once}
use Rattle.table_file.proofs.Visible.{no_feed, text_shown}

-- ---- line feeds

-- a text without a line feed
abbrev IsWhole : List ℕ → Type 0
IsWhole text = All (λ c. c ≢ 10) text

pub whole_text : (l : Line) → FitsLine l → IsWhole (text_of l)
whole_text l fits = no_feed (text_of l) (text_shown l fits)

shape : (t j r : List ℕ) → ((t ++ codes "\n") ++ j) ++ r ≡ t ++ (10 ∷ (j ++ r))
shape t j r = append_assoc (t ++ codes "\n") j r ∙ append_assoc t (codes "\n") (j ++ r)

pub fed_once : (t j : List ℕ) → (t ++ codes "\n") ++ j ≡ t ++ (10 ∷ j)
fed_once t j = append_assoc t (codes "\n") j

pub not_empty : (t z : List ℕ) → [] ≡ t ++ (10 ∷ z) → ⊥
not_empty [] z e = cc e
not_empty (c ∷ t) z e = cc e

pub no_feeds : (x t z : List ℕ) → IsWhole x → x ≡ t ++ (10 ∷ z) → ⊥
no_feeds x t z w e =
    let lt : length t < length x = rw (e, length-append) (omega arith) in
    let at : get_or x (length t) 0 ≡ 10 = rw e (get_or-append_seam t 10 z 0) in
    w (length t) 0 lt at

pub front_lines : (zs ls : List Line) (rest : List ℕ) → All FitsLine zs → All FitsLine ls → joined zs ≡ joined ls ++ rest → (more : List Line) × (zs ≡ ls ++ more) × (rest ≡ joined more)
front_lines zs [] rest ha hl e = (zs, refl, sym e)
front_lines [] (l ∷ ls) rest ha hl e = absurd (not_empty (text_of l) (joined ls ++ rest) (e ∙ shape (text_of l) (joined ls) rest))
front_lines (a ∷ zs) (l ∷ ls) rest ha hl e =
    let fa = All-head FitsLine a zs ha in
    let fl = All-head FitsLine l ls hl in
    let cut = cut_once 10 (text_of a) (text_of l) (joined zs) (joined ls ++ rest) (whole_text a fa) (whole_text l fl) (sym (fed_once (text_of a) (joined zs)) ∙ e ∙ shape (text_of l) (joined ls) rest) in
    let one : a ≡ l = line_once a l fa fl cut.0 in
    let r = front_lines zs ls rest (All-tail FitsLine a zs ha) (All-tail FitsLine l ls hl) cut.1 in
    (r.0, ap (λ (z : Line). z ∷ zs) one ∙ ap (λ (z : List Line). l ∷ z) r.1, r.2)

-- what stands behind all lines has a line feed, or is nothing
pub nothing_behind : (more : List Line) (rest : List ℕ) → IsWhole rest → rest ≡ joined more → (more ≡ []) × (rest ≡ [])
nothing_behind [] rest w e = (refl, e)
nothing_behind (a ∷ more) rest w e = absurd (no_feeds rest (text_of a) (joined more) w (e ∙ fed_once (text_of a) (joined more)))
