-- Bytes that spell a value have no fault, and others have one first fault.
use Rattle.std.proofs.Common.{◌≡◌, ℕ, ◌+◌, ◌<◌, ◌≤◌, List, [], ◌∷◌, ◌++◌, length, take, Some, Result, Ok, Err, IfOk, IsErrOf, refl, sym, ap, ◌∙◌, subst, arith, append-nil, inl, inr, ◌⊎◌, ⊎_elim, length-append, length-drop}
use Rattle.std.proofs.lemmas.List.{take_all}
use Rattle.kad_bencode.specs.Spelling.{IsText, integer_text, string_text, pairs_text, in_order, Fits, Spells}
use Rattle.kad_bencode.specs.Faults.{Open, InList, InPair, pairs_of, IsAt, IsNotBencode, IsDeep, IsTooBig, IsTwice, IsTrailing, SeenAt, IsFirstFault, Answers}
use Rattle.kad_bencode.specs.Machine.{AsKey, State, Ready, Keyless, Whole, filled, run, start, Reached, Outcome}
use Rattle.kad_bencode.specs.declared.entries.Pair.{Pair}
use Rattle.kad_bencode.specs.declared.value.Value.{Value}
use Rattle.kad_bencode.specs.declared.value.Value.TheVariants as value
use Rattle.kad_bencode.specs.declared.value.Bad.{Bad}
use Rattle.kad_bencode.specs.declared.value.Bad.TheVariants.{NotBencode, Deep, NumberTooBig, KeyTwice, Trailing}
use Rattle.kad_bencode.specs.declared.value.BenFault.{BenFault}
use Rattle.kad_bencode.specs.declared.value.BenFault.TheVariants as fault
use Rattle.kad_bencode.proofs.Takes.{text_run, fronts_run, pairs_taken, integer_run, string_run}
use Rattle.kad_bencode.proofs.Said.{one_tree, whole_text, begins}
use Rattle.kad_bencode.proofs.Ordered.{spelled_fits, spelled_in_order}
use Rattle.kad_bencode.proofs.First.{first, ended, standing, reached_text, front_reached, integer_long, string_long}

pub one_value : (bytes : List ℕ) (v w : Value) → Spells bytes v → Spells bytes w → v ≡ w
one_value bytes v w a b = a.names ∙ ap in_order (one_tree a.tree b.tree (sym a.text ∙ b.text)) ∙ sym b.names

stands_within : (bytes : List ℕ) (at : ℕ) (text : List ℕ) → 0 < length text → IsAt bytes at text → at + length text ≤ length bytes
stands_within bytes at text h t = omega (arith, length-drop at bytes, ap length t.1, length-append text t.0)

whole_reached : (bytes : List ℕ) (v : Value) → (s : Spells bytes v) → Reached bytes (length bytes) (Whole s.tree)
whole_reached bytes v s = ap (run start) (take_all (length bytes) bytes (omega arith) ∙ s.text) ∙ text_run s.tree

pub no_fault : (bytes : List ℕ) (v : Value) (bad : Bad) (seen : ℕ) → Spells bytes v → SeenAt bytes bad seen → ⊥
no_fault bytes v (NotBencode at) seen s d =
    let late : length bytes ≤ seen = first bytes (length bytes) (Whole s.tree) (whole_reached bytes v s) s.fits (omega arith) (NotBencode at) seen d in
    let same : seen ≡ at = d.1 in
    d.0.unfinished (s.tree, take_all at bytes (omega arith) ∙ s.text)
no_fault bytes v (Deep at) seen s d =
    let late : length bytes ≤ seen = first bytes (length bytes) (Whole s.tree) (whole_reached bytes v s) s.fits (omega arith) (Deep at) seen d in
    let same : seen ≡ at = d.1 in
    ⊎_elim (λ (t : IsAt bytes at (108 ∷ [])). let k : at < length bytes = (standing bytes at (108 ∷ []) (omega arith) t).0 in omega arith)
    (λ (t : IsAt bytes at (100 ∷ [])). let k : at < length bytes = (standing bytes at (100 ∷ []) (omega arith) t).0 in omega arith) d.0.begins
no_fault bytes v (NumberTooBig at) seen s d =
    let late : length bytes ≤ seen = first bytes (length bytes) (Whole s.tree) (whole_reached bytes v s) s.fits (omega arith) (NumberTooBig at) seen d in
    let last : at + length (integer_text d.number) ≡ seen + 1 = d.last in
    let k : at + length (integer_text d.number) ≤ length bytes = stands_within bytes at (integer_text d.number) (integer_long d.number) d.stands in omega arith
no_fault bytes v (KeyTwice at) seen s d =
    let late : length bytes ≤ seen = first bytes (length bytes) (Whole s.tree) (whole_reached bytes v s) s.fits (omega arith) (KeyTwice at) seen d in
    let last : at + length (string_text d.key) ≡ seen + 1 = d.last in
    let k : at + length (string_text d.key) ≤ length bytes = stands_within bytes at (string_text d.key) (string_long d.key) d.stands in omega arith
no_fault bytes v (Trailing at) seen s d =
    let late : length bytes ≤ seen = first bytes (length bytes) (Whole s.tree) (whole_reached bytes v s) s.fits (omega arith) (Trailing at) seen d in
    let same : seen ≡ at = d.1 in
    let k : at < length bytes = d.0.more in omega arith

-- ---- one fault at a byte

-- where the machine stands behind the byte at which a limit was passed
pub record Past (bytes : List ℕ) (seen : ℕ) (st : State) : Type 0 where
  pub reached : Reached bytes (seen + 1) st
  pub within : seen < length bytes

past_big : (bytes : List ℕ) (at seen : ℕ) → (d : IsTooBig bytes at seen) → Past bytes seen (filled d.opens (value.Int d.number))
past_big bytes at seen d =
    let last : at + length (integer_text d.number) ≡ seen + 1 = d.last in
    let k : at + length (integer_text d.number) ≤ length bytes = stands_within bytes at (integer_text d.number) (integer_long d.number) d.stands in
    record {
      reached = subst (λ i. Reached bytes i (filled d.opens (value.Int d.number))) d.last
          (reached_text bytes at (at + length (integer_text d.number)) (integer_text d.number) (Ready d.opens) (Some (filled d.opens (value.Int d.number))) (front_reached bytes at d.opens d.front)
          (standing bytes at (integer_text d.number) (integer_long d.number) d.stands).1
          (ap (run (Some (Ready d.opens))) (sym (append-nil (integer_text d.number))) ∙ integer_run d.opens d.number []));
      within = omega arith;
    }

past_twice : (bytes : List ℕ) (at seen : ℕ) → (d : IsTwice bytes at seen) → Past bytes seen (Ready (InPair d.pairs d.key ∷ d.opens))
past_twice bytes at seen d =
    let last : at + length (string_text d.key) ≡ seen + 1 = d.last in
    let k : at + length (string_text d.key) ≤ length bytes = stands_within bytes at (string_text d.key) (string_long d.key) d.stands in
    let r : Reached bytes at (Keyless d.opens d.pairs) = ap (run start) d.front ∙ fronts_run d.opens (100 ∷ pairs_text (pairs_of d.pairs)) ∙ ap (run (Some (Keyless d.opens []))) (sym (append-nil (pairs_text (pairs_of d.pairs)))) ∙ pairs_taken d.pairs d.opens [] in
    record {
      reached = subst (λ i. Reached bytes i (Ready (InPair d.pairs d.key ∷ d.opens))) d.last
          (reached_text bytes at (at + length (string_text d.key)) (string_text d.key) (Keyless d.opens d.pairs) (Some (Ready (InPair d.pairs d.key ∷ d.opens))) r
          (standing bytes at (string_text d.key) (string_long d.key) d.stands).1
          (ap (run (Some (Keyless d.opens d.pairs))) (sym (append-nil (string_text d.key))) ∙ string_run (AsKey d.opens d.pairs) d.key []));
      within = omega arith;
    }

-- behind the byte that opens one too many
past_deep : (bytes : List ℕ) (at : ℕ) → (d : IsDeep bytes at) → Past bytes at (Ready (InList [] ∷ d.opens)) ⊎ Past bytes at (Keyless d.opens [])
past_deep bytes at d =
    let r : Reached bytes at (Ready d.opens) = front_reached bytes at d.opens d.front in
    ⊎_elim
    (λ (t : IsAt bytes at (108 ∷ [])). inl (let p : Past bytes at (Ready (InList [] ∷ d.opens)) = record {
      reached = reached_text bytes at (at + 1) (108 ∷ []) (Ready d.opens) (Some (Ready (InList [] ∷ d.opens))) r (standing bytes at (108 ∷ []) (omega arith) t).1 refl;
      within = (standing bytes at (108 ∷ []) (omega arith) t).0;
    } in p))
    (λ (t : IsAt bytes at (100 ∷ [])). inr (let p : Past bytes at (Keyless d.opens []) = record {
      reached = reached_text bytes at (at + 1) (100 ∷ []) (Ready d.opens) (Some (Keyless d.opens [])) r (standing bytes at (100 ∷ []) (omega arith) t).1 refl;
      within = (standing bytes at (100 ∷ []) (omega arith) t).0;
    } in p))
    d.begins

same_state : (bytes : List ℕ) (seen : ℕ) (s t : State) → Past bytes seen s → Past bytes seen t → s ≡ t
same_state bytes seen s t p q = let e : Some s ≡ Some t = sym p.reached ∙ q.reached in cc

-- the text doesn't go on, or has ended
past_unread : (bytes : List ℕ) (at : ℕ) (st : State) → Past bytes at st → IsNotBencode bytes at → ⊥
past_unread bytes at st p d = d.longest p.within (begins (take (at + 1) bytes) st p.reached)

past_ended : (bytes : List ℕ) (at : ℕ) (st : State) → Past bytes at st → IsTrailing bytes at → ⊥
past_ended bytes at st p d = ended bytes at (at + 1) d.whole.0 st (omega arith) d.more (whole_text (take at bytes) d.whole) p.reached

not_empty : {X : Type 0} (xs : List X) (x : X) → [] ≡ xs ++ x ∷ [] → ⊥
not_empty [] x e = cc
not_empty (y ∷ ys) x e = cc

same_last : {X : Type 0} (xs ys : List X) (x y : X) → xs ++ x ∷ [] ≡ ys ++ y ∷ [] → x ≡ y
same_last [] [] x y e = cc
same_last [] (z ∷ zs) x y e = absurd (let f : [] ≡ zs ++ y ∷ [] = cc in not_empty zs y f)
same_last (z ∷ zs) [] x y e = absurd (let f : [] ≡ zs ++ x ∷ [] = cc in not_empty zs x f)
same_last (w ∷ ws) (z ∷ zs) x y e = same_last ws zs x y (let f : ws ++ x ∷ [] ≡ zs ++ y ∷ [] = cc in f)

list_not_filled : (os : List Open) (v : Value) (ps : List Open) → Ready (InList [] ∷ ps) ≡ filled os v → ⊥
list_not_filled [] v ps e = cc
list_not_filled (InList vs ∷ os) v ps e = let f : [] ≡ vs ++ v ∷ [] = cc in not_empty vs v f
list_not_filled (InPair qs key ∷ os) v ps e = cc

dictionary_not_filled : (os : List Open) (v : Value) (ps : List Open) → Keyless ps [] ≡ filled os v → ⊥
dictionary_not_filled [] v ps e = cc
dictionary_not_filled (InList vs ∷ os) v ps e = cc
dictionary_not_filled (InPair qs key ∷ os) v ps e = let f : [] ≡ qs ++ record { key = key; value = v } ∷ [] = cc in not_empty qs (record { key = key; value = v }) f

key_not_filled : (os : List Open) (v : Value) (ps : List Open) (qs : List (Pair Value)) (key : List ℕ) → Ready (InPair qs key ∷ ps) ≡ filled os v → ⊥
key_not_filled [] v ps qs key e = cc
key_not_filled (InList vs ∷ os) v ps qs key e = cc
key_not_filled (InPair rs k ∷ os) v ps qs key e = cc

same_filled : (os ps : List Open) (v w : Value) → filled os v ≡ filled ps w → v ≡ w
same_filled [] [] v w e = cc
same_filled [] (InList ws ∷ ps) v w e = absurd (let f : ⊥ = cc in f)
same_filled [] (InPair qs key ∷ ps) v w e = absurd (let f : ⊥ = cc in f)
same_filled (InList vs ∷ os) [] v w e = absurd (let f : ⊥ = cc in f)
same_filled (InList vs ∷ os) (InList ws ∷ ps) v w e = let f : vs ++ v ∷ [] ≡ ws ++ w ∷ [] = cc in same_last vs ws v w f
same_filled (InList vs ∷ os) (InPair qs key ∷ ps) v w e = absurd (let f : ⊥ = cc in f)
same_filled (InPair qs key ∷ os) [] v w e = absurd (let f : ⊥ = cc in f)
same_filled (InPair qs key ∷ os) (InList ws ∷ ps) v w e = absurd (let f : ⊥ = cc in f)
same_filled (InPair qs key ∷ os) (InPair rs k ∷ ps) v w e =
    let f : qs ++ record { key = key; value = v } ∷ [] ≡ rs ++ record { key = k; value = w } ∷ [] = cc in
    ap (λ (p : Pair Value). p.value) (same_last qs rs (record { key = key; value = v }) (record { key = k; value = w }) f)

-- of two faults that are seen at one byte, by what the first is
same_not : (bytes : List ℕ) (seen at : ℕ) (b : Bad) → SeenAt bytes (NotBencode at) seen → SeenAt bytes b seen → NotBencode at ≡ b
same_not bytes seen at (NotBencode at') d e = ap NotBencode (sym d.1 ∙ e.1)
same_not bytes seen at (Deep at') d e = absurd (let u : IsNotBencode bytes at' = subst (IsNotBencode bytes) (sym d.1 ∙ e.1) d.0 in ⊎_elim (λ p. past_unread bytes at' _ p u) (λ p. past_unread bytes at' _ p u) (past_deep bytes at' e.0))
same_not bytes seen at (NumberTooBig at') d e = absurd (past_unread bytes seen _ (past_big bytes at' seen e) (subst (IsNotBencode bytes) (sym d.1) d.0))
same_not bytes seen at (KeyTwice at') d e = absurd (past_unread bytes seen _ (past_twice bytes at' seen e) (subst (IsNotBencode bytes) (sym d.1) d.0))
same_not bytes seen at (Trailing at') d e = absurd (d.0.unfinished (subst (λ i. IsText (take i bytes)) (sym e.1 ∙ d.1) e.0.whole))

same_trailing : (bytes : List ℕ) (seen at : ℕ) (b : Bad) → SeenAt bytes (Trailing at) seen → SeenAt bytes b seen → Trailing at ≡ b
same_trailing bytes seen at (NotBencode at') d e = sym (same_not bytes seen at' (Trailing at) e d)
same_trailing bytes seen at (Deep at') d e = absurd (let u : IsTrailing bytes at' = subst (IsTrailing bytes) (sym d.1 ∙ e.1) d.0 in ⊎_elim (λ p. past_ended bytes at' _ p u) (λ p. past_ended bytes at' _ p u) (past_deep bytes at' e.0))
same_trailing bytes seen at (NumberTooBig at') d e = absurd (past_ended bytes seen _ (past_big bytes at' seen e) (subst (IsTrailing bytes) (sym d.1) d.0))
same_trailing bytes seen at (KeyTwice at') d e = absurd (past_ended bytes seen _ (past_twice bytes at' seen e) (subst (IsTrailing bytes) (sym d.1) d.0))
same_trailing bytes seen at (Trailing at') d e = ap Trailing (sym d.1 ∙ e.1)

same_deep : (bytes : List ℕ) (seen at : ℕ) (b : Bad) → SeenAt bytes (Deep at) seen → SeenAt bytes b seen → Deep at ≡ b
same_deep bytes seen at (NotBencode at') d e = sym (same_not bytes seen at' (Deep at) e d)
same_deep bytes seen at (Deep at') d e = ap Deep (sym d.1 ∙ e.1)
same_deep bytes seen at (NumberTooBig at') d e =
    let q : Past bytes at (filled e.opens (value.Int e.number)) = subst (λ i. Past bytes i (filled e.opens (value.Int e.number))) d.1 (past_big bytes at' seen e) in
    absurd (⊎_elim (λ p. list_not_filled e.opens (value.Int e.number) d.0.opens (same_state bytes at _ _ p q)) (λ p. dictionary_not_filled e.opens (value.Int e.number) d.0.opens (same_state bytes at _ _ p q)) (past_deep bytes at d.0))
same_deep bytes seen at (KeyTwice at') d e =
    let q : Past bytes at (Ready (InPair e.pairs e.key ∷ e.opens)) = subst (λ i. Past bytes i (Ready (InPair e.pairs e.key ∷ e.opens))) d.1 (past_twice bytes at' seen e) in
    absurd (⊎_elim (λ p. let f : Ready (InList [] ∷ d.0.opens) ≡ Ready (InPair e.pairs e.key ∷ e.opens) = same_state bytes at _ _ p q in let g : ⊥ = cc in g) (λ p. let f : Keyless d.0.opens [] ≡ Ready (InPair e.pairs e.key ∷ e.opens) = same_state bytes at _ _ p q in let g : ⊥ = cc in g) (past_deep bytes at d.0))
same_deep bytes seen at (Trailing at') d e = sym (same_trailing bytes seen at' (Deep at) e d)

same_big : (bytes : List ℕ) (seen at : ℕ) (b : Bad) → SeenAt bytes (NumberTooBig at) seen → SeenAt bytes b seen → NumberTooBig at ≡ b
same_big bytes seen at (NotBencode at') d e = sym (same_not bytes seen at' (NumberTooBig at) e d)
same_big bytes seen at (Deep at') d e = sym (same_deep bytes seen at' (NumberTooBig at) e d)
same_big bytes seen at (NumberTooBig at') d e =
    let f : value.Int d.number ≡ value.Int e.number = same_filled d.opens e.opens (value.Int d.number) (value.Int e.number) (same_state bytes seen _ _ (past_big bytes at seen d) (past_big bytes at' seen e)) in
    let n : d.number ≡ e.number = cc in
    let l : at + length (integer_text d.number) ≡ seen + 1 = d.last in
    let m : at' + length (integer_text e.number) ≡ seen + 1 = e.last in
    let k : length (integer_text d.number) ≡ length (integer_text e.number) = ap (λ z. length (integer_text z)) n in
    let g : at ≡ at' = omega arith in ap NumberTooBig g
same_big bytes seen at (KeyTwice at') d e =
    absurd (key_not_filled d.opens (value.Int d.number) e.opens e.pairs e.key (same_state bytes seen _ _ (past_twice bytes at' seen e) (past_big bytes at seen d)))
same_big bytes seen at (Trailing at') d e = sym (same_trailing bytes seen at' (NumberTooBig at) e d)

same_twice : (bytes : List ℕ) (seen at : ℕ) (b : Bad) → SeenAt bytes (KeyTwice at) seen → SeenAt bytes b seen → KeyTwice at ≡ b
same_twice bytes seen at (NotBencode at') d e = sym (same_not bytes seen at' (KeyTwice at) e d)
same_twice bytes seen at (Deep at') d e = sym (same_deep bytes seen at' (KeyTwice at) e d)
same_twice bytes seen at (NumberTooBig at') d e = sym (same_big bytes seen at' (KeyTwice at) e d)
same_twice bytes seen at (KeyTwice at') d e =
    let f : Ready (InPair d.pairs d.key ∷ d.opens) ≡ Ready (InPair e.pairs e.key ∷ e.opens) = same_state bytes seen _ _ (past_twice bytes at seen d) (past_twice bytes at' seen e) in
    let n : d.key ≡ e.key = cc in
    let l : at + length (string_text d.key) ≡ seen + 1 = d.last in
    let m : at' + length (string_text e.key) ≡ seen + 1 = e.last in
    let k : length (string_text d.key) ≡ length (string_text e.key) = ap (λ z. length (string_text z)) n in
    let g : at ≡ at' = omega arith in ap KeyTwice g
same_twice bytes seen at (Trailing at') d e = sym (same_trailing bytes seen at' (KeyTwice at) e d)

same_fault : (bytes : List ℕ) (seen : ℕ) (a b : Bad) → SeenAt bytes a seen → SeenAt bytes b seen → a ≡ b
same_fault bytes seen (NotBencode at) b d e = same_not bytes seen at b d e
same_fault bytes seen (Deep at) b d e = same_deep bytes seen at b d e
same_fault bytes seen (NumberTooBig at) b d e = same_big bytes seen at b d e
same_fault bytes seen (KeyTwice at) b d e = same_twice bytes seen at b d e
same_fault bytes seen (Trailing at) b d e = same_trailing bytes seen at b d e

pub one_fault : (bytes : List ℕ) (a b : Bad) → IsFirstFault bytes a → IsFirstFault bytes b → a ≡ b
one_fault bytes a b f g =
    let l : f.seen ≤ g.seen = f.first b g.seen g.here in
    let m : g.seen ≤ f.seen = g.first a f.seen f.here in
    let e : f.seen ≡ g.seen = omega arith in
    same_fault bytes g.seen a b (subst (SeenAt bytes a) e f.here) g.here

-- ---- the reader's answer is the only one

pub answers_value : (bytes : List ℕ) (r : Result Value BenFault) (v : Value) → IfOk r (Spells bytes) → ((bad : Bad) → IsErrOf r (fault.Bad bad) → IsFirstFault bytes bad) → Spells bytes v → Answers r (Ok v)
answers_value bytes (Ok w) v s f h = ap Ok (one_value bytes v w h s)
answers_value bytes (Err (fault.Bad bad)) v s f h = absurd (let g : IsFirstFault bytes bad = f bad refl in no_fault bytes v bad g.seen h g.here)
answers_value bytes (Err fault.NoMemory) v s f h = tt

pub answers_fault : (bytes : List ℕ) (r : Result Value BenFault) (bad : Bad) → IfOk r (Spells bytes) → ((bad : Bad) → IsErrOf r (fault.Bad bad) → IsFirstFault bytes bad) → IsFirstFault bytes bad → Answers r (Err bad)
answers_fault bytes (Ok w) bad s f h = absurd (no_fault bytes w bad h.seen s h.here)
answers_fault bytes (Err (fault.Bad other)) bad s f h = ap Err (one_fault bytes bad other h (f other refl))
answers_fault bytes (Err fault.NoMemory) bad s f h = tt

pub outcome_value : (bytes : List ℕ) (r : Result Value BenFault) → Outcome bytes r (Spells bytes) → IfOk r (Spells bytes)
outcome_value bytes (Ok v) h = h
outcome_value bytes (Err e) h = tt

pub outcome_fault : (bytes : List ℕ) (r : Result Value BenFault) → Outcome bytes r (Spells bytes) → (bad : Bad) → IsErrOf r (fault.Bad bad) → IsFirstFault bytes bad
outcome_fault bytes (Ok v) h bad e = absurd (let f : ⊥ = cc in f)
outcome_fault bytes (Err (fault.Bad other)) h bad e = let same : other ≡ bad = cc in subst (IsFirstFault bytes) same h
outcome_fault bytes (Err fault.NoMemory) h bad e = absurd (let f : ⊥ = cc in f)

pub outcome_limits : (bytes : List ℕ) (r : Result Value BenFault) → Outcome bytes r (Spells bytes) → IfOk r (λ v. Fits 0 v × (in_order v ≡ v))
outcome_limits bytes (Ok v) h = (spelled_fits bytes v h, spelled_in_order bytes v h)
outcome_limits bytes (Err e) h = tt
