-- A tree that is made of the first rows of a list, and rows that no tree begins with.
use Rattle.std.proofs.Common.{◌≡◌, ℕ, ◌+◌, ◌<◌, ◌≤◌, List, [], ◌∷◌, ◌++◌, length, drop, get_or, Result, Err, zero, suc, Bool, true, false, refl, sym, ap, subst, ◌∙◌, arith}
use Rattle.std.specs.List.{All}
use Rattle.std.proofs.lemmas.List.{append-nil, append_assoc, append_cancel_left, length-drop, length-map, drop_more, drop_all}
use Rattle.std.proofs.lemmas.List.Elements.{All-append, All-same}
use Rattle.kad_base.specs.declared.types.Id.{Id}
use Rattle.bucket_tree.specs.Rows.{RowState, IsRow, SoundRows}
use Rattle.bucket_tree.specs.declared.node.Node.{Node}
use Rattle.bucket_tree.specs.Trees.{rows_of, IsUnder, IsShort, IsWholeRow, IsTree}
use Rattle.bucket_tree.specs.declared.rows.Row.{Row}
use Rattle.bucket_tree.specs.declared.rows.TableFault.{TableFault}
use Rattle.bucket_tree.specs.declared.rows.TableFault.TheVariants.{Unsound}
use Rattle.bucket_tree.specs.States.{Hangs, one, two, HasFront, IsGrown, state_of, states_of}
use Rattle.bucket_tree.proofs.Every.{all-left, all-right, all-one, all-here}
use Rattle.bucket_tree.proofs.Hanging.{node-hangs, hangs-first, same-front, sound-hangs, first-apart, head-same}

-- a row of a slice, as the first of the states from there on
pub states_at : (rows : List Row) (at : ℕ) (row : Row) → at < length rows → row ≡ get_or rows at row → drop at (states_of rows) ≡ state_of row ∷ drop (at + 1) (states_of rows)
states_at rows at row lt e =
    let within : at < length (states_of rows) = omega (arith, length-map rows state_of) in
    drop_more (states_of rows) at (state_of row) within ∙ ap (λ (s : RowState). s ∷ drop (at + 1) (states_of rows)) (mapped rows at row ∙ ap state_of (sym e))
  where
    mapped : (rows : List Row) (at : ℕ) (row : Row) → get_or (states_of rows) at (state_of row) ≡ state_of (get_or rows at row)
    mapped [] at row = refl
    mapped (r ∷ rows) zero row = refl
    mapped (r ∷ rows) (suc at) row = mapped rows at row

pub states_end : (rows : List Row) (at : ℕ) → length rows ≤ at → drop at (states_of rows) ≡ []
states_end rows at le = drop_all at (states_of rows) (omega (arith, length-map rows state_of))

pub states_left : (rows : List Row) (at : ℕ) → at < length rows → 0 < length (drop at (states_of rows))
states_left rows at lt = omega (arith, length-drop at (states_of rows), length-map rows state_of)

-- the fault of a `?` is that of the call
pub passed : {T U : Type 0} (r : Result T TableFault) (y x : TableFault) (P : Type 0) → r ≡ Err y → y ≡ x → (◌≡◌ {A = Result U TableFault} (Err x) (Err Unsound) → P) → r ≡ Err Unsound → P
passed {T} {U} r y x P e same f is =
    let there : ◌≡◌ {A = Result T TableFault} (Err y) (Err Unsound) = sym e ∙ is in
    let it : y ≡ Unsound = cc in
    let fault : x ≡ Unsound = sym same ∙ it in
    let here : ◌≡◌ {A = Result U TableFault} (Err x) (Err Unsound) = cc in
    f here

module _ (own : Id) (k b : ℕ) where
  -- a leaf
  pub leaf-grown : (p : List Bool) (row bucket : RowState) (node : Node) → row.prefix ≡ p → bucket ≡ row → rows_of node ≡ bucket ∷ [] → IsUnder bucket.prefix node → length p ≤ 160
      → IsRow own k b row → IsWholeRow row → IsGrown own k b p (row ∷ []) node []
  leaf-grown p row bucket node is same rows under le sound whole =
      let e : rows_of node ≡ row ∷ [] = rows ∙ ap (λ (r : RowState). r ∷ []) same in
      let long : length row.prefix ≤ 160 = omega (arith, ap length is, le) in
      record {
        rows_are = sym e ∙ sym (append-nil (rows_of node));
        under = subst (λ (q : List Bool). IsUnder q node) (ap (λ (r : RowState). r.prefix) same ∙ is) under;
        short = All-same IsShort _ _ e (all-one IsShort row long);
        each = All-same (IsRow own k b) _ _ e (all-one (IsRow own k b) row sound);
        whole = All-same IsWholeRow _ _ e (all-one IsWholeRow row whole);
      }

  pub grown-more : (p : List Bool) (row : RowState) (all rest : List RowState) (node : Node) → IsGrown own k b p (row ∷ []) node [] → all ≡ row ∷ rest → IsGrown own k b p all node rest
  grown-more p row all rest node g e = record {
    rows_are = e ∙ ap (λ (l : List RowState). l ++ rest) (g.rows_are ∙ append-nil (rows_of node));
    under = g.under;
    short = g.short;
    each = g.each;
    whole = g.whole;
  }

  -- a fork
  pub fork-grown : (p : List Bool) (all mid rest : List RowState) (low high node : Node) → IsGrown own k b (p ++ false ∷ []) all low mid → IsGrown own k b (p ++ true ∷ []) mid high rest
      → rows_of node ≡ rows_of low ++ rows_of high → IsUnder p node → IsGrown own k b p all node rest
  fork-grown p all mid rest low high node g h e under =
      let both = λ (P : RowState → Type 0) (x : All P (rows_of low)) (y : All P (rows_of high)). All-same P (rows_of node) (rows_of low ++ rows_of high) e (All-append P (rows_of low) (rows_of high) x y) in
      record {
        rows_are = g.rows_are ∙ ap (λ (l : List RowState). rows_of low ++ l) h.rows_are ∙ sym (append_assoc (rows_of low) (rows_of high) rest) ∙ ap (λ (l : List RowState). l ++ rest) (sym e);
        under = under;
        short = both IsShort g.short h.short;
        each = both (IsRow own k b) g.each h.each;
        whole = both IsWholeRow g.whole h.whole;
      }

  -- a list that begins with a row whose prefix is no longer than the way: it is that row's leaf
  pub record FirstIs (p : List Bool) (row : RowState) : Type 0 where
    pub here : row.prefix ≡ p
    pub sound : IsRow own k b row

  pub front-first : (p : List Bool) (row : RowState) (rest : List RowState) → HasFront own k b p (row ∷ rest) → length row.prefix ≤ length p → FirstIs p row
  front-first p row rest f le = go f.front f.back f.rows_are f.hangs f.each
    where
      go : (front back : List RowState) → row ∷ rest ≡ front ++ back → Hangs p front → All (IsRow own k b) front → FirstIs p row
      go front back e (one r is is') each =
          let same : row ≡ r = head-same row r rest back (e ∙ ap (λ (l : List RowState). l ++ back) is') in
          let sound : IsRow own k b r = all-here (IsRow own k b) [] r [] (All-same (IsRow own k b) _ _ (sym is') each) in
          record { here = ap (λ (x : RowState). x.prefix) same ∙ is; sound = subst (IsRow own k b) (sym same) sound }
      go front back e (two low high l h is') each = absurd (first-apart p row low high back rest le l (e ∙ ap (λ (x : List RowState). x ++ back) is'))

  pub none-front : (p : List Bool) (rows : List RowState) → rows ≡ [] → HasFront own k b p rows → ⊥
  none-front p rows e f =
      let g = hangs-first p f.front f.hangs in
      let h : [] ≡ g.first ∷ (g.others ++ f.back) = sym e ∙ f.rows_are ∙ ap (λ (l : List RowState). l ++ f.back) g.rows_are in
      cc

  -- one that begins with a longer prefix: it is that of a fork
  pub record Halves (p : List Bool) (rows : List RowState) : Type 0 where
    pub low : List RowState
    pub high : List RowState
    pub back : List RowState
    pub rows_are : rows ≡ low ++ (high ++ back)
    pub low_hangs : Hangs (p ++ false ∷ []) low
    pub high_hangs : Hangs (p ++ true ∷ []) high
    pub low_each : All (IsRow own k b) low
    pub high_each : All (IsRow own k b) high

  pub front-halves : (p : List Bool) (row : RowState) (rows rest : List RowState) → rows ≡ row ∷ rest → length p < length row.prefix → HasFront own k b p rows → Halves p rows
  front-halves p row rows rest is lt f = go f.front f.back f.rows_are f.hangs f.each
    where
      go : (front back : List RowState) → rows ≡ front ++ back → Hangs p front → All (IsRow own k b) front → Halves p rows
      go front back e (one r same is') each =
          let eq : row ≡ r = head-same row r rest back (sym is ∙ e ∙ ap (λ (l : List RowState). l ++ back) is') in
          let long : length row.prefix ≡ length p = ap (λ (x : RowState). length x.prefix) eq ∙ ap length same in
          absurd (omega (arith, long, lt))
      go front back e (two low high l h is') each =
          let both = All-same (IsRow own k b) (low ++ high) front (sym is') each in
          record {
            low = low;
            high = high;
            back = back;
            rows_are = e ∙ ap (λ (x : List RowState). x ++ back) is' ∙ append_assoc low high back;
            low_hangs = l;
            high_hangs = h;
            low_each = all-left (IsRow own k b) low high both;
            high_each = all-right (IsRow own k b) low high both;
          }

  pub low-front : (p : List Bool) (row : RowState) (rows rest : List RowState) → rows ≡ row ∷ rest → length p < length row.prefix → HasFront own k b p rows → HasFront own k b (p ++ false ∷ []) rows
  low-front p row rows rest is lt f = let h = front-halves p row rows rest is lt f in record { front = h.low; back = h.high ++ h.back; rows_are = h.rows_are; hangs = h.low_hangs; each = h.low_each }

  pub high-front : (p : List Bool) (row : RowState) (rows rest mid : List RowState) (low : Node) → rows ≡ row ∷ rest → length p < length row.prefix → IsGrown own k b (p ++ false ∷ []) rows low mid → HasFront own k b p rows → HasFront own k b (p ++ true ∷ []) mid
  high-front p row rows rest mid low is lt g f =
      let h = front-halves p row rows rest is lt f in
      let e : rows_of low ++ mid ≡ h.low ++ (h.high ++ h.back) = sym g.rows_are ∙ h.rows_are in
      let same : rows_of low ≡ h.low = same-front (p ++ false ∷ []) (rows_of low) h.low mid (h.high ++ h.back) (node-hangs (p ++ false ∷ []) low g.under) h.low_hangs e in
      let left : mid ≡ h.high ++ h.back = append_cancel_left (rows_of low) mid (h.high ++ h.back) (e ∙ ap (λ (l : List RowState). l ++ (h.high ++ h.back)) (sym same)) in
      record { front = h.high; back = h.back; rows_are = left; hangs = h.high_hangs; each = h.high_each }

  -- all rows
  pub all-rows : (rows left : List RowState) (root : Node) → IsGrown own k b [] rows root left → length left ≤ 0 → rows_of root ≡ rows
  all-rows rows left root g le = go left g.rows_are le
    where
      go : (left : List RowState) → rows ≡ rows_of root ++ left → length left ≤ 0 → rows_of root ≡ rows
      go [] e le = sym (e ∙ append-nil (rows_of root))
      go (x ∷ left) e le = absurd (omega arith)

  pub some-left : (rows left : List RowState) (root : Node) → IsGrown own k b [] rows root left → 0 < length left → SoundRows own k b rows → ⊥
  some-left rows left root g lt s =
      let e : rows_of root ++ left ≡ rows ++ [] = sym g.rows_are ∙ sym (append-nil rows) in
      let same : rows_of root ≡ rows = same-front [] (rows_of root) rows left [] (node-hangs [] root g.under) (sound-hangs own k b rows s) e in
      let none_ : left ≡ [] = append_cancel_left (rows_of root) left [] (e ∙ ap (λ (l : List RowState). l ++ []) (sym same)) in
      omega (arith, lt, ap length none_)

  pub whole-tree : (root : Node) (rows left : List RowState) → 0 < k → k ≤ 20 → 0 < b → b ≤ 5 → IsGrown own k b [] rows root left → IsTree own k b root
  whole-tree root rows left some_live few_live some_bits few_bits g =
      record { some_live = some_live; few_live = few_live; some_bits = some_bits; few_bits = few_bits; under = g.under; short = g.short; each = g.each; whole = g.whole }
