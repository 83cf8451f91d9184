-- Keys that are listed by their places.
use Rattle.std.proofs.Common.{◌≡◌, ℕ, zero, suc, ◌+◌, ◌-◌, ◌≤◌, ◌<◌, Bool, true, false, ◌||◌, List, [], ◌∷◌, ◌++◌, take, drop, length, get_or, refl, sym, ap, ◌∙◌, subst, arith, inl, inr, ◌⊎◌, ⊎_elim, length-append}
use Rattle.std.specs.Ordering.{is_eq}
use Rattle.std.specs.declared.cmp.Ordering.TheVariants.{Greater}
use Rattle.std.proofs.lemmas.Cmp.{nat_list_cmp_total}
use Rattle.std.proofs.lemmas.List.{length-drop, take-append-le, take_all, take_more, take-take, drop-take, get_or_append_left, get_or_push}
use Rattle.kad_bencode.specs.Keys.{key_cmp}
use Rattle.kad_bencode.specs.Spelling.{string_text, has_key}
use Rattle.kad_bencode.specs.Faults.{Open, IsAt}
use Rattle.kad_bencode.specs.Filing.{own, Listed, Differ, IsNowhere, Ascends, HasAll, IsKey, AreKeys}
use Rattle.kad_bencode.proofs.First.{string_long}
use Rattle.kad_bencode.proofs.Looking.{same_key, equal_keys}
use Rattle.kad_bencode.proofs.Places.{turned, turned_back}

-- no text stands past the end
pub stands_inside : (bytes : List ℕ) (place : ℕ) (key : List ℕ)
    → IsAt bytes place (string_text key) → length bytes ≤ place → ⊥
stands_inside bytes place key s h =
    let l = ap length s.1 in
    let m = length-append (string_text key) s.0 in
    let n = string_long key in
    let d = length-drop place bytes in
    omega (arith, h, l, m, n, d)

-- ---- numbers, one by one

pub lower_or_same : (a b : ℕ) → a < b + 1 → (a < b) ⊎ (a ≡ b)
lower_or_same zero zero h = inr refl
lower_or_same zero (suc b) h = inl (omega arith)
lower_or_same (suc a) zero h = absurd (omega (arith, h))
lower_or_same (suc a) (suc b) h = ⊎_elim (λ (l : a < b). inl (let m : suc a < suc b = omega (arith, l) in m))
    (λ (e : a ≡ b). inr (ap suc e)) (lower_or_same a b (omega (arith, h)))

lower_or_above : (a b : ℕ) → (a < b) ⊎ ((a ≡ b) ⊎ (b < a))
lower_or_above zero zero = inr (inl refl)
lower_or_above zero (suc b) = inl (omega arith)
lower_or_above (suc a) zero = inr (inr (omega arith))
lower_or_above (suc a) (suc b) = ⊎_elim (λ (l : a < b). inl (let m : suc a < suc b = omega (arith, l) in m))
    (λ (o : (a ≡ b) ⊎ (b < a)). inr (⊎_elim (λ (e : a ≡ b). inl (ap suc e))
    (λ (l : b < a). inr (let m : suc b < suc a = omega (arith, l) in m)) o))
    (lower_or_above a b)

-- ---- keys in an order

-- the keys at the first so many places of the order ascend, up to the last one
pub record Chain (bytes places order : List ℕ) (i : ℕ) (last : List ℕ) : Type 0 where
  pub shown : List (List ℕ)
  pub long : length shown ≡ i
  pub above : (a b : ℕ) → a < b → b < i
      → key_cmp (get_or shown b []) (get_or shown a []) ≡ Greater
  pub shows : (j : ℕ) (key : List ℕ) → j < i → get_or order j 0 < length places
      → IsAt bytes (get_or places (get_or order j 0) 0) (string_text key)
      → get_or shown j [] ≡ key
  pub ends : 0 < i → get_or shown (i - 1) [] ≡ last

pub no_chain : (bytes places order last : List ℕ) → Chain bytes places order 0 last
no_chain bytes places order last = record {
  shown = [];
  long = refl;
  above = λ a b h w. absurd (omega (arith, w));
  shows = λ j key w p s. absurd (omega (arith, w));
  ends = λ h. absurd (omega (arith, h));
}

module _ (bytes places order : List ℕ) (i : ℕ) (last : List ℕ) (c : Chain bytes places order i last)
    (key : List ℕ)
    (reads : (k : List ℕ) → get_or order i 0 < length places
    → IsAt bytes (get_or places (get_or order i 0) 0) (string_text k) → key ≡ k)
    (over : 0 < i → key_cmp key last ≡ Greater) where
  abbrev row : List (List ℕ)
  row = c.shown ++ key ∷ []

  front : (j : ℕ) → j < i → get_or row j [] ≡ get_or c.shown j []
  front j h = get_or_append_left c.shown (key ∷ []) [] j (let l = c.long in omega (arith, h, l))

  end : get_or row i [] ≡ key
  end = get_or_push c.shown key [] i c.long

  over_all : (a : ℕ) → a < i → key_cmp key (get_or c.shown a []) ≡ Greater
  over_all a h = ⊎_elim
      (λ (l : a < i - 1). turned (get_or c.shown a []) key
      (nat_list_cmp_total.trans (get_or c.shown a []) last key
      (turned_back last (get_or c.shown a []) (ap (λ k. key_cmp k (get_or c.shown a [])) (sym (c.ends (omega (arith, h)))) ∙ c.above a (i - 1) l (omega (arith, h))))
      (turned_back key last (over (omega (arith, h))))))
      (λ (e : a ≡ i - 1). ap (key_cmp key) (ap (λ m. get_or c.shown m []) e ∙ c.ends (omega (arith, h))) ∙ over (omega (arith, h)))
      (lower_or_same a (i - 1) (omega (arith, h)))

  pub chain_more : Chain bytes places order (i + 1) key
  chain_more = record {
    shown = row;
    long = (let n = length-append c.shown (key ∷ []) in let m = c.long in omega (arith, n, m));
    above = λ a b h w. ⊎_elim
        (λ (l : b < i). ap (λ k. key_cmp k (get_or row a [])) (front b l)
        ∙ ap (key_cmp (get_or c.shown b [])) (front a (omega (arith, h, l))) ∙ c.above a b h l)
        (λ (e : b ≡ i). ap (λ m. key_cmp (get_or row m []) (get_or row a [])) e
        ∙ ap (λ k. key_cmp k (get_or row a [])) end
        ∙ ap (key_cmp key) (front a (omega (arith, h, e))) ∙ over_all a (omega (arith, h, e)))
        (lower_or_same b i w);
    shows = λ j k w p s. ⊎_elim
        (λ (l : j < i). front j l ∙ c.shows j k l p s)
        (λ (e : j ≡ i). ap (λ m. get_or row m []) e ∙ end
        ∙ reads k (subst (λ m. get_or order m 0 < length places) e p)
        (subst (λ m. IsAt bytes (get_or places (get_or order m 0) 0) (string_text k)) e s))
        (lower_or_same j i w);
    ends = λ h. (let e : i + 1 - 1 ≡ i = omega arith in ap (λ m. get_or row m []) e) ∙ end;
  }

pub chain_whole : (bytes places order : List ℕ) (i : ℕ) (last : List ℕ) → Chain bytes places order i last
    → i ≡ length order → Ascends bytes places order
chain_whole bytes places order i last c e = record {
  shown = c.shown;
  above = λ a b h w. c.above a b h (omega (arith, w, e));
  shows = λ j key w p s. c.shows j key (omega (arith, w, e)) p s;
}

-- keys that ascend differ
pub differ_so : (bytes places order : List ℕ) → Ascends bytes places order
    → HasAll order (length places) → Differ bytes places
differ_so bytes places order a all i j key h w s t =
    let x = all i (omega (arith, h, w)) in
    let y = all j w in
    let first : get_or a.shown x.0 [] ≡ key = a.shows x.0 key x.1 (let e = x.2 in omega (arith, e, h, w))
    (subst (λ m. IsAt bytes (get_or places m 0) (string_text key)) (sym x.2) s) in
    let second : get_or a.shown y.0 [] ≡ key = a.shows y.0 key y.1 (let e = y.2 in omega (arith, e, w))
    (subst (λ m. IsAt bytes (get_or places m 0) (string_text key)) (sym y.2) t) in
    ⊎_elim
    (λ (l : x.0 < y.0). never (get_or a.shown y.0 []) (get_or a.shown x.0 []) second first (a.above x.0 y.0 l y.1))
    (λ (o : (x.0 ≡ y.0) ⊎ (y.0 < x.0)). ⊎_elim
    (λ (e : x.0 ≡ y.0). absurd (let f : i ≡ j = sym x.2 ∙ ap (λ m. get_or order m 0) e ∙ y.2 in omega (arith, f, h)))
    (λ (l : y.0 < x.0). never (get_or a.shown x.0 []) (get_or a.shown y.0 []) first second (a.above y.0 x.0 l x.1))
    o)
    (lower_or_above x.0 y.0)
  where
    never : (b c : List ℕ) → b ≡ key → c ≡ key → key_cmp b c ≡ Greater → ⊥
    never b c e f g =
        let k : key_cmp key key ≡ Greater = sym (ap (λ x. key_cmp x c) e ∙ ap (key_cmp key) f) ∙ g in
        let n : false ≡ true = sym (ap is_eq k) ∙ same_key key in cc

-- all numbers below one, and this one
pub all_more : (order : List ℕ) (i : ℕ) → HasAll order i
    → (j : ℕ) → j < length order → get_or order j 0 ≡ i → HasAll order (i + 1)
all_more order i a j w e k h = ⊎_elim (λ (l : k < i). a k l)
    (λ (f : k ≡ i). (j, w, e ∙ sym f)) (lower_or_same k i h)

pub differ_all : (bytes places : List ℕ) → Differ bytes places → Differ bytes (take (length places) places)
differ_all bytes places d = subst (Differ bytes) (sym (take_all (length places) places (omega arith))) d

-- ---- one more key

either : (keys : List (List ℕ)) (key k : List ℕ) → has_key (keys ++ key ∷ []) k ≡ true
    → (has_key keys k ≡ true) ⊎ (k ≡ key)
either [] key k h = inr (equal_keys k key (one (is_eq (key_cmp k key)) h))
  where
    one : (a : Bool) → (a || false) ≡ true → a ≡ true
    one true h = refl
    one false h = h
either (x ∷ keys) key k h = cases (is_eq (key_cmp k x)) (has_key keys k)
    (has_key (keys ++ key ∷ []) k) h (either keys key k)
  where
    cases : (a b c : Bool) → (a || c) ≡ true → (c ≡ true → (b ≡ true) ⊎ (k ≡ key))
        → ((a || b) ≡ true) ⊎ (k ≡ key)
    cases true b c h f = inl refl
    cases false b c h f = f h

module _ (bytes places : List ℕ) (at : ℕ) where
  before : (i : ℕ) → i < length places → get_or (places ++ at ∷ []) i 0 ≡ get_or places i 0
  before i h = get_or_append_left places (at ∷ []) 0 i h

  last : get_or (places ++ at ∷ []) (length places) 0 ≡ at
  last = get_or_push places at 0 (length places) refl

  more : length (places ++ at ∷ []) ≡ length places + 1
  more = length-append places (at ∷ [])

  pub differ_front : Differ bytes (places ++ at ∷ []) → Differ bytes places
  differ_front d i j key h w s t = d i j key h (let m = more in omega (arith, m, w))
      (subst (λ p. IsAt bytes p (string_text key)) (sym (before i (omega (arith, h, w)))) s)
      (subst (λ p. IsAt bytes p (string_text key)) (sym (before j w)) t)

  -- and one more, if a key there stands at none of the others
  pub differ_more : Differ bytes places → ((key : List ℕ) → IsAt bytes at (string_text key) → IsNowhere bytes places key)
      → Differ bytes (places ++ at ∷ [])
  differ_more d new i j key h w s t =
      ⊎_elim
      (λ (l : j < length places). d i j key h l
      (subst (λ p. IsAt bytes p (string_text key)) (before i (omega (arith, h, l))) s)
      (subst (λ p. IsAt bytes p (string_text key)) (before j l) t))
      (λ (e : j ≡ length places). new key
      (subst (λ p. IsAt bytes p (string_text key)) (get_or_push places at 0 j (sym e)) t)
      i (omega (arith, h, e)) (subst (λ p. IsAt bytes p (string_text key)) (before i (omega (arith, h, e))) s))
      (lower_or_same j (length places) (let m = more in omega (arith, m, w)))

  module _ (keys : List (List ℕ)) (key : List ℕ) (l : Listed bytes places keys)
      (s : IsAt bytes at (string_text key)) where
    pub key_differs : Differ bytes (places ++ at ∷ []) → has_key keys key ≡ false
    key_differs d =
        elim (has_key keys key) as (λ b. has_key keys key ≡ b → b ≡ false) [
          | true ↦ λ e. absurd (let p = l key e in d p.0 (length places) key p.1 (let m = more in omega (arith, m))
              (subst (λ q. IsAt bytes q (string_text key)) (sym (before p.0 p.1)) p.2)
              (subst (λ q. IsAt bytes q (string_text key)) (sym last) s))
          | false ↦ λ e. refl
        ] refl

    pub listed_more : Listed bytes (places ++ at ∷ []) (keys ++ key ∷ [])
    listed_more k h = ⊎_elim
        (λ (f : has_key keys k ≡ true). let p = l k f in (
          p.0,
          (let m = more in let n = p.1 in omega (arith, m, n)),
          subst (λ q. IsAt bytes q (string_text k)) (sym (before p.0 p.1)) p.2,
        ))
        (λ (f : k ≡ key). (
          length places,
          (let m = more in omega (arith, m)),
          subst (λ q. IsAt bytes q (string_text k)) (sym last) (subst (λ x. IsAt bytes at (string_text x)) (sym f) s),
        ))
        (either keys key k h)

  pub keys_more : (os : List Open) → AreKeys bytes places os
      → (Differ bytes places → IsKey bytes at os) → AreKeys bytes (places ++ at ∷ []) os
  keys_more os a k i w d = ⊎_elim
      (λ (l : i < length places). subst (λ p. IsKey bytes p os) (sym (before i l))
      (a i l (subst (Differ bytes) (take-append-le i places (at ∷ []) (omega (arith, l))) d)))
      (λ (e : i ≡ length places). subst (λ p. IsKey bytes p os) (sym (get_or_push places at 0 i (sym e)))
      (k (subst (Differ bytes) (take-append-le i places (at ∷ []) (omega (arith, e)) ∙ take_all i places (omega (arith, e))) d)))
      (lower_or_same i (length places) (let m = more in omega (arith, m, w)))

-- ---- the places of one dictionary, behind those of the others

own_front : (base top : ℕ) (places : List ℕ) → base ≤ top → own base top places ≡ drop base (take top places)
own_front base top places h =
    let n : base + (top - base) ≡ top = omega (arith, h) in
    sym (drop-take base (top - base) places) ∙ ap (λ m. drop base (take m places)) n

-- none is noted yet
pub own_none : (base : ℕ) (places : List ℕ) → own base base places ≡ []
own_none base places = let n : base - base ≡ 0 = omega arith in ap (λ m. take m (drop base places)) n

-- they stay as long as all in front of the same end do
pub own_kept : (base top : ℕ) (new old : List ℕ) → base ≤ top → take top new ≡ take top old
    → own base top new ≡ own base top old
own_kept base top new old h e = own_front base top new h ∙ ap (drop base) e ∙ sym (own_front base top old h)

-- and so do fewer
pub front_kept : (base top : ℕ) (new old : List ℕ) → base ≤ top → take top new ≡ take top old
    → take base new ≡ take base old
front_kept base top new old h e = sym (take-take base top new h) ∙ ap (take base) e ∙ take-take base top old h

-- ---- a handful of keys

-- one place more, where the key isn't
pub nowhere_more : (bytes places key : List ℕ) (i : ℕ) → IsNowhere bytes (take i places) key → i < length places
    → (IsAt bytes (get_or places i 0) (string_text key) → ⊥) → IsNowhere bytes (take (i + 1) places) key
nowhere_more bytes places key i n w new =
    subst (λ q. IsNowhere bytes q key) (sym (take_more places i 0 w)) (λ j v s. ⊎_elim
    (λ (l : j < length (take i places)). n j l (subst (λ p. IsAt bytes p (string_text key)) (get_or_append_left (take i places) (get_or places i 0 ∷ []) 0 j l) s))
    (λ (e : j ≡ length (take i places)). new (subst (λ p. IsAt bytes p (string_text key)) (get_or_push (take i places) (get_or places i 0) 0 j (sym e)) s))
    (lower_or_same j (length (take i places)) (let m = length-append (take i places) (get_or places i 0 ∷ []) in omega (arith, m, v))))

-- one key more, which stands at none of the places in front
pub differ_next : (bytes places : List ℕ) (i : ℕ) → Differ bytes (take i places) → i < length places
    → ((key : List ℕ) → IsAt bytes (get_or places i 0) (string_text key) → IsNowhere bytes (take i places) key)
    → Differ bytes (take (i + 1) places)
differ_next bytes places i d w new = subst (Differ bytes) (sym (take_more places i 0 w)) (differ_more bytes (take i places) (get_or places i 0) d new)
