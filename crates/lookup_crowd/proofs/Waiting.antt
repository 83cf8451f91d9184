-- The time passes for all lookups, and how long the next receive waits.
use Rattle.std.proofs.Common.{◌≡◌, ◌⊎◌, ℕ, ◌+◌, ◌<◌, ◌≤◌, List, [], ◌∷◌, ◌++◌, length, get_or, take, drop, set, min, Option, Some, None, inl, inr, sym, ap, subst, ◌∙◌, arith}
use Rattle.std.specs.Prelude.{Contains, map}
use Rattle.std.specs.List.{AllZip}
use Rattle.std.proofs.lemmas.List.{append-nil, take_more, take_more_set, drop_more, drop-set-lt, length-set, flat_map_more}
use Rattle.std.proofs.lemmas.List.Elements.{AllZip-push}
use Rattle.query_book.specs.declared.Query.{Query}
use Rattle.serve_crew.specs.Hands.{Hands, SameHands}
use Rattle.serve_crew.proofs.Growing.{same_more}
use Rattle.lookup_core.proofs.Lists.{map_append, all_append, all_weaker}
use Rattle.lookup_crowd.specs.declared.seeker.Seeker.{Seeker}
use Rattle.lookup_crowd.specs.Many.{IsEarliest}
use Rattle.lookup_crowd.specs.inner.Crowd.{queries_of, Ran}
use Rattle.lookup_crowd.specs.inner.ManySteps.{Expires, lapsed, all_lapsed, sooner_of, IsSoonest}
use Rattle.lookup_crowd.proofs.Lists.{in_left, in_right}
use Rattle.lookup_crowd.proofs.Hosting.{ran_then}

-- ---- all expire

-- as far as the loop has come
pub record ExpiringTo (at : ℕ) (i : ℕ) (old now : List Seeker) (h g : Hands) : Type 0 where
  pub len : length now ≡ length old
  pub done : AllZip (Expires at) (take i old) (take i now)
  pub left : drop i now ≡ drop i old
  pub same : SameHands h g
  pub ran : Ran h g [] (all_lapsed at (take i old))

-- the one that is next is as it was
pub next_same : (i : ℕ) (old now : List Seeker) (d : Seeker) → length now ≡ length old → i < length old → drop i now ≡ drop i old → get_or now i d ≡ get_or old i d
next_same i old now d len lt left =
    let lt' : i < length now = omega (arith, lt, len) in
    let both : get_or now i d ∷ drop (i + 1) now ≡ get_or old i d ∷ drop (i + 1) old = sym (drop_more now i d lt') ∙ left ∙ drop_more old i d lt in
    let heads : get_or now i d ≡ get_or old i d = cc in
    heads

pub expires_next : (at i : ℕ) (old now : List Seeker) (d after : Seeker) (h g k : Hands) → ExpiringTo at i old now h g → i < length old → Expires at (get_or now i d) after → SameHands g k → Ran g k [] (lapsed at (get_or now i d)) → ExpiringTo at (i + 1) old (set now i after) h k
expires_next at i old now d after h g k x lt e same ran =
    let one = get_or now i d in
    let lt' : i < length now = (let len = x.len in omega (arith, lt, len)) in
    let here : one ≡ get_or old i d = next_same i old now d x.len lt x.left in
    let both : one ∷ drop (i + 1) now ≡ get_or old i d ∷ drop (i + 1) old = sym (drop_more now i d lt') ∙ x.left ∙ drop_more old i d lt in
    let tails : drop (i + 1) now ≡ drop (i + 1) old = cc in
    let front : take (i + 1) old ≡ take i old ++ one ∷ [] = take_more old i d lt ∙ ap (λ (y : Seeker). take i old ++ y ∷ []) (sym here) in
    record {
      len = length-set now i after ∙ x.len;
      done = subst (λ l. AllZip (Expires at) l (take (i + 1) (set now i after))) (sym front) (subst (AllZip (Expires at) (take i old ++ one ∷ [])) (sym (take_more_set now i after lt'))
          (AllZip-push (Expires at) (take i old) (take i now) one after x.done e));
      left = drop-set-lt (i + 1) now i after (omega arith) ∙ tails;
      same = same_more h g k x.same same;
      ran = subst (λ l. Ran h k [] (all_lapsed at l)) (sym front) (subst (Ran h k []) (flat_map_more (lapsed at) [] (take i old) one)
          (ran_then h g k [] (all_lapsed at (take i old)) [] (lapsed at one) x.same x.ran ran));
    }

-- ---- the earliest deadline

earlier : (a b : ℕ) (xs ys : List ℕ) → IsEarliest xs a → IsEarliest ys b → IsEarliest (xs ++ ys) (min a b)
earlier a b xs ys h k = record {
  one = pick (which a b);
  least = all_append (λ (n : ℕ). min a b ≤ n) xs ys (all_weaker (λ (n : ℕ). a ≤ n) (λ (n : ℕ). min a b ≤ n) (λ n le. omega (arith, le)) xs h.least) (all_weaker (λ (n : ℕ). b ≤ n) (λ (n : ℕ). min a b ≤ n) (λ n le. omega (arith, le)) ys k.least);
}
  where
    which : (a b : ℕ) → (min a b ≡ a) ⊎ (min a b ≡ b)
    which a b = grind arith

    pick : (min a b ≡ a) ⊎ (min a b ≡ b) → Contains (xs ++ ys) (min a b)
    pick (inl e) = subst (λ n. Contains (xs ++ ys) n) (sym e) (in_left xs ys a h.one)
    pick (inr e) = subst (λ n. Contains (xs ++ ys) n) (sym e) (in_right xs ys b k.one)

soonest_both : (a b : Option ℕ) (xs ys : List Query) → IsSoonest a xs → IsSoonest b ys → IsSoonest (sooner_of a b) (xs ++ ys)
soonest_both None b xs ys h k = subst (λ l. IsSoonest b (l ++ ys)) (sym h) k
soonest_both (Some a) None xs ys h k = subst (λ l. IsSoonest (Some a) l) (sym (ap (λ l. xs ++ l) k ∙ append-nil xs)) h
soonest_both (Some a) (Some b) xs ys h k = subst (λ l. IsEarliest l (min a b)) (sym (map_append (λ (q : Query). q.deadline) xs ys)) (earlier a b (map (λ (q : Query). q.deadline) xs) (map (λ (q : Query). q.deadline) ys) h k)

pub soonest_next : (a b : Option ℕ) (i : ℕ) (ks : List Seeker) (k : Seeker) → i < length ks → k ≡ get_or ks i k → IsSoonest a (queries_of (take i ks)) → IsSoonest b k.lookup.queries → IsSoonest (sooner_of a b) (queries_of (take (i + 1) ks))
soonest_next a b i ks k lt is h here =
    subst (λ l. IsSoonest (sooner_of a b) (queries_of l)) (sym (take_more ks i k lt ∙ ap (λ (x : Seeker). take i ks ++ x ∷ []) (sym is)))
    (subst (IsSoonest (sooner_of a b)) (flat_map_more (λ (x : Seeker). x.lookup.queries) [] (take i ks) k) (soonest_both a b (queries_of (take i ks)) k.lookup.queries h here))
