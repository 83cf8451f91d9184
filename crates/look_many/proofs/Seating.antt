-- Lookups that are made one after another, and what they leave.
use Rattle.std.proofs.Common.{◌≡◌, ℕ, zero, suc, ◌+◌, ◌<◌, ◌≤◌, List, [], ◌∷◌, ◌++◌, length, get_or, refl, sym, ap, subst, ◌∙◌, arith, Result}
use Rattle.std.specs.Prelude.{map, drop, reverse}
use Rattle.std.specs.List.{AllByRecursion, AllZip, range_with_len, All}
use Rattle.std.proofs.lemmas.List.{append_assoc}
use Rattle.std.proofs.lemmas.List.FromFn.{length-map-range_with_len}
use Rattle.std.specs.List.Sorted.{IsStrictlySortedBy}
use Rattle.look_many.specs.declared.job.Job.{Job}
use Rattle.kad_base.specs.declared.types.Contact.{Contact}
use Rattle.kad_base.specs.Contacts.{IsUsable}
use Rattle.kad_distance.specs.Order.{closeness}
use Rattle.kad_distance.proofs.Chosen.{closest_few, closest_rises, closest_all}
use Rattle.claim_book.specs.declared.types.Setting.{Setting}
use Rattle.claim_book.specs.Calls.{Counted, IsFound as book_found}
use Rattle.claim_book.specs.Legal.{Legal}
use Rattle.claim_book.specs.Result.{result_of}
use Rattle.claim_book.specs.RunOut.{RunOut}
use Rattle.claim_book.specs.State.{BookState}
use Rattle.contact_table.specs.TableState.{TableState}
use Rattle.contact_table.specs.TableStep.{contacts_of}
use Rattle.node_serve.specs.declared.setting.ServeSetting.{ServeSetting}
use Rattle.look_many.specs.declared.finish.Done.{Done}
use Rattle.look_many.specs.declared.found.ManySetting.{ManySetting}
use Rattle.look_many.specs.declared.found.One.{One}
use Rattle.kad_base.specs.declared.types.NoMemory.{NoMemory}
use Rattle.turn_book.specs.Turns.{PassState}
use Rattle.contact_table.specs.declared.calls.TableCall.{TableCall}
use Rattle.contact_table.specs.declared.calls.TableReply.{TableReply}
use Rattle.lookup_core.specs.declared.gather.Gathered.{Gathered}
use Rattle.lookup_core.specs.declared.quest.Quest.{Quest}
use Rattle.lookup_core.specs.Gathered.{IsBare}
use Rattle.lookup_core.specs.declared.state.Lookup.{Lookup}
use Rattle.look_many.specs.Job.{target_of}
use Rattle.look_many.specs.ManyLooked.{AreSent, how_often, setting_for, quest_for, seeds_for}
use Rattle.look_many.specs.inner.Seats.{IsBookFor, IsSeekerFor, IsDone, IsHanded, IsOutcome, IsOverBook}
use Rattle.look_many.proofs.Lists.{turned}

-- ---- lists in step

module _ {A B : Type 0} (R : A → B → Type 0) where
  pub zip_more : (xs : List A) (ys : List B) (x : A) (y : B) → AllZip R xs ys → R x y → AllZip R (xs ++ x ∷ []) (ys ++ y ∷ [])
  zip_more [] [] x y h r = (r, tt)
  zip_more [] (z ∷ ys) x y h r = absurd h
  zip_more (w ∷ xs) [] x y h r = absurd h
  zip_more (w ∷ xs) (z ∷ ys) x y h r = (h.0, zip_more xs ys x y h.1 r)

  pub zip_map : {C : Type 0} (f : C → B) (xs : List A) (cs : List C) → AllZip (λ a c. R a (f c)) xs cs → AllZip R xs (map f cs)
  zip_map f [] [] h = tt
  zip_map f [] (c ∷ cs) h = absurd h
  zip_map f (x ∷ xs) [] h = absurd h
  zip_map f (x ∷ xs) (c ∷ cs) h = (h.0, zip_map f xs cs h.1)

-- ---- the seeds of a lookup

few_of : (server : ServeSetting) (table : TableState) (job : Job) → length (seeds_for server table job) ≤ server.k
few_of server table job = closest_few (target_of job) server.k (contacts_of table)

pub few_seeds : (server : ServeSetting) (setting : ManySetting) (table : TableState) (job : Job) (xs : List Contact) (s : Setting) → xs ≡ seeds_for server table job → s ≡ setting_for server setting job → length xs ≤ s.k
few_seeds server setting table job xs s is set = (let few = few_of server table job in let n = ap length is in let k = ap (λ (x : Setting). x.k) set in omega (arith, few, n, k))

pub ordered_seeds : (server : ServeSetting) (setting : ManySetting) (table : TableState) (job : Job) (xs : List Contact) (s : Setting) → xs ≡ seeds_for server table job → s ≡ setting_for server setting job → IsStrictlySortedBy (closeness s.target) xs
ordered_seeds server setting table job xs s is set = subst (λ (x : Setting). IsStrictlySortedBy (closeness x.target) xs) (sym set) (subst (IsStrictlySortedBy (closeness (target_of job))) (sym is) (closest_rises (target_of job) server.k (contacts_of table)))

pub all_usable : (server : ServeSetting) (setting : ManySetting) (table : TableState) (job : Job) (xs : List Contact) (s : Setting) → All (IsUsable server.own) (contacts_of table) → xs ≡ seeds_for server table job → s ≡ setting_for server setting job → All (IsUsable s.own) xs
all_usable server setting table job xs s usable is set = subst (λ (x : Setting). All (IsUsable x.own) xs) (sym set) (subst (All (IsUsable server.own)) (sym is) (closest_all (target_of job) server.k (contacts_of table) (IsUsable server.own) usable))

-- ---- the end of a lookup

pub is_done : (book after : BookState) (o : One) → after ≡ book → book_found book.setting book.journal o.found o.counts → o.journal ≡ after.journal → Legal after.setting after.journal → IsDone book o
is_done book after o same found journal legal =
    let is : o.journal ≡ book.journal = journal ∙ ap (λ (b : BookState). b.journal) same in
    record {
      journal = is;
      legal = subst (λ (s : Setting). Legal s o.journal) (ap (λ (b : BookState). b.setting) same) (subst (Legal after.setting) (sym journal) legal);
      run_out = subst (λ J. (p : ℕ) → p < book.setting.paths → RunOut book.setting p J) (sym is) found.run_out;
      found = found.is_result ∙ ap (result_of book.setting) (sym is);
      counted = subst (λ J. Counted J o.counts) (sym is) found.counted;
    }

pub is_outcome : (d : Done) (after : BookState) (o : One) → after ≡ d.book → book_found d.book.setting d.book.journal o.found o.counts → o.journal ≡ after.journal → Legal after.setting after.journal → IsHanded d.gathered o → IsOutcome d o
is_outcome d after o same found journal legal handed = record { found = is_done d.book after o same found journal legal; handed = handed }

-- of what was left of all lookups, these were finished, and the others are not yet
pub record Finishing (all left : List Done) (ones : List One) : Type 0 where
  pub done : List Done
  pub are : reverse all ≡ done ++ reverse left
  pub found : AllZip IsOutcome done ones
  pub over : AllByRecursion (λ (d : Done). IsOverBook d.book) (reverse left)

-- ---- one after another

module _ {A B : Type 0} (R : A → B → Type 0) where
  -- where some are left on one side, so are there on the other
  pub zip_left : (xs : List A) (ys : List B) (i : ℕ) → i < length xs → AllZip R (drop i xs) (reverse ys) → ys ≡ [] → ⊥
  zip_left xs ys i lt h none = at_it xs i lt (subst (λ l. AllZip R (drop i xs) (reverse l)) none h)
    where
      at_it : (zs : List A) (j : ℕ) → j < length zs → AllZip R (drop j zs) [] → ⊥
      at_it [] j l k = absurd (omega (arith, l))
      at_it (z ∷ zs) zero l k = absurd k
      at_it (z ∷ zs) (suc j) l k = at_it zs j (omega (arith, l)) k

  -- the next of each go together, and so do those behind them
  pub zip_next : (xs : List A) (ys : List B) (y : B) (i j : ℕ) (d : A) → suc i ≡ j → i < length xs → AllZip R (drop i xs) (y ∷ ys) → R (get_or xs i d) y × AllZip R (drop j xs) ys
  zip_next [] ys y i j d e lt h = absurd (omega (arith, lt))
  zip_next (x ∷ xs) ys y zero j d e lt h = subst (λ n. R x y × AllZip R (drop n (x ∷ xs)) ys) e h
  zip_next (x ∷ xs) ys y (suc i) j d e lt h = subst (λ n. R (get_or xs i d) y × AllZip R (drop n (x ∷ xs)) ys) e (zip_next xs ys y i (suc i) d refl (omega (arith, lt)) h)

module _ {B : Type 0} (f : ℕ → B) where
  pub row_left : (ys : List B) (a n : ℕ) → 0 < n → reverse ys ≡ map f (range_with_len a n) → ys ≡ [] → ⊥
  row_left ys a n some h none = (let e : 0 ≡ length (map f (range_with_len a n)) = ap (λ l. length (reverse l)) (sym none) ∙ ap length h in let l = length-map-range_with_len f a n in omega (arith, some, e, l))

  pub row_next : (ys : List B) (y : B) (a b n m : ℕ) → suc m ≡ n → a + 1 ≡ b → y ∷ ys ≡ map f (range_with_len a n) → (y ≡ f a) × (ys ≡ map f (range_with_len b m))
  row_next ys y a b n m e after h =
      let both : y ∷ ys ≡ f a ∷ map f (range_with_len (a + 1) m) = h ∙ ap (λ k. map f (range_with_len a k)) (sym e) in
      (first both, rest both ∙ ap (λ k. map f (range_with_len k m)) after)
    where
      first : {x z : B} {xs zs : List B} → x ∷ xs ≡ z ∷ zs → x ≡ z
      first h = cc

      rest : {x z : B} {xs zs : List B} → x ∷ xs ≡ z ∷ zs → xs ≡ zs
      rest h = cc

-- a lookup that is made of its book
pub seeker_for : (server : ServeSetting) (setting : ManySetting) (table : TableState) (job : Job) (book : BookState) (quest : Quest) (lookup : Lookup) (pass : PassState TableCall TableReply) (settled : Result (Unit {0}) NoMemory) (gathered : Gathered) → IsBookFor server setting table job book → quest ≡ quest_for server setting job → lookup.book ≡ book → lookup.queries ≡ [] → IsBare gathered
    → IsSeekerFor server setting table job (record { quest = quest; lookup = lookup; gathered = gathered; pass = pass; settled = settled })
seeker_for server setting table job book quest lookup pass settled gathered h is same none bare = record { bare = bare; book = subst (IsBookFor server setting table job) (sym same) h; quest = is; none_open = none }

-- the next book
pub finishing_first : (all left rest : List Done) (b : Done) (ones : List One) → Finishing all left ones → left ≡ rest ++ b ∷ [] → IsOverBook b.book
finishing_first all left rest b ones f e = (subst (AllByRecursion (λ (d : Done). IsOverBook d.book)) (turned left rest b e) f.over).0

pub finishing_next : (all left rest : List Done) (b : Done) (ones ones' : List One) (one : One) → Finishing all left ones → left ≡ rest ++ b ∷ [] → IsOutcome b one → ones' ≡ ones ++ one ∷ [] → Finishing all rest ones'
finishing_next all left rest b ones ones' one f e done is = record {
  done = f.done ++ b ∷ [];
  are = f.are ∙ ap (λ l. f.done ++ l) (turned left rest b e) ∙ sym (append_assoc f.done (b ∷ []) (reverse rest));
  found = subst (AllZip IsOutcome (f.done ++ b ∷ [])) (sym is) (zip_more IsOutcome f.done ones b one f.found done);
  over = (subst (AllByRecursion (λ (d : Done). IsOverBook d.book)) (turned left rest b e) f.over).1;
}

-- how many follow-ups of it were sent
last_behind : (i : ℕ) → i + 0 ≡ i
last_behind i = omega arith

first_behind : (n : ℕ) → n ≡ 0 + n
first_behind n = omega arith

next_behind : (i n : ℕ) → i + suc n ≡ suc i + n
next_behind i n = omega arith

sent_behind : (told : List ℕ) (i : ℕ) (ones : List One) (one : One) → AreSent told i ones → one.sent ≡ how_often (i + length ones) told → AreSent told i (ones ++ one ∷ [])
sent_behind told i [] one h e = (e ∙ ap (λ n. how_often n told) (last_behind i), tt)
sent_behind told i (o ∷ ones) one h e = (h.0, sent_behind told (suc i) ones one h.1 (e ∙ ap (λ n. how_often n told) (next_behind i (length ones))))

pub sent_next : (told : List ℕ) (ones ones' : List One) (one : One) (n : ℕ) → AreSent told 0 ones → one.sent ≡ how_often n told → n ≡ length ones → ones' ≡ ones ++ one ∷ [] → AreSent told 0 ones'
sent_next told ones ones' one n h e at is = subst (λ (l : List One). AreSent told 0 l) (sym is) (sent_behind told 0 ones one h (e ∙ ap (λ k. how_often k told) (at ∙ first_behind (length ones))))
