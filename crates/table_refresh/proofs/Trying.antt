-- The receives of a try, and the tries of a head.
use Rattle.std.proofs.Common.{◌≡◌, ℕ, ◌+◌, ◌<◌, List, [], ◌∷◌, ◌++◌, Option, Some, None, Result, Ok, Err, Bool, true, false, not, ◌&&◌, refl, sym, ap, subst}
use Rattle.std.specs.Prelude.{IfOk, IfErr}
use Rattle.kad_base.specs.declared.types.Contact.{Contact}
use Rattle.kad_base.specs.declared.types.Event.{Event}
use Rattle.kad_base.specs.declared.types.Event.TheVariants.{Sent, Unsent}
use Rattle.kad_base.specs.Limits.{max_strays}
use Rattle.kad_base.specs.Outside.{Grows, Happens}
use Rattle.kad_base.specs.Words.{word}
use Rattle.kad_krpc.specs.Form.{form}
use Rattle.query_book.specs.declared.Query.{Query}
use Rattle.id_puzzles.specs.Drawn.{WordsState}
use Rattle.contact_table.specs.TableState.{TableState}
use Rattle.lookup_core.specs.Sealed.{Accepts}
use Rattle.lookup_core.specs.Timeouts.{deadline_of}
use Rattle.table_refresh.specs.declared.types.Progress.{Progress}
use Rattle.table_refresh.specs.declared.types.RefreshFault.{RefreshFault}
use Rattle.table_refresh.specs.declared.types.Setting.{Setting}
use Rattle.table_refresh.specs.declared.types.Tried.{Tried}
use Rattle.table_refresh.specs.declared.types.Tried.TheVariants.{Waits}
use Rattle.table_refresh.specs.Refreshed.{Given, ping, Standing, left_after, over, is_kept, Pings, SentGives, UnsentGives, TellsFrom, Stops, EndsBy}
use Rattle.table_refresh.specs.inner.Steps.{given_of, FailsKept, stands, waiting, tried, after, Takes, Awaits, AwaitEnds, Tries, TryEnds, PingsThese, TheseEnd}
use Rattle.kad_base.proofs.Happening.{happens_then, happens_these, happens_weaker}
use Rattle.table_refresh.proofs.Walking.{tells_one, tells_then, ends_then}

-- ---- receives

takes_more : (setting : Setting) (accepts : Accepts) (q : Query) (old mid new : Progress) (t : Tried) (es fs : List Event) → Takes setting accepts q old mid Waits es → Takes setting accepts q mid new t fs → Takes setting accepts q old new t (es ++ fs)
takes_more setting accepts q old mid new t es fs h k = λ seed place due again. tells_then (given_of setting accepts seed) (waiting old place due again q) es (waiting mid place due again q) fs (after new place due again q t) (h seed place due again) (k seed place due again)

-- one receive more
pub waits_more : (setting : Setting) (accepts : Accepts) (q : Query) (old mid new : Progress) (t : Tried) (a b c : Option (List Event)) → Happens a b (Takes setting accepts q old mid Waits) → Happens b c (Takes setting accepts q mid new t) → Happens a c (Takes setting accepts q old new t)
waits_more setting accepts q old mid new t a b c h k = happens_then a b c _ _ _ h k (λ es fs x y. takes_more setting accepts q old mid new t es fs x y)

await_ends : (setting : Setting) (accepts : Accepts) (q : Query) (old mid : Progress) (table' : TableState) (fault : RefreshFault) (es fs : List Event) → Takes setting accepts q old mid Waits es → mid.strays < max_strays → table' ≡ mid.table → Stops setting.sealed accepts q mid.strays fault fs → AwaitEnds setting accepts q old table' fault (es ++ fs)
await_ends setting accepts q old mid table' fault es fs h few same stops = λ seed place due again. record {
  front = es;
  last = fs;
  end = waiting mid place due again q;
  query = q;
  events_are = refl;
  tells = h seed place due again;
  waits = refl;
  few_strays = few;
  stops = stops;
  table_is = same;
  place_is = refl;
}

-- the last receive
pub waits_end : (setting : Setting) (accepts : Accepts) (q : Query) (old mid : Progress) (table' : TableState) (fault : RefreshFault) (a b c : Option (List Event)) → Happens a b (Takes setting accepts q old mid Waits) → mid.strays < max_strays → table' ≡ mid.table → Happens b c (Stops setting.sealed accepts q mid.strays fault) → Happens a c (AwaitEnds setting accepts q old table' fault)
waits_end setting accepts q old mid table' fault a b c h few same k = happens_then a b c _ _ _ h k (λ es fs x y. await_ends setting accepts q old mid table' fault es fs x few same y)

-- ---- a try

-- a ping of the head under the next word
pub record IsPing (setting : Setting) (head : Contact) (words words' : WordsState) (old : Progress) (q : Query) : Type 0 where
  pub query : q ≡ record { tx = word words.seed words.place; contact = head; deadline = deadline_of old.moment setting.timeout }
  pub drawn : words' ≡ record words { place = words.place + 1 }

pings_of : (setting : Setting) (accepts : Accepts) (head : Contact) (words words' : WordsState) (old : Progress) (q : Query) (rest : List Contact) (again : Bool) → IsPing setting head words words' old q
    → Pings (given_of setting accepts words.seed) (stands old words.place (head ∷ rest) again None) q.contact.addr (form (ping setting.own q.tx)) head
pings_of setting accepts head words words' old q rest again is = record {
  rest = rest;
  due = refl;
  none_waits = refl;
  address = ap (λ (x : Query). x.contact.addr) is.query;
  form = ap (λ (x : Query). form (ping setting.own x.tx)) is.query;
}

next_place : (words words' : WordsState) → words' ≡ record words { place = words.place + 1 } → words'.place ≡ words.place + 1
next_place words words' is = ap (λ (w : WordsState). w.place) is

unsent : (setting : Setting) (accepts : Accepts) (head : Contact) (words words' : WordsState) (old new : Progress) (kept : Bool) (q : Query) → IsPing setting head words words' old q → FailsKept head kept old.table new.table → new.moment ≡ old.moment → new.strays ≡ old.strays
    → Tries setting accepts head words words' old new kept (Unsent q.contact.addr (form (ping setting.own q.tx)) ∷ [])
unsent setting accepts head words words' old new kept q is fails moment strays = λ rest again.
    let g : Given = given_of setting accepts words.seed in
    let s : Standing = stands old words.place (head ∷ rest) again None in
    let place = next_place words words' is.drawn in
    let after : tried new words'.place (head ∷ rest) again kept ≡ over (record s { place = words.place + 1 }) (is_kept fails.gone) new.table =
    (λ i. record { moment = moment i; place = place i; strays = strays i; due = left_after (fails.is i && not again) (head ∷ rest); again = fails.is i && not again; waits = None; table = new.table }) in
    let gives : UnsentGives g s q.contact.addr (form (ping setting.own q.tx)) (tried new words'.place (head ∷ rest) again kept) =
    record { head = head; pings = pings_of setting accepts head words words' old q rest again is; fails = record { table = new.table; gone = fails.gone; failed = fails.failed; after = after } } in
    tells_one g s (Unsent q.contact.addr (form (ping setting.own q.tx))) (tried new words'.place (head ∷ rest) again kept) gives

pub unsent_tries : (setting : Setting) (accepts : Accepts) (head : Contact) (words words' : WordsState) (old new : Progress) (kept : Bool) (q : Query) (a b : Option (List Event)) → IsPing setting head words words' old q → FailsKept head kept old.table new.table → new.moment ≡ old.moment → new.strays ≡ old.strays
    → Grows a b (λ es. es ≡ Unsent q.contact.addr (form (ping setting.own q.tx)) ∷ []) → Happens a b (Tries setting accepts head words words' old new kept)
unsent_tries setting accepts head words words' old new kept q a b is fails moment strays grows = happens_these a b _ _ grows (unsent setting accepts head words words' old new kept q is fails moment strays)

sent : (setting : Setting) (accepts : Accepts) (head : Contact) (words words' : WordsState) (old : Progress) (q : Query) (rest : List Contact) (again : Bool) → IsPing setting head words words' old q
    → TellsFrom (given_of setting accepts words.seed) (stands old words.place (head ∷ rest) again None) (Sent q.contact.addr (form (ping setting.own q.tx)) ∷ []) (waiting old words'.place (head ∷ rest) again q)
sent setting accepts head words words' old q rest again is =
    let g : Given = given_of setting accepts words.seed in
    let s : Standing = stands old words.place (head ∷ rest) again None in
    let place = next_place words words' is.drawn in
    let after : waiting old words'.place (head ∷ rest) again q ≡ record s { place = words.place + 1; waits = Some (record { tx = word words.seed words.place; contact = head; deadline = deadline_of old.moment setting.timeout }) } =
    (λ i. waiting old (place i) (head ∷ rest) again (is.query i)) in
    let gives : SentGives g s q.contact.addr (form (ping setting.own q.tx)) (waiting old words'.place (head ∷ rest) again q) =
    record { head = head; pings = pings_of setting accepts head words words' old q rest again is; after = after } in
    tells_one g s (Sent q.contact.addr (form (ping setting.own q.tx))) (waiting old words'.place (head ∷ rest) again q) gives

pub sent_tries : (setting : Setting) (accepts : Accepts) (head : Contact) (words words' : WordsState) (old new : Progress) (kept : Bool) (q : Query) (a b c : Option (List Event)) → IsPing setting head words words' old q
    → Grows a b (λ es. es ≡ Sent q.contact.addr (form (ping setting.own q.tx)) ∷ []) → Happens b c (Awaits setting accepts q old new kept) → Happens a c (Tries setting accepts head words words' old new kept)
sent_tries setting accepts head words words' old new kept q a b c is grows h =
    let event = Sent q.contact.addr (form (ping setting.own q.tx)) in
    happens_then a b c (λ es. es ≡ event ∷ []) _ _ (happens_these a b (event ∷ []) (λ es. es ≡ event ∷ []) grows refl) h
    (λ es fs x y. λ rest again. tells_then (given_of setting accepts words.seed) (stands old words.place (head ∷ rest) again None) es (waiting old words'.place (head ∷ rest) again q) fs (tried new words'.place (head ∷ rest) again kept)
    (subst (λ l. TellsFrom (given_of setting accepts words.seed) (stands old words.place (head ∷ rest) again None) l (waiting old words'.place (head ∷ rest) again q)) (sym x) (sent setting accepts head words words' old q rest again is))
    (y words.seed words'.place (head ∷ rest) again))

pub sent_ends : (setting : Setting) (accepts : Accepts) (head : Contact) (words words' : WordsState) (old : Progress) (table' : TableState) (fault : RefreshFault) (q : Query) (a b c : Option (List Event)) → IsPing setting head words words' old q
    → Grows a b (λ es. es ≡ Sent q.contact.addr (form (ping setting.own q.tx)) ∷ []) → Happens b c (AwaitEnds setting accepts q old table' fault) → Happens a c (TryEnds setting accepts head words words' old table' fault)
sent_ends setting accepts head words words' old table' fault q a b c is grows h =
    let event = Sent q.contact.addr (form (ping setting.own q.tx)) in
    happens_then a b c (λ es. es ≡ event ∷ []) _ _ (happens_these a b (event ∷ []) (λ es. es ≡ event ∷ []) grows refl) h
    (λ es fs x y. λ rest again. ends_then (given_of setting accepts words.seed) (stands old words.place (head ∷ rest) again None) es (waiting old words'.place (head ∷ rest) again q) fault table' words'.place fs
    (subst (λ l. TellsFrom (given_of setting accepts words.seed) (stands old words.place (head ∷ rest) again None) l (waiting old words'.place (head ∷ rest) again q)) (sym x) (sent setting accepts head words words' old q rest again is))
    (y words.seed words'.place (head ∷ rest) again))

-- the receives of a ping that was sent, by what came of them
pub sent_ok : (setting : Setting) (accepts : Accepts) (head : Contact) (words words' : WordsState) (old new : Progress) (q : Query) (a b c : Option (List Event)) (r : Result Bool RefreshFault) → IsPing setting head words words' old q
    → Grows a b (λ es. es ≡ Sent q.contact.addr (form (ping setting.own q.tx)) ∷ []) → IfOk r (λ kept. Happens b c (Awaits setting accepts q old new kept)) → IfOk r (λ kept. Happens a c (Tries setting accepts head words words' old new kept))
sent_ok setting accepts head words words' old new q a b c (Ok kept) is grows h = sent_tries setting accepts head words words' old new kept q a b c is grows h
sent_ok setting accepts head words words' old new q a b c (Err fault) is grows h = tt

pub sent_err : (setting : Setting) (accepts : Accepts) (head : Contact) (words words' : WordsState) (old : Progress) (table' : TableState) (q : Query) (a b c : Option (List Event)) (r : Result Bool RefreshFault) → IsPing setting head words words' old q
    → Grows a b (λ es. es ≡ Sent q.contact.addr (form (ping setting.own q.tx)) ∷ []) → IfErr r (λ fault. Happens b c (AwaitEnds setting accepts q old table' fault)) → IfErr r (λ fault. Happens a c (TryEnds setting accepts head words words' old table' fault))
sent_err setting accepts head words words' old table' q a b c (Ok kept) is grows h = tt
sent_err setting accepts head words words' old table' q a b c (Err fault) is grows h = sent_ends setting accepts head words words' old table' fault q a b c is grows h

-- ---- a head

-- a head whose first try is its last
pub pings_once : (setting : Setting) (accepts : Accepts) (head : Contact) (words words' : WordsState) (old new : Progress) (a b : Option (List Event)) → Happens a b (Tries setting accepts head words words' old new false) → Happens a b (PingsThese setting accepts (head ∷ []) words words' old new)
pings_once setting accepts head words words' old new a b h = happens_weaker a b _ _ h (λ es x. λ rest. x rest false)

last_try : (new : Progress) (place : ℕ) (head : Contact) (rest : List Contact) (kept : Bool) → tried new place (head ∷ rest) true kept ≡ stands new place rest false None
last_try new place head rest true = refl
last_try new place head rest false = refl

same_seed : (words words' : WordsState) → words' ≡ record words { place = words.place + 1 } → words'.seed ≡ words.seed
same_seed words words' is = ap (λ (w : WordsState). w.seed) is

-- one that was kept, and is pinged again
pub pings_twice : (setting : Setting) (accepts : Accepts) (head : Contact) (words between words' : WordsState) (old mid new : Progress) (kept : Bool) (a b c : Option (List Event)) → between ≡ record words { place = words.place + 1 } → Happens a b (Tries setting accepts head words between old mid true) → Happens b c (Tries setting accepts head between words' mid new kept)
    → Happens a c (PingsThese setting accepts (head ∷ []) words words' old new)
pings_twice setting accepts head words between words' old mid new kept a b c drawn h k =
    happens_then a b c _ _ _ h k (λ es fs x y. λ rest. tells_then (given_of setting accepts words.seed) (stands old words.place (head ∷ rest) false None) es (stands mid between.place (head ∷ rest) true None) fs (stands new words'.place rest false None) (x rest false)
    (subst (λ seed. TellsFrom (given_of setting accepts seed) (stands mid between.place (head ∷ rest) true None) fs (stands new words'.place rest false None)) (same_seed words between drawn)
    (subst (λ t. TellsFrom (given_of setting accepts between.seed) (stands mid between.place (head ∷ rest) true None) fs t) (last_try new words'.place head rest kept) (y rest true))))

pub ends_again : (setting : Setting) (accepts : Accepts) (head : Contact) (words between words' : WordsState) (old mid : Progress) (table' : TableState) (fault : RefreshFault) (a b c : Option (List Event)) → between ≡ record words { place = words.place + 1 } → Happens a b (Tries setting accepts head words between old mid true) → Happens b c (TryEnds setting accepts head between words' mid table' fault)
    → Happens a c (TheseEnd setting accepts (head ∷ []) words words' old table' fault)
ends_again setting accepts head words between words' old mid table' fault a b c drawn h k =
    happens_then a b c _ _ _ h k (λ es fs x y. λ rest. ends_then (given_of setting accepts words.seed) (stands old words.place (head ∷ rest) false None) es (stands mid between.place (head ∷ rest) true None) fault table' words'.place fs (x rest false)
    (subst (λ seed. EndsBy (given_of setting accepts seed) (stands mid between.place (head ∷ rest) true None) fault table' words'.place fs) (same_seed words between drawn) (y rest true)))
