-- What one receive gives.
use Rattle.std.proofs.Common.{◌≡◌, ℕ, ◌+◌, List, [], ◌∷◌, Option, None, Result, Ok, Err, Bool, false, not, ◌&&◌, inl, inr, refl, sym, subst}
use Rattle.std.specs.Prelude.{IfOk, IfErr}
use Rattle.kad_base.specs.declared.types.Addr.{Addr}
use Rattle.kad_base.specs.declared.types.Contact.{Contact}
use Rattle.kad_base.specs.declared.types.Event.{Event}
use Rattle.kad_base.specs.declared.types.Event.TheVariants.{Got, Quiet}
use Rattle.kad_base.specs.Outside.{Grows, Happens}
use Rattle.query_book.specs.declared.Query.{Query}
use Rattle.lookup_core.specs.Sealed.{Accepts}
use Rattle.table_refresh.specs.declared.pong.Pong.{Pong}
use Rattle.table_refresh.specs.declared.pong.Pong.TheVariants.{Stray, Answer, Refusal}
use Rattle.table_refresh.specs.declared.types.Progress.{Progress}
use Rattle.table_refresh.specs.declared.types.RefreshFault.{RefreshFault}
use Rattle.table_refresh.specs.declared.types.RefreshFault.TheVariants.{LinkFault, Strays, NoMemory}
use Rattle.table_refresh.specs.declared.types.Setting.{Setting}
use Rattle.table_refresh.specs.declared.types.Tried.{Tried}
use Rattle.table_refresh.specs.Refreshed.{Given, left_after, over, is_kept, Fails, NoReply, GotGives, Gives, Stops}
use Rattle.table_refresh.specs.inner.Steps.{given_of, waiting, tried, after, IsPong, FailsAt, TakesNone, TakesPong, TakesDatagram, StopsGot, Takes}
use Rattle.kad_base.proofs.Happening.{happens_these}
use Rattle.table_refresh.proofs.Walking.{tells_one}

-- where a try stands that is over
over_at : (place strays at : ℕ) (due : List Contact) (again kept said : Bool) (new : Progress) → kept ≡ said → new.moment ≡ at → new.strays ≡ strays
    → tried new place due again kept ≡ record { moment = at; place = place; strays = strays; due = left_after (said && not again) due; again = said && not again; waits = None; table = new.table }
over_at place strays at due again kept said new is m s =
    λ i. record { moment = m i; place = place; strays = s i; due = left_after (is i && not again) due; again = is i && not again; waits = None; table = new.table }

-- a try that failed
pub fails_at : (q : Query) (at place : ℕ) (due : List Contact) (again : Bool) (old new : Progress) (t : Tried) → FailsAt q at old new t → Fails (record (waiting old place due again q) { moment = at }) q.contact (after new place due again q t)
fails_at q at place due again old new t h = record {
  table = new.table;
  gone = h.failed.gone;
  failed = h.failed.failed;
  after = subst (λ x. after new place due again q x ≡ over (record (waiting old place due again q) { moment = at }) (is_kept h.failed.gone) new.table) (sym h.is)
      (over_at place old.strays at due again h.kept (is_kept h.failed.gone) new h.failed.is h.moment h.strays);
}

-- no reply
pub no_reply : (q : Query) (at place : ℕ) (due : List Contact) (again : Bool) (old new : Progress) (t : Tried) → TakesNone q at old new t → NoReply (record (waiting old place due again q) { moment = at }) q at (after new place due again q t)
no_reply q at place due again old new t (inl on) = inl (on.early, subst (λ x. after new place due again q x ≡ record (waiting old place due again q) { moment = at }) (sym on.is) (subst (λ (p : Progress). waiting p place due again q ≡ record (waiting old place due again q) { moment = at }) (sym on.after_is) refl))
no_reply q at place due again old new t (inr late) = inr (late.0, fails_at q at place due again old new t late.1)

-- a datagram
got_gives : (g : Given) (q : Query) (from : Addr) (bytes : List ℕ) (at place : ℕ) (due : List Contact) (again : Bool) (old new : Progress) (t : Tried) (pong : Pong) → IsPong g.sealed g.accepts q from bytes pong → TakesPong pong q at old new t → GotGives g (waiting old place due again q) q from bytes at (after new place due again q t)
got_gives g q from bytes at place due again old new t Stray is h = inr (record { stray = is; gives = no_reply q at place due again (record { table = old.table; moment = old.moment; strays = old.strays + 1 }) new t h.none })
got_gives g q from bytes at place due again old new t Answer is h = inl (record {
  said = is.said;
  matched = is.matched;
  gives = inl (
    is.what,
    record {
      table = new.table;
      seen = h.seen;
      after = subst (λ x. after new place due again q x ≡ over (record (waiting old place due again q) { moment = at }) false new.table) (sym h.is)
          (over_at place old.strays at due again false false new refl h.moment h.strays);
    },
  );
})
got_gives g q from bytes at place due again old new t Refusal is h = inl (record { said = is.said; matched = is.matched; gives = inr (is.what, fails_at q at place due again old new t h) })

pub takes_got : (setting : Setting) (accepts : Accepts) (q : Query) (from : Addr) (bytes : List ℕ) (at : ℕ) (old new : Progress) (t : Tried) → TakesDatagram setting.sealed accepts q from bytes at old new t → Takes setting accepts q old new t (Got from bytes q.deadline at ∷ [])
takes_got setting accepts q from bytes at old new t h = λ seed place due again.
    let gives : Gives (given_of setting accepts seed) (waiting old place due again q) (Got from bytes q.deadline at) (after new place due again q t) =
    (q, record { waits = refl; until_is = refl }, got_gives (given_of setting accepts seed) q from bytes at place due again old new t h.pong h.is h.takes) in
    tells_one (given_of setting accepts seed) (waiting old place due again q) (Got from bytes q.deadline at) (after new place due again q t) gives

pub takes_quiet : (setting : Setting) (accepts : Accepts) (q : Query) (at : ℕ) (old new : Progress) (t : Tried) → TakesNone q at old new t → Takes setting accepts q old new t (Quiet q.deadline at ∷ [])
takes_quiet setting accepts q at old new t h = λ seed place due again.
    let gives : Gives (given_of setting accepts seed) (waiting old place due again q) (Quiet q.deadline at) (after new place due again q t) =
    (q, record { waits = refl; until_is = refl }, no_reply q at place due again old new t h) in
    tells_one (given_of setting accepts seed) (waiting old place due again q) (Quiet q.deadline at) (after new place due again q t) gives

stops_at : (sealed : Bool) (accepts : Accepts) (q : Query) (from : Addr) (bytes : List ℕ) (at : ℕ) (old : Progress) (fault : RefreshFault) → StopsGot sealed accepts q from bytes old fault → Stops sealed accepts q old.strays fault (Got from bytes q.deadline at ∷ [])
stops_at sealed accepts q from bytes at old LinkFault h = absurd h
stops_at sealed accepts q from bytes at old Strays h = record { from = from; bytes = bytes; at = at; is = refl; stray = h.0; number = h.1 }
stops_at sealed accepts q from bytes at old NoMemory h = record { from = from; bytes = bytes; at = at; is = refl; said = h.said; replies = h.matched }

-- ---- by what came of it

pub got_ok : (setting : Setting) (accepts : Accepts) (q : Query) (from : Addr) (bytes : List ℕ) (at : ℕ) (old new : Progress) (told told' : Option (List Event)) (r : Result Tried RefreshFault) → Grows told told' (λ es. es ≡ Got from bytes q.deadline at ∷ []) → IfOk r (TakesDatagram setting.sealed accepts q from bytes at old new) → IfOk r (λ t. Happens told told' (Takes setting accepts q old new t))
got_ok setting accepts q from bytes at old new told told' (Ok t) grows h = happens_these told told' _ _ grows (takes_got setting accepts q from bytes at old new t h)
got_ok setting accepts q from bytes at old new told told' (Err fault) grows h = tt

pub got_err : (sealed : Bool) (accepts : Accepts) (q : Query) (from : Addr) (bytes : List ℕ) (at : ℕ) (old : Progress) (told told' : Option (List Event)) (r : Result Tried RefreshFault) → Grows told told' (λ es. es ≡ Got from bytes q.deadline at ∷ []) → IfErr r (StopsGot sealed accepts q from bytes old) → IfErr r (λ fault. Happens told told' (Stops sealed accepts q old.strays fault))
got_err sealed accepts q from bytes at old told told' (Ok t) grows h = tt
got_err sealed accepts q from bytes at old told told' (Err fault) grows h = happens_these told told' _ _ grows (stops_at sealed accepts q from bytes at old fault h)
