-- What the transcript of a link tells of several journals at once, each of a lookup of its own, while the node answers what is
-- for none of them. A query has an owner; a datagram is matched to the first lookup, in order, that has an open query to which
-- it replies (BEP 5), and is foreign where none has; a foreign query is answered at once; each receive gives each lookup its
-- timeouts; a receive begins a round where no round goes on. Where all paths of all have run out, the follow-ups go out one by
-- one, each with a receive behind it that waits for nothing; then the node serves on, until as many receives were made as are
-- wanted or, where it has an end by time, that has come.
use Rattle.std.specs.Prelude.{◌≡◌, ◌≢◌, ◌⊎◌, ℕ, zero, suc, ◌+◌, ◌<◌, ◌≤◌, List, [], ◌∷◌, ◌++◌, length, map, replicate, slice_get, Option, Some, None, Bool, cond, true, false}
use Rattle.std.specs.List.{AllByRecursion, AllZip, flat_map}
use Rattle.kad_base.specs.declared.types.Addr.{Addr}
use Rattle.kad_base.specs.declared.types.Contact.{Contact}
use Rattle.kad_base.specs.declared.types.Event.{Event}
use Rattle.kad_base.specs.declared.types.Proof.{Proof}
use Rattle.kad_base.specs.declared.types.Event.TheVariants.{Now, Sent, Unsent, Got, Quiet}
use Rattle.kad_base.specs.Limits.{max_strays}
use Rattle.kad_base.specs.Words.{word, word_bytes}
use Rattle.kad_krpc.specs.declared.message.Ask.{Ask}
use Rattle.kad_krpc.specs.declared.message.Message.TheVariants as message
use Rattle.kad_krpc.specs.Form.{form}
use Rattle.claim_book.specs.RunOut.{RunOut}
pub use Rattle.lookup_core.specs.Receiving.{IsEarliest, WaitsUntil, goes_on}
use Rattle.lookup_core.specs.Matching.{OpenQuery, IsStray}
use Rattle.lookup_core.specs.Sealed.{Accepts}
use Rattle.lookup_core.specs.Timeouts.{deadline_of}
use Rattle.node_serve.specs.declared.setting.ServeSetting.{ServeSetting}
use Rattle.node_serve.specs.Calls.{Did}
use Rattle.node_serve.specs.Queries.{IsSilent}
use Rattle.node_serve.specs.Lasting.{end_of, is_over, waits_to}
use Rattle.node_serve.specs.Sealing.{Tags}
use Rattle.serve_crew.specs.Answered.{IsReply}
use Rattle.lookup_crowd.specs.declared.due.FollowUp.{FollowUp}
use Rattle.lookup_crowd.specs.Mine.{Mine, Whose, driven, SentGives, UnsentGives, HaveAsked, MatchGives, waited}

-- what all lookups share: which tags they accept, which the node gives and by what setting it answers, the generator's seed
-- and next place, how many receives are wanted, and for how many minutes (0: no end by time); and the follow-ups, in order
pub record Frame : Type 0 where
  pub accepts : Accepts
  pub tags : Tags
  pub server : ServeSetting
  pub seed : List ℕ
  pub place : ℕ
  pub wanted : ℕ
  pub minutes : ℕ
  pub follows : List FollowUp

-- a reply that is to be sent, and to whom
pub record Owed : Type 0 where
  pub to : Addr
  pub reply : List ℕ

-- what the events so far show
pub record Shown : Type 0 where
  -- the last told moment
  pub moment : ℕ
  -- the moment at which serving on ends by time, from the first told moment on; `None` where it never does
  pub ends : Option ℕ
  -- how many queries of lookups were sent, or failed to be
  pub sends : ℕ
  -- how many datagrams came, and how many of them were foreign
  pub got : ℕ
  pub foreign : ℕ
  -- how many replies were sent, those aside that the link refused
  pub replied : ℕ
  -- how many receives the round has so far; 0 where the next one begins a round
  pub receives : ℕ
  -- how many receives there were in all
  pub made : ℕ
  -- the reply that the last datagram is owed and has not got
  pub owed : Option Owed
  -- what is of each lookup
  pub each : List Mine
  -- how many follow-ups were sent, or failed to be
  pub followed : ℕ

-- How events are read beside the journals: the number of the lookup that owns each query, follow-ups too; the calls of the
-- foreign datagrams with their replies; the contacts that receives lost by their deadlines; and of which lookups the follow-ups
-- were that were sent; each in order.
pub record Reading : Type 0 where
  pub owners : List ℕ
  pub did : List Did
  pub lost : List Contact
  pub told : List ℕ

-- nothing is read of an event
abbrev pub nothing_read : Reading
nothing_read = record { owners = []; did = []; lost = []; told = [] }

abbrev pub owned_by : ℕ → Reading
owned_by i = record { owners = i ∷ []; did = []; lost = []; told = [] }

-- a follow-up of this lookup, by whether it was sent
abbrev pub said_by : ℕ → Bool → Reading
said_by i was_sent = record { owners = i ∷ []; did = []; lost = []; told = cond was_sent (i ∷ []) [] }

-- the one, and then the other
abbrev pub and_then : Reading → Reading → Reading
and_then a b = record { owners = a.owners ++ b.owners; did = a.did ++ b.did; lost = a.lost ++ b.lost; told = a.told ++ b.told }

-- what is read of a receive: the calls of its datagram, and whom it lost
abbrev pub read_of : List Did → List Mine → Reading
read_of did ns = record { owners = []; did = did; lost = flat_map (λ n. n.lost) ns; told = [] }

-- the open queries of all lookups
abbrev pub open_of : List Mine → List OpenQuery
open_of ms = flat_map (λ m. m.queries) ms

-- and their deadlines
abbrev pub deadlines_of : List Mine → List ℕ
deadlines_of ms = map (λ q. q.deadline) (open_of ms)

-- ---- sending

-- the i-th lookup moves, and all others are as they were
abbrev pub OneMoves : (Whose → Mine → Mine → Type 0) → ℕ → List Whose → List Mine → List Mine → Type 0
OneMoves R i [] ms ns = ⊥
OneMoves R i (w ∷ ws) [] ns = ⊥
OneMoves R i (w ∷ ws) (m ∷ ms) [] = ⊥
OneMoves R zero (w ∷ ws) (m ∷ ms) (n ∷ ns) = R w m n × (ns ≡ ms)
OneMoves R (suc i) (w ∷ ws) (m ∷ ms) (n ∷ ns) = (n ≡ m) × OneMoves R i ws ms ns

-- a query of one lookup, its owner, where no reply is owed; of all that were sent it is one more
pub record AsksOne (R : Whose → Mine → Mine → Type 0) (ws : List Whose) (s : Shown) (read : Reading) (t : Shown) : Type 0 where
  pub owner : ℕ
  pub owns : read ≡ owned_by owner
  pub none_owed : s.owed ≡ None
  pub each : List Mine
  pub moves : OneMoves R owner ws s.each each
  pub after : t ≡ record s { sends = s.sends + 1; each = each }

-- the reply that is owed, after which so many were sent
pub record PaysOwed (s : Shown) (to : Addr) (bytes : List ℕ) (replied : ℕ) (read : Reading) (t : Shown) : Type 0 where
  pub owes : s.owed ≡ Some (record { to = to; reply = bytes })
  pub nothing : read ≡ nothing_read
  pub after : t ≡ record s { owed = None; replied = replied }

-- ---- receiving

-- the events gave all that the driver has in the journal, and every path has run out
pub record IsOver (w : Whose) (m : Mine) : Type 0 where
  pub all_given : m.given ≡ driven w.journal
  pub run_out : (p : ℕ) → p < w.setting.paths → RunOut w.setting p w.journal

-- Some query is open, and the receive waits for its reply, whatever the end by time is. Or none is, and all lookups are over: then
-- the receive behind a follow-up waits for nothing; and where all follow-ups went out, fewer receives were made than are wanted,
-- and the moment told last is before the end, it waits for a minute, to the end at most, or to the last moment that there is.
pub data MayWait (wanted : ℕ) (follows : List FollowUp) (ws : List Whose) (s : Shown) (until : ℕ) : Type 0 where
  for_replies : open_of s.each ≢ [] → WaitsUntil s.receives s.moment (deadlines_of s.each) until → MayWait wanted follows ws s until
  for_follow_ups : 0 < length follows → open_of s.each ≡ [] → AllZip IsOver ws s.each → s.receives ≢ 0 → until ≡ s.moment → MayWait wanted follows ws s until
  for_others : open_of s.each ≡ [] → AllZip IsOver ws s.each → length follows ≤ s.followed → s.receives ≡ 0 → s.made < wanted → is_over s.ends s.moment ≡ false → until ≡ waits_to s.ends s.moment → MayWait wanted follows ws s until

-- where a receive begins a round, no path of any lookup may ask
abbrev pub AllHaveAsked : ℕ → List Whose → List Mine → Type 0
AllHaveAsked zero ws ms = AllZip HaveAsked ws ms
AllHaveAsked (suc n) ws ms = Unit {0}

-- a receive may be made, and waits as long as it has to
pub record Receives (wanted : ℕ) (follows : List FollowUp) (ws : List Whose) (s : Shown) (until : ℕ) : Type 0 where
  pub none_owed : s.owed ≡ None
  pub waits : MayWait wanted follows ws s until
  pub asked : AllHaveAsked s.receives ws s.each

-- The first lookup that has an open query to which the datagram replies gets its entry. Then each gets its timeouts.
abbrev pub FirstTakes : Accepts → Addr → List ℕ → ℕ → List Whose → List Mine → List Mine → Type 0
FirstTakes accepts from bytes at [] ms ns = ⊥
FirstTakes accepts from bytes at (w ∷ ws) [] ns = ⊥
FirstTakes accepts from bytes at (w ∷ ws) (m ∷ ms) [] = ⊥
FirstTakes accepts from bytes at (w ∷ ws) (m ∷ ms) (n ∷ ns) =
    (MatchGives w.quest accepts m from bytes at n × (ns ≡ map (waited at) ms))
    ⊎ (IsStray w.quest accepts m.queries from bytes × (n ≡ waited at m) × FirstTakes accepts from bytes at ws ms ns)

-- it replies to no open query of any
abbrev pub IsForeign : Accepts → Addr → List ℕ → List Whose → List Mine → Type 0
IsForeign accepts from bytes ws ms = AllZip (λ w m. IsStray w.quest accepts m.queries from bytes) ws ms

-- What a foreign datagram is owed: nothing where it is no query that is answered, and no call is made for it. Else the reply
-- that the replies to its calls give, with its tag where the node is sealed, to its source.
abbrev pub Owes : Tags → ServeSetting → Addr → List ℕ → ℕ → List Did → Option Owed → Type 0
Owes tags server from bytes at did None = IsSilent from bytes × (did ≡ [])
Owes tags server from bytes at did (Some owed) = (owed.to ≡ from) × IsReply tags server from bytes at owed.reply did

-- what the events show after a receive
abbrev pub after_receive : Shown → ℕ → ℕ → ℕ → ℕ → Option Owed → List Mine → Shown
after_receive s at got foreign receives owed ns = record {
  moment = at;
  ends = s.ends;
  sends = s.sends;
  got = got;
  foreign = foreign;
  replied = s.replied;
  receives = receives;
  made = s.made + 1;
  owed = owed;
  each = ns;
  followed = s.followed;
}

-- after a datagram
abbrev pub after_got : Shown → ℕ → ℕ → Option Owed → List Mine → Shown
after_got s at foreign owed ns = after_receive s at (s.got + 1) foreign (goes_on s.receives (length (open_of ns))) owed ns

-- after a receive that gave none: the round is over
abbrev pub after_quiet : Shown → ℕ → Shown
after_quiet s at = after_receive s at s.got s.foreign 0 None (map (waited at) s.each)

-- one lookup takes the datagram
pub record IsTaken (f : Frame) (ws : List Whose) (s : Shown) (from : Addr) (bytes : List ℕ) (at : ℕ) (read : Reading) (t : Shown) : Type 0 where
  pub each : List Mine
  pub first : FirstTakes f.accepts from bytes at ws s.each each
  pub read_is : read ≡ read_of [] each
  pub after : t ≡ after_got s at s.foreign None each

-- or it is foreign, and may be owed a reply
pub record IsAnsweredFor (f : Frame) (ws : List Whose) (s : Shown) (from : Addr) (bytes : List ℕ) (at : ℕ) (read : Reading) (t : Shown) : Type 0 where
  pub foreign : IsForeign f.accepts from bytes ws s.each
  pub did : List Did
  pub read_is : read ≡ read_of did (map (waited at) s.each)
  -- while a query is open it isn't the last that is taken
  pub few : open_of s.each ≢ [] → s.foreign + 1 < max_strays
  pub owed : Option Owed
  pub owes : Owes f.tags f.server from bytes at did owed
  pub after : t ≡ after_got s at (s.foreign + 1) owed (map (waited at) s.each)

-- ---- follow-ups

-- a follow-up as a datagram: the node answers others, so it isn't read-only (BEP 43), and brings the proof of its identifier, if it
-- has one
abbrev pub follow_bytes : Option Proof → ℕ → Ask → List ℕ
follow_bytes proof tx ask = form (message.Query (word_bytes tx) false proof ask)

-- The next follow-up, where every path of each lookup has run out, under the next word. It begins a round of one receive, which
-- doesn't wait.
pub record SaysNext (f : Frame) (ws : List Whose) (s : Shown) (to : Addr) (bytes : List ℕ) (was_sent : Bool) (read : Reading) (t : Shown) : Type 0 where
  pub due : FollowUp
  pub none_owed : s.owed ≡ None
  pub none_open : open_of s.each ≡ []
  pub over : AllZip IsOver ws s.each
  pub round_over : s.receives ≡ 0
  pub next : slice_get f.follows s.followed ≡ Some due
  pub to_is : to ≡ due.to
  pub bytes_are : bytes ≡ follow_bytes f.server.proof (word f.seed (f.place + s.sends)) due.ask
  pub read_is : read ≡ said_by due.owner was_sent
  pub after : t ≡ record s { sends = s.sends + 1; receives = 1; followed = s.followed + 1 }

-- ---- all events

-- what one event gives, and how it is read; the moment is asked for before anything else, and never again
abbrev pub Gives : Frame → List Whose → Shown → Event → Reading → Shown → Type 0
Gives f ws s (Now at) read t = ⊥
Gives f ws s (Sent to bytes) read t =
    AsksOne (λ w m n. SentGives w.quest (word f.seed (f.place + s.sends)) (deadline_of s.moment w.quest.timeout) m to bytes n) ws s read t
    ⊎ (PaysOwed s to bytes (s.replied + 1) read t ⊎ SaysNext f ws s to bytes true read t)
Gives f ws s (Unsent to bytes) read t =
    AsksOne (λ w m n. UnsentGives w.quest (word f.seed (f.place + s.sends)) m to bytes n) ws s read t
    ⊎ (PaysOwed s to bytes s.replied read t ⊎ SaysNext f ws s to bytes false read t)
Gives f ws s (Got from bytes until at) read t = Receives f.wanted f.follows ws s until × (IsTaken f ws s from bytes at read t ⊎ IsAnsweredFor f ws s from bytes at read t)
Gives f ws s (Quiet until at) read t = Receives f.wanted f.follows ws s until × (read ≡ read_of [] (map (waited at) s.each)) × (t ≡ after_quiet s at)

-- what events give, one after another, up to what they show then, and how all are read
abbrev pub GivesFrom : Frame → List Whose → Shown → List Event → Shown → Reading → Type 0
GivesFrom f ws s [] t read = (t ≡ s) × (read ≡ nothing_read)
GivesFrom f ws s (e ∷ es) t read =
    (mid : Shown) × (one : Reading) × (rest : Reading) × Gives f ws s e one mid × GivesFrom f ws mid es t rest × (read ≡ and_then one rest)

-- nothing of a lookup yet
abbrev pub fresh : Mine
fresh = record { queries = []; given = []; since = []; lost = []; heard = [] }

-- after the first event, which tells the moment from which the minutes count
abbrev pub begun : ℕ → ℕ → ℕ → Shown
begun minutes count at = record { moment = at; ends = end_of at minutes; sends = 0; got = 0; foreign = 0; replied = 0; receives = 0; made = 0; owed = None; each = replicate count fresh; followed = 0 }

-- The events tell the journals so far: they give exactly the driver's entries of each, in order, and no reply is owed.
abbrev pub ManyTellSoFar : Frame → List Whose → List Event → Reading → Shown → Type 0
ManyTellSoFar f ws [] read end = AllByRecursion (λ w. driven w.journal ≡ []) ws × (read ≡ nothing_read) × (end ≡ begun f.minutes (length ws) 0)
ManyTellSoFar f ws (Now at ∷ rest) read end =
    GivesFrom f ws (begun f.minutes (length ws) at) rest end read × AllZip (λ w m. m.given ≡ driven w.journal) ws end.each × (end.owed ≡ None)
ManyTellSoFar f ws other read end = ⊥

-- and no query of any lookup is open at the end, all follow-ups went out, and as many receives were made as are wanted, or the
-- moment told last is at or past the end by time
pub record ManyTell (f : Frame) (ws : List Whose) (events : List Event) (read : Reading) : Type 0 where
  pub end : Shown
  pub so_far : ManyTellSoFar f ws events read end
  pub none_open : open_of end.each ≡ []
  pub followed : end.followed ≡ length f.follows
  pub enough : (f.wanted ≤ end.made) ⊎ (is_over end.ends end.moment ≡ true)

-- The events tell the journals so far, and end with the foreign datagram of this number, before which a query of a lookup was
-- open.
pub record EndsAtForeign (f : Frame) (ws : List Whose) (events : List Event) (read : Reading) (number : ℕ) : Type 0 where
  pub before : List Event
  pub end : Shown
  pub from : Addr
  pub bytes : List ℕ
  pub until : ℕ
  pub at : ℕ
  pub so_far : ManyTellSoFar f ws before read end
  pub last : events ≡ before ++ Got from bytes until at ∷ []
  pub some_open : open_of end.each ≢ []
  pub foreign : IsForeign f.accepts from bytes ws end.each
  pub count : end.foreign + 1 ≡ number
