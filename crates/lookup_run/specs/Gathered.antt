-- What the heard answers of a lookup gave beside contacts, by its events: peers and tokens (BEP 5), and items (BEP 44).
use Rattle.std.specs.Prelude.{◌≡◌, ℕ, List, [], ◌∷◌, ◌++◌}
use Rattle.kad_base.specs.declared.types.Addr.{Addr}
use Rattle.kad_base.specs.declared.types.Event.{Event}
use Rattle.kad_base.specs.declared.types.Event.TheVariants.{Now, Got}
use Rattle.claim_book.specs.declared.types.Entry.{Entry}
use Rattle.lookup_core.specs.declared.gather.Item.{Item}
use Rattle.lookup_core.specs.declared.gather.Token.{Token}
use Rattle.lookup_core.specs.declared.quest.Quest.{Quest}
use Rattle.lookup_core.specs.Gathered.{HearsOne, GathersOf}
use Rattle.lookup_core.specs.Reply.{Answered}
use Rattle.lookup_core.specs.Sealed.{Accepts}
use Rattle.lookup_run.specs.Tells.{Given, Seen, Gives, begun, driven}

-- what one event shows to be heard
abbrev pub Hears : Quest → Accepts → Seen → Event → List Answered → Type 0
Hears quest accepts s (Got from bytes until at) found = HearsOne quest accepts s.queries from bytes found
Hears quest accepts s other found = found ≡ []

-- one event: what it gives, and what it shows to be heard
pub record HearsStep (g : Given) (J : List Entry) (s : Seen) (e : Event) : Type 0 where
  pub mid : Seen
  pub gives : Gives g J s e mid
  pub found : List Answered
  pub hears : Hears g.quest g.accepts s e found

-- what the events show to be heard, in order, up to what they show at last
abbrev pub HearsFrom : Given → List Entry → Seen → List Event → Seen → List Answered → Type 0
HearsFrom g J s [] t heard = (t ≡ s) × (heard ≡ [])
HearsFrom g J s (e ∷ es) t heard = (step : HearsStep g J s e) × (rest : List Answered) × HearsFrom g J step.mid es t rest × (heard ≡ step.found ++ rest)

-- What was gathered is what the events show, read by the journal that they tell: so each query is to the contact that the
-- journal has asked, and an answer is heard where the journal has it heard.
pub record Gathers (g : Given) (J : List Entry) (events : List Event) (peers : List Addr) (tokens : List Token) (items : List Item) : Type 0 where
  pub at : ℕ
  pub rest : List Event
  pub first : events ≡ Now at ∷ rest
  pub heard : List Answered
  pub end : Seen
  pub hears : HearsFrom g J (begun at) rest end heard
  pub tells : end.given ≡ driven J
  pub gathers : GathersOf g.quest.kind heard peers tokens items
