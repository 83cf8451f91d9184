-- What each of several lookups is for.
use Rattle.std.specs.Prelude.{List, [], Bool, true, false}
use Rattle.kad_base.specs.declared.types.Id.{Id}
use Rattle.kad_base.specs.declared.types.Contact.{Contact}
use Rattle.kad_krpc.specs.Fields.{IsCarried}
use Rattle.lookup_core.specs.declared.gather.Token.{Token}
use Rattle.lookup_core.specs.declared.quest.AskKind.{AskKind}
use Rattle.lookup_core.specs.declared.quest.AskKind.TheVariants.{FindNode, GetPeers, GetItem}
use Rattle.follow_ups.specs.declared.announce.Announcement.{Announcement}
use Rattle.follow_ups.specs.Announced.{announcements, announcing, putting}
use Rattle.look_many.specs.declared.job.Job.{Job}
use Rattle.look_many.specs.declared.job.Job.TheVariants.{Find, Peers, Announce, Get, Put}

-- what is looked up
abbrev pub target_of : Job → Id
target_of (Find target) = target
target_of (Peers key) = key
target_of (Announce key port) = key
target_of (Get key) = key
target_of (Put key v) = key

-- by which queries (BEP 5, BEP 44)
abbrev pub kind_of : Job → AskKind
kind_of (Find target) = FindNode
kind_of (Peers key) = GetPeers
kind_of (Announce key port) = GetPeers
kind_of (Get key) = GetItem
kind_of (Put key v) = GetItem

-- what its lookup owes to the contacts that it found and that gave it tokens
abbrev pub owed_for : Id → Job → List Contact → List Token → List Announcement
owed_for own (Announce key port) found tokens = announcements (announcing own key port) found tokens
owed_for own (Put key v) found tokens = announcements (putting own v) found tokens
owed_for own other found tokens = []

-- whether it may owe any
abbrev pub may_owe : Job → Bool
may_owe (Announce key port) = true
may_owe (Put key v) = true
may_owe other = false

-- what is given to be kept may stand in a message
abbrev pub MaySayOf : Job → Type 0
MaySayOf (Put key v) = IsCarried v
MaySayOf other = Unit {0}
