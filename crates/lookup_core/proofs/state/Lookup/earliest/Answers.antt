use Rattle.lookup_core.proofs.Waiting.{soonest_of}
use Rattle.lookup_core.proofs.state.Lookup.earliest.Goals as goal

pub returns : goal.returns
returns c = soonest_of c.next_deadline.result c.args.self.now.queries c.next_deadline.ensures.oldest c.next_deadline.ensures.earliest c.next_deadline.ensures.none
