use Rattle.std.specs.Map.{keys_of}
use Rattle.peer_store.proofs.Ordered.{sorted_by}
use Rattle.peer_store.proofs.adds.drop_old.Goals as goal

pub returns-clause-sorted : goal.returns-clause-sorted
returns-clause-sorted c = sorted_by (keys_of c.purge.new.self.held) c.purge.ensures.sorted
