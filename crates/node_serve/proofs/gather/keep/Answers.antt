use Rattle.std.proofs.Common.{[], ◌∷◌, refl}
use Rattle.item_store.specs.declared.calls.ItemCall.TheVariants.{Put}
use Rattle.item_store.specs.declared.calls.ItemReply.TheVariants.{NoMemory}
use Rattle.node_serve.specs.Calls.{on_items}
use Rattle.node_serve.proofs.gather.keep.Goals as goal

pub returns-in-Stored-clause-ok : goal.returns-in-Stored-clause-ok
returns-in-Stored-clause-ok g c = λ s. record { fits = tt; run = (c.call_items.new.self, c.in-Stored.ensures.does, refl) }

pub returns-in-Crowded-clause-ok : goal.returns-in-Crowded-clause-ok
returns-in-Crowded-clause-ok g c = λ s. record { fits = tt; run = (c.call_items.new.self, c.in-Crowded.ensures.does, refl) }

pub returns-in-Full-clause-ok : goal.returns-in-Full-clause-ok
returns-in-Full-clause-ok g c = λ s. record { fits = tt; run = (c.call_items.new.self, c.in-Full.ensures.does, refl) }

pub returns-in-NoMemory-clause-err : goal.returns-in-NoMemory-clause-err
returns-in-NoMemory-clause-err g c =
    λ s. record { did = on_items (Put c.args.v c.args.from c.args.at) NoMemory ∷ []; fails = refl; run = (c.call_items.new.self, c.in-NoMemory.ensures.does, refl) }
