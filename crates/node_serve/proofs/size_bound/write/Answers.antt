use Rattle.node_serve.proofs.Small.{small_forms, small_immutable}
use Rattle.node_serve.proofs.size_bound.write.Goals as goal

pub encode_into-requires-clause-forms : goal.encode_into-requires-clause-forms
encode_into-requires-clause-forms c = small_forms c.args.message.now c.requires

pub encode_into-requires-clause-immutable : goal.encode_into-requires-clause-immutable
encode_into-requires-clause-immutable c = small_immutable c.args.message.now c.requires

pub returns-clause-forms : goal.returns-clause-forms
returns-clause-forms c = small_forms c.args.message.now c.requires
