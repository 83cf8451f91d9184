use Rattle.std.proofs.Common.{length, ◌/◌, sym, ap, ◌∙◌}
use Rattle.kad_records.proofs.Places.{records_long}
use Rattle.kad_records.proofs.records.count.Goals as goal

pub returns : goal.returns
returns g c = ap (λ n. length c.args.bytes.now / n) c.SIZE.ensures ∙ sym (records_long g.R.Record.SIZE g.R.Record.reads c.args.bytes.now)
