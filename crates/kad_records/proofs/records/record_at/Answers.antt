use Rattle.std.proofs.Common.{ap, sym, ◌∙◌, Some, slice_get, ◌*◌, arith}
use Rattle.kad_records.specs.Records.{records_in}
use Rattle.kad_records.proofs.Lists.{one_part}
use Rattle.kad_records.proofs.Places.{record_there, no_record}
use Rattle.kad_records.proofs.records.record_at.Goals as goal

pub returns-then-i-bytes : goal.returns-then-i-bytes
returns-then-i-bytes g c =
    sym (no_record c.SIZE-size.result g.R.Record.reads c.args.bytes.now c.args.i (omega arith))
    ∙ ap (λ n. slice_get (records_in n g.R.Record.reads c.args.bytes.now) c.args.i) c.SIZE-size.ensures

pub returns : goal.returns
returns g c =
    ap Some (c.read.ensures ∙ ap g.R.Record.reads (one_part (c.args.i * c.SIZE-size.result) c.SIZE-size.result c.args.bytes.now))
    ∙ sym (record_there c.SIZE-size.result g.R.Record.reads c.args.bytes.now c.args.i (omega arith))
    ∙ ap (λ n. slice_get (records_in n g.R.Record.reads c.args.bytes.now) c.args.i) c.SIZE-size.ensures
