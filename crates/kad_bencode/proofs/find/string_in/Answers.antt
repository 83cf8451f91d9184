use Rattle.std.proofs.Common.{[]}
use Rattle.kad_bencode.specs.Machine.{AsValue}
use Rattle.kad_bencode.specs.declared.value.Value.TheVariants as value
use Rattle.kad_bencode.proofs.Skipping.{no_inside}
use Rattle.kad_bencode.proofs.Looking.{awaits_front, begins_string, string_front}
use Rattle.kad_bencode.proofs.find.string_in.Goals as goal

pub returns-in-Ok-clause-reads : goal.returns-in-Ok-clause-reads
returns-in-Ok-clause-reads c s rest e = string_front c.args.bytes.now s rest e c.in-Ok.string.now c.in-Ok.next (c.in-Ok.ensures.reads (AsValue []) (awaits_front c.args.bytes.now s rest e))

pub returns-in-Err-clause-reads : goal.returns-in-Err-clause-reads
returns-in-Err-clause-reads c s rest e =
    no_inside c.args.bytes.now (value.Text s) (begins_string c.args.bytes.now s rest e) _ (c.in-Err.ensures.reads (AsValue []) (awaits_front c.args.bytes.now s rest e)) c.in-Err.ensures.inside
