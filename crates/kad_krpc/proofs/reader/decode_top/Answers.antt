use Rattle.std.proofs.Common.{Ok, Err}
use Rattle.kad_krpc.proofs.Decoding.{says, refuses, only, refused, bad_only, bad_refused}
use Rattle.kad_krpc.proofs.reader.decode_top.Goals as goal

pub returns-in-Ok-read_value-clause-says : goal.returns-in-Ok-read_value-clause-says
returns-in-Ok-read_value-clause-says c = says c.args.bytes.now c.in-Ok.top c.in-Ok.ensures.spells (Ok c.in-Ok-read_value.view) c.in-Ok-read_value.ensures

pub returns-in-Ok-read_value-clause-only : goal.returns-in-Ok-read_value-clause-only
returns-in-Ok-read_value-clause-only c = only c.args.bytes.now c.in-Ok.top c.in-Ok.ensures.spells (Ok c.in-Ok-read_value.view) c.in-Ok-read_value.ensures

pub returns-in-Ok-read_value-clause-refused : goal.returns-in-Ok-read_value-clause-refused
returns-in-Ok-read_value-clause-refused c fault r = (let e = refused c.args.bytes.now c.in-Ok.top c.in-Ok.ensures.spells (Ok c.in-Ok-read_value.view) c.in-Ok-read_value.ensures fault r in absurd cc)

pub returns-in-Err-read_value-clause-refuses : goal.returns-in-Err-read_value-clause-refuses
returns-in-Err-read_value-clause-refuses c = refuses c.args.bytes.now c.in-Ok.top c.in-Ok.ensures.spells (Err c.in-Err-read_value.fault) c.in-Err-read_value.ensures

pub returns-in-Err-read_value-clause-only : goal.returns-in-Err-read_value-clause-only
returns-in-Err-read_value-clause-only c m s = only c.args.bytes.now c.in-Ok.top c.in-Ok.ensures.spells (Err c.in-Err-read_value.fault) c.in-Err-read_value.ensures m s

pub returns-in-Err-read_value-clause-refused : goal.returns-in-Err-read_value-clause-refused
returns-in-Err-read_value-clause-refused c fault r = (let e = refused c.args.bytes.now c.in-Ok.top c.in-Ok.ensures.spells (Err c.in-Err-read_value.fault) c.in-Err-read_value.ensures fault r in cc)

pub returns-in-Err-clause-only : goal.returns-in-Err-clause-only
returns-in-Err-clause-only c = bad_only c.args.bytes.now c.in-Err.bad c.in-Err.ensures.only

pub returns-in-Err-clause-refused : goal.returns-in-Err-clause-refused
returns-in-Err-clause-refused c = bad_refused c.args.bytes.now c.in-Err.bad c.in-Err.ensures.only c.in-Err.ensures.refused
