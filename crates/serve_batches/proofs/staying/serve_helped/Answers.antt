use Rattle.serve_batches.proofs.Batching.{stops_none}
use Rattle.serve_batches.proofs.Doing.{setting_known, serves_known}
use Rattle.serve_batches.specs.Serving.{begun}
use Rattle.serve_batches.proofs.staying.serve_helped.Goals as goal

pub open_desks-requires : goal.open_desks-requires
open_desks-requires g c = record { setting = setting_known g.B.Serving.known _ c.requires.known }

pub serve_together-requires-clause-serves : goal.serve_together-requires-clause-serves
serve_together-requires-clause-serves g c κs within = serves_known g.B.Serving.known _ c.requires.known

pub returns-in-Err-clause-err : goal.returns-in-Err-clause-err
returns-in-Err-clause-err g c =
    stops_none (g.G.Seal.tag_of c.args.service.now.seal.now) c.args.service.now.end c.args.setting (begun c.args.duty.began c.args.duty.lasting.receives) c.args.crew.now.items _
