use Rattle.table_file.proofs.PartSpelling.{number_utf8}
use Rattle.table_file.proofs.parts.number_of.Goals as goal

pub returns-in_default : goal.returns-in_default
returns-in_default c = λ n le e. c.in_default.ensures.cases.0 (number_utf8 c.args.text.now n c.args.most c.ranges.most.fits le e)
