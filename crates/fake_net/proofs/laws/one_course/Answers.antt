use Rattle.fake_net.proofs.Course.{received_once, told_once, none_unsent}
use Rattle.fake_net.proofs.laws.one_course.Goals as goal

pub returns-clause-received : goal.returns-clause-received
returns-clause-received c = received_once

pub returns-clause-told : goal.returns-clause-told
returns-clause-told c = told_once

pub returns-clause-sent : goal.returns-clause-sent
returns-clause-sent c = none_unsent
