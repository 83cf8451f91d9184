use Rattle.look_many.proofs.follow.say.Goals as goal

pub send_one-requires-clause-carried : goal.send_one-requires-clause-carried
send_one-requires-clause-carried g c = c.requires.carried c.args.proof
