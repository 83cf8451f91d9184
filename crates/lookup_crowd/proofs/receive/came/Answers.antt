use Rattle.lookup_crowd.specs.inner.ManySteps.{owed_in}
use Rattle.lookup_crowd.proofs.Heard.{seats_then, expired_seats}
use Rattle.lookup_crowd.proofs.Telling.{handled_hold}
use Rattle.lookup_crowd.proofs.receive.came.Goals as goal

pub expire_all-requires-clause-holds : goal.expire_all-requires-clause-holds
expire_all-requires-clause-holds g c =
    handled_hold (g.G.SealCheck.accepted c.args.site.now.seal.now) (g.G.Seal.tag_of c.args.site.now.seal.now) c.args.site.now.desk.setting.now c.args.busy c.args.datagram.now.from c.args.datagram.now.bytes.now c.args.datagram.now.at c.args.seekers.now c.handle.new.seekers c.args.driver.now.progress c.handle.new.driver.progress c.args.driver.now.host c.handle.new.driver.host (owed_in c.in-Ok.reply c.args.datagram.now.from c.handle.new.out) c.requires.holds c.in-Ok.ensures.ok

pub returns-clause-seats : goal.returns-clause-seats
returns-clause-seats g c = seats_then c.args.seekers.now c.handle.new.seekers c.expire_all.new.seekers c.handle.ensures.seats (expired_seats c.args.datagram.now.at c.handle.new.seekers c.expire_all.new.seekers c.expire_all.ensures.expires)
