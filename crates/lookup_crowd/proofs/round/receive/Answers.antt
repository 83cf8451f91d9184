use Rattle.std.proofs.Common.{true}
use Rattle.lookup_crowd.specs.inner.Crowd.{stand}
use Rattle.lookup_crowd.proofs.Rounding.{may_receive, ends_now, ends_last_now}
use Rattle.lookup_crowd.proofs.round.receive.Goals as goal

pub receive_until-requires-clause-may : goal.receive_until-requires-clause-may
receive_until-requires-clause-may g c = may_receive c.args.seekers.now c.args.driver.now.progress c.wait_until-until.result c.requires.may c.wait_until-until.ensures

pub returns-in-Err-clause-stops : goal.returns-in-Err-clause-stops
returns-in-Err-clause-stops g c words =
    ends_now true c.in-Err.fault (g.G.SealCheck.accepted c.args.site.now.seal.now) (g.G.Seal.tag_of c.args.site.now.seal.now) c.args.site.now.desk.setting.now (stand c.args.seekers.now c.args.driver.now.progress words c.args.driver.now.host (g.L.Link.told c.args.link.now)) c.receive_until.new.driver.host (g.L.Link.told c.receive_until.new.link) c.all_legal.ensures (c.in-Err.ensures.stops words) c.in-Err.ensures.ran_on

pub returns-in-Err-clause-strays : goal.returns-in-Err-clause-strays
returns-in-Err-clause-strays g c is words =
    ends_last_now (g.G.SealCheck.accepted c.args.site.now.seal.now) (g.G.Seal.tag_of c.args.site.now.seal.now) c.args.site.now.desk.setting.now (stand c.args.seekers.now c.args.driver.now.progress words c.args.driver.now.host (g.L.Link.told c.args.link.now)) c.receive_until.new.driver.host (g.L.Link.told c.receive_until.new.link) c.all_legal.ensures (c.in-Err.ensures.strays is words) c.in-Err.ensures.ran_on
