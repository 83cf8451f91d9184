use Rattle.std.proofs.Common.{◌+◌}
use Rattle.lookup_crowd.proofs.AskingAll.{can_ask, leaves_all, asks_one, none_more, none_still}
use Rattle.lookup_crowd.proofs.Losing.{loses_one}
use Rattle.lookup_crowd.proofs.ask.ask_one.Goals as goal

pub ask_next-requires : goal.ask_next-requires
ask_next-requires g c = can_ask c.args.seekers.now c.args.i c.index-seekers-i.result c.args.progress.now c.args.words.now c.requires.may c.requires.within

pub returns-clause-asks : goal.returns-clause-asks
returns-clause-asks g c asked accepts tags server host =
    let r = c.requires in
    let a = c.ask_next.ensures in
    asks_one accepts tags server host c.args.i c.args.path c.args.words.now c.ask_next.new.words c.args.seekers.now c.index-seekers-i.result c.ask_next.new.seeker c.args.progress.now _ _ r.may r.none_before r.within a.quest a.gathered a.seat a.holds (a.drawn asked) (a.some asked)

pub returns-clause-one : goal.returns-clause-one
returns-clause-one g c asked =
    let r = c.requires in
    let a = c.ask_next.ensures in
    (leaves_all c.args.i c.args.path c.args.words.now c.ask_next.new.words c.args.seekers.now c.index-seekers-i.result c.ask_next.new.seeker c.args.progress.now _ _ r.may r.none_before r.within a.quest a.gathered a.seat a.holds (a.drawn asked) (a.some asked)).one

pub returns-clause-may : goal.returns-clause-may
returns-clause-may g c asked =
    let r = c.requires in
    let a = c.ask_next.ensures in
    (leaves_all c.args.i c.args.path c.args.words.now c.ask_next.new.words c.args.seekers.now c.index-seekers-i.result c.ask_next.new.seeker c.args.progress.now _ _ r.may r.none_before r.within a.quest a.gathered a.seat a.holds (a.drawn asked) (a.some asked)).may

pub returns-clause-none_before : goal.returns-clause-none_before
returns-clause-none_before g c asked =
    let r = c.requires in
    let a = c.ask_next.ensures in
    (leaves_all c.args.i c.args.path c.args.words.now c.ask_next.new.words c.args.seekers.now c.index-seekers-i.result c.ask_next.new.seeker c.args.progress.now _ _ r.may r.none_before r.within a.quest a.gathered a.seat a.holds (a.drawn asked) (a.some asked)).none

pub returns-clause-none : goal.returns-clause-none
returns-clause-none g c idle =
    let r = c.requires in
    let a = c.ask_next.ensures in
    none_still c.args.i (c.args.path + 1) c.args.seekers.now c.index-seekers-i.result c.ask_next.new.seeker (a.same idle) (none_more c.args.i c.args.path c.args.seekers.now c.index-seekers-i.result r.none_before r.within (a.none idle))

pub returns-clause-loses : goal.returns-clause-loses
returns-clause-loses g c = loses_one c.args.seekers.now c.args.i c.index-seekers-i.result c.ask_next.new.seeker _ _ c.requires.within c.ask_next.ensures.refuses
