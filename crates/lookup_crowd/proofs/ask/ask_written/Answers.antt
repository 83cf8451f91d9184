use Rattle.std.proofs.Common.{[], ◌∷◌, ◌++◌, ◌∙◌, refl, ap, arith}
use Rattle.lookup_crowd.proofs.AskingAll.{asks_none, asks_behind}
use Rattle.lookup_crowd.proofs.Losing.{loses_none}
use Rattle.lookup_crowd.proofs.ask.ask_written.Goals as goal

pub returns-then-is_err-clause-asks : goal.returns-then-is_err-clause-asks
returns-then-is_err-clause-asks g c accepts tags server host =
    asks_none accepts tags server host c.args.words.now c.args.words.now c.args.seekers.now c.args.seekers.now c.args.progress.now _ _ c.args.owners.now.items c.reserve.new.self.items c.requires.may refl refl refl c.reserve.ensures.items

pub returns-then-not-ask_one-clause-asks : goal.returns-then-not-ask_one-clause-asks
returns-then-not-ask_one-clause-asks g c accepts tags server host =
    let e = c.if-not-ask_one.ensures in
    asks_none accepts tags server host c.args.words.now c.ask_one.new.words c.args.seekers.now c.ask_one.new.seekers c.args.progress.now _ _ c.args.owners.now.items c.reserve.new.self.items c.requires.may (e.same refl) (e.same_words refl) (e.same_told refl) c.reserve.ensures.items

pub returns-clause-asks : goal.returns-clause-asks
returns-clause-asks g c accepts tags server host =
    asks_behind accepts tags server host c.args.words.now c.ask_one.new.words c.args.seekers.now c.ask_one.new.seekers c.args.progress.now _ _ c.args.owners.now.items c.push_reserved.new.self.items (c.args.i ∷ []) (c.if-not-ask_one.ensures.asks refl accepts tags server host)
    (c.push_reserved.ensures.items ∙ ap (λ l. l ++ c.args.i ∷ []) c.reserve.ensures.items)

pub returns-then-is_err-clause-loses : goal.returns-then-is_err-clause-loses
returns-then-is_err-clause-loses g c = loses_none _ _ _ _ refl (omega arith)
