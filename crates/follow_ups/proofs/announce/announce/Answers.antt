use Rattle.std.proofs.Common.{ap, ◌∙◌, arith}
use Rattle.id_puzzles.specs.Drawn.{WordsState}
use Rattle.follow_ups.specs.Announced.{asks_of}
use Rattle.follow_ups.proofs.Announcing.{sends_more, words_more, some_made, few_taken, told_still, any_err}
use Rattle.follow_ups.proofs.announce.announce.Goals as goal

pub announce_to-requires-clause-place : goal.announce_to-requires-clause-place
announce_to-requires-clause-place g c =
    let i = c.loop-contact.contact-index in
    let place = ap (λ (w : WordsState). w.place) c.loop-contact.invariant.words in
    let few = few_taken c.args.tokens.now c.args.found.now i in
    let lt = c.loop-contact-test.true in
    let room = c.requires.place in
    omega (arith, place, few, lt, room)

pub returns-in_err-sent-clause-err : goal.returns-in_err-sent-clause-err
returns-in_err-sent-clause-err g c =
    let a = asks_of c.args.said.now in
    let made = some_made c.args.read_only c.args.proof c.args.words.now.seed c.args.words.now.place a c.args.tokens.now c.args.found.now c.loop-contact.contact-index c.loop-contact.sent _ _ c.loop-contact.invariant.sends in
    any_err _ _ (told_still _ _ _ _ (ap g.L.Link.told c.in_err-sent.ensures.err) made)

pub loop-contact-preserved : goal.loop-contact-preserved
loop-contact-preserved g c =
    let a = asks_of c.args.said.now in
    let i = c.loop-contact.invariant in
    record {
      sends = sends_more c.args.read_only c.args.proof c.args.words.now c.loop-contact.words a c.args.tokens.now c.args.found.now c.loop-contact.contact-index _ c.loop-contact.sent c.in_ok-sent.field-0 _ _ _ c.loop-contact-test.true i.words i.sends c.in_ok-sent.ensures.ok;
      words = words_more c.args.words.now c.loop-contact.words c.announce_to.new.words c.args.tokens.now c.args.found.now c.loop-contact.contact-index _ c.loop-contact-test.true i.words c.in_ok-sent.ensures.drawn;
      few = (let b = i.few in let d = c.in_ok-sent.ensures.most in omega (arith, b, d));
      faults = c.announce_to.ensures.recv_faults ∙ i.faults;
      refused = (let b = i.refused in let d = c.announce_to.ensures.send_faults in omega (arith, b, d));
      kept = c.announce_to.ensures.kept ∙ i.kept;
    }
