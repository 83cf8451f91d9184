use Rattle.std.proofs.Common.{◌≡◌, [], ◌∷◌}
use Rattle.follow_ups.specs.Announced.{asks_of, first_from}
use Rattle.follow_ups.proofs.Announcing.{first_at, one_tried, drawn_one, none_tried}
use Rattle.follow_ups.proofs.announce.announce_to.Goals as goal

pub returns-in_ok-sent-in-Some-clause-ok : goal.returns-in_ok-sent-in-Some-clause-ok
returns-in_ok-sent-in-Some-clause-ok g c =
    let first : first_from c.args.tokens.now c.args.contact.now ≡ c.index-tokens-place.result ∷ [] =
    first_at c.args.tokens.now c.args.contact.now c.in-Some.place c.index-tokens-place.result c.in-Some.ensures c.index-tokens-place.is in
    one_tried c.args.read_only c.args.proof c.args.words.now (asks_of c.args.said.now) c.args.tokens.now c.args.contact.now c.index-tokens-place.result c.next-tx.result c.in_ok-sent-in-Some.sent c.from.result _ _ c.next-tx.ensures.value first c.from.ensures c.in_ok-sent-in-Some.ensures.ok

pub returns-in_ok-sent-in-Some-clause-drawn : goal.returns-in_ok-sent-in-Some-clause-drawn
returns-in_ok-sent-in-Some-clause-drawn g c =
    let first : first_from c.args.tokens.now c.args.contact.now ≡ c.index-tokens-place.result ∷ [] =
    first_at c.args.tokens.now c.args.contact.now c.in-Some.place c.index-tokens-place.result c.in-Some.ensures c.index-tokens-place.is in
    drawn_one c.args.words.now c.next-tx.new.self c.args.tokens.now c.args.contact.now c.index-tokens-place.result first c.next-tx.ensures.place

pub returns-in-None-clause-ok : goal.returns-in-None-clause-ok
returns-in-None-clause-ok g c = none_tried c.args.read_only c.args.proof c.args.words.now (asks_of c.args.said.now) c.args.tokens.now c.args.contact.now _ c.in-None.ensures
