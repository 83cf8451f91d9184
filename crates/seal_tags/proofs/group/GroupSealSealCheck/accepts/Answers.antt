use Rattle.std.proofs.Common.{length, ◌∙◌}
use Rattle.std.proofs.lemmas.Bool.{ne_eqb}
use Rattle.seal_tags.specs.Seals.{group_tag}
use Rattle.seal_tags.proofs.Comparing.{other_length}
use Rattle.seal_tags.proofs.Lengths.{length-hmac}
use Rattle.seal_tags.proofs.group.GroupSealSealCheck.accepts.Goals as goal

pub returns-else-tag-eq-TAG : goal.returns-else-tag-eq-TAG
returns-else-tag-eq-TAG c =
    let tag = c.args.tag.now in
    let other = c.if-tag-eq-TAG.false in
    ne_eqb (length tag) 20 other ∙ other_length tag (group_tag c.args.self.now c.args.id.now c.args.body.now) 20 (length-hmac _ _) other
