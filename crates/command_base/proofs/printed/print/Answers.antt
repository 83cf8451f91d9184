use Rattle.std.proofs.Common.{◌∙◌, refl}
use Rattle.command_base.proofs.Printing.{line_more, print_end}
use Rattle.command_base.proofs.printed.print.Goals as goal

pub loop-contact-preserved : goal.loop-contact-preserved
loop-contact-preserved c =
    line_more c.args.found.now c.loop-contact.output c.add_contact.new.output c.loop-contact.contact-index _ _ c.loop-contact-test.true c.loop-contact.invariant refl c.in_ok-add_contact.ensures

pub returns : goal.returns
returns c =
    print_end c.args.found.now c.loop-contact.output c.add_line.new.output _ c.loop-contact.contact-index _ _ _ c.loop-contact-test.false c.loop-contact.invariant (c.as_str.ensures.value ∙ c.in-Ok.ensures) c.in_ok-add_line.ensures
