use Rattle.std.proofs.Common.{◌≡◌, take}
use Rattle.std.specs.Prelude.{flat_map}
use Rattle.kad_text.specs.Text.{contact_text}
use Rattle.command_base.specs.Printed.{line_of}
use Rattle.command_base.proofs.printed.print.Given as goal

abbrev pub invariant-loop-contact : goal.invariant-loop-contact
invariant-loop-contact l = l.output ≡ flat_map (λ contact. line_of (contact_text contact)) (take l.contact-index l.found)
