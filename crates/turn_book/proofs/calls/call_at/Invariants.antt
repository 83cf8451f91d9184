use Rattle.std.proofs.Common.{Some}
use Rattle.kad_base.specs.Serial.{made}
use Rattle.turn_book.proofs.calls.call_at.Given as goal

abbrev pub ghosts-give : goal.ghosts-give
ghosts-give g a = record { made = Some (made a.role a.call.now.value a.reply.now) }

abbrev pub ghosts-take : goal.ghosts-take
ghosts-take g a = record { start = Some a.board.now.shared.key.state.value }
