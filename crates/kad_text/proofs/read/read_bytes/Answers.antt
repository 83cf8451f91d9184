use Rattle.std.proofs.Common.{◌∙◌, inl, inr, Ok, Err, ap, sym}
use Rattle.kad_text.proofs.HexSpelling.{bytes_decoded, bytes_decode}
use Rattle.kad_text.proofs.read.read_bytes.Goals as goal

pub returns-in-Ok : goal.returns-in-Ok
returns-in-Ok c = bytes_decoded c.args.text.now c.from_vec.result (c.in-Ok.ensures.ok ∙ ap (λ l. Ok l) (sym c.from_vec.ensures))

pub unreachable-requires : goal.unreachable-requires
unreachable-requires c =
    elim c.in-Err.ensures.err [
      | inl lacked ↦ c.in_default.not-OutOfMemory lacked
      | inr refused ↦ let read = bytes_decode c.args.text.now c.requires.0 c.requires.1 in absurd (let e = sym read ∙ refused in cc)
    ]
