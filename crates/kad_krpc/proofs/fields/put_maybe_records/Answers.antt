use Rattle.std.proofs.Common.{subst, sym, ap, ◌∙◌}
use Rattle.std.specs.Prelude.{flat_map}
use Rattle.kad_bencode.specs.Spelling.{string_text}
use Rattle.kad_bencode.specs.Written.{PutsPairs}
use Rattle.kad_bencode.specs.declared.value.Value.TheVariants.{Text}
use Rattle.kad_bencode.proofs.Folds.{text_of-text}
use Rattle.kad_bencode.proofs.Putting.{puts_pair, puts_same}
use Rattle.kad_krpc.specs.Fields.{maybe}
use Rattle.kad_krpc.proofs.fields.put_maybe_records.Goals as goal

pub returns-in-Some : goal.returns-in-Some
returns-in-Some g c =
    let text = flat_map g.R.Record.writes c.in-Some.items in
    subst (λ o. PutsPairs c.args.buf.now c.put_records.new.buf c.args.at (maybe c.args.key.now (λ xs. Text (flat_map g.R.Record.writes xs)) o) c.put_records.result) (sym c.in-Some.is)
    (puts_pair c.args.key.now (Text text) c.put_string-at.ensures (puts_same (text_of-text text ∙ ap (λ l. string_text (flat_map g.R.Record.writes l)) (sym c.as_slice.ensures)) c.put_records.ensures))
