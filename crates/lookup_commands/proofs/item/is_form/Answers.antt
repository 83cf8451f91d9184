use Rattle.lookup_commands.proofs.Forming.{form_same}
use Rattle.lookup_commands.proofs.item.is_form.Goals as goal

pub returns-in_ok-form-in-Ok : goal.returns-in_ok-form-in-Ok
returns-in_ok-form-in-Ok c = form_same c.args.bytes.now c.as_slice.result.now _ c.in-Ok.piece c.is_same.result c.in-Ok.ensures.spells c.in_ok-form-in-Ok.ensures c.as_slice.ensures c.is_same.ensures

pub returns-in-Err : goal.returns-in-Err
returns-in-Err c = (λ t. cc t, λ f. cc (c.in-Err.ensures.only f.0 f.1))
