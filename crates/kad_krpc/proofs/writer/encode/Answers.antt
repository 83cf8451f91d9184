use Rattle.std.proofs.Common.{◌≡◌, ◌<◌, length, sym, ◌∙◌, subst, arith}
use Rattle.kad_bencode.specs.declared.value.Value.TheVariants.{Dict}
use Rattle.kad_krpc.specs.Form.{form, message_pairs}
use Rattle.kad_krpc.specs.Reading.{Says}
use Rattle.kad_krpc.proofs.Put.{measured, all_put, whole_vec}
use Rattle.kad_krpc.proofs.Spelled.{spelled}
use Rattle.kad_krpc.proofs.ReadBack.{said_back}
use Rattle.kad_krpc.proofs.Writable.{writable_forms}
use Rattle.kad_krpc.proofs.writer.encode.Goals as goal

pub put_message-length-requires : goal.put_message-length-requires
put_message-length-requires c = writable_forms c.args.message.now c.requires

pub put_message-end-requires : goal.put_message-end-requires
put_message-end-requires c = writable_forms c.args.message.now c.requires

pub returns-clause-form : goal.returns-clause-form
returns-clause-form c =
    let small = c.in_ok-bytes.bytes.small in
    let within = c.in_ok-bytes.bytes.ok.1 in
    let few : c.put_message-length.result < 9223372036854775808 = grind (arith, small, within) in
    let measure = measured c.put_message-length.ensures (λ e. omega (arith, few, e)) in
    let room = c.put_message-end.ensures.room in
    let there : length c.as_mut_slice.result.now ≡ c.put_message-length.result = grind arith in
    whole_vec c.from_vec.result c.put_message-end.new.buf _ c.in_ok-bytes.bytes.len (grind (arith, room, there)) c.from_vec.ensures
    ∙ all_put there measure (omega (arith, few)) c.put_message-end.ensures

pub returns-clause-says : goal.returns-clause-says
unfolding form
returns-clause-says c =
    subst (λ bytes. Says bytes c.args.message.now) (sym (returns-clause-form c))
    (record {
      value = Dict (message_pairs c.args.message.now);
      spelled = spelled c.args.message.now c.message_is_well_typed.ensures (writable_forms c.args.message.now c.requires);
      says = said_back c.args.message.now c.message_is_well_typed.ensures c.requires;
    })
