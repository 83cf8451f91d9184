use Rattle.std.proofs.Common.{◌≢◌, ◌≤◌, length, sym, subst, rules}
use Rattle.kad_base.specs.Limits.{max_datagram}
use Rattle.kad_krpc.specs.Form.{IsV4}
use Rattle.kad_krpc.specs.Views.{message_seen}
use Rattle.node_serve.specs.Queries.{unread}
use Rattle.node_serve.proofs.Reading.{asked_read, silent_none, same_message, not_refused}
use Rattle.node_serve.proofs.asked.read_query.Goals as goal

pub returns-in-Ok-clause-query : goal.returns-in-Ok-clause-query
returns-in-Ok-clause-query c =
    let short : length c.args.bytes.now ≤ max_datagram = search rules in
    let port : c.args.from.port ≢ 0 = search rules in
    let family : IsV4 c.args.from.ip = subst IsV4 (sym c.in-V4.is) tt in
    asked_read c.args.from c.args.bytes.now (message_seen c.in-Ok.view) short port family c.in-Ok.ensures.says c.query_in.result c.query_in.ensures

pub returns-in-Ok-clause-silent : goal.returns-in-Ok-clause-silent
returns-in-Ok-clause-silent c =
    let short : length c.args.bytes.now ≤ max_datagram = search rules in
    let port : c.args.from.port ≢ 0 = search rules in
    let family : IsV4 c.args.from.ip = subst IsV4 (sym c.in-V4.is) tt in
    silent_none c.args.from c.args.bytes.now (message_seen c.in-Ok.view) short port family c.in-Ok.ensures.says c.query_in.result
    (λ other h. same_message c.in-Ok.view other (c.in-Ok.ensures.only other h))
    (λ fault h. not_refused c.in-Ok.view fault (c.in-Ok.ensures.refused fault h))
    c.query_in.ensures

pub returns-in-Err-clause-query : goal.returns-in-Err-clause-query
returns-in-Err-clause-query c = unread c.in-Err.field-0 c.in-Err.ensures.refuses
