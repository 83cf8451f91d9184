use Rattle.std.proofs.Common.{◌≡◌, Err, inl, sym, ◌∙◌, rules}
use Rattle.kad_base.specs.declared.types.Family.TheVariants.{Four}
use Rattle.serve_commands.proofs.AtOnce.{all_is_some}
use Rattle.command_base.proofs.Results.{ok_at, err_at, err_began}
use Rattle.node_serve.specs.declared.service.ServeFault.TheVariants.{LinkFault}
use Rattle.serve_commands.proofs.Serving.{kept_pass}
use Rattle.command_base.proofs.Starting.{own_told}
use Rattle.serve_commands.proofs.serve.serve.Goals as goal

pub serve_by-table-requires-clause-table : goal.serve_by-table-requires-clause-table
serve_by-table-requires-clause-table g c κs within = own_told _ _ _ c.in_ok-host.ensures.ok.told ∙ sym c.own_id-own.ensures

pub serve_by-table-requires-clause-proofs : goal.serve_by-table-requires-clause-proofs
serve_by-table-requires-clause-proofs g c κs within = kept_pass _ Four _ _ _ c.in_ok-host.ensures.ok.keeps

pub returns-clause-ok : goal.returns-clause-ok
returns-clause-ok g c =
    let h = c.in_ok-host.host in
    let s = c.serve_by-table in
    record {
      table = h.table;
      proofs = h.proofs;
      hosts = c.in_ok-host.ensures.ok;
      after = s.result.0;
      received = c.in-Ok.counts.received;
      replied = c.in-Ok.counts.replied;
      tells = ok_at s.result.1 c.in-Ok.counts _ c.in-Ok.is s.ensures.ok;
      text_is = c.in_ok-text_of.ensures;
    }

pub returns-in-Err-LinkFault-clause-cause : goal.returns-in-Err-LinkFault-clause-cause
returns-in-Err-LinkFault-clause-cause g c =
    let h = c.in_ok-host.host in
    let s = c.serve_by-table in
    let is : c.serve_by-table.result.1 ≡ Err LinkFault = search rules in (
      s.ensures.link_fault is,
      record { table = h.table; proofs = h.proofs; hosts = c.in_ok-host.ensures.ok; tells = err_at s.result.1 c.in-Err-LinkFault.field-0 _ c.in-Err-LinkFault.is s.ensures.begun },
    )

pub returns-in-Err-NoMemory-clause-no_memory : goal.returns-in-Err-NoMemory-clause-no_memory
returns-in-Err-NoMemory-clause-no_memory g c = λ same.
    let h = c.in_ok-host.host in
    let s = c.serve_by-table in
    inl (record { table = h.table; proofs = h.proofs; hosts = c.in_ok-host.ensures.ok; tells = err_at s.result.1 c.in-Err-NoMemory.field-0 _ c.in-Err-NoMemory.is s.ensures.begun })

pub returns-in_err-text_of-clause-no_memory : goal.returns-in_err-text_of-clause-no_memory
returns-in_err-text_of-clause-no_memory g c =
    let h = c.in_ok-host.host in
    let s = c.serve_by-table in
    err_began c.from_residual-in_err-text_of.result _ _ (record {
      table = h.table;
      proofs = h.proofs;
      hosts = c.in_ok-host.ensures.ok;
      tells = all_is_some c.args.service.now _ _ h.table s.result.0 h.proofs c.in-Ok.counts.received c.in-Ok.counts.replied (ok_at s.result.1 c.in-Ok.counts _ c.in-Ok.is s.ensures.ok);
    })
