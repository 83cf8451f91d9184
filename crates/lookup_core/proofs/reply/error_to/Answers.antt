use Rattle.std.proofs.Common.{rules, arith, ◌≡◌, ◌<◌, subst, sym, w64, to_z, of_z}
use Rattle.std.specs.Prelude.{ℤ}
use Rattle.kad_base.specs.Words.{word_bytes}
use Rattle.kad_krpc.specs.declared.message.Message.TheVariants as message
use Rattle.lookup_core.specs.Reply as reply
use Rattle.lookup_core.specs.Says.{SaysAll}
use Rattle.lookup_core.proofs.Replying.{says_fault}
use Rattle.lookup_core.proofs.reply.error_to.Goals as goal

pub returns-in-Some-clause-says : goal.returns-in-Some-clause-says
returns-in-Some-clause-says c text =
    let small : c.in-Some.word < 4294967296 = omega arith in
    let e : c.args.tx.now ≡ word_bytes c.in-Some.word = search rules in
    let code : to_z w64 (of_z w64 c.args.code) ≡ c.args.code = search rules in
    subst (λ (n : ℤ). SaysAll (message.Fault c.args.tx.now c.args.code text) (record { tx = c.in-Some.word; reply = reply.Error n })) (sym code) (says_fault c.args.tx.now text c.args.code c.in-Some.word small e)
