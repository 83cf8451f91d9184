use Rattle.std.proofs.Common.{◌≤◌, take, refl, subst, inl, inr}
use Rattle.std.proofs.lemmas.Result.{err_from_is_err_and}
use Rattle.kad_base.proofs.Grown.{grows_weaker}
use Rattle.claim_book.specs.declared.types.Setting.{Setting}
use Rattle.claim_book.specs.Legal.{Legal}
use Rattle.id_puzzles.specs.Drawn.{WordsState}
use Rattle.lookup_run.specs.declared.types.LookupState.{LookupState}
use Rattle.lookup_run.specs.declared.types.LookFault.TheVariants.{Strays}
use Rattle.lookup_run.proofs.Early.{stops_of, ends_by_stray, on_err_of, passed_on}
use Rattle.lookup_run.proofs.Fewer.{few_still}
use Rattle.lookup_run.proofs.Receiving.{stray_of, datagram_receives, quiet_receives}
use Rattle.kad_base.proofs.Failing.{fails_here}
use Rattle.lookup_run.proofs.receive.receive.Goals as goal
use Rattle.lookup_run.specs.Lookup.{quest_of}

pub returns-in_err-take_datagram-in-Ok-Packet-clause-stops : goal.returns-in_err-take_datagram-in-Ok-Packet-clause-stops
returns-in_err-take_datagram-in-Ok-Packet-clause-stops g c =
    let p = c.in-Ok-Packet in
    let old : LookupState = c.args.work.now in
    let grows = rw p.field-0-is at p.ensures.ok in
    on_err_of c.from_residual.result (λ (words : WordsState). stops_of c.args.look.now (g.G.SealCheck.accepted c.args.seal.now) words old c.take_datagram.new.work _ _
    (subst (λ (s : Setting). Legal s old.lookup.book.journal) c.requires.may_receive.keeps.setting c.legal.ensures) c.requires.may_receive.keeps.few_strays c.take_datagram.ensures.table
    (grows_weaker _ _ _ _ grows (λ es is. inr (p.from, take p.len c.recv.new.buf, c.wait_for-until.result, p.at, is))))

pub returns-in_err-take_datagram-in-Ok-Packet-clause-strays : goal.returns-in_err-take_datagram-in-Ok-Packet-clause-strays
returns-in_err-take_datagram-in-Ok-Packet-clause-strays g c is words =
    let p = c.in-Ok-Packet in
    let old : LookupState = c.args.work.now in
    let grows = rw p.field-0-is at p.ensures.ok in
    let f = c.in_err-take_datagram-in-Ok-Packet in
    let out = err_from_is_err_and c.from_residual.result c.from_residual.ensures.1 in
    let last = f.ensures.strays (passed_on Strays c.from_residual.result out.0 f.field-0.0 out.1 out.2 is) in
    ends_by_stray c.args.look.now (g.G.SealCheck.accepted c.args.seal.now) words old _ _ p.from (take p.len c.recv.new.buf) c.wait_for-until.result p.at (subst (λ (s : Setting). Legal s old.lookup.book.journal) c.requires.may_receive.keeps.setting c.legal.ensures) (λ s queries. stray_of (quest_of c.args.look.now) (g.G.SealCheck.accepted c.args.seal.now) old s p.from (take p.len c.recv.new.buf) queries last.none) grows last.last

pub expire-requires : goal.expire-requires
expire-requires g c = c.in_ok-take_datagram-in-Ok-Packet.ensures.holds

pub returns-in_ok-take_datagram-in-Ok-Packet-clause-ok : goal.returns-in_ok-take_datagram-in-Ok-Packet-clause-ok
returns-in_ok-take_datagram-in-Ok-Packet-clause-ok g c =
    let p = c.in-Ok-Packet in
    let old : LookupState = c.args.work.now in
    let grows = rw p.field-0-is at p.ensures.ok in
    let came = rw p.field-0-is at p.ensures.came in
    let later : old.progress.moment ≤ p.at = subst (λ m. m ≤ p.at) c.requires.moment came.1 in
    datagram_receives c.args.look.now (g.G.SealCheck.accepted c.args.seal.now) p.from (take p.len c.recv.new.buf) c.wait_for-until.result p.at c.round_after-work.result old c.take_datagram.new.work c.expire.new.work _ _
    (record { may = c.requires.may_receive; legal = c.legal.ensures; waits = c.wait_for-until.ensures; later = later })
    c.in_ok-take_datagram-in-Ok-Packet.ensures.ok c.expire.ensures (c.round_after-work.ensures c.expire.new.work.lookup.queries c.earliest.ensures) grows

pub returns-in-Ok-Quiet-clause-ok : goal.returns-in-Ok-Quiet-clause-ok
returns-in-Ok-Quiet-clause-ok g c =
    let p = c.in-Ok-Quiet in
    let old : LookupState = c.args.work.now in
    let grows = rw p.field-0-is at p.ensures.ok in
    let came = rw p.field-0-is at p.ensures.came in
    let later : old.progress.moment ≤ p.at = subst (λ m. m ≤ p.at) c.requires.moment came.1 in
    quiet_receives c.args.look.now (g.G.SealCheck.accepted c.args.seal.now) c.wait_for-until.result p.at old c.expire-in-Ok-Quiet.new.work _ _
    (record { may = c.requires.may_receive; legal = c.legal.ensures; waits = c.wait_for-until.ensures; later = later }) came.0 c.expire-in-Ok-Quiet.ensures grows

pub returns-in-Err-clause-well : goal.returns-in-Err-clause-well
returns-in-Err-clause-well g c other = absurd (other refl)

pub returns-in-Err-clause-stops : goal.returns-in-Err-clause-stops
returns-in-Err-clause-stops g c words =
    let old : LookupState = c.args.work.now in
    stops_of c.args.look.now (g.G.SealCheck.accepted c.args.seal.now) words old old _ _ (subst (λ (s : Setting). Legal s old.lookup.book.journal) c.requires.may_receive.keeps.setting c.legal.ensures) c.requires.may_receive.keeps.few_strays refl
    (grows_weaker _ _ _ _ c.in-Err.ensures.err (λ es is. inl is))

pub returns-in-Err-clause-few_strays : goal.returns-in-Err-clause-few_strays
returns-in-Err-clause-few_strays g c is words = few_still c.args.look.now (g.G.SealCheck.accepted c.args.seal.now) words c.args.work.now _ _ (subst (λ (s : Setting). Legal s c.args.work.now.lookup.book.journal) c.requires.may_receive.keeps.setting c.legal.ensures) c.requires.may_receive.keeps.few_strays c.in-Err.ensures.err

pub returns-in-Err-clause-last : goal.returns-in-Err-clause-last
returns-in-Err-clause-last g c is = fails_here _ _ _ _ c.in-Err.ensures.failed c.in-Err.ensures.err
