-- A side of a desk may go to another thread, if the jobs may.
use denote.RattleType.{RattleType}
use denote.Param.Send.{IsSend, IsSync, sendable}
use denote.Param.SendFields.{declared_send, declared_sync, variants_send, as_row_send}
use denote.Struct.Field.{row_field}
use Rattle.std.proofs.Crossing.{crosses, Arc-send}
use Rattle.std.specs.contracts.option.Option.{the_row as option_row}
use Rattle.crossbeam_queue.below.atomic_table.proofs.shared.Seat.TheSendSync.{the_send as seat_send}
use Rattle.crossbeam_queue.below.atomic_table.proofs.shared.Shared.TheSendSync.{the_send as shared_send, the_sync as shared_sync}
use Rattle.crossbeam_queue.below.atomic_table.proofs.send_lease.SendLease.TheSendSync.{the_send as lease_send, the_sync as lease_sync}
use Rattle.work_desk.specs.declared.laying.Deed.{Ghosts}
use Rattle.work_desk.specs.contracts.laying.Mail.{enum as mail_enum, the_row as mail_row}
use Rattle.work_desk.specs.contracts.laying.Desk.{the_row as desk_row, the_type as desk_type}
use Rattle.work_desk.specs.contracts.helping.Helper.{the_row as helper_row, the_type as helper_type}

module _ (J D : RattleType) (g : Ghosts D.Denot J.Denot) (s : IsSend J) where
  mail_send : IsSend (mail_row J)
  mail_send = variants_send (mail_enum J) ((as_row_send (row_field J) s, tt), ((as_row_send (row_field J) s, tt), tt))

  slot_send : IsSend (option_row (mail_row J))
  slot_send = search (sendable, mail_send) depth 12

  desk_send : IsSend (desk_row J D g)
  desk_send = declared_send (desk_type J D g) (search (sendable, crosses, shared_send, lease_send, slot_send) depth 20)

  desk_sync : IsSync (desk_row J D g)
  desk_sync = declared_sync (desk_type J D g) (search (sendable, crosses, shared_sync, lease_sync, slot_send) depth 20)

  pub helper_send : IsSend (helper_row J D g)
  helper_send = declared_send (helper_type J D g) (Arc-send (desk_row J D g) desk_send desk_sync, (search (seat_send, slot_send), tt))
