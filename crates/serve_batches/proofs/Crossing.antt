-- A worker with its slots may go to another thread, and who helps.
use denote.RattleType.{RattleType}
use denote.Param.Send.{IsSend, IsSync, sendable}
use denote.Param.SendFields.{declared_send, declared_sync}
use denote.Struct.Declared.{row}
use Rattle.std.proofs.Crossing.{crosses}
use Rattle.std.proofs.MapsCrossing.{BTreeMap-send}
use Rattle.std.specs.contracts.option.Option.{the_row as option_row}
use Rattle.kad_base.proofs.list.List.TheSendSync.{the_send as list_send}
use Rattle.node_serve.below.node_tokens.proofs.tokens.Tokens.TheSendSync.{the_send as tokens_send}
use Rattle.kad_base.proofs.types.Contact.TheSendSync.{the_send as contact_send}
use Rattle.kad_base.proofs.types.Id.TheSendSync.{the_send as id_send}
use Rattle.kad_base.proofs.types.Policy.TheSendSync.{the_send as policy_send}
use Rattle.kad_base.proofs.types.Proof.TheSendSync.{the_send as proof_send}
use Rattle.kad_base.proofs.types.Report.TheSendSync.{the_send as report_send}
use Rattle.node_serve.specs.contracts.setting.ServeSetting.{the_row as setting_row, the_type as setting_type}
use Rattle.work_desk.proofs.Crossing.{helper_send}
use Rattle.bucket_tree.proofs.bucket.Bucket.TheSendSync.{the_send as row_send}
use Rattle.bucket_tree.proofs.node.Node.TheLaws.TheKnot.{send-Node as node_send}
use Rattle.bucket_tree.specs.contracts.buckets.Buckets.{the_row as buckets_row}
use Rattle.sibling_list.proofs.Siblings.TheSendSync.{the_send as siblings_send}
use Rattle.contact_table.proofs.seats.Seat.TheSendSync.{the_send as seat_send}
use Rattle.contact_table.proofs.vouchers.Vouchers.TheSendSync.{the_send as vouchers_send}
use Rattle.contact_table.specs.contracts.calls.TableCall as TableCall
use Rattle.contact_table.specs.contracts.calls.TableReply as TableReply
use Rattle.contact_table.specs.contracts.table.Table as Table
use Rattle.contact_table.specs.contracts.table.TableSerial.TheImpl as TableSerial
use Rattle.peer_store.specs.contracts.calls.PeerCall as PeerCall
use Rattle.peer_store.specs.contracts.calls.PeerReply as PeerReply
use Rattle.peer_store.specs.contracts.peers.Peers as Peers
use Rattle.peer_store.specs.contracts.steps.PeersSerial.TheImpl as PeersSerial
use Rattle.item_store.specs.contracts.calls.ItemCall as ItemCall
use Rattle.item_store.specs.contracts.calls.ItemReply as ItemReply
use Rattle.item_store.specs.contracts.items.Items as Items
use Rattle.item_store.specs.contracts.serial.ItemsSerial.TheImpl as ItemsSerial
use Rattle.turn_book.proofs.lock.Turn.TheSendSync.{the_sync as turn_sync}
use Rattle.serve_crew.specs.contracts.turns.Turns.{the_row as turns_row, the_type as turns_type}
use Rattle.peer_store.proofs.peers.Peers.TheSendSync.{the_send as peers_send}
use Rattle.item_store.proofs.items.Items.TheSendSync.{the_send as items_send}
use Rattle.turn_book.proofs.row.Pass.TheSendSync.{the_send as pass_send}
use Rattle.serve_crew.specs.contracts.worker.ServeWorker.{the_row as worker_row}
use Rattle.serve_batches.proofs.slot.Slot.TheSendSync.{the_send as slot_send}
use Rattle.serve_batches.specs.contracts.shift.Shift.{the_type as shift_type}
use Rattle.serve_batches.specs.declared.deed.Serving.{Ghosts}
use Rattle.serve_batches.specs.contracts.deed.Own.{the_type as own_type, the_row as own_row}
use Rattle.serve_batches.specs.contracts.staying.Mate.{the_type as mate_type, the_row as mate_row}

pub buckets_send : IsSend buckets_row
buckets_send = search (sendable, crosses, row_send, node_send) depth 14

pub table_send : IsSend Table.the_row
table_send = search (sendable, BTreeMap-send, siblings_send, buckets_send, seat_send, contact_send, vouchers_send) depth 14

pub turns_sync : IsSync turns_row
turns_sync = declared_sync turns_type (
  turn_sync Table.the_row TableCall.the_row TableReply.the_row TableSerial.ghosts table_send,
  (turn_sync Peers.the_row PeerCall.the_row PeerReply.the_row PeersSerial.ghosts peers_send, (turn_sync Items.the_row ItemCall.the_row ItemReply.the_row ItemsSerial.ghosts items_send, tt)),
)

pub worker_send : IsSend worker_row
worker_send = search (sendable, peers_send, items_send, pass_send, table_send) depth 20

pub shift_send : IsSend (row shift_type)
shift_send = search (sendable, crosses, slot_send, worker_send) depth 20

setting_send : IsSend setting_row
setting_send = declared_send setting_type (id_send, (search sendable depth 8, (policy_send, (search (sendable, list_send, report_send) depth 8, (search (sendable, tokens_send) depth 8, (search sendable depth 8, (search (sendable, crosses, proof_send) depth 10, tt)))))))

module _ (B : RattleType) (g : Ghosts B.Denot) where
  own_send : IsSend (own_row B g)
  own_send = declared_send (own_type B g) (search (sendable, setting_send) depth 12)

  mate_send : IsSend (mate_row B g)
  mate_send = declared_send (mate_type B g) (helper_send _ _ _ shift_send, (own_send, tt))

  pub place_send : IsSend (option_row (mate_row B g))
  place_send = search (sendable, mate_send) depth 12
