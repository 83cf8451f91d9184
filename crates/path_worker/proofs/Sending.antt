-- A worker and its answer may go to another thread.
use denote.Param.Send.{IsSend, sendable}
use denote.Struct.Declared.{row}
use Rattle.std.proofs.Crossing.{crosses}
use Rattle.std.proofs.MapsCrossing.{BTreeMap-send}
use Rattle.kad_base.proofs.types.Policy.TheSendSync.{the_field_send as policy_send}
use Rattle.kad_base.proofs.types.Contact.TheSendSync.{the_send as contact_send}
use Rattle.kad_base.proofs.types.NoMemory.TheSendSync.{the_send as no_memory_send}
use Rattle.bucket_tree.proofs.bucket.Bucket.TheSendSync.{the_send as row_send}
use Rattle.bucket_tree.proofs.node.Node.TheLaws.TheKnot.{send-Node as node_send}
use Rattle.bucket_tree.specs.contracts.buckets.Buckets.{the_row as buckets_row}
use Rattle.sibling_list.proofs.Siblings.TheSendSync.{the_send as siblings_send}
use Rattle.contact_table.proofs.seats.Seat.TheSendSync.{the_send as seat_send}
use Rattle.contact_table.proofs.vouchers.Vouchers.TheSendSync.{the_send as vouchers_send}
use Rattle.contact_table.specs.contracts.table.Table.{the_row as table_row}
use Rattle.claim_book.proofs.state.Book.TheSendSync.{the_send as book_send}
use Rattle.turn_book.proofs.row.Pass.TheSendSync.{the_send as pass_send}
use Rattle.path_worker.specs.contracts.worker.Worker.{the_row as worker_row}
use Rattle.path_worker.specs.contracts.pool.Job.{the_type as job_type}

pub buckets_send : IsSend buckets_row
buckets_send = search (sendable, crosses, row_send, node_send) depth 14

pub table_send : IsSend table_row
table_send = search (sendable, BTreeMap-send, siblings_send, buckets_send, seat_send, contact_send, vouchers_send) depth 14

pub worker_send : IsSend worker_row
worker_send = search (sendable, policy_send, book_send, pass_send, table_send) depth 20

pub job_send : IsSend (row job_type)
job_send = search (sendable, no_memory_send, worker_send) depth 14
