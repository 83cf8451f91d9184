-- A lookup may go to another thread.
use denote.Param.Send.{IsSend, sendable}
use denote.Param.SendFields.{declared_send}
use denote.Struct.Declared.{row}
use Rattle.std.proofs.Crossing.{crosses}
use Rattle.std.proofs.MapsCrossing.{BTreeMap-send}
use Rattle.kad_base.proofs.list.List.TheSendSync.{the_send as list_send}
use Rattle.kad_base.proofs.types.Addr.TheSendSync.{the_send as addr_send}
use Rattle.kad_base.proofs.types.Contact.TheSendSync.{the_send as contact_send}
use Rattle.kad_base.proofs.types.NoMemory.TheSendSync.{the_send as no_memory_send}
use Rattle.bucket_tree.proofs.bucket.Bucket.TheSendSync.{the_send as row_send}
use Rattle.bucket_tree.proofs.node.Node.TheLaws.TheKnot.{send-Node as node_send}
use Rattle.bucket_tree.specs.contracts.buckets.Buckets.{the_row as buckets_row}
use Rattle.sibling_list.proofs.Siblings.TheSendSync.{the_send as siblings_send}
use Rattle.contact_table.proofs.seats.Seat.TheSendSync.{the_send as seat_send}
use Rattle.contact_table.proofs.vouchers.Vouchers.TheSendSync.{the_send as vouchers_send}
use Rattle.contact_table.specs.contracts.table.Table.{the_row as table_row}
use Rattle.claim_book.proofs.state.Book.TheSendSync.{the_send as book_send}
use Rattle.query_book.proofs.Queries.TheSendSync.{the_send as queries_send}
use Rattle.lookup_core.proofs.quest.Quest.TheSendSync.{the_send as quest_send}
use Rattle.lookup_core.proofs.gather.Item.TheSendSync.{the_send as item_send}
use Rattle.lookup_core.proofs.gather.Token.TheSendSync.{the_send as token_send}
use Rattle.lookup_core.specs.contracts.gather.Gathered.{the_row as gathered_row, the_type as gathered_type}
use Rattle.turn_book.proofs.row.Pass.TheSendSync.{the_send as pass_send}
use Rattle.lookup_crowd.specs.contracts.seeker.Seeker.{the_type as seeker_type}

buckets_send : IsSend buckets_row
buckets_send = search (sendable, crosses, row_send, node_send) depth 14

pub table_send : IsSend table_row
table_send = search (sendable, BTreeMap-send, siblings_send, buckets_send, seat_send, contact_send, vouchers_send) depth 14

gathered_send : IsSend gathered_row
gathered_send = declared_send gathered_type (search (sendable, list_send, addr_send) depth 10, (search (sendable, list_send, token_send) depth 10, (search (sendable, list_send, item_send) depth 10, tt)))

pub seeker_send : IsSend (row seeker_type)
seeker_send = declared_send seeker_type (
  search (sendable, quest_send) depth 14,
  (search (sendable, book_send, queries_send) depth 14, (search (sendable, gathered_send) depth 10, (search (sendable, pass_send, table_send) depth 14, (search (sendable, crosses, no_memory_send) depth 14, tt)))),
)
