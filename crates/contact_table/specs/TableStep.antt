-- The routing table as an object whose calls are steps: who may make which call, when each reply comes, and what it
-- leaves (the buckets are Kademlia's, 2002, section 2.4; the siblings are S/Kademlia's, 2007, section 4.2; on the proofs see
-- `Vouched`).
use Rattle.std.specs.Prelude.{◌≡◌, ℕ, List, ◌++◌}
use Rattle.kad_base.specs.declared.types.Contact.{Contact}
use Rattle.kad_distance.specs.KClosest.{k_closest}
use Rattle.bucket_tree.specs.declared.types.Seen.{Seen}
use Rattle.bucket_tree.specs.declared.types.Seen.TheVariants.{Added, Moved, Spared, Conflict, Own}
use Rattle.bucket_tree.specs.declared.types.Gone.{Gone}
use Rattle.bucket_tree.specs.declared.types.Gone.TheVariants.{Kept, Removed, Replaced, Unknown}
use Rattle.bucket_tree.specs.Rows.{RowState, live_of}
use Rattle.bucket_tree.specs.BucketSteps.{SeenStep, FailedStep}
use Rattle.sibling_list.specs.Siblings.{SiblingList, with_one, without_one}
use Rattle.contact_table.specs.declared.calls.TableCall.{TableCall}
use Rattle.contact_table.specs.declared.calls.TableCall.TheVariants.{Seen as Seen_call, Vouched, Failed, Closest, Vouchers}
use Rattle.contact_table.specs.declared.calls.TableReply.{TableReply}
use Rattle.contact_table.specs.declared.calls.TableReply.TheVariants.{Seen as Seen_reply, Gone as Gone_reply, List as List_reply, Reports as Reports_reply, Crowded, NoMemory}
use Rattle.contact_table.specs.RowsAfter.{seen_rows, failed_rows}
use Rattle.contact_table.specs.TableState.{TableState, siblings_of}
use Rattle.contact_table.specs.Told.{held_by, held_in}
use Rattle.contact_table.specs.Vouched.{Proofs, noted, of_held, reports_of}
use Rattle.contact_table.specs.Crowded.{IsCrowded, IsNew}

-- role 0 may make every call, the others each but Failed
abbrev pub TableMay : ℕ → TableCall → Type 0
TableMay role (Seen_call c) = Unit {0}
TableMay role (Vouched c proof) = Unit {0}
TableMay role (Failed c) = role ≡ 0
TableMay role (Closest target n) = Unit {0}
TableMay role (Vouchers target n) = Unit {0}

-- a contact that a bucket takes in or keeps as a spare is put among the siblings
abbrev pub seen_siblings : SiblingList → Contact → Seen → List Contact
seen_siblings s c Added = with_one s c
seen_siblings s c Moved = with_one s c
seen_siblings s c Spared = with_one s c
seen_siblings s c Conflict = s.list
seen_siblings s c Own = s.list

-- one that failed and isn't kept leaves them
abbrev pub failed_siblings : SiblingList → Contact → Gone → List Contact
failed_siblings s c Kept = s.list
failed_siblings s c Removed = without_one s c
failed_siblings s c Replaced = without_one s c
failed_siblings s c Unknown = without_one s c

-- the live contacts, followed by the siblings
abbrev pub contacts_of : TableState → List Contact
contacts_of s = live_of s.rows ++ s.siblings

-- the table turns a contact away: its identifier is new, and its host has as many others as the table takes
abbrev pub TurnsAway : TableState → Contact → Type 0
TurnsAway s c = IsNew s.own s.rows c × IsCrowded s.per_address (held_in s) c

-- when each reply comes to the news that a contact was seen, with a proof or without
abbrev pub SeenReplies : TableState → Contact → TableReply → Type 0
SeenReplies s c (Seen_reply seen) = SeenStep s.own s.k s.b c s.rows seen (seen_rows s.own s.k s.b c s.rows) × (¬ TurnsAway s c)
SeenReplies s c Crowded = TurnsAway s c
SeenReplies s c NoMemory = Unit {0}
SeenReplies s c other = ⊥

-- when each reply comes; all calls need memory but Failed
abbrev pub TableStep : TableState → ℕ → TableCall → TableReply → Type 0
TableStep s role (Seen_call c) reply = SeenReplies s c reply
TableStep s role (Vouched c proof) reply = SeenReplies s c reply
TableStep s role (Failed c) (Gone_reply gone) = FailedStep c s.rows gone (failed_rows gone c s.rows)
TableStep s role (Failed c) other = ⊥
TableStep s role (Closest target n) (List_reply list) = list ≡ k_closest target n (contacts_of s)
TableStep s role (Closest target n) NoMemory = Unit {0}
TableStep s role (Closest target n) other = ⊥
TableStep s role (Vouchers target n) (Reports_reply reports) = reports ≡ reports_of s.proofs (k_closest target n (contacts_of s))
TableStep s role (Vouchers target n) NoMemory = Unit {0}
TableStep s role (Vouchers target n) other = ⊥

-- the table with other rows and siblings, and of these proofs those of the contacts that it then holds
abbrev pub with_rows : TableState → List RowState → List Contact → Proofs → TableState
with_rows s rows siblings proofs = record {
  own = s.own;
  k = s.k;
  b = s.b;
  rows = rows;
  siblings = siblings;
  per_address = s.per_address;
  proofs = of_held (held_by rows siblings) proofs;
}

-- the table after a contact was seen, with these proofs
abbrev pub after_seen : TableState → Contact → Seen → Proofs → TableState
after_seen s c seen proofs = with_rows s (seen_rows s.own s.k s.b c s.rows) (seen_siblings (siblings_of s) c seen) proofs

-- the table after a reply; as it was where a contact was turned away, where memory ran out, and after a question
abbrev pub table_after : TableState → ℕ → TableCall → TableReply → TableState
table_after s role (Seen_call c) (Seen_reply seen) = after_seen s c seen s.proofs
table_after s role (Vouched c proof) (Seen_reply seen) = after_seen s c seen (noted c proof s.proofs)
table_after s role (Failed c) (Gone_reply gone) = with_rows s (failed_rows gone c s.rows) (failed_siblings (siblings_of s) c gone) s.proofs
table_after s role call reply = s
