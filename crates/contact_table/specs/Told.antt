-- What a run tells a table, and which contacts a table has.
use Rattle.std.specs.Prelude.{ℕ, List, [], ◌∷◌, ◌++◌, map}
use Rattle.std.specs.List.{All, Contains, flat_map}
use Rattle.std.specs.List.Sorted.{IsStrictlySortedBy}
use Rattle.std.specs.Map.{keys_of}
use Rattle.kad_base.specs.declared.types.Id.{Id}
use Rattle.kad_base.specs.declared.types.Contact.{Contact}
use Rattle.kad_base.specs.declared.types.Proof.{Proof}
use Rattle.kad_base.specs.Contacts.{contact_cmp}
use Rattle.kad_base.specs.declared.serial.Made.{Made}
use Rattle.bucket_tree.specs.Rows.{RowState, live_in}
use Rattle.contact_table.specs.declared.calls.TableCall.{TableCall}
use Rattle.contact_table.specs.declared.calls.TableCall.TheVariants.{Seen, Vouched, Failed, Closest, Vouchers}
use Rattle.contact_table.specs.declared.calls.TableReply.{TableReply}
use Rattle.contact_table.specs.declared.calls.TableReply.TheVariants.{NoMemory}
use Rattle.contact_table.specs.TableState.{TableState}
use Rattle.contact_table.specs.Vouched.{Proofs}

-- the table that has no contact yet, and takes no more than n of one host
abbrev pub limited_table : Id → ℕ → ℕ → ℕ → TableState
limited_table own k b n = record {
  own = own;
  k = k;
  b = b;
  rows = record { prefix = []; live = []; spares = [] } ∷ [];
  siblings = [];
  per_address = n;
  proofs = [];
}

-- the one without a limit
abbrev pub new_table : Id → ℕ → ℕ → TableState
new_table own k b = limited_table own k b 0

-- the contact that a call says was seen
abbrev pub told_in : TableCall → List Contact
told_in (Seen c) = c ∷ []
told_in (Vouched c proof) = c ∷ []
told_in (Failed c) = []
told_in (Closest target n) = []
told_in (Vouchers target n) = []

-- those that a run says were seen, in order
abbrev pub told_by : List (Made TableCall TableReply) → List Contact
told_by run = flat_map (λ e. told_in e.call) run

-- the proof that a call says was shown, with the contact that showed it
abbrev pub vouched_in : TableCall → Proofs
vouched_in (Seen c) = []
vouched_in (Vouched c proof) = (c, proof) ∷ []
vouched_in (Failed c) = []
vouched_in (Closest target n) = []
vouched_in (Vouchers target n) = []

-- those that a run says were shown, in order
abbrev pub vouched_by : List (Made TableCall TableReply) → Proofs
vouched_by run = flat_map (λ e. vouched_in e.call) run

-- the live contacts and the spares of a row
abbrev pub kept_in : RowState → List Contact
kept_in row = live_in row ++ row.spares

-- those of some rows, followed by siblings
abbrev pub held_by : List RowState → List Contact → List Contact
held_by rows siblings = flat_map kept_in rows ++ siblings

-- the contacts of a table
abbrev pub held_in : TableState → List Contact
held_in s = held_by s.rows s.siblings

-- each contact that has a proof is held, and none has two
pub record IsVouched (s : TableState) : Type 0 where
  pub held : All (λ (e : Contact × Proof). Contains (held_in s) e.0) s.proofs
  pub once : IsStrictlySortedBy contact_cmp (keys_of s.proofs)

-- the calls of a run, and its replies
abbrev pub calls_in : List (Made TableCall TableReply) → List TableCall
calls_in run = map (λ e. e.call) run

abbrev pub replies_in : List (Made TableCall TableReply) → List TableReply
replies_in run = map (λ e. e.reply) run

-- the calls that say of each of these that it was seen
abbrev pub seen_calls : List Contact → List TableCall
seen_calls contacts = map Seen contacts

-- the reply isn't out of memory
abbrev pub HasMemory : TableReply → Type 0
HasMemory NoMemory = ⊥
HasMemory other = Unit {0}
