-- What a node keeps of those who asked passes at its own numbers.
use Rattle.std.proofs.Common.{◌≡◌, ℕ, List, [], ◌∷◌, ◌++◌, Bool, Option, Some, None, refl, sym, subst}
use Rattle.std.specs.List.{All, Contains}
use Rattle.std.proofs.lemmas.List.Elements.{All-append, All-cons, All-contains, All-nil, All-weaker}
use Rattle.kad_base.specs.declared.types.Addr.{Addr}
use Rattle.kad_base.specs.declared.types.Contact.{Contact}
use Rattle.kad_base.specs.declared.types.Policy.{Policy}
use Rattle.kad_base.specs.declared.types.Policy.TheVariants.{Plain, Puzzled}
use Rattle.kad_base.specs.declared.types.Proof.{Proof}
use Rattle.kad_base.specs.declared.serial.Made.{Made}
use Rattle.kad_base.specs.Puzzles.{Passes}
use Rattle.kad_base.specs.Serial.{made, left_by}
use Rattle.kad_krpc.specs.declared.message.Ask.{Ask}
use Rattle.kad_krpc.specs.declared.message.Message.{Message}
use Rattle.contact_table.specs.TableState.{TableState}
use Rattle.contact_table.specs.TableStep.{table_after}
use Rattle.contact_table.specs.Told.{vouched_by, vouched_in}
use Rattle.contact_table.specs.declared.calls.TableCall.{TableCall}
use Rattle.contact_table.specs.declared.calls.TableCall.TheVariants.{Vouched}
use Rattle.contact_table.specs.declared.calls.TableReply.{TableReply}
use Rattle.contact_table.proofs.Beside.{shown}
use Rattle.node_serve.specs.AnswerOf.{AnswerOf, IsMade, IsTold, IsVouchedFor, notify_by}
use Rattle.node_serve.specs.NodeState.{NodeState}
use Rattle.node_serve.specs.Passing.{AllPass, PassesBeside}
use Rattle.node_serve.proofs.Solving.{taken}

-- a run keeps only what it was shown
pub run_passes : (policy : Policy) (s : TableState) (run : List (Made TableCall TableReply)) → AllPass policy s.proofs → AllPass policy (vouched_by run) → AllPass policy (left_by table_after s run).proofs
run_passes policy s run before told =
    let known = s.proofs ++ vouched_by run in
    let all = All-append (PassesBeside policy) s.proofs (vouched_by run) before told in
    All-weaker (Contains known) (PassesBeside policy) (λ e has. All-contains (PassesBeside policy) known e all has) (left_by table_after s run).proofs (shown s run)

plain_passes : (es : List (Contact × Proof)) → AllPass Plain es
plain_passes [] = All-nil (PassesBeside Plain)
plain_passes (e ∷ es) = All-cons (PassesBeside Plain) e es tt (plain_passes es)

vouched_passes : (c1 c2 : ℕ) (read_only : Bool) (proof : Option Proof) (ask : Ask) (from : Addr) (call : TableCall) → IsVouchedFor c1 c2 read_only proof ask from call → AllPass (Puzzled c1 c2) (vouched_in call ++ [])
vouched_passes c1 c2 read_only proof ask from call v =
    let c : Contact = record { id = v.id; addr = from } in
    let one = All-cons (PassesBeside (Puzzled c1 c2)) (c, v.shown) [] v.solves (All-nil (PassesBeside (Puzzled c1 c2))) in
    subst (λ (x : TableCall). AllPass (Puzzled c1 c2) (vouched_in x ++ [])) (sym v.tells) one

call_passes : (policy : Policy) (read_only : Bool) (proof : Option Proof) (ask : Ask) (from : Addr) (call : TableCall) → notify_by policy read_only proof ask from ≡ Some call → AllPass policy (vouched_in call ++ [])
call_passes Plain read_only proof ask from call is = plain_passes (vouched_in call ++ [])
call_passes (Puzzled c1 c2) read_only proof ask from call is = vouched_passes c1 c2 read_only proof ask from call ((taken c1 c2 read_only proof ask from call).0 is)

told_passes : (policy : Policy) (read_only : Bool) (proof : Option Proof) (ask : Ask) (from : Addr) (o : Option TableCall) (s t : TableState) → notify_by policy read_only proof ask from ≡ o → IsTold o s t → AllPass policy s.proofs → AllPass policy t.proofs
told_passes policy read_only proof ask from None s t is told h = subst (λ (x : TableState). AllPass policy x.proofs) (sym told) h
told_passes policy read_only proof ask from (Some call) s t is told h =
    let left = run_passes policy s (made 0 call told.reply ∷ []) h (call_passes policy read_only proof ask from call is) in
    subst (λ (x : TableState). AllPass policy x.proofs) (sym told.leaves) left

pub answer_passes : (s : NodeState) (from : Addr) (bytes : List ℕ) (at : ℕ) (m : Message) (x : NodeState) → AnswerOf s from bytes at m x → AllPass s.policy s.table.proofs → AllPass s.policy x.table.proofs
answer_passes s from bytes at m x a h = told_passes s.policy a.read_only a.proof a.ask from (notify_by s.policy a.read_only a.proof a.ask from) s.table x.table refl a.told h
