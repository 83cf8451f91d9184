-- The contacts closest to a target, as the table gives them.
use Rattle.std.proofs.Common.{◌≡◌, ◌∷◌, [], ℕ, Bool, true, false, cond, List, map, Option, Some, None, refl, ap, ◌∙◌}
use Rattle.kad_base.specs.declared.types.Id.{Id}
use Rattle.kad_base.specs.declared.types.Addr.{Addr}
use Rattle.kad_base.specs.declared.types.Contact.{Contact}
use Rattle.kad_base.specs.declared.types.Report.{Report}
use Rattle.kad_base.specs.declared.types.Policy.{Policy}
use Rattle.kad_base.specs.declared.types.Policy.TheVariants.{Plain, Puzzled}
use Rattle.kad_distance.specs.KClosest.{k_closest}
use Rattle.kad_krpc.specs.declared.message.Answer.{Answer}
use Rattle.kad_krpc.specs.declared.message.Message.TheVariants as message
use Rattle.contact_table.specs.TableState.{TableState}
use Rattle.contact_table.specs.TableStep.{TableStep, table_after, contacts_of}
use Rattle.contact_table.specs.Told.{HasMemory}
use Rattle.contact_table.specs.Vouched.{Proofs, proof_beside, reports_of}
use Rattle.contact_table.specs.declared.calls.TableCall.{TableCall}
use Rattle.contact_table.specs.declared.calls.TableCall.TheVariants as call
use Rattle.contact_table.specs.declared.calls.TableReply.{TableReply}
use Rattle.contact_table.specs.declared.calls.TableReply.TheVariants.{Seen, Gone, List as List_reply, Crowded, NoMemory, Reports as Reports_reply}
use Rattle.node_serve.specs.AnswerBy.{setting_of}
use Rattle.node_serve.specs.Calls.{Did, on_table, near_call, near_by, nodes_near, snodes_near, found_from, peers_from, item_from}
use Rattle.node_serve.specs.Gains.{near_reply}
use Rattle.node_serve.specs.NodeState.{NodeState}
use Rattle.node_serve.specs.Replies.{is_v4, of_ipv4, reports_of_ipv4, snodes_by, nodes_for, snodes_for, token_for, where_some, found, tokened}
use Rattle.node_serve.specs.declared.nodes.Near.{Near}
use Rattle.node_serve.specs.declared.nodes.Near.TheVariants as near

-- those that a table gives under a policy
abbrev pub near_for : Policy → TableState → Id → ℕ → Near
near_for Plain t target n = near.Listed (k_closest target n (contacts_of t))
near_for (Puzzled c1 c2) t target n = near.Reported (reports_of t.proofs (k_closest target n (contacts_of t)))

pub near_step : (policy : Policy) (t : TableState) (target : Id) (n : ℕ) → TableStep t 0 (near_call policy target n) (near_reply (near_for policy t target n))
near_step Plain t target n = refl
near_step (Puzzled c1 c2) t target n = refl

-- the question leaves the table
pub near_after : (policy : Policy) (t : TableState) (target : Id) (n : ℕ) (reply : TableReply) → table_after t 0 (near_call policy target n) reply ≡ t
near_after Plain t target n (List_reply list) = refl
near_after Plain t target n other = refl
near_after (Puzzled c1 c2) t target n (Reports_reply reports) = refl
near_after (Puzzled c1 c2) t target n other = refl

-- where there was no memory the table is as it was
pub none_after : (t : TableState) (c : TableCall) → table_after t 0 c NoMemory ≡ t
none_after t (call.Seen c) = refl
none_after t (call.Vouched c proof) = refl
none_after t (call.Failed c) = refl
none_after t (call.Closest target n) = refl
none_after t (call.Vouchers target n) = refl

pub near_back : (x : Near) → near_by (near_reply x) ≡ x
near_back (near.Listed list) = refl
near_back (near.Reported reports) = refl

-- what was replied, where there was memory
pub near_given : (policy : Policy) (t : TableState) (target : Id) (n : ℕ) (reply : TableReply) → TableStep t 0 (near_call policy target n) reply → HasMemory reply → near_by reply ≡ near_for policy t target n
near_given Plain t target n (List_reply list) step memory = ap near.Listed step
near_given Plain t target n NoMemory step memory = absurd memory
near_given Plain t target n (Reports_reply reports) step memory = absurd step
near_given Plain t target n (Seen seen) step memory = absurd step
near_given Plain t target n (Gone gone) step memory = absurd step
near_given Plain t target n Crowded step memory = absurd step
near_given (Puzzled c1 c2) t target n (Reports_reply reports) step memory = ap near.Reported step
near_given (Puzzled c1 c2) t target n NoMemory step memory = absurd memory
near_given (Puzzled c1 c2) t target n (List_reply list) step memory = absurd step
near_given (Puzzled c1 c2) t target n (Seen seen) step memory = absurd step
near_given (Puzzled c1 c2) t target n (Gone gone) step memory = absurd step
near_given (Puzzled c1 c2) t target n Crowded step memory = absurd step

-- ---- what a reply names of them

-- the report of one
abbrev report_at : Proofs → Contact → Report
report_at proofs c = record { contact = c; proof = proof_beside proofs c }

abbrev whom : Report → Contact
whom r = r.contact

-- by whether it is a contact of IPv4
one_named : (b : Bool) (r : Report) (c : Contact) (rs : List Report) (cs : List Contact) → r.contact ≡ c → map whom rs ≡ cs → map whom (cond b (r ∷ rs) rs) ≡ cond b (c ∷ cs) cs
one_named true r c rs cs e h = ap (λ x. x ∷ map whom rs) e ∙ ap (λ l. c ∷ l) h
one_named false r c rs cs e h = h

named_ipv4 : (proofs : Proofs) (contacts : List Contact) → map whom (reports_of_ipv4 (reports_of proofs contacts)) ≡ of_ipv4 contacts
named_ipv4 proofs [] = refl
named_ipv4 proofs (c ∷ cs) = one_named (is_v4 c.addr.ip) (report_at proofs c) c (reports_of_ipv4 (reports_of proofs cs)) (of_ipv4 cs) refl (named_ipv4 proofs cs)

pub near_nodes : (policy : Policy) (t : TableState) (target : Id) (n : ℕ) → nodes_near (near_for policy t target n) ≡ of_ipv4 (k_closest target n (contacts_of t))
near_nodes Plain t target n = refl
near_nodes (Puzzled c1 c2) t target n = named_ipv4 t.proofs (k_closest target n (contacts_of t))

pub near_snodes : (policy : Policy) (kept : List Report) (t : TableState) (target : Id) (n : ℕ)
    → snodes_near kept (near_for policy t target n) ≡ snodes_by policy kept (reports_of_ipv4 (reports_of t.proofs (k_closest target n (contacts_of t))))
near_snodes Plain kept t target n = refl
near_snodes (Puzzled c1 c2) kept t target n = refl

-- ---- the reply that names them is that of the rules

abbrev pub near_at : NodeState → Id → Near
near_at s target = near_for s.policy s.table target s.k

-- the question for them with what was replied
abbrev pub asks_near : NodeState → Id → Did
asks_near s target = on_table (near_call s.policy target s.k) (near_reply (near_at s target))

abbrev naming : NodeState → List Contact → Option (List Report) → Option (List ℕ) → Option (List ℕ) → Option (List Addr) → Answer
naming s nodes snodes token v values = record { id = s.own; nodes = Some nodes; snodes = snodes; nodes6 = None; snodes6 = None; token = token; v = v; values = values }

same_named : (s : NodeState) (target : Id) (token v : Option (List ℕ)) (values : Option (List Addr))
    → naming s (nodes_near (near_at s target)) (snodes_near s.proofs (near_at s target)) token v values ≡ naming s (nodes_for s target) (snodes_for s target) token v values
same_named s target token v values =
    ap (λ n. naming s n (snodes_near s.proofs (near_at s target)) token v values) (near_nodes s.policy s.table target s.k)
    ∙ ap (λ p. naming s (nodes_for s target) p token v values) (near_snodes s.policy s.proofs s.table target s.k)

module _ (s : NodeState) (from : Addr) (at : ℕ) (tx : List ℕ) where
  pub found_of : (target : Id) (x : Near) → x ≡ near_at s target → found_from tx (setting_of s) x ≡ found tx s target
  found_of target x e = ap (found_from tx (setting_of s)) e ∙ ap (message.Answer tx) (same_named s target None None None)

  pub peers_of : (key : Id) (list : List Addr) (x : Near) → x ≡ near_at s key → peers_from tx (setting_of s) from at list x ≡ message.Answer tx (tokened s from at key None (where_some list))
  peers_of key list x e = ap (peers_from tx (setting_of s) from at list) e ∙ ap (message.Answer tx) (same_named s key (Some (token_for s from at)) None (where_some list))

  pub item_of : (key : Id) (v : Option (List ℕ)) (x : Near) → x ≡ near_at s key → item_from tx (setting_of s) from at v x ≡ message.Answer tx (tokened s from at key v None)
  item_of key v x e = ap (item_from tx (setting_of s) from at v) e ∙ ap (message.Answer tx) (same_named s key (Some (token_for s from at)) v None)
