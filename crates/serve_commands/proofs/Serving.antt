-- A node that serves, from the input of the command to its end.
use Rattle.std.proofs.Common.{◌≡◌, ℕ, List, [], ◌∷◌, ◌++◌, Option, inl, inr, sym, ap, subst, ◌∙◌, arith}
use Rattle.std.specs.Prelude.{map, codes, decimal, Result, Err}
use Rattle.std.specs.List.{All}
use Rattle.std.proofs.lemmas.List.{append_assoc}
use Rattle.std.proofs.lemmas.List.Elements.{All-cons, All-nil}
use Rattle.kad_base.specs.declared.types.Family.TheVariants.{Four}
use Rattle.kad_base.specs.declared.types.Family.{Family}
use Rattle.kad_base.specs.declared.types.Contact.{Contact}
use Rattle.kad_base.specs.declared.types.Event.{Event}
use Rattle.kad_base.specs.declared.types.Event.TheVariants.{Now}
use Rattle.kad_base.specs.declared.types.Id.{Id}
use Rattle.kad_base.specs.declared.types.Policy.{Policy}
use Rattle.kad_base.specs.declared.types.Report.{Report}
use Rattle.kad_base.specs.Outside.{Grows}
use Rattle.kad_base.specs.Puzzles.{Passes}
use Rattle.kad_base.proofs.Grown.{grows_then}
use Rattle.contact_table.specs.TableState.{TableState}
use Rattle.contact_table.specs.Told.{limited_table}
use Rattle.lookup_run.specs.Lookup.{TableTold}
use Rattle.node_serve.specs.NodeState.{NodeState, new_node}
use Rattle.node_serve.specs.Receives.{ServeState, ServesAll, ServesSome}
use Rattle.node_serve.specs.declared.lasting.Lasting.{Lasting}
use Rattle.kad_words.specs.declared.command.ServeWords.{ServeWords}
use Rattle.command_base.specs.Input.{Lists, Admits, Keeps}
use Rattle.serve_commands.specs.Printed.{served_text}
use Rattle.command_base.specs.Shown.{Shown}
use Rattle.serve_commands.specs.Served.{Hosts, begun_at, lasting_of, Served, ServedSome, AreServiceBounds}
use Rattle.command_base.specs.Started.{own_of, seen_call}
use Rattle.command_base.specs.Called.{Called}
use Rattle.kad_words.specs.Table.{bits_option, k_option, workers_option, Values, NumberOf}
use Rattle.command_base.proofs.Ranges.{within, table_in_range}

-- ---- the command

-- the node that it begins with, as the code has it
pub node_begun : (service : ServeWords) (random : List ℕ) (table : TableState) (proofs : List Report) (own : Id) (began : ℕ) (node : NodeState) → own ≡ own_of service.own random
    → node ≡ new_node own service.k service.policy table proofs random began service.sealed → record { node = node; moment = began } ≡ begun_at service random table proofs began
node_begun service random table proofs own began node mine is =
    ap (λ n. record { node = n; moment = began }) (is ∙ ap (λ (id : Id). new_node id service.k service.policy table proofs random began service.sealed) mine)

pub served_all : (service : ServeWords) (called : Called) (table after : TableState) (proofs : List Report) (node : NodeState) (lasting : Lasting) (began received replied : ℕ) (a b c : Option (List Event))
    → record { node = node; moment = began } ≡ begun_at service called.random table proofs began → lasting ≡ lasting_of service → Grows a b (λ es. es ≡ Now began ∷ [])
    → Grows b c (ServesAll called.tags (record { node = node; moment = began }) lasting after received replied) → Grows a c (Served service called table after proofs received replied)
served_all service called table after proofs node lasting began received replied a b c begins lasts g h =
    grows_then a b c _ _ _ g h (λ es fs e p. record {
      began = began;
      then = fs;
      whole = ap (λ (l : List Event). l ++ fs) e;
      serves = subst (λ (l : Lasting). ServesAll called.tags (begun_at service called.random table proofs began) l after received replied fs) lasts
          (subst (λ (s : ServeState). ServesAll called.tags s lasting after received replied fs) begins p);
    })

pub served_some : (service : ServeWords) (called : Called) (table after : TableState) (proofs : List Report) (node : NodeState) (lasting : Lasting) (began : ℕ) (a b c : Option (List Event))
    → record { node = node; moment = began } ≡ begun_at service called.random table proofs began → lasting ≡ lasting_of service → Grows a b (λ es. es ≡ Now began ∷ [])
    → Grows b c (ServesSome called.tags (record { node = node; moment = began }) lasting after) → Grows a c (ServedSome service called table after proofs)
served_some service called table after proofs node lasting began a b c begins lasts g h =
    grows_then a b c _ _ _ g h (λ es fs e p. record {
      began = began;
      then = fs;
      whole = ap (λ (l : List Event). l ++ fs) e;
      serves = subst (λ (l : Lasting). ServesSome called.tags (begun_at service called.random table proofs began) l after fs) lasts
          (subst (λ (s : ServeState). ServesSome called.tags s lasting after fs) begins p);
    })

-- what it begins with, as the code has it
pub hosted : (service : ServeWords) (random : List ℕ) (source : Shown ℕ) (own : Id) (reports read : List Report) (contacts cs : List Contact) (proofs : List Report) (table : TableState) → own ≡ own_of service.own random → Lists source reports → read ≡ reports
    → Admits own Four service.policy read contacts → Keeps own Four service.policy read proofs → cs ≡ contacts → TableTold (map seen_call cs) (limited_table own service.k service.bits service.per_address) table → Hosts service random source table proofs
hosted service random source own reports read contacts cs proofs table mine lists is admits keeps same told = record {
  reports = reports;
  lists = lists;
  contacts = contacts;
  admits = subst (λ (id : Id). Admits id Four service.policy reports contacts) mine (subst (λ (l : List Report). Admits own Four service.policy l contacts) is admits);
  told = subst (λ (id : Id). TableTold (map seen_call contacts) (limited_table id service.k service.bits service.per_address) table) mine (subst (λ (l : List Contact). TableTold (map seen_call l) (limited_table own service.k service.bits service.per_address) table) same told);
  keeps = subst (λ (id : Id). Keeps id Four service.policy reports proofs) mine (subst (λ (l : List Report). Keeps own Four service.policy l proofs) is keeps);
}

pub err_is : {T E : Type 0} (r : Result T E) (x y : E) → r ≡ Err x → x ≡ y → r ≡ Err y
err_is r x y e f = subst (λ z. r ≡ Err z) f e

-- the kept reports pass
pub kept_pass : (own : Id) (family : Family) (policy : Policy) (rs kept : List Report) → Keeps own family policy rs kept → All (Passes policy) kept
kept_pass own family policy [] kept h = subst (All (Passes policy)) (sym h) (All-nil (Passes policy))
kept_pass own family policy (r ∷ rs) kept h =
    elim h [
      | inl a ↦ subst (All (Passes policy)) (sym a.1) (All-cons (Passes policy) r a.0 a.2.1.2 (kept_pass own family policy rs a.0 a.3))
      | inr b ↦ kept_pass own family policy rs kept b.1
    ]

pub served_pieces : (received replied : ℕ) → codes "received " ++ (decimal received ++ (codes " replied " ++ decimal replied)) ≡ served_text received replied
served_pieces received replied = sym (append_assoc (codes "received " ++ decimal received) (codes " replied ") (decimal replied) ∙ append_assoc (codes "received ") (decimal received) (codes " replied " ++ decimal replied))

pub service_in_range : (value : Values) (service : ServeWords) → NumberOf k_option value service.k → NumberOf bits_option value service.bits → NumberOf workers_option value service.workers → AreServiceBounds service
service_in_range value service is_k is_bits is_workers =
    let workers = within 1 8 1 (omega arith) (omega arith) _ service.workers is_workers in
    record { table = table_in_range value service.k service.bits is_k is_bits; some_worker = workers.above; few_workers = workers.below }
