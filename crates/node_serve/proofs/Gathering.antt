-- How much a call gives at most, and what a call gives whatever setting its clause is for.
use Rattle.std.proofs.Common.{◌≡◌, ◌≤◌, ℕ, List, length, take, Bool, true, false, cond, Result, Ok, Err, IfOk, ap, arith}
use Rattle.std.specs.Prelude.{OnErr, nat_lt}
use Rattle.std.proofs.lemmas.List.{length-map, length-take}
use Rattle.kad_base.specs.declared.types.Id.{Id}
use Rattle.kad_base.specs.declared.types.Addr.{Addr}
use Rattle.kad_base.specs.declared.types.Contact.{Contact}
use Rattle.kad_base.specs.declared.types.NoMemory.{NoMemory}
use Rattle.kad_base.specs.declared.types.Report.{Report}
use Rattle.node_serve.specs.declared.composing.Gained.{Gained}
use Rattle.node_serve.specs.declared.setting.ServeSetting.{ServeSetting}
use Rattle.kad_distance.specs.KClosest.{k_closest}
use Rattle.kad_distance.proofs.Chosen.{closest_few}
use Rattle.contact_table.specs.TableState.{TableState}
use Rattle.contact_table.specs.TableStep.{contacts_of}
use Rattle.contact_table.specs.Vouched.{proof_beside, reports_of}
use Rattle.peer_store.specs.Peers.{PeersState, listed_from, peers_of, held_of, fresh_of, around, point}

pub closest_short : (t : TableState) (target : Id) (n : ℕ) (list : List Contact) → list ≡ k_closest target n (contacts_of t) → length list ≤ n
closest_short t target n list e = (let few = closest_few target n (contacts_of t) in let len = ap length e in omega (arith, few, len))

pub reports_short : (t : TableState) (target : Id) (n : ℕ) (reports : List Report) → reports ≡ reports_of t.proofs (k_closest target n (contacts_of t)) → length reports ≤ n
reports_short t target n reports e =
    let cs = k_closest target n (contacts_of t) in
    let few = closest_few target n (contacts_of t) in
    let same = length-map {B = Report} cs (λ (c : Contact). record { contact = c; proof = proof_beside t.proofs c }) in
    let len = ap length e in
    omega (arith, few, same, len)

few_of : (b : Bool) (xs ys : List Addr) → length (cond b (take 50 xs) (take 50 ys)) ≤ 50
few_of true xs ys = (let few = length-take 50 xs in omega (arith, few))
few_of false xs ys = (let few = length-take 50 ys in omega (arith, few))

pub listed_short : (p : PeersState) (key : Id) (at : ℕ) (first : List ℕ) (list : List Addr) → list ≡ listed_from p key at first → length list ≤ 50
listed_short p key at first list e =
    let fresh = fresh_of p.held key at in
    let few = few_of (nat_lt 0 p.per_host) (peers_of (around (point (held_of p.held key) first) fresh)) (peers_of fresh) in
    let len = ap length e in
    omega (arith, few, len)

pub ok_at : (r : Result Gained NoMemory) (P : ServeSetting → Gained → Type 0) (s : ServeSetting) → IfOk r (λ x. (t : ServeSetting) → P t x) → IfOk r (P s)
ok_at (Ok x) P s h = h s
ok_at (Err e) P s h = tt

pub err_at : (r : Result Gained NoMemory) (P : ServeSetting → Type 0) (s : ServeSetting) → OnErr r ((t : ServeSetting) → P t) → OnErr r (P s)
err_at (Ok x) P s h = tt
err_at (Err e) P s h = h s
