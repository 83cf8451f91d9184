-- Whether a proof solves both puzzles, as a test, and of whom the table is told by it.
use Rattle.std.proofs.Common.{◌≡◌, ℕ, ◌-◌, ◌*◌, ◌^◌, Bool, true, false, cond, ◌&&◌, List, length, Option, Some, None, refl, sym, ap, ◌∙◌}
use Rattle.std.specs.Prelude.{◌↔◌}
use Rattle.std.specs.Bool.{Decides}
use Rattle.std.specs.Str.{bytes_eq}
use Rattle.std.proofs.lemmas.Bool.Decides.{Decides-and, Decides-like, Decides-ltb}
use Rattle.std.proofs.lemmas.Slice.Eq.{bytes_eq-Decides}
use Rattle.kad_base.specs.Bits.{BeginsWithZeros, number_of, xor_bytes}
use Rattle.kad_base.specs.Puzzles.{Solves, hash}
use Rattle.kad_base.specs.declared.types.Id.{Id}
use Rattle.kad_base.specs.declared.types.Addr.{Addr}
use Rattle.kad_base.specs.declared.types.Contact.{Contact}
use Rattle.kad_base.specs.declared.types.Policy.{Policy}
use Rattle.kad_base.specs.declared.types.Policy.TheVariants.{Plain, Puzzled}
use Rattle.kad_base.specs.declared.types.Proof.{Proof}
use Rattle.kad_krpc.specs.declared.message.Ask.{Ask}
use Rattle.contact_table.specs.declared.calls.TableCall.{TableCall}
use Rattle.contact_table.specs.declared.calls.TableCall.TheVariants.{Vouched}
use Rattle.node_serve.specs.AnswerOf.{IsVouchedFor, asker_of, asker_at, contact_at, notify_by, told_by, vouched_by}
use Rattle.node_serve.specs.Responses.{MayTell}
use Rattle.node_serve.specs.Vouching.{begins_with_zeros, solves_both}

begins : (bits : ℕ) (bytes : List ℕ) → Decides (begins_with_zeros bits bytes) (BeginsWithZeros bits bytes)
unfolding begins_with_zeros BeginsWithZeros
begins bits bytes = Decides-ltb (number_of bytes) (2 ^ (8 * length bytes - bits))

pub solved : (c1 c2 : ℕ) (id : List ℕ) (proof : Proof) → Decides (solves_both c1 c2 id proof) (Solves c1 c2 id proof)
unfolding solves_both
solved c1 c2 id proof =
    let static = begins_with_zeros c1 (hash id) in
    let dynamic = begins_with_zeros c2 (hash (xor_bytes id proof.x)) in
    let zeros = Decides-and static dynamic (begins c1 (hash id)) (begins c2 (hash (xor_bytes id proof.x))) in
    Decides-like (bytes_eq id (hash proof.key) && (static && dynamic))
    (λ h. record { of_key = h.0; static_puzzle = h.1.0; dynamic_puzzle = h.1.1 })
    (λ s. (s.of_key, (s.static_puzzle, s.dynamic_puzzle)))
    (Decides-and (bytes_eq id (hash proof.key)) (static && dynamic) (bytes_eq-Decides id (hash proof.key)) zeros)

-- ---- any role may make the call

may_by : (b : Bool) (c : Contact) (proof : Proof) → MayTell (cond b (Some (Vouched c proof)) None)
may_by true c proof = λ role. tt
may_by false c proof = tt

told_may : (policy : Policy) (proof : Option Proof) (o : Option Contact) → MayTell (told_by policy proof o)
told_may policy proof None = tt
told_may Plain proof (Some c) = λ role. tt
told_may (Puzzled c1 c2) None (Some c) = tt
told_may (Puzzled c1 c2) (Some proof) (Some c) = may_by (solves_both c1 c2 c.id.0 proof) c proof

pub notify_may : (policy : Policy) (read_only : Bool) (proof : Option Proof) (ask : Ask) (from : Addr) → MayTell (notify_by policy read_only proof ask from)
notify_may policy read_only proof ask from = told_may policy proof (asker_at read_only ask from)

-- ---- who is taken

-- a call that tells of a contact and its proof
pub record Vouches (c1 c2 : ℕ) (c : Contact) (proof : Option Proof) (call : TableCall) : Type 0 where
  pub shown : Proof
  pub brings : proof ≡ Some shown
  pub solves : Solves c1 c2 c.id.0 shown
  pub tells : call ≡ Vouched c shown

vouches : (c1 c2 : ℕ) (c : Contact) (proof : Option Proof) (call : TableCall) → vouched_by c1 c2 c proof ≡ Some call → Vouches c1 c2 c proof call
vouches c1 c2 c None call e = absurd cc
vouches c1 c2 c (Some p) call e = by_test (solves_both c1 c2 c.id.0 p) refl e
  where
    by_test : (b : Bool) → solves_both c1 c2 c.id.0 p ≡ b → cond b (Some (Vouched c p)) None ≡ Some call → Vouches c1 c2 c (Some p) call
    by_test true on is = (let same : call ≡ Vouched c p = cc in record { shown = p; brings = refl; solves = (solved c1 c2 c.id.0 p).0 on; tells = same })
    by_test false off is = absurd cc

asker_vouches : (c1 c2 : ℕ) (proof : Option Proof) (ask : Ask) (from : Addr) (call : TableCall) (o : Option Id) → o ≡ asker_of ask → told_by (Puzzled c1 c2) proof (contact_at from o) ≡ Some call → IsVouchedFor c1 c2 false proof ask from call
asker_vouches c1 c2 proof ask from call None is e = absurd cc
asker_vouches c1 c2 proof ask from call (Some id) is e =
    let v = vouches c1 c2 (record { id = id; addr = from }) proof call e in
    record { id = id; shown = v.shown; in_service = refl; asks = sym is; brings = v.brings; solves = v.solves; tells = v.tells }

is_vouched : (c1 c2 : ℕ) (read_only : Bool) (proof : Option Proof) (ask : Ask) (from : Addr) (call : TableCall) → notify_by (Puzzled c1 c2) read_only proof ask from ≡ Some call → IsVouchedFor c1 c2 read_only proof ask from call
is_vouched c1 c2 false proof ask from call e = asker_vouches c1 c2 proof ask from call (asker_of ask) refl e
is_vouched c1 c2 true proof ask from call e = absurd cc

is_notified : (c1 c2 : ℕ) (read_only : Bool) (proof : Option Proof) (ask : Ask) (from : Addr) (call : TableCall) → IsVouchedFor c1 c2 read_only proof ask from call → notify_by (Puzzled c1 c2) read_only proof ask from ≡ Some call
is_notified c1 c2 read_only proof ask from call v =
    let c : Contact = record { id = v.id; addr = from } in
    ap (λ r. notify_by (Puzzled c1 c2) r proof ask from) v.in_service
    ∙ ap (λ o. told_by (Puzzled c1 c2) proof (contact_at from o)) v.asks
    ∙ ap (vouched_by c1 c2 c) v.brings
    ∙ ap (λ b. cond b (Some (Vouched c v.shown)) None) ((solved c1 c2 v.id.0 v.shown).1 v.solves)
    ∙ ap Some (sym v.tells)

pub taken : (c1 c2 : ℕ) (read_only : Bool) (proof : Option Proof) (ask : Ask) (from : Addr) (call : TableCall) → (notify_by (Puzzled c1 c2) read_only proof ask from ≡ Some call) ↔ IsVouchedFor c1 c2 read_only proof ask from call
taken c1 c2 read_only proof ask from call = (is_vouched c1 c2 read_only proof ask from call, is_notified c1 c2 read_only proof ask from call)
