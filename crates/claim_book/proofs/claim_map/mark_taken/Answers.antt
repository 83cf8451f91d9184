use Rattle.std.proofs.Common.{◌≡◌, ℕ, ◌+◌, Bool, true, false, cond, Option, Some, None, unwrap_or, refl, sym, ap, subst, ◌∙◌}
use Rattle.std.specs.Prelude.{IsSome}
use Rattle.std.specs.declared.random_state.RandomState.{RandomState}
use Rattle.indexmap.specs.IndexMap.{IndexMap, get}
use Rattle.kad_base.specs.declared.types.ClaimRule.TheVariants.{Named, Asked}
use Rattle.kad_base.specs.declared.types.Contact.{Contact}
use Rattle.kad_base.specs.Hosts.{host}
use Rattle.claim_book.specs.declared.types.Setting.{Setting}
use Rattle.claim_book.specs.declared.claim_map.Claim.{Claim}
use Rattle.claim_book.specs.declared.claim_map.Claims.{Claims}
use Rattle.claim_book.specs.declared.claim_map.Seat.{Seat}
use Rattle.claim_book.specs.declared.claim_map.Spot.{Spot}
use Rattle.claim_book.specs.Claims.{key_eq, seat_eq, seat, spot_eq, spot, blank, shown, shown_crowd, taken_claim, Sets, Takes}
use Rattle.claim_book.proofs.Keys.{key_exact}
use Rattle.claim_book.proofs.claim_map.mark_taken.Goals as goal
use Rattle.claim_book.proofs.claim_map.mark_taken.Goals.{in-Named, in-Asked}

-- the contact is on the path, and its host isn't counted yet
record Puts (s : Setting) (m n : Claims) (p : ℕ) (c : Contact) : Type 0 where
  contacts : (d : Contact) → get key_eq n.contacts d ≡ cond (key_eq c d) (Some (taken_claim s.claim p (shown m c))) (get key_eq m.contacts d)
  crowds : n.crowds ≡ m.crowds
  spots : s.claim ≡ Asked → (k : Spot) → get spot_eq n.spots k ≡ cond (spot_eq (spot p c) k) (Some true) (get spot_eq m.spots k)

puts_named : (s : Setting) (m n : Claims) (p : ℕ) (c : Contact) → s.claim ≡ Named → Sets m n c (taken_claim Named p (shown m c)) → Puts s m n p c
puts_named s m n p c rule sets = record {
  contacts = λ d. sets.contacts d ∙ ap (λ r. cond (key_eq c d) (Some (taken_claim r p (shown m c))) (get key_eq m.contacts d)) (sym rule);
  crowds = sets.crowds;
  spots = λ other. absurd cc;
}

-- what the map says of a contact that it has
says : (m : Claims) (c : Contact) (d : Contact) → IsSome (get key_eq m.contacts c) → get key_eq m.contacts d ≡ cond (key_eq c d) (Some (shown m c)) (get key_eq m.contacts d)
says m c d has = by (key_eq c d) refl
  where
    said : (o : Option Claim) → IsSome o → o ≡ Some (unwrap_or o blank)
    said None h = absurd cc
    said (Some k) h = refl

    by : (b : Bool) → key_eq c d ≡ b → get key_eq m.contacts d ≡ cond b (Some (shown m c)) (get key_eq m.contacts d)
    by true e = ap (get key_eq m.contacts) (sym (key_exact c d e)) ∙ said (get key_eq m.contacts c) has
    by false e = refl

puts_asked : (s : Setting) (m n : Claims) (p : ℕ) (c : Contact) → s.claim ≡ Asked → IsSome (get key_eq m.contacts c) → n.contacts ≡ m.contacts → n.crowds ≡ m.crowds
    → ((k : Spot) → get spot_eq n.spots k ≡ cond (spot_eq (spot p c) k) (Some true) (get spot_eq m.spots k)) → Puts s m n p c
puts_asked s m n p c rule has contacts crowds spots = record {
  contacts = λ d. ap (λ (x : IndexMap Contact Claim RandomState). get key_eq x d) contacts ∙ says m c d has ∙ ap (λ r. cond (key_eq c d) (Some (taken_claim r p (shown m c))) (get key_eq m.contacts d)) (sym rule);
  crowds = crowds;
  spots = λ r. spots;
}

puts_then : (s : Setting) (m n o : Claims) (p : ℕ) (c : Contact) → Puts s m n p c → (s.per_address ≡ 0 → ⊥) → o.contacts ≡ n.contacts → o.spots ≡ n.spots
    → ((k : Seat) → get seat_eq o.crowds k ≡ cond (seat_eq (seat p (host c.addr)) k) (Some (shown_crowd n p (host c.addr) + 1)) (get seat_eq n.crowds k)) → Takes s m o p c
puts_then s m n o p c puts limited contacts spots crowds = record {
  contacts = λ d. ap (λ (x : IndexMap Contact Claim RandomState). get key_eq x d) contacts ∙ puts.contacts d;
  crowds = λ z k. crowds k ∙ ap (λ (x : IndexMap Seat ℕ RandomState). cond (seat_eq (seat p (host c.addr)) k) (Some (unwrap_or (get seat_eq x (seat p (host c.addr))) 0 + 1)) (get seat_eq x k)) puts.crowds;
  unlimited = λ z. absurd (limited z);
  spots = λ r k. ap (λ (x : IndexMap Spot Bool RandomState). get spot_eq x k) spots ∙ puts.spots r k;
}

pub returns : goal.returns
returns c =
    let s = c.args.setting.now in
    let m = c.args.claims.now in
    let n = c.match-setting.claims in
    let p = c.args.path in
    let d = c.args.contact.now in
    let puts : Puts s m n p d = elim c.match-setting.branch [
      | in-Named w ↦ subst (λ (x : Claims). Puts s m x p d) (sym w.claims-is) (puts_named s m w.set_claim.new.claims p d w.in-Named.is (subst (λ (k : Claim). Sets m w.set_claim.new.claims d (taken_claim Named p k)) w.claim_at-claim.ensures w.set_claim.ensures.each))
      | in-Asked w ↦ subst (λ (x : Claims). Puts s m x p d) (sym w.claims-is) (puts_asked s m w.put_on.new.claims p d w.in-Asked.is c.requires.known.contact w.put_on.ensures.contacts w.put_on.ensures.crowds w.put_on.ensures.spots)
    ] in
    puts_then s m n c.count_one.new.claims p d puts c.if-setting-eq0.false c.count_one.ensures.contacts c.count_one.ensures.spots
    (subst (λ h. (k : Seat) → get seat_eq c.count_one.new.claims.crowds k ≡ cond (seat_eq (seat p h) k) (Some (unwrap_or (get seat_eq n.crowds (seat p h)) 0 + 1)) (get seat_eq n.crowds k)) c.host_of.ensures c.count_one.ensures.crowds)
