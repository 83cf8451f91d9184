-- A datagram has one tag at most.
use Rattle.std.proofs.Common.{◌≡◌, ℕ, List, Bool, true, Some, Result, sym, ap, subst, ◌∙◌}
use Rattle.std.specs.Prelude.{IsTrue, ◌↔◌, IfOk, codes}
use Rattle.kad_base.specs.declared.types.Id.{Id}
use Rattle.kad_base.specs.declared.types.NoMemory.{NoMemory}
use Rattle.kad_bencode.specs.Keys.{value_of}
use Rattle.kad_bencode.specs.declared.entries.Pair.{Pair}
use Rattle.kad_bencode.specs.declared.value.Value.{Value}
use Rattle.kad_bencode.specs.declared.value.Value.TheVariants.{Text, Dict}
use Rattle.kad_bencode.proofs.Faults.{one_value}
use Rattle.kad_bencode.proofs.Layers.{same_dict}
use Rattle.kad_bencode.specs.Spelling.{Spells}
use Rattle.kad_krpc.specs.Seal.{BearsTag, IsBodyOf, IsTagged, LacksTag, body_of}
use Rattle.lookup_core.specs.Sealed.{Accepts, HasTag, IsSealed}

same_text : (s t : List ℕ) → Some (Text s) ≡ Some (Text t) → s ≡ t
same_text s t e = cc

-- what is tagged, and its tag, are the datagram's
one_tag : (bytes body tag body' tag' : List ℕ) → IsTagged bytes body tag → IsTagged bytes body' tag' → (body ≡ body') × (tag ≡ tag')
one_tag bytes body tag body' tag' h k =
    let pairs : h.pairs ≡ k.pairs = same_dict h.pairs k.pairs (one_value bytes (Dict h.pairs) (Dict k.pairs) h.spelled k.spelled) in
    (h.body_is ∙ ap body_of pairs ∙ sym k.body_is, same_text tag tag' (sym h.tag_is ∙ ap (λ (l : List (Pair Value)). value_of l (codes "sg")) pairs ∙ k.tag_is))

-- the tag and the body of a value are those of the bytes that spell it
pub parts_tagged : (bytes : List ℕ) (v : Value) (body tag : List ℕ) → Spells bytes v → BearsTag v tag → IsBodyOf v body → IsTagged bytes body tag
parts_tagged bytes v body tag s bears is = record { pairs = bears.0; spelled = subst (Spells bytes) bears.1 s; tag_is = bears.2; body_is = is bears.0 bears.1 }

-- so one that has this tag carries one that is accepted exactly if this one is
pub carries : (accepts : Accepts) (bytes body tag : List ℕ) (id : Id) (r : Bool) → IsTagged bytes body tag → r ≡ accepts id body tag → IsTrue r ↔ HasTag accepts bytes id
carries accepts bytes body tag id r parts is = (
  (λ e. record { body = body; tag = tag; parts = parts; accepted = sym is ∙ e }),
  (λ h. let same = one_tag bytes body tag h.body h.tag parts h.parts in is ∙ ap (λ b. accepts id b tag) same.0 ∙ ap (λ t. accepts id h.body t) same.1 ∙ h.accepted),
)

-- and what spells a value without a tag carries none
pub lacks : (accepts : Accepts) (bytes : List ℕ) (v : Value) (id : Id) → Spells bytes v → LacksTag v → ¬ HasTag accepts bytes id
lacks accepts bytes v id s none h = none h.parts.pairs h.tag (one_value bytes v (Dict h.parts.pairs) s h.parts.spelled) h.parts.tag_is

-- what a sealed lookup asks for
pub asks_for : (accepts : Accepts) (top : Value) (id speaks : Id) (sealed : Bool) (r : Result Bool NoMemory) → sealed ≡ true → speaks ≡ id
    → IfOk r (λ has. (bytes : List ℕ) → Spells bytes top → IsTrue has ↔ HasTag accepts bytes speaks)
    → IfOk r (λ is. (bytes : List ℕ) → Spells bytes top → IsTrue is ↔ IsSealed sealed accepts bytes id)
asks_for accepts top id speaks sealed r is same h =
    subst (λ b. IfOk r (λ is. (bytes : List ℕ) → Spells bytes top → IsTrue is ↔ IsSealed b accepts bytes id)) (sym is)
    (subst (λ i. IfOk r (λ has. (bytes : List ℕ) → Spells bytes top → IsTrue has ↔ HasTag accepts bytes i)) same h)
