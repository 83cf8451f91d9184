-- Who holds a contact against a path that is told of it: one path alone, and no contact that is free.
use Rattle.std.proofs.Common.{◌≡◌, ℕ, List, inl, inr, refl, sym, ◌∙◌}
use Rattle.kad_base.specs.declared.types.ClaimRule.{ClaimRule}
use Rattle.kad_base.specs.declared.types.ClaimRule.TheVariants.{Named, Asked}
use Rattle.kad_base.specs.declared.types.Contact.{Contact}
use Rattle.claim_book.specs.declared.types.Setting.{Setting}
use Rattle.claim_book.specs.declared.types.Entry.{Entry}
use Rattle.claim_book.specs.Legal.{IsHeldBy, IsFree, Legal}
use Rattle.claim_book.proofs.Claims.{one_path, one_asker, path_took, asked_on_asked}

by_one : (s : Setting) (J : List Entry) (rule : ClaimRule) (p x z : ℕ) (c : Contact) → s.claim ≡ rule → Legal s J → IsHeldBy rule J p c x → IsHeldBy rule J p c z → x ≡ z
by_one s J Named p x z c is l h k = one_path s J is l x z c h k
by_one s J Asked p x z c is l (inl h) (inl k) = h.0 ∙ sym k.0
by_one s J Asked p x z c is l (inl h) (inr k) = absurd (let here = h.1 in let off = k.0 in cc)
by_one s J Asked p x z c is l (inr h) (inl k) = absurd (let here = k.1 in let off = h.0 in cc)
by_one s J Asked p x z c is l (inr h) (inr k) = one_asker s J l x z c h.1 k.1

-- one path holds a contact
pub held_by_one : (s : Setting) (J : List Entry) (p x z : ℕ) (c : Contact) → Legal s J → IsHeldBy s.claim J p c x → IsHeldBy s.claim J p c z → x ≡ z
held_by_one s J p x z c l h k = by_one s J s.claim p x z c refl l h k

is_held : (rule : ClaimRule) (J : List Entry) (p x : ℕ) (c : Contact) → IsHeldBy rule J p c x → IsFree rule J p c → ⊥
is_held Named J p x c h free = (let has = path_took x J c h in absurd cc)
is_held Asked J p x c (inl h) free = absurd (let here = h.1 in let off = free.0 in cc)
is_held Asked J p x c (inr h) free = (let some = asked_on_asked x J c h.1 in let none = free.1 in absurd cc)

-- what is held isn't free
pub held_not_free : (s : Setting) (J : List Entry) (p x : ℕ) (c : Contact) → IsHeldBy s.claim J p c x → IsFree s.claim J p c → ⊥
held_not_free s J p x c h free = is_held s.claim J p x c h free
