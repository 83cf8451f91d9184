-- How much a path has to settle.
use Rattle.std.proofs.Common.{◌≡◌, ℕ, zero, suc, ◌<◌, ◌≤◌, ◌^◌, List, [], ◌∷◌, length, inl, inr, ap, arith}
use Rattle.std.specs.List.{sum_by}
use Rattle.std.proofs.lemmas.List.Sums.{sum_by-cons}
use Rattle.std.proofs.lemmas.List.{length-drop}
use Rattle.std.proofs.lemmas.Bool.{cases_lt}
use Rattle.kad_base.specs.Limits.{max_path_contacts}
use Rattle.claim_book.specs.declared.types.Setting.{Setting}
use Rattle.claim_book.specs.declared.types.Thing.{Thing}
use Rattle.claim_book.specs.declared.types.Thing.TheVariants.{Responder, Told}
use Rattle.claim_book.specs.declared.types.Entry.{Entry}
use Rattle.claim_book.specs.Journal.{things, settled, unsettled}
use Rattle.claim_book.specs.Legal.{Legal}
use Rattle.claim_book.specs.Room.{thing_room, unsettled_room}
use Rattle.claim_book.proofs.Ends.{beyond}
use Rattle.claim_book.proofs.Bounds.{asked_few, answered_within, room_within}

-- each thing takes some room
things_room : (ts : List Thing) → length ts ≤ sum_by thing_room ts
things_room [] = omega arith
things_room (Responder c ∷ ts) = omega (arith, sum_by-cons thing_room (Responder c) ts, things_room ts)
things_room (Told r ∷ ts) = omega (arith, sum_by-cons thing_room (Told r) ts, things_room ts)

room_of_one : (p n : ℕ) (J : List Entry) → p < n → length (unsettled p J) ≤ unsettled_room n J
room_of_one p zero J lt = absurd (omega arith)
room_of_one p (suc n) J lt =
    elim (cases_lt p n) [
      | inl below ↦ (let rest = room_of_one p n J below in omega arith)
      | inr above ↦
          let is : p ≡ n = omega arith in
          let one = ap (λ m. length (unsettled m J)) is in
          omega (arith, one, things_room (unsettled n J))
    ]

none_past : (s : Setting) (J : List Entry) (p : ℕ) → 0 < s.paths → Legal s J → s.paths ≤ p → length (unsettled p J) ≡ 0
unfolding unsettled
none_past s J p z l le =
    let none = ap (λ ts. length ts) (beyond s J z l p le).no_things in
    omega (arith, length-drop (length (settled p J)) (things p J), none)

-- an answer gives itself and its reports to settle, and a path asks no more contacts than it may have: both are few
pub unsettled_few : (s : Setting) (J : List Entry) → 0 < s.paths → s.paths < 256 → s.k < max_path_contacts → Legal s J → (p : ℕ) → length (unsettled p J) < 2 ^ 32
unsettled_few s J z few k l p =
    elim (cases_lt p s.paths) [
      | inl below ↦
          let one = room_of_one p s.paths J below in
          let all = room_within s J z l in
          let asks = asked_few s J z k l in
          let answers = answered_within s J l in
          omega arith
      | inr above ↦ (let none = none_past s J p z l above in omega arith)
    ]
