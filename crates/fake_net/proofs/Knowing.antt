-- Whom a node knows, one node more.
use Rattle.std.proofs.Common.{◌≡◌, ℕ, ◌+◌, ◌<◌, ◌≤◌, List, length, get_or, set, Bool, true, false, not, ◌&&◌, sym, ap, ◌∙◌, inl, inr, arith}
use Rattle.std.specs.Prelude.{min, nat_eq, nat_lt}
use Rattle.std.proofs.lemmas.Bool.{eq-eqb, ne_eqb, lt-ltb, le-ltb, cases_eq}
use Rattle.std.proofs.lemmas.List.{length-set, get_or-set_same, get_or-set_other}
use Rattle.fake_net.specs.Network.{id_of, shared, is_in_bucket, bucket_below, knows}
use Rattle.fake_net.specs.Counting.{CountsBelow}
use Rattle.fake_net.proofs.Numbering.{count_one, count_none}

-- a node isn't in a bucket of its own, and is in the one of the bits that it shares alone
not_itself : (seed : List ℕ) (i j bits : ℕ) → i ≡ j → is_in_bucket seed i bits j ≡ false
not_itself seed i j bits e =
    ap (λ (b : Bool). not b && nat_eq (shared (id_of seed i) (id_of seed j)) bits) (eq-eqb j i (sym e))

in_its_own : (seed : List ℕ) (i j bits : ℕ) → (i ≡ j → ⊥) → bits ≡ shared (id_of seed i) (id_of seed j) → is_in_bucket seed i bits j ≡ true
in_its_own seed i j bits ne e =
    ap (λ (b : Bool). not b && nat_eq (shared (id_of seed i) (id_of seed j)) bits) (ne_eqb j i (λ h. ne (sym h)))
    ∙ eq-eqb (shared (id_of seed i) (id_of seed j)) bits (sym e)

in_no_other : (seed : List ℕ) (i j bits : ℕ) → (i ≡ j → ⊥) → (bits ≡ shared (id_of seed i) (id_of seed j) → ⊥) → is_in_bucket seed i bits j ≡ false
in_no_other seed i j bits ne other =
    ap (λ (b : Bool). not b && nat_eq (shared (id_of seed i) (id_of seed j)) bits) (ne_eqb j i (λ h. ne (sym h)))
    ∙ ne_eqb (shared (id_of seed i) (id_of seed j)) bits (λ h. other (sym h))

-- ---- whether it is known

pub knows_not_itself : (seed : List ℕ) (i j : ℕ) → i ≡ j → false ≡ knows seed i j
knows_not_itself seed i j e =
    sym (ap (λ (b : Bool). not b && nat_lt (bucket_below seed i (shared (id_of seed i) (id_of seed j)) j) 8) (eq-eqb j i (sym e)))

knows_by : (seed : List ℕ) (i j bits : ℕ) → (i ≡ j → ⊥) → bits ≡ shared (id_of seed i) (id_of seed j)
    → knows seed i j ≡ nat_lt (bucket_below seed i bits j) 8
knows_by seed i j bits ne e =
    ap (λ (b : Bool). not b && nat_lt (bucket_below seed i (shared (id_of seed i) (id_of seed j)) j) 8) (ne_eqb j i (λ h. ne (sym h)))
    ∙ ap (λ (n : ℕ). nat_lt (bucket_below seed i n j) 8) (sym e)

pub knows_not : (seed : List ℕ) (i j bits : ℕ) (counts : List ℕ) → CountsBelow seed i j counts → (i ≡ j → ⊥) → bits ≤ 160
    → bits ≡ shared (id_of seed i) (id_of seed j) → 8 ≤ get_or counts bits 0 → false ≡ knows seed i j
knows_not seed i j bits counts before ne le e full =
    let is = before.counted bits le in
    let many : 8 ≤ bucket_below seed i bits j = grind (arith, is) in
    sym (knows_by seed i j bits ne e ∙ le-ltb (bucket_below seed i bits j) 8 many)

pub knows_it : (seed : List ℕ) (i j bits : ℕ) (counts : List ℕ) → CountsBelow seed i j counts → (i ≡ j → ⊥) → bits ≤ 160
    → bits ≡ shared (id_of seed i) (id_of seed j) → get_or counts bits 0 < 8 → true ≡ knows seed i j
knows_it seed i j bits counts before ne le e free =
    let is = before.counted bits le in
    let few : bucket_below seed i bits j < 8 = grind (arith, is) in
    sym (knows_by seed i j bits ne e ∙ lt-ltb (bucket_below seed i bits j) 8 few)

-- ---- what is counted then

pub counts_itself : (seed : List ℕ) (i j : ℕ) (counts : List ℕ) → CountsBelow seed i j counts → i ≡ j → CountsBelow seed i (j + 1) counts
counts_itself seed i j counts before e = record {
  long = before.long;
  counted = λ bits le. before.counted bits le ∙ ap (λ (n : ℕ). min n 8) (sym (count_none (is_in_bucket seed i bits) j (not_itself seed i j bits e)));
}

pub counts_full : (seed : List ℕ) (i j bits : ℕ) (counts : List ℕ) → CountsBelow seed i j counts → (i ≡ j → ⊥)
    → bits ≡ shared (id_of seed i) (id_of seed j) → 8 ≤ get_or counts bits 0 → CountsBelow seed i (j + 1) counts
counts_full seed i j bits counts before ne e full = record {
  long = before.long;
  counted = λ other le. elim (cases_eq other bits) [
    | inl same ↦
        (let is = before.counted other le in
        let more = count_one (is_in_bucket seed i other) j (in_its_own seed i j other ne (same ∙ e)) in
        let here : get_or counts other 0 ≡ get_or counts bits 0 = ap (λ (n : ℕ). get_or counts n 0) same in
        grind (arith, is, more, here, full))
    | inr apart ↦
        (let more = count_none (is_in_bucket seed i other) j (in_no_other seed i j other ne (λ h. apart (h ∙ sym e))) in
        before.counted other le ∙ ap (λ (n : ℕ). min n 8) (sym more))
  ];
}

pub counts_one : (seed : List ℕ) (i j bits : ℕ) (counts : List ℕ) → CountsBelow seed i j counts → (i ≡ j → ⊥) → bits ≤ 160
    → bits ≡ shared (id_of seed i) (id_of seed j) → get_or counts bits 0 < 8 → CountsBelow seed i (j + 1) (set counts bits (get_or counts bits 0 + 1))
counts_one seed i j bits counts before ne low e free = record {
  long = length-set counts bits (get_or counts bits 0 + 1) ∙ before.long;
  counted = λ other le. elim (cases_eq other bits) [
    | inl same ↦
        (let is = before.counted bits low in
        let more = count_one (is_in_bucket seed i bits) j (in_its_own seed i j bits ne e) in
        let within : bits < length counts = (let long = before.long in omega arith) in
        let put = get_or-set_same counts bits (get_or counts bits 0 + 1) 0 within in
        let there : get_or (set counts bits (get_or counts bits 0 + 1)) bits 0 ≡ min (bucket_below seed i bits (j + 1)) 8 = grind (arith, is, more, put, free) in
        ap (λ (n : ℕ). get_or (set counts bits (get_or counts bits 0 + 1)) n 0) same
        ∙ there
        ∙ ap (λ (n : ℕ). min (bucket_below seed i n (j + 1)) 8) (sym same))
    | inr apart ↦
        (let more = count_none (is_in_bucket seed i other) j (in_no_other seed i j other ne (λ h. apart (h ∙ sym e))) in
        get_or-set_other counts bits other (get_or counts bits 0 + 1) 0 apart
        ∙ before.counted other le
        ∙ ap (λ (n : ℕ). min n 8) (sym more))
  ];
}
