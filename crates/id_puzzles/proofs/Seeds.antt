-- A seed of 32 bytes, the eight words of its key, and the generator that it makes.
use Rattle.std.proofs.Common.{◌≡◌, ℕ, zero, suc, ◌+◌, ◌*◌, ◌/◌, ◌<◌, ◌≤◌, ◌^◌, ◌%◌, List, [], ◌∷◌, length, drop, get_or, refl, sym, ap, ◌∙◌, arith}
use Rattle.std.specs.Int.{w32, to_le_bytes}
use Rattle.std.proofs.Math.Seq.{drop-cons}
use Rattle.std.proofs.Math.ListN.{drop_of_length-le}
use Rattle.rand_core.specs.Steps.{u32_at}
use Rattle.rand_chacha.specs.ChaCha.{ChaCha, key_of, seed_of, of_seed, next_word, word_at}
use Rattle.kad_base.specs.Words.{word}
use Rattle.id_puzzles.specs.Drawn.{WordsState, drawn_by, IsSeeded}

four : (a b c d : ℕ) → a < 256 → b < 256 → c < 256 → d < 256
    → to_le_bytes w32 (a + b * 2 ^ 8 + c * 2 ^ 16 + d * 2 ^ 24) ≡ a ∷ b ∷ c ∷ d ∷ []
four a b c d p q r s =
    let n = a + b * 2 ^ 8 + c * 2 ^ 16 + d * 2 ^ 24 in
    let e0 : n % 256 ≡ a = omega arith in
    let e1 : n / 256 % 256 ≡ b = omega arith in
    let e2 : n / 65536 % 256 ≡ c = omega arith in
    let e3 : n / 16777216 % 256 ≡ d = omega arith in
    cc

-- the bytes of word i of a seed
word_again : (s : List ℕ) (i : ℕ) → ((j : ℕ) → get_or s j 0 < 256)
    → to_le_bytes w32 (u32_at s i) ≡ get_or s (4 * i) 0 ∷ get_or s (4 * i + 1) 0 ∷ get_or s (4 * i + 2) 0 ∷ get_or s (4 * i + 3) 0 ∷ []
unfolding u32_at
word_again s i small = four _ _ _ _ (small (4 * i)) (small (4 * i + 1)) (small (4 * i + 2)) (small (4 * i + 3))

-- n items of a list, from place j on
abbrev items_from : List ℕ → ℕ → ℕ → List ℕ
items_from s zero j = []
items_from s (suc n) j = get_or s j 0 ∷ items_from s n (suc j)

items_from-all : (s : List ℕ) (n j : ℕ) → j + n ≡ length s → items_from s n j ≡ drop j s
items_from-all s zero j e = let b : length s ≤ j = omega arith in sym (drop_of_length-le s b)
items_from-all s (suc n) j e =
    ap (λ (r : List ℕ). get_or s j 0 ∷ r) (items_from-all s n (suc j) (omega arith)) ∙ sym (drop-cons s j 0 (omega arith))

-- the bytes of the key's words are those of the seed
pub seed_again : (s : List ℕ) → length s ≡ 32 → ((i : ℕ) → get_or s i 0 < 256) → seed_of (key_of s) ≡ s
seed_again s len small =
    let whole : items_from s 32 0 ≡ s = items_from-all s 32 0 (sym len) in
    let w0 = word_again s 0 small in
    let w1 = word_again s 1 small in
    let w2 = word_again s 2 small in
    let w3 = word_again s 3 small in
    let w4 = word_again s 4 small in
    let w5 = word_again s 5 small in
    let w6 = word_again s 6 small in
    let w7 = word_again s 7 small in
    cc

-- a generator made from a seed and set to a place
pub new_drawn : (s : List ℕ) (at : ℕ) → length s ≡ 32 → ((i : ℕ) → get_or s i 0 < 256) → at < 2 ^ 60
    → drawn_by (record (of_seed s) { word_pos = at % 2 ^ 68 }) ≡ record { seed = s; place = at }
unfolding drawn_by
new_drawn s at len small low =
    let e : at % 2 ^ 68 ≡ at = omega arith in
    let f : seed_of (key_of s) ≡ s = seed_again s len small in
    cc

pub new_seeded : (s : List ℕ) (at : ℕ) → length s ≡ 32 → ((i : ℕ) → get_or s i 0 < 256)
    → IsSeeded (record (of_seed s) { word_pos = at })
new_seeded s at len small = record { stream = refl; key = ap key_of (seed_again s len small) }

value_here : (g : ChaCha) → IsSeeded g → (next_word 10 g).0 ≡ word (drawn_by g).seed (drawn_by g).place
unfolding word drawn_by
value_here g h =
    ap (λ (k : List ℕ). word_at 10 k g.stream g.word_pos) (sym h.key)
    ∙ ap (λ (n : ℕ). word_at 10 (key_of (seed_of g.key)) n g.word_pos) h.stream

drawn_here : (g : ChaCha) → (drawn_by g).place < 2 ^ 60 → drawn_by (next_word 10 g).1 ≡ record (drawn_by g) { place = (drawn_by g).place + 1 }
unfolding drawn_by
drawn_here g low =
    let f : (g.word_pos + 1) % 2 ^ 68 ≡ g.word_pos + 1 = omega arith in
    let D : ℕ → WordsState = λ n. record { seed = seed_of g.key; place = n } in
    ap D f

-- the word that a generator draws, and the generator after it
pub next_value : (g after : ChaCha) (w : ℕ) (d : WordsState) → ◌≡◌ {A = ℕ × ChaCha} (w, after) (next_word 10 g) → IsSeeded g → drawn_by g ≡ d
    → w ≡ word d.seed d.place
next_value g after w d e h is =
    ap (λ (p : ℕ × ChaCha). p.0) e ∙ value_here g h ∙ ap (λ (x : WordsState). word x.seed x.place) is

pub next_drawn : (g after : ChaCha) (w : ℕ) (d : WordsState) → ◌≡◌ {A = ℕ × ChaCha} (w, after) (next_word 10 g) → drawn_by g ≡ d → d.place < 2 ^ 60
    → drawn_by after ≡ record d { place = d.place + 1 }
next_drawn g after w d e is low =
    let p : (drawn_by g).place ≡ d.place = ap (λ (x : WordsState). x.place) is in
    let l : (drawn_by g).place < 2 ^ 60 = omega arith in
    ap (λ (q : ℕ × ChaCha). drawn_by q.1) e ∙ drawn_here g l
    ∙ ap (λ (x : WordsState). record x { place = x.place + 1 }) is
