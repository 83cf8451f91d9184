-- What a text spells is one value.
use Rattle.std.proofs.Common.{◌≡◌, ◌≢◌, ℕ, zero, suc, ◌*◌, ◌^◌, ◌<◌, ◌⊎◌, inl, List, [], ◌∷◌, ◌++◌, length, drop, refl, sym, ap, ◌∙◌, subst, arith, lit<}
use Rattle.std.specs.Prelude.{decimal, codes, All}
use Rattle.std.specs.Net.Text.{ipv4_text, dotted_text}
use Rattle.std.proofs.lemmas.Fmt.{decimal_injective}
use Rattle.std.proofs.lemmas.List.{append_assoc}
use Rattle.std.proofs.lemmas.List.Elements.{All-append, All-cons, All-head, All-nil, All-tail}
use Rattle.hex.specs.Hex.{IsBytes, encode_lower, encode_with}
use Rattle.kad_base.specs.declared.types.Id.{Id}
use Rattle.kad_base.specs.declared.types.Ip.{Ip}
use Rattle.kad_base.specs.declared.types.Ip.TheVariants.{V4, V6}
use Rattle.kad_base.specs.declared.types.Addr.{Addr}
use Rattle.kad_base.specs.declared.types.Family.{Family}
use Rattle.kad_base.specs.declared.types.Family.TheVariants.{Four, Six}
use Rattle.kad_text.specs.Text.{FitsAddr, FitsIp, SpellsAddr, SpellsBytes, SpellsFamily, SpellsHex, SpellsId, SpellsNumber, addr_text, groups_after, ip_text}
use Rattle.kad_text.proofs.AddrSpelling.{bytes_two, decimal_digits, four, v4_bytes}
use Rattle.kad_text.proofs.AddrText.{groups_plain}
use Rattle.kad_text.proofs.HexSpelling.{encode_lower-same}

-- ---- where a text is cut

pub cut_once : (c : ℕ) (a b x y : List ℕ) → All (λ d. d ≢ c) a → All (λ d. d ≢ c) b → a ++ (c ∷ x) ≡ b ++ (c ∷ y) → (a ≡ b) × (x ≡ y)
cut_once c [] [] x y ha hb e = (refl, cc)
cut_once c [] (d ∷ b) x y ha hb e = absurd (All-head (λ (d : ℕ). d ≢ c) d b hb cc)
cut_once c (d ∷ a) [] x y ha hb e = absurd (All-head (λ (d : ℕ). d ≢ c) d a ha cc)
cut_once c (d ∷ a) (f ∷ b) x y ha hb e =
    let same : d ≡ f = cc in
    let rest : a ++ (c ∷ x) ≡ b ++ (c ∷ y) = cc in
    let r = cut_once c a b x y (All-tail (λ (d : ℕ). d ≢ c) d a ha) (All-tail (λ (d : ℕ). d ≢ c) f b hb) rest in
    (ap (λ (g : ℕ). g ∷ a) same ∙ ap (λ (l : List ℕ). f ∷ l) r.0, r.1)

-- ---- hex and numbers

pub hex_once : (n : ℕ) (text a b : List ℕ) → SpellsHex n text a → SpellsHex n text b → a ≡ b
hex_once n text a b s t = encode_lower-same a b s.fit t.fit (sym s.digits ∙ t.digits)

pub bytes_once : (text a b : List ℕ) → SpellsBytes text a → SpellsBytes text b → a ≡ b
bytes_once text a b s t = encode_lower-same a b s.fit t.fit (sym s.digits ∙ t.digits)

pub id_once : (text : List ℕ) (a b : Id) → SpellsId text a → SpellsId text b → a ≡ b
id_once text a b s t =
    let made : List ℕ → Id = λ bytes. record { 0 = bytes } in
    ap made (hex_once 20 text a.0 b.0 s t)

pub number_once : (least most : ℕ) (text : List ℕ) (a b : ℕ) → most < 2 ^ 64 → SpellsNumber least most text a → SpellsNumber least most text b → a ≡ b
number_once least most text a b fits s t =
    let p = s.below in
    let q = t.below in
    decimal_injective a b (omega arith) (omega arith) (sym s.digits ∙ t.digits)

-- ---- addresses

digits_lack : (c n : ℕ) → n < 2 ^ 64 → (c < 48) ⊎ (57 < c) → All (λ d. d ≢ c) (decimal n)
digits_lack c n fits out k d lt e = let r = decimal_digits n fits k d lt in omega arith

dotted_joined : (a b c d : ℕ) → dotted_text a b c d ≡ decimal a ++ (46 ∷ (decimal b ++ (46 ∷ (decimal c ++ (46 ∷ decimal d)))))
dotted_joined a b c d = simp append_assoc refl

dotted_once : (a b c d e f g h : ℕ) → a < 256 → b < 256 → c < 256 → d < 256 → e < 256 → f < 256 → g < 256 → h < 256 → dotted_text a b c d ≡ dotted_text e f g h
    → (a ≡ e) × (b ≡ f) × (c ≡ g) × (d ≡ h)
dotted_once a b c d e f g h ha hb hc hd he hf hg hh same =
    let joined = sym (dotted_joined a b c d) ∙ same ∙ dotted_joined e f g h in
    let fits : (n : ℕ) → n < 256 → n < 2 ^ 64 = λ n lt. omega arith in
    let lacks : (n : ℕ) → n < 256 → All (λ x. x ≢ 46) (decimal n) = λ n lt. digits_lack 46 n (fits n lt) (inl (lit< tt)) in
    let one = cut_once 46 (decimal a) (decimal e) _ _ (lacks a ha) (lacks e he) joined in
    let two = cut_once 46 (decimal b) (decimal f) _ _ (lacks b hb) (lacks f hf) one.1 in
    let three = cut_once 46 (decimal c) (decimal g) _ _ (lacks c hc) (lacks g hg) two.1 in (
      decimal_injective a e (fits a ha) (fits e he) one.0,
      decimal_injective b f (fits b hb) (fits f hf) two.0,
      decimal_injective c g (fits c hc) (fits g hg) three.0,
      decimal_injective d h (fits d hd) (fits h hh) three.1,
    )

v4_once : (x y : List ℕ) → FitsIp (V4 x) → FitsIp (V4 y) → ipv4_text x ≡ ipv4_text y → x ≡ y
v4_once x y hx hy e =
    let p = dotted_once _ _ _ _ _ _ _ _ (hx.1 0) (hx.1 1) (hx.1 2) (hx.1 3) (hy.1 0) (hy.1 1) (hy.1 2) (hy.1 3) e in
    four x hx.0 ∙ rw (p.0, p.1, p.2, p.3) refl ∙ sym (four y hy.0)

no_colon : (bytes : List ℕ) → FitsIp (V4 bytes) → All (λ d. d ≢ 58) (ip_text (V4 bytes))
no_colon bytes h k d lt e = let r = v4_bytes bytes h k d lt in omega arith

v4_port_once : (x y : List ℕ) (p q : ℕ) → FitsIp (V4 x) → FitsIp (V4 y) → p < 2 ^ 16 → q < 2 ^ 16 → addr_text (record { ip = V4 x; port = p }) ≡ addr_text (record { ip = V4 y; port = q }) → (x ≡ y) × (p ≡ q)
v4_port_once x y p q fx fy hp hq e =
    let joined : ipv4_text x ++ (58 ∷ decimal p) ≡ ipv4_text y ++ (58 ∷ decimal q) = sym (append_assoc (ipv4_text x) (codes ":") (decimal p)) ∙ e ∙ append_assoc (ipv4_text y) (codes ":") (decimal q) in
    let cut = cut_once 58 (ipv4_text x) (ipv4_text y) (decimal p) (decimal q) (no_colon x fx) (no_colon y fy) joined in
    (v4_once x y fx fy cut.0, decimal_injective p q (omega arith) (omega arith) cut.1)

-- ---- addresses of IPv6

pub take_pair : (n : ℕ) (x y p q : List ℕ) → length x ≡ length y → x ++ p ≡ y ++ q → (x ≡ y) × (p ≡ q)
take_pair n [] [] p q len e = (refl, e)
take_pair n [] (d ∷ y) p q len e = absurd (omega arith)
take_pair n (c ∷ x) [] p q len e = absurd (omega arith)
take_pair n (c ∷ x) (d ∷ y) p q len e =
    let same : c ≡ d = cc in
    let rest : x ++ p ≡ y ++ q = cc in
    let lens : length x ≡ length y = omega arith in
    let r = take_pair n x y p q lens rest in
    (ap (λ (k : ℕ). k ∷ x) same ∙ ap (λ (l : List ℕ). d ∷ l) r.0, r.1)

pub pair_length : (a b : ℕ) → length (encode_lower (a ∷ b ∷ [])) ≡ 4
unfolding encode_with
pair_length a b = refl

pub groups_once : (n lead : ℕ) (x y : List ℕ) → length x ≡ 2 * n → length y ≡ 2 * n → IsBytes x → IsBytes y → groups_after (lead ∷ []) x ≡ groups_after (lead ∷ []) y → x ≡ y
groups_once n lead [] [] hx hy fx fy e = refl
groups_once n lead [] (c ∷ y) hx hy fx fy e = absurd (omega arith)
groups_once n lead (a ∷ []) y hx hy fx fy e = absurd (omega arith)
groups_once n lead (a ∷ b ∷ x) [] hx hy fx fy e = absurd (omega arith)
groups_once n lead (a ∷ b ∷ x) (c ∷ []) hx hy fx fy e = absurd (omega arith)
groups_once zero lead (a ∷ b ∷ x) (c ∷ d ∷ y) hx hy fx fy e = absurd (omega arith)
groups_once (suc n) lead (a ∷ b ∷ x) (c ∷ d ∷ y) hx hy fx fy e =
    let front : List ℕ = encode_lower (a ∷ b ∷ []) ++ groups_after (58 ∷ []) x in
    let other : List ℕ = encode_lower (c ∷ d ∷ []) ++ groups_after (58 ∷ []) y in
    let whole : lead ∷ front ≡ lead ∷ other = e in
    let tails : front ≡ other = cc in
    let r = take_pair 0 (encode_lower (a ∷ b ∷ [])) (encode_lower (c ∷ d ∷ [])) _ _ (pair_length a b ∙ sym (pair_length c d)) tails in
    let pair : a ∷ b ∷ [] ≡ c ∷ d ∷ [] = encode_lower-same _ _ (bytes_two a b (fx 0) (fx 1)) (bytes_two c d (fy 0) (fy 1)) r.0 in
    let one : a ≡ c = cc in
    let two : b ≡ d = cc in
    let more : x ≡ y = groups_once n 58 x y (omega arith) (omega arith) (λ k. fx (suc (suc k))) (λ k. fy (suc (suc k))) r.1 in
    rw (one, two, more) refl

-- addresses of IPv6 are cut at their bracket
v6_once : (x y : List ℕ) (p q : ℕ) → FitsIp (V6 x) → FitsIp (V6 y) → p < 2 ^ 16 → q < 2 ^ 16 → addr_text (record { ip = V6 x; port = p }) ≡ addr_text (record { ip = V6 y; port = q }) → (x ≡ y) × (p ≡ q)
v6_once x y p q fx fy hp hq e =
    let shape : (g d : List ℕ) → ((g ++ codes "]") ++ codes ":") ++ d ≡ g ++ (93 ∷ (58 ∷ d)) = λ g d. append_assoc (g ++ codes "]") (codes ":") d ∙ append_assoc g (codes "]") (codes ":" ++ d) in
    let lacks : (z : List ℕ) → FitsIp (V6 z) → All (λ d. d ≢ 93) (groups_after (91 ∷ []) z) = λ z f k d lt s. (groups_plain 91 z (lit< tt, lit< tt, λ i. omega (arith, i)) f.1 k d lt).2 s in
    let cut = cut_once 93 (groups_after (91 ∷ []) x) (groups_after (91 ∷ []) y) (58 ∷ decimal p) (58 ∷ decimal q) (lacks x fx) (lacks y fy) (sym (shape _ (decimal p)) ∙ e ∙ shape _ (decimal q)) in
    let ports : decimal p ≡ decimal q = cc (cut.1) in
    (groups_once 8 91 x y (fx.0) (fy.0) fx.1 fy.1 cut.0, decimal_injective p q (omega arith) (omega arith) ports)

-- the two families differ in their first byte
v4_low : (x : List ℕ) (p : ℕ) → FitsIp (V4 x) → p < 2 ^ 16 → All (λ c. c < 59) (addr_text (record { ip = V4 x; port = p }))
v4_low x p f lt =
    let P : ℕ → Type 0 = λ c. c < 59 in
    let ip : All P (ip_text (V4 x)) = (λ k d l. let b = v4_bytes x f k d l in omega arith) in
    let port : All P (decimal p) = (λ k d l. let b = decimal_digits p (omega arith) k d l in omega arith) in
    let colon : All P (codes ":") = All-cons P 58 [] (lit< tt) (All-nil P) in
    All-append P (ip_text (V4 x) ++ codes ":") (decimal p) (All-append P (ip_text (V4 x)) (codes ":") ip colon) port

mixed : (x y : List ℕ) (p q : ℕ) → FitsIp (V4 x) → p < 2 ^ 16 → length y ≡ 16 → addr_text (record { ip = V4 x; port = p }) ≡ addr_text (record { ip = V6 y; port = q }) → ⊥
mixed x [] p q f lt len e = absurd (omega arith)
mixed x (a ∷ []) p q f lt len e = absurd (omega arith)
mixed x (a ∷ b ∷ y) p q f lt len e =
    let P : ℕ → Type 0 = λ c. c < 59 in
    let text : List ℕ = addr_text (record { ip = V6 (a ∷ b ∷ y); port = q }) in
    let shape : text ≡ 91 ∷ drop 1 text = refl in
    let low : All P (91 ∷ drop 1 text) = subst (All P) (e ∙ shape) (v4_low x p f lt) in
    let here : 91 < 59 = All-head P 91 (drop 1 text) low in
    omega (arith, here)

-- ---- addresses of both

made_addr : Ip → ℕ → Addr
made_addr ip port = record { ip = ip; port = port }

same_parts : (x y : Ip) (p q : ℕ) → FitsIp x → FitsIp y → p < 2 ^ 16 → q < 2 ^ 16 → addr_text (made_addr x p) ≡ addr_text (made_addr y q) → made_addr x p ≡ made_addr y q
unfolding made_addr
same_parts (V4 x) (V4 y) p q fx fy hp hq e =
    let r = v4_port_once x y p q fx fy hp hq e in
    rw (r.0, r.1) refl
same_parts (V4 x) (V6 y) p q fx fy hp hq e = absurd (mixed x y p q fx hp fy.0 e)
same_parts (V6 x) (V4 y) p q fx fy hp hq e = absurd (mixed y x q p fy hq fx.0 (sym e))
same_parts (V6 x) (V6 y) p q fx fy hp hq e =
    let r = v6_once x y p q fx fy hp hq e in
    rw (r.0, r.1) refl

pub addr_same : (a b : Addr) → FitsAddr a → FitsAddr b → addr_text a ≡ addr_text b → a ≡ b
unfolding made_addr
addr_same a b ha hb e = same_parts a.ip b.ip a.port b.port ha.0 hb.0 ha.1 hb.1 e

pub addr_once : (text : List ℕ) (a b : Addr) → SpellsAddr text a → SpellsAddr text b → a ≡ b
addr_once text a b s t = addr_same a b s.fits t.fits (sym s.printed ∙ t.printed)

-- ---- families

apart : codes "4" ≡ codes "6" → ⊥
apart e = (let same : ◌≡◌ {A = ℕ} 52 54 = cc in omega (arith, same))

pub family_once : (text : List ℕ) (a b : Family) → SpellsFamily text a → SpellsFamily text b → a ≡ b
family_once text Four Four s t = refl
family_once text Six Six s t = refl
family_once text Four Six s t = absurd (apart (sym s ∙ t))
family_once text Six Four s t = absurd (apart (sym t ∙ s))
