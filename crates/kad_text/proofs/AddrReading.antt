-- How an address is read: one of IPv4 is cut at its colon, and std reads its parts; one of IPv6 is read group by group.
use Rattle.std.proofs.Common.{◌≡◌, ℕ, ◌-◌, ◌^◌, ◌<◌, true, List, [], ◌∷◌, ◌++◌, length, take, drop, Option, Some, None, Result, Ok, Err, MatchOption, refl, sym, ap, ◌∙◌, subst, arith, Bor, lit<}
use Rattle.std.specs.Prelude.{decimal, codes, All, IsUtf8}
use Rattle.std.specs.Str.{str_to_ascii_lowercase}
use Rattle.std.specs.Net.Grammar.{IsIpv4Text, Parses}
use Rattle.std.specs.Result.{result_ok}
use Rattle.std.specs.Net.Addr.{ipv4_octets}
use Rattle.std.specs.declared.net.ipv4_addr.Ipv4Addr.{Ipv4Addr}
use Rattle.std.proofs.lemmas.List.{append_assoc, length-drop, take_all}
use Rattle.std.proofs.lemmas.List.Elements.{All-append, All-cons, All-nil}
use Rattle.std.proofs.lemmas.Str.{IsUtf8-from_ascii}
use Rattle.std.proofs.lemmas.Str.Ascii.{IsAscii-from_all}
use Rattle.std.proofs.lemmas.Str.Pattern.{IsSplitOnceResult, split_after}
use Rattle.kad_base.specs.Contacts.{of_family}
use Rattle.kad_base.specs.declared.types.Ip.{Ip}
use Rattle.kad_base.specs.declared.types.Ip.TheVariants.{V4, V6}
use Rattle.kad_base.specs.declared.types.Addr.{Addr}
use Rattle.kad_base.specs.declared.types.Family.TheVariants.{Four, Six}
use Rattle.kad_text.specs.Groups.{SpellsGroups}
use Rattle.kad_text.specs.Text.{FitsAddr, FitsIp, SpellsAddr, SpellsNumber, addr_text, groups_after, ip_text}
use Rattle.kad_text.proofs.AddrSpelling.{IsDotOrDigit, decimal_digits, dotted_v4, v4_bytes, v4_dotted}
use Rattle.kad_text.proofs.AddrText.{addr_lower, decimal_visible, low_back, low_digits}
use Rattle.kad_text.proofs.GroupSpelling.{groups_same}

-- ---- IPv4

abbrev pub IsV4 : Ip → Type 0
IsV4 (V4 bytes) = FitsIp (V4 bytes)
IsV4 (V6 bytes) = ⊥

-- the text is an address of IPv4 as it is printed
pub record SpellsV4 (text : List ℕ) (addr : Addr) : Type 0 where
  pub printed : text ≡ addr_text addr
  pub v4 : IsV4 addr.ip
  pub port : addr.port < 2 ^ 16

v4_digits : (ip : Ip) → IsV4 ip → All IsDotOrDigit (ip_text ip)
v4_digits (V4 bytes) h = v4_bytes bytes h
v4_digits (V6 bytes) h = absurd h

-- its bytes are no letters
v4_small : (addr : Addr) → IsV4 addr.ip → addr.port < 2 ^ 16 → All (λ c. c < 97) (addr_text addr)
v4_small addr v4 port =
    let P : ℕ → Type 0 = λ c. c < 97 in
    let ip : All P (ip_text addr.ip) = (λ k d lt. let b = v4_digits addr.ip v4 k d lt in omega arith) in
    let number : All P (decimal addr.port) = (λ k d lt. let b = decimal_digits addr.port (omega arith) k d lt in omega arith) in
    let colon : All P (codes ":") = All-cons P 58 [] (lit< tt) (All-nil P) in
    All-append P (ip_text addr.ip ++ codes ":") (decimal addr.port) (All-append P (ip_text addr.ip) (codes ":") ip colon) number

pub v4_spelled : (text : List ℕ) (addr : Addr) → of_family Four addr.ip ≡ true → SpellsAddr text addr → SpellsV4 text addr
v4_spelled text addr four s =
    let v4 = go addr.ip four s.fits.0 in
    record { printed = low_back text (addr_text addr) (v4_small addr v4 s.fits.1) s.printed; v4 = v4; port = s.fits.1 }
  where
    go : (ip : Ip) → of_family Four ip ≡ true → FitsIp ip → IsV4 ip
    go (V4 bytes) e f = f
    go (V6 bytes) e f = cc e

pub spelled_v4 : (text : List ℕ) (addr : Addr) → SpellsV4 text addr → SpellsAddr text addr
spelled_v4 text addr s =
    let fits : FitsAddr addr = (go addr.ip s.v4, s.port) in
    record { fits = fits; printed = ap str_to_ascii_lowercase s.printed ∙ addr_lower addr fits }
  where
    go : (ip : Ip) → IsV4 ip → FitsIp ip
    go (V4 bytes) h = h
    go (V6 bytes) h = absurd h

-- where a text that spells an address is cut
pub spelled_cut : (text : List ℕ) (r : Option (Bor (List ℕ) × Bor (List ℕ))) (addr : Addr) → IsSplitOnceResult 58 text r → SpellsV4 text addr
    → MatchOption r ⊥ (λ x. (x.0.now ≡ ip_text addr.ip) × (x.1.now ≡ decimal addr.port))
spelled_cut text r addr h s =
    split_after 58 text (ip_text addr.ip) (decimal addr.port) r h (lit< tt) (s.printed ∙ append_assoc (ip_text addr.ip) (codes ":") (decimal addr.port))
    (λ i lt e. let b = v4_digits addr.ip s.v4 i 0 lt in omega arith)

-- std parses what spells an IPv4 address
pub ip_parses : {E : Type 0} (text : List ℕ) (ip : Ip) (r : Result Ipv4Addr E) → IsV4 ip → text ≡ ip_text ip → Parses IsIpv4Text text r → result_ok r ≡ None → ⊥
ip_parses text (V6 bytes) r v e h none_ = v
ip_parses text (V4 bytes) (Ok a) v e h none_ = cc none_
ip_parses text (V4 bytes) (Err f) v e h none_ = h (record { octets = bytes }) (rw e (v4_dotted bytes v))

-- the address of what was parsed
pub addr_read : {E : Type 0} (text ip port octets : List ℕ) (r : Result Ipv4Addr E) (a : Ipv4Addr) (n : ℕ) → text ≡ ip ++ (58 ∷ port) → Parses IsIpv4Text ip r → result_ok r ≡ Some a
    → octets ≡ ipv4_octets a → SpellsNumber 0 65535 port n → SpellsV4 text (record { ip = V4 octets; port = n })
addr_read text ip port octets (Ok b) a n cut h e o s =
    let same : b ≡ a = cc in
    let v = dotted_v4 ip octets (rw (o, ← same) h) in
    let below = s.below in
    record {
      printed = cut ∙ rw (← v.1, ← s.digits) (sym (append_assoc ip (codes ":") port));
      v4 = v.0;
      port = omega arith;
    }
addr_read text ip port octets (Err f) a n cut h e o s = cc e

-- ---- IPv6

v6_shape : (bytes port : List ℕ) → ip_text (V6 bytes) ++ codes ":" ++ port ≡ groups_after (codes "[") bytes ++ (93 ∷ (58 ∷ port))
v6_shape bytes port = append_assoc (groups_after (codes "[") bytes ++ codes "]") (codes ":") port ∙ append_assoc (groups_after (codes "[") bytes) (codes "]") (58 ∷ port)

-- an address of IPv6 begins with its groups
pub v6_groups : (text : List ℕ) (addr : Addr) → of_family Six addr.ip ≡ true → SpellsAddr text addr → (bytes : List ℕ) × SpellsGroups (str_to_ascii_lowercase text) bytes (93 ∷ (58 ∷ decimal addr.port))
v6_groups text addr v s = go addr.ip refl v s.fits.0
  where
    go : (ip : Ip) → addr.ip ≡ ip → of_family Six ip ≡ true → FitsIp ip → (bytes : List ℕ) × SpellsGroups (str_to_ascii_lowercase text) bytes (93 ∷ (58 ∷ decimal addr.port))
    go (V4 bytes) e v f = cc v
    go (V6 bytes) e v f = (
      bytes,
      record {
        long = f.0;
        fit = f.1;
        digits = s.printed ∙ ap (λ (i : Ip). ip_text i ++ codes ":" ++ decimal addr.port) e ∙ v6_shape bytes (decimal addr.port);
      },
    )

-- behind the groups of a text stands its end
pub v6_end : (text ip rest : List ℕ) (addr : Addr) → SpellsGroups (str_to_ascii_lowercase text) ip (str_to_ascii_lowercase rest) → of_family Six addr.ip ≡ true → SpellsAddr text addr → rest ≡ codes "]:" ++ decimal addr.port
v6_end text ip rest addr g v s =
    let P : ℕ → Type 0 = λ c. c < 97 in
    let w = v6_groups text addr v s in
    let port = s.fits.1 in
    let end : All P (93 ∷ (58 ∷ decimal addr.port)) = All-cons P 93 (58 ∷ decimal addr.port) (lit< tt) (All-cons P 58 (decimal addr.port) (lit< tt) (λ k d lt. let b = decimal_digits addr.port (omega arith) k d lt in omega arith)) in
    low_back rest (93 ∷ (58 ∷ decimal addr.port)) end (groups_same (str_to_ascii_lowercase text) ip w.0 (str_to_ascii_lowercase rest) _ g w.1)

pub v6_read : (text ip rest : List ℕ) (n : ℕ) → SpellsGroups (str_to_ascii_lowercase text) ip (str_to_ascii_lowercase rest) → n < 2 ^ 16 → rest ≡ codes "]:" ++ decimal n → SpellsAddr text (record { ip = V6 ip; port = n })
v6_read text ip rest n g fits e =
    let lower : str_to_ascii_lowercase rest ≡ 93 ∷ (58 ∷ decimal n) = ap str_to_ascii_lowercase e ∙ ap (λ (x : List ℕ). 93 ∷ (58 ∷ x)) (low_digits n (omega arith)) in
    record {
      fits = ((g.long, g.fit), fits);
      printed = g.digits ∙ ap (λ (x : List ℕ). groups_after (codes "[") ip ++ x) lower ∙ sym (v6_shape ip (decimal n));
    }

-- ---- the port of IPv6

pub port_utf8 : (text : List ℕ) (n : ℕ) → n < 2 ^ 16 → text ≡ codes "]:" ++ decimal n → IsUtf8 (take (length text - 2) (drop 2 text))
port_utf8 text n fits e =
    let behind : drop 2 text ≡ decimal n = ap (drop 2) e in
    let all : take (length text - 2) (drop 2 text) ≡ decimal n = take_all (length text - 2) (drop 2 text) (let l = length-drop 2 text in omega arith) ∙ behind in
    subst IsUtf8 (sym all) (IsUtf8-from_ascii (decimal n) (IsAscii-from_all (decimal n) (λ k d lt. (decimal_visible n fits k d lt).1)))

-- ---- both
