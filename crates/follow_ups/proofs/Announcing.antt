-- Announcements that are made one after another.
use Rattle.std.proofs.Common.{◌≡◌, ℕ, zero, suc, ◌+◌, ◌<◌, ◌≤◌, List, [], ◌∷◌, ◌++◌, length, take, drop, get_or, Bool, true, false, refl, sym, ap, subst, ◌∙◌, arith, w32}
use Rattle.std.specs.Prelude.{map, filter, Option, Some, Result, Ok, Err, IfOk, OnErr}
use Rattle.std.specs.List.{flat_map}
use Rattle.std.specs.Int.{to_le_bytes}
use Rattle.std.proofs.lemmas.List.{append-nil, map-append, length-append, get_or_default, take_more, take_all, drop_more, length-map, length-take, take-append-drop}
use Rattle.std.proofs.lemmas.List.Elements.{filter-append}
use Rattle.std.proofs.lemmas.Grind.{flat_map-append}
use Rattle.std.proofs.Math.Seq.{take-append_seam}
use Rattle.kad_base.specs.declared.types.Id.{Id}
use Rattle.kad_base.specs.declared.types.Addr.{Addr}
use Rattle.kad_base.specs.declared.types.Contact.{Contact}
use Rattle.kad_base.specs.declared.types.Event.{Event}
use Rattle.kad_base.specs.declared.types.Proof.{Proof}
use Rattle.kad_base.specs.Contacts.{same}
use Rattle.kad_base.specs.Outside.{Grows}
use Rattle.id_puzzles.specs.Drawn.{WordsState}
use Rattle.kad_base.proofs.Grown.{grows_then, grows_weaker, grows_none}
use Rattle.kad_base.specs.Words.{word, word_bytes}
use Rattle.kad_krpc.specs.declared.message.Ask.{Ask}
use Rattle.kad_krpc.specs.declared.message.Message.TheVariants as message
use Rattle.kad_krpc.specs.Form.{form, IsGivenPort, IsWritableAsk}
use Rattle.lookup_core.specs.Quest.{brought}
use Rattle.lookup_core.specs.declared.gather.Token.{Token}
use Rattle.lookup_core.proofs.Lists.{kept_one, left_one}
use Rattle.follow_ups.specs.declared.announce.Said.{Said}
use Rattle.follow_ups.specs.declared.announce.Said.TheVariants.{Item, Peer}
use Rattle.follow_ups.specs.declared.announce.Announcement.{Announcement}
use Rattle.follow_ups.specs.Announced.{MaySay, announcing, asks_of, port_of, announcement, first_from, IsFirstFrom, tokens_for, announcements, owed, tried, asking, Announces, AnnouncesSome, is_sent, sent_in}

-- ---- one list of them after another

pub announces_then : (read_only : Bool) (proof : Option Proof) (seed : List ℕ) (place : ℕ) (xs ys : List Announcement) (es fs : List Event) → Announces read_only proof seed place xs es → Announces read_only proof seed (place + length xs) ys fs → Announces read_only proof seed place (xs ++ ys) (es ++ fs)
announces_then read_only proof seed place [] ys es fs h k =
    let here : place + 0 ≡ place = omega arith in
    subst (λ (l : List Event). Announces read_only proof seed place ys (l ++ fs)) (sym h) (subst (λ n. Announces read_only proof seed n ys fs) here k)
announces_then read_only proof seed place (x ∷ xs) ys es fs h k =
    let there : place + length (x ∷ xs) ≡ place + 1 + length xs = omega arith in
    (h.0, h.1 ++ fs, ap (λ (l : List Event). l ++ fs) h.2, announces_then read_only proof seed (place + 1) xs ys h.1 fs h.3 (subst (λ n. Announces read_only proof seed n ys fs) there k))

pub sent_then : (es fs : List Event) → sent_in (es ++ fs) ≡ sent_in es + sent_in fs
sent_then es fs = ap (λ (l : List Event). length l) (filter-append is_sent es fs) ∙ length-append (filter is_sent es) (filter is_sent fs)

-- what was announced, and how many of it was sent
abbrev pub Sends : Bool → Option Proof → List ℕ → ℕ → List Announcement → ℕ → List Event → Type 0
Sends read_only proof seed place all sent es = Announces read_only proof seed place all es × (sent ≡ sent_in es)

pub sends_then : (read_only : Bool) (proof : Option Proof) (seed : List ℕ) (place : ℕ) (xs ys : List Announcement) (m n : ℕ) (es fs : List Event) → Sends read_only proof seed place xs m es → Sends read_only proof seed (place + length xs) ys n fs → Sends read_only proof seed place (xs ++ ys) (m + n) (es ++ fs)
sends_then read_only proof seed place xs ys m n es fs h k =
    let all = sent_then es fs in
    let a = h.1 in
    let b = k.1 in
    (announces_then read_only proof seed place xs ys es fs h.0 k.0, omega (arith, all, a, b))

-- ---- the tokens of those that were found

few_first : (ts : List Token) → length (take 1 ts) ≤ 1
few_first [] = omega arith
few_first (t ∷ ts) = omega arith

pub few_tokens : (tokens : List Token) (found : List Contact) → length (tokens_for found tokens) ≤ length found
few_tokens tokens [] = omega arith
few_tokens tokens (c ∷ found) =
    let rest = few_tokens tokens found in
    let one = few_first (filter (λ (t : Token). same t.contact c) tokens) in
    let both = length-append (first_from tokens c) (tokens_for found tokens) in
    omega (arith, rest, one, both)

-- no more than there are places before
pub few_taken : (tokens : List Token) (found : List Contact) (i : ℕ) → length (tokens_for (take i found) tokens) ≤ i
few_taken tokens found i =
    let few = few_tokens tokens (take i found) in
    let short = length-take i found in
    omega (arith, few, short)

pub tokens_more : (tokens : List Token) (found : List Contact) (i : ℕ) (d : Contact) → i < length found → tokens_for (take (i + 1) found) tokens ≡ tokens_for (take i found) tokens ++ first_from tokens (get_or found i d)
tokens_more tokens found i d lt =
    ap (flat_map (first_from tokens)) (take_more found i d lt)
    ∙ flat_map-append (first_from tokens) (take i found) (get_or found i d ∷ [])
    ∙ ap (λ (l : List Token). tokens_for (take i found) tokens ++ l) (append-nil (first_from tokens (get_or found i d)))

-- ---- the announcements of those that were found

pub announcements_more : (asks : List ℕ → Ask) (tokens : List Token) (found : List Contact) (i : ℕ) (d : Contact) → i < length found
    → announcements asks (take (i + 1) found) tokens ≡ announcements asks (take i found) tokens ++ map (announcement asks) (first_from tokens (get_or found i d))
announcements_more asks tokens found i d lt =
    ap (map (announcement asks)) (tokens_more tokens found i d lt) ∙ map-append (announcement asks) (tokens_for (take i found) tokens) (first_from tokens (get_or found i d))

-- the words after the announcements to the first ones that were found
abbrev pub words_at : WordsState → List Token → List Contact → ℕ → WordsState
words_at w tokens found i = record { seed = w.seed; place = w.place + length (tokens_for (take i found) tokens) }

-- one contact more
pub sends_more : (read_only : Bool) (proof : Option Proof) (start w : WordsState) (asks : List ℕ → Ask) (tokens : List Token) (found : List Contact) (i : ℕ) (d : Contact) (m n : ℕ) (a b c : Option (List Event)) → i < length found
    → w ≡ words_at start tokens found i
    → Grows a b (Sends read_only proof start.seed start.place (announcements asks (take i found) tokens) m)
    → Grows b c (Sends read_only proof w.seed w.place (map (announcement asks) (first_from tokens (get_or found i d))) n)
    → Grows a c (Sends read_only proof start.seed start.place (announcements asks (take (i + 1) found) tokens) (m + n))
sends_more read_only proof start w asks tokens found i d m n a b c lt is g h =
    let xs : List Announcement = announcements asks (take i found) tokens in
    let ys : List Announcement = map (announcement asks) (first_from tokens (get_or found i d)) in
    let many : length xs ≡ length (tokens_for (take i found) tokens) = length-map (tokens_for (take i found) tokens) (announcement asks) in
    grows_then a b c _ _ _ g h (λ es fs p q.
    let moved = subst (λ (v : WordsState). Sends read_only proof v.seed v.place ys n fs) is q in
    let placed = subst (λ k. Sends read_only proof start.seed (start.place + k) ys n fs) (sym many) moved in
    subst (λ (l : List Announcement). Sends read_only proof start.seed start.place l (m + n) (es ++ fs)) (sym (announcements_more asks tokens found i d lt)) (sends_then read_only proof start.seed start.place xs ys m n es fs p placed))

pub words_more : (start w v : WordsState) (tokens : List Token) (found : List Contact) (i : ℕ) (d : Contact) → i < length found → w ≡ words_at start tokens found i
    → v ≡ record { seed = w.seed; place = w.place + length (first_from tokens (get_or found i d)) } → v ≡ words_at start tokens found (i + 1)
words_more start w v tokens found i d lt is then =
    let a = ap (λ (l : List Token). length l) (tokens_more tokens found i d lt) ∙ length-append (tokens_for (take i found) tokens) (first_from tokens (get_or found i d)) in
    let s : w.seed ≡ start.seed = ap (λ (x : WordsState). x.seed) is in
    let p : w.place ≡ start.place + length (tokens_for (take i found) tokens) = ap (λ (x : WordsState). x.place) is in
    let q : w.place + length (first_from tokens (get_or found i d)) ≡ start.place + length (tokens_for (take (i + 1) found) tokens) = omega (arith, a, p) in
    then ∙ ap (λ x. record { seed = x; place = w.place + length (first_from tokens (get_or found i d)) }) s ∙ ap (λ n. record { seed = start.seed; place = n }) q

-- ---- a front of them

pub announcements_apart : (asks : List ℕ → Ask) (tokens : List Token) (found : List Contact) (i : ℕ)
    → announcements asks found tokens ≡ announcements asks (take i found) tokens ++ announcements asks (drop i found) tokens
announcements_apart asks tokens found i =
    ap (λ (l : List Contact). announcements asks l tokens) (sym (take-append-drop i found))
    ∙ ap (map (announcement asks)) (flat_map-append (first_from tokens) (take i found) (drop i found))
    ∙ map-append (announcement asks) (tokens_for (take i found) tokens) (tokens_for (drop i found) tokens)

-- the link is as it was
pub told_still : (a b c : Option (List Event)) (P : List Event → Type 0) → c ≡ b → Grows a b P → Grows a c P
told_still a b c P same_ g = subst (λ (o : Option (List Event)). Grows a o P) (sym same_) g

pub any_err : {T F : Type 0} (r : Result T F) (X : Type 0) → X → OnErr r X
any_err (Ok x) X h = tt
any_err (Err f) X h = h

-- those that were made are a front of all
pub some_made : (read_only : Bool) (proof : Option Proof) (seed : List ℕ) (place : ℕ) (asks : List ℕ → Ask) (tokens : List Token) (found : List Contact) (i m : ℕ) (a b : Option (List Event))
    → Grows a b (Sends read_only proof seed place (announcements asks (take i found) tokens) m) → Grows a b (AnnouncesSome read_only proof seed place (announcements asks found tokens))
some_made read_only proof seed place asks tokens found i m a b g =
    let xs : List Announcement = announcements asks (take i found) tokens in
    let ys : List Announcement = announcements asks (drop i found) tokens in
    let made : take (length xs) (announcements asks found tokens) ≡ xs = ap (take (length xs)) (announcements_apart asks tokens found i) ∙ take-append_seam xs ys in
    grows_weaker a b _ _ g (λ es h. (length xs, subst (λ (l : List Announcement). Announces read_only proof seed place l es) (sym made) h.0))

-- ---- the token of one contact

abbrev of_contact : Contact → Token → Bool
of_contact c t = same t.contact c

-- the first ones are not the contact's, and the next one is
pub first_is : (tokens : List Token) (c : Contact) (i : ℕ) (x : Token) → i < length tokens → x ≡ get_or tokens i x → filter (of_contact c) (take i tokens) ≡ [] → same x.contact c ≡ true → first_from tokens c ≡ x ∷ []
first_is tokens c i x lt here none_ yes_ =
    let p : Token → Bool = of_contact c in
    let rest = drop (i + 1) tokens in
    let apart : tokens ≡ take i tokens ++ (x ∷ rest) = sym (take-append-drop i tokens) ∙ ap (λ (l : List Token). take i tokens ++ l) (drop_more tokens i x lt ∙ ap (λ (y : Token). y ∷ drop (i + 1) tokens) (sym here)) in
    let kept : filter p tokens ≡ x ∷ filter p rest =
    ap (filter p) apart ∙ filter-append p (take i tokens) (x ∷ rest) ∙ ap (λ (l : List Token). l ++ filter p (x ∷ rest)) none_ ∙ kept_one p x rest yes_ in
    ap (take 1) kept

-- nor is the next one
pub none_more : (tokens : List Token) (c : Contact) (i : ℕ) (x : Token) → i < length tokens → x ≡ get_or tokens i x → filter (of_contact c) (take i tokens) ≡ [] → same x.contact c ≡ false → filter (of_contact c) (take (i + 1) tokens) ≡ []
none_more tokens c i x lt here none_ no_ =
    let p : Token → Bool = of_contact c in
    ap (filter p) (take_more tokens i x lt ∙ ap (λ (y : Token). take i tokens ++ y ∷ []) (sym here)) ∙ filter-append p (take i tokens) (x ∷ []) ∙ ap (λ (l : List Token). l ++ filter p (x ∷ [])) none_ ∙ left_one p x [] no_

-- none is
pub none_first : (tokens : List Token) (c : Contact) (i : ℕ) → length tokens ≤ i → filter (of_contact c) (take i tokens) ≡ [] → first_from tokens c ≡ []
none_first tokens c i le none_ = ap (take 1) (ap (filter (of_contact c)) (sym (take_all i tokens le)) ∙ none_)

-- the place that was found
pub place_is : (tokens : List Token) (c : Contact) (i : ℕ) (x : Token) → i < length tokens → x ≡ get_or tokens i x → filter (of_contact c) (take i tokens) ≡ [] → same x.contact c ≡ true → IsFirstFrom tokens c i
place_is tokens c i x lt here none_ yes_ = record {
  within = lt;
  first = λ d. first_is tokens c i x lt here none_ yes_ ∙ ap (λ (y : Token). y ∷ []) (here ∙ get_or_default tokens i x d lt);
}

-- ---- one announcement

bytes_of_word : (w : ℕ) → to_le_bytes w32 w ≡ word_bytes w
unfolding word_bytes
bytes_of_word w = refl

-- the datagram's parts are those that the definition names
pub datagram_is : {F : Type 0} (read_only : Bool) (proof brings : Option Proof) (r : Result (List ℕ) F) (id : List ℕ) (tx : ℕ) (mine ask : Ask) → id ≡ to_le_bytes w32 tx → brings ≡ brought read_only proof → mine ≡ ask
    → IfOk r (λ bytes. bytes ≡ form (message.Query id read_only brings mine)) → IfOk r (λ bytes. bytes ≡ asking read_only proof tx ask)
datagram_is read_only proof brings r id tx mine ask e g f h =
    let a = subst (λ (x : List ℕ). IfOk r (λ bytes. bytes ≡ form (message.Query x read_only brings mine))) (e ∙ bytes_of_word tx) h in
    let b = subst (λ (x : Option Proof). IfOk r (λ bytes. bytes ≡ form (message.Query (word_bytes tx) read_only x mine))) g a in
    subst (λ (x : Ask). IfOk r (λ bytes. bytes ≡ form (message.Query (word_bytes tx) read_only (brought read_only proof) x))) f b

given_port : (port : ℕ) → IsGivenPort (port_of port)
given_port zero = tt
given_port (suc n) = λ e. absurd cc

-- what may be said has a written form
pub may_write : (proof : Option Proof) (said : Said) (token : List ℕ) (mine : Ask) → mine ≡ asks_of said token → MaySay said → IsWritableAsk proof mine
may_write proof (Peer own key port) token mine e h = subst (IsWritableAsk proof) (sym e) (given_port port)
may_write proof (Item own v) token mine e h = subst (IsWritableAsk proof) (sym e) (record { form = h; immutable = refl })

abbrev pub number_sent : Bool → ℕ
number_sent true = 1
number_sent false = 0

-- the token at the place that was found
pub first_at : (tokens : List Token) (c : Contact) (i : ℕ) (x : Token) → IsFirstFrom tokens c i → x ≡ get_or tokens i x → first_from tokens c ≡ x ∷ []
first_at tokens c i x h here = h.first x ∙ ap (λ (y : Token). y ∷ []) (sym here)

-- one was tried
pub one_tried : (read_only : Bool) (proof : Option Proof) (w : WordsState) (asks : List ℕ → Ask) (tokens : List Token) (c : Contact) (t : Token) (tx : ℕ) (sent : Bool) (n : ℕ) (a b : Option (List Event)) → tx ≡ word w.seed w.place → first_from tokens c ≡ t ∷ [] → n ≡ number_sent sent
    → Grows a b (λ es. es ≡ tried sent t.contact.addr (asking read_only proof tx (announcement asks t).ask) ∷ [])
    → Grows a b (Sends read_only proof w.seed w.place (map (announcement asks) (first_from tokens c)) n)
one_tried read_only proof w asks tokens c t tx sent n a b id first count g =
    let under = subst (λ m. Grows a b (λ es. es ≡ tried sent t.contact.addr (asking read_only proof m (announcement asks t).ask) ∷ [])) id g in
    grows_weaker a b _ _ under (λ es e. subst (λ (l : List Token). Sends read_only proof w.seed w.place (map (announcement asks) l) n es) (sym first)
    ((sent, [], e, refl), count ∙ sym (counted_one sent t.contact.addr (asking read_only proof (word w.seed w.place) (announcement asks t).ask) es e)))
  where
    counted_one : (b : Bool) (to : Addr) (bytes : List ℕ) (es : List Event) → es ≡ tried b to bytes ∷ [] → sent_in es ≡ number_sent b
    counted_one true to bytes es e = ap sent_in e
    counted_one false to bytes es e = ap sent_in e

pub drawn_one : (w u : WordsState) (tokens : List Token) (c : Contact) (t : Token) → first_from tokens c ≡ t ∷ [] → u ≡ record { seed = w.seed; place = w.place + 1 } → u ≡ record { seed = w.seed; place = w.place + length (first_from tokens c) }
drawn_one w u tokens c t first drawn = drawn ∙ ap (λ (l : List Token). record { seed = w.seed; place = w.place + length l }) (sym first)

-- none was
pub none_tried : (read_only : Bool) (proof : Option Proof) (w : WordsState) (asks : List ℕ → Ask) (tokens : List Token) (c : Contact) (a : Option (List Event)) → first_from tokens c ≡ [] → Grows a a (Sends read_only proof w.seed w.place (map (announcement asks) (first_from tokens c)) 0)
none_tried read_only proof w asks tokens c a first = grows_none a _ (subst (λ (l : List Token). Sends read_only proof w.seed w.place (map (announcement asks) l) 0 []) (sym first) (refl, refl))

-- ---- what is owed where a port was told

pub owes_some : (port : Option ℕ) (n : ℕ) (own key : Id) (found : List Contact) (tokens : List Token) (P : List Announcement → Type 0) → port ≡ Some n → P (announcements (announcing own key n) found tokens) → P (owed port own key found tokens)
owes_some port n own key found tokens P e p = subst (λ (o : Option ℕ). P (owed o own key found tokens)) (sym e) p
