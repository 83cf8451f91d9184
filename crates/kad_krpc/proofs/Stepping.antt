-- Steps of a reading, whatever they read: none fails as bencode does, what they give is so, and what was written is given
-- back.
use Rattle.std.proofs.Common.{◌≡◌, ◌≢◌, ℕ, zero, suc, ◌+◌, ◌/◌, ◌%◌, Bool, true, false, cond, is_some, List, map, length, nat_eq, ℤ, Option, Some, None, Ok, Err, refl, sym, ap, ◌∙◌, eq-eqb}
use Rattle.std.specs.Prelude.{bytes_eq, option_map}
use Rattle.std.specs.List.{AllByRecursion, range_with_len}
use Rattle.std.specs.Bool.{Decides}
use Rattle.std.proofs.lemmas.Slice.Eq.{bytes_eq-Decides}
use Rattle.kad_base.specs.declared.types.Id.{Id}
use Rattle.kad_bencode.specs.Keys.{value_of}
use Rattle.kad_bencode.specs.Parts.{bytes_of, bytes_in, integer_of, integer_in, list_of, list_in, dict_of, dict_in, member_in}
use Rattle.kad_bencode.specs.declared.entries.Pair.{Pair}
use Rattle.kad_bencode.specs.declared.value.Value.{Value}
use Rattle.kad_bencode.specs.declared.value.Value.TheOpen as layer
use Rattle.kad_bencode.specs.declared.value.Value.TheOpen.{Value-F}
use Rattle.kad_bencode.specs.declared.value.Value.TheViews.{out-roll-Value}
use Rattle.kad_bencode.specs.declared.value.Value.TheVariants.{Int, Text, List as Values, Dict, rolls-Int, rolls-Text, rolls-List, rolls-Dict}
use Rattle.kad_krpc.specs.declared.message.Key.{Key}
use Rattle.kad_krpc.specs.declared.message.KrpcFault.TheVariants.{Bad, Missing, Shape, Records, NoMemory}
use Rattle.kad_krpc.specs.Fields.{Step, then, of_kind, needed, optional, as_some, look_of, id_of, id_in, records, records_by, Each}
use Rattle.kad_records.specs.Records.{records_in}

-- ---- no step fails as bencode does, or by want of memory

abbrev pub NotBad : {A : Type 0} → Step A → Type 0
NotBad (Ok x) = Unit {0}
NotBad (Err (Bad bad)) = ⊥
NotBad (Err (Missing key)) = Unit {0}
NotBad (Err (Shape key)) = Unit {0}
NotBad (Err (Records key len)) = Unit {0}
NotBad (Err NoMemory) = ⊥

pub both : {A B : Type 0} (s : Step A) (f : A → Step B) → NotBad s → ((x : A) → NotBad (f x)) → NotBad (then s f)
both (Ok x) f s k = k x
both (Err (Bad bad)) f s k = s
both (Err (Missing key)) f s k = tt
both (Err (Shape key)) f s k = tt
both (Err (Records key len)) f s k = tt
both (Err NoMemory) f s k = s

pub either : {A : Type 0} (b : Bool) (s t : Step A) → NotBad s → NotBad t → NotBad (cond b s t)
either true s t p q = p
either false s t p q = q

pub kinds : {A : Type 0} (key : Key) (o : Option A) → NotBad (of_kind key o)
kinds key None = tt
kinds key (Some x) = tt

pub needs : {A : Type 0} (kind : Value → Option A) (key : Key) (v : Option Value) → NotBad (needed kind key v)
needs kind key None = tt
needs kind key (Some v) = kinds key (kind v)

pub some : {A : Type 0} (s : Step A) → NotBad s → NotBad (as_some s)
some (Ok x) n = tt
some (Err (Bad bad)) n = n
some (Err (Missing key)) n = tt
some (Err (Shape key)) n = tt
some (Err (Records key len)) n = tt
some (Err NoMemory) n = n

pub options : {A : Type 0} (kind : Value → Option A) (key : Key) (v : Option Value) → NotBad (optional kind key v)
options kind key None = tt
options kind key (Some v) = some (of_kind key (kind v)) (kinds key (kind v))

pub whole : {A : Type 0} (size : ℕ) (read : List ℕ → A) (key : Key) (o : Option (List ℕ)) → NotBad (records size read key o)
whole size read key None = tt
whole size read key (Some bytes) = either (nat_eq (length bytes % size) 0) (Ok (Some (records_in size read bytes))) (Err (Records key (length bytes))) tt tt

pub strings : {A : Type 0} (size : ℕ) (read : List ℕ → A) (key : Key) (v : Option Value) → NotBad (records_by size read key v)
strings size read key v = both (optional bytes_of key v) _ (options bytes_of key v) (λ b. whole size read key b)

-- ---- what a step gives

-- what a step gives is so
abbrev pub Gets : {A : Type 0} → (A → Type 0) → Step A → Type 0
Gets P (Ok x) = P x
Gets P (Err fault) = Unit {0}

abbrev pub Any : {A : Type 0} → A → Type 0
Any x = Unit {0}

pub any : {A : Type 0} (s : Step A) → Gets Any s
any (Ok x) = tt
any (Err fault) = tt

pub after : {A B : Type 0} (Q : A → Type 0) (P : B → Type 0) (s : Step A) (f : A → Step B) → Gets Q s → ((x : A) → Q x → Gets P (f x)) → Gets P (then s f)
after Q P (Ok x) f g k = k x g
after Q P (Err fault) f g k = tt

pub gets_either : {A : Type 0} (P : A → Type 0) (b : Bool) (s t : Step A) → Gets P s → Gets P t → Gets P (cond b s t)
gets_either P true s t p q = p
gets_either P false s t p q = q

pub all_read : {A : Type 0} (P : A → Type 0) (f : ℕ → A) → ((i : ℕ) → P (f i)) → (a n : ℕ) → AllByRecursion P (map f (range_with_len a n))
all_read P f h a zero = tt
all_read P f h a (suc n) = (h a, all_read P f h (a + 1) n)

pub gets_whole : {A : Type 0} (P : A → Type 0) (size : ℕ) (read : List ℕ → A) (k : Key) → ((bytes : List ℕ) → P (read bytes)) → (o : Option (List ℕ)) → Gets (Each P) (records size read k o)
gets_whole P size read k h None = tt
gets_whole P size read k h (Some bytes) =
    gets_either (Each P) (nat_eq (length bytes % size) 0) (Ok (Some (records_in size read bytes))) (Err _) (all_read P _ (λ i. h _) 0 (length bytes / size)) tt

pub gets_strings : {A : Type 0} (P : A → Type 0) (size : ℕ) (read : List ℕ → A) (key : Key) → ((bytes : List ℕ) → P (read bytes)) → (v : Option Value) → Gets (Each P) (records_by size read key v)
gets_strings P size read key h v = after Any (Each P) (optional bytes_of key v) _ (any (optional bytes_of key v)) (λ bytes u. gets_whole P size read key h bytes)

pub none_some : {A : Type 0} {x : A} → ◌≡◌ {A = Option A} None (Some x) → ⊥
none_some e = cc

-- ---- the kinds of values

pub bytes_text : (s : List ℕ) → bytes_of (Text s) ≡ Some s
bytes_text s = ap bytes_of (sym (rolls-Text s)) ∙ ap bytes_in (out-roll-Value (layer.Text s))

pub integer_int : (z : ℤ) → integer_of (Int z) ≡ Some z
integer_int z = ap integer_of (sym (rolls-Int z)) ∙ ap integer_in (out-roll-Value (layer.Int z))

pub list_list : (vs : List Value) → list_of (Values vs) ≡ Some vs
list_list vs = ap list_of (sym (rolls-List vs)) ∙ ap list_in (out-roll-Value (layer.List vs))

pub dict_dict : (ps : List (Pair Value)) → dict_of (Dict ps) ≡ Some ps
dict_dict ps = ap dict_of (sym (rolls-Dict ps)) ∙ ap dict_in (out-roll-Value (layer.Dict ps))

pub id_text : (id : Id) → length id.0 ≡ 20 → id_of (Text id.0) ≡ Some id
id_text id h = ap id_in (bytes_text id.0) ∙ ap (λ b. cond b (Some id) None) (eq-eqb (length id.0) 20 h)

-- ---- steps

-- a step that gives this, and then the next
pub stepped : {A B : Type 0} (s : Step A) (x : A) (f : A → Step B) (r : Step B) → s ≡ Ok x → f x ≡ r → then s f ≡ r
stepped s x f r e g = ap (λ t. then t f) e ∙ g

pub had : {A : Type 0} (kind : Value → Option A) (key : Key) (v : Value) (x : A) → kind v ≡ Some x → needed kind key (Some v) ≡ Ok x
had kind key v x e = ap (of_kind key) e

pub had_some : {A : Type 0} (kind : Value → Option A) (key : Key) (v : Value) (x : A) → kind v ≡ Some x → optional kind key (Some v) ≡ Ok (Some x)
had_some kind key v x e = ap (λ o. as_some (of_kind key o)) e

-- a dictionary of these pairs
pub look_dict : (ps : List (Pair Value)) → look_of (Dict ps) ≡ Some (value_of ps)
look_dict ps = ap (option_map value_of) (dict_dict ps)

pub differs : (a b : List ℕ) → a ≢ b → bytes_eq a b ≡ false
differs a b n = by_test (bytes_eq a b) (bytes_eq-Decides a b) n
  where
    by_test : (t : Bool) → Decides t (a ≡ b) → a ≢ b → t ≡ false
    by_test true d n = absurd (n (d.0 refl))
    by_test false d n = refl

pub cut_records : {A : Type 0} (size : ℕ) (read : List ℕ → A) (key : Key) (bytes : List ℕ) (xs : List A) → length bytes % size ≡ 0 → records_in size read bytes ≡ xs → records size read key (Some bytes) ≡ Ok (Some xs)
cut_records size read key bytes xs whole is =
    ap (λ b. cond b (Ok (Some (records_in size read bytes))) (Err (Records key (length bytes)))) (eq-eqb (length bytes % size) 0 whole)
    ∙ ap (λ l. Ok (Some l)) is

pub strings_back : {A : Type 0} (size : ℕ) (read : List ℕ → A) (key : Key) (bytes : List ℕ) (xs : List A) → length bytes % size ≡ 0 → records_in size read bytes ≡ xs → records_by size read key (Some (Text bytes)) ≡ Ok (Some xs)
strings_back size read key bytes xs whole is =
    stepped _ (Some bytes) _ _ (had_some bytes_of key _ _ (bytes_text bytes)) (cut_records size read key bytes xs whole is)

-- ---- a dictionary where it stands

pub members : (y : Value-F Value) → (b : Bool) → is_some (dict_in y) ≡ b → option_map value_of (dict_in y) ≡ cond b (Some (member_in y)) None
members (layer.Int n) true e = absurd (let f : ⊥ = cc in f)
members (layer.Int n) false e = refl
members (layer.Text s) true e = absurd (let f : ⊥ = cc in f)
members (layer.Text s) false e = refl
members (layer.List vs) true e = absurd (let f : ⊥ = cc in f)
members (layer.List vs) false e = refl
members (layer.Dict ps) true e = refl
members (layer.Dict ps) false e = absurd (let f : ⊥ = cc in f)
