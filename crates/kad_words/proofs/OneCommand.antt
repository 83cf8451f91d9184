-- Words ask for one command.
use Rattle.std.proofs.Common.{◌≡◌, ℕ, ◌^◌, ◌<◌, Bool, true, false, List, [], ◌∷◌, Option, Some, None, refl, sym, ap, ◌∙◌, subst, arith, lit<}
use Rattle.std.specs.Prelude.{bytes_eq, codes, map, nat_lt}
use Rattle.std.specs.List.{list_all}
use Rattle.std.proofs.lemmas.Bool.{and_parts}
use Rattle.std.proofs.lemmas.Bool.Decides.{nat_tests}
use Rattle.kad_base.specs.declared.types.Id.{Id}
use Rattle.kad_base.specs.declared.types.Proof.{Proof}
use Rattle.kad_base.specs.declared.types.Policy.{Policy}
use Rattle.kad_base.specs.declared.types.Policy.TheVariants as policy
use Rattle.kad_base.specs.declared.types.ClaimRule.{ClaimRule}
use Rattle.kad_base.specs.declared.types.ClaimRule.TheVariants.{Named, Asked}
use Rattle.kad_base.specs.declared.types.Family.{Family}
use Rattle.kad_base.specs.declared.types.Family.TheVariants.{Four, Six}
use Rattle.kad_text.specs.Text.{SpellsBytes, SpellsHex, SpellsId, SpellsNumber, version}
use Rattle.kad_words.specs.Table.{AreLooks, AreSaid, Choice, ClaimOf, Entry, FamilyOf, IsLook, IsLookAt, IsLookOf, IsSaid, IsNodeOwn, MayIdOf, MayNumberOf, MayProofOf, MaySeedOf, NumberOf, Part, PolicyBy, Says, StandsOf, Values, Word, family_option, per_address_option, key_of, kind_of, kind_word, no_target, parts_of, word_of, YesOf, named_or_made, own_option, proof_option}
use Rattle.kad_words.specs.Table.Part.{gives_id, gives_seed, gives_number, may_give_number, gives_claim, gives_yes, says_whether, gives_policy, gives_look, gives_item, gives_looks}
use Rattle.kad_words.specs.Plain.{CommandOf, IsPlain, pairs_of, values_of}
use Rattle.kad_words.specs.Fitting.{ends_below}
use Rattle.kad_words.specs.declared.choice.Kind.{Kind}
use Rattle.kad_words.specs.declared.choice.Kind.TheVariants.{Claim, IpVersion, Number, YesNo}
use Rattle.kad_words.specs.declared.choice.Need.{Need}
use Rattle.kad_words.specs.declared.choice.Need.TheVariants.{OrElse, OrNamed, OrNo}
use Rattle.kad_words.specs.declared.command.Command.{Command}
use Rattle.kad_words.specs.declared.command.Command.TheVariants.{Lookup, Serve, Node, Table, Refresh, Mint, Sim}
use Rattle.kad_words.specs.declared.command.CommandKind.{CommandKind}
use Rattle.kad_words.specs.declared.command.CommandKind.TheVariants as kind
use Rattle.kad_words.specs.declared.command.LookWords.{LookWords}
use Rattle.kad_words.specs.declared.command.MintWords.{MintWords}
use Rattle.kad_words.specs.declared.command.NodeWords.{NodeWords}
use Rattle.kad_words.specs.declared.command.RefreshWords.{RefreshWords}
use Rattle.kad_words.specs.declared.command.ServeWords.{ServeWords}
use Rattle.kad_words.specs.declared.command.SimWords.{SimWords}
use Rattle.kad_words.specs.declared.command.TableWords.{TableWords}
use Rattle.kad_words.specs.Values.{ClaimBy, FamilyBy, IsGiven, IsGivenOr, MayBeGiven, MayNumberBy, NumberBy, SpellsClaim, SpellsProofWord, SpellsYes, YesBy}
use Rattle.kad_words.proofs.Checks.{pairs_are}
use Rattle.kad_words.proofs.Listing.{one_word}
use Rattle.kad_words.proofs.ProofWord.{proof_once}
use Rattle.kad_text.proofs.OneSpelling.{bytes_once, family_once, hex_once, id_once, number_once}

-- ---- a word is that of one command

same_kind : (a b : CommandKind) → bytes_eq (kind_word a) (kind_word b) ≡ true → a ≡ b
same_kind kind.Lookup kind.Lookup e = refl
same_kind other kind.Lookup e = cc
same_kind a b e = cc

pub kind_once : (a b : CommandKind) → kind_word a ≡ kind_word b → a ≡ b
kind_once a b e = same_kind a b (one_word (kind_word a) (kind_word b) e)

-- ---- what a value gives is one

-- numbers below this are spelled in one way
abbrev bound : ℕ
bound = 2 ^ 64

below : (n : ℕ) → nat_lt n bound ≡ true → n < bound
below n e = grind (arith, nat_tests)

given_once : {T : Type 0} (Spells : Word → T → Type 0) → ((value : Word) (x y : T) → Spells value x → Spells value y → x ≡ y) → (o : Option Word) (x y : T) → IsGiven Spells o x → IsGiven Spells o y → x ≡ y
given_once Spells once None x y s t = absurd s
given_once Spells once (Some value) x y s t = once value x y s t

may_once : {T : Type 0} (Spells : Word → T → Type 0) → ((value : Word) (x y : T) → Spells value x → Spells value y → x ≡ y) → (o : Option Word) (x y : Option T) → MayBeGiven Spells o x → MayBeGiven Spells o y → x ≡ y
may_once Spells once None None None s t = refl
may_once Spells once None None (Some y) s t = absurd t
may_once Spells once None (Some x) y s t = absurd s
may_once Spells once (Some value) None y s t = absurd s
may_once Spells once (Some value) (Some x) None s t = absurd t
may_once {T} Spells once (Some value) (Some x) (Some y) s t = ap (λ (z : T). Some z) (once value x y s t)

or_once : (d least most : ℕ) → most < 2 ^ 64 → (o : Option Word) (x y : ℕ) → IsGivenOr d (SpellsNumber least most) o x → IsGivenOr d (SpellsNumber least most) o y → x ≡ y
or_once d least most fits None x y s t = s ∙ sym t
or_once d least most fits (Some value) x y s t = number_once least most value x y fits s t

both : {a b c d : ℕ} → a ≡ c → b ≡ d → policy.Puzzled a b ≡ policy.Puzzled c d
both e f = λ i. policy.Puzzled (e i) (f i)

policy_once : (v w : Option Word) (p q : Policy) → PolicyBy v w p → PolicyBy v w q → p ≡ q
policy_once None None policy.Plain policy.Plain s t = refl
policy_once None None policy.Plain (policy.Puzzled c d) s t = absurd t
policy_once None None (policy.Puzzled a b) q s t = absurd s
policy_once (Some v) w policy.Plain q s t = absurd s
policy_once (Some v) w (policy.Puzzled a b) policy.Plain s t = absurd t
policy_once (Some v) w (policy.Puzzled a b) (policy.Puzzled c d) s t = both (or_once 0 0 32 (lit< tt) (Some v) a c s.0 t.0) (or_once 0 0 32 (lit< tt) w b d s.1 t.1)
policy_once None (Some w) policy.Plain q s t = absurd s
policy_once None (Some w) (policy.Puzzled a b) policy.Plain s t = absurd t
policy_once None (Some w) (policy.Puzzled a b) (policy.Puzzled c d) s t = both (or_once 0 0 32 (lit< tt) None a c s.0 t.0) (or_once 0 0 32 (lit< tt) (Some w) b d s.1 t.1)

version_once : (a b : Family) → version a ≡ version b → a ≡ b
version_once Four Four e = refl
version_once Four Six e = absurd (omega (arith, e))
version_once Six Four e = absurd (omega (arith, e))
version_once Six Six e = refl

family_by_once : (kind : Kind) (need : Need) (o : Option Word) (x y : Family) → FamilyBy kind need o x → FamilyBy kind need o y → x ≡ y
family_by_once IpVersion (OrElse d) None x y s t = version_once x y (s ∙ sym t)
family_by_once IpVersion (OrElse d) (Some value) x y s t = family_once value x y s t
family_by_once kind need o x y s t = absurd s

yes_apart : codes "yes" ≡ codes "no" → ⊥
yes_apart e = (let same : ◌≡◌ {A = ℕ} 121 110 = cc in omega (arith, same))

spells_once : (text : Word) (x y : Bool) → SpellsYes text x → SpellsYes text y → x ≡ y
spells_once text true true s t = refl
spells_once text false false s t = refl
spells_once text true false s t = absurd (yes_apart (sym s ∙ t))
spells_once text false true s t = absurd (yes_apart (sym t ∙ s))

said_once : (o : Option Word) (x y : Bool) → IsGivenOr false SpellsYes o x → IsGivenOr false SpellsYes o y → x ≡ y
said_once None x y s t = s ∙ sym t
said_once (Some value) x y s t = spells_once value x y s t

yes_once : (kind : Kind) (need : Need) (o : Option Word) (x y : Bool) → YesBy kind need o x → YesBy kind need o y → x ≡ y
yes_once YesNo OrNo o x y s t = said_once o x y s t
yes_once kind need o x y s t = absurd s

words_apart : codes "named" ≡ codes "asked" → ⊥
words_apart e = (let same : ◌≡◌ {A = ℕ} 110 97 = cc in omega (arith, same))

rule_once : (text : Word) (x y : ClaimRule) → SpellsClaim text x → SpellsClaim text y → x ≡ y
rule_once text Named Named s t = refl
rule_once text Asked Asked s t = refl
rule_once text Named Asked s t = absurd (words_apart (sym s ∙ t))
rule_once text Asked Named s t = absurd (words_apart (sym t ∙ s))

ruled_once : (o : Option Word) (x y : ClaimRule) → IsGivenOr Named SpellsClaim o x → IsGivenOr Named SpellsClaim o y → x ≡ y
ruled_once None x y s t = s ∙ sym t
ruled_once (Some value) x y s t = rule_once value x y s t

claim_once : (kind : Kind) (need : Need) (o : Option Word) (x y : ClaimRule) → ClaimBy kind need o x → ClaimBy kind need o y → x ≡ y
claim_once Claim OrNamed o x y s t = ruled_once o x y s t
claim_once kind need o x y s t = absurd s

-- ---- what the words of a command ask for is one

look_family_once : (value : Values) (a b : LookWords) → FamilyOf family_option value a.family → FamilyOf family_option value b.family → a.family ≡ b.family
look_family_once value a b s t = family_by_once IpVersion (OrElse 4) _ a.family b.family s t

look_crowd_once : (value : Values) (a b : LookWords) → NumberOf per_address_option value a.per_address → NumberOf per_address_option value b.per_address → a.per_address ≡ b.per_address
look_crowd_once value a b s t = or_once 0 0 255 (lit< tt) _ a.per_address b.per_address s t

look_own_once : (value : Values) (a b : LookWords) → MayIdOf own_option value a.own → MayIdOf own_option value b.own → a.own ≡ b.own
look_own_once value a b s t = may_once SpellsId id_once _ a.own b.own s t

node_own_once : (value : Values) (p q : Option Proof) (a b : Option Id) → p ≡ q → IsNodeOwn value p a → IsNodeOwn value q b → a ≡ b
node_own_once value p q a b same s t =
    let named : s.0 ≡ t.0 = may_once SpellsId id_once _ s.0 t.0 s.1 t.1 in
    s.2 ∙ ap (λ (n : Option Id). named_or_made n p) named ∙ ap (named_or_made t.0) same ∙ sym t.2

node_proof_once : (value : Values) (p q : Option Proof) → MayProofOf proof_option value p → MayProofOf proof_option value q → p ≡ q
node_proof_once value p q s t = may_once SpellsProofWord proof_once _ p q s t

look_at_once : (c d : Id) (value : Values) (a b : LookWords) → c ≡ d → a.own ≡ b.own → a.family ≡ b.family → a.per_address ≡ b.per_address → IsLookAt c value a → IsLookAt d value b → a ≡ b
look_at_once c d value a b same own family crowd s t =
    let target = s.target ∙ same ∙ sym t.target in
    let k = or_once 8 1 20 (lit< tt) _ a.k b.k s.k t.k in
    let paths = or_once 4 1 8 (lit< tt) _ a.paths b.paths s.paths t.paths in
    let alpha = or_once 3 1 4 (lit< tt) _ a.alpha b.alpha s.alpha t.alpha in
    let timeout = or_once 2000 1 60000 (lit< tt) _ a.timeout b.timeout s.timeout t.timeout in
    let bits = or_once 1 1 5 (lit< tt) _ a.bits b.bits s.bits t.bits in
    let passes = policy_once _ _ a.policy b.policy s.policy t.policy in
    let sealed = s.sealed ∙ sym t.sealed in
    let claim = ruled_once _ a.claim b.claim s.claim t.claim in
    λ i. record { target = target i; own = own i; k = k i; paths = paths i; alpha = alpha i; timeout = timeout i; bits = bits i; policy = passes i; family = family i; sealed = sealed i; per_address = crowd i; claim = claim i }

look_once : (goal : Entry) (value : Values) (a b : LookWords) → IsLook goal value a → IsLook goal value b → a ≡ b
look_once goal value a b s t =
    let target = given_once SpellsId id_once _ a.target b.target s.0.0 t.0.0 in
    look_at_once a.target b.target value a b target (look_own_once value a b s.0.3 t.0.3) (look_family_once value a b s.0.1 t.0.1) (look_crowd_once value a b s.0.2 t.0.2) s.1 t.1

looks_once : (value : Values) (p q : Option Proof) (a b : LookWords) → AreLooks value p a → AreLooks value q b → gives_looks p a ≡ gives_looks q b
looks_once value p q a b s t =
    let proof = node_proof_once value p q s.3 t.3 in
    let own = node_own_once value p q a.own b.own proof s.4 t.4 in
    let look = look_at_once no_target no_target value a b refl own (s.0 ∙ sym t.0) (look_crowd_once value a b s.1 t.1) s.2 t.2 in
    λ i. gives_looks (proof i) (look i)

item_once : (goal : Entry) (value : Values) (x y : List ℕ) → IsGiven SpellsBytes (value goal.name) x → IsGiven SpellsBytes (value goal.name) y → x ≡ y
item_once goal value x y s t = given_once SpellsBytes bytes_once _ x y s t

number_by_once : (kind : Kind) (need : Need) → ends_below bound kind ≡ true → (o : Option Word) (x y : ℕ) → NumberBy kind need o x → NumberBy kind need o y → x ≡ y
number_by_once (Number least most) (OrElse d) small o x y s t = or_once d least most (below most small) o x y s t
number_by_once kind need small o x y s t = absurd s

may_number_once : (kind : Kind) → ends_below bound kind ≡ true → (o : Option Word) (x y : Option ℕ) → MayNumberBy kind o x → MayNumberBy kind o y → x ≡ y
may_number_once (Number least most) small o x y s t = may_once (SpellsNumber least most) (λ v p q. number_once least most v p q (below most small)) o x y s t
may_number_once kind small o x y s t = absurd s

-- what a part is, but for its value
data Shape : Type 0 where
  of_id : Choice → Shape
  of_seed : Choice → Shape
  of_number : Choice → Shape
  of_may_number : Choice → Shape
  of_claim : Choice → Shape
  of_yes : Choice → Shape
  of_whether : Choice → Shape
  of_policy : Shape
  of_look : Choice → Shape
  of_item : Choice → Shape
  of_looks : Shape

abbrev shape : Part → Shape
shape (gives_id c x) = of_id c
shape (gives_seed c x) = of_seed c
shape (gives_number c x) = of_number c
shape (may_give_number c x) = of_may_number c
shape (gives_claim c x) = of_claim c
shape (gives_yes c x) = of_yes c
shape (says_whether c x) = of_whether c
shape (gives_policy x) = of_policy
shape (gives_look c x) = of_look c
shape (gives_item c x l) = of_item c
shape (gives_looks p x) = of_looks

-- its numbers are so small that one text spells one of them
abbrev is_small : Part → Bool
is_small (gives_number c x) = ends_below bound c.entry.kind
is_small (may_give_number c x) = ends_below bound c.entry.kind
is_small other = true

part_once : (value : Values) (x y : Part) → shape x ≡ shape y → is_small x ≡ true → IsSaid value x → IsSaid value y → x ≡ y
part_once value (gives_id c x) (gives_id d y) e small s t =
    let same : d ≡ c = cc in
    let t' = subst (λ (k : Choice). MayIdOf k value y) same t in
    let one = may_once SpellsId id_once _ x y s t' in cc
part_once value (gives_seed c x) (gives_seed d y) e small s t =
    let same : d ≡ c = cc in
    let t' = subst (λ (k : Choice). MaySeedOf k value y) same t in
    let one = may_once (SpellsHex 32) (hex_once 32) _ x y s t' in cc
part_once value (gives_number c x) (gives_number d y) e small s t =
    let same : d ≡ c = cc in
    let t' = subst (λ (k : Choice). NumberOf k value y) same t in
    let one = number_by_once c.entry.kind c.entry.need small _ x y s t' in cc
part_once value (may_give_number c x) (may_give_number d y) e small s t =
    let same : d ≡ c = cc in
    let t' = subst (λ (k : Choice). MayNumberOf k value y) same t in
    let one = may_number_once c.entry.kind small _ x y s t' in cc
part_once value (gives_claim c x) (gives_claim d y) e small s t =
    let same : d ≡ c = cc in
    let t' = subst (λ (k : Choice). ClaimOf k value y) same t in
    let one = claim_once c.entry.kind c.entry.need _ x y s t' in cc
part_once value (gives_yes c x) (gives_yes d y) e small s t =
    let same : d ≡ c = cc in
    let t' = subst (λ (k : Choice). YesOf k value y) same t in
    let one = yes_once c.entry.kind c.entry.need _ x y s t' in cc
part_once value (says_whether c x) (says_whether d y) e small s t =
    let same : d ≡ c = cc in
    let t' = subst (λ (k : Choice). StandsOf k value y) same t in
    let one : x ≡ y = s ∙ sym t' in cc
part_once value (gives_policy x) (gives_policy y) e small s t = ap gives_policy (policy_once _ _ x y s t)
part_once value (gives_look c x) (gives_look d y) e small s t =
    let same : d ≡ c = cc in
    let t' = subst (λ (k : Choice). IsLook k.entry value y) same t in
    let one = look_once c.entry value x y s t' in cc
part_once value (gives_item c x k) (gives_item d y l) e small s t =
    let same : d ≡ c = cc in
    let t' = subst (λ (g : Choice). IsLookOf g.entry value y l) same t in
    let one : x ≡ y = item_once c.entry value x y s.0.0 t'.0.0 in
    let looks : k ≡ l = look_at_once (key_of x) (key_of y) value k l (ap key_of one) (look_own_once value k l s.0.3 t'.0.3) (look_family_once value k l s.0.1 t'.0.1) (look_crowd_once value k l s.0.2 t'.0.2) s.1 t'.1 in cc
part_once value (gives_looks p x) (gives_looks q y) e small s t = looks_once value p q x y s t
part_once value x y e small s t = absurd cc

parts_once : (value : Values) (xs ys : List Part) → map shape xs ≡ map shape ys → list_all is_small xs ≡ true → AreSaid value xs → AreSaid value ys → xs ≡ ys
parts_once value [] [] e small s t = refl
parts_once value [] (y ∷ ys) e small s t = absurd cc
parts_once value (x ∷ xs) [] e small s t = absurd cc
parts_once value (x ∷ xs) (y ∷ ys) e small s t =
    let both = and_parts (is_small x) (list_all is_small xs) small in
    let one = part_once value x y (cc) both.0 s.0 t.0 in
    let rest = parts_once value xs ys (cc) both.1 s.1 t.1 in cc

-- a command is its word and its parts: nothing here names one
alike : (a b : Command) → kind_of a ≡ kind_of b → map shape (parts_of a) ≡ map shape (parts_of b)
alike (Lookup a) (Lookup b) e = refl
alike other (Lookup b) e = cc
alike a b e = cc

all_small : (a : Command) → list_all is_small (parts_of a) ≡ true
all_small (Lookup a) = refl
all_small other = refl

-- ---- words that give the same parts are the same

serve_once : (a b : ServeWords) → parts_of (Serve a) ≡ parts_of (Serve b) → a ≡ b
serve_once a b same =
    let own_is : a.own ≡ b.own = cc in
    let k_is : a.k ≡ b.k = cc in
    let bits_is : a.bits ≡ b.bits = cc in
    let policy_is : a.policy ≡ b.policy = cc in
    let per_address_is : a.per_address ≡ b.per_address = cc in
    let receives_is : a.receives ≡ b.receives = cc in
    let minutes_is : a.minutes ≡ b.minutes = cc in
    let workers_is : a.workers ≡ b.workers = cc in
    let sealed_is : a.sealed ≡ b.sealed = cc in
    let table_is : a.table ≡ b.table = cc in
    λ i. record { own = own_is i; k = k_is i; bits = bits_is i; policy = policy_is i; per_address = per_address_is i; receives = receives_is i; minutes = minutes_is i; workers = workers_is i; sealed = sealed_is i; table = table_is i }

node_once : (a b : NodeWords) → parts_of (Node a) ≡ parts_of (Node b) → a ≡ b
node_once a b same =
    let look_is : a.look ≡ b.look = cc in
    let proof_is : a.proof ≡ b.proof = cc in
    let receives_is : a.receives ≡ b.receives = cc in
    let minutes_is : a.minutes ≡ b.minutes = cc in
    let table_is : a.table ≡ b.table = cc in
    λ i. record { look = look_is i; proof = proof_is i; receives = receives_is i; minutes = minutes_is i; table = table_is i }

table_once : (a b : TableWords) → parts_of (Table a) ≡ parts_of (Table b) → a ≡ b
table_once a b same =
    let own_is : a.own ≡ b.own = cc in
    let k_is : a.k ≡ b.k = cc in
    let bits_is : a.bits ≡ b.bits = cc in
    let policy_is : a.policy ≡ b.policy = cc in
    λ i. record { own = own_is i; k = k_is i; bits = bits_is i; policy = policy_is i }

refresh_once : (a b : RefreshWords) → parts_of (Refresh a) ≡ parts_of (Refresh b) → a ≡ b
refresh_once a b same =
    let timeout_is : a.timeout ≡ b.timeout = cc in
    let sealed_is : a.sealed ≡ b.sealed = cc in
    let all_is : a.all ≡ b.all = cc in
    λ i. record { timeout = timeout_is i; sealed = sealed_is i; all = all_is i }

mint_once : (a b : MintWords) → parts_of (Mint a) ≡ parts_of (Mint b) → a ≡ b
mint_once a b same =
    let seed_is : a.seed ≡ b.seed = cc in
    let c1_is : a.c1 ≡ b.c1 = cc in
    let c2_is : a.c2 ≡ b.c2 = cc in
    let tries_is : a.tries ≡ b.tries = cc in
    λ i. record { seed = seed_is i; c1 = c1_is i; c2 = c2_is i; tries = tries_is i }

sim_once : (a b : SimWords) → parts_of (Sim a) ≡ parts_of (Sim b) → a ≡ b
sim_once a b same =
    let seed_is : a.seed ≡ b.seed = cc in
    let nodes_is : a.nodes ≡ b.nodes = cc in
    let hostile_is : a.hostile ≡ b.hostile = cc in
    let k_is : a.k ≡ b.k = cc in
    let paths_is : a.paths ≡ b.paths = cc in
    let alpha_is : a.alpha ≡ b.alpha = cc in
    let timeout_is : a.timeout ≡ b.timeout = cc in
    let claim_is : a.claim ≡ b.claim = cc in
    λ i. record { seed = seed_is i; nodes = nodes_is i; hostile = hostile_is i; k = k_is i; paths = paths_is i; alpha = alpha_is i; timeout = timeout_is i; claim = claim_is i }

made_once : (a b : Command) → kind_of a ≡ kind_of b → parts_of a ≡ parts_of b → a ≡ b
made_once (Lookup a) (Lookup b) e same = cc
made_once (Serve a) (Serve b) e same = ap Serve (serve_once a b same)
made_once (Node a) (Node b) e same = ap Node (node_once a b same)
made_once (Table a) (Table b) e same = ap Table (table_once a b same)
made_once (Refresh a) (Refresh b) e same = ap Refresh (refresh_once a b same)
made_once (Mint a) (Mint b) e same = ap Mint (mint_once a b same)
made_once (Sim a) (Sim b) e same = ap Sim (sim_once a b same)
made_once other (Lookup b) e same = cc
made_once a b e same = cc

says_once : (value : Values) (a b : Command) → kind_of a ≡ kind_of b → Says value a → Says value b → a ≡ b
says_once value a b e s t = made_once a b e (parts_once value (parts_of a) (parts_of b) (alike a b e) (all_small a) s t)

pub command_once : (words : List Word) (a b : Command) → CommandOf words a → CommandOf words b → a ≡ b
command_once words a b s t =
    let first : word_of a ≡ word_of b = (let e = s.begins in let f = t.begins in cc) in
    let rest : s.rest ≡ t.rest = (let e = s.begins in let f = t.begins in cc) in
    let pairs : s.pairs ≡ t.pairs = pairs_are _ s.rest s.pairs s.plain ∙ ap pairs_of rest ∙ sym (pairs_are _ t.rest t.pairs t.plain) in
    says_once (values_of t.pairs) a b (kind_once (kind_of a) (kind_of b) first) (subst (λ (ps : List (Word × Word)). Says (values_of ps) a) pairs s.says) t.says

pub command_plain : (words : List Word) (c : Command) → CommandOf words c → IsPlain words
command_plain words c h = record {
  kind = kind_of c;
  rest = h.rest;
  pairs = h.pairs;
  begins = h.begins;
  plain = h.plain;
  there = h.there;
}
