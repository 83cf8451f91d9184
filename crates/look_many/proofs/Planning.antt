-- Which queries follow: what is planned of what the driver keeps is what the events tell, and what the outcomes say.
use Rattle.std.proofs.Common.{◌≡◌, ℕ, suc, ◌*◌, ◌<◌, ◌≤◌, List, [], ◌∷◌, ◌++◌, length, drop, false, refl, sym, ap, subst, ◌∙◌, arith}
use Rattle.std.specs.Prelude.{map, reverse}
use Rattle.std.specs.List.{AllByRecursion, AllZip, flat_map}
use Rattle.std.proofs.lemmas.List.{append-nil, append_assoc, drop_all, length-append, length-map, reverse-append}
use Rattle.kad_base.specs.declared.types.Id.{Id}
use Rattle.kad_base.specs.declared.types.Contact.{Contact}
use Rattle.kad_base.specs.Contacts.{without}
use Rattle.kad_distance.proofs.Chosen.{closest_few}
use Rattle.claim_book.specs.declared.types.Setting.{Setting}
use Rattle.claim_book.specs.declared.types.Entry.{Entry}
use Rattle.claim_book.specs.Journal.{took, failed}
use Rattle.claim_book.specs.Result.{result_of}
use Rattle.lookup_core.specs.declared.gather.Gathered.{Gathered}
use Rattle.lookup_core.specs.declared.gather.Token.{Token}
use Rattle.lookup_core.specs.Gathered.{Keeping, token_of}
use Rattle.lookup_core.specs.Reply.{Answered}
use Rattle.lookup_core.proofs.Lists.{all_append}
use Rattle.follow_ups.specs.Announced.{announcement, announcements, announcing, putting, tokens_for}
use Rattle.follow_ups.specs.declared.announce.Said.TheVariants.{Peer}
use Rattle.follow_ups.proofs.Announcing.{few_tokens, may_write}
use Rattle.follow_ups.specs.declared.announce.Announcement.{Announcement}
use Rattle.lookup_crowd.specs.declared.due.FollowUp.{FollowUp}
use Rattle.lookup_crowd.specs.declared.seeker.Seeker.{Seeker}
use Rattle.lookup_crowd.specs.Mine.{Mine, Whose}
use Rattle.lookup_crowd.specs.inner.Crowd.{whose, KeepsMine}
use Rattle.look_many.specs.declared.found.One.{One}
use Rattle.look_many.specs.declared.job.Job.{Job}
use Rattle.look_many.specs.declared.job.Job.TheVariants.{Find, Peers, Announce, Get, Put}
use Rattle.look_many.specs.Job.{MaySayOf, kind_of, may_owe, owed_for}
use Rattle.look_many.specs.Planned.{by, follow_ups, follows_read}
use Rattle.look_many.specs.inner.Following.{IsSayable}
use Rattle.look_many.specs.inner.Kept.{owed_of, follows_kept}
use Rattle.look_many.specs.inner.Seats.{IsDone, IsHanded}
use Rattle.look_many.proofs.Lists.{first_same, rest_same}

-- ---- the plan

-- of all
pub kept_all : (own : Id) (i : ℕ) (js : List Job) (ks : List Seeker) (old all : List FollowUp) → length js ≤ i → old ++ follows_kept own i (drop i js) (drop i ks) ≡ all → old ≡ all
kept_all own i js ks old all le h = sym (ap (λ l. old ++ follows_kept own i l (drop i ks)) (drop_all i js le) ∙ append-nil old) ∙ h

-- what is taken from the end of a list that was turned is its first
pub adds_next : (owner : ℕ) (plan more : List FollowUp) (left rest : List Announcement) (a : Announcement) (all : List FollowUp) → plan ++ map (by owner) (reverse left) ≡ all → left ≡ rest ++ a ∷ [] → more ≡ plan ++ by owner a ∷ [] → more ++ map (by owner) (reverse rest) ≡ all
adds_next owner plan more left rest a all h is next =
    ap (λ l. l ++ map (by owner) (reverse rest)) next
    ∙ append_assoc plan (by owner a ∷ []) (map (by owner) (reverse rest))
    ∙ ap (λ l. plan ++ map (by owner) l) (sym (ap reverse is ∙ reverse-append rest (a ∷ [])))
    ∙ h

-- one that can't owe owes nothing
pub owes_none : (own : Id) (job : Job) (found : List Contact) (tokens : List Token) → may_owe job ≡ false → owed_for own job found tokens ≡ []
owes_none own (Find target) found tokens e = refl
owes_none own (Peers key) found tokens e = refl
owes_none own (Announce key port) found tokens e = absurd cc
owes_none own (Get key) found tokens e = refl
owes_none own (Put key v) found tokens e = absurd cc

-- ---- the same, where the lookups are over

-- what a lookup owes, by what it is read by and what it gathered
owed_same : (own : Id) (job : Job) (k l : Seeker) → whose l ≡ whose k → l.gathered ≡ k.gathered → owed_of own job l ≡ owed_of own job k
owed_same own job k l same gathered = ap (λ (w : Whose). owed_for own job (result_of w.setting w.journal) l.gathered.tokens) same ∙ ap (λ (g : Gathered). owed_for own job (result_of k.lookup.book.setting k.lookup.book.journal) g.tokens) gathered

pub follows_still : (own : Id) (i : ℕ) (jobs : List Job) (ks ls : List Seeker) → map whose ls ≡ map whose ks → map (λ (k : Seeker). k.gathered) ls ≡ map (λ (k : Seeker). k.gathered) ks → follows_kept own i jobs ls ≡ follows_kept own i jobs ks
follows_still own i [] ks ls same gathered = refl
follows_still own i (j ∷ jobs) [] [] same gathered = refl
follows_still own i (j ∷ jobs) [] (l ∷ ls) same gathered = absurd cc
follows_still own i (j ∷ jobs) (k ∷ ks) [] same gathered = absurd cc
follows_still own i (j ∷ jobs) (k ∷ ks) (l ∷ ls) same gathered =
    ap (λ x. map (by i) x ++ follows_kept own (suc i) jobs ls) (owed_same own j k l (first_same same) (first_same gathered))
    ∙ ap (λ x. map (by i) (owed_of own j k) ++ x) (follows_still own (suc i) jobs ks ls (rest_same same) (rest_same gathered))

-- ---- what the events tell

owed_read : (own : Id) (job : Job) (found : List Contact) (heard : List Answered) (g : Gathered) → Keeping (kind_of job) heard g → owed_for own job found g.tokens ≡ owed_for own job found (flat_map token_of heard)
owed_read own (Find target) found heard g h = refl
owed_read own (Peers key) found heard g h = refl
owed_read own (Announce key port) found heard g h = ap (announcements (announcing own key port) found) h.1
owed_read own (Get key) found heard g h = refl
owed_read own (Put key v) found heard g h = ap (announcements (putting own v) found) h.1

-- its queries are of the job's kind
abbrev pub IsOfKind : Job → Seeker → Type 0
IsOfKind job k = k.quest.kind ≡ kind_of job

pub kept_read : (own : Id) (i : ℕ) (jobs : List Job) (ks : List Seeker) (ms : List Mine) → AllZip IsOfKind jobs ks → AllZip KeepsMine ks ms → follows_kept own i jobs ks ≡ follows_read own i jobs (map whose ks) ms
kept_read own i [] ks ms kinds keeps = refl
kept_read own i (j ∷ jobs) [] ms kinds keeps = refl
kept_read own i (j ∷ jobs) (k ∷ ks) [] kinds keeps = absurd keeps
kept_read own i (j ∷ jobs) (k ∷ ks) (m ∷ ms) kinds keeps =
    ap (λ x. map (by i) x ++ follows_kept own (suc i) jobs ks) (owed_read own j (result_of k.lookup.book.setting k.lookup.book.journal) m.heard k.gathered (subst (λ x. Keeping x m.heard k.gathered) kinds.0 keeps.0.gathered))
    ∙ ap (λ x. map (by i) (owed_for own j (result_of k.lookup.book.setting k.lookup.book.journal) (flat_map token_of m.heard)) ++ x) (kept_read own (suc i) jobs ks ms kinds.1 keeps.1)

-- ---- what the outcomes say

owed_found : (own : Id) (job : Job) (k : Seeker) (one : One) → IsDone k.lookup.book one → IsHanded k.gathered one → owed_of own job k ≡ owed_for own job one.found one.tokens
owed_found own job k one d h =
    ap (λ found. owed_for own job found k.gathered.tokens) (ap (result_of k.lookup.book.setting) (sym d.journal) ∙ sym d.found) ∙ ap (owed_for own job one.found) (sym h.tokens)

pub kept_found : (own : Id) (i : ℕ) (jobs : List Job) (ks : List Seeker) (ones : List One) → AllZip (λ (k : Seeker) (one : One). IsDone k.lookup.book one) ks ones → AllZip (λ (k : Seeker) (one : One). IsHanded k.gathered one) ks ones → follows_kept own i jobs ks ≡ follow_ups own i jobs ones
kept_found own i [] ks ones d h = refl
kept_found own i (j ∷ jobs) [] [] d h = refl
kept_found own i (j ∷ jobs) [] (o ∷ ones) d h = absurd d
kept_found own i (j ∷ jobs) (k ∷ ks) [] d h = absurd d
kept_found own i (j ∷ jobs) (k ∷ ks) (o ∷ ones) d h =
    ap (λ x. map (by i) x ++ follows_kept own (suc i) jobs ks) (owed_found own j k o d.0 h.0)
    ∙ ap (λ x. map (by i) (owed_for own j o.found o.tokens) ++ x) (kept_found own (suc i) jobs ks ones d.1 h.1)

-- ---- what can be said, and how much

all_map : {A B : Type 0} (P : B → Type 0) (f : A → B) (xs : List A) → ((x : A) → P (f x)) → AllByRecursion P (map f xs)
all_map P f [] h = tt
all_map P f (x ∷ xs) h = (h x, all_map P f xs h)

map_all : {A B : Type 0} (P : B → Type 0) (Q : A → Type 0) (f : A → B) (xs : List A) → ((x : A) → Q x → P (f x)) → AllByRecursion Q xs → AllByRecursion P (map f xs)
map_all P Q f [] h all = tt
map_all P Q f (x ∷ xs) h all = (h x all.0, map_all P Q f xs h all.1)

-- each has a written form
owed_written : (own : Id) (job : Job) (found : List Contact) (tokens : List Token) → MaySayOf job → AllByRecursion (λ (a : Announcement). IsSayable a.ask) (owed_for own job found tokens)
owed_written own (Find target) found tokens h = tt
owed_written own (Peers key) found tokens h = tt
owed_written own (Announce key port) found tokens h =
    all_map (λ (a : Announcement). IsSayable a.ask) (announcement (announcing own key port)) (tokens_for found tokens) (λ t proof. may_write proof (Peer own key port) t.token (announcing own key port t.token) refl tt)
owed_written own (Get key) found tokens h = tt
owed_written own (Put key v) found tokens h = all_map (λ (a : Announcement). IsSayable a.ask) (announcement (putting own v)) (tokens_for found tokens) (λ t proof. record { form = h; immutable = refl })

pub kept_written : (own : Id) (i : ℕ) (jobs : List Job) (ks : List Seeker) → AllByRecursion MaySayOf jobs → AllByRecursion (λ (f : FollowUp). IsSayable f.ask) (follows_kept own i jobs ks)
kept_written own i [] ks h = tt
kept_written own i (j ∷ jobs) [] h = tt
kept_written own i (j ∷ jobs) (k ∷ ks) h =
    all_append (λ (f : FollowUp). IsSayable f.ask) (map (by i) (owed_of own j k)) (follows_kept own (suc i) jobs ks)
    (map_all (λ (f : FollowUp). IsSayable f.ask) (λ (a : Announcement). IsSayable a.ask) (by i) (owed_of own j k) (λ a w. w) (owed_written own j (result_of k.lookup.book.setting k.lookup.book.journal) k.gathered.tokens h.0))
    (kept_written own (suc i) jobs ks h.1)

few_found : (s : Setting) (J : List Entry) → length (result_of s J) ≤ s.k
unfolding result_of
few_found s J = closest_few s.target s.k (without (took J) (failed J))

-- no more than were found
owed_few : (own : Id) (job : Job) (found : List Contact) (tokens : List Token) → length (owed_for own job found tokens) ≤ length found
owed_few own (Find target) found tokens = omega arith
owed_few own (Peers key) found tokens = omega arith
owed_few own (Announce key port) found tokens = (let few = few_tokens tokens found in let same = length-map (tokens_for found tokens) (announcement (announcing own key port)) in omega (arith, few, same))
owed_few own (Get key) found tokens = omega arith
owed_few own (Put key v) found tokens = (let few = few_tokens tokens found in let same = length-map (tokens_for found tokens) (announcement (putting own v)) in omega (arith, few, same))

pub kept_few : (own : Id) (i : ℕ) (jobs : List Job) (ks : List Seeker) → AllByRecursion (λ (k : Seeker). k.lookup.book.setting.k < 256) ks → length (follows_kept own i jobs ks) ≤ length ks * 256
kept_few own i [] ks h = omega arith
kept_few own i (j ∷ jobs) [] h = omega arith
kept_few own i (j ∷ jobs) (k ∷ ks) h =
    let found = result_of k.lookup.book.setting k.lookup.book.journal in
    let owed = owed_of own j k in
    let small = h.0 in
    let one = owed_few own j found k.gathered.tokens in
    let few = few_found k.lookup.book.setting k.lookup.book.journal in
    let same = length-map owed (by i) in
    let both = length-append (map (by i) owed) (follows_kept own (suc i) jobs ks) in
    let more = kept_few own (suc i) jobs ks h.1 in
    omega (arith, small, one, few, same, both, more)
