-- The lookups are seated, and all passes are put back.
use Rattle.std.proofs.Common.{◌≡◌, ℕ, suc, ◌+◌, List, [], ◌∷◌, ◌++◌, length, Option, refl, sym, ap, subst, ◌∙◌, arith}
use Rattle.std.specs.Prelude.{map, reverse, take, drop}
use Rattle.std.specs.List.{AllByRecursion, AllZip, range_with_len}
use Rattle.std.proofs.lemmas.List.{length-map, length-reverse, map-append, reverse-append}
use Rattle.std.proofs.lemmas.List.Elements.{All-nil, All-cons, All-same, All-from_recursion}
use Rattle.std.proofs.Math.Seq.{take-append_seam}
use Rattle.kad_base.specs.declared.types.Event.{Event}
use Rattle.kad_base.specs.declared.types.Event.TheVariants.{Now}
use Rattle.kad_base.specs.Outside.{Grows}
use Rattle.id_puzzles.specs.Drawn.{WordsState}
use Rattle.turn_book.specs.Turns.{TurnState, fresh}
use Rattle.turn_book.proofs.Ended.{all_in_row}
use Rattle.contact_table.specs.TableState.{TableState}
use Rattle.node_serve.specs.declared.setting.ServeSetting.{ServeSetting}
use Rattle.node_serve.specs.Lasting.{end_of}
use Rattle.serve_crew.specs.Hands.{Hands, SameHands, TablePass, PeersPass, ItemsPass}
use Rattle.serve_crew.specs.Opening.{HaveAll, HaveRoles}
use Rattle.serve_crew.specs.declared.turns.Turns.{Turns}
use Rattle.serve_crew.specs.declared.turns.Rows.{Rows}
use Rattle.serve_crew.specs.declared.desk.Desk.{Desk}
use Rattle.lookup_crowd.specs.declared.seeker.Seeker.{Seeker}
use Rattle.lookup_crowd.specs.inner.Crowd.{stand}
use Rattle.lookup_crowd.specs.inner.ManySteps.{IsOfDesk, IsSeated, IsRunOut}
use Rattle.lookup_crowd.specs.inner.Going.{SameSeats}
use Rattle.lookup_crowd.proofs.Gone.{seated_still}
use Rattle.lookup_crowd.proofs.Zips.{zip_length, zip_weaker}
use Rattle.look_many.specs.declared.finish.Done.{Done}
use Rattle.look_many.specs.declared.found.ManySetting.{ManySetting}
use Rattle.look_many.specs.declared.found.One.{One}
use Rattle.look_many.specs.declared.job.Job.{Job}
use Rattle.look_many.specs.inner.Seats.{IsSeekerFor, IsOverBook, IsDone, IsHanded, IsOutcome, done_of, RolesFrom, AreBack, IsAlone, new_host}
use Rattle.look_many.specs.inner.Ends.{Task, Starts}
use Rattle.look_many.proofs.Starting.{seated_at, roles_at}

-- ---- where they begin

-- the lookups that were seated, seen through a slice of their list
pub record Seated (server : ServeSetting) (setting : ManySetting) (T : TurnState TableState) (jobs : List Job) (vs : List Seeker) : Type 0 where
  pub seekers : AllZip (IsSeekerFor server setting T.start) jobs vs
  pub count : length vs ≡ length jobs
  pub passes : map (λ (k : Seeker). k.pass) vs ≡ map (fresh T.id) (range_with_len 1 (length jobs))
  pub own : AllByRecursion (IsSeated T) vs
  pub roles : RolesFrom 1 vs

pub seated_through : (server : ServeSetting) (setting : ManySetting) (T : TurnState TableState) (jobs : List Job) (ks vs : List Seeker) → vs ≡ ks → AllZip (IsSeekerFor server setting T.start) jobs ks → map (λ (k : Seeker). k.pass) ks ≡ map (fresh T.id) (range_with_len 1 (length jobs)) → Seated server setting T jobs vs
seated_through server setting T jobs ks vs is seekers passes =
    let seen : AllZip (IsSeekerFor server setting T.start) jobs vs = subst (AllZip (IsSeekerFor server setting T.start) jobs) (sym is) seekers in
    let count = zip_length (IsSeekerFor server setting T.start) jobs vs seen in
    let own : map (λ (k : Seeker). k.pass) vs ≡ map (fresh T.id) (range_with_len 1 (length jobs)) = ap (map (λ (k : Seeker). k.pass)) is ∙ passes in
    let all : map (λ (k : Seeker). k.pass) vs ≡ map (fresh T.id) (range_with_len 1 (length vs)) = own ∙ ap (λ m. map (fresh T.id) (range_with_len 1 m)) (sym count) in
    record { seekers = seen; count = count; passes = own; own = seated_at T 1 vs all; roles = roles_at T 1 vs all }

pub starts_at : (k : Task) (turns : Turns) (words : WordsState) (told told' : Option (List Event)) (vs : List Seeker) (host : Hands) (moment : ℕ) (end : Option ℕ) → Seated k.server k.setting turns.table k.jobs vs → host ≡ new_host turns → end ≡ end_of moment k.lasting.minutes → Grows told told' (λ events. events ≡ Now moment ∷ [])
    → Starts k turns words told (stand vs (record { moment = moment; receives = 0; foreign = 0; left = k.lasting.receives; end = end; received = 0; replied = 0; unsaid = 0 }) words host told')
starts_at k turns words told told' vs host moment end s is_host is_end now_told = record {
  seekers = s.seekers;
  passes = s.passes;
  host = is_host;
  progress = ap (λ e. record { moment = moment; receives = 0; foreign = 0; left = k.lasting.receives; end = e; received = 0; replied = 0; unsaid = 0 }) is_end;
  words_are = refl;
  now_told = now_told;
}

-- the node that serves calls in the role of the driver, and goes on to
pub of_desk : (desk : Desk) (host host' : Hands) → host ≡ new_host desk.turns.now → SameHands host host' → IsOfDesk desk host'
of_desk desk host host' is same = record {
  driver = same.table.role ∙ ap (λ (h : Hands). h.table.role) is;
  table = same.table.turn ∙ ap (λ (h : Hands). h.table.turn) is;
  peers = same.peers.turn ∙ ap (λ (h : Hands). h.peers.turn) is;
  items = same.items.turn ∙ ap (λ (h : Hands). h.items.turn) is;
}

pub alone : (desk : Desk) (host host' : Hands) → host ≡ new_host desk.turns.now → SameHands host host' → IsAlone host'
alone desk host host' is same = record {
  peers = same.peers.role ∙ ap (λ (h : Hands). h.peers.role) is;
  items = same.items.role ∙ ap (λ (h : Hands). h.items.role) is;
}

-- ---- where they end

roles_still : (r : ℕ) (ks ls : List Seeker) → RolesFrom r ks → SameSeats ks ls → RolesFrom r ls
roles_still r [] [] h s = tt
roles_still r [] (l ∷ ls) h s = absurd s
roles_still r (k ∷ ks) [] h s = absurd s
roles_still r (k ∷ ks) (l ∷ ls) h s = (s.0.role ∙ h.0, roles_still (suc r) ks ls h.1 s.1)

-- what was written through a slice of the whole list
written : (n : ℕ) (xs ys : List Seeker) → n ≡ length ys → length ys ≡ length xs → take n (ys ++ drop (length ys) xs) ≡ ys
written n xs ys is len = ap (λ k. take k (ys ++ drop (length ys) xs)) is ∙ take-append_seam ys (drop (length ys) xs)

-- and so the lookups, where they ended: they are those of the slice, and have the passes that they were given
pub record Returned (T : TurnState TableState) (jobs : List Job) (ls xs : List Seeker) : Type 0 where
  pub are : xs ≡ ls
  pub count : length xs ≡ length jobs
  pub own : AllByRecursion (IsSeated T) xs
  pub roles : RolesFrom 1 xs

pub returned_through : (server : ServeSetting) (setting : ManySetting) (T : TurnState TableState) (jobs : List Job) (n : ℕ) (ks vs ls : List Seeker) → Seated server setting T jobs vs → vs ≡ ks → n ≡ length ks → length ls ≡ length vs → SameSeats vs ls → Returned T jobs ls (take n (ls ++ drop (length ls) ks))
returned_through server setting T jobs n ks vs ls s is room len seats =
    let back : take n (ls ++ drop (length ls) ks) ≡ ls = written n ks ls (room ∙ ap length (sym is) ∙ sym len) (len ∙ ap length is) in
    record {
      are = back;
      count = ap length back ∙ len ∙ s.count;
      own = subst (AllByRecursion (IsSeated T)) (sym back) (seated_still T vs ls s.own seats);
      roles = subst (RolesFrom 1) (sym back) (roles_still 1 vs ls s.roles seats);
    }

-- ---- the passes are put back

module _ (desk : Desk) (ls : List Seeker) (host : Hands) (own : IsOfDesk desk host) (rows : Rows) (table_is : rows.table.passes ≡ host.table ∷ map (λ (k : Seeker). k.pass) (reverse ls)) (peers_is : rows.peers.passes ≡ host.peers ∷ []) (items_is : rows.items.passes ≡ host.items ∷ []) where
  pub are_back : IsAlone host → RolesFrom 1 ls → AreBack rows host ls
  are_back a roles = record { table = table_is; peers = peers_is; items = items_is; driver = own.driver; driver_peers = a.peers; driver_items = a.items; roles = roles }

  pub have_all : AllByRecursion (IsSeated desk.turns.now.table) ls → HaveRoles (length ls + 1) 1 desk.turns.now → HaveAll desk.turns.now rows
  have_all seated roles =
      let T = desk.turns.now.table in
      let many = roles.table in
      let own_table : TablePass → Type 0 = λ p. p.turn ≡ T.id in
      let own_peers : PeersPass → Type 0 = λ p. p.turn ≡ desk.turns.now.peers.id in
      let own_items : ItemsPass → Type 0 = λ p. p.turn ≡ desk.turns.now.items.id in
      record {
        table = record {
          count = (let l = ap length table_is in let m = length-map (reverse ls) (λ (k : Seeker). k.pass) in let r = length-reverse ls in omega (arith, l, m, r, many));
          own = All-same own_table rows.table.passes (host.table ∷ map (λ (k : Seeker). k.pass) (reverse ls)) table_is
              (All-cons own_table host.table (map (λ (k : Seeker). k.pass) (reverse ls)) own.table (all_in_row (λ (k : Seeker). k.pass) ls own_table (All-from_recursion (IsSeated T) ls seated)));
        };
        peers = record { count = ap length peers_is ∙ sym roles.peers; own = All-same own_peers rows.peers.passes (host.peers ∷ []) peers_is (All-cons own_peers host.peers [] own.peers (All-nil own_peers)) };
        items = record { count = ap length items_is ∙ sym roles.items; own = All-same own_items rows.items.passes (host.items ∷ []) items_is (All-cons own_items host.items [] own.items (All-nil own_items)) };
      }

-- ---- what is left of them

all_turned : (ls : List Seeker) → reverse (map done_of (reverse ls)) ≡ map done_of ls
all_turned [] = refl
all_turned (k ∷ ls) =
    ap (λ l. reverse (map done_of l)) (reverse-append (k ∷ []) ls)
    ∙ ap reverse (map-append done_of (reverse ls) (k ∷ []))
    ∙ reverse-append (map done_of (reverse ls)) (done_of k ∷ [])
    ∙ ap (λ l. done_of k ∷ l) (all_turned ls)

over_all : (ls : List Seeker) → AllByRecursion IsRunOut ls → AllByRecursion (λ (d : Done). IsOverBook d.book) (map done_of ls)
over_all [] h = tt
over_all (k ∷ ls) h = (h.0.run_out, over_all ls h.1)

pub all_over : (done : List Done) (ls : List Seeker) → done ≡ map done_of (reverse ls) → AllByRecursion IsRunOut ls → AllByRecursion (λ (d : Done). IsOverBook d.book) (reverse done)
all_over done ls is h = subst (AllByRecursion (λ (d : Done). IsOverBook d.book)) (sym (ap reverse is ∙ all_turned ls)) (over_all ls h)

-- what each found, and what it gathered
outcomes_of : (ls : List Seeker) (ones : List One) → AllZip IsOutcome (map done_of ls) ones → AllZip (λ (k : Seeker) (one : One). IsOutcome (done_of k) one) ls ones
outcomes_of [] [] h = tt
outcomes_of [] (o ∷ os) h = absurd h
outcomes_of (k ∷ ls) [] h = absurd h
outcomes_of (k ∷ ls) (o ∷ os) h = (h.0, outcomes_of ls os h.1)

all_outcomes : (done : List Done) (ls : List Seeker) (ones : List One) → done ≡ map done_of (reverse ls) → AllZip IsOutcome (reverse done) ones → AllZip (λ (k : Seeker) (one : One). IsOutcome (done_of k) one) ls ones
all_outcomes done ls ones is h = outcomes_of ls ones (subst (λ l. AllZip IsOutcome l ones) (ap reverse is ∙ all_turned ls) h)

pub all_done : (done : List Done) (ls : List Seeker) (ones : List One) → done ≡ map done_of (reverse ls) → AllZip IsOutcome (reverse done) ones → AllZip (λ (k : Seeker) (one : One). IsDone k.lookup.book one) ls ones
all_done done ls ones is h = zip_weaker (λ (k : Seeker) (one : One). IsOutcome (done_of k) one) (λ (k : Seeker) (one : One). IsDone k.lookup.book one) (λ k one x. x.found) ls ones (all_outcomes done ls ones is h)

pub all_handed : (done : List Done) (ls : List Seeker) (ones : List One) → done ≡ map done_of (reverse ls) → AllZip IsOutcome (reverse done) ones → AllZip (λ (k : Seeker) (one : One). IsHanded k.gathered one) ls ones
all_handed done ls ones is h = zip_weaker (λ (k : Seeker) (one : One). IsOutcome (done_of k) one) (λ (k : Seeker) (one : One). IsHanded k.gathered one) (λ k one x. x.handed) ls ones (all_outcomes done ls ones is h)
