use Rattle.std.proofs.Common.{◌≡◌, ℕ, ◌<◌, ◌≤◌, ◌%◌, List, [], Bool, true, false, length, get_or, sym, ap, subst, ◌∙◌, arith, inl, inr}
use Rattle.std.proofs.lemmas.Bool.{cases_lt}
use Rattle.kad_base.specs.declared.types.Ip.TheVariants.{V4}
use Rattle.kad_base.specs.declared.types.Contact.{Contact}
use Rattle.claim_book.specs.declared.types.Setting.{Setting}
use Rattle.claim_book.specs.declared.claim_map.Claims.{Claims}
use Rattle.claim_book.specs.declared.types.Entry.{Entry}
use Rattle.kad_base.specs.Hosts.{host}
use Rattle.claim_book.specs.Crowded.{crowd}
use Rattle.claim_book.specs.Index.{IsPaths}
use Rattle.claim_book.specs.Claims.{shown_crowd, IsMap}
use Rattle.claim_book.proofs.Pathed.{path_at, has_place}
use Rattle.claim_book.proofs.Dealt.{Deals, IsFree, front, front_few, front_left, dealt_items, dealt_map, dealt_within, dealt_few, dealt_paths}
use Rattle.claim_book.proofs.starting.seed.Goals as goal

abbrev nobody : Contact
nobody = record { id = record { 0 = [] }; addr = record { ip = V4 []; port = 0 } }

clash : (b : Bool) → b ≡ false → b ≡ true → ⊥
clash b e f = absurd cc

-- what the map says of the seed's host is what the journal says
free_here : (s : Setting) (cs : List Contact) (i : ℕ) (c : Contact) (m : Claims) (b : Bool) → IsMap s (front s cs i) m → (((0 < s.per_address) × (s.per_address ≤ shown_crowd m (i % s.paths) (host c.addr))) → b ≡ true) → b ≡ false → IsFree s cs i c
free_here s cs i c m b x says out y =
    let is = x.counts y.0 (i % s.paths) (host c.addr) in
    let many = y.1 in
    clash b out (says (y.0, omega arith))

crowded_here : (s : Setting) (cs : List Contact) (i : ℕ) (c : Contact) (m : Claims) → IsMap s (front s cs i) m → 0 < s.per_address → s.per_address ≤ shown_crowd m (i % s.paths) (host c.addr) → s.per_address ≤ crowd (i % s.paths) (host c.addr) (front s cs i)
crowded_here s cs i c m x z many = (let is = x.counts z (i % s.paths) (host c.addr) in omega arith)

counts_free : (limit n : ℕ) (b : Bool) → (((0 < limit) × (limit ≤ n)) → b ≡ true) → b ≡ false → 0 < limit → n < limit
counts_free limit n b says out z = elim (cases_lt n limit) [ inl lt ↦ lt | inr ge ↦ absurd (clash b out (says (z, ge))) ]

pub mark_taken-requires : goal.mark_taken-requires
mark_taken-requires c =
    let s = c.args.setting.now in
    let m = c.loop-i.claims in
    record {
      known = c.in_ok-place.ensures.known;
      free = λ z. subst (λ n. n < s.per_address) (sym (c.in_ok-place.ensures.kept.same_crowds _ _)) (counts_free s.per_address _ c.is_crowded.result c.is_crowded.ensures.1 c.if-is_crowded.false z);
    }

pub add_one-requires : goal.add_one-requires
add_one-requires c =
    let s = c.args.setting.now in
    let cs = c.args.seeds.now in
    let i = c.loop-i.i in
    let d : Deals s cs i = record { some_path = c.requires.some_path; few = c.requires.few; small = c.requires.small; in_order = c.requires.in_order; usable = c.requires.usable; here = c.loop-i-test.true } in
    let lt = dealt_within s cs i c.loop-i.paths.items d c.loop-i.invariant.paths in
    let x = path_at s (front s cs i) c.loop-i.paths.items (i % s.paths) c.index_mut.result.now c.loop-i.invariant.paths lt c.index_mut.ensures.value in
    has_place s (front s cs i) (i % s.paths) c.index_mut.result.now x (dealt_few s cs i (i % s.paths) d)

pub put_seed-requires : goal.put_seed-requires
put_seed-requires c =
    let s = c.args.setting.now in
    let cs = c.args.seeds.now in
    let i = c.loop-i.i in
    let d : Deals s cs i = record { some_path = c.requires.some_path; few = c.requires.few; small = c.requires.small; in_order = c.requires.in_order; usable = c.requires.usable; here = c.loop-i-test.true } in
    let few = front_few s cs i d in
    grind (arith, ap length c.loop-i.invariant.items, few, c.loop-i.invariant.room, c.requires.room, c.loop-i-test.true)

pub loop-i-preserved-then-is_crowded : goal.loop-i-preserved-then-is_crowded
loop-i-preserved-then-is_crowded c =
    let s = c.args.setting.now in
    let cs = c.args.seeds.now in
    let i = c.loop-i.i in
    let d : Deals s cs i = record { some_path = c.requires.some_path; few = c.requires.few; small = c.requires.small; in_order = c.requires.in_order; usable = c.requires.usable; here = c.loop-i-test.true } in
    let says = c.is_crowded.ensures.0 c.if-is_crowded.true in
    let is = front_left s cs i nobody d says.0 (crowded_here s cs i (get_or cs i nobody) c.loop-i.claims c.loop-i.invariant.claims says.0 says.1) in
    record {
      items = c.loop-i.invariant.items ∙ sym is;
      room = c.loop-i.invariant.room;
      claims = subst (λ (J : List Entry). IsMap s J c.loop-i.claims) (sym is) c.loop-i.invariant.claims;
      paths = subst (λ (J : List Entry). IsPaths s J c.loop-i.paths.items) (sym is) c.loop-i.invariant.paths;
    }

pub loop-i-preserved : goal.loop-i-preserved
loop-i-preserved c =
    let s = c.args.setting.now in
    let cs = c.args.seeds.now in
    let i = c.loop-i.i in
    let d : Deals s cs i = record { some_path = c.requires.some_path; few = c.requires.few; small = c.requires.small; in_order = c.requires.in_order; usable = c.requires.usable; here = c.loop-i-test.true } in
    let free = free_here s cs i (get_or cs i nobody) c.loop-i.claims c.is_crowded.result c.loop-i.invariant.claims c.is_crowded.ensures.1 c.if-is_crowded.false in
    let e = c.add_one.ensures.gains in
    record {
      items = dealt_items s cs i nobody c.loop-i.journal.items c.put_seed.new.journal.items d free c.loop-i.invariant.items c.put_seed.ensures.items;
      room = (let a = c.put_seed.ensures.room in let b = c.loop-i.invariant.room in omega arith);
      claims = dealt_map s cs i nobody c.loop-i.claims c.make_place.new.claims c.mark_taken.new.claims d free c.loop-i.invariant.claims c.in_ok-place.ensures.kept c.mark_taken.ensures;
      paths = dealt_paths s cs i nobody c.loop-i.paths.items c.index_mut.result.now c.add_one.new.path d free c.loop-i.invariant.paths c.index_mut.ensures.value e.near e.near_room e.fresh e.fresh_room e.count e.opens c.add_one.ensures.queue;
    }
