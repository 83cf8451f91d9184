use Rattle.std.proofs.Common.{List, refl, sym, subst, arith}
use Rattle.claim_book.specs.declared.types.Entry.{Entry}
use Rattle.claim_book.specs.Legal.{Legal}
use Rattle.claim_book.specs.Claims.{IsMap}
use Rattle.claim_book.specs.Index.{IsPaths}
use Rattle.claim_book.specs.Calls.{Counted}
use Rattle.claim_book.proofs.Seeding.{book_new, legal_seeded}
use Rattle.claim_book.proofs.Mapped.{map_new}
use Rattle.claim_book.proofs.Pathed.{paths_new}
use Rattle.claim_book.proofs.Dealt.{dealt_counts}
use Rattle.claim_book.proofs.state.Book.new.Goals as goal

pub seed-requires-clause-none_claimed : goal.seed-requires-clause-none_claimed
seed-requires-clause-none_claimed c = map_new c.args.setting c.no_claims-claims.result c.no_claims-claims.ensures.contacts c.no_claims-claims.ensures.crowds c.no_claims-claims.ensures.spots

pub seed-requires-clause-none_kept : goal.seed-requires-clause-none_kept
seed-requires-clause-none_kept c = paths_new c.args.setting c.in_ok-paths.paths.items c.in_ok-paths.ensures.len c.in_ok-paths.ensures.empty

pub invariant_of-result : goal.invariant_of-result
invariant_of-result c =
    let s = c.args.setting in
    let e = c.in_ok-seed.ensures in
    record {
      book = book_new s c.args.seeds.now _ _ _ e.items c.requires.some_path (omega arith) (omega arith) c.requires.few c.requires.in_order c.requires.usable refl (omega (arith, e.room, c.in_ok-journal.ensures.exact));
      map = subst (λ (j : List Entry). IsMap s j c.seed.new.claims) (sym e.items) e.claims;
      paths = subst (λ (j : List Entry). IsPaths s j c.seed.new.paths.items) (sym e.items) e.paths;
      counted = subst (λ (j : List Entry). Counted j (record { asked = 0; failed = 0; turned = 0 })) (sym e.items) (dealt_counts s c.args.seeds.now (record { asked = 0; failed = 0; turned = 0 }) refl refl refl);
    }

pub returns-clause-legal : goal.returns-clause-legal
returns-clause-legal c = subst (Legal c.args.setting) (sym c.in_ok-seed.ensures.items) (legal_seeded c.args.setting c.args.seeds.now c.requires.some_path c.requires.few c.requires.in_order c.requires.usable)
