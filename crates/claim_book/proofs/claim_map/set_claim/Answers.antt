use Rattle.std.proofs.Common.{refl}
use Rattle.indexmap.proofs.CallerLemmas.{updates-with_value_at}
use Rattle.claim_book.proofs.Keys.{key_equiv}
use Rattle.claim_book.proofs.claim_map.set_claim.Goals as goal

pub returns-in-Some : goal.returns-in-Some
returns-in-Some c = record {
  each = record {
    contacts = λ d. (updates-with_value_at c.args.claims.now.contacts c.args.place c.args.claim key_equiv c.pair_mut-old.ensures.unique c.args.contact c.in-Some.field-0 c.in-Some.ensures.there).0 d;
    crowds = refl;
    spots = refl;
  };
}
