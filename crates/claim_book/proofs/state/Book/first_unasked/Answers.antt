use Rattle.std.proofs.Common.{◌<◌, List, take, not, sym, subst, ap, ◌∙◌}
use Rattle.std.specs.Prelude.{filter, find}
use Rattle.std.specs.List.Sorted.{IsStrictlySortedBy}
use Rattle.kad_base.specs.declared.types.Contact.{Contact}
use Rattle.kad_base.specs.Contacts.{among}
use Rattle.kad_distance.specs.Order.{closeness}
use Rattle.claim_book.specs.State.{BookState}
use Rattle.claim_book.specs.Journal.{asked, first_unasked}
use Rattle.claim_book.proofs.Pathed.{near_rises}
use Rattle.claim_book.proofs.Reading.{fresh_of, first_of}
use Rattle.claim_book.proofs.Whole.{path_here}
use Rattle.claim_book.proofs.state.Book.first_unasked.Goals as goal

pub first_fresh-requires : goal.first_fresh-requires
first_fresh-requires c =
    let s = c.self.inside.setting in
    let J = c.self.inside.journal.items in
    let x = path_here s J _ _ _ _ _ c.args.path c.index-here.result.now c.self.invariant (subst (λ (b : BookState). c.args.path < b.setting.paths) (sym c.self.view_is) c.requires) c.index-here.ensures in
    subst (IsStrictlySortedBy (closeness s.target)) (sym c.as_slice.ensures.value) (near_rises s J c.args.path c.index-here.result.now x)

pub returns : goal.returns
returns c =
    let s = c.self.inside.setting in
    let J = c.self.inside.journal.items in
    let p = c.args.path in
    let x = path_here s J _ _ _ _ _ p c.index-here.result.now c.self.invariant (subst (λ (b : BookState). p < b.setting.paths) (sym c.self.view_is) c.requires) c.index-here.ensures in
    let T = λ (d : Contact). not (among (asked J) d) in
    let same = c.as_slice-2.ensures.value ∙ fresh_of s J p c.index-here.result.now x ∙ ap (filter T) (sym c.as_slice.ensures.value) in
    c.first_fresh.ensures T same ∙ ap (λ (l : List Contact). find T (take s.k l)) c.as_slice.ensures.value ∙ first_of s J p c.index-here.result.now x
    ∙ ap (λ (b : BookState). first_unasked b.setting p b.journal) c.self.view_is
