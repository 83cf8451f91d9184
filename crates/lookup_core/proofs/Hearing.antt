-- What the book is told of a reply.
use Rattle.std.proofs.Common.{◌≡◌, ◌≤◌, List, map, length, take, Option, inl, refl, ap, ◌∙◌, arith}
use Rattle.std.proofs.lemmas.List.{length-map, length-take}
use Rattle.kad_base.specs.declared.types.Contact.{Contact}
use Rattle.kad_base.specs.declared.types.Report.{Report}
use Rattle.kad_base.specs.declared.types.Family.{Family}
use Rattle.kad_base.specs.declared.types.Family.TheVariants.{Four, Six}
use Rattle.kad_base.specs.declared.types.Policy.{Policy}
use Rattle.kad_base.specs.declared.types.Policy.TheVariants.{Plain, Puzzled}
use Rattle.kad_base.specs.Limits.{max_reports}
use Rattle.kad_krpc.specs.declared.answer.AnswerView.{AnswerView}
use Rattle.kad_krpc.specs.declared.message.Answer.{Answer}
use Rattle.kad_krpc.specs.Views.{answer_seen}
use Rattle.claim_book.specs.declared.types.Entry.TheVariants.{Heard}
use Rattle.claim_book.specs.Calls.{asker}
use Rattle.claim_book.specs.State.{BookState, added}
use Rattle.lookup_core.specs.declared.on_reply.Taken.TheVariants as taken
use Rattle.lookup_core.specs.declared.quest.Quest.{Quest}
use Rattle.lookup_core.specs.Reply as reply
use Rattle.lookup_core.specs.Quest.{bare, part_of, reports_by, reports_of}
use Rattle.lookup_core.specs.LookupSteps.{HearsReply}

few_contacts : (part : Option (List Contact)) → length (map bare (take max_reports (part_of part))) ≤ max_reports
few_contacts part = (let a = length-map (take max_reports (part_of part)) bare in let b = length-take max_reports (part_of part) in omega (arith, a, b))

few_proved : (part : Option (List Report)) → length (take max_reports (part_of part)) ≤ max_reports
few_proved part = (let b = length-take max_reports (part_of part) in omega (arith, b))

few_by : (family : Family) (policy : Policy) (answer : Answer) → length (reports_by family policy answer) ≤ max_reports
few_by Four Plain answer = few_contacts answer.nodes
few_by Four (Puzzled c1 c2) answer = few_proved answer.snodes
few_by Six Plain answer = few_contacts answer.nodes6
few_by Six (Puzzled c1 c2) answer = few_proved answer.snodes6

-- an answer gives few reports
pub few_reports : (quest : Quest) (answer : Answer) → length (reports_of quest answer) ≤ max_reports
few_reports quest answer = few_by quest.family quest.policy answer

-- an answer in the contact's own name
pub own_heard : (quest : Quest) (c : Contact) (view : AnswerView) (reports : List Report) (old new : BookState) → view.id ≡ c.id → reports ≡ reports_of quest (answer_seen view) → new ≡ added old (Heard (asker c old.journal) c reports)
    → HearsReply quest c (reply.Answer (answer_seen view)) old new (taken.Heard (record { contact = c; answer = view }))
own_heard quest c view reports old new own is after = record {
  hears = record {
    entry = Heard (asker c old.journal) c (reports_of quest (answer_seen view));
    gives = inl (own, refl);
    after = after ∙ ap (λ (r : List Report). added old (Heard (asker c old.journal) c r)) is;
  };
  hears_in = inl (own, refl);
  taken = λ e. absurd cc;
}
