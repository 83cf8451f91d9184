use Rattle.std.proofs.Common.{ℕ, ◌+◌, ◌<◌, List, [], ◌∷◌, ◌++◌, None, length, take, get_or, subst, ◌∙◌, arith}
use Rattle.std.specs.List.{All}
use Rattle.std.proofs.lemmas.List.{take_more, take_all}
use Rattle.std.proofs.lemmas.List.Elements.{All-weaker, All-same, All-append, All-cons, All-nil}
use Rattle.kad_base.specs.declared.types.Ip.TheVariants.{V4}
use Rattle.kad_base.specs.declared.types.Report.{Report}
use Rattle.claim_book.specs.declared.types.Setting.{Setting}
use Rattle.claim_book.specs.declared.types.Thing.TheVariants.{Told}
use Rattle.claim_book.specs.declared.claim_map.Claims.{Claims}
use Rattle.claim_book.specs.Claims.{IsKnown, Keeps}
use Rattle.claim_book.proofs.Mapped.{known_on, has_kept}
use Rattle.claim_book.proofs.claim_map.learn_each.Goals as goal

keeps_then : (a b c : Claims) → Keeps a b → Keeps b c → Keeps a c
keeps_then a b c f g = record {
  same_claims = λ x. g.same_claims x ∙ f.same_claims x;
  same_crowds = λ p h. g.same_crowds p h ∙ f.same_crowds p h;
  same_spots = λ p x. g.same_spots p x ∙ f.same_spots p x;
  contacts = λ d h. g.contacts d (f.contacts d h);
  crowds = λ k h. g.crowds k (f.crowds k h);
  spots = λ k h. g.spots k (f.spots k h);
}

abbrev Knows : Setting → ℕ → Claims → Report → Type 0
Knows s p m r = IsKnown s p m (Told r)

known_more : (s : Setting) (p : ℕ) (m n : Claims) (rs : List Report) (i : ℕ) (x : Report) → i < length rs → Keeps m n → All (Knows s p m) (take i rs) → Knows s p n (get_or rs i x) → All (Knows s p n) (take (i + 1) rs)
known_more s p m n rs i x lt kept all one =
    All-same (Knows s p n) (take (i + 1) rs) (take i rs ++ get_or rs i x ∷ []) (take_more rs i x lt)
    (All-append (Knows s p n) (take i rs) (get_or rs i x ∷ []) (All-weaker (Knows s p m) (Knows s p n) (λ r h. known_on s p m n (has_kept s m n kept) (Told r) h) (take i rs) all)
    (All-cons (Knows s p n) (get_or rs i x) [] one (All-nil (Knows s p n))))

abbrev nothing : Report
nothing = record { contact = record { id = record { 0 = [] }; addr = record { ip = V4 []; port = 0 } }; proof = None }

pub loop-report-preserved : goal.loop-report-preserved
loop-report-preserved c = record {
  kept = keeps_then c.args.claims.now c.loop-report.claims c.learn_report.new.claims c.loop-report.invariant.kept c.in_ok-place.ensures.kept;
  known = known_more c.args.setting.now c.args.path c.loop-report.claims c.learn_report.new.claims c.args.reports.now c.loop-report.report-index nothing c.loop-report-test.true c.in_ok-place.ensures.kept c.loop-report.invariant.known c.in_ok-place.ensures.known;
}

pub returns-clause-known : goal.returns-clause-known
returns-clause-known c =
    subst (All (Knows c.args.setting.now c.args.path c.loop-report.claims)) (take_all c.loop-report.report-index c.args.reports.now (let z = c.loop-report-test.false in omega arith)) c.loop-report.invariant.known
