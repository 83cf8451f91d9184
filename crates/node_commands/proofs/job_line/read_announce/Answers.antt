use Rattle.std.proofs.Common.{◌≡◌, ℕ, List, ◌++◌, Some, None, ap, ◌∙◌, lit<, rules}
use Rattle.std.specs.Prelude.{codes}
use Rattle.std.proofs.lemmas.Bool.Decides.{Decides-eqb}
use Rattle.std.proofs.lemmas.Slice.Eq.{strip_prefix_is}
use Rattle.std.proofs.lemmas.Str.Pattern.{split_parts}
use Rattle.node_commands.proofs.JobForms.{announce_cut, announce_text, is_announce}
use Rattle.node_commands.proofs.job_line.read_announce.Goals as goal

pub returns-in_default : goal.returns-in_default
returns-in_default c =
    announce_text c.args.line.now c.in_ok-rest.rest.now (strip_prefix_is Decides-eqb c.args.line.now (codes "announce ") (Some c.in_ok-rest.rest) c.in_ok-rest.ensures.cases) c.in_default.ensures.cases.0

pub returns-in_err-key : goal.returns-in_err-key
returns-in_err-key c = rw c.from_residual-in_err-key.ensures (λ key port f.
    let line = strip_prefix_is Decides-eqb c.args.line.now (codes "announce ") (Some c.in_ok-rest.rest) c.in_ok-rest.ensures.cases in
    let same : c.in_ok-rest.rest.now ≡ c.in-Ok.text.now = search rules in
    announce_cut c.args.line.now c.in-Ok.text.now None key port c.in_err-key.ensures.cases (line ∙ ap (λ (l : List ℕ). codes "announce " ++ l) same) f)

pub returns-in_err-key-2 : goal.returns-in_err-key-2
returns-in_err-key-2 c = rw c.from_residual-in_err-key-2.ensures (λ key port f.
    let line = strip_prefix_is Decides-eqb c.args.line.now (codes "announce ") (Some c.in_ok-rest.rest) c.in_ok-rest.ensures.cases in
    let same : c.in_ok-rest.rest.now ≡ c.in-Ok.text.now = search rules in
    c.in_err-key-2.ensures key (announce_cut c.args.line.now c.in-Ok.text.now (Some (c.in_ok-key.key, c.in_ok-key.port)) key port c.in_ok-key.ensures.cases (line ∙ ap (λ (l : List ℕ). codes "announce " ++ l) same) f).0)

pub returns-in_err-port : goal.returns-in_err-port
returns-in_err-port c = rw c.from_residual-in_err-port.ensures (λ key port f.
    let line = strip_prefix_is Decides-eqb c.args.line.now (codes "announce ") (Some c.in_ok-rest.rest) c.in_ok-rest.ensures.cases in
    let same : c.in_ok-rest.rest.now ≡ c.in-Ok.text.now = search rules in
    c.in_err-port.ensures port (rw c.from.ensures (announce_cut c.args.line.now c.in-Ok.text.now (Some (c.in_ok-key.key, c.in_ok-key.port)) key port c.in_ok-key.ensures.cases (line ∙ ap (λ (l : List ℕ). codes "announce " ++ l) same) f).1))

pub returns : goal.returns
returns c =
    let line = strip_prefix_is Decides-eqb c.args.line.now (codes "announce ") (Some c.in_ok-rest.rest) c.in_ok-rest.ensures.cases in
    let same : c.in_ok-rest.rest.now ≡ c.in-Ok.text.now = search rules in
    let parts = split_parts 32 c.in-Ok.text.now (Some (c.in_ok-key.key, c.in_ok-key.port)) c.in_ok-key.ensures.cases (lit< tt) in
    is_announce c.args.line.now c.in-Ok.text.now c.in_ok-key.key.now c.in_ok-key.port.now _ _ (line ∙ ap (λ (l : List ℕ). codes "announce " ++ l) same) parts.0 c.in_ok-key-2.ensures (rw c.from.ensures at c.in_ok-port.ensures)
