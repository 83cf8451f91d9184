-- The texts of jobs, one after another.
use Rattle.std.proofs.Common.{◌≡◌, ℕ, ◌+◌, ◌<◌, ◌≤◌, List, [], ◌∷◌, ◌++◌, length, drop, get_or, refl, sym, ap, subst, ◌∙◌}
use Rattle.std.specs.Prelude.{codes, decimal}
use Rattle.std.specs.List.{AllZip}
use Rattle.hex.specs.Hex.{encode_lower}
use Rattle.kad_base.specs.declared.types.Id.{Id}
use Rattle.std.proofs.lemmas.List.{append-nil, append_assoc, drop_all, drop_more}
use Rattle.kad_base.specs.declared.types.Contact.{Contact}
use Rattle.contact_table.specs.TableState.{TableState}
use Rattle.claim_book.specs.Journal.{asked, failed}
use Rattle.claim_book.specs.Result.{result_of}
use Rattle.node_serve.specs.declared.setting.ServeSetting.{ServeSetting}
use Rattle.look_many.specs.ManyLooked.{IsFound, setting_for}
use Rattle.look_many.specs.declared.found.ManySetting.{ManySetting}
use Rattle.look_many.specs.declared.found.One.{One}
use Rattle.look_many.specs.Job.{target_of}
use Rattle.look_many.specs.declared.job.Job.{Job}
use Rattle.look_many.specs.declared.job.Job.TheVariants.{Announce}
use Rattle.node_commands.specs.JobTexts.{AreJobTexts, AreTextsOf, IsJobText, IsTextBy, IsTextOf, job_text}

-- what is left of the jobs and outcomes from a place on has these texts behind the output
pub Follows : List Job → List One → ℕ → List ℕ → Type 0
Follows jobs ones i output = (rest : List ℕ) → AreTextsOf (drop i jobs) (drop i ones) rest → AreTextsOf jobs ones (output ++ rest)

pub none_yet : (jobs : List Job) (ones : List One) → Follows jobs ones 0 []
unfolding Follows
none_yet jobs ones rest h = h

-- one more is printed
pub one_more : (jobs : List Job) (ones : List One) (i : ℕ) (output after text : List ℕ) (job : Job) (one : One) → i < length jobs → i < length ones → job ≡ get_or jobs i job → one ≡ get_or ones i one
    → Follows jobs ones i output → after ≡ output ++ text → IsTextOf job one text → Follows jobs ones (i + 1) after
unfolding Follows
one_more jobs ones i output after text job one lt within job_is one_is f is t rest h =
    let js : drop i jobs ≡ job ∷ drop (i + 1) jobs = drop_more jobs i job lt ∙ ap (λ (x : Job). x ∷ drop (i + 1) jobs) (sym job_is) in
    let os : drop i ones ≡ one ∷ drop (i + 1) ones = drop_more ones i one within ∙ ap (λ (x : One). x ∷ drop (i + 1) ones) (sym one_is) in
    let both : AreTextsOf (job ∷ drop (i + 1) jobs) (one ∷ drop (i + 1) ones) (text ++ rest) = (text, rest, t, h, refl) in
    let all : AreTextsOf (drop i jobs) (drop i ones) (text ++ rest) =
    subst (λ (l : List Job). AreTextsOf l (drop i ones) (text ++ rest)) (sym js) (subst (λ (l : List One). AreTextsOf (job ∷ drop (i + 1) jobs) l (text ++ rest)) (sym os) both) in
    subst (λ (l : List ℕ). AreTextsOf jobs ones l) (sym (ap (λ (l : List ℕ). l ++ rest) is ∙ append_assoc output text rest)) (f (text ++ rest) all)

-- all are printed
pub all_follow : (jobs : List Job) (ones : List One) (i : ℕ) (output : List ℕ) → length jobs ≤ i → Follows jobs ones i output → AreTextsOf jobs ones output
unfolding Follows
all_follow jobs ones i output le f =
    let none_ : drop i jobs ≡ [] = drop_all i jobs le in
    subst (λ (l : List ℕ). AreTextsOf jobs ones l) (append-nil output) (f [] (subst (λ (l : List Job). AreTextsOf l (drop i ones) []) (sym none_) refl))

-- ---- by the journals

module _ (server : ServeSetting) (setting : ManySetting) (table : TableState) where
  -- what the code has of an outcome is what its journal says
  by_journal : (job : Job) (one : One) (text : List ℕ) → IsFound server setting table job one → IsTextOf job one text → IsJobText server setting job one text
  by_journal job one text f t =
      let s = setting_for server setting job in
      let J = one.journal in
      subst (λ (n : ℕ). IsTextBy job one (result_of s J) (length (asked J)) (length (failed J)) n text) f.counted.turned
      (subst (λ (n : ℕ). IsTextBy job one (result_of s J) (length (asked J)) n one.counts.turned text) f.counted.failed
      (subst (λ (n : ℕ). IsTextBy job one (result_of s J) n one.counts.failed one.counts.turned text) f.counted.asked
      (subst (λ (l : List Contact). IsTextBy job one l one.counts.asked one.counts.failed one.counts.turned text) f.found t)))

  pub all_by_journal : (jobs : List Job) (ones : List One) (text : List ℕ) → AllZip (IsFound server setting table) jobs ones → AreTextsOf jobs ones text → AreJobTexts server setting jobs ones text
  all_by_journal [] ones text h t = t
  all_by_journal (job ∷ jobs) [] text h t = t
  all_by_journal (job ∷ jobs) (one ∷ ones) text h t = (t.0, t.1, by_journal job one t.0 h.0 t.2, all_by_journal jobs ones t.1 h.1 t.3, t.4)

-- ---- the line of an announcement, piece by piece

pub announce_pieces : (job : Job) (key : Id) (port : ℕ) (digits : List ℕ) → job ≡ Announce key port → digits ≡ encode_lower (target_of job).0
    → codes "announce " ++ (digits ++ (codes " " ++ decimal port)) ≡ job_text job
announce_pieces job key port digits is e =
    rw (e, is) (sym (append_assoc (codes "announce " ++ encode_lower key.0) (codes " ") (decimal port) ∙ append_assoc (codes "announce ") (encode_lower key.0) (codes " " ++ decimal port)))
