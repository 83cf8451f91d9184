-- A node that several workers serve, from the first look at the link's clock to its end.
use Rattle.std.proofs.Common.{◌≡◌, ℕ, List, [], ◌∷◌, ◌++◌, Option, inl, refl, sym, ap, subst, ◌∙◌, None}
use Rattle.std.proofs.lemmas.List.{append-nil}
use Rattle.kad_base.specs.declared.types.Event.{Event}
use Rattle.kad_base.specs.declared.types.Event.TheVariants.{Now}
use Rattle.kad_base.specs.declared.types.Id.{Id}
use Rattle.kad_base.specs.declared.types.Report.{Report}
use Rattle.kad_base.specs.Outside.{Grows, Happens}
use Rattle.kad_base.proofs.Grown.{grows_then, grows_weaker}
use Rattle.contact_table.specs.TableState.{TableState}
use Rattle.node_tokens.specs.Tokens.{TokensState, tokens_by}
use Rattle.node_serve.specs.declared.lasting.Lasting.{Lasting}
use Rattle.node_serve.specs.declared.service.ServeFault.{ServeFault}
use Rattle.node_serve.specs.declared.service.ServeFault.TheVariants.{NoMemory}
use Rattle.node_serve.specs.declared.setting.ServeSetting.{ServeSetting}
use Rattle.serve_batches.specs.ManyServed.{ManyServed, ManyBegun}
use Rattle.kad_words.specs.declared.command.ServeWords.{ServeWords}
use Rattle.command_base.specs.Called.{Called}
use Rattle.serve_commands.specs.Served.{setting_of, lasting_of, Served, ServedSome, ServedAtOnce, ServedSomeAtOnce, HasServed, HasServedSome, alone, at_once, some_alone, some_at_once}
use Rattle.command_base.specs.Shown.{Shown}
use Rattle.command_base.specs.Started.{own_of}

-- what happens behind a look at the clock
happens_then : (a b c : Option (List Event)) (began : ℕ) (P Q : List Event → Type 0) → Grows a b (λ es. es ≡ Now began ∷ []) → Happens b c P → ((es : List Event) → P es → Q (Now began ∷ es)) → Happens a c Q
happens_then a b c began P Q g h f = record {
  events = Now began ∷ h.events;
  told_are = grows_then a b c _ _ _ g h.told_are (λ es fs e is. ap (λ (l : List Event). l ++ fs) e ∙ ap (λ (l : List Event). Now began ∷ l) is);
  holds = f h.events h.holds;
}

abbrev setting_by : ServeWords → List Report → Id → TokensState → ServeSetting
setting_by service proofs own tokens = record { own = own; k = service.k; policy = service.policy; proofs = proofs; tokens = tokens; sealed = service.sealed; proof = None }

-- what the workers answer by, as the code has it
pub setting_is : (service : ServeWords) (random : List ℕ) (proofs : List Report) (own : Id) (tokens : TokensState) → own ≡ own_of service.own random → tokens ≡ tokens_by random 0 service.per_address
    → record { own = own; k = service.k; policy = service.policy; proofs = proofs; tokens = tokens; sealed = service.sealed; proof = None } ≡ setting_of service random proofs
setting_is service random proofs own tokens mine drawn =
    ap (λ (id : Id). setting_by service proofs id tokens) mine ∙ ap (λ (t : TokensState). setting_by service proofs (own_of service.own random) t) drawn

pub served_at_once : (service : ServeWords) (called : Called) (table after : TableState) (proofs : List Report) (setting : ServeSetting) (lasting : Lasting) (began received replied : ℕ) (a b c : Option (List Event))
    → setting ≡ setting_of service called.random proofs → lasting ≡ lasting_of service → Grows a b (λ es. es ≡ Now began ∷ [])
    → Happens b c (ManyServed called.tags setting service.workers began lasting table after received replied)
    → Happens a c (ServedAtOnce service called table after proofs received replied)
served_at_once service called table after proofs setting lasting began received replied a b c is lasts g h =
    happens_then a b c began _ _ g h (λ es p. record {
      began = began;
      then = es;
      whole = refl;
      serves = subst (λ (l : Lasting). ManyServed called.tags (setting_of service called.random proofs) service.workers began l table after received replied es) lasts
          (subst (λ (s : ServeSetting). ManyServed called.tags s service.workers began lasting table after received replied es) is p);
    })

pub begun_at_once : (service : ServeWords) (called : Called) (table after : TableState) (proofs : List Report) (setting : ServeSetting) (lasting : Lasting) (began : ℕ) (fault : ServeFault) (a b c : Option (List Event))
    → setting ≡ setting_of service called.random proofs → lasting ≡ lasting_of service → Grows a b (λ es. es ≡ Now began ∷ [])
    → Happens b c (ManyBegun called.tags setting service.workers began lasting table after fault)
    → Happens a c (ServedSomeAtOnce service called table after proofs fault)
begun_at_once service called table after proofs setting lasting began fault a b c is lasts g h =
    happens_then a b c began _ _ g h (λ es p. record {
      began = began;
      then = es;
      whole = refl;
      serves = subst (λ (l : Lasting). ManyBegun called.tags (setting_of service called.random proofs) service.workers began l table after fault es) lasts
          (subst (λ (s : ServeSetting). ManyBegun called.tags s service.workers began lasting table after fault es) is p);
    })

-- ---- all that was served is some

module _ (service : ServeWords) (called : Called) (link : Shown Event) (table after : TableState) (proofs : List Report) (received replied : ℕ) where
  alone_some : Grows link.before link.after (Served service called table after proofs received replied) → Grows link.before link.after (ServedSome service called table after proofs)
  alone_some g = grows_weaker link.before link.after _ _ g (λ es s. record {
    began = s.began;
    then = s.then;
    whole = s.whole;
    serves = record { made = s.serves.made; few = s.serves.few; front = s.then; end = s.serves.end; serves = s.serves.serves; table_is = s.serves.table_is; last = []; whole = sym (append-nil s.then); ended = inl refl };
  })

  many_some : (setting : ServeSetting) (began : ℕ) (es : List Event) → ManyServed called.tags setting service.workers began (lasting_of service) table after received replied es
      → ManyBegun called.tags setting service.workers began (lasting_of service) table after NoMemory es
  many_some setting began es m = record {
    ran = m.ran;
    batches = m.batches;
    front = es;
    left = m.left;
    moment = m.end;
    are = m.are;
    done = m.done;
    each = λ w low. (let are = m.each w low in record { tables = ([], are.tables ∙ sym (append-nil _)); stores = ([], are.stores ∙ sym (append-nil _)); shelves = ([], are.shelves ∙ sym (append-nil _)) });
    last = [];
    whole = sym (append-nil es);
    ended = inl refl;
  }

  pub all_is_some : HasServed service called link table after proofs received replied → HasServedSome service called link table proofs
  all_is_some (alone one g) = some_alone one after (alone_some g)
  all_is_some (at_once several h) = some_at_once several after NoMemory (record {
    events = h.events;
    told_are = h.told_are;
    holds = (let s = h.holds in record { began = s.began; then = s.then; whole = s.whole; serves = many_some (setting_of service called.random proofs) s.began s.then s.serves });
  })
