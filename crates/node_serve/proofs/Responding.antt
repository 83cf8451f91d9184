-- The answer to a query, put together from its parts, whoever holds what it asks for.
use Rattle.std.proofs.Common.{◌≡◌, ℕ, List, [], ◌∷◌, ◌++◌, map, take, Result, Ok, Err, IfOk, refl, sym, ap, subst, ◌∙◌, append_assoc, append-nil}
use Rattle.std.specs.Prelude.{Option, Some, None, OnErr}
use Rattle.std.proofs.lemmas.List.{map-append}
use Rattle.std.proofs.lemmas.List.Elements.{All-nil, All-cons, All-append}
use Rattle.kad_base.specs.declared.types.Proof.{Proof}
use Rattle.kad_base.specs.declared.types.NoMemory.{NoMemory as Lacks}
use Rattle.kad_krpc.specs.declared.message.Ask.{Ask}
use Rattle.kad_krpc.specs.declared.message.Message.{Message}
use Rattle.kad_krpc.specs.Asking.{proof_of}
use Rattle.kad_krpc.specs.Views.{ask_seen}
use Rattle.contact_table.specs.declared.calls.TableCall.{TableCall}
use Rattle.contact_table.specs.declared.calls.TableReply.TheVariants.{NoMemory}
use Rattle.node_serve.specs.declared.asked.Asked.{Asked}
use Rattle.node_serve.specs.declared.composing.Gained.{Gained}
use Rattle.node_serve.specs.declared.planning.Wants.{Wants}
use Rattle.node_serve.specs.declared.setting.ServeSetting.{ServeSetting}
use Rattle.node_serve.specs.AnswerOf.{notify_by}
use Rattle.node_serve.specs.Calls.{Call, Did, on_table, of_table, Reply, HadMemory, call_of, reply_of, calls_for, calls_told, calls_of, answer_with}
use Rattle.node_serve.specs.Gains.{IsFor, MayFail, FailsBy, did_for, reply_gained, wants_of}
use Rattle.node_serve.specs.Holding.{Runs}
use Rattle.node_serve.specs.Responses.{RepliesTo, StopsAt, Ends, unasked, gathering, composing, telling, Gathers, Fails, Tells, TellsNot}
use Rattle.node_serve.specs.Sealing.{Tags, sent_form}
use Rattle.node_serve.proofs.Wanted.{wanted_calls, wanted_reply, did_calls, did_memory, gained_reply, fails_first}

pub runs_more : {S : Type 0} (does : S → Did → S → Type 0) (a b c : S) (xs ys : List Did) → Runs does a xs b → Runs does b ys c → Runs does a (xs ++ ys) c
runs_more does a b c [] ys x y = subst (λ m. Runs does m ys c) x y
runs_more does a b c (d ∷ xs) ys x y = (x.0, x.1, runs_more does x.0 b c xs ys x.2 y)

module _ (s : ServeSetting) (asked : Asked) (at : ℕ) where
  abbrev pub ask : Ask
  ask = ask_seen asked.ask

  abbrev pub wanted : Wants
  wanted = wants_of s asked.from at ask

  abbrev pub proof : Option Proof
  proof = proof_of asked.arguments

  abbrev pub asker : Option TableCall
  asker = notify_by s.policy asked.read_only proof ask asked.from

  abbrev pub all_calls : List Call
  all_calls = calls_of s asked.from at asked.read_only proof ask

  -- what was done for it are the calls that it asks
  pub main_calls : (g : Gained) → IsFor wanted g → map call_of (did_for s at wanted g) ≡ calls_for s asked.from at ask
  main_calls g fits = did_calls s at wanted g fits ∙ wanted_calls s asked.from at ask

  main_reply : (g : Gained) → IsFor wanted g → (more : List Reply) → reply_gained s asked.from at asked.tx.now g ≡ answer_with s asked.from at asked.tx.now ask (map reply_of (did_for s at wanted g) ++ more)
  main_reply g fits more =
      gained_reply s asked.from at asked.tx.now wanted g fits more
      ∙ wanted_reply s asked.from at asked.tx.now ask (map reply_of (did_for s at wanted g) ++ more)

  -- those that were made are the first of all
  pub ends_first : (did : List Did) → Ends s asked at did → (left : List Call) × (map call_of did ++ left ≡ all_calls)
  ends_first did (unasked e) = (all_calls, ap (λ d. map call_of d ++ all_calls) e)
  ends_first did (gathering h) =
      let f = fails_first s at wanted did h in (
        f.0 ++ calls_told asker,
        sym (append_assoc (map call_of did) f.0 (calls_told asker)) ∙ ap (λ l. l ++ calls_told asker) (f.1 ∙ wanted_calls s asked.from at ask),
      )
  ends_first did (composing g fits fails e) = (calls_told asker, ap (λ d. map call_of d ++ calls_told asker) e ∙ ap (λ l. l ++ calls_told asker) (main_calls g fits))
  ends_first did (telling call g told fits e) = (
    [],
    append-nil (map call_of did) ∙ ap (map call_of) e ∙ map-append call_of (did_for s at wanted g) (on_table call NoMemory ∷ []) ∙ ap (λ l. l ++ of_table call ∷ []) (main_calls g fits)
        ∙ ap (λ o. calls_for s asked.from at ask ++ calls_told o) (sym told),
  )

  module _ {S : Type 0} (does : S → Did → S → Type 0) where
    pub stop_first : (h : S) → StopsAt does s asked at h h
    stop_first h = record { did = []; ends = unasked refl; run = refl }

    pub stop_gathering : (w : Wants) → w ≡ wanted → (old new : S) → Fails does s at w old new → StopsAt does s asked at old new
    stop_gathering w p old new h = record { did = h.did; ends = gathering (subst (λ x. FailsBy s at x h.did) p h.fails); run = h.run }

    of_wanted : (w : Wants) → w ≡ wanted → (g : Gained) (old new : S) → Gathers does s at w g old new → Gathers does s at wanted g old new
    of_wanted w p g old new h = subst (λ x. Gathers does s at x g old new) p h

    pub stop_composing : (w : Wants) → w ≡ wanted → (g : Gained) → MayFail g → (old new : S) → Gathers does s at w g old new → StopsAt does s asked at old new
    stop_composing w p g fails old new h =
        let m = of_wanted w p g old new h in
        record { did = did_for s at wanted g; ends = composing g m.fits fails refl; run = m.run }

    telling_ends : (told : Option TableCall) → told ≡ asker → (g : Gained) (old mid new : S) → Gathers does s at wanted g old mid → TellsNot does told mid new → StopsAt does s asked at old new
    telling_ends None t g old mid new h tells = absurd tells
    telling_ends (Some call) t g old mid new h tells =
        let d : Did = on_table call NoMemory in
        record { did = did_for s at wanted g ++ d ∷ []; ends = telling call g (sym t) h.fits refl; run = runs_more does old mid new (did_for s at wanted g) (d ∷ []) h.run (new, tells, refl) }

    pub stop_telling : (w : Wants) → w ≡ wanted → (told : Option TableCall) → told ≡ asker → (g : Gained) (old mid new : S) → Gathers does s at w g old mid → TellsNot does told mid new → StopsAt does s asked at old new
    stop_telling w p told t g old mid new h tells = telling_ends told t g old mid new (of_wanted w p g old mid h) tells

    told_replies : (tag_of : Tags) (told : Option TableCall) → told ≡ asker → (g : Gained) (m : Message) (text : List ℕ) (old mid new : S) → Gathers does s at wanted g old mid
        → m ≡ reply_gained s asked.from at asked.tx.now g → text ≡ sent_form tag_of s.sealed s.own m → Tells does told mid new → RepliesTo does tag_of s asked at text old new
    told_replies tag_of None t g m text old mid new h composed is tells =
        let ds = did_for s at wanted g in
        record {
          did = ds;
          calls = main_calls g h.fits ∙ sym (append-nil (calls_for s asked.from at ask)) ∙ ap (λ o. calls_for s asked.from at ask ++ calls_told o) t;
          memory = did_memory s at wanted g h.fits;
          written = is ∙ ap (sent_form tag_of s.sealed s.own) (composed ∙ main_reply g h.fits [] ∙ ap (answer_with s asked.from at asked.tx.now ask) (append-nil (map reply_of ds)));
          run = subst (λ x. Runs does old ds x) (sym tells) h.run;
        }
    told_replies tag_of (Some call) t g m text old mid new h composed is tells =
        let ds = did_for s at wanted g in
        let d : Did = on_table call tells.0 in
        record {
          did = ds ++ d ∷ [];
          calls = map-append call_of ds (d ∷ []) ∙ ap (λ l. l ++ of_table call ∷ []) (main_calls g h.fits) ∙ ap (λ o. calls_for s asked.from at ask ++ calls_told o) t;
          memory = All-append HadMemory ds (d ∷ []) (did_memory s at wanted g h.fits) (All-cons HadMemory d [] tells.1 (All-nil HadMemory));
          written = is ∙ ap (sent_form tag_of s.sealed s.own) (composed ∙ main_reply g h.fits (map reply_of (d ∷ [])) ∙ ap (answer_with s asked.from at asked.tx.now ask) (sym (map-append reply_of ds (d ∷ []))));
          run = runs_more does old mid new ds (d ∷ []) h.run (new, tells.2, refl);
        }

    pub replies_to : (tag_of : Tags) (w : Wants) → w ≡ wanted → (told : Option TableCall) → told ≡ asker → (g : Gained) (m : Message) (text : List ℕ) (old mid new : S) → Gathers does s at w g old mid
        → m ≡ reply_gained s asked.from at asked.tx.now g → text ≡ sent_form tag_of s.sealed s.own m → Tells does told mid new → RepliesTo does tag_of s asked at text old new
    replies_to tag_of w p told t g m text old mid new h composed is tells = told_replies tag_of told t g m text old mid new (of_wanted w p g old mid h) composed is tells

-- ---- what is seen of a holder

-- a holder that is reached by a reference: it is still the same one, and what was done was done to what it holds
module _ {S W N : Type 0} (name : S → N) (value : S → W) (does : S → Did → S → Type 0) (inner : W → Did → W → Type 0) (one : (a b : S) (d : Did) → does a d b → (name b ≡ name a) × inner (value a) d (value b)) where
  pub runs_through : (a b : S) (did : List Did) → Runs does a did b → (name b ≡ name a) × Runs inner (value a) did (value b)
  runs_through a b [] run = (ap name run, ap value run)
  runs_through a b (d ∷ did) run =
      let first = one a run.0 d run.1 in
      let rest = runs_through run.0 b did run.2 in
      (rest.0 ∙ first.0, (value run.0, first.1, rest.1))

  module _ (s : ServeSetting) (asked : Asked) (at : ℕ) (a b : S) where
    pub replies_through : (tag_of : Tags) (text : List ℕ) → RepliesTo does tag_of s asked at text a b → RepliesTo inner tag_of s asked at text (value a) (value b)
    replies_through tag_of text r = record { did = r.did; calls = r.calls; memory = r.memory; written = r.written; run = (runs_through a b r.did r.run).1 }

    pub stops_through : StopsAt does s asked at a b → StopsAt inner s asked at (value a) (value b)
    stops_through h = record { did = h.did; ends = h.ends; run = (runs_through a b h.did h.run).1 }

    -- by how the answer ended
    pub ended_through : (tag_of : Tags) (out : List ℕ) (r : Result ℕ Lacks) → IfOk r (λ n. RepliesTo does tag_of s asked at (take n out) a b) → OnErr r (StopsAt does s asked at a b)
        → (name b ≡ name a) × IfOk r (λ n. RepliesTo inner tag_of s asked at (take n out) (value a) (value b)) × OnErr r (StopsAt inner s asked at (value a) (value b))
    ended_through tag_of out (Ok n) ok err = ((runs_through a b ok.did ok.run).0, replies_through tag_of (take n out) ok, tt)
    ended_through tag_of out (Err e) ok err = ((runs_through a b err.did err.run).0, tt, stops_through err)
