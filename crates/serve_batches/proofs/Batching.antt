-- One batch, and batches one after another.
use Rattle.std.proofs.Common.{◌≡◌, ℕ, suc, ◌+◌, ◌<◌, ◌≤◌, false, List, [], ◌∷◌, ◌++◌, length, get_or, Option, inl, inr, refl, sym, ap, subst, ◌∙◌, append-nil, append_assoc, arith, All}
use Rattle.std.specs.Prelude.{slice_index_or}
use Rattle.std.specs.List.{flat_map}
use Rattle.std.proofs.lemmas.Grind.{flat_map-append}
use Rattle.std.proofs.lemmas.List.Elements.{All-nil, All-push}
use Rattle.kad_base.specs.declared.types.Event.{Event}
use Rattle.kad_base.specs.declared.types.Event.TheVariants.{Quiet}
use Rattle.kad_base.specs.Outside.{Rose, Happens}
use Rattle.serve_batches.specs.Deal.{dealt}
use Rattle.serve_batches.specs.Ring.{ring}
use Rattle.serve_batches.proofs.Rings.{length_in_order}
use Rattle.node_serve.specs.Lasting.{is_over, waits_to}
use Rattle.node_serve.specs.Receives.{got_in, sent_in}
use Rattle.node_serve.specs.Sealing.{Tags}
use Rattle.node_serve.specs.declared.service.ServeFault.{ServeFault}
use Rattle.node_serve.specs.declared.service.ServeFault.TheVariants.{NoMemory as Out_of_memory}
use Rattle.node_serve.specs.declared.setting.ServeSetting.{ServeSetting}
use Rattle.node_serve.proofs.Receiving.{sent_then}
use Rattle.serve_crew.specs.Hands.{CanWork, Grew}
use Rattle.serve_crew.specs.declared.turns.Turns.{Turns}
use Rattle.serve_crew.proofs.Growing.{grew_none, grew_more, same_none, same_more}
use Rattle.serve_batches.specs.Batches.{Datagram, Receives, quiet, full, over, Done, IsDone, IsBatch, Batches, receives_of, waits_after, calls_for}
use Rattle.serve_batches.specs.Crew.{SameCrew, AllWorked, SendsAll, IsReceived, batch_datagrams, batch_slots, datagrams_of, no_datagram}
use Rattle.serve_batches.specs.ManyServed.{EndsEarly}
use Rattle.serve_batches.specs.Serving.{SameRoles, GrewSome, ServesBatch, ServesBatches, StopsServing}
use Rattle.serve_batches.specs.Slots.{Handled}
use Rattle.serve_batches.specs.declared.batch.Progress.{Progress}
use Rattle.serve_batches.specs.declared.receiving.Received.{Received}
use Rattle.serve_batches.specs.declared.shift.Shift.{Shift}
use Rattle.serve_batches.proofs.Answering.{Answered_batch}
use Rattle.kad_base.proofs.Happening.{happens_then, happens_none}
use Rattle.serve_batches.proofs.Sending.{got_then}

-- ---- what the receives of a batch are

got_receives : (until : ℕ) (ds : List Datagram) → got_in (receives_of until ds) ≡ length ds
got_receives until [] = refl
got_receives until (d ∷ ds) = ap suc (got_receives d.at ds)

sent_receives : (until : ℕ) (ds : List Datagram) → sent_in (receives_of until ds) ≡ 0
sent_receives until [] = refl
sent_receives until (d ∷ ds) = sent_receives d.at ds

module _ (limit : Option ℕ) (left moment : ℕ) (ds : List Datagram) (es : List Event) (made end : ℕ) where
  got_batch : Receives limit left moment ds es made end → got_in es ≡ length ds
  got_batch (quiet few all is count) =
      let x = got_then (receives_of (waits_to limit moment) ds) (Quiet (waits_after (waits_to limit moment) ds) end ∷ []) in
      let y = got_receives (waits_to limit moment) ds in
      let z : got_in (Quiet (waits_after (waits_to limit moment) ds) end ∷ []) ≡ 0 = refl in
      let e = ap got_in is in
      omega (arith, x, y, z, e)
  got_batch (full whole all is count last) = ap got_in is ∙ got_receives (waits_to limit moment) ds
  got_batch (over before late split few all past is count last) = ap got_in is ∙ got_receives (waits_to limit moment) ds

  sent_batch : Receives limit left moment ds es made end → sent_in es ≡ 0
  sent_batch (quiet few all is count) =
      let x = sent_then (receives_of (waits_to limit moment) ds) (Quiet (waits_after (waits_to limit moment) ds) end ∷ []) in
      let y = sent_receives (waits_to limit moment) ds in
      let z : sent_in (Quiet (waits_after (waits_to limit moment) ds) end ∷ []) ≡ 0 = refl in
      let e = ap sent_in is in
      omega (arith, x, y, z, e)
  sent_batch (full whole all is count last) = ap sent_in is ∙ sent_receives (waits_to limit moment) ds
  sent_batch (over before late split few all past is count last) = ap sent_in is ∙ sent_receives (waits_to limit moment) ds

-- ---- the workers

pub grew_batch : (tag_of : Tags) (s : ServeSetting) (m : ℕ) (old mid new : List Shift) → SameCrew old mid → AllWorked tag_of s (ring (length mid) m) mid new → GrewSome old new
grew_batch tag_of s m old mid new same worked w d lt =
    let l = same.len in
    let h = (worked w d (omega (arith, l, lt))).answers in
    (flat_map (λ (x : Handled). x.did) h.all, subst (λ x. Grew x (get_or new w d).worker (flat_map (λ (y : Handled). y.did) h.all)) (same.workers w d lt) h.grew)

pub grew_kept : (old new : List Shift) → SameCrew old new → GrewSome old new
grew_kept old new same w d lt = ([], subst (λ h. Grew (get_or old w d).worker h []) (sym (same.workers w d lt)) (grew_none (get_or old w d).worker))

-- ---- one batch

pub batch_served : (tag_of : Tags) (limit : Option ℕ) (s : ServeSetting) (p q : Progress) (b : Received) (sent : ℕ) (old mid new : List Shift) (x y z : Option (List Event)) → 0 < p.left → is_over limit p.moment ≡ false → SameCrew old mid → Answered_batch tag_of s b.came mid new
    → q.moment ≡ b.moment → q.left + b.made ≡ p.left → q.received ≡ p.received + b.came → q.replied ≡ p.replied + sent
    → Happens x y (IsReceived limit p.left p.moment b mid) → Happens y z (SendsAll (batch_slots new b.came) sent) → Happens x z (ServesBatch tag_of limit s p q old new)
batch_served tag_of limit s p q b sent old mid new x y z some goes same a moment left received replied got sends =
    happens_then x y z _ _ _ got sends (λ t u r k.
    let l = same.len in
    let count : length (batch_datagrams mid b.came) ≡ b.came = length_in_order no_datagram (length mid) (datagrams_of mid) b.came in
    let g = got_batch limit p.left p.moment (batch_datagrams mid b.came) t b.made b.moment r in
    let v = sent_batch limit p.left p.moment (batch_datagrams mid b.came) t b.made b.moment r in
    let gt = got_then t u in
    let st = sent_then t u in
    let kg = k.none_got in
    let ks = k.sent_are in
    record {
      batch = a.batch;
      is = record {
        some = some;
        goes = goes;
        made = b.made;
        receives = t;
        replies = u;
        received = subst (λ ds. Receives limit p.left p.moment ds t b.made q.moment) (sym a.datagrams) (subst (Receives limit p.left p.moment (batch_datagrams mid b.came) t b.made) (sym moment) r);
        replied = a.replies u k.are;
        whole = refl;
        left_are = left;
      };
      done = a.done;
      grew = λ w d lt.
          let there : w < length mid = omega (arith, l, lt) in
          subst (λ h. Grew h (slice_index_or new w d).worker (flat_map (λ (e : Done). e.did) (dealt (length old) w a.batch))) (same.workers w d lt)
          (subst (λ n. Grew (slice_index_or mid w d).worker (slice_index_or new w d).worker (flat_map (λ (e : Done). e.did) (dealt n w a.batch))) l (a.grew w d there));
      received_are = omega (arith, received, count, g, gt, kg);
      replied_are = omega (arith, replied, v, st, ks);
    })

-- ---- all of them

batches_more : (limit : Option ℕ) (left moment : ℕ) (bs : List (List Done)) (es : List Event) (mid told : ℕ) (b : List Done) (fs : List Event) (left' end : ℕ) → Batches limit left moment bs es mid told → IsBatch limit mid told b fs left' end
    → Batches limit left moment (bs ++ b ∷ []) (es ++ fs) left' end
batches_more limit left moment [] es mid told b fs left' end h one = (
  fs,
  left',
  end,
  [],
  ap (λ l. l ++ fs) h.0 ∙ sym (append-nil fs),
  subst (λ l. IsBatch limit l moment b fs left' end) h.1 (subst (λ t. IsBatch limit mid t b fs left' end) h.2 one),
  (refl, refl, refl),
)
batches_more limit left moment (x ∷ bs) es mid told b fs left' end h one =
    (h.0, h.1, h.2, h.3 ++ fs, ap (λ l. l ++ fs) h.4 ∙ append_assoc h.0 h.3 fs, h.5, batches_more limit h.1 h.2 bs h.3 mid told b fs left' end h.6 one)

calls_more : (n w : ℕ) (bs : List (List Done)) (b : List Done) → calls_for n w (bs ++ b ∷ []) ≡ calls_for n w bs ++ flat_map (λ (d : Done). d.did) (dealt n w b)
calls_more n w bs b =
    ap (flat_map (λ (d : Done). d.did)) (flat_map-append (dealt n w) bs (b ∷ []) ∙ ap (λ l. flat_map (dealt n w) bs ++ l) (append-nil (dealt n w b)))
    ∙ flat_map-append (λ (d : Done). d.did) (flat_map (dealt n w) bs) (dealt n w b)

module _ (tag_of : Tags) (limit : Option ℕ) (s : ServeSetting) where
  pub served_none : (p : Progress) (crew : List Shift) (a : Option (List Event)) → Happens a a (ServesBatches tag_of limit s p p crew crew)
  served_none p crew a =
      happens_none a _ (record {
        batches = [];
        are = (refl, refl, refl);
        done = All-nil (All (IsDone tag_of s));
        grew = λ w d lt. grew_none (get_or crew w d).worker;
        received_are = omega arith;
        replied_are = omega arith;
      })

  pub served_more : (p q r : Progress) (old mid new : List Shift) (a b c : Option (List Event)) → length mid ≡ length old → SameRoles old mid → Happens a b (ServesBatches tag_of limit s p q old mid) → Happens b c (ServesBatch tag_of limit s q r mid new)
      → Happens a c (ServesBatches tag_of limit s p r old new)
  served_more p q r old mid new a b c len roles h k =
      happens_then a b c _ _ _ h k (λ t u x y.
      let gt = got_then t u in
      let st = sent_then t u in
      let xg = x.received_are in
      let xs = x.replied_are in
      let yg = y.received_are in
      let ys = y.replied_are in
      record {
        batches = x.batches ++ y.batch ∷ [];
        are = batches_more limit p.left p.moment x.batches t q.left q.moment y.batch u r.left r.moment x.are y.is;
        done = All-push (All (IsDone tag_of s)) x.batches y.batch x.done y.done;
        grew = λ w d lt.
            let there : w < length mid = omega (arith, len, lt) in
            subst (Grew (slice_index_or old w d).worker (slice_index_or new w d).worker) (sym (calls_more (length old) w x.batches y.batch))
            (grew_more (slice_index_or old w d).worker (slice_index_or mid w d).worker (slice_index_or new w d).worker (calls_for (length old) w x.batches) (flat_map (λ (e : Done). e.did) (dealt (length old) w y.batch))
            (roles w d lt) (x.grew w d lt)
            (subst (λ n. Grew (slice_index_or mid w d).worker (slice_index_or new w d).worker (flat_map (λ (e : Done). e.did) (dealt n w y.batch))) len (y.grew w d there)));
        received_are = omega (arith, gt, xg, yg);
        replied_are = omega (arith, st, xs, ys);
      })

  pub served_stops : (p q : Progress) (old mid new : List Shift) (fault : ServeFault) (a b c : Option (List Event)) → length mid ≡ length old → SameRoles old mid → Happens a b (ServesBatches tag_of limit s p q old mid)
      → Happens b c (EndsEarly fault limit q.left q.moment) → GrewSome mid new → Happens a c (StopsServing tag_of limit s p old new fault)
  served_stops p q old mid new fault a b c len roles h k grew =
      happens_then a b c _ _ _ h k (λ t u x y.
      record {
        batches = x.batches;
        front = t;
        left = q.left;
        moment = q.moment;
        are = x.are;
        done = x.done;
        grew = λ w d lt.
            let there : w < length mid = omega (arith, len, lt) in
            let more = grew w d there in (
              more.0,
              grew_more (slice_index_or old w d).worker (slice_index_or mid w d).worker (slice_index_or new w d).worker (calls_for (length old) w x.batches) more.0 (roles w d lt) (x.grew w d lt) more.1,
            );
        last = u;
        whole = refl;
        ended = y;
      })

pub roles_none : (crew : List Shift) → SameRoles crew crew
roles_none crew w d lt = same_none (get_or crew w d).worker

pub roles_more : (old mid new : List Shift) → length mid ≡ length old → SameRoles old mid → SameRoles mid new → SameRoles old new
roles_more old mid new len a b w d lt = same_more (get_or old w d).worker (get_or mid w d).worker (get_or new w d).worker (a w d lt) (b w d (omega (arith, len, lt)))

pub can_by_roles : (turns : Turns) (old new : List Shift) → length new ≡ length old → SameRoles old new → All (λ (x : Shift). CanWork turns x.worker) old → All (λ (x : Shift). CanWork turns x.worker) new
can_by_roles turns old new len roles can w d lt =
    let there : w < length old = omega (arith, len, lt) in
    let same = roles w d there in
    let can_ = can w d there in
    record { table = same.table.turn ∙ can_.table; peers = same.peers.turn ∙ can_.peers; items = same.items.turn ∙ can_.items }

-- what a served batch leaves of the conditions
pub rose_behind : (a b c : ℕ) → a ≤ b → Rose b c → Rose a c
rose_behind a b c le h = elim h [ inl lt ↦ inl (omega (arith, le, lt)) | inr last ↦ inr last ]

-- nothing was served, since there was no memory
pub stops_none : (tag_of : Tags) (limit : Option ℕ) (s : ServeSetting) (p : Progress) (crew : List Shift) (a : Option (List Event)) → Happens a a (StopsServing tag_of limit s p crew crew Out_of_memory)
stops_none tag_of limit s p crew a =
    served_stops tag_of limit s p p crew crew crew Out_of_memory a a a refl (roles_none crew) (served_none tag_of limit s p crew a) (happens_none a _ (inl refl)) (λ w d lt. ([], grew_none (get_or crew w d).worker))
