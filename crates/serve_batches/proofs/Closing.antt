-- What is known once the three turns are closed.
use Rattle.std.proofs.Common.{◌≡◌, ℕ, ◌+◌, ◌<◌, ◌%◌, ◌==◌, cond, Bool, true, false, List, [], ◌∷◌, ◌++◌, map, length, get_or, Option, Some, None, Result, Ok, Err, IfOk, inl, refl, sym, ap, subst, ◌∙◌, arith, All}
use Rattle.std.specs.Prelude.{IfErr, reverse, slice_index_or}
use Rattle.std.specs.List.{flat_map, range_with_len}
use Rattle.std.proofs.lemmas.Grind.{flat_map-append}
use Rattle.std.proofs.lemmas.List.Elements.{All-nil, All-cons, All-head, All-tail, All-same, All-append}
use Rattle.kad_base.specs.declared.types.Event.{Event}
use Rattle.kad_base.specs.declared.serial.Made.{Made}
use Rattle.kad_base.specs.Serial.{calls_of, left_by, IsRun}
use Rattle.kad_base.specs.Outside.{Happens}
use Rattle.serve_batches.specs.Deal.{dealt_from, dealt}
use Rattle.turn_book.proofs.Ended.{all_in_row, each_in_row, mine_few, all_run}
use Rattle.turn_book.specs.Turns.{TurnState, PassState, Closed, mine}
use Rattle.contact_table.specs.TableState.{TableState}
use Rattle.contact_table.specs.TableStep.{TableMay, TableStep, table_after}
use Rattle.contact_table.specs.Told.{HasMemory}
use Rattle.contact_table.specs.declared.calls.TableCall.{TableCall}
use Rattle.contact_table.specs.declared.calls.TableReply.{TableReply}
use Rattle.peer_store.specs.PeersStep.{PeersMay, PeersStep, peers_after}
use Rattle.peer_store.specs.declared.calls.PeerCall.{PeerCall}
use Rattle.peer_store.specs.declared.calls.PeerReply.{PeerReply}
use Rattle.item_store.specs.ItemSteps.{ItemMay, ItemStep, item_after}
use Rattle.item_store.specs.declared.calls.ItemCall.{ItemCall}
use Rattle.item_store.specs.declared.calls.ItemReply.{ItemReply}
use Rattle.node_serve.specs.Calls.{Did, HadMemory, HasRoom, HasItemRoom}
use Rattle.node_serve.specs.Lasting.{end_of}
use Rattle.node_serve.specs.Sealing.{Tags}
use Rattle.node_serve.specs.declared.lasting.Lasting.{Lasting}
use Rattle.node_serve.specs.declared.service.ServeCounts.{ServeCounts}
use Rattle.node_serve.specs.declared.service.ServeFault.{ServeFault}
use Rattle.node_serve.specs.declared.service.ServeFault.TheVariants.{NoMemory as Out_of_memory}
use Rattle.node_serve.specs.declared.setting.ServeSetting.{ServeSetting}
use Rattle.serve_crew.proofs.Remembering.{did_table, did_peers, did_items}
use Rattle.serve_crew.specs.Hands.{Hands, Grew, TablePass, PeersPass, ItemsPass, at_table, at_peers, at_items}
use Rattle.serve_crew.specs.Opening.{AreClosed, Opens}
use Rattle.serve_crew.specs.declared.turns.Turns.{Turns}
use Rattle.serve_crew.specs.declared.turns.Rows.{Rows}
use Rattle.serve_batches.specs.Batches.{Datagram, Done, IsAnsweredBy, IsDone, calls_for}
use Rattle.serve_crew.specs.Runs.{Ran, HadAllMemory, AreCalls, AreFirstCalls}
use Rattle.serve_batches.specs.ManyServed.{ManyServed, ManyBegun}
use Rattle.serve_batches.specs.Passes.{new_hands, workers_of}
use Rattle.serve_batches.specs.Serving.{GrewFirst, ServesAll, StopsServing, begun}
use Rattle.serve_batches.specs.declared.shift.Shift.{Shift}
use Rattle.serve_batches.proofs.Answering.{first_of}
use Rattle.serve_batches.proofs.Dealing.{crew_count, start_at}
use Rattle.serve_batches.proofs.Returning.{AreBack}
use Rattle.kad_base.proofs.Happening.{happens_weaker}

-- ---- one turn

module _ {S C R : Type 0} (may : ℕ → C → Type 0) (step : S → ℕ → C → R → Type 0) (after : S → ℕ → C → R → S) (turn : TurnState S) (row : List (PassState C R)) (state : S) (calls : ℕ) (closed : Closed may step after turn row state calls) where
  module _ (pass_of : Shift → PassState C R) (crew : List Shift) (is : row ≡ map pass_of (reverse crew)) where
    all_crew : (P : Made C R → Type 0) → All (λ (x : Shift). All P (mine (pass_of x))) crew → All P closed.run
    all_crew P each = all_run may step after turn row state calls closed P (All-same (λ (p : PassState C R). All P (mine p)) row (map pass_of (reverse crew)) is (all_in_row pass_of crew (λ (p : PassState C R). All P (mine p)) each))

    crew_few : (n : ℕ) → All (λ (x : Shift). (pass_of x).role < n) crew → All (λ (m : Made C R). m.role < n) closed.run
    crew_few n few = all_crew (λ (m : Made C R). m.role < n) (λ w d lt. mine_few n (pass_of (get_or crew w d)) (few w d lt))

    in_order_at : (w : ℕ) (d : Shift) → w < length crew → calls_of (pass_of (get_or crew w d)).role closed.run ≡ mine (pass_of (get_or crew w d))
    in_order_at w d lt = each_in_row pass_of crew (λ (p : PassState C R). calls_of p.role closed.run ≡ mine p) (subst (All (λ (p : PassState C R). calls_of p.role closed.run ≡ mine p)) is closed.in_order) w d lt

    -- the calls of a worker
    calls_at : (w : ℕ) (d : Shift) → w < length crew → (pass_of (get_or crew w d)).role ≡ w → calls_of w closed.run ≡ mine (pass_of (get_or crew w d))
    calls_at w d lt role = ap (λ r. calls_of r closed.run) (sym role) ∙ in_order_at w d lt

-- ---- memory

module _ (tag_of : Tags) (s : ServeSetting) where
  had_memory : (d : Datagram) (did : List Did) (reply : Option (List ℕ)) → IsAnsweredBy tag_of s d did reply → All HadMemory did
  had_memory d did None h = subst (All HadMemory) (sym h.1) (All-nil HadMemory)
  had_memory d did (Some text) h = h.memory

  all_cond : {A : Type 0} (P : A → Type 0) (b : Bool) (x : A) (xs : List A) → P x → All P xs → All P (cond b (x ∷ xs) xs)
  all_cond P true x xs h all = All-cons P x xs h all
  all_cond P false x xs h all = all

  all_dealt : {A : Type 0} (P : A → Type 0) (n w j : ℕ) (xs : List A) → All P xs → All P (dealt_from n w j xs)
  all_dealt P n w j [] all = All-nil P
  all_dealt P n w j (x ∷ xs) all = all_cond P (j % n == w) x (dealt_from n w (j + 1) xs) (All-head P x xs all) (all_dealt P n w (j + 1) xs (All-tail P x xs all))

  done_memory : (ds : List Done) → All (IsDone tag_of s) ds → All HadMemory (flat_map (λ (d : Done). d.did) ds)
  done_memory [] all = All-nil HadMemory
  done_memory (d ∷ ds) all = All-append HadMemory d.did (flat_map (λ (x : Done). x.did) ds) (had_memory d.datagram d.did d.reply (All-head (IsDone tag_of s) d ds all)) (done_memory ds (All-tail (IsDone tag_of s) d ds all))

  done_for : (n w : ℕ) (bs : List (List Done)) → All (All (IsDone tag_of s)) bs → All (IsDone tag_of s) (flat_map (dealt n w) bs)
  done_for n w [] all = All-nil (IsDone tag_of s)
  done_for n w (b ∷ bs) all =
      All-append (IsDone tag_of s) (dealt n w b) (flat_map (dealt n w) bs) (all_dealt (IsDone tag_of s) n w 0 b (All-head (All (IsDone tag_of s)) b bs all)) (done_for n w bs (All-tail (All (IsDone tag_of s)) b bs all))

  calls_memory : (n w : ℕ) (bs : List (List Done)) → All (All (IsDone tag_of s)) bs → All HadMemory (calls_for n w bs)
  calls_memory n w bs all = done_memory (flat_map (dealt n w) bs) (done_for n w bs all)

-- ---- three turns

module _ (n : ℕ) (turns : Turns) (rows : Rows) (before after : TableState) (opened : Opens before turns) (closed : AreClosed turns rows after) (crew : List Shift) (back : AreBack n turns rows crew) where
  abbrev table_of : Shift → TablePass
  table_of x = x.worker.table

  abbrev peers_of : Shift → PeersPass
  peers_of x = x.worker.peers

  abbrev items_of : Shift → ItemsPass
  items_of x = x.worker.items

  below : (w : ℕ) → w < length crew → w < n
  below w lt = (let count = back.count in omega (arith, count, lt))

  ran : Ran n before after
  ran = record {
    tables = closed.table.run;
    tables_legal = subst (λ b. IsRun TableMay TableStep table_after b closed.table.run) opened.table closed.table.legal;
    tables_roles = crew_few TableMay TableStep table_after turns.table rows.table.passes after closed.table_calls closed.table table_of crew back.passes.table n
        (λ w d lt. (let role = (back.same w d (below w lt)).table.role in let few = below w lt in omega (arith, role, few)));
    leaves = closed.table.left ∙ ap (λ b. left_by table_after b closed.table.run) opened.table;
    stores = closed.peers.run;
    stores_legal = subst (λ b. IsRun PeersMay PeersStep peers_after b closed.peers.run) opened.peers closed.peers.legal;
    stores_roles = crew_few PeersMay PeersStep peers_after turns.peers rows.peers.passes closed.held closed.peers_calls closed.peers peers_of crew back.passes.peers n
        (λ w d lt. (let role = (back.same w d (below w lt)).peers.role in let few = below w lt in omega (arith, role, few)));
    shelves = closed.items.run;
    shelves_legal = subst (λ b. IsRun ItemMay ItemStep item_after b closed.items.run) opened.items closed.items.legal;
    shelves_roles = crew_few ItemMay ItemStep item_after turns.items rows.items.passes closed.shelf closed.items_calls closed.items items_of crew back.passes.items n
        (λ w d lt. (let role = (back.same w d (below w lt)).items.role in let few = below w lt in omega (arith, role, few)));
  }

  abbrev GrewBy : (ℕ → List Did) → Type 0
  GrewBy did = (w : ℕ) (d : Shift) → w < n → Grew (new_hands turns w) (slice_index_or crew w d).worker (did w)

  memory : (did : ℕ → List Did) → GrewBy did → ((w : ℕ) → All HadMemory (did w)) → HadAllMemory n before after ran
  unfolding ran
  memory did grew had = record {
    tables = all_crew TableMay TableStep table_after turns.table rows.table.passes after closed.table_calls closed.table table_of crew back.passes.table (λ (m : Made TableCall TableReply). HasMemory m.reply)
        (λ w d lt. All-same (λ (m : Made TableCall TableReply). HasMemory m.reply) (mine (get_or crew w d).worker.table) (flat_map (at_table w) (did w)) (grew w d (below w lt)).table (did_table w (did w) (had w)));
    stores = all_crew PeersMay PeersStep peers_after turns.peers rows.peers.passes closed.held closed.peers_calls closed.peers peers_of crew back.passes.peers (λ (m : Made PeerCall PeerReply). HasRoom m.reply)
        (λ w d lt. All-same (λ (m : Made PeerCall PeerReply). HasRoom m.reply) (mine (get_or crew w d).worker.peers) (flat_map (at_peers w) (did w)) (grew w d (below w lt)).peers (did_peers w (did w) (had w)));
    shelves = all_crew ItemMay ItemStep item_after turns.items rows.items.passes closed.shelf closed.items_calls closed.items items_of crew back.passes.items (λ (m : Made ItemCall ItemReply). HasItemRoom m.reply)
        (λ w d lt. All-same (λ (m : Made ItemCall ItemReply). HasItemRoom m.reply) (mine (get_or crew w d).worker.items) (flat_map (at_items w) (did w)) (grew w d (below w lt)).items (did_items w (did w) (had w)));
  }

  are_calls : (w : ℕ) (did : List Did) → w < n → ((d : Shift) → Grew (new_hands turns w) (slice_index_or crew w d).worker did) → AreCalls n before after ran w did
  unfolding ran
  are_calls w did lt grew =
      let count = back.count in
      let there : w < length crew = omega (arith, count, lt) in
      let d : Shift = first_of crew (omega (arith, there)) in
      let same = back.same w d lt in
      record {
        tables = calls_at TableMay TableStep table_after turns.table rows.table.passes after closed.table_calls closed.table table_of crew back.passes.table w d there same.table.role ∙ (grew d).table;
        stores = calls_at PeersMay PeersStep peers_after turns.peers rows.peers.passes closed.held closed.peers_calls closed.peers peers_of crew back.passes.peers w d there same.peers.role ∙ (grew d).peers;
        shelves = calls_at ItemMay ItemStep item_after turns.items rows.items.passes closed.shelf closed.items_calls closed.items items_of crew back.passes.items w d there same.items.role ∙ (grew d).items;
      }

  are_first : (w : ℕ) (did rest : List Did) → w < n → (d : Shift) → Grew (new_hands turns w) (slice_index_or crew w d).worker (did ++ rest) → AreFirstCalls n before after ran w did
  unfolding ran
  are_first w did rest lt d grew =
      let count = back.count in
      let there : w < length crew = omega (arith, count, lt) in
      let same = back.same w d lt in
      record {
        tables = (
          flat_map (at_table w) rest,
          calls_at TableMay TableStep table_after turns.table rows.table.passes after closed.table_calls closed.table table_of crew back.passes.table w d there same.table.role ∙ grew.table ∙ flat_map-append (at_table w) did rest,
        );
        stores = (
          flat_map (at_peers w) rest,
          calls_at PeersMay PeersStep peers_after turns.peers rows.peers.passes closed.held closed.peers_calls closed.peers peers_of crew back.passes.peers w d there same.peers.role ∙ grew.peers ∙ flat_map-append (at_peers w) did rest,
        );
        shelves = (
          flat_map (at_items w) rest,
          calls_at ItemMay ItemStep item_after turns.items rows.items.passes closed.shelf closed.items_calls closed.items items_of crew back.passes.items w d there same.items.role ∙ grew.items ∙ flat_map-append (at_items w) did rest,
        );
      }

module _ (tag_of : Tags) (s : ServeSetting) (n began : ℕ) (lasting : Lasting) (turns : Turns) (rows : Rows) (before after : TableState) (opened : Opens before turns) (closed : AreClosed turns rows after)
    (old new : List Shift) (is : workers_of old ≡ map (new_hands turns) (range_with_len 0 n)) (back : AreBack n turns rows new) where
  count : length old ≡ n
  count = crew_count turns n old is

  -- a worker's calls, since it was made
  since : (P : Hands → List Did → Type 0) (w : ℕ) (d : Shift) (bs : List (List Done)) → w < n → (w < length old → P (slice_index_or old w d).worker (calls_for (length old) w bs)) → P (new_hands turns w) (calls_for n w bs)
  since P w d bs lt grew =
      let c = count in
      let there : w < length old = omega (arith, c, lt) in
      subst (λ k. P (new_hands turns w) (calls_for k w bs)) c (subst (λ h. P h (calls_for (length old) w bs)) (start_at turns n old is w d there) (grew there))

  many_served : (received replied : ℕ) (es : List Event) → ServesAll tag_of (end_of began lasting.minutes) s (begun began lasting.receives) received replied old new es → ManyServed tag_of s n began lasting before after received replied es
  many_served received replied es h =
      let x = h.served in
      let got = x.received_are in
      let sent = x.replied_are in
      let grew : (w : ℕ) (d : Shift) → w < n → Grew (new_hands turns w) (slice_index_or new w d).worker (calls_for n w x.batches) = λ w d lt. since (λ g. Grew g (slice_index_or new w d).worker) w d x.batches lt (x.grew w d) in
      record {
        ran = ran n turns rows before after opened closed new back;
        memory = memory n turns rows before after opened closed new back (λ w. calls_for n w x.batches) grew (λ w. calls_memory tag_of s n w x.batches x.done);
        batches = x.batches;
        left = h.left;
        end = h.moment;
        are = x.are;
        ended = h.ended;
        done = x.done;
        each = λ w lt. are_calls n turns rows before after opened closed new back w (calls_for n w x.batches) lt (λ d. grew w d lt);
        received_are = omega (arith, got);
        replied_are = omega (arith, sent);
      }

  many_begun : (fault : ServeFault) (es : List Event) → 0 < n → StopsServing tag_of (end_of began lasting.minutes) s (begun began lasting.receives) old new fault es → ManyBegun tag_of s n began lasting before after fault es
  many_begun fault es some x =
      let all = back.count in
      let d : Shift = first_of new (omega (arith, all, some)) in
      let grew : (w : ℕ) → w < n → GrewFirst (new_hands turns w) (slice_index_or new w d).worker (calls_for n w x.batches) = λ w lt. since (λ g. GrewFirst g (slice_index_or new w d).worker) w d x.batches lt (x.grew w d) in
      record {
        ran = ran n turns rows before after opened closed new back;
        batches = x.batches;
        front = x.front;
        left = x.left;
        moment = x.moment;
        are = x.are;
        done = x.done;
        each = λ w lt. are_first n turns rows before after opened closed new back w (calls_for n w x.batches) (grew w lt).0 lt d (grew w lt).1;
        last = x.last;
        whole = x.whole;
        ended = x.ended;
      }

  pub ok_served : (a b : Option (List Event)) (x : Result ServeCounts ServeFault) → IfOk x (λ (c : ServeCounts). Happens a b (ServesAll tag_of (end_of began lasting.minutes) s (begun began lasting.receives) c.received c.replied old new))
      → IfOk x (λ (c : ServeCounts). Happens a b (ManyServed tag_of s n began lasting before after c.received c.replied))
  ok_served a b (Ok c) h = happens_weaker a b _ _ h (λ es x. many_served c.received c.replied es x)
  ok_served a b (Err e) h = tt

  pub err_begun : (a b : Option (List Event)) (x : Result ServeCounts ServeFault) → 0 < n → IfErr x (λ fault. Happens a b (StopsServing tag_of (end_of began lasting.minutes) s (begun began lasting.receives) old new fault))
      → IfErr x (λ fault. Happens a b (ManyBegun tag_of s n began lasting before after fault))
  err_begun a b (Ok c) some h = tt
  err_begun a b (Err e) some h = happens_weaker a b _ _ h (λ es x. many_begun e es some x)

-- ---- where nothing was begun

pub nothing_begun : (tag_of : Tags) (s : ServeSetting) (n began : ℕ) (lasting : Lasting) (table : TableState) → ManyBegun tag_of s n began lasting table table Out_of_memory []
nothing_begun tag_of s n began lasting table = record {
  ran = record {
    tables = [];
    tables_legal = tt;
    tables_roles = All-nil (λ (m : Made TableCall TableReply). m.role < n);
    leaves = refl;
    stores = [];
    stores_legal = tt;
    stores_roles = All-nil (λ (m : Made PeerCall PeerReply). m.role < n);
    shelves = [];
    shelves_legal = tt;
    shelves_roles = All-nil (λ (m : Made ItemCall ItemReply). m.role < n);
  };
  batches = [];
  front = [];
  left = lasting.receives;
  moment = began;
  are = (refl, refl, refl);
  done = All-nil (All (IsDone tag_of s));
  each = λ w lt. record { tables = ([], refl); stores = ([], refl); shelves = ([], refl) };
  last = [];
  whole = refl;
  ended = inl refl;
}
