-- Calls that were made with memory, at each turn.
use Rattle.std.proofs.Common.{ℕ, List, [], ◌∷◌, All}
use Rattle.std.specs.List.{flat_map}
use Rattle.std.proofs.lemmas.List.Elements.{All-nil, All-cons, All-head, All-tail, All-append}
use Rattle.kad_base.specs.declared.serial.Made.{Made}
use Rattle.kad_base.specs.Serial.{made}
use Rattle.contact_table.specs.Told.{HasMemory}
use Rattle.contact_table.specs.declared.calls.TableCall.{TableCall}
use Rattle.contact_table.specs.declared.calls.TableReply.{TableReply}
use Rattle.peer_store.specs.declared.calls.PeerCall.{PeerCall}
use Rattle.peer_store.specs.declared.calls.PeerReply.{PeerReply}
use Rattle.item_store.specs.declared.calls.ItemCall.{ItemCall}
use Rattle.item_store.specs.declared.calls.ItemReply.{ItemReply}
use Rattle.node_serve.specs.Calls.{Did, on_table, on_peers, on_items, HadMemory, HasRoom, HasItemRoom}
use Rattle.serve_crew.specs.Hands.{at_table, at_peers, at_items}

pub did_table : (w : ℕ) (ds : List Did) → All HadMemory ds → All (λ (m : Made TableCall TableReply). HasMemory m.reply) (flat_map (at_table w) ds)
did_table w [] h = All-nil (λ (m : Made TableCall TableReply). HasMemory m.reply)
did_table w (d ∷ ds) h = All-append (λ (m : Made TableCall TableReply). HasMemory m.reply) (at_table w d) (flat_map (at_table w) ds) (one d (All-head HadMemory d ds h)) (did_table w ds (All-tail HadMemory d ds h))
  where
    one : (x : Did) → HadMemory x → All (λ (m : Made TableCall TableReply). HasMemory m.reply) (at_table w x)
    one (on_table call reply) h = All-cons (λ (m : Made TableCall TableReply). HasMemory m.reply) (made w call reply) [] h (All-nil (λ (m : Made TableCall TableReply). HasMemory m.reply))
    one (on_peers call reply) h = All-nil (λ (m : Made TableCall TableReply). HasMemory m.reply)
    one (on_items call reply) h = All-nil (λ (m : Made TableCall TableReply). HasMemory m.reply)

pub did_peers : (w : ℕ) (ds : List Did) → All HadMemory ds → All (λ (m : Made PeerCall PeerReply). HasRoom m.reply) (flat_map (at_peers w) ds)
did_peers w [] h = All-nil (λ (m : Made PeerCall PeerReply). HasRoom m.reply)
did_peers w (d ∷ ds) h = All-append (λ (m : Made PeerCall PeerReply). HasRoom m.reply) (at_peers w d) (flat_map (at_peers w) ds) (one d (All-head HadMemory d ds h)) (did_peers w ds (All-tail HadMemory d ds h))
  where
    one : (x : Did) → HadMemory x → All (λ (m : Made PeerCall PeerReply). HasRoom m.reply) (at_peers w x)
    one (on_table call reply) h = All-nil (λ (m : Made PeerCall PeerReply). HasRoom m.reply)
    one (on_peers call reply) h = All-cons (λ (m : Made PeerCall PeerReply). HasRoom m.reply) (made w call reply) [] h (All-nil (λ (m : Made PeerCall PeerReply). HasRoom m.reply))
    one (on_items call reply) h = All-nil (λ (m : Made PeerCall PeerReply). HasRoom m.reply)

pub did_items : (w : ℕ) (ds : List Did) → All HadMemory ds → All (λ (m : Made ItemCall ItemReply). HasItemRoom m.reply) (flat_map (at_items w) ds)
did_items w [] h = All-nil (λ (m : Made ItemCall ItemReply). HasItemRoom m.reply)
did_items w (d ∷ ds) h = All-append (λ (m : Made ItemCall ItemReply). HasItemRoom m.reply) (at_items w d) (flat_map (at_items w) ds) (one d (All-head HadMemory d ds h)) (did_items w ds (All-tail HadMemory d ds h))
  where
    one : (x : Did) → HadMemory x → All (λ (m : Made ItemCall ItemReply). HasItemRoom m.reply) (at_items w x)
    one (on_table call reply) h = All-nil (λ (m : Made ItemCall ItemReply). HasItemRoom m.reply)
    one (on_peers call reply) h = All-nil (λ (m : Made ItemCall ItemReply). HasItemRoom m.reply)
    one (on_items call reply) h = All-cons (λ (m : Made ItemCall ItemReply). HasItemRoom m.reply) (made w call reply) [] h (All-nil (λ (m : Made ItemCall ItemReply). HasItemRoom m.reply))
