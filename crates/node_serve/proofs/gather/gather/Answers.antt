use Rattle.std.proofs.Common.{[], ◌∷◌, refl, sym, subst, inl, inr, IfOk}
use Rattle.std.specs.Prelude.{OnErr}
use Rattle.contact_table.specs.declared.calls.TableReply.TheVariants.{NoMemory}
use Rattle.peer_store.specs.declared.calls.PeerCall.TheVariants.{List as List_call}
use Rattle.peer_store.specs.declared.calls.PeerReply.TheVariants.{Listed, NoMemory as No_peer_memory}
use Rattle.item_store.specs.declared.calls.ItemCall.TheVariants.{Get as Get_call}
use Rattle.item_store.specs.declared.calls.ItemReply.TheVariants.{NoMemory as No_item_memory}
use Rattle.node_serve.specs.declared.composing.Gained.TheVariants as gained
use Rattle.node_serve.specs.declared.planning.Wants.{Wants}
use Rattle.node_serve.specs.declared.planning.Wants.TheVariants.{Place, Keep}
use Rattle.node_serve.specs.Calls.{on_table, on_peers, on_items, near_call}
use Rattle.node_serve.specs.Gains.{item_reply}
use Rattle.node_serve.specs.Responses.{Gathers, Fails}
use Rattle.node_serve.proofs.Gathering.{ok_at, err_at}
use Rattle.node_serve.proofs.gather.gather.Goals as goal

pub returns-in-Ok-clause-ok : goal.returns-in-Ok-clause-ok
returns-in-Ok-clause-ok g c =
    subst (λ (w : Wants). Gathers g.H.Hold.does c.args.setting.now c.args.at w (gained.Nodes c.in-Ok.nodes) c.args.hold.now c.closest.new.hold) (sym c.in-Nodes.is)
    (record { fits = tt; run = (c.closest.new.hold, c.in-Ok.ensures.ok, refl) })

pub returns-in-Err-clause-err : goal.returns-in-Err-clause-err
returns-in-Err-clause-err g c =
    subst (λ (w : Wants). Fails g.H.Hold.does c.args.setting.now c.args.at w c.args.hold.now c.closest.new.hold) (sym c.in-Nodes.is)
    (record { did = on_table (near_call c.args.setting.now.policy c.in-Nodes.target c.args.setting.now.k) NoMemory ∷ []; fails = refl; run = (c.closest.new.hold, c.in-Err.ensures.err, refl) })

pub returns-in-Ok-closest-clause-ok : goal.returns-in-Ok-closest-clause-ok
returns-in-Ok-closest-clause-ok g c =
    subst (λ (w : Wants). Gathers g.H.Hold.does c.args.setting.now c.args.at w (gained.Peers c.in-Ok-list.list c.in-Ok-closest.nodes) c.args.hold.now c.closest-in-Ok-list.new.hold) (sym c.in-Peers.is)
    (record { fits = tt; run = (c.list.new.hold, c.in-Ok-list.ensures.ok, (c.closest-in-Ok-list.new.hold, c.in-Ok-closest.ensures.ok, refl)) })

pub returns-in-Err-closest-clause-err : goal.returns-in-Err-closest-clause-err
returns-in-Err-closest-clause-err g c =
    subst (λ (w : Wants). Fails g.H.Hold.does c.args.setting.now c.args.at w c.args.hold.now c.closest-in-Ok-list.new.hold) (sym c.in-Peers.is)
    (record { did = on_peers (List_call c.in-Peers.key c.args.at c.in-Peers.first) (Listed c.in-Ok-list.list) ∷ on_table (near_call c.args.setting.now.policy c.in-Peers.key c.args.setting.now.k) NoMemory ∷ []; fails = inr (c.in-Ok-list.list, refl); run = (c.list.new.hold, c.in-Ok-list.ensures.ok, (c.closest-in-Ok-list.new.hold, c.in-Err-closest.ensures.err, refl)) })

pub returns-in-Err-list-clause-err : goal.returns-in-Err-list-clause-err
returns-in-Err-list-clause-err g c =
    subst (λ (w : Wants). Fails g.H.Hold.does c.args.setting.now c.args.at w c.args.hold.now c.list.new.hold) (sym c.in-Peers.is)
    (record { did = on_peers (List_call c.in-Peers.key c.args.at c.in-Peers.first) No_peer_memory ∷ []; fails = inl refl; run = (c.list.new.hold, c.in-Err-list.ensures.err, refl) })

pub returns-in-Place-clause-ok : goal.returns-in-Place-clause-ok
returns-in-Place-clause-ok g c =
    subst (λ (w : Wants). IfOk c.place.result (λ x. Gathers g.H.Hold.does c.args.setting.now c.args.at w x c.args.hold.now c.place.new.hold)) (sym c.in-Place.is)
    (ok_at c.place.result (λ s x. Gathers g.H.Hold.does s c.args.at (Place c.in-Place.key c.in-Place.peer) x c.args.hold.now c.place.new.hold) c.args.setting.now c.place.ensures.ok)

pub returns-in-Place-clause-err : goal.returns-in-Place-clause-err
returns-in-Place-clause-err g c =
    subst (λ (w : Wants). OnErr c.place.result (Fails g.H.Hold.does c.args.setting.now c.args.at w c.args.hold.now c.place.new.hold)) (sym c.in-Place.is)
    (err_at c.place.result (λ s. Fails g.H.Hold.does s c.args.at (Place c.in-Place.key c.in-Place.peer) c.args.hold.now c.place.new.hold) c.args.setting.now c.place.ensures.err)

pub returns-in-Keep-clause-ok : goal.returns-in-Keep-clause-ok
returns-in-Keep-clause-ok g c =
    subst (λ (w : Wants). IfOk c.keep.result (λ x. Gathers g.H.Hold.does c.args.setting.now c.args.at w x c.args.hold.now c.keep.new.hold)) (sym c.in-Keep.is)
    (ok_at c.keep.result (λ s x. Gathers g.H.Hold.does s c.args.at (Keep c.in-Keep.v c.in-Keep.from) x c.args.hold.now c.keep.new.hold) c.args.setting.now c.keep.ensures.ok)

pub returns-in-Keep-clause-err : goal.returns-in-Keep-clause-err
returns-in-Keep-clause-err g c =
    subst (λ (w : Wants). OnErr c.keep.result (Fails g.H.Hold.does c.args.setting.now c.args.at w c.args.hold.now c.keep.new.hold)) (sym c.in-Keep.is)
    (err_at c.keep.result (λ s. Fails g.H.Hold.does s c.args.at (Keep c.in-Keep.v c.in-Keep.from) c.args.hold.now c.keep.new.hold) c.args.setting.now c.keep.ensures.err)

pub returns-in-Ok-closest-2-clause-ok : goal.returns-in-Ok-closest-2-clause-ok
returns-in-Ok-closest-2-clause-ok g c =
    subst (λ (w : Wants). Gathers g.H.Hold.does c.args.setting.now c.args.at w (gained.Item c.in-Ok-get.v c.in-Ok-closest-2.nodes) c.args.hold.now c.closest-in-Ok-get.new.hold) (sym c.in-Item.is)
    (record { fits = tt; run = (c.get.new.hold, c.in-Ok-get.ensures.ok, (c.closest-in-Ok-get.new.hold, c.in-Ok-closest-2.ensures.ok, refl)) })

pub returns-in-Err-closest-2-clause-err : goal.returns-in-Err-closest-2-clause-err
returns-in-Err-closest-2-clause-err g c =
    subst (λ (w : Wants). Fails g.H.Hold.does c.args.setting.now c.args.at w c.args.hold.now c.closest-in-Ok-get.new.hold) (sym c.in-Item.is)
    (record { did = on_items (Get_call c.in-Item.key c.args.at) (item_reply c.in-Ok-get.v) ∷ on_table (near_call c.args.setting.now.policy c.in-Item.key c.args.setting.now.k) NoMemory ∷ []; fails = inr (c.in-Ok-get.v, refl); run = (c.get.new.hold, c.in-Ok-get.ensures.ok, (c.closest-in-Ok-get.new.hold, c.in-Err-closest-2.ensures.err, refl)) })

pub returns-in-Err-get-clause-err : goal.returns-in-Err-get-clause-err
returns-in-Err-get-clause-err g c =
    subst (λ (w : Wants). Fails g.H.Hold.does c.args.setting.now c.args.at w c.args.hold.now c.get.new.hold) (sym c.in-Item.is)
    (record { did = on_items (Get_call c.in-Item.key c.args.at) No_item_memory ∷ []; fails = inl refl; run = (c.get.new.hold, c.in-Err-get.ensures.err, refl) })
