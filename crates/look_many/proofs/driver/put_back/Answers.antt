use Rattle.std.proofs.Common.{◌≡◌, ◌++◌, ◌∷◌, [], length, ap, ◌∙◌, arith}
use Rattle.std.specs.Prelude.{map, reverse}
use Rattle.lookup_crowd.specs.declared.seeker.Seeker.{Seeker}
use Rattle.look_many.proofs.Back.{are_back, have_all}
use Rattle.look_many.proofs.driver.put_back.Goals as goal

pub gather-requires-clause-room : goal.gather-requires-clause-room
gather-requires-clause-room c =
    let front = ap length (c.push.ensures.list ∙ ap (λ l. l ++ c.into_passes-table_pass.result.0 ∷ []) c.requires.empty.table) in
    let room = c.push.ensures.room in
    let given = c.requires.empty.room.table in
    omega (arith, front, room, given)

pub returns-clause-all : goal.returns-clause-all
returns-clause-all c =
    let table_is : c.gather.new.row.passes ≡ c.args.host.table ∷ map (λ (k : Seeker). k.pass) (reverse c.args.seekers.items) =
    c.gather.ensures.row ∙ ap (λ l. l ++ map (λ (k : Seeker). k.pass) (reverse c.args.seekers.items)) (c.push.ensures.list ∙ ap (λ l. l ++ c.into_passes-table_pass.result.0 ∷ []) c.requires.empty.table ∙ ap (λ x. x ∷ []) c.into_passes-table_pass.ensures.table) in
    let peers_is : c.push-2.new.self.passes ≡ c.args.host.peers ∷ [] = c.push-2.ensures.list ∙ ap (λ l. l ++ c.into_passes-table_pass.result.1 ∷ []) c.requires.empty.peers ∙ ap (λ x. x ∷ []) c.into_passes-table_pass.ensures.peers in
    let items_is : c.push-3.new.self.passes ≡ c.args.host.items ∷ [] = c.push-3.ensures.list ∙ ap (λ l. l ++ c.into_passes-table_pass.result.2 ∷ []) c.requires.empty.items ∙ ap (λ x. x ∷ []) c.into_passes-table_pass.ensures.items in
    have_all c.args.desk.now c.args.seekers.items c.args.host c.requires.own (record { table = c.gather.new.row; peers = c.push-2.new.self; items = c.push-3.new.self }) table_is peers_is items_is c.requires.seated c.requires.turns

pub returns-clause-back : goal.returns-clause-back
returns-clause-back c =
    let table_is : c.gather.new.row.passes ≡ c.args.host.table ∷ map (λ (k : Seeker). k.pass) (reverse c.args.seekers.items) =
    c.gather.ensures.row ∙ ap (λ l. l ++ map (λ (k : Seeker). k.pass) (reverse c.args.seekers.items)) (c.push.ensures.list ∙ ap (λ l. l ++ c.into_passes-table_pass.result.0 ∷ []) c.requires.empty.table ∙ ap (λ x. x ∷ []) c.into_passes-table_pass.ensures.table) in
    let peers_is : c.push-2.new.self.passes ≡ c.args.host.peers ∷ [] = c.push-2.ensures.list ∙ ap (λ l. l ++ c.into_passes-table_pass.result.1 ∷ []) c.requires.empty.peers ∙ ap (λ x. x ∷ []) c.into_passes-table_pass.ensures.peers in
    let items_is : c.push-3.new.self.passes ≡ c.args.host.items ∷ [] = c.push-3.ensures.list ∙ ap (λ l. l ++ c.into_passes-table_pass.result.2 ∷ []) c.requires.empty.items ∙ ap (λ x. x ∷ []) c.into_passes-table_pass.ensures.items in
    are_back c.args.desk.now c.args.seekers.items c.args.host c.requires.own (record { table = c.gather.new.row; peers = c.push-2.new.self; items = c.push-3.new.self }) table_is peers_is items_is c.requires.alone c.requires.roles
