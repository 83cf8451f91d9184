-- A reply has few parts.
use Rattle.std.proofs.Common.{ℕ, ◌+◌, ◌*◌, ◌<◌, ◌≤◌, Bool, not, List, [], ◌∷◌, ◌++◌, length, filter, pos, Option, Some, None, refl, arith, length-append}
use Rattle.std.specs.Prelude.{option_to_list, IfSome}
use Rattle.std.proofs.lemmas.List.{length-map, length-take}
use Rattle.std.proofs.lemmas.List.Filters.{length-filter_both}
use Rattle.kad_base.specs.Limits.{max_answered_tx}
use Rattle.kad_base.specs.Puzzles.{hash}
use Rattle.kad_base.specs.declared.types.Addr.{Addr}
use Rattle.kad_base.specs.declared.types.Contact.{Contact}
use Rattle.kad_base.specs.declared.types.Report.{Report}
use Rattle.kad_bencode.specs.Spelling.{numeral, integer_text}
use Rattle.kad_krpc.specs.Records.{ip_bytes}
use Rattle.node_tokens.specs.Tokens.{epoch_at, token_of, secret_of}
use Rattle.node_serve.specs.Replies.{is_v4, reports_of_ipv4, shown_proof, proved, where_some, named}
use Rattle.node_serve.specs.Sizes.{IsSmall, count}
use Rattle.node_serve.proofs.Small.{numeral_short}
use Rattle.node_serve.specs.declared.nodes.Near.{Near}
use Rattle.node_serve.specs.declared.nodes.Near.TheVariants as near
use Rattle.node_serve.specs.declared.setting.ServeSetting.{ServeSetting}
use Rattle.node_serve.specs.declared.composing.Gained.{Gained}
use Rattle.node_serve.specs.declared.composing.Gained.TheVariants as gained
use Rattle.kad_krpc.specs.Form.{IsCarried}
use Rattle.kad_krpc.specs.declared.message.Message.TheVariants as message
use Rattle.item_store.specs.Items.{IsItem}
use Rattle.node_serve.specs.Calls.{nodes_near, snodes_near, found_from, tokened_from, peers_from, item_from}
use Rattle.node_serve.specs.Gains.{IsFew, count_near, reply_gained}

fewer : {X : Type 0} (p : X → Bool) (xs : List X) (n : ℕ) → length xs ≤ n → length (filter p xs) ≤ n
fewer p xs n f = let e = length-filter_both p (λ x. not (p x)) (λ x. refl) xs in omega (arith, e, f)

ipv4_few : (reports : List Report) → length reports ≤ 20 → length (reports_of_ipv4 reports) ≤ 20
ipv4_few reports h = fewer (λ (r : Report). is_v4 r.contact.addr.ip) reports 20 h

nodes_few : (closest : Near) → count_near closest ≤ 20 → length (nodes_near closest) ≤ 20
nodes_few (near.Listed list) h = fewer (λ (c : Contact). is_v4 c.addr.ip) list 20 h
nodes_few (near.Reported reports) h = (let e = length-map (reports_of_ipv4 reports) (λ (r : Report). r.contact) in let f = ipv4_few reports h in omega (arith, e, f))

one_kept : (o : Option Report) → length (option_to_list o) ≤ 1
one_kept None = omega arith
one_kept (Some r) = omega arith

proved_few : (proofs reports : List Report) → length (proved proofs reports) ≤ length reports
proved_few proofs [] = omega arith
proved_few proofs (c ∷ reports) =
    let a = length-append (option_to_list (shown_proof proofs c)) (proved proofs reports) in
    let o = one_kept (shown_proof proofs c) in
    let r = proved_few proofs reports in
    omega (arith, a, o, r)

snodes_few : (proofs : List Report) (closest : Near) → count_near closest ≤ 20 → count (snodes_near proofs closest) ≤ 20
snodes_few proofs (near.Listed list) h = omega arith
snodes_few proofs (near.Reported reports) h = (let p = proved_few proofs (reports_of_ipv4 reports) in let f = ipv4_few reports h in omega (arith, p, f))

token_few : (s : ServeSetting) (from : Addr) (at : ℕ) → length (token_of s.tokens.seed (epoch_at s.tokens at) (ip_bytes from.ip)) ≤ 8
unfolding token_of
token_few s from at = let e = length-take 8 (hash (ip_bytes from.ip ++ secret_of s.tokens.seed (epoch_at s.tokens at))) in omega (arith, e)

some_few : (peers : List Addr) → length peers ≤ 50 → count (where_some peers) ≤ 50
some_few [] h = omega arith
some_few (peer ∷ peers) h = h

code_short : (n : ℕ) → n < 1000 → length (integer_text (pos n)) ≤ 7
code_short n h =
    let e = length-append (numeral n) (101 ∷ []) in
    let f = numeral_short n (omega (arith, h)) in
    omega (arith, e, f)

module _ (s : ServeSetting) (from : Addr) (at : ℕ) (tx : List ℕ) (t : length tx ≤ max_answered_tx) where
  named_small : IsSmall (named tx s.own)
  named_small = (t, record { nodes = omega arith; snodes = omega arith; nodes6 = refl; snodes6 = refl; token = omega arith; v = tt; values = omega arith })

  found_small : (closest : Near) → count_near closest ≤ 20 → IsSmall (found_from tx s closest)
  found_small closest h =
      let n = nodes_few closest h in
      (t, record { nodes = n; snodes = snodes_few s.proofs closest h; nodes6 = refl; snodes6 = refl; token = omega arith; v = tt; values = omega arith })

  tokened_small : (closest : Near) (v : Option (List ℕ)) (values : Option (List Addr)) → count_near closest ≤ 20 → IfSome v IsCarried → count v + 20 * count values ≤ 1000 → IsSmall (message.Answer tx (tokened_from s from at closest v values))
  tokened_small closest v values h f few =
      let n = nodes_few closest h in
      (t, record { nodes = n; snodes = snodes_few s.proofs closest h; nodes6 = refl; snodes6 = refl; token = token_few s from at; v = f; values = few })

  peers_small : (list : List Addr) (closest : Near) → length list ≤ 50 → count_near closest ≤ 20 → IsSmall (peers_from tx s from at list closest)
  peers_small list closest l h = (let few = some_few list l in tokened_small closest None (where_some list) h tt (omega (arith, few)))

  item_small : (v : Option (List ℕ)) (closest : Near) → IfSome v IsItem → count_near closest ≤ 20 → IsSmall (item_from tx s from at v closest)
  item_small None closest i h = tokened_small closest None None h tt (omega arith)
  item_small (Some v) closest i h = tokened_small closest (Some v) None h i.written (let short = i.short in omega (arith, short))

  pub gained_small : (g : Gained) → IsFew g → IsSmall (reply_gained s from at tx g)
  gained_small gained.Name f = named_small
  gained_small (gained.Nodes nodes) f = found_small nodes f
  gained_small (gained.Peers list nodes) f = peers_small list nodes f.0 f.1
  gained_small (gained.Placed stored) f = named_small
  gained_small gained.HostFull f = (t, (code_short 202 (omega arith), omega arith))
  gained_small gained.Full f = (t, (code_short 202 (omega arith), omega arith))
  gained_small (gained.Item v nodes) f = item_small v nodes f.0 f.1
  gained_small (gained.Kept stored) f = named_small
  gained_small gained.HostCrowded f = (t, (code_short 202 (omega arith), omega arith))
  gained_small gained.Crowded f = (t, (code_short 202 (omega arith), omega arith))
  gained_small gained.RefuseToken f = (t, (code_short 203 (omega arith), omega arith))
  gained_small gained.RefuseMutable f = (t, (code_short 203 (omega arith), omega arith))
  gained_small gained.RefuseBig f = (t, (code_short 205 (omega arith), omega arith))
  gained_small gained.RefuseMethod f = (t, (code_short 204 (omega arith), omega arith))
