-- The text of a list of peers.
use Rattle.std.proofs.Common.{◌≡◌, List, [], ◌∷◌, ◌++◌, map, refl, ap, ◌∙◌}
use Rattle.std.specs.Prelude.{flat_map}
use Rattle.std.specs.List.{concat}
use Rattle.kad_base.specs.declared.types.Addr.{Addr}
use Rattle.kad_bencode.specs.Spelling.{string_text, text_of}
use Rattle.kad_bencode.specs.declared.value.Value.TheVariants.{Text}
use Rattle.kad_bencode.proofs.Folds.{text_of-text, text_of-list}
use Rattle.kad_records.specs.Records.{addr_bytes, peers_value}

-- the texts of peers
each_peer : (peers : List Addr) → concat (map text_of (map (λ peer. Text (addr_bytes peer)) peers)) ≡ flat_map (λ peer. string_text (addr_bytes peer)) peers
each_peer [] = refl
each_peer (p ∷ ps) = (λ i. text_of-text (addr_bytes p) i ++ each_peer ps i)

pub peers_text : (peers : List Addr) → text_of (peers_value peers) ≡ (108 ∷ flat_map (λ peer. string_text (addr_bytes peer)) peers) ++ 101 ∷ []
peers_text peers = text_of-list (map (λ peer. Text (addr_bytes peer)) peers) ∙ ap (λ l. 108 ∷ l ++ 101 ∷ []) (each_peer peers)
