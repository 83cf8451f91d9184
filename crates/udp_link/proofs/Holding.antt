-- Datagrams are taken into a room one after another.
use Rattle.std.proofs.Common.{◌++◌, ◌∷◌, [], List, rules}
use Rattle.std.proofs.lemmas.List.{append-nil, append_assoc}
use Rattle.udp_link.specs.declared.room.Held.{Held}
use Rattle.udp_link.specs.Held.{More, OneMore}

-- at first there are none more
pub none_more : (held : List Held) → More held held
none_more held = record { more = []; were = search (rules, append-nil) }

-- one more behind some more
pub then_one : (before middle after : List Held) → More before middle → OneMore middle after → More before after
then_one before middle after some one = record {
  more = some.more ++ one.last ∷ [];
  were = search (rules, append_assoc, some.were, one.were);
}
