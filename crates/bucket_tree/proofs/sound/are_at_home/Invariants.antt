use Rattle.std.proofs.Common.{take}
use Rattle.std.specs.List.{All}
use Rattle.bucket_tree.specs.States.{IsHome}
use Rattle.bucket_tree.specs.Trees.{IsWhole}
use Rattle.bucket_tree.proofs.sound.are_at_home.Given as goal

abbrev pub invariant-loop-contact : goal.invariant-loop-contact
invariant-loop-contact l = record {
  home : All (IsHome l.own l.prefix) (take l.contact-index l.contacts);
  whole : All (λ c. IsWhole c.id) (take l.contact-index l.contacts);
}
