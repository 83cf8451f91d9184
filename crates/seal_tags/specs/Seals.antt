-- The tags of a group, whose members share a key.
use Rattle.std.specs.Prelude.{ℕ, Bool, List, ◌++◌}
use Rattle.std.specs.Str.{bytes_eq}
use Rattle.kad_base.specs.declared.types.Id.{Id}
use Rattle.seal_tags.specs.Hmac.{hmac}

-- the tag of what the node says: the HMAC of its identifier and its bytes under the group's key
abbrev pub group_tag : List ℕ → Id → List ℕ → List ℕ
group_tag key id body = hmac key (id.0 ++ body)

-- whether the tag is that one
abbrev pub is_group_tag : List ℕ → Id → List ℕ → List ℕ → Bool
is_group_tag key id body tag = bytes_eq tag (group_tag key id body)
