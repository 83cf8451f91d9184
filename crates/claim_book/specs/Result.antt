-- What a lookup finds.
use Rattle.std.specs.Prelude.{List}
use Rattle.kad_base.specs.declared.types.Contact.{Contact}
use Rattle.kad_base.specs.Contacts.{without}
use Rattle.kad_distance.specs.KClosest.{k_closest}
use Rattle.claim_book.specs.declared.types.Setting.{Setting}
use Rattle.claim_book.specs.declared.types.Entry.{Entry}
use Rattle.claim_book.specs.Journal.{took, failed}

-- the k closest of all contacts that the paths began with or took and that were not lost
unfoldable pub result_of : Setting → List Entry → List Contact
result_of s J = k_closest s.target s.k (without (took J) (failed J))
