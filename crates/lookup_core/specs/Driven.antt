-- Of a journal's entries, those that its driver made.
use Rattle.std.specs.Prelude.{List, filter, Bool, true, false}
use Rattle.claim_book.specs.declared.types.Entry.{Entry}
use Rattle.claim_book.specs.declared.types.Entry.TheVariants.{Ask, Heard, Lost}

-- what was asked, heard and lost
abbrev pub is_driven : Entry → Bool
is_driven (Ask p c) = true
is_driven (Heard p c reports) = true
is_driven (Lost p c cause) = true
is_driven other = false

-- these alone, in order
unfoldable pub driven : List Entry → List Entry
driven J = filter is_driven J
