-- What callers see of a book.
use Rattle.std.specs.Prelude.{List, [], ◌∷◌, ◌++◌}
use Rattle.claim_book.specs.declared.types.Setting.{Setting}
use Rattle.claim_book.specs.declared.types.Entry.{Entry}

pub record BookState : Type 0 where
  pub setting : Setting
  pub journal : List Entry

-- the book with one more entry
abbrev pub added : BookState → Entry → BookState
added book e = record { setting = book.setting; journal = book.journal ++ e ∷ [] }
