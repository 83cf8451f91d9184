-- What is printed. The lines are this project's own.
use Rattle.std.specs.Prelude.{ℕ, List, ◌++◌, length, codes, decimal, flat_map}
use Rattle.kad_base.specs.declared.types.Contact.{Contact}
use Rattle.kad_text.specs.Text.{contact_text}
use Rattle.claim_book.specs.declared.types.Setting.{Setting}
use Rattle.claim_book.specs.declared.types.Entry.{Entry}
use Rattle.claim_book.specs.Journal.{asked, failed, turned}
use Rattle.claim_book.specs.Result.{result_of}

-- a text as a line
abbrev pub line_of : List ℕ → List ℕ
line_of text = text ++ codes "\n"

-- the last line of a lookup: how many contacts it found, how many queries it made, how many contacts failed, and how
-- many reports were turned away
abbrev pub counts_text : ℕ → ℕ → ℕ → ℕ → List ℕ
counts_text found asked failed turned = codes "found " ++ decimal found ++ codes " asked " ++ decimal asked ++ codes " failed " ++ decimal failed ++ codes " turned " ++ decimal turned

-- the output of a lookup: a line for each contact found, in order, and the counts
abbrev pub printed : List Contact → ℕ → ℕ → ℕ → List ℕ
printed found asked failed turned = flat_map (λ contact. line_of (contact_text contact)) found ++ line_of (counts_text (length found) asked failed turned)

-- the text of a journal
abbrev pub printed_of : Setting → List Entry → List ℕ
printed_of setting J = printed (result_of setting J) (length (asked J)) (length (failed J)) (length (turned J))
