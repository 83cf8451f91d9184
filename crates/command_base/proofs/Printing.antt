-- What the printing calls write, piece by piece.
use Rattle.std.proofs.Common.{◌≡◌, ℕ, ◌+◌, ◌<◌, ◌≤◌, List, [], ◌∷◌, ◌++◌, length, take, get_or, Result, Ok, Err, IfOk, refl, sym, ap, ◌∙◌, string_bytes}
use Rattle.std.specs.Prelude.{codes, String, flat_map, decimal}
use Rattle.std.proofs.lemmas.List.{append_assoc, append-nil, take_all, take_more}
use Rattle.std.proofs.lemmas.Grind.{flat_map-append}
use Rattle.kad_base.specs.declared.types.Contact.{Contact}
use Rattle.kad_text.specs.Text.{contact_text}
use Rattle.command_base.specs.Printed.{counts_text, line_of, printed}

-- a text that was written in these pieces
pub pieces_are : {Z E : Type 0} (r : Result (String Z) E) (x y : List ℕ) → IfOk r (λ s. string_bytes s ≡ x) → x ≡ y → IfOk r (λ s. string_bytes s ≡ y)
pieces_are (Ok s) x y h e = h ∙ e
pieces_are (Err f) x y h e = tt

pub counts_pieces : (found asked failed turned : ℕ)
    → codes "found " ++ (decimal found ++ (codes " asked " ++ (decimal asked ++ (codes " failed " ++ (decimal failed ++ (codes " turned " ++ decimal turned)))))) ≡ counts_text found asked failed turned
counts_pieces found asked failed turned = sym (simp append_assoc refl)

-- one contact more
pub line_more : (found : List Contact) (output after : List ℕ) (k : ℕ) (d : Contact) (text : List ℕ) → k < length found
    → output ≡ flat_map (λ c. line_of (contact_text c)) (take k found) → text ≡ contact_text (get_or found k d) → after ≡ output ++ line_of text
    → after ≡ flat_map (λ c. line_of (contact_text c)) (take (k + 1) found)
line_more found output after k d text lt o t a =
    let f : Contact → List ℕ = λ c. line_of (contact_text c) in
    let more = flat_map-append f (take k found) (get_or found k d ∷ []) in
    let one = append-nil (f (get_or found k d)) in
    a ∙ rw (o, t) (ap (λ (l : List ℕ). flat_map f (take k found) ++ l) (sym one)) ∙ sym more ∙ ap (flat_map f) (sym (take_more found k d lt))

-- every contact is printed, and then the counts
pub print_end : (found : List Contact) (output after text : List ℕ) (k asked failed turned : ℕ) → length found ≤ k → output ≡ flat_map (λ c. line_of (contact_text c)) (take k found)
    → text ≡ counts_text (length found) asked failed turned → after ≡ output ++ line_of text → after ≡ printed found asked failed turned
print_end found output after text k asked failed turned le o t a = a ∙ rw (o, t, take_all k found le) refl
