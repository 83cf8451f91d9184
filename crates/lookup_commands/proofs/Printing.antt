-- What the printing of peers writes, piece by piece.
use Rattle.std.proofs.Common.{◌≡◌, ℕ, ◌+◌, ◌<◌, ◌≤◌, List, [], ◌∷◌, ◌++◌, length, take, get_or, refl, sym, ap, ◌∙◌}
use Rattle.std.specs.Prelude.{codes, flat_map, decimal}
use Rattle.std.proofs.lemmas.List.{append_assoc, append-nil, take_all, take_more}
use Rattle.std.proofs.lemmas.Grind.{flat_map-append}
use Rattle.kad_base.specs.declared.types.Addr.{Addr}
use Rattle.kad_text.specs.Text.{addr_text}
use Rattle.command_base.specs.Printed.{counts_text, line_of}
use Rattle.lookup_commands.specs.Printed.{peers_text, printed_peers}

pub peers_pieces : (peers found asked failed turned announced : ℕ) (counts : List ℕ) → counts ≡ counts_text found asked failed turned
    → codes "peers " ++ (decimal peers ++ (codes " " ++ (counts ++ (codes " announced " ++ decimal announced)))) ≡ peers_text peers found asked failed turned announced
peers_pieces peers found asked failed turned announced counts e =
    rw e (pieces (codes "peers ") (decimal peers) (codes " ") (counts_text found asked failed turned) (codes " announced ") (decimal announced))
  where
    pieces : (a b c d e f : List ℕ) → a ++ (b ++ (c ++ (d ++ (e ++ f)))) ≡ a ++ b ++ c ++ d ++ e ++ f
    pieces a b c d e f = sym (simp append_assoc refl)

-- one peer more
pub peer_more : (peers : List Addr) (output after : List ℕ) (k : ℕ) (d : Addr) (text : List ℕ) → k < length peers
    → output ≡ flat_map (λ a. line_of (addr_text a)) (take k peers) → text ≡ addr_text (get_or peers k d) → after ≡ output ++ line_of text
    → after ≡ flat_map (λ a. line_of (addr_text a)) (take (k + 1) peers)
peer_more peers output after k d text lt o t a =
    let f : Addr → List ℕ = λ x. line_of (addr_text x) in
    let more = flat_map-append f (take k peers) (get_or peers k d ∷ []) in
    let one = append-nil (f (get_or peers k d)) in
    a ∙ rw (o, t) (ap (λ (l : List ℕ). flat_map f (take k peers) ++ l) (sym one)) ∙ sym more ∙ ap (flat_map f) (sym (take_more peers k d lt))

-- every peer is printed, and then the counts
pub peers_end : (peers : List Addr) (output after text : List ℕ) (k found asked failed turned announced : ℕ) → length peers ≤ k → output ≡ flat_map (λ a. line_of (addr_text a)) (take k peers)
    → text ≡ peers_text (length peers) found asked failed turned announced → after ≡ output ++ line_of text → after ≡ printed_peers peers found asked failed turned announced
peers_end peers output after text k found asked failed turned announced le o t a = a ∙ rw (o, t, take_all k peers le) refl
