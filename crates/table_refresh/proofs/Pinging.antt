-- The ping, spelled out: an identifier has 20 bytes, and a transaction id four.
use Rattle.std.proofs.Common.{◌≡◌, ℕ, true, List, [], ◌∷◌, ◌++◌, length, pos, None, ap, ◌∙◌, append-nil, append_assoc}
use Rattle.std.specs.Prelude.{codes}
use Rattle.kad_base.specs.declared.types.Id.{Id}
use Rattle.kad_bencode.specs.Spelling.{string_text, pairs_text, text_of}
use Rattle.kad_bencode.specs.declared.value.Value.TheVariants.{Text, Dict}
use Rattle.kad_bencode.proofs.Folds.{text_of-int, text_of-text, text_of-dict}
use Rattle.kad_krpc.specs.declared.message.Ask.TheVariants.{Ping}
use Rattle.kad_krpc.specs.declared.message.Message.TheVariants as message
use Rattle.kad_krpc.specs.Form.{pair, message_pairs, form}
use Rattle.kad_krpc.proofs.Queries.{text_long}

one_joined : (k v e : List ℕ) → ((k ++ v) ++ []) ++ e ≡ k ++ (v ++ e)
one_joined k v e = simp (append_assoc, append-nil)

five_joined : (j u k v l w m x n y e : List ℕ) → ((j ++ u) ++ ((k ++ v) ++ ((l ++ w) ++ ((m ++ x) ++ ((n ++ y) ++ []))))) ++ e ≡ j ++ (u ++ (k ++ (v ++ (l ++ (w ++ (m ++ (x ++ (n ++ (y ++ e)))))))))
five_joined j u k v l w m x n y e = simp (append_assoc, append-nil)

whole_joined : (a k e m t z : List ℕ) → (a ++ (k ++ e)) ++ (m ++ (t ++ z)) ≡ a ++ k ++ (e ++ m) ++ t ++ z
whole_joined a k e m t z = simp append_assoc

id_text : (id : Id) → length id.0 ≡ 20 → text_of (Dict (pair (codes "id") (Text id.0))) ≡ codes "d2:id20:" ++ (id.0 ++ codes "e")
id_text id a =
    text_of-dict (pair (codes "id") (Text id.0))
    ∙ (λ i. codes "d" ++ pairs_text (record { key = codes "id"; value = text_long id.0 20 a i } ∷ []) ++ codes "e")
    ∙ ap (λ l. codes "d" ++ l) (one_joined (string_text (codes "id")) (codes "20:" ++ id.0) (codes "e"))

-- the read-only ping of a node
pub ping_text : (own : Id) (tx : List ℕ) → length own.0 ≡ 20 → length tx ≡ 4 → form (message.Query tx true None (Ping own)) ≡ codes "d1:ad2:id20:" ++ own.0 ++ codes "e1:q4:ping2:roi1e1:t4:" ++ tx ++ codes "1:y1:qe"
unfolding form
ping_text own tx a t =
    text_of-dict (message_pairs (message.Query tx true None (Ping own)))
    ∙ (λ i. codes "d" ++ pairs_text (
    record { key = codes "a"; value = id_text own a i }
    ∷ record { key = codes "q"; value = text_of-text (codes "ping") i }
    ∷ record { key = codes "ro"; value = text_of-int (pos 1) i }
    ∷ record { key = codes "t"; value = text_long tx 4 t i }
    ∷ record { key = codes "y"; value = text_of-text (codes "q") i }
    ∷ []) ++ codes "e")
    ∙ ap (λ l. codes "d" ++ l) (five_joined (codes "1:a") (codes "d2:id20:" ++ (own.0 ++ codes "e")) (codes "1:q") (codes "4:ping") (codes "2:ro") (codes "i1e") (codes "1:t") (codes "4:" ++ tx) (codes "1:y") (codes "1:q") (codes "e"))
    ∙ whole_joined (codes "d1:ad2:id20:") own.0 (codes "e") (codes "1:q4:ping2:roi1e1:t4:") tx (codes "1:y1:qe")
