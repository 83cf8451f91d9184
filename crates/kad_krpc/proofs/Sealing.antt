-- The pair of a tag in the text of a dictionary: taken out, put in, and both.
use Rattle.std.proofs.Common.{◌≡◌, ℕ, ◌-◌, true, false, List, ◌++◌, length, take, drop, Some, None, refl, sym, ap, ◌∙◌, arith, append-nil}
use Rattle.std.specs.Prelude.{codes}
use Rattle.std.proofs.lemmas.List.{take_all, length-drop}
use Rattle.kad_bencode.specs.Keys.{put, value_of, without}
use Rattle.kad_bencode.specs.Parts.{bytes_in, bytes_of, member_in, member_of}
use Rattle.kad_bencode.specs.Spelling.{string_text, text_of}
use Rattle.kad_bencode.specs.Placing.{IsPlaceFor}
use Rattle.kad_bencode.specs.Written.{Puts, PutsPairs}
use Rattle.kad_bencode.specs.declared.entries.Pair.{Pair}
use Rattle.kad_bencode.specs.declared.value.Value.{Value}
use Rattle.kad_bencode.specs.declared.value.Value.TheVariants.{Text, Dict}
use Rattle.kad_bencode.proofs.Added.{spelled_put, value_put_same, without_put}
use Rattle.kad_bencode.proofs.Folds.{in_order-text}
use Rattle.kad_bencode.proofs.Formed.{has_member, its_text}
use Rattle.kad_bencode.proofs.Layers.{dict_is, same_dict, text_is}
use Rattle.kad_bencode.proofs.Limits.{fits_text}
use Rattle.kad_bencode.proofs.Ordered.{spelled_fits}
use Rattle.kad_bencode.proofs.Putting.{puts_then, puts_same}
use Rattle.kad_krpc.specs.Fields.{pair}
use Rattle.kad_krpc.specs.declared.message.Message.{Message}
use Rattle.kad_krpc.specs.declared.message.Message.TheVariants as message
use Rattle.kad_krpc.specs.Form.{HasForms, form, message_pairs}
use Rattle.kad_krpc.specs.Seal.{BearsTag, IsBodyOf, IsTagged, IsUntagged, LacksTag, tagged}
use Rattle.kad_krpc.specs.WellTyped.{IsWell}
use Rattle.kad_krpc.proofs.Spelled.{spelled}

-- ---- taken apart

pub has_tag : (v value : Value) (tag : List ℕ) → Some value ≡ member_of v (codes "sg") → Some tag ≡ bytes_of value → BearsTag v tag
has_tag v value tag e f = let m = has_member v (codes "sg") value (sym e) in (m.0, m.1, m.2 ∙ ap Some (its_text value tag (sym f)))

member_is : (v : Value) (pairs : List (Pair Value)) (tag : List ℕ) → v ≡ Dict pairs → value_of pairs (codes "sg") ≡ Some (Text tag) → member_of v (codes "sg") ≡ Some (Text tag)
member_is v pairs tag e f = ap (λ u. member_of u (codes "sg")) e ∙ dict_is (λ y. member_in y (codes "sg")) pairs ∙ f

pub no_member : (v : Value) → None ≡ member_of v (codes "sg") → LacksTag v
no_member v n pairs tag e f = let g : None ≡ Some (Text tag) = n ∙ member_is v pairs tag e f in cc

pub no_string : (v value : Value) → Some value ≡ member_of v (codes "sg") → None ≡ bytes_of value → LacksTag v
no_string v value m n pairs tag e f =
    let s : Some value ≡ Some (Text tag) = m ∙ member_is v pairs tag e f in
    let t : value ≡ Text tag = cc in
    let g : None ≡ Some tag = n ∙ ap bytes_of t ∙ text_is bytes_in tag in cc

pub whole_parts : (v : Value) (tag copy body : List ℕ) → BearsTag v tag → copy ≡ tag
    → ((pairs : List (Pair Value)) (w : Value) → v ≡ Dict pairs → value_of pairs (codes "sg") ≡ Some w → body ≡ text_of (Dict (without pairs (codes "sg"))))
    → BearsTag v copy × IsBodyOf v body
whole_parts v tag copy body b e put = (
  (b.0, b.1, b.2 ∙ ap (λ s. Some (Text s)) (sym e)),
  λ pairs d. put pairs (Text tag) d (ap (λ l. value_of l (codes "sg")) (same_dict pairs b.0 (sym d ∙ b.1)) ∙ b.2),
)

-- ---- with the pair

pub puts_tagged : {old one two new : List ℕ} {n m next : ℕ} (bytes tag : List ℕ) (pairs : List (Pair Value)) (place : ℕ)
    → IsPlaceFor bytes (codes "sg") place → IsUntagged bytes pairs
    → Puts old one 0 (take place bytes) n → PutsPairs one two n (pair (codes "sg") (Text tag)) m → Puts two new m (take (length bytes - place) (drop place bytes)) next
    → Puts old new 0 (tagged pairs tag) next
puts_tagged bytes tag pairs place is u f g h =
    puts_then (is pairs u.written (spelled_fits bytes (Dict pairs) u.spelled) u.no_tag (Text tag)) f
    (puts_then (ap (λ l. l ++ drop place bytes) (sym (append-nil (string_text (codes "sg") ++ text_of (Text tag)))))
    g (puts_same (sym (take_all (length bytes - place) (drop place bytes) (let l = length-drop place bytes in omega (arith, l)))) h))

-- ---- on, and off again

no_tag : (m : Message) → value_of (message_pairs m) (codes "sg") ≡ None
no_tag (message.Query tx true proof ask) = refl
no_tag (message.Query tx false proof ask) = refl
no_tag (message.Answer tx answer) = refl
no_tag (message.Fault tx code said) = refl

pub untagged : (m : Message) → IsWell m → HasForms m → IsUntagged (form m) (message_pairs m)
unfolding form
untagged m w f = record { written = refl; spelled = spelled m w f; no_tag = no_tag m }

pub taken_off : (bytes tag : List ℕ) (pairs : List (Pair Value)) → IsUntagged bytes pairs → IsTagged (tagged pairs tag) bytes tag
taken_off bytes tag pairs u = record {
  pairs = put pairs (codes "sg") (Text tag);
  spelled = spelled_put bytes pairs u.spelled (codes "sg") (Text tag) (fits_text 1 tag (omega arith)) (in_order-text tag);
  tag_is = value_put_same pairs (codes "sg") (Text tag);
  body_is = u.written ∙ ap (λ l. text_of (Dict l)) (sym (without_put pairs (codes "sg") (Text tag) u.no_tag));
}
