-- A byte string of two bytes is an item.
use Rattle.std.proofs.Common.{◌≡◌, ℕ, [], ◌∷◌, sym, arith}
use Rattle.kad_bencode.specs.Spelling.{depth_of}
use Rattle.kad_bencode.specs.declared.value.Value.{Value}
use Rattle.kad_bencode.specs.declared.value.Value.TheVariants.{Text}
use Rattle.kad_bencode.proofs.Folds.{text_of-text, depth_of-text, is_plain-text, in_order-text}
use Rattle.item_store.specs.Items.{IsItem}

pub two_bytes : (a b : ℕ) → IsItem (50 ∷ 58 ∷ a ∷ b ∷ [])
two_bytes a b =
    let value : Value = Text (a ∷ b ∷ []) in
    let flat : depth_of value ≡ 0 = depth_of-text (a ∷ b ∷ []) in
    record {
      short = omega arith;
      written = record {
        value = value;
        text = sym (text_of-text (a ∷ b ∷ []));
        fits = record { depth = omega (arith, flat); plain = is_plain-text (a ∷ b ∷ []) };
        ordered = in_order-text (a ∷ b ∷ []);
      };
    }
