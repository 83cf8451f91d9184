-- What a look-up finds.
use Rattle.std.proofs.Common.{◌≡◌, ℕ, Bool, true, false, cond, List, [], ◌∷◌, Option, Some, None, refl, sym, ◌∙◌, subst}
use Rattle.std.specs.List.{All}
use Rattle.std.specs.Option.{IfSome}
use Rattle.std.proofs.lemmas.List.Elements.{All-head, All-tail}
use Rattle.std.proofs.lemmas.Map.Text.{is_eq-slice_cmp}
use Rattle.std.proofs.lemmas.Slice.Eq.{bytes_eq-Decides}
use Rattle.std.specs.Ordering.{is_eq}
use Rattle.kad_base.specs.Puzzles.{hash}
use Rattle.kad_base.specs.declared.types.Id.{Id}
use Rattle.aged_map.specs.PerHost.{limited}
use Rattle.item_store.specs.declared.held.Item.{Item}
use Rattle.std.specs.Prelude.{if◌then◌else◌}
use Rattle.item_store.specs.Items.{Held, ItemsState, IsItem, IsSound, key_cmp, is_fresh, found, if_fresh, handed_out}

-- what stands under a key
pub record Stands (key : Id) (v : List ℕ) : Type 0 where
  pub item : IsItem v
  pub of_key : key.0 ≡ hash v

found_sound : (per : ℕ) (held : List Held) (key : Id) → All IsSound held → IfSome (found (limited per held) key) (λ i. Stands key i.v)
found_sound per [] key all = tt
found_sound per (h ∷ held) key all =
    by (is_eq (key_cmp key h.0)) refl (found_sound per held key (All-tail IsSound h held all))
  where
    by : (b : Bool) → is_eq (key_cmp key h.0) ≡ b → IfSome (found (limited per held) key) (λ i. Stands key i.v) → IfSome (cond b (Some h.1) (found (limited per held) key)) (λ i. Stands key i.v)
    by true e rest =
        let sound = All-head IsSound h held all in
        let same : key.0 ≡ h.0.0 = (bytes_eq-Decides key.0 h.0.0).0 (sym (is_eq-slice_cmp key.0 h.0.0) ∙ e) in
        record { item = sound.item; of_key = same ∙ sound.key }
    by false e rest = rest

-- a found item stands under its key
pub stands_at : (s : ItemsState) (key : Id) (i : Item) (v : List ℕ) → All IsSound s.held → Some i ≡ found s key → v ≡ i.v → Stands key v
stands_at s key i v all is same =
    let stands : Stands key i.v = subst (λ o. IfSome o (λ j. Stands key j.v)) (sym is) (found_sound s.per_host s.held key all) in
    subst (Stands key) (sym same) stands

none_some : {A : Type 0} {x : A} → ◌≡◌ {A = Option A} None (Some x) → ⊥
none_some e = cc

some_same : {A : Type 0} {x y : A} → ◌≡◌ {A = Option A} (Some x) (Some y) → x ≡ y
some_same e = cc

-- what is handed out is an item
pub handed_item : (s : ItemsState) (key : Id) (at : ℕ) (v : List ℕ) → All IsSound s.held → handed_out s key at ≡ Some v → IsItem v
handed_item s key at v all is = by (found s key) refl is
  where
    by_test : (i : Item) (b : Bool) → Some i ≡ found s key → (if b then Some i.v else None) ≡ Some v → IsItem v
    by_test i true e f = (stands_at s key i v all e (sym (some_same f))).item
    by_test i false e f = absurd (none_some f)

    by : (o : Option Item) → o ≡ found s key → if_fresh at o ≡ Some v → IsItem v
    by None e f = absurd (none_some f)
    by (Some i) e f = by_test i (is_fresh at i) e f
