-- What is kept stays so through an add and a purge.
use Rattle.std.proofs.Common.{◌≡◌, ◌↔◌, ℕ, ◌≤◌, List, [], ◌∷◌, length, Option, Some, None, refl, sym, ap, ◌∙◌, subst, arith}
use Rattle.std.specs.List.{All}
use Rattle.std.specs.List.Sorted.{IsStrictlySortedBy}
use Rattle.std.specs.Map.{keys_of}
use Rattle.std.specs.BTreeMap.{insert_entry}
use Rattle.std.specs.Ordering.{match_ordering, is_eq}
use Rattle.std.specs.declared.cmp.Ordering.{Ordering}
use Rattle.std.specs.declared.cmp.Ordering.TheVariants.{Less, Equal, Greater}
use Rattle.std.proofs.lemmas.Map.Text.{is_eq-slice_cmp}
use Rattle.std.proofs.lemmas.Slice.Eq.{bytes_eq-Decides}
use Rattle.std.proofs.lemmas.List.Elements.{All-nil, All-cons, All-head, All-tail, All-filter}
use Rattle.kad_base.specs.declared.types.Id.{Id}
use Rattle.item_store.specs.declared.held.Item.{Item}
use Rattle.item_store.specs.Items.{Held, ItemsState, IsItem, IsItems, IsSound, key_of, key_cmp, item_host, max_items, is_fresh, first_from, found, Holds, IsCrowded, HasNoPlace, with_entry, with_item, purged}
use Rattle.std.specs.Option.{IfSome, is_some}
use Rattle.kad_base.specs.Hosts.{host}
use Rattle.kad_base.specs.declared.types.Addr.{Addr}
use Rattle.kad_base.specs.declared.host.Host.{Host}
use Rattle.aged_map.specs.PerHost.{HasFewOfEach, HasNoPlaceAt, HasNoPlaceAmong, holding}
use Rattle.std.specs.List.{list_any}
use Rattle.std.proofs.lemmas.Map.Made.{is_some-lookup}

-- keys that compare as equal are the same bytes
pub same_key : (a b : Id) → key_cmp a b ≡ Equal → a.0 ≡ b.0
same_key a b e = (bytes_eq-Decides a.0 b.0).0 (sym (is_eq-slice_cmp a.0 b.0) ∙ ap is_eq e)

-- what holds of all that is held, and of the item under its key or an equal one, holds after it was put
All-insert : (P : Held → Type 0) (held : List Held) (key : Id) (item : Item) → P (key, item) → ((k : Id) → key_cmp key k ≡ Equal → P (k, item))
    → All P held → All P (insert_entry key_cmp held key item)
All-insert P [] key item here again all = All-cons P (key, item) [] here (All-nil P)
All-insert P (h ∷ held) key item here again all =
    by (key_cmp key h.0) (again h.0) (All-insert P held key item here again (All-tail P h held all))
  where
    by : (o : Ordering) → (o ≡ Equal → P (h.0, item)) → All P (insert_entry key_cmp held key item)
        → All P (match_ordering o ((key, item) ∷ h ∷ held) ((h.0, item) ∷ held) (h ∷ insert_entry key_cmp held key item))
    by Less there more = All-cons P (key, item) (h ∷ held) here all
    by Equal there more = All-cons P (h.0, item) held (there refl) (All-tail P h held all)
    by Greater there more = All-cons P h (insert_entry key_cmp held key item) (All-head P h held all) more

sound_add : (s : ItemsState) (v : List ℕ) (from : Addr) (at : ℕ) → IsItem v → All IsSound s.held → All IsSound (with_item s v from at).held
sound_add s v from at item all =
    let new : Item = record { v = v; last = at; from = first_from (found s (key_of v)) (host from) } in
    All-insert IsSound s.held (key_of v) new (record { key = refl; item = item })
    (λ k e. record { key = sym (same_key (key_of v) k e); item = item }) all

pub kept_add : (s new : ItemsState) (v : List ℕ) (from : Addr) (at : ℕ) → IsItems s → IsItem v → new ≡ with_item s v from at
    → IsStrictlySortedBy key_cmp (keys_of new.held) → length new.held ≤ max_items → HasFewOfEach item_host new → IsItems new
kept_add s new v from at kept item is sorted few each = record {
  sorted = sorted;
  few = few;
  sound = subst (λ n. All IsSound n.held) (sym is) (sound_add s v from at item kept.sound);
  few_of_a_host = each;
}

pub kept_purge : (s new : ItemsState) (at : ℕ) → IsItems s → new ≡ purged s at → length new.held ≤ length s.held → IsStrictlySortedBy key_cmp (keys_of new.held)
    → HasFewOfEach item_host new → IsItems new
kept_purge s new at kept is fewer sorted each =
    let few : length new.held ≤ max_items = let old : length s.held ≤ max_items = kept.few in omega arith in
    record { sorted = sorted; few = few; sound = subst (λ n. All IsSound n.held) (sym is) (All-filter (λ h. is_fresh at h.1) IsSound s.held kept.sound); few_of_a_host = each }

-- ---- whose an item is that is put

module _ (s : ItemsState) (key : Id) (from : Addr) (g h : Host) (at : h ≡ host from) (is : g ≡ first_from (found s key) h) where
  -- what is held has the host that it keeps
  pub own_host : IfSome (found s key) (λ w. w.from ≡ g)
  own_host = subst (λ x. IfSome (found s key) (λ w. w.from ≡ x)) (sym is) (by (found s key))
    where
      by : (x : Option Item) → IfSome x (λ w. w.from ≡ first_from x h)
      by None = tt
      by (Some w) = refl

  -- and a new one is its that puts it
  new_host : ¬ Holds s key → g ≡ host from
  new_host absent = is ∙ by (found s key) (is_some-lookup (λ k. is_eq (key_cmp key k)) s.held) ∙ at
    where
      by : (x : Option Item) → is_some x ≡ list_any (λ k. is_eq (key_cmp key k)) (keys_of s.held) → first_from x h ≡ h
      by None e = refl
      by (Some w) e = absurd (absent (sym e))

  pub crowded_by : (A : Type 0) → A ↔ HasNoPlaceAt key_cmp item_host s key g → A ↔ IsCrowded s key from
  crowded_by A e = (λ a. (let p = e.0 a in subst (HasNoPlaceAt key_cmp item_host s key) (new_host p.0) p), λ p. e.1 (subst (HasNoPlaceAt key_cmp item_host s key) (sym (new_host p.0)) p))

  pub full_by : (A : Type 0) → A ↔ HasNoPlaceAmong key_cmp item_host s key g max_items → A ↔ HasNoPlace s key from
  full_by A e = (
    λ a. (let p = e.0 a in subst (λ x. HasNoPlaceAmong key_cmp item_host s key x max_items) (new_host p.absent) p),
    λ p. e.1 (subst (λ x. HasNoPlaceAmong key_cmp item_host s key x max_items) (sym (new_host p.absent)) p),
  )

  pub entry_is : (v : List ℕ) (last : ℕ) → holding s (insert_entry key_cmp s.held key (record { v = v; last = last; from = g })) ≡ with_entry s key v (host from) last
  entry_is v last =
      ap (λ x. holding s (insert_entry key_cmp s.held key (record { v = v; last = last; from = x }))) (is ∙ ap (first_from (found s key)) at)
