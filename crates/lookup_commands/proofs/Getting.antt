-- From a lookup for an item to what `get` promises, and the first item among those that contacts gave.
use Rattle.std.proofs.Common.{◌≡◌, ℕ, ◌+◌, ◌<◌, ◌≤◌, List, [], ◌∷◌, ◌++◌, length, take, drop, get_or, Option, sym, ap, subst, ◌∙◌}
use Rattle.std.specs.List.{All}
use Rattle.std.proofs.lemmas.List.{drop_more, take_all, take_more, take-append-drop}
use Rattle.std.proofs.lemmas.List.Elements.{All-append, All-cons, All-nil}
use Rattle.kad_base.specs.declared.types.Contact.{Contact}
use Rattle.kad_base.specs.declared.types.Event.{Event}
use Rattle.kad_base.specs.declared.types.Id.{Id}
use Rattle.kad_base.proofs.Grown.{grows_weaker}
use Rattle.claim_book.specs.Journal.{failed, asked}
use Rattle.claim_book.specs.Result.{result_of}
use Rattle.lookup_core.specs.declared.quest.AskKind.TheVariants.{GetItem}
use Rattle.lookup_core.specs.declared.gather.Item.{Item}
use Rattle.lookup_run.specs.declared.types.Outcome.{Outcome}
use Rattle.kad_words.specs.declared.command.LookWords.{LookWords}
use Rattle.lookup_commands.specs.declared.run_lookup.Reached.{Reached}
use Rattle.command_base.specs.Called.{Called}
use Rattle.lookup_commands.specs.Got.{GetText, IsFirst, IsGot, IsItemOf, IsPrinted}
use Rattle.lookup_commands.specs.Printed.{printed_item}
use Rattle.lookup_commands.specs.Reached.{Reaches}
use Rattle.command_base.specs.Shown.{Shown}
use Rattle.command_base.specs.Started.{book_of}
use Rattle.lookup_commands.proofs.Reaching.{never_reached}

-- ---- the first item

-- none of these is
abbrev pub None_of : Id → List Item → Type 0
None_of key items = All (λ (i : Item). ¬ IsItemOf key i.v) items

pub none_more : (key : Id) (items : List Item) (i : ℕ) (d : Item) → i < length items → None_of key (take i items) → ¬ IsItemOf key (get_or items i d).v → None_of key (take (i + 1) items)
none_more key items i d lt all no_ =
    let P : Item → Type 0 = λ i. ¬ IsItemOf key i.v in
    subst (All P) (sym (take_more items i d lt)) (All-append P (take i items) (get_or items i d ∷ []) all (All-cons P (get_or items i d) [] no_ (All-nil P)))

pub none_got : (key : Id) (items : List Item) (i : ℕ) → length items ≤ i → None_of key (take i items) → None_of key items
none_got key items i le all = subst (None_of key) (take_all i items le) all

pub first_got : (key : Id) (items : List Item) (i : ℕ) (x : Item) (v : List ℕ) → i < length items → x ≡ get_or items i x → v ≡ x.v → None_of key (take i items) → IsItemOf key x.v → IsFirst key items v
first_got key items i x v lt here same all is = record {
  before = take i items;
  by = x.contact;
  behind = drop (i + 1) items;
  split =
      sym (take-append-drop i items) ∙ ap (λ (l : List Item). take i items ++ l) (drop_more items i x lt ∙ ap (λ (y : Item). y ∷ drop (i + 1) items) (sym here))
      ∙ ap (λ (w : List ℕ). take i items ++ record { contact = x.contact; v = w } ∷ drop (i + 1) items) (sym same);
  none_before = all;
  is_of = subst (IsItemOf key) (sym same) is;
}

pub printed_at : (key : Id) (o : Outcome) (shown : List Item) (item : Option (List ℕ)) (many : ℕ) (text : List ℕ) → shown ≡ o.items → IsGot key shown item
    → text ≡ printed_item item many o.counts.asked o.counts.failed o.counts.turned → many ≡ length o.found → IsPrinted key o text
printed_at key o shown item many text same got is count = record {
  item = item;
  got = subst (λ (l : List Item). IsGot key l item) same got;
  text_is = is ∙ ap (λ m. printed_item item m o.counts.asked o.counts.failed o.counts.turned) count;
}

-- ---- the command

pub gets_reached : (look : LookWords) (called : Called) (source : Shown ℕ) (link : Shown Event) (r : Reached) (text : List ℕ) → Reaches GetItem look called source link r → IsPrinted look.target r.outcome text → GetText look called source link text
gets_reached look called source link r text h p =
    let o = r.outcome in
    let J = o.journal in
    record {
      journal = J;
      ran = h.ran;
      items = o.items;
      tells = grows_weaker link.before link.after _ _ h.tells (λ events t. (o.peers, o.tokens, t));
      no_last_stray = never_reached GetItem look called source link r h;
      refused = h.refused;
      item = p.item;
      got = p.got;
      text_is =
          p.text_is ∙ ap (λ (l : List Contact). printed_item p.item (length l) o.counts.asked o.counts.failed o.counts.turned) h.found
          ∙ ap (λ m. printed_item p.item (length (result_of (book_of GetItem look called.random) J)) m o.counts.failed o.counts.turned) h.counted.asked
          ∙ ap (λ m. printed_item p.item (length (result_of (book_of GetItem look called.random) J)) (length (asked J)) m o.counts.turned) h.counted.failed
          ∙ ap (λ m. printed_item p.item (length (result_of (book_of GetItem look called.random) J)) (length (asked J)) (length (failed J)) m) h.counted.turned;
    }
