-- A burst grows by one thing at a time.
use Rattle.std.proofs.Common.{◌≡◌, ℕ, ◌+◌, List, [], ◌∷◌, ◌++◌, sym, ap, subst, ◌∙◌, arith, append_assoc, append-nil}
use Rattle.std.specs.List.{flat_map}
use Rattle.std.proofs.lemmas.List.{length-append}
use Rattle.std.proofs.lemmas.List.Elements.{All-push}
use Rattle.std.proofs.lemmas.Grind.{flat_map-append}
use Rattle.kad_base.specs.declared.types.Contact.{Contact}
use Rattle.kad_base.specs.declared.types.Policy.{Policy}
use Rattle.kad_base.specs.Serial.{made}
use Rattle.turn_book.specs.Turns.{PassState, mine}
use Rattle.claim_book.specs.declared.calls.BookCall.TheVariants.{Pull, Note, Settle}
use Rattle.claim_book.specs.declared.calls.BookReply.TheVariants.{Alive, Kept, Report as Report_reply}
use Rattle.claim_book.specs.CheckedState.{CheckedState}
use Rattle.kad_base.specs.declared.types.Report.{Report}
use Rattle.contact_table.specs.declared.calls.TableCall.{TableCall}
use Rattle.contact_table.specs.declared.calls.TableReply.{TableReply}
use Rattle.contact_table.specs.declared.calls.TableCall.TheVariants.{Seen}
use Rattle.path_worker.specs.Hand.{Hand, SameHand}
use Rattle.path_worker.specs.Burst.{noted, settled, ToldOf, SettledOf, book_calls, table_calls, IsDone, Going, DidOne}

-- what grew by some, and then by others
grows : {A B : Type 0} (f : A → List B) (old mid new ends : List B) (things : List A) → mid ≡ (old ++ flat_map f things) ++ [] → new ≡ mid ++ ends → new ≡ (old ++ flat_map f things) ++ ends
grows f old mid new ends things is more = more ∙ ap (λ l. l ++ ends) (is ∙ append-nil (old ++ flat_map f things))

-- what grew by some, and then by the calls of one more
grows_one : {A B : Type 0} (f : A → List B) (old mid new : List B) (things : List A) (one : A) → mid ≡ (old ++ flat_map f things) ++ [] → new ≡ mid ++ f one → new ≡ (old ++ flat_map f (things ++ one ∷ [])) ++ []
grows_one f old mid new things one is more =
    grows f old mid new (f one) things is more
    ∙ append_assoc old (flat_map f things) (f one)
    ∙ ap (λ l. old ++ l) (ap (λ l. flat_map f things ++ l) (sym (append-nil (f one))) ∙ sym (flat_map-append f things (one ∷ [])))
    ∙ sym (append-nil (old ++ flat_map f (things ++ one ∷ [])))

pub going_on : (old mid new : Hand) (n m : ℕ) → Going old mid n → SameHand old mid → DidOne mid new → m ≡ n + 1 → Going old new m
going_on old mid new n m going same one is =
    let told = going.grew in
    let done : IsDone old.policy one.0 = subst (λ (p : Policy). IsDone p one.0) same.policy one.1 in
    record {
      things = going.things ++ one.0 ∷ [];
      grew = record {
        done = All-push (IsDone old.policy) going.things one.0 told.done done;
        book = grows_one (book_calls old.book.role) (mine old.book) (mine mid.book) (mine new.book) going.things one.0 told.book (one.2 ∙ ap (λ r. mine mid.book ++ book_calls r one.0) same.book_role);
        table = grows_one (table_calls old.table.role) (mine old.table) (mine mid.table) (mine new.table) going.things one.0 told.table (one.3 ∙ ap (λ r. mine mid.table ++ table_calls r one.0) same.table_role);
      };
      count = (let c = going.count in omega (arith, length-append going.things (one.0 ∷ [])));
    }

pub same_hand : (old mid new : Hand) → SameHand old mid → SameHand mid new → SameHand old new
same_hand old mid new a b = record {
  path = b.path ∙ a.path;
  book = b.book ∙ a.book;
  book_role = b.book_role ∙ a.book_role;
  table = b.table ∙ a.table;
  table_role = b.table_role ∙ a.table_role;
  policy = b.policy ∙ a.policy;
}

-- a pull and a note are one thing
pub did_note : (old mid new : Hand) (c : Contact) → mid.book.role ≡ old.book.role → mine mid.book ≡ mine old.book ++ made old.book.role Pull (Alive c) ∷ [] → mid.table ≡ old.table
    → mine new.book ≡ mine mid.book ++ made mid.book.role (Note c) Kept ∷ [] → ToldOf c mid.table new.table → DidOne old new
did_note old mid new c role pulled same kept told = (
  noted c told.0,
  told.1,
  kept ∙ ap (λ l. l ++ made mid.book.role (Note c) Kept ∷ []) pulled ∙ append_assoc (mine old.book) (made old.book.role Pull (Alive c) ∷ []) (made mid.book.role (Note c) Kept ∷ [])
      ∙ ap (λ r. mine old.book ++ made old.book.role Pull (Alive c) ∷ made r (Note c) Kept ∷ []) role,
  told.2 ∙ ap (λ (p : PassState TableCall TableReply). mine p ++ made p.role (Seen c) told.0 ∷ []) same,
)

-- a pull and a settle are one thing
pub did_settle : (old mid new : Hand) (r : Report) → mid.book.role ≡ old.book.role → mine mid.book ≡ mine old.book ++ made old.book.role Pull (Report_reply r) ∷ [] → mid.policy ≡ old.policy
    → SettledOf mid.policy r mid.book new.book → new.table ≡ old.table → DidOne old new
did_settle old mid new r role pulled policy put same =
    let checked : CheckedState = record { policy = mid.policy; report = r } in (
      settled checked put.0,
      (policy, put.1),
      put.2 ∙ ap (λ l. l ++ made mid.book.role (Settle checked) put.0 ∷ []) pulled ∙ append_assoc (mine old.book) (made old.book.role Pull (Report_reply r) ∷ []) (made mid.book.role (Settle checked) put.0 ∷ [])
          ∙ ap (λ n. mine old.book ++ made old.book.role Pull (Report_reply r) ∷ made n (Settle checked) put.0 ∷ []) role,
      ap mine same ∙ sym (append-nil (mine old.table)),
    )
