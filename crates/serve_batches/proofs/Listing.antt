-- Slots are answered one after another.
use Rattle.std.proofs.Common.{◌≡◌, ℕ, ◌+◌, ◌<◌, List, [], ◌∷◌, ◌++◌, map, length, take, drop, get_or, set, refl, sym, ap, subst, ◌∙◌, append-nil, arith}
use Rattle.std.specs.List.{flat_map}
use Rattle.std.proofs.lemmas.List.{map-append, take_more, take_more_set, drop_more, drop-set-lt, length-set}
use Rattle.std.proofs.lemmas.List.Elements.{All-nil, All-push}
use Rattle.std.proofs.lemmas.Grind.{flat_map-append}
use Rattle.node_serve.specs.Sealing.{Tags}
use Rattle.node_serve.specs.declared.setting.ServeSetting.{ServeSetting}
use Rattle.serve_crew.specs.Hands.{Hands, SameHands, Grew}
use Rattle.serve_crew.proofs.Growing.{grew_none, grew_more, same_none, same_more}
use Rattle.serve_batches.specs.Slots.{SlotState, datagram_in, Handled, IsHandled, AnswersOne, AnswersAll}

module _ (tag_of : Tags) (s : ServeSetting) where
  pub answers_none : (h : Hands) → AnswersAll tag_of s h h [] []
  answers_none h = record { all = []; slots_are = refl; same = refl; handled = All-nil (IsHandled tag_of s); grew = grew_none h }

  pub answers_more : (old mid new : Hands) (given slots : List SlotState) (g x : SlotState) → SameHands old mid → AnswersAll tag_of s old mid given slots → AnswersOne tag_of s mid new g x → AnswersAll tag_of s old new (given ++ g ∷ []) (slots ++ x ∷ [])
  answers_more old mid new given slots g x same h one =
      let d : Handled = record { slot = x; did = one.did } in
      record {
        all = h.all ++ d ∷ [];
        slots_are = map-append (λ (y : Handled). y.slot) h.all (d ∷ []) ∙ ap (λ l. l ++ x ∷ []) h.slots_are;
        same = map-append datagram_in slots (x ∷ []) ∙ ap (λ l. l ++ datagram_in x ∷ []) h.same ∙ ap (λ y. map datagram_in given ++ y ∷ []) one.same ∙ sym (map-append datagram_in given (g ∷ []));
        handled = All-push (IsHandled tag_of s) h.all d h.handled one.handled;
        grew = subst (Grew old new) (ap (λ l. flat_map (λ (y : Handled). y.did) h.all ++ l) (sym (append-nil one.did)) ∙ sym (flat_map-append (λ (y : Handled). y.did) h.all (d ∷ [])))
            (grew_more old mid new (flat_map (λ (y : Handled). y.did) h.all) one.did same h.grew one.grew);
      }

  -- the first i slots are answered, and the others wait
  pub record Begun (old new : Hands) (given slots : List SlotState) (i : ℕ) : Type 0 where
    pub same : SameHands old new
    pub len : length slots ≡ length given
    pub answers : AnswersAll tag_of s old new (take i given) (take i slots)
    pub rest : drop i slots ≡ drop i given

  pub begun_none : (h : Hands) (given : List SlotState) → Begun h h given given 0
  begun_none h given = record { same = same_none h; len = refl; answers = answers_none h; rest = refl }

  pub begun_more : (old mid new : Hands) (given slots : List SlotState) (i : ℕ) (d slot : SlotState) → Begun old mid given slots i → i < length slots → SameHands mid new → AnswersOne tag_of s mid new (get_or slots i d) slot → Begun old new given (set slots i slot) (i + 1)
  begun_more old mid new given slots i d slot h lt same one =
      let there : i < length given = (let l = h.len in omega (arith, l, lt)) in
      let heads : get_or slots i d ∷ drop (i + 1) slots ≡ get_or given i d ∷ drop (i + 1) given = sym (drop_more slots i d lt) ∙ h.rest ∙ drop_more given i d there in
      let first : get_or slots i d ≡ get_or given i d = cc in
      let more : drop (i + 1) slots ≡ drop (i + 1) given = cc in
      record {
        same = same_more old mid new h.same same;
        len = length-set slots i slot ∙ h.len;
        answers = subst (λ l. AnswersAll tag_of s old new l (take (i + 1) (set slots i slot))) (ap (λ x. take i given ++ x ∷ []) first ∙ sym (take_more given i d there))
            (subst (λ l. AnswersAll tag_of s old new (take i given ++ get_or slots i d ∷ []) l) (sym (take_more_set slots i slot lt))
            (answers_more old mid new (take i given) (take i slots) (get_or slots i d) slot h.same h.answers one));
        rest = drop-set-lt (i + 1) slots i slot (omega arith) ∙ more;
      }
