-- All contacts that are pinged, one after another, and a whole refresh.
use Rattle.std.proofs.Common.{◌≡◌, ℕ, ◌+◌, ◌<◌, List, [], ◌∷◌, ◌++◌, length, get_or, take, drop, Option, None, Result, Ok, Err, false, inr, refl, sym, ap, subst, ◌∙◌, append_assoc, append-nil}
use Rattle.std.specs.Prelude.{IfErr, OnOk}
use Rattle.std.proofs.lemmas.List.{take_more, take-append-drop}
use Rattle.kad_base.specs.declared.types.Id.{Id}
use Rattle.kad_base.specs.declared.types.Contact.{Contact}
use Rattle.kad_base.specs.declared.types.Event.{Event}
use Rattle.kad_base.specs.declared.types.Event.TheVariants.{Now}
use Rattle.kad_base.specs.Limits.{max_strays}
use Rattle.kad_base.specs.Outside.{Grows, Happens}
use Rattle.id_puzzles.specs.Drawn.{WordsState}
use Rattle.contact_table.specs.TableState.{TableState}
use Rattle.lookup_core.specs.Sealed.{Accepts}
use Rattle.table_refresh.specs.declared.types.Progress.{Progress}
use Rattle.table_refresh.specs.declared.types.RefreshFault.{RefreshFault}
use Rattle.table_refresh.specs.declared.types.RefreshSetting.{RefreshSetting}
use Rattle.table_refresh.specs.declared.types.Setting.{Setting}
use Rattle.table_refresh.specs.Refreshed.{goes_by, pinged_of, TellsFrom, EndsBy, begun, EndsEarly, Refreshed, Unfinished}
use Rattle.table_refresh.specs.inner.Steps.{given_of, stands, PingsThese, TheseEnd}
use Rattle.kad_base.proofs.Happening.{happens_then, happens_these}
use Rattle.table_refresh.proofs.Walking.{tells_then, ends_then}

-- ---- those due

these_more : (setting : Setting) (accepts : Accepts) (xs ys : List Contact) (words between words' : WordsState) (old mid new : Progress) (es fs : List Event) → between.seed ≡ words.seed → PingsThese setting accepts xs words between old mid es → PingsThese setting accepts ys between words' mid new fs → PingsThese setting accepts (xs ++ ys) words words' old new (es ++ fs)
these_more setting accepts xs ys words between words' old mid new es fs seed h k = λ rest.
    subst (λ l. TellsFrom (given_of setting accepts words.seed) (stands old words.place l false None) (es ++ fs) (stands new words'.place rest false None)) (sym (append_assoc xs ys rest))
    (tells_then (given_of setting accepts words.seed) (stands old words.place (xs ++ (ys ++ rest)) false None) es (stands mid between.place (ys ++ rest) false None) fs (stands new words'.place rest false None) (h (ys ++ rest))
    (subst (λ s. TellsFrom (given_of setting accepts s) (stands mid between.place (ys ++ rest) false None) fs (stands new words'.place rest false None)) seed (k rest)))

-- those before, and the next
pub pings_more : (setting : Setting) (accepts : Accepts) (xs ys zs : List Contact) (words between words' : WordsState) (old mid new : Progress) (a b c : Option (List Event)) → xs ++ ys ≡ zs → between.seed ≡ words.seed → Happens a b (PingsThese setting accepts xs words between old mid) → Happens b c (PingsThese setting accepts ys between words' mid new) → Happens a c (PingsThese setting accepts zs words words' old new)
pings_more setting accepts xs ys zs words between words' old mid new a b c is seed h k =
    subst (λ l. Happens a c (PingsThese setting accepts l words words' old new)) is (happens_then a b c _ _ _ h k (λ es fs x y. these_more setting accepts xs ys words between words' old mid new es fs seed x y))

these_end : (setting : Setting) (accepts : Accepts) (xs ys zs : List Contact) (words between words' : WordsState) (old mid : Progress) (table' : TableState) (fault : RefreshFault) (es fs : List Event) → (xs ++ ys) ++ zs ≡ xs ++ (ys ++ zs) → between.seed ≡ words.seed → PingsThese setting accepts xs words between old mid es → TheseEnd setting accepts ys between words' mid table' fault fs → TheseEnd setting accepts ((xs ++ ys) ++ zs) words words' old table' fault (es ++ fs)
these_end setting accepts xs ys zs words between words' old mid table' fault es fs regroup seed h k = λ rest.
    subst (λ l. EndsBy (given_of setting accepts words.seed) (stands old words.place l false None) fault table' words'.place (es ++ fs)) (sym (append_assoc (xs ++ ys) zs rest ∙ append_assoc xs ys (zs ++ rest)))
    (ends_then (given_of setting accepts words.seed) (stands old words.place (xs ++ (ys ++ (zs ++ rest))) false None) es (stands mid between.place (ys ++ (zs ++ rest)) false None) fault table' words'.place fs (h (ys ++ (zs ++ rest)))
    (subst (λ s. EndsBy (given_of setting accepts s) (stands mid between.place (ys ++ (zs ++ rest)) false None) fault table' words'.place fs) seed (k (zs ++ rest))))

-- those before, and the next ends by a fault
pub ends_more : (setting : Setting) (accepts : Accepts) (xs ys zs all : List Contact) (words between words' : WordsState) (old mid : Progress) (table' : TableState) (fault : RefreshFault) (a b c : Option (List Event)) → (xs ++ ys) ++ zs ≡ all → between.seed ≡ words.seed → Happens a b (PingsThese setting accepts xs words between old mid) → Happens b c (TheseEnd setting accepts ys between words' mid table' fault) → Happens a c (TheseEnd setting accepts all words words' old table' fault)
ends_more setting accepts xs ys zs all words between words' old mid table' fault a b c is seed h k =
    subst (λ l. Happens a c (TheseEnd setting accepts l words words' old table' fault)) is (happens_then a b c _ _ _ h k (λ es fs x y. these_end setting accepts xs ys zs words between words' old mid table' fault es fs (append_assoc xs ys zs) seed x y))

-- the head at a place
pub pings_next : (setting : Setting) (accepts : Accepts) (xs : List Contact) (i : ℕ) (d : Contact) (words between words' : WordsState) (old mid new : Progress) (a b c : Option (List Event)) → i < length xs → between.seed ≡ words.seed → Happens a b (PingsThese setting accepts (take i xs) words between old mid) → Happens b c (PingsThese setting accepts (get_or xs i d ∷ []) between words' mid new) → Happens a c (PingsThese setting accepts (take (i + 1) xs) words words' old new)
pings_next setting accepts xs i d words between words' old mid new a b c lt seed h k = pings_more setting accepts (take i xs) (get_or xs i d ∷ []) (take (i + 1) xs) words between words' old mid new a b c (sym (take_more xs i d lt)) seed h k

pub ends_next : (setting : Setting) (accepts : Accepts) (xs : List Contact) (i : ℕ) (d : Contact) (words between words' : WordsState) (old mid : Progress) (table' : TableState) (fault : RefreshFault) (a b c : Option (List Event)) → i < length xs → between.seed ≡ words.seed → Happens a b (PingsThese setting accepts (take i xs) words between old mid) → Happens b c (TheseEnd setting accepts (get_or xs i d ∷ []) between words' mid table' fault) → Happens a c (TheseEnd setting accepts xs words words' old table' fault)
ends_next setting accepts xs i d words between words' old mid table' fault a b c lt seed h k =
    ends_more setting accepts (take i xs) (get_or xs i d ∷ []) (drop (i + 1) xs) xs words between words' old mid table' fault a b c (ap (λ l. l ++ drop (i + 1) xs) (sym (take_more xs i d lt)) ∙ take-append-drop (i + 1) xs) seed h k

-- ---- a refresh

-- what the code keeps of it
abbrev pub setting_by : Id → RefreshSetting → Setting
setting_by own by = record { own = own; timeout = by.timeout; sealed = by.sealed; all = by.all }

-- where it begins
abbrev pub work_by : TableState → ℕ → Progress
work_by table moment = record { table = table; moment = moment; strays = 0 }

all_pinged : (own : Id) (by : RefreshSetting) (accepts : Accepts) (table : TableState) (due : List Contact) (words words' : WordsState) (moment : ℕ) (new : Progress) (es : List Event) → own ≡ table.own → due ≡ pinged_of by.all table.rows → new.strays < max_strays
    → PingsThese (setting_by own by) accepts due words words' (work_by table moment) new es → Refreshed (goes_by table by accepts words.seed) table words.place new.table words'.place (Now moment ∷ es)
all_pinged own by accepts table due words words' moment new es is due_are few h = record {
  end = stands new words'.place [] false None;
  tells = subst (λ id. TellsFrom (given_of (setting_by id by) accepts words.seed) (begun (goes_by table by accepts words.seed) table words.place moment) es (stands new words'.place [] false None)) is
      (subst (λ l. TellsFrom (given_of (setting_by own by) accepts words.seed) (stands (work_by table moment) words.place l false None) es (stands new words'.place [] false None)) (append-nil due ∙ due_are) (h []));
  all_pinged = refl;
  none_waits = refl;
  few_strays = few;
  table_is = refl;
  place_is = refl;
}

ended_early : (own : Id) (by : RefreshSetting) (accepts : Accepts) (table : TableState) (due : List Contact) (words words' : WordsState) (moment : ℕ) (table' : TableState) (fault : RefreshFault) (es : List Event) → own ≡ table.own → due ≡ pinged_of by.all table.rows
    → TheseEnd (setting_by own by) accepts due words words' (work_by table moment) table' fault es → EndsEarly (goes_by table by accepts words.seed) table words.place fault table' words'.place (Now moment ∷ es)
ended_early own by accepts table due words words' moment table' fault es is due_are h =
    subst (λ id. EndsBy (given_of (setting_by id by) accepts words.seed) (begun (goes_by table by accepts words.seed) table words.place moment) fault table' words'.place es) is
    (subst (λ l. EndsBy (given_of (setting_by own by) accepts words.seed) (stands (work_by table moment) words.place l false None) fault table' words'.place es) (append-nil due ∙ due_are) (h []))

-- after its first event
behind_now : (a b c : Option (List Event)) (moment : ℕ) (P Q : List Event → Type 0) → Grows a b (λ es. es ≡ Now moment ∷ []) → Happens b c P → ((es : List Event) → P es → Q (Now moment ∷ es)) → Happens a c Q
behind_now a b c moment P Q grows h f = happens_then a b c (λ es. es ≡ Now moment ∷ []) P Q (happens_these a b (Now moment ∷ []) (λ es. es ≡ Now moment ∷ []) grows refl) h (λ t u x y. subst (λ l. Q (l ++ u)) (sym x) (f u y))

pub refreshed_ok : (own : Id) (by : RefreshSetting) (accepts : Accepts) (table : TableState) (due : List Contact) (words words' : WordsState) (moment : ℕ) (new : Progress) (a b c : Option (List Event)) (r : Result (Unit {0}) RefreshFault) → own ≡ table.own → due ≡ pinged_of by.all table.rows → Grows a b (λ es. es ≡ Now moment ∷ [])
    → OnOk r (new.strays < max_strays) → OnOk r (Happens b c (PingsThese (setting_by own by) accepts due words words' (work_by table moment) new)) → OnOk r (Happens a c (Refreshed (goes_by table by accepts words.seed) table words.place new.table words'.place))
refreshed_ok own by accepts table due words words' moment new a b c (Ok x) is due_are grows few h = behind_now a b c moment _ _ grows h (λ es y. all_pinged own by accepts table due words words' moment new es is due_are few y)
refreshed_ok own by accepts table due words words' moment new a b c (Err fault) is due_are grows few h = tt

pub refreshed_err : (own : Id) (by : RefreshSetting) (accepts : Accepts) (table : TableState) (due : List Contact) (words words' : WordsState) (moment : ℕ) (table' : TableState) (a b c : Option (List Event)) (r : Result (Unit {0}) RefreshFault) → own ≡ table.own → due ≡ pinged_of by.all table.rows → Grows a b (λ es. es ≡ Now moment ∷ [])
    → IfErr r (λ fault. Happens b c (TheseEnd (setting_by own by) accepts due words words' (work_by table moment) table' fault)) → IfErr r (λ fault. Happens a c (Unfinished (goes_by table by accepts words.seed) table words.place fault table' words'.place))
refreshed_err own by accepts table due words words' moment table' a b c (Ok x) is due_are grows h = tt
refreshed_err own by accepts table due words words' moment table' a b c (Err fault) is due_are grows h = behind_now a b c moment _ _ grows h (λ es y. inr (ended_early own by accepts table due words words' moment table' fault es is due_are y))
