-- What events tell, one part after another.
use Rattle.std.proofs.Common.{List, [], ◌∷◌, ◌++◌, refl, ap, subst, sym, ◌∙◌}
use Rattle.std.proofs.lemmas.List.{append_assoc}
use Rattle.std.specs.Prelude.{ℕ}
use Rattle.kad_base.specs.declared.types.Event.{Event}
use Rattle.contact_table.specs.TableState.{TableState}
use Rattle.table_refresh.specs.declared.types.RefreshFault.{RefreshFault}
use Rattle.table_refresh.specs.Refreshed.{Given, Standing, Gives, TellsFrom, EndsBy}

pub tells_one : (g : Given) (s : Standing) (e : Event) (t : Standing) → Gives g s e t → TellsFrom g s (e ∷ []) t
tells_one g s e t h = (t, h, refl)

pub tells_then : (g : Given) (s : Standing) (es : List Event) (mid : Standing) (fs : List Event) (t : Standing) → TellsFrom g s es mid → TellsFrom g mid fs t → TellsFrom g s (es ++ fs) t
tells_then g s [] mid fs t h k = subst (λ x. TellsFrom g x fs t) h k
tells_then g s (e ∷ es) mid fs t h k = (h.0, h.1, tells_then g h.0 es mid fs t h.2 k)

-- events that end by a fault, behind others
pub ends_then : (g : Given) (s : Standing) (es : List Event) (mid : Standing) (fault : RefreshFault) (table' : TableState) (place' : ℕ) (fs : List Event) → TellsFrom g s es mid → EndsBy g mid fault table' place' fs → EndsBy g s fault table' place' (es ++ fs)
ends_then g s es mid fault table' place' fs h k = record {
  front = es ++ k.front;
  last = k.last;
  end = k.end;
  query = k.query;
  events_are = ap (λ (l : List Event). es ++ l) k.events_are ∙ sym (append_assoc es k.front k.last);
  tells = tells_then g s es mid k.front k.end h k.tells;
  waits = k.waits;
  few_strays = k.few_strays;
  stops = k.stops;
  table_is = k.table_is;
  place_is = k.place_is;
}
