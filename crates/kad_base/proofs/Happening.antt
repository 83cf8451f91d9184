-- Events that happened, one after another.
use Rattle.std.proofs.Common.{◌≡◌, List, [], ◌++◌, Option, refl, ap, ◌∙◌}
use Rattle.kad_base.specs.declared.types.Event.{Event}
use Rattle.kad_base.specs.Outside.{Grows, Happens}
use Rattle.kad_base.proofs.Grown.{grows_then, grows_none}

both_are : (t u v w : List Event) → t ≡ v → u ≡ w → t ++ u ≡ v ++ w
both_are t u v w a b = ap (λ (l : List Event). l ++ u) a ∙ ap (λ (l : List Event). v ++ l) b

-- the events of two calls, one after the other
pub happens_then : (a b c : Option (List Event)) (P Q R : List Event → Type 0) → Happens a b P → Happens b c Q → ((t u : List Event) → P t → Q u → R (t ++ u)) → Happens a c R
happens_then a b c P Q R h k f = record {
  events = h.events ++ k.events;
  told_are = grows_then a b c _ _ _ h.told_are k.told_are (λ t u x y. both_are t u h.events k.events x y);
  holds = f h.events k.events h.holds k.holds;
}

-- these
pub happens_these : (a b : Option (List Event)) (events : List Event) (P : List Event → Type 0) → Grows a b (λ es. es ≡ events) → P events → Happens a b P
happens_these a b events P grows p = record { events = events; told_are = grows; holds = p }

-- none
pub happens_none : (a : Option (List Event)) (P : List Event → Type 0) → P [] → Happens a a P
happens_none a P p = record { events = []; told_are = grows_none a (λ es. es ≡ []) refl; holds = p }

pub happens_weaker : (a b : Option (List Event)) (P Q : List Event → Type 0) → Happens a b P → ((t : List Event) → P t → Q t) → Happens a b Q
happens_weaker a b P Q h f = record { events = h.events; told_are = h.told_are; holds = f h.events h.holds }
