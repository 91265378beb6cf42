-- The kinds of faults that one happening can have, by the places of its events and by their numbers.
use Rattle.std.proofs.Common.{◌≡◌, ℕ, ◌-◌, Bool, true, false, not, ◌&&◌, ◌==◌, List, [], ◌∷◌, get_or, Option, Some, None, refl, ap, ap₂, ◌∙◌, arith}
use Rattle.std.specs.List.{position_from, AllByRecursion}
use Rattle.std.proofs.lemmas.Bool.{not_from_true}
use Rattle.tp_task.specs.State.{State, holds}
use Rattle.tp_task.specs.Event.{mixes}
use Rattle.tp_task.specs.Happens.{EventOfStep, is_defined, Happens}
use Rattle.tp_task.specs.Valid.{Placed, at}
use Rattle.tp_task.specs.Verdict as fault
use Rattle.tp_task.specs.Verdict.{Fault, fault_or, first_pair}
use Rattle.tp_happen.specs.declared.faults.Why.{Why}
use Rattle.tp_happen.specs.declared.faults.Why.TheVariants.{Condition, Undefined, Clash, Interferes}
use Rattle.tp_happen.specs.Fault as happening
use Rattle.tp_validate.specs.Places.{here, numbers}
use Rattle.tp_validate.specs.Tick.{of_events, renumbered}
use Rattle.tp_validate.proofs.Numbers.{IsNumbered, times, by_number, place_of, none_of, none_first, by_numbers, places_of, none_pairs}

from_zero : (i : ℕ) → i - 0 ≡ i
from_zero i = omega arith

record Placing (ns : List ℕ) (u v : Option ℕ) : Type 0 where
  found : (i : ℕ) → u ≡ Some i → v ≡ Some (get_or ns i 0)
  none : u ≡ None → v ≡ None

record PairPlacing (ns : List ℕ) (u v : Option (ℕ × ℕ)) : Type 0 where
  found : (i j : ℕ) → u ≡ Some (i, j) → v ≡ Some (get_or ns i 0, get_or ns j 0)

module _ (ns : List ℕ) (rest : Option Fault) (i : ℕ) (why : Why) where
  abbrev name : ℕ × Why → Option Fault
  name q = Some (renumbered ns q.0 q.1)

  chain : (u c k : Option ℕ) (p : Option (ℕ × ℕ)) (u' c' k' : Option ℕ) (p' : Option (ℕ × ℕ)) → Placing ns u u' → Placing ns c c' → Placing ns k k' → PairPlacing ns p p'
      → happening.or_fault (happening.named Undefined u) (happening.or_fault (happening.named Condition c) (happening.or_fault (happening.named Clash k) (happening.named_pair p))) ≡ Some (i, why)
      → fault_or fault.Undefined u' (fault_or fault.Condition c' (fault_or fault.Clash k' (fault_or (λ (q : ℕ × ℕ). fault.Interferes q.0 q.1) p' rest))) ≡ Some (renumbered ns i why)
  chain (Some x) c k p u' c' k' p' U C K P h =
      let e : (x, Undefined) ≡ (i, why) = cc in
      ap (λ r. fault_or fault.Undefined r (fault_or fault.Condition c' (fault_or fault.Clash k' (fault_or (λ (q : ℕ × ℕ). fault.Interferes q.0 q.1) p' rest)))) (U.found x refl) ∙ ap name e
  chain None (Some x) k p u' c' k' p' U C K P h =
      let e : (x, Condition) ≡ (i, why) = cc in
      ap (λ r. fault_or fault.Undefined r (fault_or fault.Condition c' (fault_or fault.Clash k' (fault_or (λ (q : ℕ × ℕ). fault.Interferes q.0 q.1) p' rest)))) (U.none refl)
      ∙ (ap (λ r. fault_or fault.Condition r (fault_or fault.Clash k' (fault_or (λ (q : ℕ × ℕ). fault.Interferes q.0 q.1) p' rest))) (C.found x refl) ∙ ap name e)
  chain None None (Some x) p u' c' k' p' U C K P h =
      let e : (x, Clash) ≡ (i, why) = cc in
      ap (λ r. fault_or fault.Undefined r (fault_or fault.Condition c' (fault_or fault.Clash k' (fault_or (λ (q : ℕ × ℕ). fault.Interferes q.0 q.1) p' rest)))) (U.none refl)
      ∙ (ap (λ r. fault_or fault.Condition r (fault_or fault.Clash k' (fault_or (λ (q : ℕ × ℕ). fault.Interferes q.0 q.1) p' rest))) (C.none refl)
      ∙ (ap (λ r. fault_or fault.Clash r (fault_or (λ (q : ℕ × ℕ). fault.Interferes q.0 q.1) p' rest)) (K.found x refl) ∙ ap name e))
  chain None None None (Some x) u' c' k' p' U C K P h =
      let e : (x.0, Interferes x.1) ≡ (i, why) = cc in
      ap (λ r. fault_or fault.Undefined r (fault_or fault.Condition c' (fault_or fault.Clash k' (fault_or (λ (q : ℕ × ℕ). fault.Interferes q.0 q.1) p' rest)))) (U.none refl)
      ∙ (ap (λ r. fault_or fault.Condition r (fault_or fault.Clash k' (fault_or (λ (q : ℕ × ℕ). fault.Interferes q.0 q.1) p' rest))) (C.none refl)
      ∙ (ap (λ r. fault_or fault.Clash r (fault_or (λ (q : ℕ × ℕ). fault.Interferes q.0 q.1) p' rest)) (K.none refl)
      ∙ (ap (λ r. fault_or (λ (q : ℕ × ℕ). fault.Interferes q.0 q.1) r rest) (P.found x.0 x.1 refl) ∙ ap name e)))
  chain None None None None u' c' k' p' U C K P h = absurd (cc)

module _ (scale : ℕ) (s : State) (m : ℕ) (es : List Placed) (ordered : IsNumbered 0 es) where
  abbrev fs : List Placed
  fs = here m es

  placing : (P : EventOfStep → Bool) → Placing (numbers fs) (position_from P 0 (times fs)) (position_from (λ (e : Placed). (e.moment == m) && P e.timed) 0 es)
  placing P =
      record {
        found = λ i h. by_number m P 0 es ordered ∙ (place_of P fs 0 i h ∙ ap (λ k. Some (get_or (numbers fs) k 0)) (from_zero i));
        none = λ h. by_number m P 0 es ordered ∙ none_of P fs 0 h;
      }

  -- where the happening has a fault, it is that one
  pub fails : (i : ℕ) (why : Why) (rest : Option Fault) → happening.fault_of scale s (at m es) ≡ Some (i, why) → of_events scale s m es rest ≡ Some (renumbered (numbers fs) i why)
  fails i why rest h =
      chain (numbers fs) rest i why
      (position_from (λ t. not (is_defined scale s t)) 0 (times fs)) (position_from (λ (t : EventOfStep). not (holds s t.event.condition)) 0 (times fs)) (position_from (λ (t : EventOfStep). mixes t.event) 0 (times fs)) (happening.first_pair 0 (times fs))
      _ _ _ _
      (placing (λ t. not (is_defined scale s t))) (placing (λ t. not (holds s t.event.condition))) (placing (λ t. mixes t.event))
      (record { found = λ x y q. by_numbers m 0 es ordered ∙ (places_of fs 0 x y q ∙ ap₂ (λ k l. Some (get_or (numbers fs) k 0, get_or (numbers fs) l 0)) (from_zero x) (from_zero y)) })
      h

  none_true : (P : EventOfStep → Bool) (ts : List EventOfStep) → AllByRecursion (λ t. P t ≡ true) ts → AllByRecursion (λ t. not (P t) ≡ false) ts
  none_true P [] h = tt
  none_true P (t ∷ ts) h = (not_from_true (P t) h.0, none_true P ts h.1)

  -- where it can happen, there is none
  pub happens : (rest : Option Fault) (new : State) → Happens scale s (at m es) new → of_events scale s m es rest ≡ rest
  happens rest new h =
      ap (λ r. fault_or fault.Undefined r (fault_or fault.Condition (position_from (λ (e : Placed). (e.moment == m) && not (holds s e.timed.event.condition)) 0 es) (fault_or fault.Clash (position_from (λ (e : Placed). (e.moment == m) && mixes e.timed.event) 0 es) (fault_or (λ (p : ℕ × ℕ). fault.Interferes p.0 p.1) (first_pair m 0 es) rest)))) (by_number m (λ t. not (is_defined scale s t)) 0 es ordered ∙ none_first (λ t. not (is_defined scale s t)) fs (none_true (λ t. is_defined scale s t) (times fs) h.definedness))
      ∙ (ap (λ r. fault_or fault.Condition r (fault_or fault.Clash (position_from (λ (e : Placed). (e.moment == m) && mixes e.timed.event) 0 es) (fault_or (λ (p : ℕ × ℕ). fault.Interferes p.0 p.1) (first_pair m 0 es) rest))) (by_number m (λ t. not (holds s t.event.condition)) 0 es ordered ∙ none_first (λ t. not (holds s t.event.condition)) fs (none_true (λ (t : EventOfStep). holds s t.event.condition) (times fs) h.conditions))
      ∙ (ap (λ r. fault_or fault.Clash r (fault_or (λ (p : ℕ × ℕ). fault.Interferes p.0 p.1) (first_pair m 0 es) rest)) (by_number m (λ t. mixes t.event) 0 es ordered ∙ none_first (λ t. mixes t.event) fs h.unmixed)
      ∙ ap (λ r. fault_or (λ (p : ℕ × ℕ). fault.Interferes p.0 p.1) r rest) (by_numbers m 0 es ordered ∙ none_pairs fs h.separate)))
