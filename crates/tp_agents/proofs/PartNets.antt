-- The part of an agent is a network of a plan.
use Rattle.std.proofs.Common.{◌≡◌, ℕ, suc, ◌+◌, ◌<◌, ◌≤◌, Bool, true, false, cond, nat_eq, List, [], ◌∷◌, length, map, get_or, Option, Some, None, pos, ◌-ℤ◌, String, Global, string_bytes, refl, sym, ap, subst, ◌∙◌, arith}
use Rattle.std.proofs.lemmas.Int.{ints}
use Rattle.std.proofs.lemmas.Bool.{eqb-true}
use Rattle.std.proofs.lemmas.List.{length-map}
use Rattle.std.proofs.lemmas.List.Elements.{All-from_recursion}
use Rattle.std.specs.List.{AllByRecursion}
use Rattle.std.specs.FinMap.{values}
use Rattle.tp_bounds.specs.declared.Point.{Point}
use Rattle.tp_bounds.specs.declared.Point.TheVariants.{Origin, Event}
use Rattle.tp_bounds.specs.declared.Bound.{Bound}
use Rattle.tp_bounds.specs.Setting.{Setting, event_count, HasPoint, IsInRange}
use Rattle.tp_bounds.specs.Lawful.{IsLawful}
use Rattle.tp_bounds.specs.Nets.{IsPointOf, SuitsNet, IsNet}
use Rattle.tp_agents.specs.Owners.{owner_of, events_from, events_of, place_of}
use Rattle.tp_agents.specs.Parts.{event_line, own_point, inner_of, inner_bounds, keeps_interval, keeps_intervals, part_bounds}
use Rattle.tp_agents.specs.Splits.{IsSplit}
use Rattle.tp_agents.proofs.InForce.{Among, map_among, among_get, each_among}
use Rattle.tp_agents.proofs.Lists.{all_both}
use Rattle.tp_agents.proofs.Places.{stands_at_place}
use Rattle.tp_agents.proofs.Fitting.{ends_some}
use Rattle.tp_agents.proofs.Decoupling.{fits, least_here, least_in_time}
use Rattle.tp_agents.proofs.OnParts.{inner_is, parts_possible}

-- ---- an agent has no more events than there are

one_or_none : (t : Bool) (e : ℕ) (es : List ℕ) → length (cond t (e ∷ es) es) ≤ suc (length es)
one_or_none true e es = omega arith
one_or_none false e es = omega arith

events_few : (n : ℕ) (owners : List ℕ) (agent : ℕ) → length (events_from n owners agent) ≤ length owners
events_few n [] agent = omega arith
events_few n (o ∷ os) agent = omega (arith, one_or_none (nat_eq o agent) n (events_from (suc n) os agent), events_few (suc n) os agent)

-- ---- its inner bounds are between its own events

own_event : (owners : List ℕ) (agent e d : ℕ) → e < length owners → (t : Bool) → nat_eq (owner_of owners e) agent ≡ t → cond t (Some (Event (place_of owners e))) None ≡ Some (Event d) → d < length (events_of owners agent)
own_event owners agent e d lt true is h =
    let same : place_of owners e ≡ d = cc in
    let within : place_of owners e < length (events_of owners (owner_of owners e)) = (stands_at_place owners e lt).within in
    subst (λ k. k < length (events_of owners agent)) same
    (subst (λ a. place_of owners e < length (events_of owners a)) (eqb-true (owner_of owners e) agent is) within)
own_event owners agent e d lt false is h = absurd (let f : ⊥ = cc in f)

own_is_point : (s : Setting) (owners : List ℕ) (agent : ℕ) (p q : Point) → length owners ≡ event_count s → HasPoint s p → own_point owners agent p ≡ Some q → (d : ℕ) → q ≡ Event d → d < length (events_of owners agent)
own_is_point s owners agent Origin q count has h d is = absurd (let f : ⊥ = cc in f)
own_is_point s owners agent (Event e) q count has h d is =
    own_event owners agent e d (subst (λ n. e < n) (sym count) has) (nat_eq (owner_of owners e) agent) refl (h ∙ ap Some is)

inner_suits : (s : Setting) (owners : List ℕ) (agent : ℕ) → length owners ≡ event_count s → IsLawful s → (c : Bound) → Among c (inner_bounds s owners agent) → SuitsNet (length (events_of owners agent)) c
inner_suits s owners agent count lawful c a =
    let m = map_among (inner_of owners agent) (values s.bounds) c a in
    let g = among_get s.bounds m.0 m.1 in
    let suits = lawful.in_force g.0 m.0 g.1 in
    let i = inner_is owners agent m.0 c m.2 in
    record {
      from = own_is_point s owners agent m.0.from c.from count suits.from i.from;
      to = own_is_point s owners agent m.0.to c.to count suits.to i.to;
      weight = subst IsInRange i.weight suits.weight;
    }

-- ---- so are those that keep its intervals

low_in_range : (low : ℕ) → low ≤ 1_000_000_000 → IsInRange (pos 0 -ℤ pos low)
low_in_range low h = record { not_low = omega (arith, ints); not_high = omega (arith, ints) }

high_in_range : (high : ℕ) → high ≤ 1_000_000_000 → IsInRange (pos high)
high_in_range high h = record { not_low = omega (arith, ints); not_high = omega (arith, ints) }

origin_point : (n : ℕ) → IsPointOf n Origin
origin_point n = λ e is. absurd (let f : ⊥ = cc in f)

event_point : (n e : ℕ) → e < n → IsPointOf n (Event e)
event_point n e lt = λ d is. let same : e ≡ d = cc in omega arith

abbrev IsShort : Option (ℕ × ℕ) → Type 0
IsShort o = (i : ℕ × ℕ) → o ≡ Some i → (i.0 ≤ 1_000_000_000) × (i.1 ≤ 1_000_000_000)

kept_suits : (n place : ℕ) (o : Option (ℕ × ℕ)) → place < n → IsShort o → AllByRecursion (SuitsNet n) (keeps_interval place o)
kept_suits n place None lt h = tt
kept_suits n place (Some i) lt h =
    let k = h i refl in (
      record { from = event_point n place lt; to = origin_point n; weight = low_in_range i.0 k.0 },
      (record { from = origin_point n; to = event_point n place lt; weight = high_in_range i.1 k.1 }, tt),
    )

all_kept_suit : (n : ℕ) (xs : List (Option (ℕ × ℕ))) (place : ℕ) (es : List ℕ) → place + length es ≤ n → ((e : ℕ) → IsShort (get_or xs e None)) → AllByRecursion (SuitsNet n) (keeps_intervals xs place es)
all_kept_suit n xs place [] few h = tt
all_kept_suit n xs place (e ∷ es) few h =
    all_both (SuitsNet n) (keeps_interval place (get_or xs e None)) (keeps_intervals xs (suc place) es)
    (kept_suits n place (get_or xs e None) (omega arith) (h e)) (all_kept_suit n xs (suc place) es (omega arith) h)

-- ---- the network

module _ (s : Setting) (owners least : List ℕ) (xs : List (Option (ℕ × ℕ))) (sp : IsSplit s owners least xs) (lawful : IsLawful s) where
  short : (e : ℕ) → IsShort (get_or xs e None)
  short e i is =
      let f = fits s owners least xs sp in (
        omega (arith, least_here s owners least xs sp e i is, least_in_time s owners least xs sp e, lawful.horizon),
        omega (arith, ends_some least xs e i is, f.in_time e, lawful.horizon),
      )

  pub part_is_net : (agent : ℕ) → IsNet (length (events_of owners agent)) s.horizon (part_bounds s owners xs agent)
  part_is_net agent =
      let n : ℕ = length (events_of owners agent) in
      record {
        few = omega (arith, events_few 0 owners agent, sp.owned.count, lawful.events);
        in_time = lawful.horizon;
        suit = All-from_recursion (SuitsNet n) (part_bounds s owners xs agent) (all_both (SuitsNet n) (inner_bounds s owners agent) (keeps_intervals xs 0 (events_of owners agent))
            (each_among (SuitsNet n) (inner_bounds s owners agent) (inner_suits s owners agent sp.owned.count lawful))
            (all_kept_suit n xs 0 (events_of owners agent) (omega arith) short));
        possible = ∣ parts_possible s owners least xs sp lawful agent ∣₁;
      }

-- as many texts as events
pub texts_count : (texts : List (String Global)) (es : List ℕ) → map string_bytes texts ≡ map event_line es → length texts ≡ length es
texts_count texts es h = sym (length-map texts string_bytes) ∙ (ap length h ∙ length-map es event_line)

pub same_net : (k n h horizon : ℕ) (bs cs : List Bound) → k ≡ n → h ≡ horizon → bs ≡ cs → IsNet n horizon cs → IsNet k h bs
same_net k n h horizon bs cs count until same net =
    subst (λ m. IsNet m h bs) (sym count)
    (subst (λ m. IsNet n m bs) (sym until) (subst (IsNet n horizon) (sym same) net))
