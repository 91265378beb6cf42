-- The relaxed reach: what can be added if negated atoms and comparisons count as met.
use Rattle.std.specs.Prelude.{◌≡◌, ℕ, Bool, true, false, not, ◌&&◌, ◌||◌, List}
use Rattle.tp_task.specs.declared.events.Cond.{Cond, Row_of-Cond, end_of-Cond, more_of-Cond}
use Rattle.tp_task.specs.declared.events.Cond.TheVariants.{Atom, Compare, Not', And', Or'}
use Rattle.tp_task.specs.declared.events.GroundEvent.{GroundEvent}
use Rattle.tp_task.specs.State.{State}
use Rattle.tp_task.specs.Event.{has}
use Rattle.tp_task.specs.Bounds.{In}

-- A condition, or its negation, is met by a set of atoms: negations are moved inward, and a negated atom or a comparison counts as met.
abbrev mutual
  pub met : (ℕ → Bool) → Bool → Cond → Bool
  met reach true (Atom a) = reach a
  met reach false (Atom a) = true
  met reach b (Compare how x y) = true
  met reach b (Not' p c) = met reach (not b) c
  met reach true (And' shape cs) = each_met reach true cs
  met reach false (And' shape cs) = some_met reach false cs
  met reach true (Or' shape cs) = some_met reach true cs
  met reach false (Or' shape cs) = each_met reach false cs

  pub each_met : {m : _} → (ℕ → Bool) → Bool → Row_of-Cond m → Bool
  each_met reach b end_of-Cond = true
  each_met reach b (more_of-Cond c cs) = met reach b c && each_met reach b cs

  pub some_met : {m : _} → (ℕ → Bool) → Bool → Row_of-Cond m → Bool
  some_met reach b end_of-Cond = false
  some_met reach b (more_of-Cond c cs) = met reach b c || some_met reach b cs

-- A set of atoms that has the initial ones and, with the condition of an event, what it adds.
pub record IsClosed (initial : State) (acts : List GroundEvent) (reach : ℕ → Bool) : Type 0 where
  pub has_initial : (a : ℕ) → initial.atom a ≡ true → reach a ≡ true
  pub has_added :
      (e : GroundEvent) → In e acts
      → met reach true e.condition ≡ true → (a : ℕ) → has e.adds.items a ≡ true → reach a ≡ true

-- The relaxed reach is the least such set.
pub record IsReach (initial : State) (acts : List GroundEvent) (reach : ℕ → Bool) : Type 0 where
  pub closed : IsClosed initial acts reach
  pub least :
      (other : ℕ → Bool) → IsClosed initial acts other → (a : ℕ) → reach a ≡ true → other a ≡ true
