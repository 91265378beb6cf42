-- Which of some instances are kept, from what they were lowered to.
use Rattle.std.proofs.Common.{◌≡◌, ◌<◌, ℕ, Bool, true, List, [], ◌∷◌, map, length, refl, sym, ap, subst, ◌∙◌, arith}
use Rattle.std.specs.List.{IsDistinct, filter, flat_map, list_all}
use Rattle.std.proofs.lemmas.Bool.{and_from, and_parts}
use Rattle.tp_syntax_ast.specs.Conditions.{Condition}
use Rattle.tp_syntax_ast.specs.Domains.{Domain}
use Rattle.tp_syntax_ast.specs.Problems.{Initial, Problem}
use Rattle.tp_task.specs.Words.{same_words, with_all, firsts}
use Rattle.tp_task.specs.Fits.{body_fits, event_fits}
use Rattle.tp_task.specs.Tables.{Tables}
use Rattle.tp_task.specs.declared.events.Body.{Body}
use Rattle.tp_task.specs.declared.events.Body.TheVariants.{Instant, Durative}
use Rattle.tp_task.specs.Rounds.{adds_in, adds_fit}
use Rattle.tp_ground_bindings.specs.Bindings.{Universe, universe_of}
use Rattle.tp_ground_bodies.specs.ReadBack.{named_body}
use Rattle.tp_ground.specs.Initially.{initial_in, named_initial}
use Rattle.tp_bounds.specs.RunLimits.{RunLimits}
use Rattle.tp_ground.specs.Grounding.{HasNoTask, ground_actions, mentioned}
use Rattle.tp_task.specs.declared.fault.GroundFault.{GroundFault}
use Rattle.tp_task.specs.declared.fault.GroundFault.TheVariants as faults
use Rattle.tp_task.specs.declared.fault.TooManyKind.TheVariants as kinds
use Rattle.tp_ground.specs.Reached.{AreKept, HasNoReachedTask, Instance, IsReach, action_of, happenings_of, instances, is_kept}
use Rattle.tp_ground_bodies.specs.Lowered.{IsLowered}
use Rattle.tp_ground.specs.Instances.{written_with, of_task_with, AreReached, AreFlags}
use Rattle.tp_ground.specs.WrittenTasks.{WrittenTask, named_task}
use Rattle.tp_ground.specs.declared.tasks.LoweredTask.{LoweredTask}
use Rattle.tp_ground.proofs.OnInitially.{with_all_distinct}
use Rattle.tp_ground.proofs.OnTasks.{some_written, fit, same_extend}
use Rattle.tp_ground.proofs.OnReach.{reach, is_reach, flags_are}

-- what fits adds what fits
adds_of : (atoms fluents : ℕ) (bs : List Body) → list_all (body_fits atoms fluents) bs ≡ true → list_all (adds_fit atoms) bs ≡ true
adds_of atoms fluents [] h = refl
adds_of atoms fluents (Instant e ∷ bs) h =
    let p = and_parts (event_fits atoms fluents e) _ h in
    and_from (adds_in atoms e) _ (and_parts (adds_in atoms e) _ p.0).0 (adds_of atoms fluents bs p.1)
adds_of atoms fluents (Durative start end invariant ∷ bs) h =
    let p = and_parts (body_fits atoms fluents (Durative start end invariant)) _ h in
    let q = and_parts (event_fits atoms fluents start) _ p.0 in
    and_from (adds_fit atoms (Durative start end invariant)) _
    (and_from (adds_in atoms start) _ (and_parts (adds_in atoms start) _ q.0).0 (and_parts (adds_in atoms end) _ q.1).0)
    (adds_of atoms fluents bs p.1)

module _ (u : Universe) (initial : List Initial) (goal : Condition) (xs : List Instance) (none new : Tables) (t : Tables) (l : LoweredTask) (most : ℕ)
    (empty : none ≡ record { atoms = []; fluents = []; actions = []; most = most }) (same : t ≡ new)
    (lowered : IsLowered named_task none new l (written_with u initial goal xs) (of_task_with u initial goal xs)) where
  said : named_task t l ≡ written_with u initial goal xs
  said = lowered.says t (same_extend new t (ap (λ (n : Tables). n.atoms) same) (ap (λ (n : Tables). n.fluents) same))

  bodies : map (named_body t) l.actions.items ≡ map (λ i. (action_of u i).body) xs
  bodies = ap (λ (w : WrittenTask). w.bodies) said

  entries : map (named_initial t) l.entries.items ≡ map initial_in initial
  entries = ap (λ (w : WrittenTask). w.initial) said

  distinct : IsDistinct same_words t.atoms
  unfolding IsDistinct
  distinct =
      subst (IsDistinct same_words) (sym (ap (λ (n : Tables). n.atoms) same ∙ lowered.notes.atoms ∙ ap (λ (n : Tables). with_all n.atoms (of_task_with u initial goal xs).atoms) empty))
      (with_all_distinct [] (of_task_with u initial goal xs).atoms tt)

  pub adds_there : list_all (adds_fit (length t.atoms)) l.actions.items ≡ true
  adds_there = adds_of (length t.atoms) (length t.fluents) l.actions.items (fit u t l.actions.items (map (λ i. (action_of u i).body) xs) (some_written u xs) bodies)

  pub flags_of : (flags : List Bool) → AreReached (length t.atoms) l flags → AreFlags u (map initial_in initial) xs flags
  flags_of flags r = record {
    reach = reach t distinct u initial l.entries.items entries xs l.actions.items bodies adds_there r.first r.met.reach r.first_count r.truths r.met.adds r.met.settled;
    is_reach = is_reach t distinct u initial l.entries.items entries xs l.actions.items bodies adds_there r.first r.met.reach r.first_count r.truths r.met.adds r.met.settled;
    are = r.met.are ∙ flags_are t distinct u initial l.entries.items entries xs l.actions.items bodies adds_there r.first r.met.reach r.first_count r.truths r.met.adds r.met.settled;
  }

-- limits with other counts of atoms and of actions
abbrev with_counts : RunLimits → ℕ → ℕ → RunLimits
with_counts l atoms actions = record { events = l.events; bounds = l.bounds; ids = l.ids; horizon = l.horizon; atoms = atoms; actions = actions; expansions = l.expansions }

-- those that are flagged are those that the relaxed reach keeps
pub kept_of : (d : Domain) (p : Problem) (u : Universe) (xs kept : List Instance) (flags : List Bool) → u ≡ universe_of d p → xs ≡ instances u d.actions → AreFlags u (map initial_in p.initial) xs flags → ((test : Instance → Bool) → flags ≡ map test xs → kept ≡ filter test xs) → AreKept d p kept
kept_of d p u xs kept flags same all f picks = record { reach = f.reach; is_reach = there.0; are = there.1 }
  where
    Are : Universe → List Instance → Type 0
    Are v ys = IsReach (map initial_in p.initial) (flat_map (λ i. happenings_of (action_of v i).body) ys) f.reach × (kept ≡ filter (λ i. is_kept f.reach (action_of v i).body) ys)

    there : Are (universe_of d p) (instances (universe_of d p) d.actions)
    there = subst (λ (v : Universe). Are v (instances v d.actions)) same (subst (Are u) all (f.is_reach, picks (λ i. is_kept f.reach (action_of u i).body) f.are))

-- a fault that is told whatever the limits is no want of room within them
pub whatever_the_limits : (d : Domain) (p : Problem) (e : GroundFault) → ((limits : RunLimits) → HasNoTask limits d p e) → (small : RunLimits) → HasNoReachedTask small d p e
whatever_the_limits d p faults.Memory h small = tt
whatever_the_limits d p (faults.TooMany kinds.Objects) h small = h small
whatever_the_limits d p (faults.TooMany kinds.Atoms) h small =
    let no : length (firsts (mentioned d p).atoms) < length (firsts (mentioned d p).atoms) = h (with_counts small (length (firsts (mentioned d p).atoms)) 0) in absurd (omega arith)
whatever_the_limits d p (faults.TooMany kinds.Fluents) h small =
    let no : length (firsts (mentioned d p).fluents) < length (firsts (mentioned d p).fluents) = h (with_counts small (length (firsts (mentioned d p).fluents)) 0) in absurd (omega arith)
whatever_the_limits d p (faults.TooMany kinds.Actions) h small =
    let no : length (ground_actions (universe_of d p) d.actions) < length (ground_actions (universe_of d p) d.actions) = h (with_counts small 0 (length (ground_actions (universe_of d p) d.actions))) in absurd (omega arith)
whatever_the_limits d p faults.Range h small = h small
