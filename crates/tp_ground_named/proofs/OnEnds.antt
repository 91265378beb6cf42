-- What ':init' and the goal say, and the task of that and of some instances.
use Rattle.std.proofs.Common.{◌≡◌, ◌≤◌, ◌<◌, ℕ, true, List, [], ◌∷◌, ◌++◌, map, length, Vec, Global, refl, sym, ap, subst, ◌∙◌, arith}
use Rattle.std.specs.List.{list_all}
use Rattle.tp_syntax_ast.specs.Conditions.{Condition}
use Rattle.tp_syntax_ast.specs.Domains.{Domain}
use Rattle.tp_syntax_ast.specs.Problems.{Problem}
use Rattle.tp_syntax_ast.specs.DomainViews.{initial_view}
use Rattle.tp_syntax_ast.specs.declared.problem.Initial.{Initial}
use Rattle.tp_bounds.specs.RunLimits.{RunLimits}
use Rattle.tp_text.specs.declared.number.Scale.{Scale}
use Rattle.tp_task.specs.Fits.{body_fits}
use Rattle.tp_task.specs.Tables.{Tables, with_actions, CannotNumber}
use Rattle.tp_task.specs.Words.{with_all, firsts}
use Rattle.tp_task.specs.declared.events.Body.{Body}
use Rattle.tp_task.specs.declared.events.Cond.{Cond}
use Rattle.tp_task.specs.declared.fault.GroundFault.{GroundFault}
use Rattle.tp_task.specs.declared.fault.GroundFault.TheVariants as faults
use Rattle.tp_task.specs.declared.fault.TooManyKind.TheVariants as kinds
use Rattle.tp_task.specs.declared.task.Task.{Task}
use Rattle.tp_ground_bindings.specs.Bindings.{Universe, universe_of}
use Rattle.tp_ground_bodies.specs.Written.{GroundCondition, GroundBody, condition_in}
use Rattle.tp_ground_bodies.specs.Mentions.{nothing, of_condition, of_each}
use Rattle.tp_ground_bodies.specs.ReadBack.{named_condition, named_body}
use Rattle.tp_ground_bodies.specs.Lowered.{Notes, IsLowered, Overflows}
use Rattle.tp_ground_bodies.proofs.OnLowered.{lowered_both, lowered_same, overflows_first, overflows_then}
use Rattle.tp_ground.specs.Initially.{GroundInitial, initial_in, of_initial, named_initial}
use Rattle.tp_ground.specs.Grounding.{ground_actions, mentioned, HasNoTask}
use Rattle.tp_ground.specs.declared.beginning.NumberedInitial.{NumberedInitial}
use Rattle.tp_ground.specs.Instances.{written_with}
use Rattle.tp_ground.specs.Reached.{Instance, IsTaskOf, action_of, of_instance, mentioned_of}
use Rattle.tp_ground.specs.WrittenTasks.{named_task, IsMade}
use Rattle.tp_ground.specs.declared.tasks.LoweredTask.{LoweredTask}
use Rattle.tp_ground.proofs.OnTasks.{few_some, fits_some, named_some, is_task_of}
use Rattle.tp_ground_named.specs.Named.{WrittenEnds, written_ends, named_ends, of_ends, IsBegun, HasNoTaskOf}
use Rattle.tp_ground_named.specs.declared.named.Begun.{Begun}
use Rattle.tp_ground_named.specs.declared.named.Ends.{Ends}

entries_view : (is : List Initial) → map (λ i. initial_in (initial_view i)) is ≡ map initial_in (map initial_view is)
entries_view [] = refl
entries_view (i ∷ is) = ap (λ xs. initial_in (initial_view i) ∷ xs) (entries_view is)

abbrev all_entries : Tables → Vec NumberedInitial Global → List GroundInitial
all_entries t v = map (named_initial t) v.items

abbrev all_bodies : Tables → Vec Body Global → List GroundBody
all_bodies t v = map (named_body t) v.items

-- ---- ':init', and then the goal

module _ (u : Universe) (is : List Initial) (c : Condition) where
  abbrev told : List GroundInitial
  told = map (λ i. initial_in (initial_view i)) is

  pub entries_stopped : (a : Tables) (e : GroundFault) → Overflows a (of_each of_initial told) e → Overflows a (of_ends u (map initial_view is) c) e
  entries_stopped a e h =
      overflows_first a (of_each of_initial (map initial_in (map initial_view is))) (of_condition (condition_in u [] c)) e
      (subst (λ (es : List GroundInitial). Overflows a (of_each of_initial es) e) (entries_view is) h)

  pub goal_stopped : (a b : Tables) (e : GroundFault) → Notes a b (of_each of_initial told) → Overflows b (of_condition (condition_in u [] c)) e → Overflows a (of_ends u (map initial_view is) c) e
  goal_stopped a b e l h =
      overflows_then a b (of_each of_initial (map initial_in (map initial_view is))) (of_condition (condition_in u [] c)) e
      (subst (λ (es : List GroundInitial). Notes a b (of_each of_initial es)) (entries_view is) l) h

  pub ends_lowered : (a b w : Tables) (es : Vec NumberedInitial Global) (g : Cond) (x : Ends) → x ≡ record { entries = es; goal = g } → IsLowered all_entries a b es told (of_each of_initial told) → IsLowered named_condition b w g (condition_in u [] c) (of_condition (condition_in u [] c)) → IsLowered named_ends a w x (written_ends u (map initial_view is) c) (of_ends u (map initial_view is) c)
  ends_lowered a b w es g x is_x l k =
      subst (λ (y : Ends). IsLowered named_ends a w y (written_ends u (map initial_view is) c) (of_ends u (map initial_view is) c)) (sym is_x)
      (lowered_both {named = named_ends} (λ (p : List GroundInitial) (q : GroundCondition). record { initial = p; goal = q }) (record { entries = es; goal = g }) (λ t. refl)
      (lowered_same _ (of_each of_initial (map initial_in (map initial_view is))) (entries_view is) (ap (of_each of_initial) (entries_view is)) l) k)

-- ---- faults

pub no_task : (limits : RunLimits) (d : Domain) (p : Problem) (is : List Instance) (none : Tables) (e : GroundFault) → none ≡ record { atoms = []; fluents = []; actions = []; most = limits.atoms } → Overflows none (mentioned_of d p is) e → HasNoTaskOf limits d p is e
no_task limits d p is none e empty h = by e (subst (λ (t : Tables). CannotNumber t.most (with_all t.atoms (mentioned_of d p is).atoms) (with_all t.fluents (mentioned_of d p is).fluents) e) empty h)
  where
    by : (f : GroundFault) → CannotNumber limits.atoms (firsts (mentioned_of d p is).atoms) (firsts (mentioned_of d p is).fluents) f → HasNoTaskOf limits d p is f
    by faults.Memory k = tt
    by (faults.TooMany kinds.Atoms) k = k
    by (faults.TooMany kinds.Fluents) k = k
    by (faults.TooMany kinds.Objects) k = absurd k
    by (faults.TooMany kinds.Actions) k = absurd k
    by faults.Range k = absurd k

-- before any instance
pub no_beginning : (limits : RunLimits) (d : Domain) (p : Problem) (none : Tables) (u : Universe) (e : GroundFault) → u ≡ universe_of d p → none ≡ record { atoms = []; fluents = []; actions = []; most = limits.atoms } → Overflows none (of_ends u p.initial p.goal) e → HasNoTaskOf limits d p [] e
no_beginning limits d p none u e same empty h =
    no_task limits d p [] none e empty
    (overflows_first none (of_ends (universe_of d p) p.initial p.goal) nothing e
    (subst (λ (v : Universe). Overflows none (of_ends v p.initial p.goal) e) same h))

abbrev with_counts : RunLimits → ℕ → ℕ → RunLimits
with_counts l atoms actions = record { events = l.events; bounds = l.bounds; ids = l.ids; horizon = l.horizon; atoms = atoms; actions = actions; expansions = l.expansions }

-- what is told whatever the limits
pub whatever : (d : Domain) (p : Problem) (is : List Instance) (e : GroundFault) → ((limits : RunLimits) → HasNoTask limits d p e) → (small : RunLimits) → HasNoTaskOf small d p is e
whatever d p is faults.Memory h small = tt
whatever d p is (faults.TooMany kinds.Objects) h small = h small
whatever d p is (faults.TooMany kinds.Atoms) h small =
    let no : length (firsts (mentioned d p).atoms) < length (firsts (mentioned d p).atoms) = h (with_counts small (length (firsts (mentioned d p).atoms)) 0) in absurd (omega arith)
whatever d p is (faults.TooMany kinds.Fluents) h small =
    let no : length (firsts (mentioned d p).fluents) < length (firsts (mentioned d p).fluents) = h (with_counts small (length (firsts (mentioned d p).fluents)) 0) in absurd (omega arith)
whatever d p is (faults.TooMany kinds.Actions) h small =
    let no : length (ground_actions (universe_of d p) d.actions) < length (ground_actions (universe_of d p) d.actions) = h (with_counts small 0 (length (ground_actions (universe_of d p) d.actions))) in absurd (omega arith)
whatever d p is faults.Range h small = h small

-- ---- the task of some instances

module _ (limits : RunLimits) (scale : Scale) (d : Domain) (p : Problem) (is : List Instance) (b : Begun) (begun : IsBegun limits d p b) (u : Universe) (same : u ≡ universe_of d p) where
  pub stopped : (e : GroundFault) → Overflows b.numbering (of_each (of_instance u) is) e → HasNoTaskOf limits d p is e
  stopped e h =
      no_task limits d p is begun.none e begun.empty
      (overflows_then begun.none b.numbering (of_ends (universe_of d p) p.initial p.goal) (of_each (of_instance (universe_of d p)) is) e begun.lowered.notes
      (subst (λ (v : Universe). Overflows b.numbering (of_each (of_instance v) is) e) same h))

  module _ (new : Tables) (vb : Vec Body Global)
      (lowered : IsLowered all_bodies b.numbering (with_actions new b.numbering.actions) vb (map (λ i. (action_of u i).body) is) (of_each (of_instance u) is))
      (names : new.actions ≡ b.numbering.actions ++ map (λ i. i.action.name ∷ i.objects) is) where
    abbrev whole : LoweredTask
    whole = record { entries = b.ends.entries; goal = b.ends.goal; actions = vb }

    all : IsLowered named_task begun.none (with_actions new b.numbering.actions) whole (written_with (universe_of d p) p.initial p.goal is) (mentioned_of d p is)
    all =
        lowered_both {named = named_task} (λ (e : WrittenEnds) (bs : List GroundBody). record { initial = e.initial; goal = e.goal; bodies = bs }) whole (λ t. refl) begun.lowered
        (subst (λ (v : Universe). IsLowered all_bodies b.numbering (with_actions new b.numbering.actions) vb (map (λ i. (action_of v i).body) is) (of_each (of_instance v) is)) same lowered)

    pub few : length is ≤ 65_535 → length vb.items ≤ 65_535
    few h = few_some limits scale d p is begun.none (with_actions new b.numbering.actions) new whole begun.empty all names refl refl refl h

    pub fits : list_all (body_fits (length new.atoms) (length new.fluents)) vb.items ≡ true
    fits = fits_some limits scale d p is begun.none (with_actions new b.numbering.actions) new whole begun.empty all names refl refl refl

    pub all_named : length new.actions ≡ length vb.items
    all_named = named_some limits scale d p is begun.none (with_actions new b.numbering.actions) new whole begun.empty all names refl refl refl

    pub is_task : (t : Task) → IsMade limits scale new whole t → IsTaskOf limits scale d p is t
    is_task t made = is_task_of limits scale d p is begun.none (with_actions new b.numbering.actions) new whole begun.empty all names refl refl refl t made
