-- What is written out of a problem, numbered one after another, and the task of it.
use Rattle.std.proofs.Common.{◌≡◌, ◌<◌, ◌≤◌, true, false, None, List, [], ◌∷◌, ◌++◌, length, map, Result, Ok, Err, IfErr, IsErrAnd, Vec, Global, refl, sym, ap, ap₂, subst, ◌∙◌, arith, append-nil}
use Rattle.std.specs.List.{AllByRecursion, IsDistinct, list_all}
use Rattle.std.proofs.lemmas.Bool.{and_from}
use Rattle.std.proofs.lemmas.List.{length-map, get_or-map}
use Rattle.tp_syntax_ast.specs.Conditions.{Condition}
use Rattle.tp_syntax_ast.specs.Actions as actions
use Rattle.tp_syntax_ast.specs.Domains.{Domain}
use Rattle.tp_syntax_ast.specs.Problems.{Problem}
use Rattle.tp_syntax_ast.specs.DomainViews.{initial_view}
use Rattle.tp_syntax_ast.specs.declared.problem.Initial.{Initial}
use Rattle.tp_bounds.specs.RunLimits.{RunLimits}
use Rattle.tp_text.specs.declared.number.Scale.{Scale}
use Rattle.tp_task.specs.Words.{Words, same_words, with_all, firsts}
use Rattle.tp_ground_bindings.specs.Bindings.{Universe, Env, bound, universe_of}
use Rattle.tp_task.specs.Fits.{body_fits}
use Rattle.tp_task.specs.Tables.{Tables}
use Rattle.tp_ground_bodies.specs.Written.{GroundCondition, GroundBody, condition_in, body_in}
use Rattle.tp_ground_bodies.specs.Mentions.{Mentions, ◌then◌, of_condition, of_each}
use Rattle.tp_ground_bodies.specs.ReadBack.{named_condition, named_body}
use Rattle.tp_ground.specs.Initially.{GroundInitial, initial_in, of_initial, named_initial, is_initially_true, initial_value}
use Rattle.tp_ground_bodies.specs.Lowered.{Notes, Extends, IsLowered, Overflows}
use Rattle.tp_ground.specs.Reached.{Instance, IsTaskOf, action_of, mentioned_of}
use Rattle.tp_ground.specs.Instances.{written_with}
use Rattle.tp_ground.specs.WrittenTasks.{WrittenTask, named_task, IsMade}
use Rattle.tp_ground.specs.declared.beginning.NumberedInitial.{NumberedInitial}
use Rattle.tp_ground.specs.declared.tasks.LoweredTask.{LoweredTask}
use Rattle.tp_task.specs.declared.task.Task.{Task}
use Rattle.tp_task.specs.declared.fault.GroundFault.{GroundFault}
use Rattle.tp_task.specs.declared.events.Cond.{Cond}
use Rattle.tp_task.specs.declared.events.Body.{Body}
use Rattle.tp_ground_bodies.proofs.OnBodies.{at_first, at_second, at_third}
use Rattle.tp_ground.proofs.OnFits.{body_fits_of}
use Rattle.tp_ground.proofs.OnInitially.{with_all_distinct, true_there, value_there, same_reads}
use Rattle.tp_ground_bodies.proofs.OnLowered.{lowered_both, lowered_same}

entries_view : (is : List Initial) → map (λ i. initial_in (initial_view i)) is ≡ map initial_in (map initial_view is)
entries_view [] = refl
entries_view (i ∷ is) = ap (λ xs. initial_in (initial_view i) ∷ xs) (entries_view is)

-- ---- one after another

abbrev all_entries : Tables → Vec NumberedInitial Global → List GroundInitial
all_entries t v = map (named_initial t) v.items

abbrev all_bodies : Tables → Vec Body Global → List GroundBody
all_bodies t v = map (named_body t) v.items

abbrev named_pair : Tables → Vec NumberedInitial Global × Cond → List GroundInitial × GroundCondition
named_pair t p = (map (named_initial t) p.0.items, named_condition t p.1)

module _ (u : Universe) (is : List Initial) (c : Condition) (third : Mentions) (bodies : List GroundBody) where
  abbrev first : Mentions
  first = of_each of_initial (map initial_in (map initial_view is))

  abbrev second : Mentions
  second = of_condition (condition_in u [] c)

  abbrev told : List GroundInitial
  told = map (λ i. initial_in (initial_view i)) is

  abbrev all : Mentions
  all = first then second then third

  abbrev written : WrittenTask
  written = record { initial = map initial_in (map initial_view is); goal = condition_in u [] c; bodies = bodies }

  pub entries_stopped : (a : Tables) (e : GroundFault) → Overflows a (of_each of_initial told) e → Overflows a all e
  entries_stopped a e h = at_first a first second third e (subst (λ (es : List GroundInitial). Overflows a (of_each of_initial es) e) (entries_view is) h)

  entries_noted : (a b : Tables) → Notes a b (of_each of_initial told) → Notes a b first
  entries_noted a b l = subst (λ (es : List GroundInitial). Notes a b (of_each of_initial es)) (entries_view is) l

  pub goal_stopped : (a b : Tables) (e : GroundFault) → Notes a b (of_each of_initial told) → Overflows b (of_condition (condition_in u [] c)) e → Overflows a all e
  goal_stopped a b e l h = at_second a first second third e b (entries_noted a b l) h

  pub actions_stopped : (a b d : Tables) (e : GroundFault) → Notes a b (of_each of_initial told) → Notes b d (of_condition (condition_in u [] c)) → Overflows d third e → Overflows a all e
  actions_stopped a b d e l k h = at_third a first second third e b d (entries_noted a b l) k h

  pub task_lowered : (a b d w : Tables) (es : Vec NumberedInitial Global) (g : Cond) (bs : Vec Body Global) (x : LoweredTask) → x ≡ record { entries = es; goal = g; actions = bs } → IsLowered all_entries a b es told (of_each of_initial told) → IsLowered named_condition b d g (condition_in u [] c) (of_condition (condition_in u [] c)) → IsLowered all_bodies d w bs bodies third → IsLowered named_task a w x written all
  task_lowered a b d w es g bs x is_x l k h =
      subst (λ (y : LoweredTask). IsLowered named_task a w y written all) (sym is_x)
      (lowered_both (λ (p : List GroundInitial × GroundCondition) (q : List GroundBody). record { initial = p.0; goal = p.1; bodies = q }) (record { entries = es; goal = g; actions = bs }) (λ t. refl)
      (lowered_both {named = named_pair} (λ (p : List GroundInitial) (q : GroundCondition). (p, q)) (es, g) (λ t. refl)
      (lowered_same _ first (entries_view is) (ap (of_each of_initial) (entries_view is)) l) k)
      h)

-- ---- what the actions change is there

abbrev pub IsWritten : Universe → GroundBody → Type 0
IsWritten u y = (env : Env) × ((a : actions.Body) × (y ≡ body_in u env a))

module _ (u : Universe) where
  pub some_written : (is : List Instance) → AllByRecursion (IsWritten u) (map (λ i. (action_of u i).body) is)
  some_written [] = tt
  some_written (i ∷ is) = ((bound i.action.parameters i.objects, (i.action.body, refl)), some_written is)

  pub fit : (t : Tables) (bs : List Body) (ys : List GroundBody) → AllByRecursion (IsWritten u) ys → map (named_body t) bs ≡ ys → list_all (body_fits (length t.atoms) (length t.fluents)) bs ≡ true
  fit t [] ys h e = refl
  fit t (b ∷ bs) [] h e = cc
  fit t (b ∷ bs) (y ∷ ys) h e =
      let here : named_body t b ≡ y = cc in
      let rest : map (named_body t) bs ≡ ys = cc in
      and_from _ _ (body_fits_of t b u h.0.0 h.0.1.0 (here ∙ h.0.1.1)) (fit t bs ys h.1 rest)

-- ---- the task

-- tables to which only actions came
pub same_extend : (a b : Tables) → b.atoms ≡ a.atoms → b.fluents ≡ a.fluents → Extends a b
same_extend a b atoms fluents = record { atoms = ([], atoms ∙ sym (append-nil a.atoms)); fluents = ([], fluents ∙ sym (append-nil a.fluents)) }

-- what was written out, with these bodies
abbrev pub written_bodies : Domain → Problem → List GroundBody → WrittenTask
written_bodies d p bodies = record { initial = map initial_in p.initial; goal = condition_in (universe_of d p) [] p.goal; bodies = bodies }

module _ (limits : RunLimits) (scale : Scale) (d : Domain) (p : Problem) (bodies : List GroundBody) (labels : List Words) (m : Mentions) (none new : Tables) (later : Tables) (l : LoweredTask)
    (empty : none ≡ record { atoms = []; fluents = []; actions = []; most = limits.atoms })
    (lowered : IsLowered named_task none new l (written_bodies d p bodies) m)
    (names : later.actions ≡ new.actions ++ labels)
    (atoms : later.atoms ≡ new.atoms) (fluents : later.fluents ≡ new.fluents) (most : later.most ≡ new.most) where
  said : named_task later l ≡ written_bodies d p bodies
  said = lowered.says later (same_extend new later atoms fluents)

  all_said : map (named_body later) l.actions.items ≡ bodies
  all_said = ap (λ (w : WrittenTask). w.bodies) said

  entries : map (named_initial later) l.entries.items ≡ map initial_in p.initial
  entries = ap (λ (w : WrittenTask). w.initial) said

  all_names : later.actions ≡ labels
  all_names = names ∙ ap (λ (ws : List Words). ws ++ labels) (lowered.notes.actions ∙ ap (λ (t : Tables). t.actions) empty)

  all_atoms : later.atoms ≡ firsts m.atoms
  all_atoms = atoms ∙ lowered.notes.atoms ∙ ap (λ (t : Tables). with_all t.atoms m.atoms) empty

  all_fluents : later.fluents ≡ firsts m.fluents
  all_fluents = fluents ∙ lowered.notes.fluents ∙ ap (λ (t : Tables). with_all t.fluents m.fluents) empty

  pub how_many : length l.actions.items ≡ length bodies
  how_many = sym (length-map l.actions.items (named_body later)) ∙ ap length all_said

  pub few_of : length bodies ≤ 65_535 → length l.actions.items ≤ 65_535
  few_of h = let e : length l.actions.items ≡ length bodies = how_many in omega arith

  most_atoms : later.most ≡ limits.atoms
  most_atoms = most ∙ lowered.notes.most ∙ ap (λ (t : Tables). t.most) empty

  pub atoms_of : length later.atoms ≤ later.most → length (firsts m.atoms) ≤ limits.atoms
  atoms_of h = let e : length later.atoms ≡ length (firsts m.atoms) = ap length all_atoms in let k = most_atoms in omega arith

  pub fluents_of : length later.fluents ≤ later.most → length (firsts m.fluents) ≤ limits.atoms
  fluents_of h = let e : length later.fluents ≡ length (firsts m.fluents) = ap length all_fluents in let k = most_atoms in omega arith

  pub fits_of : AllByRecursion (IsWritten (universe_of d p)) bodies → list_all (body_fits (length later.atoms) (length later.fluents)) l.actions.items ≡ true
  fits_of h = fit (universe_of d p) later l.actions.items bodies h all_said

  pub named_of : length labels ≡ length bodies → length later.actions ≡ length l.actions.items
  named_of h = ap length all_names ∙ h ∙ sym how_many

  atoms_distinct : IsDistinct same_words later.atoms
  unfolding IsDistinct
  atoms_distinct = subst (IsDistinct same_words) (sym all_atoms) (with_all_distinct [] m.atoms tt)

  fluents_distinct : IsDistinct same_words later.fluents
  unfolding IsDistinct
  fluents_distinct = subst (IsDistinct same_words) (sym all_fluents) (with_all_distinct [] m.fluents tt)

  module _ (t : Task) (made : IsMade limits scale later l t) where
    atoms_then : t.initial_atoms.items ≡ map (is_initially_true (map initial_in p.initial)) later.atoms
    atoms_then =
        same_reads false t.initial_atoms.items (map (is_initially_true (map initial_in p.initial)) later.atoms)
        (made.atom_count ∙ sym (length-map later.atoms (is_initially_true (map initial_in p.initial))))
        (λ j lt.
        let below : j < length later.atoms = subst (λ n. j < n) (length-map later.atoms (is_initially_true (map initial_in p.initial))) lt in
        made.atoms j below
        ∙ true_there later atoms_distinct j below l.entries.items p.initial entries
        ∙ sym (get_or-map (is_initially_true (map initial_in p.initial)) later.atoms j [] false below))

    numbers_then : t.initial_numbers.items ≡ map (initial_value (map initial_in p.initial)) later.fluents
    numbers_then =
        same_reads None t.initial_numbers.items (map (initial_value (map initial_in p.initial)) later.fluents)
        (made.fluent_count ∙ sym (length-map later.fluents (initial_value (map initial_in p.initial))))
        (λ j lt.
        let below : j < length later.fluents = subst (λ n. j < n) (length-map later.fluents (initial_value (map initial_in p.initial))) lt in
        made.numbers j below
        ∙ value_there later fluents_distinct j below l.entries.items p.initial entries
        ∙ sym (get_or-map (initial_value (map initial_in p.initial)) later.fluents j [] None below))

    pub same_atoms : t.numbering.atoms ≡ firsts m.atoms
    same_atoms = ap (λ (n : Tables). n.atoms) made.same_numbering ∙ all_atoms

    pub same_fluents : t.numbering.fluents ≡ firsts m.fluents
    same_fluents = ap (λ (n : Tables). n.fluents) made.same_numbering ∙ all_fluents

    pub same_names : t.numbering.actions ≡ labels
    same_names = ap (λ (n : Tables). n.actions) made.same_numbering ∙ all_names

    pub same_bodies : map (named_body t.numbering) t.actions.items ≡ bodies
    same_bodies = ap₂ (λ (n : Tables) (v : Vec Body Global). map (named_body n) v.items) made.same_numbering made.same_actions ∙ all_said

    pub same_goal : named_condition t.numbering t.goal ≡ condition_in (universe_of d p) [] p.goal
    same_goal = ap₂ (λ (n : Tables) (g : Cond). named_condition n g) made.same_numbering made.same_goal ∙ ap (λ (w : WrittenTask). w.goal) said

    pub same_truths : t.initial_atoms.items ≡ map (is_initially_true (map initial_in p.initial)) t.numbering.atoms
    same_truths = atoms_then ∙ sym (ap (λ (n : Tables). map (is_initially_true (map initial_in p.initial)) n.atoms) made.same_numbering)

    pub same_values : t.initial_numbers.items ≡ map (initial_value (map initial_in p.initial)) t.numbering.fluents
    same_values = numbers_then ∙ sym (ap (λ (n : Tables). map (initial_value (map initial_in p.initial)) n.fluents) made.same_numbering)

-- of some ground actions
module _ (limits : RunLimits) (scale : Scale) (d : Domain) (p : Problem) (is : List Instance) (none new : Tables) (later : Tables) (l : LoweredTask)
    (empty : none ≡ record { atoms = []; fluents = []; actions = []; most = limits.atoms })
    (lowered : IsLowered named_task none new l (written_with (universe_of d p) p.initial p.goal is) (mentioned_of d p is))
    (names : later.actions ≡ new.actions ++ map (λ i. (action_of (universe_of d p) i).words) is)
    (atoms : later.atoms ≡ new.atoms) (fluents : later.fluents ≡ new.fluents) (most : later.most ≡ new.most) where
  abbrev some_bodies : List GroundBody
  some_bodies = map (λ i. (action_of (universe_of d p) i).body) is

  abbrev some_labels : List Words
  some_labels = map (λ i. (action_of (universe_of d p) i).words) is

  as_many_of : length some_bodies ≡ length is
  as_many_of = length-map is (λ i. (action_of (universe_of d p) i).body)

  pub few_some : length is ≤ 65_535 → length l.actions.items ≤ 65_535
  few_some h = few_of limits scale d p some_bodies some_labels (mentioned_of d p is) none new later l empty lowered names atoms fluents most (let e = as_many_of in omega arith)

  pub fits_some : list_all (body_fits (length later.atoms) (length later.fluents)) l.actions.items ≡ true
  fits_some = fits_of limits scale d p some_bodies some_labels (mentioned_of d p is) none new later l empty lowered names atoms fluents most (some_written (universe_of d p) is)

  pub named_some : length later.actions ≡ length l.actions.items
  named_some = named_of limits scale d p some_bodies some_labels (mentioned_of d p is) none new later l empty lowered names atoms fluents most (length-map is (λ i. (action_of (universe_of d p) i).words) ∙ sym as_many_of)

  pub is_task_of : (t : Task) → IsMade limits scale later l t → IsTaskOf limits scale d p is t
  is_task_of t made = record {
    same_limits = made.same_limits;
    same_scale = made.same_scale;
    atoms = same_atoms limits scale d p some_bodies some_labels (mentioned_of d p is) none new later l empty lowered names atoms fluents most t made;
    fluents = same_fluents limits scale d p some_bodies some_labels (mentioned_of d p is) none new later l empty lowered names atoms fluents most t made;
    names = same_names limits scale d p some_bodies some_labels (mentioned_of d p is) none new later l empty lowered names atoms fluents most t made;
    bodies = same_bodies limits scale d p some_bodies some_labels (mentioned_of d p is) none new later l empty lowered names atoms fluents most t made;
    goal = same_goal limits scale d p some_bodies some_labels (mentioned_of d p is) none new later l empty lowered names atoms fluents most t made;
    initial_atoms = same_truths limits scale d p some_bodies some_labels (mentioned_of d p is) none new later l empty lowered names atoms fluents most t made;
    initial_numbers = same_values limits scale d p some_bodies some_labels (mentioned_of d p is) none new later l empty lowered names atoms fluents most t made;
  }

-- a fault that was passed on
pub not_made : {X : Type 0} (Why : GroundFault → Type 0) (r : Result X GroundFault) (f : GroundFault) → IsErrAnd r (λ e. e ≡ f) → Why f → IfErr r Why
not_made Why (Ok x) f is h = absurd is
not_made Why (Err e) f is h = subst Why (sym is) h
