use Rattle.std.proofs.Common.{◌≡◌, ◌<◌, ◌≤◌, ◌++◌, ℕ, [], length, get_or, sym, subst, arith, add-one}
use Rattle.std.specs.List.{AllByRecursion}
use Rattle.tp_validate.specs.OfTask.{IsValidPlan}
use Rattle.tp_search.specs.Children.{children_within}
use Rattle.tp_search.specs.Running.{IsRunning, steps_at}
use Rattle.tp_search.proofs.Loop.{finds, exhausted, next_running, chosen_is_node, small_actions}
use Rattle.tp_search.proofs.at_once.run.Goals as goal

pub returns-in-Some-2 : goal.returns-in-Some-2
returns-in-Some-2 c = finds c.args.task.now c.args.horizon c.deref.result.now c.in-Some-2.plan c.requires.in_reach (rw c.in-Some-2.is at c.in_ok-plan.ensures)

pub returns : goal.returns
returns c = exhausted c.args.task.now c.loop-arena.arena c.loop-arena.expanded c.loop-arena.invariant.running c.requires.in_reach (rw c.in_default.is at c.in_ok-chosen.ensures)

pub first_after-first-requires : goal.first_after-first-requires
first_after-first-requires c =
    let t = c.args.task.now in
    let p : (c.loop-arena.expanded < length c.loop-arena.arena) × (c.in-Some.chosen.items ≡ get_or c.loop-arena.arena c.loop-arena.expanded []) = rw c.in-Some.is at c.in_ok-chosen.ensures in
    subst (AllByRecursion (λ a. a < 65535)) (sym c.deref-in-Some.ensures.value)
    (small_actions (length t.actions.items) c.in-Some.chosen.items t.few_actions (chosen_is_node t c.loop-arena.arena c.loop-arena.expanded c.loop-arena.invariant.running c.in-Some.chosen.items p.0 p.1).actions)

pub loop-arena-preserved : goal.loop-arena-preserved
loop-arena-preserved c =
    let t = c.args.task.now in
    let xs = c.in-Some.chosen.items in
    let first = c.first_after-first.result in
    let p : (c.loop-arena.expanded < length c.loop-arena.arena) × (xs ≡ get_or c.loop-arena.arena c.loop-arena.expanded []) = rw c.in-Some.is at c.in_ok-chosen.ensures in
    let unfit : ¬ IsValidPlan t (steps_at xs) = subst (λ ys. ¬ IsValidPlan t (steps_at ys)) c.deref.ensures.value (rw c.in_default-2.is at c.in_ok-plan.ensures) in
    let least : (a : ℕ) → AllByRecursion (λ b. b < a) xs → first ≤ a = λ a h. c.first_after-first.ensures.least a (subst (AllByRecursion (λ b. b < a)) (sym c.deref-in-Some.ensures.value) h) in
    let new : c.add_children.new.arena ≡ c.loop-arena.arena ++ children_within t first c.args.candidates.now xs =
    subst (λ ys. c.add_children.new.arena ≡ c.loop-arena.arena ++ children_within t first c.args.candidates.now ys) c.deref-in-Some-3.ensures.value c.in_ok-add_children.ensures in
    record {
      running = subst (λ n. IsRunning t c.add_children.new.arena n) (sym (add-one c.loop-arena.expanded)) (next_running t c.loop-arena.arena c.loop-arena.expanded c.loop-arena.invariant.running xs p.0 p.1 unfit first least c.args.candidates.now c.requires.all c.add_children.new.arena new);
      few = omega arith;
      rows = c.in_ok-ask_last.ensures.rows;
    }
