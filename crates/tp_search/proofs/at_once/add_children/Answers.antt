use Rattle.std.proofs.Common.{◌≡◌, ◌++◌, subst, arith}
use Rattle.std.proofs.lemmas.List.{take_all}
use Rattle.tp_search.specs.Children.{children}
use Rattle.tp_search.proofs.Expanding.{more_children, with_room, no_room}
use Rattle.tp_search.proofs.Lists.{in_at}
use Rattle.tp_search.proofs.at_once.add_children.Goals as goal

pub loop-action-preserved : goal.loop-action-preserved
loop-action-preserved c =
    let among = c.args.candidates.now in
    let i = c.loop-action.action-index in
    more_children c.args.task.now c.args.first c.args.chosen.now c.args.arena.now among i c.loop-action.arena c.add_child.new.arena (omega arith) c.loop-action.invariant
    (c.in_ok-add_child.ensures among c.requires.rows (in_at among i 0 (omega arith)))

pub returns-then-chosen-ge-MOST_STEPS : goal.returns-then-chosen-ge-MOST_STEPS
returns-then-chosen-ge-MOST_STEPS c = no_room c.args.task.now c.args.first c.args.chosen.now c.args.arena.now c.args.candidates.now (omega arith)

pub returns : goal.returns
returns c =
    let among = c.args.candidates.now in
    with_room c.args.task.now c.args.first c.args.chosen.now c.args.arena.now among c.loop-action.arena (omega arith)
    (subst (λ xs. c.loop-action.arena ≡ c.args.arena.now ++ children c.args.task.now c.args.first xs c.args.chosen.now) (take_all c.loop-action.action-index among (omega (arith, c.loop-action-test.false))) c.loop-action.invariant)
