use Rattle.std.proofs.Common.{◌≡◌, ℕ, true, map, refl, sym, subst}
use Rattle.std.specs.List.{list_all}
use Rattle.std.proofs.lemmas.Result.{IfOk-weaker}
use Rattle.tp_syntax_ast.specs.DomainViews.{problem_view}
use Rattle.tp_task.specs.Rounds.{adds_fit}
use Rattle.tp_ground_bindings.specs.Views.{universe_view}
use Rattle.tp_ground.specs.Instances.{instance_view, AreReached}
use Rattle.tp_ground.proofs.OnFlags.{adds_there, flags_of}
use Rattle.tp_ground.proofs.reached.flags_of.Goals as goal

pub are_reached-requires : goal.are_reached-requires
are_reached-requires c =
    subst (λ (n : ℕ). list_all (adds_fit n) c.in_ok-lowered.lowered.actions.items ≡ true) (sym c.atom_count.ensures.count)
    (adds_there (universe_view c.args.universe.now) (problem_view c.args.problem.now).initial (problem_view c.args.problem.now).goal (map instance_view c.args.some.now) c.new-numbering.result c.lower_freely.new.numbering c.lower_freely.new.numbering c.in_ok-lowered.lowered _ c.new-numbering.ensures refl c.in_ok-lowered.ensures)

pub returns : goal.returns
returns c =
    IfOk-weaker c.are_reached.result _ _ (λ v r.
    flags_of (universe_view c.args.universe.now) (problem_view c.args.problem.now).initial (problem_view c.args.problem.now).goal (map instance_view c.args.some.now) c.new-numbering.result c.lower_freely.new.numbering c.lower_freely.new.numbering c.in_ok-lowered.lowered _ c.new-numbering.ensures refl c.in_ok-lowered.ensures v.items
    (subst (λ (n : ℕ). AreReached n c.in_ok-lowered.lowered v.items) c.atom_count.ensures.count r)) c.are_reached.ensures
