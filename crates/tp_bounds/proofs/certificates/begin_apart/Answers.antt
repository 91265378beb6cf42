use Rattle.std.proofs.Common.{sym, ◌∙◌, ◌≢◌, ◌+◌, drop, rules, IsTrue}
use Rattle.std.specs.List.{AllByRecursion, filter_map}
use Rattle.std.proofs.lemmas.List.{take_rest}
use Rattle.tp_bounds.specs.declared.Edge.TheVariants.{Own}
use Rattle.tp_bounds.specs.Reasons.{bound_of}
use Rattle.tp_bounds.proofs.ReasonChecks.{step_keep}
use Rattle.tp_bounds.proofs.certificates.begin_apart.Goals as goal

pub loop-place-preserved : goal.loop-place-preserved
loop-place-preserved c =
    let f = bound_of c.args.setting.now in
    let es = c.args.edges.now in
    let i = c.loop-place.place in
    let b = c.in-Some.bound in
    let step = step_keep f es i (Own (record { 0 = 0 })) b c.loop-place-test.true (sym c.bound.ensures ∙ c.in-Some.is) in
    let yes : IsTrue c.none_begins.result = search rules in
    let apart : AllByRecursion (λ x. b.from ≢ x.from) (filter_map f (drop (i + 1) es)) = simp take_rest at (c.none_begins.ensures.0 yes) in
    record {
      whole = λ h. c.loop-place.invariant.whole (rw step (apart, h));
      rest = λ h. (rw step at (c.loop-place.invariant.rest h)).1;
    }
