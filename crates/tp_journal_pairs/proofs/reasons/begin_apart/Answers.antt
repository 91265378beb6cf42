use Rattle.std.proofs.Common.{◌≡◌, ◌≢◌, ◌+◌, ◌-◌, ◌<◌, ◌∷◌, drop, length, IsTrue, true, false, Some, None, arith, rules, subst, sym, ◌∙◌, ap}
use Rattle.std.specs.List.{AllByRecursion, filter_map}
use Rattle.std.proofs.lemmas.List.{take_rest}
use Rattle.tp_bounds.specs.declared.Edge.TheVariants.{Own}
use Rattle.tp_bounds.specs.Reasons.{bound_of, BeginApart}
use Rattle.tp_bounds.proofs.ReasonChecks.{step_keep}
use Rattle.tp_exec_machine.specs.Step.{asked}
use Rattle.tp_journal_pairs.specs.Reasons.{Marks}
use Rattle.tp_journal_pairs.proofs.MarkLemmas.{Marked, marked_more, marked_far, apart_behind}
use Rattle.tp_journal_pairs.proofs.reasons.begin_apart.Goals as goal
use Rattle.tp_journal_pairs.proofs.reasons.begin_apart.Goals.{in-Some-mark, in-None}

pub loop-at-preserved : goal.loop-at-preserved
loop-at-preserved g c =
    let f = bound_of (asked c.args.executive.now c.args.command) in
    let es = c.args.edges.now in
    let i = c.loop-at.at - 1 in
    let b = c.in-Some.bound in
    let next : c.loop-at.at ≡ i + 1 = omega (arith, c.loop-at-test.true) in
    let lt : i < length es = omega (arith, c.loop-at-test.true, c.loop-at.invariant.within) in
    let keep = step_keep f es i (Own (record { 0 = 0 })) b lt (sym c.edge_then.ensures ∙ c.in-Some.is) in
    let before : Marked c.loop-at.marks (filter_map f (drop (i + 1) es)) = subst (λ k. Marked c.loop-at.marks (filter_map f (drop k es))) next c.loop-at.invariant.marks in
    let rest : BeginApart (filter_map f (drop (i + 1) es)) = subst (λ k. BeginApart (filter_map f (drop k es))) next c.loop-at.invariant.apart in
    elim c.match-mark.branch [
      | in-Some-mark w ↦
          let m : Marks c.loop-at.marks c.mark.new.marks b.from (Some w.in-Some-mark.was) = w.in-Some-mark.ensures in
          let fresh : w.in-Some-mark.was ≡ false = search rules in
          record {
            within = omega (arith, lt);
            marks = rw keep (subst (λ ms. Marked ms (b ∷ filter_map f (drop (i + 1) es))) (sym m.2) (marked_more c.loop-at.marks (filter_map f (drop (i + 1) es)) b m.0 before));
            apart = rw keep (before.unmarked b.from m.0 (sym m.1 ∙ fresh), rest);
          }
      | in-None w ↦
          let m : Marks c.loop-at.marks c.mark.new.marks b.from None = w.in-None.ensures in
          let yes : IsTrue w.none_begins-apart.result = search rules in
          let all : AllByRecursion (λ x. b.from ≢ x.from) (filter_map f (drop (i + 1) es)) = simp take_rest at (w.none_begins-apart.ensures.0 yes) in
          record {
            within = omega (arith, lt);
            marks = rw keep (subst (λ ms. Marked ms (b ∷ filter_map f (drop (i + 1) es))) (sym m.1) (marked_far c.loop-at.marks (filter_map f (drop (i + 1) es)) b m.0 before));
            apart = rw keep (all, rest);
          }
    ]

pub returns-then-not-apart : goal.returns-then-not-apart
returns-then-not-apart g c =
    let f = bound_of (asked c.args.executive.now c.args.command) in
    let es = c.args.edges.now in
    let i = c.loop-at.at - 1 in
    let b = c.in-Some.bound in
    let next : c.loop-at.at ≡ i + 1 = omega (arith, c.loop-at-test.true) in
    let lt : i < length es = omega (arith, c.loop-at-test.true, c.loop-at.invariant.within) in
    let keep = step_keep f es i (Own (record { 0 = 0 })) b lt (sym c.edge_then.ensures ∙ c.in-Some.is) in
    let before : Marked c.loop-at.marks (filter_map f (drop (i + 1) es)) = subst (λ k. Marked c.loop-at.marks (filter_map f (drop k es))) next c.loop-at.invariant.marks in (
      λ yes. absurd (let no : ⊥ = search rules in no),
      λ whole. (
          let behind = subst BeginApart keep (apart_behind f i es whole) in
          elim c.match-mark.branch [
            | in-Some-mark w ↦
                let m : Marks c.loop-at.marks c.mark.new.marks b.from (Some w.in-Some-mark.was) = w.in-Some-mark.ensures in
                let seen : w.in-Some-mark.was ≡ true = search rules in
                absurd (before.marked b.from (sym m.1 ∙ seen) behind.0)
            | in-None w ↦
                let all = subst (λ ys. AllByRecursion (λ x. b.from ≢ x.from) (filter_map f ys)) (sym (take_rest es (i + 1))) behind.0 in
                let yes : IsTrue w.none_begins-apart.result = w.none_begins-apart.ensures.1 all in
                absurd (let no : ⊥ = search rules in no)
          ]),
    )
