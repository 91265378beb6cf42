use Rattle.std.proofs.Common.{◌≡◌, ◌<◌, ℕ, List, [], Bool, false, true, length, replicate, rules, get_or, inl, inr, sym, subst, ◌∙◌, ap, arith}
use Rattle.std.proofs.lemmas.Bool.{cases_eq}
use Rattle.std.proofs.lemmas.List.{length-replicate}
use Rattle.tp_exec_machine.specs.Orders.{AreListed}
use Rattle.tp_exec_machine.proofs.Listed.{none_listed, all_listed}
use Rattle.tp_exec_machine.proofs.firsts.each_once.Goals as goal

pub loop-early-init : goal.loop-early-init
loop-early-init c =
    let marks : c.in_ok-there.there.items ≡ replicate c.args.count false = search rules in
    let none : c.in_ok-order.order.items ≡ [] = c.in_ok-order.ensures.items in
    record {
      listed = subst (λ (bs : List Bool). AreListed bs c.in_ok-order.order.items) (sym marks) (subst (λ (ps : List ℕ). AreListed (replicate c.args.count false) ps) (sym none) (none_listed c.args.count));
      len = ap length marks ∙ length-replicate c.args.count false;
    }

pub loop-place-preserved : goal.loop-place-preserved
loop-place-preserved c =
    let e = c.in_ok-put_once-2.ensures in
    record {
      listed = e.listed;
      len = e.len ∙ c.loop-place.invariant.len;
      all = λ p lt.
          elim (cases_eq p c.loop-place.place) [
            | inl same ↦ ap (λ q. get_or c.put_once-in-loop-place.new.there.items q false) same ∙ e.here (omega (arith, c.loop-place.invariant.len, c.loop-place-test.true))
            | inr ne ↦ e.stays p (c.loop-place.invariant.all p (omega (arith, lt, ne)))
          ];
    }

pub returns : goal.returns
returns c =
    all_listed c.loop-place.there.items c.loop-place.order.items c.args.count c.loop-place.invariant.len
    (λ p lt. c.loop-place.invariant.all p (omega (arith, lt, c.loop-place-test.false))) c.loop-place.invariant.listed
