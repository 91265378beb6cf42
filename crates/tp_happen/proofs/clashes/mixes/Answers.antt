use Rattle.std.proofs.Common.{rules, ◌≡◌, ◌<◌, ◌||◌, false, None, length, get_or, ap}
use Rattle.tp_task.specs.Event.{mixes_in}
use Rattle.tp_happen.specs.Clashes.{clashes}
use Rattle.tp_happen.proofs.OnClashes.{blank, go_on}
use Rattle.tp_happen.proofs.clashes.mixes.Goals as goal

pub loop-effect-init : goal.loop-effect-init
loop-effect-init c = ap (λ b. b || mixes_in c.args.effects.now) (blank _ c.args.effects.now c.requires.blank)

pub loop-effect-preserved : goal.loop-effect-preserved
loop-effect-preserved c =
    let known : c.effect-item.result.fluent < length c.loop-effect.table = search rules in
    let h : clashes (get_or c.loop-effect.table c.effect-item.result.fluent None) c.is_additive-additive.result ≡ false = search rules in
    go_on c.args.effects.now c.loop-effect.effect-index c.effect-item.result c.loop-effect.table c.is_additive-additive.result (mixes_in c.args.effects.now) c.loop-effect-test.true c.effect-item.is known c.is_additive-additive.ensures h c.loop-effect.invariant
