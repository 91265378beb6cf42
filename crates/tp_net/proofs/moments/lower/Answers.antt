use Rattle.std.proofs.Common.{◌≡◌, length, sym, rules, ◌∙◌, w64}
use Rattle.std.proofs.lemmas.Int.{to_z-of_z}
use mir.Val.{SFits}
use Rattle.tp_net.proofs.Additions.{lower_stands}
use Rattle.tp_net.proofs.moments.lower.Goals as goal

pub returns-clause-greatest : goal.returns-clause-greatest
returns-clause-greatest c =
    let f : SFits w64 c.args.new.weight = search rules in
    let r = c.in_ok-lowered.lowered in
    let s = simp c.deref.ensures.value at c.in_ok-lowered.ensures.spread in
    let len : length c.in_ok-differences.field-0.items ≡ length c.args.high.now = sym c.in_ok-differences.field-0.ok.0 ∙ c.in_ok-differences.ensures.len in
    lower_stands c.args.arcs.now c.in_ok-links.links.items c.args.new c.gap-amount.result c.args.high.now r.amounts.items r.ranks.items r.parents.items c.in_ok-differences.field-0.items
    c.requires.origin c.requires.among c.requires.new_among c.in_ok-links.ensures (simp to_z-of_z at c.gap-amount.ensures) s c.requires.high c.requires.solution.0 c.requires.solution.1 len (simp c.deref-2.ensures.value at c.in_ok-differences.ensures.each)
