use Rattle.std.proofs.Common.{◌≡◌, ◌+◌, ◌-◌, take, drop, sym, ap, ◌∙◌, arith, length-drop}
use lib.Seq.{paste}
use Rattle.std.proofs.lemmas.List.{drop-take}
use Rattle.std.proofs.lemmas.List.Edits.{take-paste}
use Rattle.tp_script.proofs.lines.to_front.Goals as goal

pub returns-clause-front : goal.returns-clause-front
returns-clause-front c =
    let all = c.args.chunk.now in
    let at = c.args.at in
    let n = c.args.end - c.args.at in
    let same : n ≡ 0 + n = omega arith in
    let end : at + n ≡ c.args.end = omega arith in
    ap (take n) c.copy_within.ensures.after
    ∙ (ap (λ k. take k (paste all 0 (drop at all) n)) same
    ∙ (take-paste all 0 (drop at all) n (omega arith) (omega (arith, length-drop at all))
    ∙ (sym (drop-take at n all) ∙ ap (λ k. drop at (take k all)) end)))
