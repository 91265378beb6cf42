use Rattle.std.proofs.Common.{◌≡◌, ◌<◌, inl, inr, List, length, set, sym, ap, ◌∙◌, arith, get_or-set_same, get_or-set_other, length-set}
use Rattle.std.proofs.lemmas.List.{get_or_default}
use Rattle.tp_bounds.specs.declared.Edge.{Edge}
use Rattle.tp_bounds.specs.declared.Edge.TheVariants.{New}
use Rattle.tp_net.specs.Arcs.{name_at, past_name}
use Rattle.tp_net.proofs.Spreads.{same_or}
use Rattle.tp_repair.proofs.Renewed.{mapped_names}
use Rattle.tp_repair.proofs.net.past.Goals as goal

pub loop-k-preserved : goal.loop-k-preserved
loop-k-preserved c =
    let i = c.loop-k.invariant in
    let k = c.loop-k.k in
    let xs : List Edge = c.loop-k.reason.edges.items in
    let v : Edge = c.name_past.result in
    let within : k < length xs = (let t = c.loop-k-test.true in let l = i.len in let n = c.len-k-end.ensures in omega (arith, t, l, n)) in
    let read : c.index.result.now ≡ name_at xs k = c.index.ensures ∙ get_or_default xs k c.index.result.now New within in
    let here : v ≡ past_name c.args.e (name_at c.args.reason.edges.items k) = c.name_past.ensures ∙ ap (past_name c.args.e) (read ∙ i.left k (omega arith)) in
    record {
      len = length-set xs k v ∙ i.len;
      done = λ j lt.
          (elim (same_or j k) [
            | inl same ↦ ap (λ n. name_at (set xs k v) n) same ∙ (get_or-set_same xs k v New within ∙ (here ∙ ap (λ n. past_name c.args.e (name_at c.args.reason.edges.items n)) (sym same)))
            | inr ne ↦ get_or-set_other xs k j v New ne ∙ i.done j (omega (arith, lt, ne))
          ]);
      left = λ j le. get_or-set_other xs k j v New (λ same. omega (arith, same, le)) ∙ i.left j (omega (arith, le));
    }

pub returns : goal.returns
returns c =
    let i = c.loop-k.invariant in
    mapped_names c.args.e c.loop-k.reason.edges.items c.args.reason.edges.items i.len
    (λ j within. i.done j (let t = c.loop-k-test.false in let n = c.len-k-end.ensures in omega (arith, t, n, within)))
