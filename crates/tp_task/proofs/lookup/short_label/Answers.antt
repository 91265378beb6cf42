use Rattle.std.proofs.Common.{ℕ, ◌+◌, ◌&&◌, List, [], ◌∷◌, ◌++◌, Bor, length, map, drop, string_bytes, refl, sym, ap, ◌∙◌, append-nil, length-append}
use Rattle.std.proofs.lemmas.List.{at_drop_more}
use Rattle.tp_task.specs.Labels.{are_known}
use Rattle.tp_task.proofs.OnLabels.{numbered_on, taken_on}
use Rattle.tp_task.proofs.lookup.short_label.Goals as goal

pub returns-in_err-first : goal.returns-in_err-first
returns-in_err-first c = rw c.from_residual.ensures (ap (λ b. b && are_known (map string_bytes c.args.names.now.keys) (map (λ w. w.now) c.args.args.now)) (sym c.in_err-first.ensures.found))

pub loop-arg-init : goal.loop-arg-init
loop-arg-init c =
    let N = map string_bytes c.args.names.now.keys in
    let at = c.in_ok-first.ensures.index in
    let items = c.push_reserved.ensures.items ∙ ap (λ ns. ns ++ c.in_ok-first.first ∷ []) c.new-label.ensures.items in
    let n = numbered_on N N [] c.push_reserved.new.self.items [] _ _ refl tt ([], sym (append-nil N)) at items in
    record {
      named_so_far = n.0;
      in_range = n.1;
      known_so_far = sym (ap (λ b. b && are_known N (map (λ w. w.now) c.args.args.now)) (sym c.in_ok-first.ensures.found));
      count = ap length items;
      room = c.push_reserved.ensures.capacity ∙ c.new-label.ensures.capacity;
    }

pub returns-in_err-number : goal.returns-in_err-number
returns-in_err-number c =
    let N = map string_bytes c.args.names.now.keys in
    rw c.from_residual-in_err-number.ensures
    (sym c.loop-arg.invariant.known_so_far
    ∙ at_drop_more (λ (ys : List (Bor (List ℕ))). are_known N (map (λ w. w.now) ys)) c.args.args.now c.loop-arg.arg-index _ c.loop-arg-test.true
    ∙ ap (λ b. b && are_known N (map (λ w. w.now) (drop (c.loop-arg.arg-index + 1) c.args.args.now))) (sym c.in_err-number.ensures.found))

pub loop-arg-preserved : goal.loop-arg-preserved
loop-arg-preserved c =
    let N = map string_bytes c.args.names.now.keys in
    let at = c.in_ok-number.ensures.index in
    let items = c.push_reserved-in-loop-arg.ensures.items in
    let n = numbered_on N N _ _ _ _ _ c.loop-arg.invariant.named_so_far c.loop-arg.invariant.in_range ([], sym (append-nil N)) at items in
    record {
      named_so_far = n.0 ∙ ap (λ ws. c.args.name.now ∷ ws) (taken_on (λ w. w.now) c.args.args.now c.loop-arg.arg-index _ c.loop-arg-test.true);
      in_range = n.1;
      known_so_far =
          sym (ap (λ b. b && are_known N (map (λ w. w.now) (drop (c.loop-arg.arg-index + 1) c.args.args.now))) (sym c.in_ok-number.ensures.found))
          ∙ sym (at_drop_more (λ (ys : List (Bor (List ℕ))). are_known N (map (λ w. w.now) ys)) c.args.args.now c.loop-arg.arg-index _ c.loop-arg-test.true)
          ∙ c.loop-arg.invariant.known_so_far;
      count = ap length items ∙ length-append c.loop-arg.label.items _ ∙ ap (λ n. n + 1) c.loop-arg.invariant.count;
      room = c.push_reserved-in-loop-arg.ensures.capacity ∙ c.loop-arg.invariant.room;
    }
