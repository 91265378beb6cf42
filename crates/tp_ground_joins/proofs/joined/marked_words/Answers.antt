use Rattle.std.proofs.Common.{◌+◌, ℕ, List, ◌++◌, Vec, Bor, Global, drop, map, sym, ap, ◌∙◌, append-nil}
use Rattle.std.proofs.lemmas.List.{drop_all}
use Rattle.tp_task.specs.Words.{Words}
use Rattle.tp_ground_bindings.specs.Rows.{names_of}
use Rattle.tp_ground.proofs.OnInstances.{item_at}
use Rattle.tp_ground.specs.declared.instances.Instance as code
use Rattle.tp_ground_joins.specs.Joined.{picked, words_seen}
use Rattle.tp_ground_joins.proofs.OnPicked.{picked_none, picked_false, one_said}
use Rattle.tp_ground_joins.proofs.joined.marked_words.Goals as goal
use Rattle.tp_ground_joins.proofs.joined.marked_words.Goals.{then-is_marked+in_ok-spoken+in_ok-push, else-is_marked}

pub loop-place-preserved : goal.loop-place-preserved
loop-place-preserved c =
    let ms = c.args.marks.now in
    let xs = c.args.some.now in
    let k = c.loop-place.place in
    let rest = picked words_seen (drop (k + 1) ms) (drop (k + 1) xs) in
    elim c.if-is_marked.branch [
      | then-is_marked+in_ok-spoken+in_ok-push w ↦
          ap (λ (v : Vec (Vec (Bor (List ℕ)) Global) Global). map names_of v.items ++ rest) w.words-is
          ∙ one_said c.loop-place.words.items w.push.new.self.items w.in_ok-spoken.field-0 ms xs k w.index-some-place.result w.in_ok-push.ensures.items w.in_ok-spoken.ensures c.loop-place-test.true w.index-some-place.is (sym c.is_marked.ensures ∙ w.if-is_marked.true)
          ∙ c.loop-place.invariant
      | else-is_marked w ↦
          ap (λ (v : Vec (Vec (Bor (List ℕ)) Global) Global). map names_of v.items ++ rest) w.words-is
          ∙ ap (λ (ys : List Words). map names_of c.loop-place.words.items ++ ys) (sym (picked_false words_seen ms xs k (item_at xs k c.loop-place-test.true).0 c.loop-place-test.true (item_at xs k c.loop-place-test.true).1 (sym c.is_marked.ensures ∙ w.if-is_marked.false)))
          ∙ c.loop-place.invariant
    ]

pub returns : goal.returns
returns c =
    let ms = drop c.loop-place.place c.args.marks.now in
    sym (ap (λ (ys : List Words). map names_of c.loop-place.words.items ++ ys) (ap (λ (xs : List code.Instance). picked words_seen ms xs) (drop_all c.loop-place.place c.args.some.now c.loop-place-test.false) ∙ picked_none words_seen ms) ∙ append-nil (map names_of c.loop-place.words.items))
    ∙ c.loop-place.invariant
