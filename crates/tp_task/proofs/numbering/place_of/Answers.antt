use Rattle.std.proofs.Common.{◌≡◌, ℕ, sym, ap, ◌∙◌, map, nat_eq, length, arith, refl}
use Rattle.std.proofs.lemmas.List.{length-map}
use Rattle.std.specs.Cmp.Lexicographic.{pointwise}
use Rattle.smallvec.specs.SmallVec.{SmallVec}
use Rattle.tp_task.proofs.OnKeys.{key_label, stored_label, new_label, list_any_map}
use Rattle.tp_task.proofs.numbering.place_of.Goals as goal

pub returns-clause-place : goal.returns-clause-place
returns-clause-place c = stored_label (λ (l : SmallVec ℕ). l.items) c.insert_full.new.self.keys c.in_ok-place.place c.args.label c.in_ok-place.ensures.stored

pub returns-clause-added : goal.returns-clause-added
returns-clause-added c = ap (map (λ (l : SmallVec ℕ). l.items)) c.in_ok-place.ensures.keys ∙ key_label (λ (l : SmallVec ℕ). l.items) c.args.labels.now.keys c.args.label

pub returns-then-not-contains-clause-err : goal.returns-then-not-contains-clause-err
returns-then-not-contains-clause-err c =
    let new = new_label (map (λ (l : SmallVec ℕ). l.items) c.args.labels.now.keys) c.args.label.items (list_any_map (λ (l : SmallVec ℕ). l.items) (pointwise nat_eq c.args.label.items) c.args.labels.now.keys ∙ sym c.contains.ensures ∙ c.if-not-contains.true) in
    let same : length (map (λ (l : SmallVec ℕ). l.items) c.args.labels.now.keys) ≡ length c.args.labels.now.keys = length-map c.args.labels.now.keys (λ (l : SmallVec ℕ). l.items) in
    (refl, omega (arith, new, same, c.len.ensures.len, c.if-len-most.true))
