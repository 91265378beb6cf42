use Rattle.std.proofs.Common.{◌≡◌, ℕ, ◌+◌, ◌<◌, map, length, nat_eq, Some, None, option_map, sym, ap, ◌∙◌, arith}
use Rattle.std.proofs.lemmas.List.{length-map}
use Rattle.std.specs.List.{position_from}
use Rattle.std.specs.Cmp.Lexicographic.{pointwise}
use Rattle.smallvec.specs.SmallVec.{SmallVec}
use Rattle.tp_task.proofs.OnKeys.{position_map}
use Rattle.tp_task.proofs.OnPlaces.{in_front, behind}
use Rattle.tp_task.proofs.OnNumberings.{found_within}
use Rattle.tp_task.proofs.labels.Labels.position.Goals as goal

pub returns-in-Some : goal.returns-in-Some
returns-in-Some c =
    in_front (pointwise nat_eq c.args.label.now.items) (map (λ (l : SmallVec ℕ). l.items) c.self.inside.first.keys) (map (λ (l : SmallVec ℕ). l.items) c.self.inside.more.items) c.in-Some.place
    (position_map (λ (l : SmallVec ℕ). l.items) (pointwise nat_eq c.args.label.now.items) c.self.inside.first.keys ∙ sym c.in-Some.ensures.index)
    ∙ ap (position_from (pointwise nat_eq c.args.label.now.items) 0) c.self.view_is

pub returns-in_err-place : goal.returns-in_err-place
returns-in_err-place c =
    let none : position_from (pointwise nat_eq c.args.label.now.items) 0 (map (λ (l : SmallVec ℕ). l.items) c.self.inside.more.items) ≡ None = ap (λ ls. position_from (pointwise nat_eq c.args.label.now.items) 0 (map (λ (l : SmallVec ℕ). l.items) ls)) (sym c.deref.ensures.value) ∙ sym c.in_err-place.ensures in
    c.from_residual.ensures
    ∙ sym (ap (option_map (λ i. length (map (λ (l : SmallVec ℕ). l.items) c.self.inside.first.keys) + i)) none)
    ∙ sym (behind (pointwise nat_eq c.args.label.now.items) (map (λ (l : SmallVec ℕ). l.items) c.self.inside.first.keys) (map (λ (l : SmallVec ℕ). l.items) c.self.inside.more.items)
    (position_map (λ (l : SmallVec ℕ). l.items) (pointwise nat_eq c.args.label.now.items) c.self.inside.first.keys ∙ sym c.in_default.ensures.index))
    ∙ ap (position_from (pointwise nat_eq c.args.label.now.items) 0) c.self.view_is

pub overflow_add-result : goal.overflow_add-result
overflow_add-result c =
    let within : c.in_ok-place.place < 0 + length (map (λ (l : SmallVec ℕ). l.items) c.deref.result.now) = found_within (pointwise nat_eq c.args.label.now.items) 0 (map (λ (l : SmallVec ℕ). l.items) c.deref.result.now) c.in_ok-place.place (sym c.in_ok-place.ensures) in
    let same : length (map (λ (l : SmallVec ℕ). l.items) c.deref.result.now) ≡ length c.deref.result.now = length-map c.deref.result.now (λ (l : SmallVec ℕ). l.items) in
    let long : length c.deref.result.now ≡ length c.self.inside.more.items = ap length c.deref.ensures.value in
    omega (arith, within, same, long, c.len.ensures.small, c.self.inside.more.small, c.self.inside.more.ok.0, c.self.inside.more.ok.1)

pub returns : goal.returns
returns c =
    let there : position_from (pointwise nat_eq c.args.label.now.items) 0 (map (λ (l : SmallVec ℕ). l.items) c.self.inside.more.items) ≡ Some c.in_ok-place.place = ap (λ ls. position_from (pointwise nat_eq c.args.label.now.items) 0 (map (λ (l : SmallVec ℕ). l.items) ls)) (sym c.deref.ensures.value) ∙ sym c.in_ok-place.ensures in
    let count : c.len.result ≡ length (map (λ (l : SmallVec ℕ). l.items) c.self.inside.first.keys) = c.len.ensures.len ∙ sym (length-map c.self.inside.first.keys (λ (l : SmallVec ℕ). l.items)) in
    ap (λ n. Some (n + c.in_ok-place.place)) count
    ∙ sym (ap (option_map (λ i. length (map (λ (l : SmallVec ℕ). l.items) c.self.inside.first.keys) + i)) there)
    ∙ sym (behind (pointwise nat_eq c.args.label.now.items) (map (λ (l : SmallVec ℕ). l.items) c.self.inside.first.keys) (map (λ (l : SmallVec ℕ). l.items) c.self.inside.more.items)
    (position_map (λ (l : SmallVec ℕ). l.items) (pointwise nat_eq c.args.label.now.items) c.self.inside.first.keys ∙ sym c.in_default.ensures.index))
    ∙ ap (position_from (pointwise nat_eq c.args.label.now.items) 0) c.self.view_is
