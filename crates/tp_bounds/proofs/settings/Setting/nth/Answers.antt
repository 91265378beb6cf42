use Rattle.std.proofs.Common.{◌≡◌, Some, None, sym, ap, ◌∙◌}
use Rattle.std.specs.Option.{option_map}
use Rattle.std.specs.List.{slice_get}
use Rattle.std.specs.Map.Iter.{deref_pair}
use Rattle.std.proofs.lemmas.Iterator.Consumers.{nth_from_yields_List, YieldsList-from_rest}
use Rattle.tp_bounds.specs.Setting.{Setting}
use Rattle.tp_bounds.proofs.InOrder.{nth_is, nth_past}
use Rattle.tp_bounds.proofs.settings.Setting.nth.Goals as goal

pub returns-in_err-id : goal.returns-in_err-id
returns-in_err-id c =
    let is : option_map deref_pair c.nth.result ≡ slice_get c.self.inside.bounds.entries c.args.k = nth_from_yields_List c.nth.result c.nth.new.self c.args.k c.nth.ensures.ran (YieldsList-from_rest c.self.inside.bounds.entries c.iter.ensures.rest) in
    let none : slice_get c.self.inside.bounds.entries c.args.k ≡ None = sym is ∙ ap (option_map deref_pair) c.in_err-id.was in
    rw c.from_residual.ensures
    (nth_past c.args.self.now.bounds c.self.inside.bounds c.iter.ensures.ordered (ap (λ (s : Setting). s.bounds) c.self.view_is) c.args.k none)

pub returns : goal.returns
returns c =
    let is : option_map deref_pair c.nth.result ≡ slice_get c.self.inside.bounds.entries c.args.k = nth_from_yields_List c.nth.result c.nth.new.self c.args.k c.nth.ensures.ran (YieldsList-from_rest c.self.inside.bounds.entries c.iter.ensures.rest) in
    let some : slice_get c.self.inside.bounds.entries c.args.k ≡ Some (c.in_ok-id.id.now, c.in_ok-id.bound.now) = sym is ∙ ap (option_map deref_pair) c.in_ok-id.was in
    nth_is c.args.self.now.bounds c.self.inside.bounds c.iter.ensures.ordered (ap (λ (s : Setting). s.bounds) c.self.view_is) c.args.k c.in_ok-id.id.now c.in_ok-id.bound.now some
