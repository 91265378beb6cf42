use Rattle.std.proofs.Common.{◌≡◌, Some, ap, ◌∙◌}
use Rattle.std.specs.Prelude.{negsuc}
use Rattle.std.specs.Cmp.{nat_cmp_total}
use Rattle.std.specs.FinMap.{get, empty, get-insert}
use Rattle.tp_bounds.specs.declared.Point.TheVariants.{Event}
use Rattle.tp_bounds.specs.Setting.{Setting}
use Rattle.tp_net_tests.proofs.certificates.two_events_after_their_bound_is_gone.Goals as goal

pub take-requires : goal.take-requires
take-requires g c =
    let held : get c.in_ok-setting.setting.bounds 0 ≡ Some (record { from = Event 1; to = Event 0; w = negsuc 1 }) =
    ap (λ (s : Setting). get s.bounds 0) c.in_ok-setting.ensures ∙ get-insert nat_cmp_total empty 0 (record { from = Event 1; to = Event 0; w = negsuc 1 }) 0
    in
    λ none. (let f : ⊥ = cc in f)
