use Rattle.std.proofs.Common.{map, string_bytes, ap}
use Rattle.tp_ground_bindings.specs.Views.{universe_view}
use Rattle.tp_ground_bindings.specs.KnownChoices.{is_known}
use Rattle.tp_ground_bindings.specs.declared.objects.Known.{Known}
use Rattle.tp_ground_bindings.proofs.OnKnown.{all_pushed, is_known_now}
use Rattle.tp_ground_bindings.proofs.universe.keep.Goals as goal

pub invariant_of-universe : goal.invariant_of-universe
invariant_of-universe c =
    let u = universe_view c.args.universe.now in
    let k : Known = record { types = c.type_names-types.result; names = c.args.names } in
    record { right = all_pushed (is_known u) _ c.args.universe.now.known.items _ k c.push.ensures.items c.args.universe.now.right (is_known_now u (map string_bytes c.args.variable.now.types.value.items) k (ap (map string_bytes) c.type_names-types.ensures) c.requires) }
