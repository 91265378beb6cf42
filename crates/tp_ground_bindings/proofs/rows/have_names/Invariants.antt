use Rattle.std.proofs.Common.{◌≡◌, true, [], drop}
use Rattle.std.specs.List.{list_all}
use Rattle.tp_ground_bindings.specs.Rows.{product, has_names, lists_of}
use Rattle.tp_ground_bindings.proofs.rows.have_names.Given as goal

abbrev pub invariant-loop-names : goal.invariant-loop-names
invariant-loop-names l = record {
  some : list_all has_names (lists_of (drop l.names-index l.lists)) ≡ true → list_all has_names (lists_of l.lists) ≡ true;
  none : product (lists_of (drop l.names-index l.lists)) ≡ [] → product (lists_of l.lists) ≡ [];
}
