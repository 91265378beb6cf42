use Rattle.std.proofs.Common.{sym, ◌∙◌}
use Rattle.tp_ground_named.proofs.OnPicks.{bare_found}
use Rattle.tp_ground_named.proofs.picks.has_bare_row.Goals as goal

pub returns-then-is_bare : goal.returns-then-is_bare
returns-then-is_bare c = sym (bare_found c.args.rows.now c.loop-row.row-index _ c.loop-row-test.true (sym c.is_bare.ensures ∙ c.if-is_bare.true))
