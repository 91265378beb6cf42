use Rattle.std.proofs.Common.{◌≡◌, ℕ, List, true, Vec, Global, map, sym, subst, ◌∙◌}
use Rattle.std.specs.List.{AllByRecursion}
use Rattle.tp_syntax_ast.specs.Symbols.{typed_view}
use Rattle.tp_ground_joins.specs.Checks.{has_row}
use Rattle.tp_ground_joins.specs.declared.keyed.Keyed.{Keyed}
use Rattle.tp_ground_joins.specs.Facts.{keyed_row}
use Rattle.tp_ground_joins.specs.Levels.{AreSame, arguments_of}
use Rattle.tp_ground_joins.proofs.OnLevels.{fair_of}
use Rattle.tp_ground_joins.proofs.levels.check_of.Goals as goal

pub returns : goal.returns
returns c =
    let ps = map typed_view c.args.parameters.now in
    let fixed = c.args.fixed.now in
    let many = c.args.many in
    let new = c.add_rows.new.check in
    fair_of ps fixed many new
    (subst (λ (v : Vec ℕ Global). AreSame ps (arguments_of fixed) many v.items new.places.items) (sym (c.add_rows.ensures.columns ∙ c.new-check.ensures.columns))
    (subst (λ (v : Vec ℕ Global). AreSame ps (arguments_of fixed) many c.args.columns.columns.items v.items) (sym (c.add_rows.ensures.places ∙ c.new-check.ensures.places)) c.requires))
    (subst (λ (rs : List (Vec Keyed Global)). AllByRecursion (λ r. has_row new r ≡ true) (map keyed_row rs)) c.as_slice-rows.ensures.value c.in_ok-add_rows.ensures.added)
