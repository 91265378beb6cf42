use Rattle.std.proofs.Common.{◌≡◌, ℕ, List, true, map, sym, ap, ◌∙◌}
use Rattle.std.specs.Prelude.{string_bytes}
use Rattle.std.specs.Str.{bytes_eq}
use Rattle.tp_syntax_ast.specs.Terms.{term_view}
use Rattle.tp_syntax_ast.specs.declared.term.Term.{Term}
use Rattle.tp_ground_bindings.specs.Bindings.{object_for}
use Rattle.tp_ground_joins.specs.declared.keyed.Keyed.{Keyed}
use Rattle.std.proofs.Common.{Vec, Global, []}
use Rattle.tp_ground_joins.specs.Facts.{keyed_row}
use Rattle.tp_ground_joins.proofs.OnParts.{one_fact}
use Rattle.tp_ground_joins.proofs.facts.push_fact.Goals as goal

pub returns-in_ok-push : goal.returns-in_ok-push
returns-in_ok-push c =
    let atom = c.in-Holds.atom in
    let named : bytes_eq (string_bytes atom.name) c.args.name.now ≡ true = sym (c.eq.ensures ∙ ap (λ (s : List ℕ). bytes_eq s c.args.name.now) c.as_str.ensures.value) ∙ c.if-eq.true in
    ap (λ (vs : List (Vec Keyed Global)). map keyed_row vs) c.in_ok-push.ensures.items
    ∙ one_fact c.args.entry.now atom c.args.name.now c.args.rows.now.items c.in_ok-row.row c.in-Holds.is named
    (c.in_ok-row.ensures ∙ ap (λ (ts : List Term). map (λ t. object_for [] (term_view t)) ts) c.as_slice-terms.ensures.value)
