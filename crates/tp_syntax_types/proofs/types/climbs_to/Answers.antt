use Rattle.std.proofs.Common.{◌≡◌, ◌-◌, None, Some, true, false, string_bytes, ap, sym, ◌∙◌, arith}
use Rattle.std.specs.List.{list_any}
use Rattle.std.specs.Str.{bytes_eq}
use Rattle.tp_syntax_ast.specs.Symbols.{Name, parent_of}
use Rattle.tp_syntax_types.specs.Among.{has_mark}
use Rattle.tp_syntax_types.specs.TypeViews.{types_view}
use Rattle.tp_syntax_types.proofs.OnClimbs.{found, highest, one_up, at_zero}
use Rattle.tp_syntax_types.proofs.types.climbs_to.Goals as goal

pub returns-then-contains : goal.returns-then-contains
returns-then-contains c = λ ps are.
    let ds = types_view c.args.types.now in
    let name = string_bytes c.up.current.now in
    let here : list_any (bytes_eq name) ps ≡ true = sym (are name) ∙ ap (has_mark c.args.above.now) (sym c.as_str.ensures.value) ∙ sym c.contains.ensures ∙ c.if-contains.true in
    sym (found ds c.up.left ps name here) ∙ c.up.invariant ps are

pub returns-in_default : goal.returns-in_default
returns-in_default c = λ ps are.
    let ds = types_view c.args.types.now in
    let name = string_bytes c.up.current.now in
    let other : list_any (bytes_eq name) ps ≡ false = sym (are name) ∙ ap (has_mark c.args.above.now) (sym c.as_str.ensures.value) ∙ sym c.contains.ensures ∙ c.if-contains.false in
    let none : parent_of name ds ≡ None = ap (λ (n : Name). parent_of n ds) (sym c.as_str-in-up.ensures.value) ∙ sym c.in_default.ensures in
    sym (highest ds c.up.left ps name other none) ∙ c.up.invariant ps are

pub up-preserved : goal.up-preserved
up-preserved c = λ ps are.
    let ds = types_view c.args.types.now in
    let name = string_bytes c.up.current.now in
    let other : list_any (bytes_eq name) ps ≡ false = sym (are name) ∙ ap (has_mark c.args.above.now) (sym c.as_str.ensures.value) ∙ sym c.contains.ensures ∙ c.if-contains.false in
    let up : parent_of name ds ≡ Some (string_bytes c.in-Some.parent.now) = ap (λ (n : Name). parent_of n ds) (sym c.as_str-in-up.ensures.value) ∙ sym c.in-Some.ensures in
    sym (one_up ds c.up.left (c.up.left - 1) ps name (string_bytes c.in-Some.parent.now) (omega (c.up-test.true, arith)) other up) ∙ c.up.invariant ps are

pub returns : goal.returns
returns c = λ ps are.
    let ds = types_view c.args.types.now in
    let name = string_bytes c.up.current.now in
    c.contains-2.ensures
    ∙ ap (has_mark c.args.above.now) c.as_str-2.ensures.value
    ∙ are name
    ∙ sym (at_zero ds c.up.left ps name (omega (c.up-test.false, arith)))
    ∙ c.up.invariant ps are
