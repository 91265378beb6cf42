use Rattle.std.proofs.Common.{List, Option, map, string_bytes, ap, sym, ◌∙◌}
use Rattle.std.proofs.lemmas.Result.{err_from_is_err_and}
use Rattle.tp_text.specs.Shapes.{Shape, Shapes}
use Rattle.tp_text.specs.Trees.{shape_of}
use Rattle.tp_syntax_ast.specs.Gives.{◌>>=◌}
use Rattle.tp_syntax_ast.specs.Symbols.{Name}
use Rattle.tp_syntax_ast.specs.Terms.{shapes}
use Rattle.tp_syntax_ast.specs.Domains.{SectionBody, domain_with}
use Rattle.tp_syntax_ast.specs.DomainViews.{domain_view}
use Rattle.tp_syntax.specs.SectionViews.{section_body_view}
use Rattle.tp_syntax_ast.proofs.OnGives.{fails_same, fails_bind, gives_same}
use Rattle.tp_syntax.proofs.OnDomains.{by_define, after_define, after_head}
use Rattle.tp_syntax.proofs.domain_reader.domain_of.Goals as goal

pub returns-in_default : goal.returns-in_default
returns-in_default c = by_define (shape_of c.args.tree.now) ∙ ap (λ (o : Option (Shape × Shapes)). o >>= after_define) (sym c.in_default.ensures)

pub returns-in_err-name : goal.returns-in_err-name
returns-in_err-name c =
    let is = by_define (shape_of c.args.tree.now) ∙ ap (λ (o : Option (Shape × Shapes)). o >>= after_define) (sym c.in-Some.ensures) in
    let p = err_from_is_err_and c.from_residual.result c.from_residual.ensures.1 in
    rw (p.1, p.2) (fails_same c.in_err-name.field-0.0 _ _ is (fails_bind c.in_err-name.field-0.0 _ _ c.in_err-name.ensures))

pub returns-in_err-parts : goal.returns-in_err-parts
returns-in_err-parts c =
    let n : Name = string_bytes c.in_ok-name.name in
    let is = by_define (shape_of c.args.tree.now) ∙ ap (λ (o : Option (Shape × Shapes)). o >>= after_define) (sym c.in-Some.ensures) ∙ ap (λ (o : Option Name). o >>= after_head (shapes c.in-Some.rest.now)) c.in_ok-name.ensures in
    let p = err_from_is_err_and c.from_residual-in_err-parts.result c.from_residual-in_err-parts.ensures.1 in
    rw (p.1, p.2) (fails_same c.in_err-parts.field-0.0 _ _ is (fails_bind c.in_err-parts.field-0.0 _ (domain_with n) c.in_err-parts.ensures))

pub returns : goal.returns
returns c =
    let n : Name = string_bytes c.in_ok-name.name in
    gives_same domain_view _ _ _
    (by_define (shape_of c.args.tree.now) ∙ ap (λ (o : Option (Shape × Shapes)). o >>= after_define) (sym c.in-Some.ensures) ∙ ap (λ (o : Option Name). o >>= after_head (shapes c.in-Some.rest.now)) c.in_ok-name.ensures
    ∙ ap (λ (o : Option (List SectionBody)). o >>= domain_with n) c.in_ok-parts.ensures ∙ ap (domain_with n) (sym (ap (map section_body_view) c.deref.ensures.value)))
    c.domain_with.ensures
