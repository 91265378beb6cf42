use Rattle.std.proofs.Common.{List, Bool, map, ap, sym, true, false, ◌∙◌, ◌++◌, append-nil}
use Rattle.tp_syntax_ast.specs.Actions.{body_of}
use Rattle.tp_syntax.specs.Fields.{field_view}
use Rattle.tp_syntax_ast.specs.Symbols.{Declared, Symbols, typed_view}
use Rattle.tp_syntax_scope.specs.ScopeViews.{symbols_of}
use Rattle.tp_syntax_ast.specs.DomainViews.{body_view}
use Rattle.tp_syntax_ast.proofs.OnGives.{gives_same}
use Rattle.tp_syntax.proofs.action_reader.body.Goals as goal

pub returns-then-lasts : goal.returns-then-lasts
returns-then-lasts c =
    let fs = map field_view c.args.fields.now in
    let vs = map typed_view c.args.parameters.now.items in
    let symbols = c.inside-scope.ensures.symbols ∙ c.of-none.ensures.symbols ∙ c.symbols.ensures in
    let view = c.inside-scope.ensures.view ∙ ap (λ (ds : List Declared). vs ++ ds) c.of-none.ensures.view ∙ append-nil vs in
    gives_same body_view _ _ _
    (ap (λ (b : Bool). body_of c.args.parameters.now.symbols b vs fs) c.if-lasts.true
    ∙ ap (λ (τ : Symbols). body_of τ true vs fs) (sym symbols)
    ∙ ap (λ (ds : List Declared). body_of (symbols_of c.inside-scope.result) true ds fs) (sym view))
    c.durative.ensures

pub returns-else-lasts : goal.returns-else-lasts
returns-else-lasts c =
    let fs = map field_view c.args.fields.now in
    let vs = map typed_view c.args.parameters.now.items in
    let symbols = c.inside-scope.ensures.symbols ∙ c.of-none.ensures.symbols ∙ c.symbols.ensures in
    let view = c.inside-scope.ensures.view ∙ ap (λ (ds : List Declared). vs ++ ds) c.of-none.ensures.view ∙ append-nil vs in
    gives_same body_view _ _ _
    (ap (λ (b : Bool). body_of c.args.parameters.now.symbols b vs fs) c.if-lasts.false
    ∙ ap (λ (τ : Symbols). body_of τ false vs fs) (sym symbols)
    ∙ ap (λ (ds : List Declared). body_of (symbols_of c.inside-scope.result) false ds fs) (sym view))
    c.instant.ensures
