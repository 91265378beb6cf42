-- What may be named, as lists.
use Rattle.std.specs.Prelude.{◌++◌, map}
use Rattle.tp_syntax_ast.specs.Symbols.{Symbols, typed_view, signature_view}
use Rattle.tp_syntax_types.specs.TypeViews.{types_view}
use Rattle.tp_syntax_scope.specs.declared.symbols.Symbols as declared

abbrev pub symbols_view : declared.Symbols → Symbols
symbols_view s =
    record {
      types = types_view s.types;
      objects = map typed_view s.constants ++ map typed_view
          s.objects;
      predicates = map signature_view s.predicates;
      functions = map signature_view s.functions;
    }
