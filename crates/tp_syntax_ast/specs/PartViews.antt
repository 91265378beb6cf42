-- What a `Joined` shows.
use Rattle.std.specs.Prelude.{map}
use Rattle.tp_syntax_ast.specs.Symbols.{typed_view}
use Rattle.tp_syntax_ast.specs.Parts as specs
use Rattle.tp_syntax_ast.specs.Parts.{all_parts, for_each, one, parts}
use Rattle.tp_syntax_ast.specs.declared.joined.Joined.{Joined, fold-Joined}
use Rattle.tp_syntax_ast.specs.declared.joined.Joined.TheOpen.{Joined-F}

abbrev pub joined_step : {A B : Type 0} → (A → B) → Joined-F A (specs.Joined B) → specs.Joined B
joined_step f (Joined-F.And v) = all_parts (parts v.items)
joined_step f (Joined-F.Forall vs b) = for_each (map typed_view vs.items) b.value
joined_step f (Joined-F.One a) = one (f a)

abbrev pub joined_view : {A B : Type 0} → (A → B) → Joined A → specs.Joined B
joined_view {A} {B} f = fold-Joined A (specs.Joined B) (joined_step f)
