-- What a `Universe` and an `Env` show.
use Rattle.std.specs.Prelude.{[], ◌++◌, map}
use Rattle.tp_syntax_ast.specs.Symbols.{typed_view}
use Rattle.tp_syntax_types.specs.TypeViews.{types_view}
use Rattle.tp_ground_bindings.specs.Bindings as bindings
use Rattle.tp_ground_bindings.specs.Bindings.{bound}
use Rattle.tp_ground_bindings.specs.declared.objects.Universe.{Universe}
use Rattle.tp_ground_bindings.specs.declared.environment.Env.{Env, fold-Env}
use Rattle.tp_ground_bindings.specs.declared.environment.Env.TheOpen.{Env-F}

abbrev pub universe_view : Universe → bindings.Universe
universe_view u = record {
  types = types_view u.types;
  objects = map typed_view u.constants.now ++ map typed_view u.objects.now;
}

abbrev pub env_step : Env-F bindings.Env → bindings.Env
env_step Env-F.Empty = []
env_step (Env-F.Inner vars names outer) =
    bound (map typed_view vars.now) (map (λ n. n.now) names.now) ++ outer.now

abbrev pub env_view : Env → bindings.Env
env_view = fold-Env bindings.Env env_step
