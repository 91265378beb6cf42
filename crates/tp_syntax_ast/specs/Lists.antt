-- Lists of a known length.
use Rattle.std.specs.Prelude.{Option, Some, None, option_map}
use Rattle.tp_text.specs.Shapes.{Shape, Shapes, no_shapes, shape}

-- one tree alone
unfoldable pub only : Shapes → Option Shape
only no_shapes = None
only (shape s no_shapes) = Some s
only (shape s (shape t ss)) = None

-- two trees alone
unfoldable pub both : Shapes → Option (Shape × Shape)
both no_shapes = None
both (shape s ss) = option_map (λ t. (s, t)) (only ss)

-- the first tree, and those behind it
unfoldable pub first_of : Shapes → Option (Shape × Shapes)
first_of no_shapes = None
first_of (shape s ss) = Some (s, ss)
