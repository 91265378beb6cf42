use Rattle.std.proofs.Common.{List, Bor, ◌+◌, map, take, refl, sym, ap, ◌∙◌}
use Rattle.std.specs.List.{flat_map}
use Rattle.tp_syntax_ast.specs.Symbols.{Name, typed_view}
use Rattle.tp_syntax_ast.specs.PartViews.{joined_view}
use Rattle.tp_ground_bindings.specs.Bindings.{Env, bindings}
use Rattle.tp_ground_bindings.proofs.Visited.{next_of, none_of}
use Rattle.tp_ground_bindings.specs.Views.{env_view, universe_view}
use Rattle.tp_ground_bodies.specs.Written.{parts_in}
use Rattle.tp_ground_bindings.proofs.Along.{next, ended}
use Rattle.tp_ground_bodies.proofs.OnInner.{flat_under, inner_env}
use Rattle.tp_ground_bodies.proofs.OnPartLists.{part_of, part_under, part_in, parts_of, bound_of}
use Rattle.tp_ground_bodies.proofs.OnGathered.{all_gathered, none_gathered, gathered_as, gathers_as, loop_stopped}
use Rattle.tp_ground_bodies.proofs.parts.+push.Goals as goal

pub push_parts-loop-part-init : goal.push_parts-loop-part-init
push_parts-loop-part-init g t c = none_gathered g.P.Lowerable.shows g.P.Lowerable.mentions _ _ _ _ refl refl

pub push_parts-loop-part-preserved : goal.push_parts-loop-part-preserved
push_parts-loop-part-preserved g t c =
    let u = universe_view c.args.universe.now in
    let f = part_of u (g.P.Lowerable.written u c.args.specifier) g.P.Lowerable.seen (env_view c.args.env.now) in
    let before = flat_map f (take c.loop-part.part-index c.args.parts.now) in
    let more = next f c.args.parts.now c.loop-part.part-index c.part-item.result c.loop-part-test.true c.part-item.is in
    all_gathered g.P.Lowerable.shows g.P.Lowerable.mentions _ _ _ _ _ _ before (f c.part-item.result) _ more c.loop-part.invariant c.in_ok-push_part.ensures

pub push_parts-returns-in_err-push_part : goal.push_parts-returns-in_err-push_part
push_parts-returns-in_err-push_part g t c =
    let u = universe_view c.args.universe.now in
    let f = part_of u (g.P.Lowerable.written u c.args.specifier) g.P.Lowerable.seen (env_view c.args.env.now) in
    loop_stopped g.P.Lowerable.shows g.P.Lowerable.mentions c.args.parts.now c.loop-part.part-index c.part-item.result c.loop-part-test.true c.part-item.is _ _ _ _ _ _ _ _ _ c.from_residual.ensures.1 f _ refl refl c.loop-part.invariant c.in_err-push_part.ensures

pub push_parts-returns : goal.push_parts-returns
push_parts-returns g t c =
    let u = universe_view c.args.universe.now in
    let f = part_of u (g.P.Lowerable.written u c.args.specifier) g.P.Lowerable.seen (env_view c.args.env.now) in
    gathered_as g.P.Lowerable.shows g.P.Lowerable.mentions _ _ _ _ _ _ (sym (ended f c.args.parts.now c.loop-part.part-index c.loop-part-test.false)) c.loop-part.invariant

pub push_under_each-rows-init : goal.push_under_each-rows-init
push_under_each-rows-init g t c = (
  0,
  c.in_ok-rows.ensures,
  none_gathered g.P.Lowerable.shows g.P.Lowerable.mentions _ _ _ _ refl refl,
)

pub push_under_each-rows-preserved : goal.push_under_each-rows-preserved
push_under_each-rows-preserved g t c =
    let u = universe_view c.args.universe.now in
    let read = g.P.Lowerable.written u c.args.specifier in
    let x = joined_view g.P.Lowerable.seen c.args.part.now in
    let env = env_view c.args.env.now in
    let vs = map typed_view c.args.variables.now in
    let xs = bindings u vs in
    let i = c.rows.invariant.0 in
    let row : List Name = map (λ (o : Bor Name). o.now) c.advance.new.self.row.items in
    let at = next_of xs i row _ _ c.rows.invariant.1 (c.advance.ensures.some c.rows-test.true) in
    let names = ap (map (λ (o : Bor Name). o.now)) c.deref.ensures.value in
    let f = part_under u read g.P.Lowerable.seen vs env c.args.part.now in (
      i + 1,
      at.left,
      all_gathered g.P.Lowerable.shows g.P.Lowerable.mentions _ _ _ _ _ _ (flat_map f (take i xs)) (f row) _ (next f xs i row at.lt at.item) c.rows.invariant.2
          (gathered_as g.P.Lowerable.shows g.P.Lowerable.mentions _ _ _ _ _ _ (ap (λ (e : Env). parts_in u read e x) (sym (inner_env _ _ _ row names))) c.in_ok-push_part.ensures),
    )

pub push_under_each-returns-in_err-push_part : goal.push_under_each-returns-in_err-push_part
push_under_each-returns-in_err-push_part g t c =
    let u = universe_view c.args.universe.now in
    let read = g.P.Lowerable.written u c.args.specifier in
    let x = joined_view g.P.Lowerable.seen c.args.part.now in
    let env = env_view c.args.env.now in
    let vs = map typed_view c.args.variables.now in
    let xs = bindings u vs in
    let i = c.rows.invariant.0 in
    let row : List Name = map (λ (o : Bor Name). o.now) c.advance.new.self.row.items in
    let at = next_of xs i row _ _ c.rows.invariant.1 (c.advance.ensures.some c.rows-test.true) in
    let names = ap (map (λ (o : Bor Name). o.now)) c.deref.ensures.value in
    loop_stopped g.P.Lowerable.shows g.P.Lowerable.mentions xs i row at.lt at.item _ _ _ _ _ _ _ _ _ c.from_residual-in_err-push_part.ensures.1 (part_under u read g.P.Lowerable.seen vs env c.args.part.now) _ (ap (λ (e : Env). parts_in u read e x) (inner_env _ _ _ row names))
    (sym (flat_under env vs u (part_in u read g.P.Lowerable.seen c.args.part.now))) c.rows.invariant.2 c.in_err-push_part.ensures

pub push_under_each-returns : goal.push_under_each-returns
push_under_each-returns g t c =
    let u = universe_view c.args.universe.now in
    let read = g.P.Lowerable.written u c.args.specifier in
    let env = env_view c.args.env.now in
    let vs = map typed_view c.args.variables.now in
    let xs = bindings u vs in
    let all_of = none_of xs c.rows.invariant.0 _ c.rows.invariant.1 (c.advance.ensures.none c.rows-test.false) in
    gathered_as g.P.Lowerable.shows g.P.Lowerable.mentions _ _ _ _ _ _ (sym (ended (part_under u read g.P.Lowerable.seen vs env c.args.part.now) xs c.rows.invariant.0 all_of ∙ flat_under env vs u (part_in u read g.P.Lowerable.seen c.args.part.now))) c.rows.invariant.2

pub push_part-returns-in-And : goal.push_part-returns-in-And
push_part-returns-in-And g t c =
    let u = universe_view c.args.universe.now in
    gathers_as g.P.Lowerable.shows g.P.Lowerable.mentions _ _ _ _ _ _ _ (parts_of u (g.P.Lowerable.written u c.args.specifier) g.P.Lowerable.seen (env_view c.args.env.now) c.args.part.now c.in-And.parts c.deref.result.now c.in-And.is c.deref.ensures.value) c.push_parts.ensures

pub push_part-returns-in-Forall : goal.push_part-returns-in-Forall
push_part-returns-in-Forall g t c =
    let u = universe_view c.args.universe.now in
    let read = g.P.Lowerable.written u c.args.specifier in
    let env = env_view c.args.env.now in
    gathers_as g.P.Lowerable.shows g.P.Lowerable.mentions _ _ _ _ _ _ _
    (bound_of u read g.P.Lowerable.seen env c.args.part.now c.in-Forall.variables c.in-Forall.inner c.as_slice-variables.result.now c.deref-in-Forall.result.now c.in-Forall.is c.as_slice-variables.ensures c.deref-in-Forall.ensures)
    c.push_under_each.ensures
