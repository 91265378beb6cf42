-- Events and bodies of what was numbered one after another.
use Rattle.std.proofs.Common.{◌≡◌, List, [], map, Result, IsErrAnd, Vec, Global, refl, sym, ap, subst, ◌∙◌}
use Rattle.tp_syntax_ast.specs.ConstraintViews.{constraint_view}
use Rattle.tp_syntax_ast.specs.EffectViews.{timed_condition_view, timed_effect_view}
use Rattle.tp_syntax_ast.specs.DomainViews.{body_view}
use Rattle.tp_syntax_ast.specs.declared.constraint.DurationRule.{DurationRule}
use Rattle.tp_syntax_ast.specs.declared.joined.Joined.{Joined}
use Rattle.tp_syntax_ast.specs.declared.timed.Timed.{Timed}
use Rattle.tp_syntax_ast.specs.declared.effect.SimpleEffect.{SimpleEffect}
use Rattle.tp_syntax_ast.specs.declared.cond.Cond as syntax_conds
use Rattle.tp_syntax_ast.specs.declared.action.Body as syntax
use Rattle.tp_syntax_ast.specs.declared.action.Body.TheVariants as bodies
use Rattle.tp_syntax_ast.specs.declared.words.TimeSpecifier.TheVariants.{OverAll}
use Rattle.tp_ground_bindings.specs.Bindings.{Universe, Env}
use Rattle.tp_task.specs.Tables.{Tables}
use Rattle.tp_ground_bodies.specs.Written.{GroundCondition, GroundEffect, GroundLimit, GroundHappening, durative, happening, condition_at, start_in, end_in, body_in}
use Rattle.tp_ground_bodies.specs.Mentions.{Mentions, ◌then◌, of_condition, of_simple_effect, of_limit, of_each, of_start, of_end, of_body}
use Rattle.tp_ground_bodies.specs.ReadBack.{named_condition, named_limit, named_event, named_body}
use Rattle.tp_ground_bodies.specs.Changes.{shows_changes}
use Rattle.tp_ground_bodies.specs.Gathered.{list_shows, IsMade}
use Rattle.tp_ground_bodies.specs.NumberedEnds.{named_ends}
use Rattle.tp_ground_bodies.specs.declared.bodies.Ends.{Ends}
use Rattle.tp_ground_bodies.specs.Lowered.{Notes, Extends, IsLowered, Overflows, Lowers}
use Rattle.tp_task.specs.declared.fault.GroundFault.{GroundFault}
use Rattle.tp_task.specs.declared.events.Cond.{Cond}
use Rattle.tp_task.specs.declared.events.Limit.{Limit}
use Rattle.tp_task.specs.declared.events.GroundEvent.{GroundEvent}
use Rattle.tp_task.specs.declared.events.Body.{Body}
use Rattle.tp_task.specs.declared.events.Body.TheVariants.{Durative}
use Rattle.tp_ground_bodies.specs.declared.changes.Changes.{Changes}
use Rattle.tp_ground_bodies.proofs.OnLowered.{AllLowered, failed, notes_then, notes_extend, extends_then, overflows_first, overflows_then, lowered_both}

-- a fault at the first, the second or the third of three
module _ (a : Tables) (m n k : Mentions) (f : GroundFault) where
  pub at_first : Overflows a m f → Overflows a (m then n then k) f
  at_first h = overflows_first a (m then n) k f (overflows_first a m n f h)

  pub at_second : (b : Tables) → Notes a b m → Overflows b n f → Overflows a (m then n then k) f
  at_second b l h = overflows_first a (m then n) k f (overflows_then a b m n f l h)

  pub at_third : (b d : Tables) → Notes a b m → Notes b d n → Overflows d k f → Overflows a (m then n then k) f
  at_third b d l g h = overflows_then a d (m then n) k f (notes_then a b d m n l g) h

-- what an event says of its parts
abbrev pub Assembled : GroundEvent → Cond → Changes → List Limit → Type 0
Assembled e c g ls = (t : Tables) (os : List GroundEffect) → shows_changes t g os → named_event t e ≡ happening (named_condition t c) os (map (named_limit t) ls)

module _ (a b d : Tables) (c : Cond) (g : Changes) (e : GroundEvent) (cond : GroundCondition) (outs : List GroundEffect) (l : IsLowered named_condition a b c cond (of_condition cond)) (k : IsMade shows_changes b d g outs (of_each of_simple_effect outs)) where
  -- a condition and simple effects, in every table that comes after
  condition_said : (later : Tables) → Extends d later → named_condition later c ≡ cond
  condition_said later ext = l.says later (extends_then b d later (notes_extend b d (of_each of_simple_effect outs) k.notes) ext)

  pub start_lowered : (w : Tables) (ls : Vec Limit Global) (limits : List GroundLimit) → AllLowered named_limit of_limit d w ls limits → Assembled e c g ls.items → IsLowered named_event a w e (happening cond outs limits) (of_condition cond then of_each of_simple_effect outs then of_each of_limit limits)
  start_lowered w ls limits h are = record {
    notes = notes_then a d w (of_condition cond then of_each of_simple_effect outs) (of_each of_limit limits) (notes_then a b d (of_condition cond) (of_each of_simple_effect outs) l.notes k.notes) h.notes;
    says = λ later ext.
        let before = extends_then d w later (notes_extend d w (of_each of_limit limits) h.notes) ext in
        are later outs (k.shown later before)
        ∙ ap (λ (x : GroundCondition). happening x outs (map (named_limit later) ls.items)) (condition_said later before)
        ∙ ap (λ (xs : List GroundLimit). happening cond outs xs) (h.says later ext);
  }

  pub plain_lowered : (ls : List Limit) → ls ≡ [] → Assembled e c g ls → IsLowered named_event a d e (happening cond outs []) (of_condition cond then of_each of_simple_effect outs)
  plain_lowered ls none are = record {
    notes = notes_then a b d (of_condition cond) (of_each of_simple_effect outs) l.notes k.notes;
    says = λ later ext.
        are later outs (k.shown later ext)
        ∙ ap (λ (x : GroundCondition). happening x outs (map (named_limit later) ls)) (condition_said later ext)
        ∙ ap (λ (zs : List Limit). happening cond outs (map (named_limit later) zs)) none;
  }

-- a list of conditions
pub list_lowered : (a b : Tables) (v : Vec Cond Global) (ys : List GroundCondition) → IsMade (list_shows named_condition) a b v ys (of_each of_condition ys) → AllLowered named_condition of_condition a b v ys
list_lowered a b v ys l = record { notes = l.notes; says = l.shown }

-- a start and an end, one after the other
module _ (a b c : Tables) (start end : GroundHappening) (m n : Mentions) where
  pub start_stopped : (res : Result Ends GroundFault) (e : GroundFault) → IsErrAnd res (λ g. g ≡ e) → Overflows a m e → Lowers named_ends a res c (start, end) (m then n)
  start_stopped res e err h = failed named_ends a c (start, end) (m then n) res e err (overflows_first a m n e h)

  pub end_stopped : (res : Result Ends GroundFault) (e : GroundFault) → IsErrAnd res (λ g. g ≡ e) → Notes a b m → Overflows b n e → Lowers named_ends a res c (start, end) (m then n)
  end_stopped res e err l h = failed named_ends a c (start, end) (m then n) res e err (overflows_then a b m n e l h)

  pub ends_lowered : (first last : GroundEvent) (x : Ends) → x ≡ record { first = first; last = last } → IsLowered named_event a b first start m → IsLowered named_event b c last end n → IsLowered named_ends a c x (start, end) (m then n)
  ends_lowered first last x is l k = subst (λ y. IsLowered named_ends a c y (start, end) (m then n)) (sym is) (lowered_both (λ (p q : GroundHappening). (p, q)) (record { first = first; last = last }) (λ t. refl) l k)

-- a durative action, its ends and its invariant numbered one after another
module _ (u : Universe) (env : Env) (x : syntax.Body) (r : DurationRule) (c : Joined (Timed syntax_conds.Cond)) (f : Joined (Timed (Joined SimpleEffect))) (is : x ≡ bodies.Durative r c f) where
  abbrev of_ends : Mentions
  of_ends = of_start u env (constraint_view r) (timed_condition_view c) (timed_effect_view f) then of_end u env (timed_condition_view c) (timed_effect_view f)

  abbrev of_between : Mentions
  of_between = of_condition (condition_at u OverAll env (timed_condition_view c))

  abbrev both_ends : GroundHappening × GroundHappening
  both_ends = (start_in u env (constraint_view r) (timed_condition_view c) (timed_effect_view f), end_in u env (timed_condition_view c) (timed_effect_view f))

  stopped : (a b : Tables) (res : Result Body GroundFault) (e : GroundFault) → IsErrAnd res (λ g. g ≡ e) → Overflows a (of_ends then of_between) e → Lowers named_body a res b (body_in u env (body_view x)) (of_body u env (body_view x))
  stopped a b res e err h = failed named_body a b (body_in u env (body_view x)) (of_body u env (body_view x)) res e err (subst (λ y. Overflows a (of_body u env (body_view y)) e) (sym is) h)

  pub ends_stopped : (a b : Tables) (res : Result Body GroundFault) (e : GroundFault) → IsErrAnd res (λ g. g ≡ e) → Overflows a of_ends e → Lowers named_body a res b (body_in u env (body_view x)) (of_body u env (body_view x))
  ends_stopped a b res e err h = stopped a b res e err (overflows_first a of_ends of_between e h)

  pub between_stopped : (a b d : Tables) (res : Result Body GroundFault) (e : GroundFault) → IsErrAnd res (λ g. g ≡ e) → Notes a d of_ends → Overflows d of_between e → Lowers named_body a res b (body_in u env (body_view x)) (of_body u env (body_view x))
  between_stopped a b d res e err l h = stopped a b res e err (overflows_then a d of_ends of_between e l h)

  pub whole_lowered : (a b d : Tables) (ends : Ends) (between : Cond) → IsLowered named_ends a d ends both_ends of_ends → IsLowered named_condition d b between (condition_at u OverAll env (timed_condition_view c)) of_between → IsLowered named_body a b (Durative ends.first ends.last between) (body_in u env (body_view x)) (of_body u env (body_view x))
  whole_lowered a b d ends between l h =
      subst (λ y. IsLowered named_body a b (Durative ends.first ends.last between) (body_in u env (body_view y)) (of_body u env (body_view y))) (sym is)
      (lowered_both (λ (p : GroundHappening × GroundHappening) (q : GroundCondition). durative p.0 p.1 q) (Durative ends.first ends.last between) (λ t. refl) l h)
