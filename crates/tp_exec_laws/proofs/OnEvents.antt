-- Events of two tasks that are the same by words interfere alike, and write into the same invariants.
use Rattle.std.proofs.Common.{◌≡◌, Bool, true, false, ◌||◌, List, [], ◌∷◌, ◌++◌, map, refl, sym, ap, ap₂, ◌∙◌, subst}
use Rattle.std.specs.List.{list_any, list_all}
use Rattle.std.proofs.lemmas.List.{map-append}
use Rattle.tp_task.specs.declared.events.Cond.{Cond}
use Rattle.tp_task.specs.declared.events.Expr.{Expr}
use Rattle.tp_task.specs.declared.events.Expr.TheVariants.{Number, Fluent, Duration, Negated', Sum', Difference', Product'}
use Rattle.tp_task.specs.declared.events.GroundEvent.{GroundEvent}
use Rattle.tp_task.specs.declared.events.NumericEffect.{NumericEffect}
use Rattle.tp_task.specs.Bounds.{uses_duration, writes_into}
use Rattle.tp_task.specs.Event.{fluents_written, interferes}
use Rattle.tp_task.specs.State.{mentions_duration, atoms_in, fluents_in}
use Rattle.tp_task.specs.Tables.{Tables, words_at}
use Rattle.tp_ground.specs.ReadBack.{named_condition, named_event, named_expression, named_write}
use Rattle.tp_ground.specs.Written.{GroundExpression, number, fluent, the_duration, negative, sum, difference, product, GroundCondition, GroundHappening}
use Rattle.tp_ground.proofs.OnExpressions.{named_Number, named_Duration, named_Fluent}
use Rattle.tp_ground.proofs.OnFits.{are_words}
use Rattle.tp_ground_laws.proofs.ByWords.{atoms_among, fluents_among, interfere, share, written_by}
use Rattle.tp_ground_laws.proofs.OnEffects.{AreDistinct, IsWorded, changed_worded, interferes_named, meets_named, written_named, written_worded}
use Rattle.tp_ground_laws.proofs.OnNamed.{atoms_named, fluents_in_named, is_negative, is_sum, is_difference, is_product}

-- ---- by words

-- a happening writes an atom or a fluent that a condition mentions
abbrev pub writes_among : GroundHappening → GroundCondition → Bool
writes_among h c = share (h.adds ++ h.deletes) (atoms_among c) || share (written_by h.writes) (fluents_among c)

-- an expression mentions the duration
abbrev pub duration_in : GroundExpression → Bool
duration_in (number n) = false
duration_in (fluent w) = false
duration_in the_duration = true
duration_in (negative x) = duration_in x
duration_in (sum x y) = duration_in x || duration_in y
duration_in (difference x y) = duration_in x || duration_in y
duration_in (product x y) = duration_in x || duration_in y

-- so does a happening's effect
abbrev pub duration_used : GroundHappening → Bool
duration_used h = list_any (λ w. duration_in w.value) h.writes

-- ---- by numbers

module _ (t : Tables) where
  mentions_named : (x : Expr) → mentions_duration x ≡ duration_in (named_expression t x)
  mentions_named (Number n) = ap duration_in (sym (named_Number t n))
  mentions_named (Fluent f) = ap duration_in (sym (named_Fluent t f))
  mentions_named Duration = ap duration_in (sym (named_Duration t))
  mentions_named (Negated' p x) = mentions_named x ∙ ap duration_in (sym (is_negative t p x))
  mentions_named (Sum' p x q y) = ap₂ (λ (b c : Bool). b || c) (mentions_named x) (mentions_named y) ∙ ap duration_in (sym (is_sum t p x q y))
  mentions_named (Difference' p x q y) = ap₂ (λ (b c : Bool). b || c) (mentions_named x) (mentions_named y) ∙ ap duration_in (sym (is_difference t p x q y))
  mentions_named (Product' p x q y) = ap₂ (λ (b c : Bool). b || c) (mentions_named x) (mentions_named y) ∙ ap duration_in (sym (is_product t p x q y))

  writes_mention : (ws : List NumericEffect) → list_any (λ w. mentions_duration w.value) ws ≡ list_any (λ w. duration_in w.value) (map (named_write t) ws)
  writes_mention [] = refl
  writes_mention (w ∷ ws) = ap₂ (λ (b c : Bool). b || c) (mentions_named w.value) (writes_mention ws)

  pub uses_named : (e : GroundEvent) → uses_duration e ≡ duration_used (named_event t e)
  uses_named e = writes_mention e.writes.items

  module _ (d : AreDistinct t) where
    pub writes_named : (e : GroundEvent) (c : Cond) → IsWorded (named_event t e) → writes_into e c ≡ writes_among (named_event t e) (named_condition t c)
    writes_named e c h =
        ap₂ (λ (x y : Bool). x || y)
        (meets_named t.atoms d.atoms (e.adds.items ++ e.deletes.items) (atoms_in c) (changed_worded t d e h) ∙ ap₂ share (map-append (words_at t.atoms) e.adds.items e.deletes.items) (atoms_named t c))
        (meets_named t.fluents d.fluents (fluents_written e) (fluents_in c) (ap (list_all are_words) (written_named t e.writes.items) ∙ written_worded (map (named_write t) e.writes.items) h.writes) ∙ ap₂ share (written_named t e.writes.items) (fluents_in_named t c))

-- ---- the same in two tasks

-- events that are the same by words, and change only what has words
pub record IsSameEvent (t u : Tables) (e f : GroundEvent) : Type 0 where
  pub named : named_event t e ≡ named_event u f
  pub worded : IsWorded (named_event t e)

pub other_worded : (t u : Tables) (e f : GroundEvent) → IsSameEvent t u e f → IsWorded (named_event u f)
other_worded t u e f h = subst IsWorded h.named h.worded

module _ (t u : Tables) (d : AreDistinct t) (o : AreDistinct u) where
  pub same_interference : (a b e f : GroundEvent) → IsSameEvent t u a e → IsSameEvent t u b f → interferes a b ≡ interferes e f
  same_interference a b e f h k =
      interferes_named t d a b h.worded k.worded
      ∙ ap₂ interfere h.named k.named
      ∙ sym (interferes_named u o e f (other_worded t u a e h) (other_worded t u b f k))

  pub same_writing : (a e : GroundEvent) (c k : Cond) → IsSameEvent t u a e → named_condition t c ≡ named_condition u k → writes_into a c ≡ writes_into e k
  same_writing a e c k h i =
      writes_named t d a c h.worded
      ∙ ap₂ writes_among h.named i
      ∙ sym (writes_named u o e k (other_worded t u a e h))
