-- Texts of trees, in the parts that are written.
use Rattle.std.proofs.Common.{◌≡◌, ℕ, List, [], ◌∷◌, ◌++◌, length, map, codes, eqb, true, false, Vec, Box, Global, refl, sym, ap, ◌∙◌, subst, append_assoc, append-nil}
use Rattle.tp_text.specs.Shapes.{Shape, leaf, node, Shapes, no_shapes, shape}
use Rattle.tp_text.specs.Texts.{shape_text, more_text}
use Rattle.tp_syntax_ast.specs.Symbols.{typed_view}
use Rattle.tp_syntax_ast.specs.Parts.{parts}
use Rattle.tp_syntax_ast.specs.PartViews.{joined_view}
use Rattle.tp_syntax_ast.specs.CondViews.{cond_view}
use Rattle.tp_syntax_ast.specs.ConstraintViews.{constraint_view}
use Rattle.tp_syntax_ast.specs.EffectViews.{effect_view, timed_condition_view, timed_effect_view}
use Rattle.tp_syntax_ast.specs.DomainViews.{body_view}
use Rattle.tp_syntax_ast.specs.Domains.{Domain}
use Rattle.tp_syntax_print.specs.Printing.{headed, one_shape, two_shapes, name_shapes, field_before, condition_shape, effect_shape, constraint_shape, timed_shapes, body_shapes, typed_shapes, type_shapes, signature_shapes, joined_shape, part_shapes, action_shapes, section_before, section_shapes, name_shape}
use Rattle.tp_syntax_print.specs.DomainTexts.{lines_text, section_line, declarations_text, domain_text}
use Rattle.tp_syntax_ast.specs.declared.joined.Joined as joineds
use Rattle.tp_syntax_ast.specs.declared.joined.Joined.{Joined}
use Rattle.tp_syntax_ast.specs.declared.symbols.Typed.{Typed}
use Rattle.tp_syntax_ast.specs.declared.cond.Cond.{Cond}
use Rattle.tp_syntax_ast.specs.declared.effect.SimpleEffect.{SimpleEffect}
use Rattle.tp_syntax_ast.specs.declared.timed.Timed.{Timed}
use Rattle.tp_syntax_ast.specs.declared.constraint.DurationRule.{DurationRule}
use Rattle.tp_syntax_ast.specs.declared.action.Body.{Body}
use Rattle.tp_syntax_ast.specs.declared.action.Body.TheVariants.{Instant, Durative}
use Rattle.tp_syntax_ast.proofs.OnParts.{and_view, forall_view}

pub two_text : (s t : Shape) → more_text (two_shapes s t) ++ 41 ∷ [] ≡ 32 ∷ (shape_text s ++ 32 ∷ (shape_text t ++ 41 ∷ []))
two_text s t =
    ap (λ (l : List ℕ). 32 ∷ l) (append_assoc (shape_text s) (32 ∷ (shape_text t ++ [])) (41 ∷ []) ∙ ap (λ (l : List ℕ). shape_text s ++ 32 ∷ (l ++ 41 ∷ [])) (append-nil (shape_text t)))

module _ {A B : Type 0} (seen : A → B) (tree : B → Shape) where
  pub and_text : (j : Joined A) (v : Vec (Joined A) Global) (items : List (Joined A)) → j ≡ joineds.And v → items ≡ v.items → codes "(and" ++ (more_text (part_shapes tree (parts (map (joined_view seen) items))) ++ 41 ∷ []) ≡ shape_text (joined_shape tree (joined_view seen j))
  and_text j v items is same =
      ap (λ (js : List (Joined A)). codes "(and" ++ (more_text (part_shapes tree (parts (map (joined_view seen) js))) ++ 41 ∷ [])) same
      ∙ sym (ap (λ (k : Joined A). shape_text (joined_shape tree (joined_view seen k))) is ∙ ap (λ k. shape_text (joined_shape tree k)) (and_view seen v))

  pub forall_text : (j : Joined A) (v : Vec Typed Global) (b : Box (Joined A) Global) (items : List Typed) (inner : Joined A) → j ≡ joineds.Forall v b → items ≡ v.items → inner ≡ b.value → codes "(forall " ++ (shape_text (node (typed_shapes (map typed_view items))) ++ (32 ∷ [] ++ (shape_text (joined_shape tree (joined_view seen inner)) ++ 41 ∷ []))) ≡ shape_text (joined_shape tree (joined_view seen j))
  forall_text j v b items inner is same within =
      ap (λ (l : List Typed). codes "(forall " ++ (shape_text (node (typed_shapes (map typed_view l))) ++ (32 ∷ [] ++ (shape_text (joined_shape tree (joined_view seen inner)) ++ 41 ∷ [])))) same
      ∙ ap (λ (k : Joined A). codes "(forall " ++ (shape_text (node (typed_shapes (map typed_view v.items))) ++ (32 ∷ [] ++ (shape_text (joined_shape tree (joined_view seen k)) ++ 41 ∷ [])))) within
      ∙ sym (
      ap (λ (k : Joined A). shape_text (joined_shape tree (joined_view seen k))) is
      ∙ ap (λ k. shape_text (joined_shape tree k)) (forall_view seen v b)
      ∙ ap (λ (l : List ℕ). codes "(forall" ++ l) (two_text (node (typed_shapes (map typed_view v.items))) (joined_shape tree (joined_view seen b.value)))
      )

-- the line of a section that is not empty
pub section_text : (w : List ℕ) (s : Shape) (ss : Shapes) → 40 ∷ (w ++ (more_text (shape s ss) ++ 41 ∷ 10 ∷ [])) ≡ section_line w (shape s ss)
section_text w s ss =
    ap (λ (l : List ℕ). 40 ∷ l) (
    sym (append_assoc w (more_text (shape s ss)) (41 ∷ 10 ∷ []))
    ∙ sym (append_assoc (w ++ more_text (shape s ss)) (41 ∷ []) (10 ∷ []))
    )

pub lines_before : (w : List ℕ) (ss rest : Shapes) → lines_text (section_before w ss rest) ≡ section_line w ss ++ lines_text rest
lines_before w no_shapes rest = refl
lines_before w (shape s ss) rest = sym (append_assoc (shape_text (headed w (shape s ss))) (10 ∷ []) (lines_text rest))

pub lines_sections : (d : Domain) → lines_text (section_shapes d) ≡ declarations_text d ++ lines_text (action_shapes d.actions)
lines_sections d =
    let r = section_line (codes ":requirements") (name_shapes d.requirements) in
    let t = section_line (codes ":types") (type_shapes d.types) in
    let c = section_line (codes ":constants") (typed_shapes d.constants) in
    let p = section_line (codes ":predicates") (signature_shapes d.predicates) in
    let f = section_line (codes ":functions") (signature_shapes d.functions) in
    let a = lines_text (action_shapes d.actions) in
    lines_before (codes ":requirements") (name_shapes d.requirements) _
    ∙ ap (λ (l : List ℕ). r ++ l) (
    lines_before (codes ":types") (type_shapes d.types) _
    ∙ ap (λ (l : List ℕ). t ++ l) (
    lines_before (codes ":constants") (typed_shapes d.constants) _
    ∙ ap (λ (l : List ℕ). c ++ l) (
    lines_before (codes ":predicates") (signature_shapes d.predicates) _
    ∙ ap (λ (l : List ℕ). p ++ l) (lines_before (codes ":functions") (signature_shapes d.functions) _)
    )
    )
    )
    ∙ sym (
    append_assoc r (t ++ (c ++ (p ++ f))) a
    ∙ ap (λ (l : List ℕ). r ++ l) (append_assoc t (c ++ (p ++ f)) a ∙ ap (λ (l : List ℕ). t ++ l) (append_assoc c (p ++ f) a ∙ ap (λ (l : List ℕ). c ++ l) (append_assoc p f a)))
    )

-- the whole text, in the parts that are written
pub whole_text : (d : Domain) → (codes "(define " ++ (shape_text (name_shape d) ++ 10 ∷ [])) ++ (declarations_text d ++ (lines_text (action_shapes d.actions) ++ 41 ∷ 10 ∷ [])) ≡ domain_text d
whole_text d =
    let n = shape_text (name_shape d) in
    append_assoc (codes "(define " ++ n) (10 ∷ []) (declarations_text d ++ (lines_text (action_shapes d.actions) ++ 41 ∷ 10 ∷ []))
    ∙ ap (λ (l : List ℕ). codes "(define " ++ (n ++ 10 ∷ l)) (sym (append_assoc (declarations_text d) (lines_text (action_shapes d.actions)) (41 ∷ 10 ∷ [])) ∙ ap (λ (l : List ℕ). l ++ 41 ∷ 10 ∷ []) (sym (lines_sections d)))

pub name_text : (n m : List ℕ) → n ≡ m → codes "(define (domain " ++ (n ++ 41 ∷ 10 ∷ []) ≡ codes "(define " ++ (shape_text (headed (codes "domain") (one_shape (leaf m))) ++ 10 ∷ [])
name_text n m is =
    ap (λ (l : List ℕ). codes "(define (domain " ++ (l ++ 41 ∷ 10 ∷ [])) is
    ∙ ap (λ (l : List ℕ). codes "(define (domain " ++ l) (sym (append_assoc (m ++ []) (41 ∷ []) (10 ∷ []) ∙ ap (λ (l : List ℕ). l ++ 41 ∷ 10 ∷ []) (append-nil m)))

pub section_is : {X : Type 0} (w : List ℕ) (f : List X → Shapes) (xs : List X) → eqb (length xs) 0 ≡ false → ((x : X) (ys : List X) → (s : Shape) × (ss : Shapes) × (f (x ∷ ys) ≡ shape s ss)) → 40 ∷ (w ++ (more_text (f xs) ++ 41 ∷ 10 ∷ [])) ≡ section_line w (f xs)
section_is w f [] some parts = absurd (let e : true ≡ false = some in cc)
section_is w f (x ∷ xs) some parts =
    let p = parts x xs in
    subst (λ (u : Shapes). 40 ∷ (w ++ (more_text u ++ 41 ∷ 10 ∷ [])) ≡ section_line w u) (sym p.2) (section_text w p.0 p.1)

pub moments_text : (s t : Shape) → codes " :condition " ++ (shape_text s ++ (codes " :effect " ++ shape_text t)) ≡ more_text (field_before (codes ":condition") s (field_before (codes ":effect") t no_shapes))
moments_text s t = ap (λ (l : List ℕ). codes " :condition " ++ (shape_text s ++ (codes " :effect " ++ l))) (sym (append-nil (shape_text t)))

pub instant_text : (b : Body) (c : Cond) (e : Joined SimpleEffect) → b ≡ Instant c e → codes " :precondition " ++ (shape_text (condition_shape (cond_view c)) ++ (codes " :effect " ++ shape_text (effect_shape (effect_view e)))) ≡ more_text (body_shapes (body_view b))
instant_text b c e is =
    ap (λ (l : List ℕ). codes " :precondition " ++ (shape_text (condition_shape (cond_view c)) ++ (codes " :effect " ++ l))) (sym (append-nil (shape_text (effect_shape (effect_view e)))))
    ∙ ap (λ (d : Body). more_text (body_shapes (body_view d))) (sym is)

pub durative_text : (b : Body) (r : DurationRule) (c : Joined (Timed Cond)) (e : Joined (Timed (Joined SimpleEffect))) → b ≡ Durative r c e → codes " :duration " ++ (shape_text (constraint_shape (constraint_view r)) ++ more_text (timed_shapes (timed_condition_view c) (timed_effect_view e))) ≡ more_text (body_shapes (body_view b))
durative_text b r c e is = ap (λ (d : Body). more_text (body_shapes (body_view d))) (sym is)

pub action_text : (w n f : List ℕ) → (40 ∷ (w ++ 32 ∷ [])) ++ (n ++ (f ++ 41 ∷ 10 ∷ [])) ≡ (40 ∷ ((w ++ 32 ∷ (n ++ f)) ++ 41 ∷ [])) ++ 10 ∷ []
action_text w n f =
    ap (λ (l : List ℕ). 40 ∷ l) (
    append_assoc w (32 ∷ []) (n ++ (f ++ 41 ∷ 10 ∷ []))
    ∙ sym (
    append_assoc (w ++ 32 ∷ (n ++ f)) (41 ∷ []) (10 ∷ [])
    ∙ append_assoc w (32 ∷ (n ++ f)) (41 ∷ 10 ∷ [])
    ∙ ap (λ (l : List ℕ). w ++ 32 ∷ l) (append_assoc n f (41 ∷ 10 ∷ []))
    )
    )
