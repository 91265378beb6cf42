-- The sections of a problem, by their kinds.
use Rattle.std.proofs.Common.{◌≡◌, List, [], ◌∷◌, map, false, ◌&&◌, not, ◌==◌, Option, Some, None, option_map, refl, ap, ◌∙◌}
use Rattle.std.specs.Option.{is_some}
use Rattle.tp_text.specs.Shapes.{Shape, leaf, node, Shapes, no_shapes, shape}
use Rattle.tp_syntax_ast.specs.Gives.{◌>>=◌, provided}
use Rattle.tp_syntax_ast.specs.Words.{problem_section_of}
use Rattle.tp_syntax_ast.specs.Problems.{ProblemSectionBody, section_at, sections_of, section_number, is_section, section, each_once, once_each}
use Rattle.tp_syntax.specs.ProblemViews.{section_body_view}
use Rattle.tp_syntax.specs.KeyedParts as keyed
use Rattle.tp_syntax.specs.KeyedParts.{SectionItem, part_seen, part_of, parts_of, first, or_nothing}
use Rattle.tp_syntax_ast.specs.declared.words.ProblemSection.{ProblemSection}
use Rattle.tp_syntax.proofs.OnKeyed.{all_same, kept, any_first, first_if}

abbrev pub made : ProblemSection × Shapes → ProblemSectionBody
made p = record { section = p.0; body = p.1 }

of_kind : (o : Option ProblemSection) (body : Shapes) → option_map (λ k. made (k, body)) o ≡ option_map made (option_map (λ k. (k, body)) o)
of_kind None body = refl
of_kind (Some k) body = refl

at_section : (s : Shape) → section_at s ≡ option_map made (part_of problem_section_of s)
unfolding section_at part_of
at_section (leaf w) = refl
at_section (node no_shapes) = refl
at_section (node (shape (node ts) body)) = refl
at_section (node (shape (leaf w) body)) = of_kind (problem_section_of w) body

more : (s : Shape) (ss : Shapes) → sections_of (shape s ss) ≡ (option_map made (part_of problem_section_of s) >>= λ p. option_map (λ ps. p ∷ ps) (sections_of ss))
unfolding sections_of
more s ss = ap (λ o. o >>= λ p. option_map (λ ps. p ∷ ps) (sections_of ss)) (at_section s)

none : sections_of no_shapes ≡ Some []
unfolding sections_of
none = refl

once : (ps : List (ProblemSection × Shapes)) → each_once (map made ps) ≡ keyed.each_once section_number (λ _. false) ps
once [] = refl
once (p ∷ ps) =
    ap (λ b. not b && each_once (map made ps)) (any_first made section_number p.0 (is_section p.0) (λ q. refl) ps)
    ∙ ap (λ b. not (is_some (first section_number p.0 ps)) && b) (once ps)

pub sections_same : (ss : Shapes) → once_each ss ≡ option_map (map made) (keyed.once_each problem_section_of section_number (λ _. false) ss)
unfolding once_each
sections_same ss =
    ap (λ o. o >>= λ ps. provided (each_once ps) ps) (all_same made problem_section_of sections_of none more ss)
    ∙ kept made each_once (keyed.each_once section_number (λ _. false)) once (parts_of problem_section_of ss)

pub section_same : (k : ProblemSection) (ps : List (SectionItem ProblemSection)) → section k (map section_body_view ps) ≡ or_nothing (first section_number k (map part_seen ps))
section_same k [] = refl
section_same k (p ∷ ps) = first_if (section_number p.kind == section_number k) _ _ _ (section_same k ps)
