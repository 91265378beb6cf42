-- The sections of a domain, by their kinds.
use Rattle.std.proofs.Common.{◌≡◌, List, [], ◌∷◌, map, ◌&&◌, ◌||◌, not, ◌==◌, Option, Some, None, option_map, refl, ap, ◌∙◌}
use Rattle.std.specs.Option.{is_some}
use Rattle.tp_text.specs.Shapes.{Shape, leaf, node, Shapes, no_shapes, shape}
use Rattle.tp_syntax_ast.specs.Gives.{◌>>=◌, provided}
use Rattle.tp_syntax_ast.specs.Words.{section_of}
use Rattle.tp_syntax_ast.specs.Domains.{SectionBody, sections_of, section_number, is_section, section, is_action, each_once}
use Rattle.tp_syntax.specs.SectionViews.{section_body_view, checked_sections}
use Rattle.tp_syntax.specs.KeyedParts as keyed
use Rattle.tp_syntax.specs.KeyedParts.{SectionItem, part_seen, part_of, parts_of, first, or_nothing}
use Rattle.tp_syntax_ast.specs.declared.words.Section.{Section}
use Rattle.tp_syntax.proofs.OnKeyed.{all_same, kept, any_first, first_if}

abbrev pub made : Section × Shapes → SectionBody
made p = record { section = p.0; body = p.1 }

at_section : (o : Option Section) (body : Shapes) (rest : Option (List SectionBody)) → (o >>= λ k. option_map (λ (ps : List SectionBody). record { section = k; body = body } ∷ ps) rest) ≡ (option_map made (option_map (λ k. (k, body)) o) >>= λ p. option_map (λ ps. p ∷ ps) rest)
at_section None body rest = refl
at_section (Some k) body rest = refl

more : (s : Shape) (ss : Shapes) → sections_of (shape s ss) ≡ (option_map made (part_of section_of s) >>= λ p. option_map (λ ps. p ∷ ps) (sections_of ss))
unfolding sections_of part_of
more (leaf w) ss = refl
more (node no_shapes) ss = refl
more (node (shape (node ts) body)) ss = refl
more (node (shape (leaf w) body)) ss = at_section (section_of w) body (sections_of ss)

none : sections_of no_shapes ≡ Some []
unfolding sections_of
none = refl

once : (ps : List (Section × Shapes)) → each_once (map made ps) ≡ keyed.each_once section_number is_action ps
once [] = refl
once (p ∷ ps) =
    ap (λ b. (is_action p.0 || not b) && each_once (map made ps)) (any_first made section_number p.0 (is_section p.0) (λ q. refl) ps)
    ∙ ap (λ b. (is_action p.0 || not (is_some (first section_number p.0 ps))) && b) (once ps)

pub sections_same : (ss : Shapes) → checked_sections ss ≡ option_map (map made) (keyed.once_each section_of section_number is_action ss)
sections_same ss =
    ap (λ o. o >>= λ ps. provided (each_once ps) ps) (all_same made section_of sections_of none more ss)
    ∙ kept made each_once (keyed.each_once section_number is_action) once (parts_of section_of ss)

pub section_same : (k : Section) (ps : List (SectionItem Section)) → section k (map section_body_view ps) ≡ or_nothing (first section_number k (map part_seen ps))
section_same k [] = refl
section_same k (p ∷ ps) = first_if (section_number p.kind == section_number k) _ _ _ (section_same k ps)
