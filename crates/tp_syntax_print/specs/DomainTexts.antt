-- The one text of a domain.
use Rattle.std.specs.Prelude.{ℕ, List, [], ◌∷◌, ◌++◌, codes}
use Rattle.tp_text.specs.Shapes.{Shape, Shapes, no_shapes, shape}
use Rattle.tp_text.specs.Texts.{shape_text}
use Rattle.tp_syntax_ast.specs.Domains.{Domain, SpellsDomain}
use Rattle.tp_syntax_ast.specs.Symbols.{Declared}
use Rattle.tp_syntax_print.specs.Printing.{headed, name_shapes, types_shape, typed_shapes, type_shapes, signature_shapes, specifier_word, specifier_place, name_shape, section_shapes}
use Rattle.tp_syntax_ast.specs.declared.words.TimeSpecifier.{TimeSpecifier}

-- each on a line of its own, which ends in LF
abbrev pub lines_text : Shapes → List ℕ
lines_text no_shapes = []
lines_text (shape s ss) = shape_text s ++ 10 ∷ lines_text ss

-- a section's line, none where it is empty
abbrev pub section_line : List ℕ → Shapes → List ℕ
section_line w no_shapes = []
section_line w (shape s ss) = shape_text (headed w (shape s ss)) ++ 10 ∷ []

-- the sections that declare something
abbrev pub declarations_text : Domain → List ℕ
declarations_text d =
    section_line (codes ":requirements") (name_shapes d.requirements)
    ++ (section_line (codes ":types") (type_shapes d.types)
    ++ (section_line (codes ":constants") (typed_shapes d.constants)
    ++ (section_line (codes ":predicates") (signature_shapes d.predicates)
    ++ section_line (codes ":functions") (signature_shapes d.functions))))

-- a name with its types
abbrev pub item_text : Declared → List ℕ
item_text d = d.name ++ codes " - " ++ shape_text (types_shape d.types)

-- two members of a list behind its first word, and its end
abbrev pub operands_text : Shape → Shape → List ℕ
operands_text s t = 32 ∷ (shape_text s ++ 32 ∷ (shape_text t ++ 41 ∷ []))

-- a time specifier's words behind '('
abbrev pub specifier_text : TimeSpecifier → List ℕ
specifier_text m = 40 ∷ (specifier_word m ++ 32 ∷ (specifier_place m ++ 32 ∷ []))

-- '(define (domain NAME)', the sections and actions, ')'
abbrev pub domain_text : Domain → List ℕ
domain_text d =
    codes "(define "
    ++ (shape_text (name_shape d) ++ 10 ∷ (lines_text (section_shapes d) ++ 41 ∷ 10 ∷ []))

-- what is printed of a domain that some text spells is read again to the same
abbrev pub IsSpelledAgain : Domain → Type 0
IsSpelledAgain d = (text : List ℕ) → SpellsDomain text d → SpellsDomain (domain_text d) d
