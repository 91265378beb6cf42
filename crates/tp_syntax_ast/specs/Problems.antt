-- Problems of a domain.
use Rattle.std.specs.Prelude.{◌≡◌, ℕ, List, [], ◌∷◌, ◌++◌, map, Bool, true, false, ◌&&◌, ◌==◌, not, codes, if◌then◌else◌, Option, Some, None, option_map}
use Rattle.std.specs.List.{list_any}
use Rattle.std.specs.Str.{bytes_eq}
use lib.IntN.{ℤ}
use Rattle.tp_text.specs.Shapes.{Shape, leaf, node, Shapes, no_shapes, shape, Spells}
use Rattle.tp_text.specs.Numbers.{whole_of}
use Rattle.tp_syntax_ast.specs.Gives.{◌>>=◌, provided}
use Rattle.tp_syntax_ast.specs.Words.{is_word, problem_section_of}
use Rattle.tp_syntax_ast.specs.Terms.{Argument, object, variable, Fact}
use Rattle.tp_syntax_ast.specs.Symbols.{Name, Declared, Symbols, atom_in}
use Rattle.tp_syntax_ast.specs.TypedLists.{has_twice}
use Rattle.tp_syntax_ast.specs.Conditions.{Condition, condition_of}
use Rattle.tp_syntax_ast.specs.Effects.{atom_at}
use Rattle.tp_syntax_ast.specs.Lists.{only, both, first_of}
use Rattle.tp_syntax_ast.specs.Readings.{IsRefusedAs}
use Rattle.tp_syntax_ast.specs.Domains.{Domain, defined, named, objects_in, requirements_in}
use Rattle.tp_syntax_ast.specs.declared.fault.SyntaxFault.{SyntaxFault}
use Rattle.tp_syntax_ast.specs.declared.words.ProblemSection.{ProblemSection}
use Rattle.tp_syntax_ast.specs.declared.words.ProblemSection.TheVariants as sections

-- what ':init' says: an atom holds, or does not, or a fluent has a value
pub data Initial : Type 0 where
  holds : Fact → Initial
  fails : Fact → Initial
  has_value : Fact → ℤ → Initial

pub record Problem : Type 0 where
  pub name : Name
  pub objects : List Declared
  pub initial : List Initial
  pub goal : Condition

-- the domain's symbols, and the problem's objects
abbrev pub symbols_with : Domain → List Declared → Symbols
symbols_with d objects =
    record {
      types = d.types;
      objects = d.constants ++ objects;
      predicates = d.predicates;
      functions = d.functions;
    }

abbrev pub initial_number : Fact → Shape → Option Initial
initial_number f (leaf w) = option_map (has_value f) (whole_of w)
initial_number f (node ss) = None

-- (not (NAME TERM ..))
unfoldable pub denied : Symbols → Shapes → Option Initial
denied σ rest = only rest >>= λ s. option_map fails (atom_at σ σ.predicates [] s)

-- (= F NUMBER)
unfoldable pub valued : Symbols → Shapes → Option Initial
valued σ rest = both rest >>= λ p. atom_at σ σ.functions [] p.0 >>= λ f. initial_number f p.1

unfoldable pub initial_list : Symbols → List ℕ → Shapes → Option Initial
initial_list σ w rest =
    if is_word (codes "not") w then denied σ rest
    else (if is_word (codes "=") w then valued σ rest
    else option_map holds (atom_in σ σ.predicates [] w rest))

unfoldable pub initial_at : Symbols → Shape → Option Initial
initial_at σ (node (shape (leaf w) rest)) = initial_list σ w rest
initial_at σ _ = None

unfoldable pub initial_of : Symbols → Shapes → Option (List Initial)
initial_of σ no_shapes = Some []
initial_of σ (shape s ss) = initial_at σ s >>= λ i. option_map (λ is_. i ∷ is_) (initial_of σ ss)

abbrev pub same_argument : Argument → Argument → Bool
same_argument (object n) (object m) = bytes_eq n m
same_argument (variable n) (variable m) = bytes_eq n m
same_argument _ _ = false

abbrev pub same_arguments : List Argument → List Argument → Bool
same_arguments [] [] = true
same_arguments (a ∷ more) (b ∷ others) = same_argument a b && same_arguments more others
same_arguments _ _ = false

abbrev pub same_fact : Fact → Fact → Bool
same_fact f g = bytes_eq f.name g.name && same_arguments f.arguments g.arguments

-- one says that an atom holds and the other that it does not, or both give a fluent a value
abbrev pub clash : Initial → Initial → Bool
clash (holds f) (fails g) = same_fact f g
clash (fails f) (holds g) = same_fact f g
clash (has_value f v) (has_value g w) = same_fact f g
clash _ _ = false

abbrev pub no_clash : List Initial → Bool
no_clash [] = true
no_clash (i ∷ rest) = not (list_any (clash i) rest) && no_clash rest

-- ---- sections, each at most once

pub record ProblemSectionBody : Type 0 where
  pub section : ProblemSection
  pub body : Shapes

-- (:NAME ..)
unfoldable pub section_at : Shape → Option ProblemSectionBody
section_at (node (shape (leaf w) body)) =
    option_map (λ k. record { section = k; body = body }) (problem_section_of w)
section_at _ = None

unfoldable pub sections_of : Shapes → Option (List ProblemSectionBody)
sections_of no_shapes = Some []
sections_of (shape s ss) = section_at s >>= λ p. option_map (λ ps. p ∷ ps) (sections_of ss)

abbrev pub section_number : ProblemSection → ℕ
section_number sections.Requirements = 0
section_number sections.Objects = 1
section_number sections.Init = 2
section_number sections.Goal = 3
section_number sections.Metric = 4
section_number sections.Length = 5

abbrev pub is_section : ProblemSection → ProblemSectionBody → Bool
is_section k p = section_number p.section == section_number k

abbrev pub section : ProblemSection → List ProblemSectionBody → Shapes
section k [] = no_shapes
section k (p ∷ ps) = if is_section k p then p.body else section k ps

abbrev pub each_once : List ProblemSectionBody → Bool
each_once [] = true
each_once (p ∷ ps) = not (list_any (is_section p.section) ps) && each_once ps

-- one condition; a goal may not be missing
unfoldable pub goal_in : Symbols → Shapes → Option Condition
goal_in σ ss = only ss >>= λ s. condition_of σ [] s

-- none of them a constant
unfoldable pub new_objects : Domain → Shapes → Option (List Declared)
new_objects d ss =
    objects_in d.types ss >>= λ objects.
    provided (not (has_twice (map (λ o. o.name) (d.constants ++ objects)))) objects

-- what holds at first, and what is to hold
unfoldable pub stated : Symbols → List ProblemSectionBody → Option (List Initial × Condition)
stated σ ps =
    initial_of σ (section sections.Init ps) >>= λ initial.
    goal_in σ (section sections.Goal ps) >>= λ goal.
    provided (no_clash initial) (initial, goal)

abbrev pub problem_from : Name → List Declared → List Initial × Condition → Problem
problem_from n objects said =
    record { name = n; objects = objects; initial = said.0; goal = said.1 }

unfoldable pub problem_with : Domain → Name → List ProblemSectionBody → Option Problem
problem_with d n ps =
    requirements_in (section sections.Requirements ps) >>= λ words.
    new_objects d (section sections.Objects ps) >>= λ objects.
    option_map (problem_from n objects) (stated (symbols_with d objects) ps)

-- the problem's name, beside that of its domain
unfoldable pub own_name : Domain → Shape → Shape → Option Name
own_name d head of =
    named (codes "problem") head >>= λ n.
    named (codes ":domain") of >>= λ m. provided (bytes_eq m d.name) n

unfoldable pub once_each : Shapes → Option (List ProblemSectionBody)
once_each ss = sections_of ss >>= λ ps. provided (each_once ps) ps

-- (define (problem NAME) (:domain NAME) SECTION ..)
unfoldable pub problem_of : Domain → Shape → Option Problem
problem_of d s =
    defined s >>= λ p. first_of p.1 >>= λ q.
    own_name d p.0 q.0 >>= λ n. once_each q.1 >>= problem_with d n

abbrev pub SpellsProblem : Domain → List ℕ → Problem → Type 0
SpellsProblem d text p = (s : Shape) × Spells text s × (problem_of d s ≡ Some p)

-- why a text is refused as a problem of a domain
abbrev pub IsRefusedProblem : Domain → List ℕ → SyntaxFault → Type 0
IsRefusedProblem d text e = IsRefusedAs (problem_of d) text e
