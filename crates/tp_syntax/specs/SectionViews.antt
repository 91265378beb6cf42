-- A domain's sections as they are read.
use Rattle.std.specs.Prelude.{◌≡◌, List, map, Bool, true, false, not, Option, Some, None, Result, Ok, Err}
use Rattle.tp_text.specs.Shapes.{Shapes}
use Rattle.tp_syntax_ast.specs.Gives.{◌>>=◌, provided, with_front, Fails}
use Rattle.tp_syntax_ast.specs.declared.fault.SyntaxFault.{SyntaxFault}
use Rattle.tp_syntax_ast.specs.Terms.{shapes}
use Rattle.tp_syntax_ast.specs.Symbols.{Parent, Declared, SignatureView, Symbols}
use Rattle.tp_syntax_ast.specs.TypedLists.{has_twice}
use Rattle.tp_syntax_ast.specs.Actions.{Action}
use Rattle.tp_syntax_ast.specs.Domains.{SectionBody, sections_of, each_once, actions_in}
use Rattle.tp_syntax_ast.specs.declared.words.Section.{Section}
use Rattle.tp_syntax_ast.specs.declared.words.Section.TheVariants as sections
use Rattle.tp_syntax.specs.KeyedParts.{SectionItem}

abbrev pub section_body_view : SectionItem Section → SectionBody
section_body_view p = record { section = p.kind; body = shapes p.body.now }

-- each but the actions at most once
abbrev pub checked_sections : Shapes → Option (List SectionBody)
checked_sections ss = sections_of ss >>= λ ps. provided (each_once ps) ps

-- the actions, each named once
abbrev pub actions_once : Symbols → List SectionBody → Option (List Action)
actions_once σ ps =
    actions_in σ ps >>= λ as_. provided (not (has_twice (map (λ a. a.name) as_))) as_

-- whether the actions of a section last, if it has one
abbrev pub action_kind : Section → Option Bool
action_kind sections.Action = Some false
action_kind sections.DurativeAction = Some true
action_kind _ = None

-- what actions may name: what the other sections declare
abbrev pub domain_symbols : List Parent → List Declared → List SignatureView → List SignatureView → Symbols
domain_symbols ts cs ps fs = record { types = ts; objects = cs; predicates = ps; functions = fs }

-- what is read goes behind what was there
abbrev pub Adds : {X Y : Type 0} → List Y → List Y → Result X SyntaxFault → Option (List Y) → Type 0
Adds old new (Ok x) read = with_front old read ≡ Some new
Adds old new (Err e) read = Fails e read
