-- Domains: sections in any order.
use Rattle.std.specs.Prelude.{◌≡◌, ℕ, List, [], ◌∷◌, ◌++◌, map, filter, length, Bool, true, false, ◌&&◌, ◌||◌, ◌==◌, not, codes, if◌then◌else◌, Option, Some, None, option_map}
use Rattle.std.specs.List.{list_all, list_any}
use Rattle.std.specs.Str.{bytes_eq}
use Rattle.tp_text.specs.Shapes.{Shape, leaf, node, Shapes, no_shapes, shape, Spells}
use Rattle.tp_syntax_ast.specs.Gives.{◌>>=◌, provided}
use Rattle.tp_syntax_ast.specs.Words.{is_word, lower, section_of}
use Rattle.tp_syntax_ast.specs.Terms.{name_of}
use Rattle.tp_syntax_ast.specs.Lists.{both, first_of}
use Rattle.tp_syntax_ast.specs.Symbols.{Name, Declared, Parent, SignatureView, at_or_below, Symbols}
use Rattle.tp_syntax_ast.specs.TypedLists.{is_dash, typed_list, parameters_of, has_twice, are_declared}
use Rattle.tp_syntax_ast.specs.Actions.{Action, action_of}
use Rattle.tp_syntax_ast.specs.declared.words.Items.TheVariants.{Names}
use Rattle.tp_syntax_ast.specs.declared.words.Section.{Section}
use Rattle.tp_syntax_ast.specs.declared.words.Section.TheVariants as sections

pub record Domain : Type 0 where
  pub name : Name
  pub requirements : List Name
  pub types : List Parent
  pub constants : List Declared
  pub predicates : List SignatureView
  pub functions : List SignatureView
  pub actions : List Action

-- ---- types

abbrev pub object : Name
object = codes "object"

abbrev pub above : List Name → Name
above [] = object
above (t ∷ ts) = t

abbrev pub type_below : Declared → Parent
type_below d = record { name = d.name; parent = above d.types }

abbrev pub is_object : Parent → Bool
is_object p = bytes_eq p.name object

-- types that are declared by their mention alone, below 'object', in order of mention
abbrev pub mentioned : List Name → List Parent → List Parent
mentioned known [] = []
mentioned known (p ∷ ps) =
    if list_any (bytes_eq p.parent) known then mentioned known ps
    else record { name = p.parent; parent = object } ∷ mentioned (p.parent ∷ known) ps

abbrev pub with_mentioned : List Parent → List Parent
with_mentioned ps = ps ++ mentioned (object ∷ map (λ p. p.name) ps) ps

-- each is below 'object': there is no cycle
abbrev pub no_cycle : List Parent → Bool
no_cycle ps = list_all (λ p. at_or_below ps (length ps) p.name object) ps

-- 'object' may be listed, below nothing else
abbrev pub types_from : List Parent → Option (List Parent)
types_from ps =
    let types = with_mentioned (filter (λ p. not (is_object p)) ps) in
    provided (not (has_twice (map (λ p. p.name) ps)) && (list_all
    (λ p. not (is_object p) || bytes_eq p.parent object) ps && no_cycle types)) types

unfoldable pub types_in : Shapes → Option (List Parent)
types_in ss = typed_list Names ss >>= λ ds. types_from (map type_below ds)

-- ---- the other sections

-- a word that begins with ':'
unfoldable pub requirement_at : Shape → Option Name
requirement_at (node ss) = None
requirement_at (leaf []) = None
requirement_at (leaf (b ∷ w)) = provided (b == 58) (lower (b ∷ w))

unfoldable pub requirements_in : Shapes → Option (List Name)
requirements_in no_shapes = Some []
requirements_in (shape s ss) =
    requirement_at s >>= λ n. option_map (λ ns. n ∷ ns) (requirements_in ss)

unfoldable pub objects_in : List Parent → Shapes → Option (List Declared)
objects_in types ss = typed_list Names ss >>= λ ds. provided (are_declared types ds) ds

-- (NAME VARS)
unfoldable pub signature_at : List Parent → Shape → Option SignatureView
signature_at types (node (shape (leaf w) vars)) =
    name_of w >>= λ n.
    option_map (λ vs. record { name = n; parameters = vs }) (parameters_of types vars)
signature_at types _ = None

unfoldable pub signatures_of : List Parent → Shapes → Option (List SignatureView)
signatures_of types no_shapes = Some []
signatures_of types (shape s ss) = signature_at types s >>= λ f. option_map (λ fs. f ∷ fs) (signatures_of types ss)

abbrev pub is_number : Shape → Bool
is_number (leaf w) = is_word (codes "number") w
is_number (node ss) = false

-- signatures, of which runs may end in '- number'
unfoldable mutual
  pub numeric_signatures : List Parent → Bool → Shapes → Option (List SignatureView)
  numeric_signatures types may_end no_shapes = Some []
  numeric_signatures types may_end (shape s ss) = elim (may_end && is_dash s) [
    | true ↦ after_number types ss
    | false ↦ signature_at types s >>= λ f. option_map (λ fs. f ∷ fs) (numeric_signatures types true ss)
  ]

  pub after_number : List Parent → Shapes → Option (List SignatureView)
  after_number types no_shapes = None
  after_number types (shape s ss) =
      elim (is_number s) [ true ↦ numeric_signatures types false ss | false ↦ None ]

abbrev pub named_once : List SignatureView → Option (List SignatureView)
named_once fs = provided (not (has_twice (map (λ f. f.name) fs))) fs

-- ---- sections

pub record SectionBody : Type 0 where
  pub section : Section
  pub body : Shapes

unfoldable pub sections_of : Shapes → Option (List SectionBody)
sections_of no_shapes = Some []
sections_of (shape (node (shape (leaf w) body)) rest) =
    section_of w >>= λ k.
    option_map (λ ps. record { section = k; body = body } ∷ ps) (sections_of rest)
sections_of (shape s rest) = None

abbrev pub section_number : Section → ℕ
section_number sections.Requirements = 0
section_number sections.Types = 1
section_number sections.Constants = 2
section_number sections.Predicates = 3
section_number sections.Functions = 4
section_number sections.Action = 5
section_number sections.DurativeAction = 6

abbrev pub is_section : Section → SectionBody → Bool
is_section k p = section_number p.section == section_number k

-- what stands in a section, nothing if it is missing
abbrev pub section : Section → List SectionBody → Shapes
section k [] = no_shapes
section k (p ∷ ps) = if is_section k p then p.body else section k ps

abbrev pub is_action : Section → Bool
is_action sections.Action = true
is_action sections.DurativeAction = true
is_action _ = false

-- each but the actions at most once
abbrev pub each_once : List SectionBody → Bool
each_once [] = true
each_once (p ∷ ps) =
    (is_action p.section || not (list_any (is_section p.section) ps)) && each_once ps

abbrev pub action_at : Symbols → Section → Shapes → Option (List Action)
action_at σ sections.Action body = option_map (λ a. a ∷ []) (action_of σ false body)
action_at σ sections.DurativeAction body = option_map (λ a. a ∷ []) (action_of σ true body)
action_at σ _ body = Some []

unfoldable pub actions_in : Symbols → List SectionBody → Option (List Action)
actions_in σ [] = Some []
actions_in σ (p ∷ ps) =
    action_at σ p.section p.body >>= λ front. option_map (λ more. front ++ more) (actions_in σ ps)

-- ---- the domain

unfoldable pub domain_with : Name → List SectionBody → Option Domain
domain_with n ps =
    requirements_in (section sections.Requirements ps) >>= λ requirements.
    types_in (section sections.Types ps) >>= λ types.
    objects_in types (section sections.Constants ps) >>= λ constants.
    (signatures_of types (section sections.Predicates ps) >>= named_once) >>= λ predicates.
    (numeric_signatures types false (section sections.Functions ps) >>= named_once) >>= λ functions.
    actions_in (record {
      types = types;
      objects = constants;
      predicates = predicates;
      functions = functions;
    }) ps >>= λ actions.
    provided (not (has_twice (map (λ a. a.name) actions)))
    (record {
      name = n;
      requirements = requirements;
      types = types;
      constants = constants;
      predicates = predicates;
      functions = functions;
      actions = actions;
    })

-- KIND and a name
unfoldable pub kind_and_name : List ℕ → Shape → Shape → Option Name
kind_and_name kind (leaf k) (leaf n) = if is_word kind k then name_of n else None
kind_and_name kind _ _ = None

-- (KIND NAME), as after 'define'
unfoldable pub named : List ℕ → Shape → Option Name
named kind (leaf w) = None
named kind (node ss) = both ss >>= λ p. kind_and_name kind p.0 p.1

-- what stands behind 'define': the first of it, and the rest
unfoldable pub defined : Shape → Option (Shape × Shapes)
defined (node (shape (leaf w) rest)) = if is_word (codes "define") w then first_of rest else None
defined _ = None

-- (define (domain NAME) SECTION ..)
unfoldable pub domain_of : Shape → Option Domain
domain_of (node (shape (leaf d) (shape head rest))) =
    if is_word (codes "define") d then (named (codes "domain") head >>= λ n.
    sections_of rest >>= λ ps. provided (each_once ps) ps >>= domain_with n) else None
domain_of _ = None

-- the domain that a text spells
abbrev pub SpellsDomain : List ℕ → Domain → Type 0
SpellsDomain text d = (s : Shape) × Spells text s × (domain_of s ≡ Some d)
