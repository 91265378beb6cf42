-- Words, whose case is not significant, and the words that forms begin with.
use Rattle.std.specs.Prelude.{◌≡◌, ℕ, List, map, Bool, codes, if◌then◌else◌, Option, Some, None}
use Rattle.std.specs.Char.{to_ascii_lowercase}
use Rattle.std.specs.Str.{bytes_eq}
use Rattle.tp_syntax_ast.specs.declared.words.CondWord as cond_words
use Rattle.tp_syntax_ast.specs.declared.words.Operator as operators
use Rattle.tp_syntax_ast.specs.declared.words.EffectWord as effect_words
use Rattle.tp_syntax_ast.specs.declared.words.Joint as joints
use Rattle.tp_syntax_ast.specs.declared.words.ConstraintForm as constraint_forms
use Rattle.tp_syntax_ast.specs.declared.words.Comparison as comparisons
use Rattle.tp_syntax_ast.specs.declared.words.TimeSpecifier as specifiers
use Rattle.tp_syntax_ast.specs.declared.words.Key as keys
use Rattle.tp_syntax_ast.specs.declared.words.Section as sections
use Rattle.tp_syntax_ast.specs.declared.words.ProblemSection as problem_sections

abbrev pub lower : List ℕ → List ℕ
lower w = map to_ascii_lowercase w

abbrev pub IsLower : List ℕ → Type 0
IsLower w = lower w ≡ w

-- the word in any case
unfoldable pub is_word : List ℕ → List ℕ → Bool
is_word name w = bytes_eq (lower w) name

unfoldable pub cond_word_of : List ℕ → cond_words.CondWord
cond_word_of w =
    if is_word (codes "and") w then cond_words.TheVariants.And
    else (if is_word (codes "or") w then cond_words.TheVariants.Or
    else (if is_word (codes "not") w then cond_words.TheVariants.Not
    else (if is_word (codes "imply") w then cond_words.TheVariants.Imply
    else (if is_word (codes "forall") w then cond_words.TheVariants.Forall
    else (if is_word (codes "exists") w then cond_words.TheVariants.Exists
    else (if is_word (codes "=") w then cond_words.TheVariants.Equal
    else (if is_word (codes "<") w then cond_words.TheVariants.Less
    else (if is_word (codes "<=") w then cond_words.TheVariants.AtMost
    else (if is_word (codes ">=") w then cond_words.TheVariants.AtLeast
    else (if is_word (codes ">") w then cond_words.TheVariants.Greater
    else (if is_word (codes "preference") w then cond_words.TheVariants.Preference
    else cond_words.TheVariants.Other)))))))))))

unfoldable pub operator_of : List ℕ → operators.Operator
operator_of w =
    if is_word (codes "+") w then operators.TheVariants.Plus
    else (if is_word (codes "-") w then operators.TheVariants.Minus
    else (if is_word (codes "*") w then operators.TheVariants.Times
    else (if is_word (codes "/") w then operators.TheVariants.Divide
    else operators.TheVariants.Other)))

unfoldable pub effect_word_of : List ℕ → effect_words.EffectWord
effect_word_of w =
    if is_word (codes "not") w then effect_words.TheVariants.Not
    else (if is_word (codes "assign") w then effect_words.TheVariants.Assign
    else (if is_word (codes "increase") w then effect_words.TheVariants.Increase
    else (if is_word (codes "decrease") w then effect_words.TheVariants.Decrease
    else (if is_word (codes "scale-up") w then effect_words.TheVariants.ScaleUp
    else (if is_word (codes "scale-down") w then effect_words.TheVariants.ScaleDown
    else (if is_word (codes "when") w then effect_words.TheVariants.When
    else effect_words.TheVariants.Other))))))

unfoldable pub joint_of : List ℕ → joints.Joint
joint_of w =
    if is_word (codes "and") w then joints.TheVariants.And
    else (if is_word (codes "forall") w then joints.TheVariants.Forall
    else joints.TheVariants.One)

-- of a duration constraint
unfoldable pub constraint_form_of : List ℕ → constraint_forms.ConstraintForm
constraint_form_of w =
    if is_word (codes "and") w then constraint_forms.TheVariants.And
    else (if is_word (codes "at") w then constraint_forms.TheVariants.At
    else constraint_forms.TheVariants.Limit)

-- (OP X X)
abbrev pub comparison : cond_words.CondWord → Option comparisons.Comparison
comparison cond_words.TheVariants.Less = Some comparisons.TheVariants.Less
comparison cond_words.TheVariants.AtMost = Some comparisons.TheVariants.AtMost
comparison cond_words.TheVariants.Equal = Some comparisons.TheVariants.Equal
comparison cond_words.TheVariants.AtLeast = Some comparisons.TheVariants.AtLeast
comparison cond_words.TheVariants.Greater = Some comparisons.TheVariants.Greater
comparison _ = None

-- (OP ?duration X)
abbrev pub duration_comparison : cond_words.CondWord → Option comparisons.Comparison
duration_comparison cond_words.TheVariants.AtMost = Some comparisons.TheVariants.AtMost
duration_comparison cond_words.TheVariants.Equal = Some comparisons.TheVariants.Equal
duration_comparison cond_words.TheVariants.AtLeast = Some comparisons.TheVariants.AtLeast
duration_comparison _ = None

-- 'at start', 'over all', 'at end'
unfoldable pub specifier_of : List ℕ → List ℕ → Option specifiers.TimeSpecifier
specifier_of w v =
    if is_word (codes "at") w then (if is_word (codes "start") v then Some specifiers.TheVariants.AtStart
    else (if is_word (codes "end") v then Some specifiers.TheVariants.AtEnd else None))
    else (if is_word (codes "over") w
    then (if is_word (codes "all") v then Some specifiers.TheVariants.OverAll else None) else None)

unfoldable pub key_of : List ℕ → Option keys.Key
key_of w =
    if is_word (codes ":parameters") w then Some keys.TheVariants.Parameters
    else (if is_word (codes ":precondition") w then Some keys.TheVariants.Precondition
    else (if is_word (codes ":duration") w then Some keys.TheVariants.Duration
    else (if is_word (codes ":condition") w then Some keys.TheVariants.Condition
    else (if is_word (codes ":effect") w then Some keys.TheVariants.Effect
    else None))))

unfoldable pub section_of : List ℕ → Option sections.Section
section_of w =
    if is_word (codes ":requirements") w then Some sections.TheVariants.Requirements
    else (if is_word (codes ":types") w then Some sections.TheVariants.Types
    else (if is_word (codes ":constants") w then Some sections.TheVariants.Constants
    else (if is_word (codes ":predicates") w then Some sections.TheVariants.Predicates
    else (if is_word (codes ":functions") w then Some sections.TheVariants.Functions
    else (if is_word (codes ":action") w then Some sections.TheVariants.Action
    else (if is_word (codes ":durative-action") w then Some sections.TheVariants.DurativeAction
    else None))))))

unfoldable pub problem_section_of : List ℕ → Option problem_sections.ProblemSection
problem_section_of w =
    if is_word (codes ":requirements") w then Some problem_sections.TheVariants.Requirements
    else (if is_word (codes ":objects") w then Some problem_sections.TheVariants.Objects
    else (if is_word (codes ":init") w then Some problem_sections.TheVariants.Init
    else (if is_word (codes ":goal") w then Some problem_sections.TheVariants.Goal
    else (if is_word (codes ":metric") w then Some problem_sections.TheVariants.Metric
    else (if is_word (codes ":length") w then Some problem_sections.TheVariants.Length
    else None)))))
