-- The rows' domains and problems are spelled.
use Rattle.std.proofs.Common.{◌≡◌, true, codes, None, refl}
use Rattle.std.specs.Option.{is_some}
use Rattle.tp_text.specs.Shapes.{Shape, leaf, node, no_shapes, shape}
use Rattle.tp_text.specs.Numbers.{signed}
use Rattle.tp_syntax_ast.specs.Gives.{◌>>=◌}
use Rattle.tp_syntax_ast.specs.Words.{constraint_form_of, is_word, cond_word_of, operator_of, effect_word_of, joint_of, specifier_of, key_of, section_of, problem_section_of}
use Rattle.tp_syntax_ast.specs.Terms.{name_of, variable_of, term_of, term_at, terms_of}
use Rattle.tp_syntax_ast.specs.TypedLists.{is_dash, item_at, name_at, names_of, is_either, either_of, type_at, typing_of, typed_list, parameters_of}
use Rattle.tp_syntax_ast.specs.Symbols.{atom_in}
use Rattle.tp_syntax_ast.specs.Expressions.{word_expression, computed, expression_of}
use Rattle.tp_syntax_ast.specs.Conditions.{combined, is_term, simple, condition_of}
use Rattle.tp_syntax_ast.specs.Parts.{joined_of}
use Rattle.tp_syntax_ast.specs.Lists.{only, both, first_of}
use Rattle.tp_syntax_ast.specs.Effects.{atom_at, deleted, written, changed, simple_effect_of, specifier_at, specified_tree, specified, is_duration, limited, is_start, constraint_of}
use Rattle.tp_syntax_ast.specs.Actions.{fields_of, body_of, action_of}
use Rattle.tp_syntax_ast.specs.Domains.{defined, types_in, requirement_at, requirements_in, kind_and_name, named, objects_in, signature_at, signatures_of, numeric_signatures, sections_of, actions_in, domain_with, domain_of}
use Rattle.tp_syntax_ast.specs.Problems.{denied, valued, initial_list, initial_at, initial_of, goal_in, new_objects, stated, problem_with, own_name, once_each, problem_of}
use Rattle.tp_syntax_ast.specs.Problems as problems

abbrev match_domain : Shape
match_domain = node (shape (leaf (codes "define")) (shape (node (shape (leaf (codes "domain")) (shape (leaf (codes "match")) no_shapes))) (shape (node (shape (leaf (codes ":requirements")) (shape (leaf (codes ":typing")) (shape (leaf (codes ":durative-actions")) no_shapes)))) (shape (node (shape (leaf (codes ":types")) (shape (leaf (codes "match")) (shape (leaf (codes "fuse")) no_shapes)))) (shape (node (shape (leaf (codes ":predicates")) (shape (node (shape (leaf (codes "light")) no_shapes)) (shape (node (shape (leaf (codes "unused")) (shape (leaf (codes "?m")) (shape (leaf (codes "-")) (shape (leaf (codes "match")) no_shapes))))) (shape (node (shape (leaf (codes "mended")) (shape (leaf (codes "?f")) (shape (leaf (codes "-")) (shape (leaf (codes "fuse")) no_shapes))))) no_shapes))))) (shape (node (shape (leaf (codes ":durative-action")) (shape (leaf (codes "light-match")) (shape (leaf (codes ":parameters")) (shape (node (shape (leaf (codes "?m")) (shape (leaf (codes "-")) (shape (leaf (codes "match")) no_shapes)))) (shape (leaf (codes ":duration")) (shape (node (shape (leaf (codes "=")) (shape (leaf (codes "?duration")) (shape (leaf (codes "8")) no_shapes)))) (shape (leaf (codes ":condition")) (shape (node (shape (leaf (codes "and")) (shape (node (shape (leaf (codes "at")) (shape (leaf (codes "start")) (shape (node (shape (leaf (codes "unused")) (shape (leaf (codes "?m")) no_shapes))) no_shapes)))) no_shapes))) (shape (leaf (codes ":effect")) (shape (node (shape (leaf (codes "and")) (shape (node (shape (leaf (codes "at")) (shape (leaf (codes "start")) (shape (node (shape (leaf (codes "not")) (shape (node (shape (leaf (codes "unused")) (shape (leaf (codes "?m")) no_shapes))) no_shapes))) no_shapes)))) (shape (node (shape (leaf (codes "at")) (shape (leaf (codes "start")) (shape (node (shape (leaf (codes "light")) no_shapes)) no_shapes)))) (shape (node (shape (leaf (codes "at")) (shape (leaf (codes "end")) (shape (node (shape (leaf (codes "not")) (shape (node (shape (leaf (codes "light")) no_shapes)) no_shapes))) no_shapes)))) no_shapes))))) no_shapes))))))))))) (shape (node (shape (leaf (codes ":durative-action")) (shape (leaf (codes "mend-fuse")) (shape (leaf (codes ":parameters")) (shape (node (shape (leaf (codes "?f")) (shape (leaf (codes "-")) (shape (leaf (codes "fuse")) no_shapes)))) (shape (leaf (codes ":duration")) (shape (node (shape (leaf (codes "=")) (shape (leaf (codes "?duration")) (shape (leaf (codes "5")) no_shapes)))) (shape (leaf (codes ":condition")) (shape (node (shape (leaf (codes "over")) (shape (leaf (codes "all")) (shape (node (shape (leaf (codes "light")) no_shapes)) no_shapes)))) (shape (leaf (codes ":effect")) (shape (node (shape (leaf (codes "at")) (shape (leaf (codes "end")) (shape (node (shape (leaf (codes "mended")) (shape (leaf (codes "?f")) no_shapes))) no_shapes)))) no_shapes))))))))))) no_shapes)))))))

abbrev match_problem : Shape
match_problem = node (shape (leaf (codes "define")) (shape (node (shape (leaf (codes "problem")) (shape (leaf (codes "p")) no_shapes))) (shape (node (shape (leaf (codes ":domain")) (shape (leaf (codes "match")) no_shapes))) (shape (node (shape (leaf (codes ":objects")) (shape (leaf (codes "m1")) (shape (leaf (codes "-")) (shape (leaf (codes "match")) (shape (leaf (codes "f1")) (shape (leaf (codes "-")) (shape (leaf (codes "fuse")) no_shapes)))))))) (shape (node (shape (leaf (codes ":init")) (shape (node (shape (leaf (codes "unused")) (shape (leaf (codes "m1")) no_shapes))) no_shapes))) (shape (node (shape (leaf (codes ":goal")) (shape (node (shape (leaf (codes "mended")) (shape (leaf (codes "f1")) no_shapes))) no_shapes))) no_shapes))))))

match_is_spelled : is_some (domain_of match_domain >>= λ d. problem_of d match_problem) ≡ true
unfolding signed is_word name_of variable_of term_of term_at terms_of is_dash cond_word_of operator_of effect_word_of joint_of specifier_of key_of section_of problem_section_of atom_in word_expression computed expression_of item_at name_at names_of is_either either_of type_at typing_of typed_list parameters_of combined is_term simple condition_of joined_of only both atom_at deleted written changed simple_effect_of specifier_at specified_tree specified is_duration limited is_start constraint_of constraint_form_of fields_of body_of action_of types_in requirement_at requirements_in kind_and_name named objects_in signature_at signatures_of numeric_signatures sections_of actions_in domain_with domain_of problems.section_at problems.sections_of denied valued initial_list initial_at initial_of goal_in new_objects stated problem_with own_name once_each first_of defined problem_of
match_is_spelled = refl

abbrev toggle_domain : Shape
toggle_domain = node (shape (leaf (codes "define")) (shape (node (shape (leaf (codes "domain")) (shape (leaf (codes "toggle")) no_shapes))) (shape (node (shape (leaf (codes ":predicates")) (shape (node (shape (leaf (codes "p")) no_shapes)) (shape (node (shape (leaf (codes "q")) no_shapes)) (shape (node (shape (leaf (codes "done")) no_shapes)) no_shapes))))) (shape (node (shape (leaf (codes ":action")) (shape (leaf (codes "need")) (shape (leaf (codes ":parameters")) (shape (node no_shapes) (shape (leaf (codes ":precondition")) (shape (node (shape (leaf (codes "p")) no_shapes)) (shape (leaf (codes ":effect")) (shape (node (shape (leaf (codes "done")) no_shapes)) no_shapes))))))))) (shape (node (shape (leaf (codes ":action")) (shape (leaf (codes "drop")) (shape (leaf (codes ":parameters")) (shape (node no_shapes) (shape (leaf (codes ":effect")) (shape (node (shape (leaf (codes "not")) (shape (node (shape (leaf (codes "p")) no_shapes)) no_shapes))) no_shapes))))))) (shape (node (shape (leaf (codes ":action")) (shape (leaf (codes "give")) (shape (leaf (codes ":parameters")) (shape (node no_shapes) (shape (leaf (codes ":effect")) (shape (node (shape (leaf (codes "q")) no_shapes)) no_shapes))))))) (shape (node (shape (leaf (codes ":durative-action")) (shape (leaf (codes "watch")) (shape (leaf (codes ":parameters")) (shape (node no_shapes) (shape (leaf (codes ":duration")) (shape (node (shape (leaf (codes "=")) (shape (leaf (codes "?duration")) (shape (leaf (codes "5")) no_shapes)))) (shape (leaf (codes ":condition")) (shape (node (shape (leaf (codes "over")) (shape (leaf (codes "all")) (shape (node (shape (leaf (codes "or")) (shape (node (shape (leaf (codes "p")) no_shapes)) (shape (node (shape (leaf (codes "q")) no_shapes)) no_shapes)))) no_shapes)))) (shape (leaf (codes ":effect")) (shape (node (shape (leaf (codes "at")) (shape (leaf (codes "end")) (shape (node (shape (leaf (codes "done")) no_shapes)) no_shapes)))) no_shapes))))))))))) no_shapes)))))))

abbrev toggle_problem : Shape
toggle_problem = node (shape (leaf (codes "define")) (shape (node (shape (leaf (codes "problem")) (shape (leaf (codes "p")) no_shapes))) (shape (node (shape (leaf (codes ":domain")) (shape (leaf (codes "toggle")) no_shapes))) (shape (node (shape (leaf (codes ":init")) (shape (node (shape (leaf (codes "p")) no_shapes)) no_shapes))) (shape (node (shape (leaf (codes ":goal")) (shape (node (shape (leaf (codes "done")) no_shapes)) no_shapes))) no_shapes)))))

toggle_is_spelled : is_some (domain_of toggle_domain >>= λ d. problem_of d toggle_problem) ≡ true
unfolding signed is_word name_of variable_of term_of term_at terms_of is_dash cond_word_of operator_of effect_word_of joint_of specifier_of key_of section_of problem_section_of atom_in word_expression computed expression_of item_at name_at names_of is_either either_of type_at typing_of typed_list parameters_of combined is_term simple condition_of joined_of only both atom_at deleted written changed simple_effect_of specifier_at specified_tree specified is_duration limited is_start constraint_of constraint_form_of fields_of body_of action_of types_in requirement_at requirements_in kind_and_name named objects_in signature_at signatures_of numeric_signatures sections_of actions_in domain_with domain_of problems.section_at problems.sections_of denied valued initial_list initial_at initial_of goal_in new_objects stated problem_with own_name once_each first_of defined problem_of
toggle_is_spelled = refl

abbrev tank_domain : Shape
tank_domain = node (shape (leaf (codes "define")) (shape (node (shape (leaf (codes "domain")) (shape (leaf (codes "tank")) no_shapes))) (shape (node (shape (leaf (codes ":functions")) (shape (node (shape (leaf (codes "level")) no_shapes)) no_shapes))) (shape (node (shape (leaf (codes ":action")) (shape (leaf (codes "fill-a")) (shape (leaf (codes ":parameters")) (shape (node no_shapes) (shape (leaf (codes ":effect")) (shape (node (shape (leaf (codes "increase")) (shape (node (shape (leaf (codes "level")) no_shapes)) (shape (leaf (codes "1")) no_shapes)))) no_shapes))))))) (shape (node (shape (leaf (codes ":action")) (shape (leaf (codes "fill-b")) (shape (leaf (codes ":parameters")) (shape (node no_shapes) (shape (leaf (codes ":effect")) (shape (node (shape (leaf (codes "increase")) (shape (node (shape (leaf (codes "level")) no_shapes)) (shape (leaf (codes "2")) no_shapes)))) no_shapes))))))) (shape (node (shape (leaf (codes ":durative-action")) (shape (leaf (codes "hold")) (shape (leaf (codes ":parameters")) (shape (node no_shapes) (shape (leaf (codes ":duration")) (shape (node (shape (leaf (codes ">=")) (shape (leaf (codes "?duration")) (shape (leaf (codes "1")) no_shapes)))) (shape (leaf (codes ":condition")) (shape (node (shape (leaf (codes "over")) (shape (leaf (codes "all")) (shape (node (shape (leaf (codes "<=")) (shape (node (shape (leaf (codes "level")) no_shapes)) (shape (leaf (codes "3")) no_shapes)))) no_shapes)))) (shape (leaf (codes ":effect")) (shape (node no_shapes) no_shapes))))))))))) no_shapes))))))

abbrev tank_problem : Shape
tank_problem = node (shape (leaf (codes "define")) (shape (node (shape (leaf (codes "problem")) (shape (leaf (codes "p")) no_shapes))) (shape (node (shape (leaf (codes ":domain")) (shape (leaf (codes "tank")) no_shapes))) (shape (node (shape (leaf (codes ":init")) (shape (node (shape (leaf (codes "=")) (shape (node (shape (leaf (codes "level")) no_shapes)) (shape (leaf (codes "0")) no_shapes)))) no_shapes))) (shape (node (shape (leaf (codes ":goal")) (shape (node (shape (leaf (codes ">=")) (shape (node (shape (leaf (codes "level")) no_shapes)) (shape (leaf (codes "3")) no_shapes)))) no_shapes))) no_shapes)))))

tank_is_spelled : is_some (domain_of tank_domain >>= λ d. problem_of d tank_problem) ≡ true
unfolding signed is_word name_of variable_of term_of term_at terms_of is_dash cond_word_of operator_of effect_word_of joint_of specifier_of key_of section_of problem_section_of atom_in word_expression computed expression_of item_at name_at names_of is_either either_of type_at typing_of typed_list parameters_of combined is_term simple condition_of joined_of only both atom_at deleted written changed simple_effect_of specifier_at specified_tree specified is_duration limited is_start constraint_of constraint_form_of fields_of body_of action_of types_in requirement_at requirements_in kind_and_name named objects_in signature_at signatures_of numeric_signatures sections_of actions_in domain_with domain_of problems.section_at problems.sections_of denied valued initial_list initial_at initial_of goal_in new_objects stated problem_with own_name once_each first_of defined problem_of
tank_is_spelled = refl

abbrev charge_domain : Shape
charge_domain = node (shape (leaf (codes "define")) (shape (node (shape (leaf (codes "domain")) (shape (leaf (codes "charge")) no_shapes))) (shape (node (shape (leaf (codes ":predicates")) (shape (node (shape (leaf (codes "full")) no_shapes)) no_shapes))) (shape (node (shape (leaf (codes ":functions")) (shape (node (shape (leaf (codes "e")) no_shapes)) no_shapes))) (shape (node (shape (leaf (codes ":durative-action")) (shape (leaf (codes "charge")) (shape (leaf (codes ":parameters")) (shape (node no_shapes) (shape (leaf (codes ":duration")) (shape (node (shape (leaf (codes "and")) (shape (node (shape (leaf (codes ">=")) (shape (leaf (codes "?duration")) (shape (leaf (codes "2")) no_shapes)))) (shape (node (shape (leaf (codes "<=")) (shape (leaf (codes "?duration")) (shape (leaf (codes "6")) no_shapes)))) no_shapes)))) (shape (leaf (codes ":effect")) (shape (node (shape (leaf (codes "at")) (shape (leaf (codes "end")) (shape (node (shape (leaf (codes "increase")) (shape (node (shape (leaf (codes "e")) no_shapes)) (shape (node (shape (leaf (codes "*")) (shape (leaf (codes "?duration")) (shape (leaf (codes "2")) no_shapes)))) no_shapes)))) no_shapes)))) no_shapes))))))))) (shape (node (shape (leaf (codes ":durative-action")) (shape (leaf (codes "rest")) (shape (leaf (codes ":parameters")) (shape (node no_shapes) (shape (leaf (codes ":duration")) (shape (node (shape (leaf (codes "and")) (shape (node (shape (leaf (codes ">=")) (shape (leaf (codes "?duration")) (shape (leaf (codes "2")) no_shapes)))) (shape (node (shape (leaf (codes "<=")) (shape (leaf (codes "?duration")) (shape (leaf (codes "6")) no_shapes)))) no_shapes)))) (shape (leaf (codes ":effect")) (shape (node (shape (leaf (codes "at")) (shape (leaf (codes "end")) (shape (node (shape (leaf (codes "full")) no_shapes)) no_shapes)))) no_shapes))))))))) no_shapes))))))

abbrev charge_problem : Shape
charge_problem = node (shape (leaf (codes "define")) (shape (node (shape (leaf (codes "problem")) (shape (leaf (codes "p")) no_shapes))) (shape (node (shape (leaf (codes ":domain")) (shape (leaf (codes "charge")) no_shapes))) (shape (node (shape (leaf (codes ":init")) (shape (node (shape (leaf (codes "=")) (shape (node (shape (leaf (codes "e")) no_shapes)) (shape (leaf (codes "0")) no_shapes)))) no_shapes))) (shape (node (shape (leaf (codes ":goal")) (shape (node (shape (leaf (codes "or")) (shape (node (shape (leaf (codes ">=")) (shape (node (shape (leaf (codes "e")) no_shapes)) (shape (leaf (codes "8")) no_shapes)))) (shape (node (shape (leaf (codes "full")) no_shapes)) no_shapes)))) no_shapes))) no_shapes)))))

charge_is_spelled : is_some (domain_of charge_domain >>= λ d. problem_of d charge_problem) ≡ true
unfolding signed is_word name_of variable_of term_of term_at terms_of is_dash cond_word_of operator_of effect_word_of joint_of specifier_of key_of section_of problem_section_of atom_in word_expression computed expression_of item_at name_at names_of is_either either_of type_at typing_of typed_list parameters_of combined is_term simple condition_of joined_of only both atom_at deleted written changed simple_effect_of specifier_at specified_tree specified is_duration limited is_start constraint_of constraint_form_of fields_of body_of action_of types_in requirement_at requirements_in kind_and_name named objects_in signature_at signatures_of numeric_signatures sections_of actions_in domain_with domain_of problems.section_at problems.sections_of denied valued initial_list initial_at initial_of goal_in new_objects stated problem_with own_name once_each first_of defined problem_of
charge_is_spelled = refl

abbrev with_when : Shape
with_when = node (shape (leaf (codes "define")) (shape (node (shape (leaf (codes "domain")) (shape (leaf (codes "d")) no_shapes))) (shape (node (shape (leaf (codes ":predicates")) (shape (node (shape (leaf (codes "p")) no_shapes)) (shape (node (shape (leaf (codes "q")) no_shapes)) no_shapes)))) (shape (node (shape (leaf (codes ":action")) (shape (leaf (codes "a")) (shape (leaf (codes ":parameters")) (shape (node no_shapes) (shape (leaf (codes ":effect")) (shape (node (shape (leaf (codes "when")) (shape (node (shape (leaf (codes "p")) no_shapes)) (shape (node (shape (leaf (codes "q")) no_shapes)) no_shapes)))) no_shapes))))))) no_shapes))))

with_when-is_none : domain_of with_when ≡ None
unfolding signed is_word name_of variable_of term_of term_at terms_of is_dash cond_word_of operator_of effect_word_of joint_of specifier_of key_of section_of problem_section_of atom_in word_expression computed expression_of item_at name_at names_of is_either either_of type_at typing_of typed_list parameters_of combined is_term simple condition_of joined_of only both atom_at deleted written changed simple_effect_of specifier_at specified_tree specified is_duration limited is_start constraint_of constraint_form_of fields_of body_of action_of types_in requirement_at requirements_in kind_and_name named objects_in signature_at signatures_of numeric_signatures sections_of actions_in domain_with domain_of problems.section_at problems.sections_of denied valued initial_list initial_at initial_of goal_in new_objects stated problem_with own_name once_each first_of defined problem_of
with_when-is_none = refl

abbrev unknown_atom : Shape
unknown_atom = node (shape (leaf (codes "define")) (shape (node (shape (leaf (codes "domain")) (shape (leaf (codes "d")) no_shapes))) (shape (node (shape (leaf (codes ":predicates")) (shape (node (shape (leaf (codes "p")) no_shapes)) (shape (node (shape (leaf (codes "q")) no_shapes)) no_shapes)))) (shape (node (shape (leaf (codes ":action")) (shape (leaf (codes "a")) (shape (leaf (codes ":parameters")) (shape (node no_shapes) (shape (leaf (codes ":effect")) (shape (node (shape (leaf (codes "r")) no_shapes)) no_shapes))))))) no_shapes))))

unknown_atom-is_none : domain_of unknown_atom ≡ None
unfolding signed is_word name_of variable_of term_of term_at terms_of is_dash cond_word_of operator_of effect_word_of joint_of specifier_of key_of section_of problem_section_of atom_in word_expression computed expression_of item_at name_at names_of is_either either_of type_at typing_of typed_list parameters_of combined is_term simple condition_of joined_of only both atom_at deleted written changed simple_effect_of specifier_at specified_tree specified is_duration limited is_start constraint_of constraint_form_of fields_of body_of action_of types_in requirement_at requirements_in kind_and_name named objects_in signature_at signatures_of numeric_signatures sections_of actions_in domain_with domain_of problems.section_at problems.sections_of denied valued initial_list initial_at initial_of goal_in new_objects stated problem_with own_name once_each first_of defined problem_of
unknown_atom-is_none = refl

abbrev field_twice : Shape
field_twice = node (shape (leaf (codes "define")) (shape (node (shape (leaf (codes "domain")) (shape (leaf (codes "d")) no_shapes))) (shape (node (shape (leaf (codes ":predicates")) (shape (node (shape (leaf (codes "p")) no_shapes)) (shape (node (shape (leaf (codes "q")) no_shapes)) no_shapes)))) (shape (node (shape (leaf (codes ":action")) (shape (leaf (codes "a")) (shape (leaf (codes ":parameters")) (shape (node no_shapes) (shape (leaf (codes ":effect")) (shape (node (shape (leaf (codes "p")) no_shapes)) (shape (leaf (codes ":effect")) (shape (node (shape (leaf (codes "q")) no_shapes)) no_shapes))))))))) no_shapes))))

field_twice-is_none : domain_of field_twice ≡ None
unfolding signed is_word name_of variable_of term_of term_at terms_of is_dash cond_word_of operator_of effect_word_of joint_of specifier_of key_of section_of problem_section_of atom_in word_expression computed expression_of item_at name_at names_of is_either either_of type_at typing_of typed_list parameters_of combined is_term simple condition_of joined_of only both atom_at deleted written changed simple_effect_of specifier_at specified_tree specified is_duration limited is_start constraint_of constraint_form_of fields_of body_of action_of types_in requirement_at requirements_in kind_and_name named objects_in signature_at signatures_of numeric_signatures sections_of actions_in domain_with domain_of problems.section_at problems.sections_of denied valued initial_list initial_at initial_of goal_in new_objects stated problem_with own_name once_each first_of defined problem_of
field_twice-is_none = refl

abbrev section_twice : Shape
section_twice = node (shape (leaf (codes "define")) (shape (node (shape (leaf (codes "domain")) (shape (leaf (codes "d")) no_shapes))) (shape (node (shape (leaf (codes ":predicates")) (shape (node (shape (leaf (codes "p")) no_shapes)) (shape (node (shape (leaf (codes "q")) no_shapes)) no_shapes)))) (shape (node (shape (leaf (codes ":predicates")) (shape (node (shape (leaf (codes "p")) no_shapes)) (shape (node (shape (leaf (codes "q")) no_shapes)) no_shapes)))) no_shapes))))

section_twice-is_none : domain_of section_twice ≡ None
unfolding signed is_word name_of variable_of term_of term_at terms_of is_dash cond_word_of operator_of effect_word_of joint_of specifier_of key_of section_of problem_section_of atom_in word_expression computed expression_of item_at name_at names_of is_either either_of type_at typing_of typed_list parameters_of combined is_term simple condition_of joined_of only both atom_at deleted written changed simple_effect_of specifier_at specified_tree specified is_duration limited is_start constraint_of constraint_form_of fields_of body_of action_of types_in requirement_at requirements_in kind_and_name named objects_in signature_at signatures_of numeric_signatures sections_of actions_in domain_with domain_of problems.section_at problems.sections_of denied valued initial_list initial_at initial_of goal_in new_objects stated problem_with own_name once_each first_of defined problem_of
section_twice-is_none = refl

abbrev cycle : Shape
cycle = node (shape (leaf (codes "define")) (shape (node (shape (leaf (codes "domain")) (shape (leaf (codes "d")) no_shapes))) (shape (node (shape (leaf (codes ":types")) (shape (leaf (codes "a")) (shape (leaf (codes "-")) (shape (leaf (codes "b")) (shape (leaf (codes "b")) (shape (leaf (codes "-")) (shape (leaf (codes "a")) no_shapes)))))))) no_shapes)))

cycle-is_none : domain_of cycle ≡ None
unfolding signed is_word name_of variable_of term_of term_at terms_of is_dash cond_word_of operator_of effect_word_of joint_of specifier_of key_of section_of problem_section_of atom_in word_expression computed expression_of item_at name_at names_of is_either either_of type_at typing_of typed_list parameters_of combined is_term simple condition_of joined_of only both atom_at deleted written changed simple_effect_of specifier_at specified_tree specified is_duration limited is_start constraint_of constraint_form_of fields_of body_of action_of types_in requirement_at requirements_in kind_and_name named objects_in signature_at signatures_of numeric_signatures sections_of actions_in domain_with domain_of problems.section_at problems.sections_of denied valued initial_list initial_at initial_of goal_in new_objects stated problem_with own_name once_each first_of defined problem_of
cycle-is_none = refl

abbrev empty_one : Shape
empty_one = node (shape (leaf (codes "define")) (shape (node (shape (leaf (codes "domain")) (shape (leaf (codes "d")) no_shapes))) no_shapes))

empty_one-is_spelled : is_some (domain_of empty_one) ≡ true
unfolding signed is_word name_of variable_of term_of term_at terms_of is_dash cond_word_of operator_of effect_word_of joint_of specifier_of key_of section_of problem_section_of atom_in word_expression computed expression_of item_at name_at names_of is_either either_of type_at typing_of typed_list parameters_of combined is_term simple condition_of joined_of only both atom_at deleted written changed simple_effect_of specifier_at specified_tree specified is_duration limited is_start constraint_of constraint_form_of fields_of body_of action_of types_in requirement_at requirements_in kind_and_name named objects_in signature_at signatures_of numeric_signatures sections_of actions_in domain_with domain_of problems.section_at problems.sections_of denied valued initial_list initial_at initial_of goal_in new_objects stated problem_with own_name once_each first_of defined problem_of
empty_one-is_spelled = refl

abbrev late_types : Shape
late_types = node (shape (leaf (codes "define")) (shape (node (shape (leaf (codes "domain")) (shape (leaf (codes "d")) no_shapes))) (shape (node (shape (leaf (codes ":action")) (shape (leaf (codes "a")) (shape (leaf (codes ":parameters")) (shape (node no_shapes) (shape (leaf (codes ":effect")) (shape (node (shape (leaf (codes "p")) no_shapes)) no_shapes))))))) (shape (node (shape (leaf (codes ":predicates")) (shape (node (shape (leaf (codes "p")) no_shapes)) (shape (node (shape (leaf (codes "q")) no_shapes)) no_shapes)))) (shape (node (shape (leaf (codes ":types")) (shape (leaf (codes "a")) (shape (leaf (codes "-")) (shape (leaf (codes "b")) (shape (leaf (codes "object")) no_shapes)))))) no_shapes)))))

late_types-is_spelled : is_some (domain_of late_types) ≡ true
unfolding signed is_word name_of variable_of term_of term_at terms_of is_dash cond_word_of operator_of effect_word_of joint_of specifier_of key_of section_of problem_section_of atom_in word_expression computed expression_of item_at name_at names_of is_either either_of type_at typing_of typed_list parameters_of combined is_term simple condition_of joined_of only both atom_at deleted written changed simple_effect_of specifier_at specified_tree specified is_duration limited is_start constraint_of constraint_form_of fields_of body_of action_of types_in requirement_at requirements_in kind_and_name named objects_in signature_at signatures_of numeric_signatures sections_of actions_in domain_with domain_of problems.section_at problems.sections_of denied valued initial_list initial_at initial_of goal_in new_objects stated problem_with own_name once_each first_of defined problem_of
late_types-is_spelled = refl

abbrev quantified : Shape
quantified = node (shape (leaf (codes "define")) (shape (node (shape (leaf (codes "domain")) (shape (leaf (codes "d")) no_shapes))) (shape (node (shape (leaf (codes ":predicates")) (shape (node (shape (leaf (codes "p")) no_shapes)) (shape (node (shape (leaf (codes "q")) no_shapes)) no_shapes)))) (shape (node (shape (leaf (codes ":types")) (shape (leaf (codes "t")) no_shapes))) (shape (node (shape (leaf (codes ":constants")) (shape (leaf (codes "c")) (shape (leaf (codes "-")) (shape (leaf (codes "t")) no_shapes))))) (shape (node (shape (leaf (codes ":action")) (shape (leaf (codes "a")) (shape (leaf (codes ":parameters")) (shape (node no_shapes) (shape (leaf (codes ":precondition")) (shape (node (shape (leaf (codes "exists")) (shape (node (shape (leaf (codes "?x")) (shape (leaf (codes "-")) (shape (leaf (codes "t")) no_shapes)))) (shape (node (shape (leaf (codes "and")) (shape (node (shape (leaf (codes "=")) (shape (leaf (codes "?x")) (shape (leaf (codes "c")) no_shapes)))) (shape (node (shape (leaf (codes "p")) no_shapes)) no_shapes)))) no_shapes)))) (shape (leaf (codes ":effect")) (shape (node (shape (leaf (codes "forall")) (shape (node (shape (leaf (codes "?x")) (shape (leaf (codes "-")) (shape (node (shape (leaf (codes "either")) (shape (leaf (codes "t")) (shape (leaf (codes "object")) no_shapes)))) no_shapes)))) (shape (node (shape (leaf (codes "not")) (shape (node (shape (leaf (codes "p")) no_shapes)) no_shapes))) no_shapes)))) no_shapes))))))))) no_shapes))))))

quantified-is_spelled : is_some (domain_of quantified) ≡ true
unfolding signed is_word name_of variable_of term_of term_at terms_of is_dash cond_word_of operator_of effect_word_of joint_of specifier_of key_of section_of problem_section_of atom_in word_expression computed expression_of item_at name_at names_of is_either either_of type_at typing_of typed_list parameters_of combined is_term simple condition_of joined_of only both atom_at deleted written changed simple_effect_of specifier_at specified_tree specified is_duration limited is_start constraint_of constraint_form_of fields_of body_of action_of types_in requirement_at requirements_in kind_and_name named objects_in signature_at signatures_of numeric_signatures sections_of actions_in domain_with domain_of problems.section_at problems.sections_of denied valued initial_list initial_at initial_of goal_in new_objects stated problem_with own_name once_each first_of defined problem_of
quantified-is_spelled = refl
