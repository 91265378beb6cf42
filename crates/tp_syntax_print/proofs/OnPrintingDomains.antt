-- A domain that was read is read again from what is printed.
use Rattle.std.proofs.Common.{◌≡◌, ℕ, List, [], ◌∷◌, ◌++◌, map, Bool, true, false, cond, ◌&&◌, ◌||◌, not, eqb, Option, Some, option_map, codes, refl, sym, ap, ◌∙◌, subst}
use Rattle.std.specs.List.{list_any, AllByRecursion}
use Rattle.tp_text.specs.Shapes.{Shape, leaf, node, Shapes, no_shapes, shape}
use Rattle.tp_text.specs.Texts.{HasWords, AllHaveWords}
use Rattle.tp_syntax_ast.specs.Gives.{◌>>=◌, provided}
use Rattle.tp_syntax_ast.specs.Words.{is_word, section_of}
use Rattle.tp_syntax_ast.specs.Lists.{only, both}
use Rattle.tp_syntax_ast.specs.Terms.{name_of}
use Rattle.tp_syntax_ast.specs.Symbols.{Name, Declared, Parent, SignatureView, Symbols}
use Rattle.tp_syntax_ast.specs.TypedLists.{has_twice}
use Rattle.tp_syntax_ast.specs.Actions.{Action, Body, instant, durative, action_of}
use Rattle.tp_syntax_ast.specs.Domains.{Domain, types_in, requirements_in, objects_in, signatures_of, numeric_signatures, named_once, SectionBody, sections_of, section_number, is_section, section, is_action, each_once, action_at, actions_in, domain_with, kind_and_name, named, domain_of}
use Rattle.tp_syntax_print.specs.Printing.{name_shapes, typed_shapes, type_shapes, signature_shapes, body_word, field_shapes, action_shape, action_shapes, section_before, section_shapes, domain_shape}
use Rattle.tp_syntax_ast.specs.declared.words.Section.{Section}
use Rattle.tp_syntax_ast.specs.declared.words.Section.TheVariants.{Requirements, Types, Constants, Predicates, Functions}
use Rattle.tp_syntax_ast.specs.declared.words.Section.TheVariants as sections
use Rattle.tp_syntax_print.proofs.OnPrintingWords.{some_is, bind_some, map_some, provided_some, no_some, cond_some, IsName, name_read, name_again, name_word, keyword}
use Rattle.tp_syntax_print.proofs.OnPrintingLists.{objects_again}
use Rattle.tp_syntax_print.proofs.OnPrintingTypes.{types_again}
use Rattle.tp_syntax_print.proofs.OnPrintingSignatures.{requirements_again, predicates_again, functions_again}
use Rattle.tp_syntax_print.proofs.OnPrintingActions.{lasts, action_again}

-- ---- actions

abbrev body_section : Body → Section
body_section (instant c e) = sections.Action
body_section (durative r c e) = sections.DurativeAction

abbrev action_part : Action → SectionBody
action_part a = record { section = body_section a.body; body = shape (leaf a.name) (field_shapes a) }

abbrev action_parts : List Action → List SectionBody
action_parts as_ = map action_part as_

record ActionReads (σ : Symbols) (a : Action) : Type 0 where
  again : action_at σ (body_section a.body) (shape (leaf a.name) (field_shapes a)) ≡ Some (a ∷ [])
  words : HasWords (action_shape a)

from_body : (σ : Symbols) (b : Body) (ss : Shapes) (a : Action) → action_of σ (lasts b) ss ≡ Some a → action_at σ (body_section b) ss ≡ Some (a ∷ [])
from_body σ (instant c e) ss a h = ap (option_map (λ x. x ∷ [])) h
from_body σ (durative r c e) ss a h = ap (option_map (λ x. x ∷ [])) h

action_reads : (σ : Symbols) (d : Bool) (ss : Shapes) (front : List Action) → option_map (λ x. x ∷ []) (action_of σ d ss) ≡ Some front → AllByRecursion (ActionReads σ) front
action_reads σ d ss front h =
    let m = map_some (λ x. x ∷ []) (action_of σ d ss) front h in
    let a = (action_again σ d ss m.0 m.1).1 in
    subst (AllByRecursion (ActionReads σ)) m.2 (record { again = from_body σ m.0.body (shape (leaf m.0.name) (field_shapes m.0)) m.0 a.again; words = a.words }, tt)

part_reads : (σ : Symbols) (k : Section) (ss : Shapes) (front : List Action) → action_at σ k ss ≡ Some front → AllByRecursion (ActionReads σ) front
part_reads σ sections.Action ss front h = action_reads σ false ss front h
part_reads σ sections.DurativeAction ss front h = action_reads σ true ss front h
part_reads σ Requirements ss front h = subst (AllByRecursion (ActionReads σ)) (some_is [] front h) tt
part_reads σ Types ss front h = subst (AllByRecursion (ActionReads σ)) (some_is [] front h) tt
part_reads σ Constants ss front h = subst (AllByRecursion (ActionReads σ)) (some_is [] front h) tt
part_reads σ Predicates ss front h = subst (AllByRecursion (ActionReads σ)) (some_is [] front h) tt
part_reads σ Functions ss front h = subst (AllByRecursion (ActionReads σ)) (some_is [] front h) tt

both_read : (σ : Symbols) (xs ys : List Action) → AllByRecursion (ActionReads σ) xs → AllByRecursion (ActionReads σ) ys → AllByRecursion (ActionReads σ) (xs ++ ys)
both_read σ [] ys h k = k
both_read σ (x ∷ xs) ys h k = (h.0, both_read σ xs ys h.1 k)

actions_read : (σ : Symbols) (ps : List SectionBody) (all : List Action) → actions_in σ ps ≡ Some all → AllByRecursion (ActionReads σ) all
unfolding actions_in
actions_read σ [] all h = subst (AllByRecursion (ActionReads σ)) (some_is [] all h) tt
actions_read σ (p ∷ ps) all h =
    let b = bind_some (action_at σ p.section p.body) (λ front. option_map (λ more. front ++ more) (actions_in σ ps)) all h in
    let m = map_some (λ more. b.0 ++ more) (actions_in σ ps) all b.2 in
    subst (AllByRecursion (ActionReads σ)) m.2 (both_read σ b.0 m.0 (part_reads σ p.section p.body b.0 b.1) (actions_read σ ps m.0 m.1))

actions_again : (σ : Symbols) (all : List Action) → AllByRecursion (ActionReads σ) all → actions_in σ (action_parts all) ≡ Some all
unfolding actions_in
actions_again σ [] h = refl
actions_again σ (a ∷ all) h =
    ap (λ o. o >>= λ front. option_map (λ more. front ++ more) (actions_in σ (action_parts all))) h.0.again
    ∙ ap (option_map (λ more. a ∷ more)) (actions_again σ all h.1)

action_words : (σ : Symbols) (all : List Action) → AllByRecursion (ActionReads σ) all → AllHaveWords (action_shapes all)
action_words σ [] h = tt
action_words σ (a ∷ all) h = (h.0.words, action_words σ all h.1)

-- ---- the sections that are printed

abbrev part_before : Section → Shapes → List SectionBody → List SectionBody
part_before k no_shapes ps = ps
part_before k (shape s ss) ps = record { section = k; body = shape s ss } ∷ ps

body_section_word : (b : Body) → section_of (body_word b) ≡ Some (body_section b)
unfolding section_of is_word
body_section_word (instant c e) = refl
body_section_word (durative r c e) = refl

action_sections : (all : List Action) → sections_of (action_shapes all) ≡ Some (action_parts all)
unfolding sections_of
action_sections [] = refl
action_sections (a ∷ all) =
    ap (λ o. o >>= λ k. option_map (λ ps. record { section = k; body = shape (leaf a.name) (field_shapes a) } ∷ ps) (sections_of (action_shapes all))) (body_section_word a.body)
    ∙ ap (option_map (λ ps. action_part a ∷ ps)) (action_sections all)

sections_before : (w : List ℕ) (k : Section) (ss rest : Shapes) (ps : List SectionBody) → section_of w ≡ Some k → sections_of rest ≡ Some ps → sections_of (section_before w ss rest) ≡ Some (part_before k ss ps)
unfolding sections_of
sections_before w k no_shapes rest ps is more = more
sections_before w k (shape s ss) rest ps is more =
    ap (λ o. o >>= λ j. option_map (λ qs. record { section = j; body = shape s ss } ∷ qs) (sections_of rest)) is
    ∙ ap (option_map (λ qs. record { section = k; body = shape s ss } ∷ qs)) more

requirements_word : section_of (codes ":requirements") ≡ Some Requirements
unfolding section_of is_word
requirements_word = refl

types_word : section_of (codes ":types") ≡ Some Types
unfolding section_of is_word
types_word = refl

constants_word : section_of (codes ":constants") ≡ Some Constants
unfolding section_of is_word
constants_word = refl

predicates_word : section_of (codes ":predicates") ≡ Some Predicates
unfolding section_of is_word
predicates_word = refl

functions_word : section_of (codes ":functions") ≡ Some Functions
unfolding section_of is_word
functions_word = refl

-- ---- each section is found

abbrev IsOther : Section → Type 0
IsOther k = (is_action k ≡ false) × (eqb 5 (section_number k) ≡ false) × (eqb 6 (section_number k) ≡ false)

not_body : (k : Section) (b : Body) → IsOther k → eqb (section_number (body_section b)) (section_number k) ≡ false
not_body k (instant c e) o = o.1
not_body k (durative r c e) o = o.2

no_action_has : (k : Section) (all : List Action) → IsOther k → list_any (is_section k) (action_parts all) ≡ false
no_action_has k [] o = refl
no_action_has k (a ∷ all) o = ap (λ (b : Bool). b || list_any (is_section k) (action_parts all)) (not_body k a.body o) ∙ no_action_has k all o

missing_before : (k j : Section) (ss : Shapes) (ps : List SectionBody) → eqb (section_number j) (section_number k) ≡ false → list_any (is_section k) ps ≡ false → list_any (is_section k) (part_before j ss ps) ≡ false
missing_before k j no_shapes ps other h = h
missing_before k j (shape s ss) ps other h = ap (λ (b : Bool). b || list_any (is_section k) ps) other ∙ h

missing_section : (k : Section) (ps : List SectionBody) → list_any (is_section k) ps ≡ false → section k ps ≡ no_shapes
missing_section k [] h = refl
missing_section k (p ∷ ps) h = by_test (is_section k p) p ps h (missing_section k ps) where
  by_test : (b : Bool) (p : SectionBody) (ps : List SectionBody) → (b || list_any (is_section k) ps) ≡ false → (list_any (is_section k) ps ≡ false → section k ps ≡ no_shapes) → cond b p.body (section k ps) ≡ no_shapes
  by_test true p ps h rest = absurd (let f : true ≡ false = h in cc)
  by_test false p ps h rest = rest h

same_number : (k : Section) → eqb (section_number k) (section_number k) ≡ true
same_number Requirements = refl
same_number Types = refl
same_number Constants = refl
same_number Predicates = refl
same_number Functions = refl
same_number sections.Action = refl
same_number sections.DurativeAction = refl

found : (k : Section) (ss : Shapes) (ps : List SectionBody) → list_any (is_section k) ps ≡ false → section k (part_before k ss ps) ≡ ss
found k no_shapes ps h = missing_section k ps h
found k (shape s ss) ps h = ap (λ (b : Bool). cond b (shape s ss) (section k ps)) (same_number k)

passed : (k j : Section) (ss : Shapes) (ps : List SectionBody) → eqb (section_number j) (section_number k) ≡ false → section k (part_before j ss ps) ≡ section k ps
passed k j no_shapes ps other = refl
passed k j (shape s ss) ps other = ap (λ (b : Bool). cond b (shape s ss) (section k ps)) other

or_not : (a b : Bool) → b ≡ false → (a || not b) ≡ true
or_not true b h = refl
or_not false b h = ap not h

once_before : (k : Section) (ss : Shapes) (ps : List SectionBody) → list_any (is_section k) ps ≡ false → each_once ps ≡ true → each_once (part_before k ss ps) ≡ true
once_before k no_shapes ps h once = once
once_before k (shape s ss) ps h once = ap (λ (b : Bool). b && each_once ps) (or_not (is_action k) (list_any (is_section k) ps) h) ∙ once

body_is_action : (b : Body) → is_action (body_section b) ≡ true
body_is_action (instant c e) = refl
body_is_action (durative r c e) = refl

actions_once : (all : List Action) → each_once (action_parts all) ≡ true
actions_once [] = refl
actions_once (a ∷ all) = ap (λ (b : Bool). (b || not (list_any (is_section (body_section a.body)) (action_parts all))) && each_once (action_parts all)) (body_is_action a.body) ∙ actions_once all

no_action_at : (σ : Symbols) (k : Section) (ss : Shapes) → is_action k ≡ false → action_at σ k ss ≡ Some []
no_action_at σ Requirements ss h = refl
no_action_at σ Types ss h = refl
no_action_at σ Constants ss h = refl
no_action_at σ Predicates ss h = refl
no_action_at σ Functions ss h = refl
no_action_at σ sections.Action ss h = absurd (let f : true ≡ false = h in cc)
no_action_at σ sections.DurativeAction ss h = absurd (let f : true ≡ false = h in cc)

actions_before : (σ : Symbols) (k : Section) (ss : Shapes) (ps : List SectionBody) (all : List Action) → is_action k ≡ false → actions_in σ ps ≡ Some all → actions_in σ (part_before k ss ps) ≡ Some all
unfolding actions_in
actions_before σ k no_shapes ps all other h = h
actions_before σ k (shape s ss) ps all other h =
    ap (λ o. o >>= λ front. option_map (λ more. front ++ more) (actions_in σ ps)) (no_action_at σ k (shape s ss) other)
    ∙ ap (option_map (λ more. more)) h

words_before : (w : List ℕ) (ss rest : Shapes) → HasWords (leaf w) → AllHaveWords ss → AllHaveWords rest → AllHaveWords (section_before w ss rest)
words_before w no_shapes rest word h k = k
words_before w (shape s ss) rest word h k = ((word, h), k)

-- ---- all of it

abbrev made : Name → List Name → List Parent → List Declared → List SignatureView → List SignatureView → List Action → Domain
made n r t c p f all = record { name = n; requirements = r; types = t; constants = c; predicates = p; functions = f; actions = all }

abbrev symbols : List Parent → List Declared → List SignatureView → List SignatureView → Symbols
symbols t c p f = record { types = t; objects = c; predicates = p; functions = f }

abbrev after_actions : Name → List Name → List Parent → List Declared → List SignatureView → List SignatureView → List Action → Option Domain
after_actions n r t c p f all = provided (not (has_twice (map (λ a. a.name) all))) (made n r t c p f all)

abbrev after_functions : Name → List SectionBody → List Name → List Parent → List Declared → List SignatureView → List SignatureView → Option Domain
after_functions n ps r t c p f = actions_in (symbols t c p f) ps >>= λ all. after_actions n r t c p f all

abbrev after_predicates : Name → List SectionBody → List Name → List Parent → List Declared → List SignatureView → Option Domain
after_predicates n ps r t c p = (numeric_signatures t false (section Functions ps) >>= named_once) >>= λ f. after_functions n ps r t c p f

abbrev after_constants : Name → List SectionBody → List Name → List Parent → List Declared → Option Domain
after_constants n ps r t c = (signatures_of t (section Predicates ps) >>= named_once) >>= λ p. after_predicates n ps r t c p

abbrev after_types : Name → List SectionBody → List Name → List Parent → Option Domain
after_types n ps r t = objects_in t (section Constants ps) >>= λ c. after_constants n ps r t c

abbrev after_requirements : Name → List SectionBody → List Name → Option Domain
after_requirements n ps r = types_in (section Types ps) >>= λ t. after_types n ps r t

domain_is : (n : Name) (ps : List SectionBody) → domain_with n ps ≡ (requirements_in (section Requirements ps) >>= λ r. after_requirements n ps r)
unfolding domain_with
domain_is n ps = refl

record DomainAgain (d : Domain) : Type 0 where
  again : domain_of (domain_shape d) ≡ Some d
  words : HasWords (domain_shape d)

section_words : (k : Section) (ps : List SectionBody) → AllByRecursion (λ p. AllHaveWords p.body) ps → AllHaveWords (section k ps)
section_words k [] h = tt
section_words k (p ∷ ps) h = chosen (is_section k p) h.0 (section_words k ps h.1) where
  chosen : (b : Bool) → AllHaveWords p.body → AllHaveWords (section k ps) → AllHaveWords (cond b p.body (section k ps))
  chosen true x y = x
  chosen false x y = y

parts_words : (ss : Shapes) (ps : List SectionBody) → AllHaveWords ss → sections_of ss ≡ Some ps → AllByRecursion (λ p. AllHaveWords p.body) ps
unfolding sections_of
parts_words no_shapes ps words h = subst (AllByRecursion (λ p. AllHaveWords p.body)) (some_is [] ps h) tt
parts_words (shape (leaf w) rest) ps words h = no_some h
parts_words (shape (node no_shapes) rest) ps words h = no_some h
parts_words (shape (node (shape (node ss) body)) rest) ps words h = no_some h
parts_words (shape (node (shape (leaf w) body)) rest) ps words h =
    let b = bind_some (section_of w) (λ k. option_map (λ qs. record { section = k; body = body } ∷ qs) (sections_of rest)) ps h in
    let m = map_some (λ qs. record { section = b.0; body = body } ∷ qs) (sections_of rest) ps b.2 in
    subst (AllByRecursion (λ p. AllHaveWords p.body)) m.2 (words.0.1, parts_words rest m.0 words.1 m.1)

module _ (n : Name) (r : List Name) (t : List Parent) (c : List Declared) (p : List SignatureView) (f : List SignatureView) (all : List Action) where
  from_functions : List SectionBody
  from_functions = part_before Functions (signature_shapes f) (action_parts all)

  from_predicates : List SectionBody
  from_predicates = part_before Predicates (signature_shapes p) from_functions

  from_constants : List SectionBody
  from_constants = part_before Constants (typed_shapes c) from_predicates

  from_types : List SectionBody
  from_types = part_before Types (type_shapes t) from_constants

  printed : List SectionBody
  printed = part_before Requirements (name_shapes r) from_types

  printed_sections : sections_of (section_shapes (made n r t c p f all)) ≡ Some printed
  unfolding printed from_types from_constants from_predicates from_functions
  printed_sections =
      sections_before (codes ":requirements") Requirements (name_shapes r) _ from_types requirements_word
      (sections_before (codes ":types") Types (type_shapes t) _ from_constants types_word
      (sections_before (codes ":constants") Constants (typed_shapes c) _ from_predicates constants_word
      (sections_before (codes ":predicates") Predicates (signature_shapes p) _ from_functions predicates_word
      (sections_before (codes ":functions") Functions (signature_shapes f) _ (action_parts all) functions_word (action_sections all)))))

  no_functions : (k : Section) → IsOther k → eqb 4 (section_number k) ≡ false → list_any (is_section k) from_functions ≡ false
  unfolding from_functions
  no_functions k o e = missing_before k Functions (signature_shapes f) (action_parts all) e (no_action_has k all o)

  no_predicates : (k : Section) → IsOther k → eqb 4 (section_number k) ≡ false → eqb 3 (section_number k) ≡ false → list_any (is_section k) from_predicates ≡ false
  unfolding from_predicates
  no_predicates k o e g = missing_before k Predicates (signature_shapes p) from_functions g (no_functions k o e)

  no_constants : (k : Section) → IsOther k → eqb 4 (section_number k) ≡ false → eqb 3 (section_number k) ≡ false → eqb 2 (section_number k) ≡ false → list_any (is_section k) from_constants ≡ false
  unfolding from_constants
  no_constants k o e g h = missing_before k Constants (typed_shapes c) from_predicates h (no_predicates k o e g)

  no_types : list_any (is_section Requirements) from_types ≡ false
  unfolding from_types
  no_types = missing_before Requirements Types (type_shapes t) from_constants refl (no_constants Requirements (refl, refl, refl) refl refl refl)

  printed_once : each_once printed ≡ true
  unfolding printed from_types from_constants from_predicates from_functions
  printed_once =
      once_before Requirements (name_shapes r) from_types no_types
      (once_before Types (type_shapes t) from_constants (no_constants Types (refl, refl, refl) refl refl refl)
      (once_before Constants (typed_shapes c) from_predicates (no_predicates Constants (refl, refl, refl) refl refl)
      (once_before Predicates (signature_shapes p) from_functions (no_functions Predicates (refl, refl, refl) refl)
      (once_before Functions (signature_shapes f) (action_parts all) (no_action_has Functions all (refl, refl, refl)) (actions_once all)))))

  requirements_found : section Requirements printed ≡ name_shapes r
  unfolding printed
  requirements_found = found Requirements (name_shapes r) from_types no_types

  types_found : section Types printed ≡ type_shapes t
  unfolding printed from_types
  types_found = passed Types Requirements (name_shapes r) from_types refl ∙ found Types (type_shapes t) from_constants (no_constants Types (refl, refl, refl) refl refl refl)

  constants_found : section Constants printed ≡ typed_shapes c
  unfolding printed from_types from_constants
  constants_found =
      passed Constants Requirements (name_shapes r) from_types refl ∙ passed Constants Types (type_shapes t) from_constants refl
      ∙ found Constants (typed_shapes c) from_predicates (no_predicates Constants (refl, refl, refl) refl refl)

  predicates_found : section Predicates printed ≡ signature_shapes p
  unfolding printed from_types from_constants from_predicates
  predicates_found =
      passed Predicates Requirements (name_shapes r) from_types refl ∙ passed Predicates Types (type_shapes t) from_constants refl
      ∙ passed Predicates Constants (typed_shapes c) from_predicates refl
      ∙ found Predicates (signature_shapes p) from_functions (no_functions Predicates (refl, refl, refl) refl)

  functions_found : section Functions printed ≡ signature_shapes f
  unfolding printed from_types from_constants from_predicates from_functions
  functions_found =
      passed Functions Requirements (name_shapes r) from_types refl ∙ passed Functions Types (type_shapes t) from_constants refl
      ∙ passed Functions Constants (typed_shapes c) from_predicates refl ∙ passed Functions Predicates (signature_shapes p) from_functions refl
      ∙ found Functions (signature_shapes f) (action_parts all) (no_action_has Functions all (refl, refl, refl))

  actions_found : (σ : Symbols) → AllByRecursion (ActionReads σ) all → actions_in σ printed ≡ Some all
  unfolding printed from_types from_constants from_predicates from_functions
  actions_found σ h =
      actions_before σ Requirements (name_shapes r) from_types all refl
      (actions_before σ Types (type_shapes t) from_constants all refl
      (actions_before σ Constants (typed_shapes c) from_predicates all refl
      (actions_before σ Predicates (signature_shapes p) from_functions all refl
      (actions_before σ Functions (signature_shapes f) (action_parts all) all refl (actions_again σ all h)))))

  with_printed : requirements_in (name_shapes r) ≡ Some r → types_in (type_shapes t) ≡ Some t → objects_in t (typed_shapes c) ≡ Some c → (signatures_of t (signature_shapes p) >>= named_once) ≡ Some p → (numeric_signatures t false (signature_shapes f) >>= named_once) ≡ Some f → AllByRecursion (ActionReads (symbols t c p f)) all → not (has_twice (map (λ a. a.name) all)) ≡ true → domain_with n printed ≡ Some (made n r t c p f all)
  with_printed hr ht hc hp hf ha once =
      domain_is n printed
      ∙ ap (λ o. o >>= λ r. after_requirements n printed r) (ap requirements_in requirements_found ∙ hr)
      ∙ ap (λ o. o >>= λ t. after_types n printed r t) (ap types_in types_found ∙ ht)
      ∙ ap (λ o. o >>= λ c. after_constants n printed r t c) (ap (objects_in t) constants_found ∙ hc)
      ∙ ap (λ o. o >>= λ p. after_predicates n printed r t c p) (ap (λ (ss : Shapes). signatures_of t ss >>= named_once) predicates_found ∙ hp)
      ∙ ap (λ o. o >>= λ f. after_functions n printed r t c p f) (ap (λ (ss : Shapes). numeric_signatures t false ss >>= named_once) functions_found ∙ hf)
      ∙ ap (λ o. o >>= λ all. after_actions n r t c p f all) (actions_found (symbols t c p f) ha)
      ∙ ap (λ (b : Bool). provided b (made n r t c p f all)) once

  reads_again : name_of n ≡ Some n → domain_with n printed ≡ Some (made n r t c p f all) → domain_of (domain_shape (made n r t c p f all)) ≡ Some (made n r t c p f all)
  unfolding domain_of named kind_and_name both only is_word
  reads_again name h =
      ap (λ o. o >>= λ m. sections_of (section_shapes (made n r t c p f all)) >>= λ ps. provided (each_once ps) ps >>= domain_with m) name
      ∙ ap (λ o. o >>= λ ps. provided (each_once ps) ps >>= domain_with n) printed_sections
      ∙ ap (λ (b : Bool). provided b printed >>= domain_with n) printed_once
      ∙ h

with_parts : (n : Name) (ps : List SectionBody) (d : Domain) → IsName n → AllByRecursion (λ p. AllHaveWords p.body) ps → domain_with n ps ≡ Some d → DomainAgain d
with_parts n ps d name words h =
    let r = bind_some (requirements_in (section Requirements ps)) (λ r. after_requirements n ps r) d (sym (domain_is n ps) ∙ h) in
    let t = bind_some (types_in (section Types ps)) (λ t. after_types n ps r.0 t) d r.2 in
    let c = bind_some (objects_in t.0 (section Constants ps)) (λ c. after_constants n ps r.0 t.0 c) d t.2 in
    let p = bind_some (signatures_of t.0 (section Predicates ps) >>= named_once) (λ p. after_predicates n ps r.0 t.0 c.0 p) d c.2 in
    let f = bind_some (numeric_signatures t.0 false (section Functions ps) >>= named_once) (λ f. after_functions n ps r.0 t.0 c.0 p.0 f) d p.2 in
    let σ = symbols t.0 c.0 p.0 f.0 in
    let a = bind_some (actions_in σ ps) (λ all. after_actions n r.0 t.0 c.0 p.0 f.0 all) d f.2 in
    let last = provided_some (not (has_twice (map (λ (a : Action). a.name) a.0))) (made n r.0 t.0 c.0 p.0 f.0 a.0) d a.2 in
    let hr = requirements_again (section Requirements ps) r.0 (section_words Requirements ps words) r.1 in
    let ht = types_again (section Types ps) t.0 t.1 in
    let hc = objects_again t.0 (section Constants ps) c.0 c.1 in
    let hp = predicates_again t.0 (section Predicates ps) p.0 p.1 in
    let hf = functions_again t.0 (section Functions ps) f.0 f.1 in
    let ha = actions_read σ ps a.0 a.1 in
    subst DomainAgain last.1 (record {
      again = reads_again n r.0 t.0 c.0 p.0 f.0 a.0 (name_again n name) (with_printed n r.0 t.0 c.0 p.0 f.0 a.0 hr.0 ht.0 hc.0 hp.0 hf.0 ha last.0);
      words = (
        keyword (codes "define") refl,
        (
          (keyword (codes "domain") refl, (name_word n name.signature, tt)),
          words_before (codes ":requirements") (name_shapes r.0) _ (keyword (codes ":requirements") refl) hr.1
              (words_before (codes ":types") (type_shapes t.0) _ (keyword (codes ":types") refl) ht.1
              (words_before (codes ":constants") (typed_shapes c.0) _ (keyword (codes ":constants") refl) hc.1
              (words_before (codes ":predicates") (signature_shapes p.0) _ (keyword (codes ":predicates") refl) hp.1
              (words_before (codes ":functions") (signature_shapes f.0) _ (keyword (codes ":functions") refl) hf.1 (action_words σ a.0 ha))))),
        ),
      );
    })

-- ---- the list that a domain is

kind_name : (k w : Shape) (n : Name) → kind_and_name (codes "domain") k w ≡ Some n → IsName n
unfolding kind_and_name
kind_name (node ss) w n h = no_some h
kind_name (leaf k) (node ss) n h = no_some h
kind_name (leaf k) (leaf w) n h = (name_read w n (cond_some (is_word (codes "domain") k) (name_of w) n h).1).1

head_name : (head : Shape) (n : Name) → named (codes "domain") head ≡ Some n → IsName n
unfolding named
head_name (leaf w) n h = no_some h
head_name (node ss) n h =
    let p = bind_some (both ss) (λ q. kind_and_name (codes "domain") q.0 q.1) n h in
    kind_name p.0.0 p.0.1 n p.2

pub domain_again : (s : Shape) (d : Domain) → HasWords s → domain_of s ≡ Some d → (domain_of (domain_shape d) ≡ Some d) × HasWords (domain_shape d)
unfolding domain_of
domain_again (leaf w) d words h = no_some h
domain_again (node no_shapes) d words h = no_some h
domain_again (node (shape (node ss) rest)) d words h = no_some h
domain_again (node (shape (leaf w) no_shapes)) d words h = no_some h
domain_again (node (shape (leaf w) (shape head rest))) d words h =
    let c = cond_some (is_word (codes "define") w) (named (codes "domain") head >>= λ n. sections_of rest >>= λ ps. provided (each_once ps) ps >>= domain_with n) d h in
    let n = bind_some (named (codes "domain") head) (λ n. sections_of rest >>= λ ps. provided (each_once ps) ps >>= domain_with n) d c.1 in
    let p = bind_some (sections_of rest) (λ ps. provided (each_once ps) ps >>= domain_with n.0) d n.2 in
    let q = bind_some (provided (each_once p.0) p.0) (domain_with n.0) d p.2 in
    let e = provided_some (each_once p.0) p.0 q.0 q.1 in
    let a = with_parts n.0 q.0 d (head_name head n.0 n.1) (subst (AllByRecursion (λ p. AllHaveWords p.body)) e.1 (parts_words rest p.0 words.1.1 p.1)) q.2 in
    (a.again, a.words)
