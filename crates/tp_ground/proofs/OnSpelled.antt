-- What was read of a text has names as the grammar has them, and each once.
use Rattle.std.proofs.Common.{◌≡◌, ℕ, List, [], ◌∷◌, ◌++◌, Bool, true, false, cond, not, ◌&&◌, Option, Some, None, option_map, unwrap_or, map, codes, refl, sym, ap, ◌∙◌, subst, arith, ◌⊎◌, inl, inr}
use Rattle.std.specs.List.{list_all, AllByRecursion}
use Rattle.std.specs.Char.{is_ascii_alphabetic, to_ascii_lowercase}
use Rattle.std.proofs.lemmas.Bool.{and_parts, and_from}
use Rattle.std.proofs.lemmas.Bool.Decides.{nat_tests}
use Rattle.std.proofs.lemmas.List.{map-append}
use Rattle.std.proofs.lemmas.Str.Ascii.{lowercase-lowercase}
use Rattle.tp_text.specs.Shapes.{Shape, leaf, node, Shapes, no_shapes, shape}
use Rattle.tp_syntax_ast.specs.Gives.{◌>>=◌, provided}
use Rattle.tp_syntax_ast.specs.Lists.{first_of}
use Rattle.tp_syntax_ast.specs.Words.{lower, is_word}
use Rattle.tp_syntax_ast.specs.Terms.{is_name, is_inner, name_of}
use Rattle.tp_syntax_ast.specs.Symbols.{Name, Declared, Parent, SignatureView, Symbols}
use Rattle.tp_syntax_ast.specs.TypedLists.{is_dash, begins_dash, item_at, type_at, Typing, joined, unless, typing_of, after_dash, run_of, typed_list, are_declared, has_twice, parameters_at}
use Rattle.tp_syntax_ast.specs.Actions.{Action, Body, field, fields_of, each_once, is_field_of, or_missing, body_of, action_of}
use Rattle.tp_syntax_ast.specs.Domains as domains
use Rattle.tp_syntax_ast.specs.Domains.{Domain, requirements_in, types_in, objects_in, signatures_of, named_once, numeric_signatures, action_at, actions_in, section, domain_with, domain_of, named, sections_of, defined}
use Rattle.tp_syntax_ast.specs.Problems as problems
use Rattle.tp_syntax_ast.specs.Problems.{Problem, problem_from, new_objects, stated, symbols_with, problem_with, problem_of, own_name, once_each}
use Rattle.tp_syntax_ast.specs.declared.words.Key.TheVariants.{Parameters}
use Rattle.tp_syntax_ast.specs.declared.words.Items.TheVariants.{Names}
use Rattle.tp_syntax_ast.specs.declared.words.Section.{Section}
use Rattle.tp_syntax_ast.specs.declared.words.Section.TheVariants as sections
use Rattle.tp_syntax_ast.specs.declared.words.ProblemSection.TheVariants as problem_sections
use Rattle.tp_ground.specs.OwnNames.{IsOwnName, HasOwnNames}

-- ---- what a reading that went well says of its steps

no_some : {A B : Type 0} {x : A} → None ≡ Some x → B
no_some {A} {B} {x} h = absurd (let no : ⊥ = cc in no)

some_is : {A : Type 0} (x y : A) → Some x ≡ Some y → x ≡ y
some_is x y h = ap (λ o. unwrap_or o x) h

bind_some : {A B : Type 0} (o : Option A) (f : A → Option B) (y : B) → (o >>= f) ≡ Some y → (x : A) × (o ≡ Some x) × (f x ≡ Some y)
bind_some (Some x) f y h = (x, refl, h)
bind_some None f y h = no_some h

map_some : {A B : Type 0} (f : A → B) (o : Option A) (y : B) → option_map f o ≡ Some y → (x : A) × (o ≡ Some x) × (f x ≡ y)
map_some f (Some x) y h = (x, refl, some_is (f x) y h)
map_some f None y h = no_some h

provided_some : {A : Type 0} (b : Bool) (x y : A) → provided b x ≡ Some y → (b ≡ true) × (x ≡ y)
provided_some true x y h = (refl, some_is x y h)
provided_some false x y h = no_some h

cond_some : {A : Type 0} (b : Bool) (o : Option A) (y : A) → cond b o None ≡ Some y → (b ≡ true) × (o ≡ Some y)
cond_some true o y h = (refl, h)
cond_some false o y h = no_some h

not_true : (b : Bool) → not b ≡ true → b ≡ false
not_true true h = cc
not_true false h = refl

-- ---- names

lower_lower : (w : List ℕ) → lower (lower w) ≡ lower w
lower_lower [] = refl
lower_lower (b ∷ w) = ap (λ (c : ℕ). c ∷ lower (lower w)) (lowercase-lowercase b) ∙ ap (λ (v : List ℕ). to_ascii_lowercase b ∷ v) (lower_lower w)

lower_letter : (b : ℕ) → is_ascii_alphabetic b ≡ true → is_ascii_alphabetic (to_ascii_lowercase b) ≡ true
lower_letter b h = grind (arith, nat_tests)

lower_inner : (b : ℕ) → is_inner b ≡ true → is_inner (to_ascii_lowercase b) ≡ true
lower_inner b h = grind (arith, nat_tests)

lower_all_inner : (w : List ℕ) → list_all is_inner w ≡ true → list_all is_inner (lower w) ≡ true
lower_all_inner [] h = refl
lower_all_inner (b ∷ w) h =
    let p = and_parts (is_inner b) (list_all is_inner w) h in
    and_from (is_inner (to_ascii_lowercase b)) (list_all is_inner (lower w)) (lower_inner b p.0) (lower_all_inner w p.1)

lower_name : (w : List ℕ) → is_name w ≡ true → is_name (lower w) ≡ true
lower_name [] h = h
lower_name (b ∷ w) h =
    let p = and_parts (is_ascii_alphabetic b) (list_all is_inner w) h in
    and_from (is_ascii_alphabetic (to_ascii_lowercase b)) (list_all is_inner (lower w)) (lower_letter b p.0) (lower_all_inner w p.1)

name_read : (w n : List ℕ) → name_of w ≡ Some n → IsOwnName n
unfolding name_of
name_read w n h =
    let p = provided_some (is_name w) (lower w) n h in
    subst IsOwnName p.1 (record { signature = lower_name w p.0; lower = lower_lower w })

item_read : (s : Shape) (n : Name) → item_at Names s ≡ Some n → IsOwnName n
unfolding item_at
item_read (leaf w) n h = name_read w n h
item_read (node ss) n h = no_some h

-- ---- typed lists

AreOwn : List Declared → Type 0
AreOwn ds = AllByRecursion IsOwnName (map (λ d. d.name) ds)

by_dash : (b : Bool) (x y : Option Typing) (r : Typing) → elim b as (λ v. Option Typing) [ true ↦ x | false ↦ y ] ≡ Some r → (x ≡ Some r) ⊎ (y ≡ Some r)
by_dash true x y r h = inl h
by_dash false x y r h = inr h

unless_some : (b : Bool) (o : Option Typing) (r : Typing) → unless b o ≡ Some r → o ≡ Some r
unless_some true o r h = no_some h
unless_some false o r h = h

mutual
  unfolding typing_of AreOwn

  typing_read : (ss : Shapes) (r : Typing) → typing_of Names ss ≡ Some r → AreOwn r.0
  typing_read no_shapes r h = subst (λ (t : Typing). AreOwn t.0) (some_is ([], codes "object" ∷ []) r h) tt
  typing_read (shape s ss) r h =
      elim (by_dash (is_dash s) (after_dash Names ss) (item_at Names s >>= λ v. option_map (joined v) (typing_of Names ss)) r h) [
        | inl a ↦ after_read ss r a
        | inr i ↦
            let b = bind_some (item_at Names s) (λ v. option_map (joined v) (typing_of Names ss)) r i in
            let m = map_some (joined b.0) (typing_of Names ss) r b.2 in
            subst (λ (t : Typing). AreOwn t.0) m.2 (item_read s b.0 b.1, typing_read ss m.0 m.1)
      ]

  after_read : (ss : Shapes) (r : Typing) → after_dash Names ss ≡ Some r → AreOwn r.0
  after_read no_shapes r h = no_some h
  after_read (shape t ss) r h =
      let b = bind_some (type_at Names t) (λ ts. option_map (λ r. (r.0, ts)) (unless (begins_dash ss) (typing_of Names ss))) r h in
      let m = map_some (λ (r : Typing). (r.0, b.0)) (unless (begins_dash ss) (typing_of Names ss)) r b.2 in
      subst (λ (t : Typing). AreOwn t.0) m.2 (typing_read ss m.0 (unless_some (begins_dash ss) (typing_of Names ss) m.0 m.1))

list_read : (ss : Shapes) (ds : List Declared) → typed_list Names ss ≡ Some ds → AreOwn ds
unfolding typed_list
list_read ss ds h =
    let m = map_some (λ (r : Typing). r.0) (run_of Names ss) ds h in
    subst AreOwn m.2 (typing_read ss m.0 (unless_some (begins_dash ss) (typing_of Names ss) m.0 m.1))

objects_read : (types : List Parent) (ss : Shapes) (ds : List Declared) → objects_in types ss ≡ Some ds → AreOwn ds
unfolding objects_in
objects_read types ss ds h =
    let b = bind_some (typed_list Names ss) (λ ds. provided (are_declared types ds) ds) ds h in
    let p = provided_some (are_declared types b.0) b.0 ds b.2 in
    subst AreOwn p.1 (list_read ss b.0 b.1)

-- ---- actions

made : Name → List Declared → Body → Action
made n vs b = record { name = n; parameters = vs; body = b }

named_read : (σ : Symbols) (d : Bool) (w : List ℕ) (rest : Shapes) (a : Action) → action_of σ d (shape (leaf w) rest) ≡ Some a → IsOwnName a.name
unfolding action_of made
named_read σ d w rest a h =
    let n = bind_some (name_of w) (λ m. fields_of rest >>= λ fs. provided (each_once fs && list_all (λ f. is_field_of d f.key) fs) fs >>= λ gs. or_missing [] (parameters_at σ.types) (field Parameters gs) >>= λ vs. option_map (made m vs) (body_of σ d vs gs)) a h in
    let f = bind_some (fields_of rest) (λ fs. provided (each_once fs && list_all (λ f. is_field_of d f.key) fs) fs >>= λ gs. or_missing [] (parameters_at σ.types) (field Parameters gs) >>= λ vs. option_map (made n.0 vs) (body_of σ d vs gs)) a n.2 in
    let g = bind_some (provided (each_once f.0 && list_all (λ f. is_field_of d f.key) f.0) f.0) (λ gs. or_missing [] (parameters_at σ.types) (field Parameters gs) >>= λ vs. option_map (made n.0 vs) (body_of σ d vs gs)) a f.2 in
    let v = bind_some (or_missing [] (parameters_at σ.types) (field Parameters g.0)) (λ vs. option_map (made n.0 vs) (body_of σ d vs g.0)) a g.2 in
    let b = map_some (made n.0 v.0) (body_of σ d v.0 g.0) a v.2 in
    subst (λ (c : Action). IsOwnName c.name) b.2 (name_read w n.0 n.1)

action_read : (σ : Symbols) (d : Bool) (ss : Shapes) (a : Action) → action_of σ d ss ≡ Some a → IsOwnName a.name
unfolding action_of
action_read σ d no_shapes a h = no_some h
action_read σ d (shape (node ss) rest) a h = no_some h
action_read σ d (shape (leaf w) rest) a h = named_read σ d w rest a h

HaveOwn : List Action → Type 0
HaveOwn as_ = AllByRecursion IsOwnName (map (λ a. a.name) as_)

one_read : (σ : Symbols) (d : Bool) (ss : Shapes) (as_ : List Action) → option_map (λ a. a ∷ []) (action_of σ d ss) ≡ Some as_ → HaveOwn as_
unfolding HaveOwn
one_read σ d ss as_ h =
    let m = map_some (λ (a : Action). a ∷ []) (action_of σ d ss) as_ h in
    subst HaveOwn m.2 (action_read σ d ss m.0 m.1, tt)

none_read : (as_ : List Action) → Some [] ≡ Some as_ → HaveOwn as_
unfolding HaveOwn
none_read as_ h = subst HaveOwn (some_is [] as_ h) tt

at_read : (σ : Symbols) (k : Section) (ss : Shapes) (as_ : List Action) → action_at σ k ss ≡ Some as_ → HaveOwn as_
at_read σ sections.Action ss as_ h = one_read σ false ss as_ h
at_read σ sections.DurativeAction ss as_ h = one_read σ true ss as_ h
at_read σ sections.Requirements ss as_ h = none_read as_ h
at_read σ sections.Types ss as_ h = none_read as_ h
at_read σ sections.Constants ss as_ h = none_read as_ h
at_read σ sections.Predicates ss as_ h = none_read as_ h
at_read σ sections.Functions ss as_ h = none_read as_ h

all_append : {A : Type 0} (P : A → Type 0) (xs ys : List A) → AllByRecursion P xs → AllByRecursion P ys → AllByRecursion P (xs ++ ys)
all_append P [] ys all more = more
all_append P (x ∷ xs) ys all more = (all.0, all_append P xs ys all.1 more)

both_own : (xs ys : List Action) → HaveOwn xs → HaveOwn ys → HaveOwn (xs ++ ys)
unfolding HaveOwn
both_own xs ys h k = subst (AllByRecursion IsOwnName) (sym (map-append (λ a. a.name) xs ys)) (all_append IsOwnName (map (λ a. a.name) xs) (map (λ a. a.name) ys) h k)

actions_read : (σ : Symbols) (ps : List domains.SectionBody) (as_ : List Action) → actions_in σ ps ≡ Some as_ → HaveOwn as_
unfolding actions_in
actions_read σ [] as_ h = none_read as_ h
actions_read σ (p ∷ ps) as_ h =
    let b = bind_some (action_at σ p.section p.body) (λ front. option_map (λ more. front ++ more) (actions_in σ ps)) as_ h in
    let m = map_some (λ (more : List Action). b.0 ++ more) (actions_in σ ps) as_ b.2 in
    subst HaveOwn m.2 (both_own b.0 m.0 (at_read σ p.section p.body b.0 b.1) (actions_read σ ps m.0 m.1))

-- ---- the domain

-- what is wanted of a domain alone
record Owns (d : Domain) : Type 0 where
  pub constants : AreOwn d.constants
  pub actions : HaveOwn d.actions
  pub once : has_twice (map (λ a. a.name) d.actions) ≡ false

domain_made : Name → List Name → List Parent → List Declared → List SignatureView → List SignatureView → List Action → Domain
domain_made n r t c p f as_ = record { name = n; requirements = r; types = t; constants = c; predicates = p; functions = f; actions = as_ }

symbols_of : List Parent → List Declared → List SignatureView → List SignatureView → Symbols
symbols_of t c p f = record { types = t; objects = c; predicates = p; functions = f }

after_functions : Name → List domains.SectionBody → List Name → List Parent → List Declared → List SignatureView → List SignatureView → Option Domain
after_functions n ps r t c p f = actions_in (symbols_of t c p f) ps >>= λ as_. provided (not (has_twice (map (λ a. a.name) as_))) (domain_made n r t c p f as_)

after_predicates : Name → List domains.SectionBody → List Name → List Parent → List Declared → List SignatureView → Option Domain
after_predicates n ps r t c p = (numeric_signatures t false (section sections.Functions ps) >>= named_once) >>= after_functions n ps r t c p

after_constants : Name → List domains.SectionBody → List Name → List Parent → List Declared → Option Domain
after_constants n ps r t c = (signatures_of t (section sections.Predicates ps) >>= named_once) >>= after_predicates n ps r t c

after_types : Name → List domains.SectionBody → List Name → List Parent → Option Domain
after_types n ps r t = objects_in t (section sections.Constants ps) >>= after_constants n ps r t

after_requirements : Name → List domains.SectionBody → List Name → Option Domain
after_requirements n ps r = types_in (section sections.Types ps) >>= after_types n ps r

in_order : (n : Name) (ps : List domains.SectionBody) → domain_with n ps ≡ (requirements_in (section sections.Requirements ps) >>= after_requirements n ps)
unfolding domain_with after_requirements after_types after_constants after_predicates after_functions symbols_of domain_made
in_order n ps = refl

parts_read : (n : Name) (ps : List domains.SectionBody) (d : Domain) → domain_with n ps ≡ Some d → Owns d
unfolding after_requirements after_types after_constants after_predicates after_functions AreOwn HaveOwn domain_made
parts_read n ps d h =
    let r = bind_some (requirements_in (section sections.Requirements ps)) (after_requirements n ps) d (sym (in_order n ps) ∙ h) in
    let t = bind_some (types_in (section sections.Types ps)) (after_types n ps r.0) d r.2 in
    let c = bind_some (objects_in t.0 (section sections.Constants ps)) (after_constants n ps r.0 t.0) d t.2 in
    let p = bind_some (signatures_of t.0 (section sections.Predicates ps) >>= named_once) (after_predicates n ps r.0 t.0 c.0) d c.2 in
    let f = bind_some (numeric_signatures t.0 false (section sections.Functions ps) >>= named_once) (after_functions n ps r.0 t.0 c.0 p.0) d p.2 in
    let a = bind_some (actions_in (symbols_of t.0 c.0 p.0 f.0) ps) (λ as_. provided (not (has_twice (map (λ a. a.name) as_))) (domain_made n r.0 t.0 c.0 p.0 f.0 as_)) d f.2 in
    let once = provided_some (not (has_twice (map (λ a. a.name) a.0))) (domain_made n r.0 t.0 c.0 p.0 f.0 a.0) d a.2 in
    subst Owns once.1 (record {
      constants = objects_read t.0 (section sections.Constants ps) c.0 c.1;
      actions = actions_read (symbols_of t.0 c.0 p.0 f.0) ps a.0 a.1;
      once = not_true (has_twice (map (λ a. a.name) a.0)) once.0;
    })

domain_read : (s : Shape) (d : Domain) → domain_of s ≡ Some d → Owns d
unfolding domain_of
domain_read (node (shape (leaf w) (shape head rest))) d h =
    let c = cond_some (is_word (codes "define") w) (named (codes "domain") head >>= λ n. sections_of rest >>= λ ps. provided (domains.each_once ps) ps >>= domain_with n) d h in
    let n = bind_some (named (codes "domain") head) (λ n. sections_of rest >>= λ ps. provided (domains.each_once ps) ps >>= domain_with n) d c.1 in
    let ps = bind_some (sections_of rest) (λ ps. provided (domains.each_once ps) ps >>= domain_with n.0) d n.2 in
    let qs = bind_some (provided (domains.each_once ps.0) ps.0) (domain_with n.0) d ps.2 in
    parts_read n.0 qs.0 d qs.2
domain_read (leaf w) d h = no_some h
domain_read (node no_shapes) d h = no_some h
domain_read (node (shape (leaf w) no_shapes)) d h = no_some h
domain_read (node (shape (node ss) rest)) d h = no_some h

-- ---- the problem

record OwnsObjects (d : Domain) (p : Problem) : Type 0 where
  pub own : AreOwn p.objects
  pub once : has_twice (map (λ o. o.name) (d.constants ++ p.objects)) ≡ false

new_read : (d : Domain) (ss : Shapes) (os : List Declared) → new_objects d ss ≡ Some os → AreOwn os × (has_twice (map (λ o. o.name) (d.constants ++ os)) ≡ false)
unfolding new_objects
new_read d ss os h =
    let b = bind_some (objects_in d.types ss) (λ os. provided (not (has_twice (map (λ o. o.name) (d.constants ++ os)))) os) os h in
    let p = provided_some (not (has_twice (map (λ o. o.name) (d.constants ++ b.0)))) b.0 os b.2 in
    subst (λ (os : List Declared). AreOwn os × (has_twice (map (λ o. o.name) (d.constants ++ os)) ≡ false)) p.1
    (objects_read d.types ss b.0 b.1, not_true (has_twice (map (λ o. o.name) (d.constants ++ b.0))) p.0)

sections_read : (d : Domain) (n : Name) (ps : List problems.ProblemSectionBody) (p : Problem) → problem_with d n ps ≡ Some p → OwnsObjects d p
unfolding problem_with
sections_read d n ps p h =
    let r = bind_some (requirements_in (problems.section problem_sections.Requirements ps)) (λ words. new_objects d (problems.section problem_sections.Objects ps) >>= λ objects. option_map (problem_from n objects) (stated (symbols_with d objects) ps)) p h in
    let o = bind_some (new_objects d (problems.section problem_sections.Objects ps)) (λ objects. option_map (problem_from n objects) (stated (symbols_with d objects) ps)) p r.2 in
    let m = map_some (problem_from n o.0) (stated (symbols_with d o.0) ps) p o.2 in
    let are = new_read d (problems.section problem_sections.Objects ps) o.0 o.1 in
    subst (OwnsObjects d) m.2 (record { own = are.0; once = are.1 })

problem_read : (d : Domain) (s : Shape) (p : Problem) → problem_of d s ≡ Some p → OwnsObjects d p
unfolding problem_of
problem_read d s p h =
    let a = bind_some (defined s) (λ p. first_of p.1 >>= λ q. own_name d p.0 q.0 >>= λ n. once_each q.1 >>= problem_with d n) p h in
    let b = bind_some (first_of a.0.1) (λ q. own_name d a.0.0 q.0 >>= λ n. once_each q.1 >>= problem_with d n) p a.2 in
    let n = bind_some (own_name d a.0.0 b.0.0) (λ n. once_each b.0.1 >>= problem_with d n) p b.2 in
    let ps = bind_some (once_each b.0.1) (problem_with d n.0) p n.2 in
    sections_read d n.0 ps.0 p ps.2

pub spelled_names : (d : Domain) (p : Problem) (s : Shape) (other : Shape) → domain_of s ≡ Some d → problem_of d other ≡ Some p → HasOwnNames d p
unfolding AreOwn HaveOwn
spelled_names d p s other h k =
    let domain = domain_read s d h in
    let problem = problem_read d other p k in
    record {
      actions = domain.actions;
      actions_once = domain.once;
      objects = subst (AllByRecursion IsOwnName) (sym (map-append (λ o. o.name) d.constants p.objects)) (all_append IsOwnName (map (λ o. o.name) d.constants) (map (λ o. o.name) p.objects) domain.constants problem.own);
      objects_once = problem.once;
    }
