-- Domains, one section after another.
use Rattle.std.proofs.Common.{◌≡◌, ℕ, List, [], ◌∷◌, ◌++◌, length, drop, get_or, map, Bool, true, false, not, Option, Some, None, option_map, refl, sym, ap, ◌∙◌, append_assoc, append-nil}
use Rattle.tp_text.specs.Shapes.{Shape, leaf, node, Shapes, no_shapes, shape}
use Rattle.std.proofs.Common.{◌+◌, ◌<◌, ◌≤◌, cond, codes}
use Rattle.std.proofs.lemmas.List.{at_drop_more, at_drop_all}
use Rattle.tp_syntax_ast.specs.Lists.{first_of}
use Rattle.tp_syntax_ast.specs.Words.{is_word}
use Rattle.tp_syntax_ast.specs.Terms.{shapes}
use Rattle.tp_syntax_ast.specs.Actions.{action_of}
use Rattle.tp_syntax.specs.KeyedParts.{SectionItem}
use Rattle.tp_syntax_ast.specs.declared.fault.SyntaxFault.{SyntaxFault}
use Rattle.tp_syntax_ast.proofs.OnFaults.{fails_from}
use Rattle.tp_syntax_ast.proofs.OnGives.{bind_bind}
use Rattle.tp_syntax_ast.specs.Gives.{◌>>=◌, provided, with_front, Fails}
use Rattle.tp_syntax_ast.specs.Symbols.{Name, Parent, Declared, SignatureView, Symbols}
use Rattle.tp_syntax_ast.specs.TypedLists.{has_twice}
use Rattle.tp_syntax_ast.specs.Actions.{Action}
use Rattle.tp_syntax_ast.specs.Domains.{Domain, SectionBody, requirements_in, types_in, objects_in, section, action_at, actions_in, sections_of, each_once, named, defined, domain_with, domain_of}
use Rattle.tp_syntax_scope.specs.SignatureViews.{predicates_in, functions_in}
use Rattle.tp_syntax.specs.SectionViews.{section_body_view, action_kind, actions_once, checked_sections, domain_symbols}
use Rattle.tp_syntax_ast.specs.declared.words.Section.{Section}
use Rattle.tp_syntax_ast.specs.declared.words.Section.TheVariants as sections

module _ (n : Name) (parts : List SectionBody) where
  abbrev pub made : List Name → List Parent → List Declared → List SignatureView → List SignatureView → List Action → Domain
  made rs ts cs ps fs as_ = record { name = n; requirements = rs; types = ts; constants = cs; predicates = ps; functions = fs; actions = as_ }

  abbrev pub after_functions : List Name → List Parent → List Declared → List SignatureView → List SignatureView → Option Domain
  after_functions rs ts cs ps fs = actions_in (domain_symbols ts cs ps fs) parts >>= λ as_. provided (not (has_twice (map (λ a. a.name) as_))) (made rs ts cs ps fs as_)

  abbrev pub after_predicates : List Name → List Parent → List Declared → List SignatureView → Option Domain
  after_predicates rs ts cs ps = functions_in ts (section sections.Functions parts) >>= after_functions rs ts cs ps

  abbrev pub after_constants : List Name → List Parent → List Declared → Option Domain
  after_constants rs ts cs = predicates_in ts (section sections.Predicates parts) >>= after_predicates rs ts cs

  abbrev pub after_types : List Name → List Parent → Option Domain
  after_types rs ts = objects_in ts (section sections.Constants parts) >>= after_constants rs ts

  abbrev pub after_requirements : List Name → Option Domain
  after_requirements rs = types_in (section sections.Types parts) >>= after_types rs

  pub in_order : domain_with n parts ≡ (requirements_in (section sections.Requirements parts) >>= after_requirements)
  unfolding domain_with
  in_order = refl

  provided_made : (b : Bool) (rs : List Name) (ts : List Parent) (cs : List Declared) (ps fs : List SignatureView) (as_ : List Action) → provided b (made rs ts cs ps fs as_) ≡ option_map (made rs ts cs ps fs) (provided b as_)
  provided_made true rs ts cs ps fs as_ = refl
  provided_made false rs ts cs ps fs as_ = refl

  once_then : (rs : List Name) (ts : List Parent) (cs : List Declared) (ps fs : List SignatureView) (o : Option (List Action)) → (o >>= λ as_. provided (not (has_twice (map (λ a. a.name) as_))) (made rs ts cs ps fs as_)) ≡ option_map (made rs ts cs ps fs) (o >>= λ as_. provided (not (has_twice (map (λ a. a.name) as_))) as_)
  once_then rs ts cs ps fs None = refl
  once_then rs ts cs ps fs (Some as_) = provided_made (not (has_twice (map (λ a. a.name) as_))) rs ts cs ps fs as_

  -- what is left when all sections but the actions were read
  pub at_actions : (rs : List Name) (ts : List Parent) (cs : List Declared) (ps fs : List SignatureView) → after_functions rs ts cs ps fs ≡ option_map (made rs ts cs ps fs) (actions_once (domain_symbols ts cs ps fs) parts)
  at_actions rs ts cs ps fs = once_then rs ts cs ps fs (actions_in (domain_symbols ts cs ps fs) parts)

  pub at_types : (rs : List Name) → requirements_in (section sections.Requirements parts) ≡ Some rs → domain_with n parts ≡ after_requirements rs
  at_types rs h = in_order ∙ ap (λ o. o >>= after_requirements) h

  pub at_constants : (rs : List Name) (ts : List Parent) → domain_with n parts ≡ after_requirements rs → types_in (section sections.Types parts) ≡ Some ts → domain_with n parts ≡ after_types rs ts
  at_constants rs ts so_far h = so_far ∙ ap (λ o. o >>= after_types rs) h

  pub at_predicates : (rs : List Name) (ts : List Parent) (cs : List Declared) → domain_with n parts ≡ after_types rs ts → objects_in ts (section sections.Constants parts) ≡ Some cs → domain_with n parts ≡ after_constants rs ts cs
  at_predicates rs ts cs so_far h = so_far ∙ ap (λ o. o >>= after_constants rs ts) h

  pub at_functions : (rs : List Name) (ts : List Parent) (cs : List Declared) (ps : List SignatureView) → domain_with n parts ≡ after_constants rs ts cs → predicates_in ts (section sections.Predicates parts) ≡ Some ps → domain_with n parts ≡ after_predicates rs ts cs ps
  at_functions rs ts cs ps so_far h = so_far ∙ ap (λ o. o >>= after_predicates rs ts cs) h

  pub after_all : (rs : List Name) (ts : List Parent) (cs : List Declared) (ps fs : List SignatureView) → domain_with n parts ≡ after_predicates rs ts cs ps → functions_in ts (section sections.Functions parts) ≡ Some fs → domain_with n parts ≡ option_map (made rs ts cs ps fs) (actions_once (domain_symbols ts cs ps fs) parts)
  after_all rs ts cs ps fs so_far h = so_far ∙ ap (λ o. o >>= after_functions rs ts cs ps) h ∙ at_actions rs ts cs ps fs

module _ (σ : Symbols) where
  abbrev all : List (SectionItem Section) → Option (List Action)
  all xs = actions_in σ (map section_body_view xs)

  abbrev here : SectionItem Section → Option (List Action)
  here x = action_at σ x.kind (shapes x.body.now)

  more : (x : SectionItem Section) (xs : List (SectionItem Section)) → all (x ∷ xs) ≡ (here x >>= λ front. with_front front (all xs))
  unfolding actions_in
  more x xs = refl

  none : all [] ≡ Some []
  unfolding actions_in
  none = refl

  onto : (old new : List Action) (o rest : Option (List Action)) → with_front old o ≡ Some new → with_front old (o >>= λ front. with_front front rest) ≡ with_front new rest
  onto old new None rest is = cc
  onto old new (Some f) None is = refl
  onto old new (Some f) (Some r) is = let e : old ++ f ≡ new = cc in ap Some (sym (append_assoc old f r) ∙ ap (λ (l : List Action). l ++ r) e)

  step : (xs : List (SectionItem Section)) (i : ℕ) (x : SectionItem Section) → i < length xs → x ≡ get_or xs i x → all (drop i xs) ≡ (here x >>= λ front. with_front front (all (drop (i + 1) xs)))
  step xs i x lt at = at_drop_more all xs i x lt ∙ more (get_or xs i x) (drop (i + 1) xs) ∙ ap (λ (z : SectionItem Section). here z >>= λ front. with_front front (all (drop (i + 1) xs))) (sym at)

  pub actions_go_on : (old new : List Action) (xs : List (SectionItem Section)) (i : ℕ) (x : SectionItem Section) (total : Option (List Action)) → i < length xs → x ≡ get_or xs i x → with_front old (here x) ≡ Some new → with_front old (all (drop i xs)) ≡ total → with_front new (all (drop (i + 1) xs)) ≡ total
  actions_go_on old new xs i x total lt at added so_far = sym (onto old new (here x) (all (drop (i + 1) xs)) added) ∙ ap (with_front old) (sym (step xs i x lt at)) ∙ so_far

  pub actions_fail : (e : SyntaxFault) (old : List Action) (xs : List (SectionItem Section)) (i : ℕ) (x : SectionItem Section) (total : Option (List Action)) → i < length xs → x ≡ get_or xs i x → Fails e (here x) → with_front old (all (drop i xs)) ≡ total → Fails e total
  actions_fail e old xs i x total lt at h so_far = fails_from e (here x) total (λ nothing. sym so_far ∙ ap (with_front old) (step xs i x lt at ∙ ap (λ (o : Option (List Action)). o >>= λ front. with_front front (all (drop (i + 1) xs))) nothing)) h

  pub actions_end : (old : List Action) (xs : List (SectionItem Section)) (i : ℕ) (total : Option (List Action)) → length xs ≤ i → with_front old (all (drop i xs)) ≡ total → total ≡ Some old
  actions_end old xs i total le so_far = sym so_far ∙ ap (with_front old) (at_drop_all all xs i le ∙ none) ∙ ap Some (append-nil old)

  pub no_action_at : (k : Section) (body : Shapes) (old : List Action) → action_kind k ≡ None → with_front old (action_at σ k body) ≡ Some old
  no_action_at sections.Requirements body old is = ap Some (append-nil old)
  no_action_at sections.Types body old is = ap Some (append-nil old)
  no_action_at sections.Constants body old is = ap Some (append-nil old)
  no_action_at sections.Predicates body old is = ap Some (append-nil old)
  no_action_at sections.Functions body old is = ap Some (append-nil old)
  no_action_at sections.Action body old is = cc
  no_action_at sections.DurativeAction body old is = cc

  pub one_action_at : (k : Section) (body : Shapes) (lasts : Bool) → action_kind k ≡ Some lasts → action_at σ k body ≡ option_map (λ a. a ∷ []) (action_of σ lasts body)
  one_action_at sections.Action body lasts is = let e : false ≡ lasts = cc in ap (λ b. option_map (λ a. a ∷ []) (action_of σ b body)) e
  one_action_at sections.DurativeAction body lasts is = let e : true ≡ lasts = cc in ap (λ b. option_map (λ a. a ∷ []) (action_of σ b body)) e
  one_action_at sections.Requirements body lasts is = cc
  one_action_at sections.Types body lasts is = cc
  one_action_at sections.Constants body lasts is = cc
  one_action_at sections.Predicates body lasts is = cc
  one_action_at sections.Functions body lasts is = cc

-- what stands behind 'define'
abbrev pub after_head : Shapes → Name → Option Domain
after_head rest n = checked_sections rest >>= domain_with n

abbrev pub after_define : (Shape × Shapes) → Option Domain
after_define p = named (codes "domain") p.0 >>= after_head p.1

regrouped : (rest : Shapes) (o : Option Name) → (o >>= λ n. sections_of rest >>= λ ps. provided (each_once ps) ps >>= domain_with n) ≡ (o >>= after_head rest)
regrouped rest None = refl
regrouped rest (Some n) = sym (bind_bind (sections_of rest) (λ ps. provided (each_once ps) ps) (domain_with n))

if_then : (b : Bool) (head : Shape) (rest : Shapes) → cond b (named (codes "domain") head >>= λ n. sections_of rest >>= λ ps. provided (each_once ps) ps >>= domain_with n) None ≡ (cond b (Some (head, rest)) None >>= after_define)
if_then true head rest = regrouped rest (named (codes "domain") head)
if_then false head rest = refl

if_none : (b : Bool) (o : Option (Shape × Shapes)) → o ≡ None → cond b o o ≡ None
if_none true o h = h
if_none false o h = h

pub by_define : (s : Shape) → domain_of s ≡ (defined s >>= after_define)
unfolding domain_of defined first_of
by_define (leaf w) = refl
by_define (node no_shapes) = refl
by_define (node (shape (node ss) rest)) = refl
by_define (node (shape (leaf w) no_shapes)) = sym (ap (λ o. o >>= after_define) (if_none (is_word (codes "define") w) None refl))
by_define (node (shape (leaf w) (shape head rest))) = if_then (is_word (codes "define") w) head rest

pub symbols_same : (parts : List SectionBody) (ts us : List Parent) (cs ds : List Declared) (ps qs fs gs : List SignatureView) → ts ≡ us → cs ≡ ds → ps ≡ qs → fs ≡ gs → actions_once (domain_symbols ts cs ps fs) parts ≡ actions_once (domain_symbols us ds qs gs) parts
symbols_same parts ts us cs ds ps qs fs gs t c p f =
    ap (λ (xs : List Parent). actions_once (domain_symbols xs cs ps fs) parts) t
    ∙ ap (λ (xs : List Declared). actions_once (domain_symbols us xs ps fs) parts) c
    ∙ ap (λ (xs : List SignatureView). actions_once (domain_symbols us ds xs fs) parts) p
    ∙ ap (λ (xs : List SignatureView). actions_once (domain_symbols us ds qs xs) parts) f
