-- What stands in a list of conditions or of parts, item after item.
use Rattle.std.proofs.Common.{◌≡◌, Bool, true, false, ◌||◌, List, [], ◌∷◌, ◌++◌, map, Vec, Global, refl, sym, ap, ◌∙◌}
use Rattle.std.specs.List.{flat_map, list_any}
use Rattle.std.specs.Prelude.{string_bytes}
use Rattle.std.specs.Str.{bytes_eq}
use Rattle.std.proofs.lemmas.Bool.{cond-true}
use Rattle.std.proofs.lemmas.List.{map-append}
use Rattle.std.proofs.lemmas.Simd.{map-map}
use Rattle.tp_syntax_ast.specs.Symbols.{Name}
use Rattle.tp_syntax_ast.specs.DomainViews.{initial_view}
use Rattle.tp_syntax_ast.specs.declared.problem.Initial.{Initial}
use Rattle.tp_syntax_ast.specs.declared.problem.Initial.TheVariants as initials
use Rattle.tp_syntax_ast.specs.declared.term.Atom.{Atom}
use Rattle.tp_ground_bindings.specs.Bindings.{object_for}
use Rattle.tp_ground_joins.specs.declared.keyed.Keyed.{Keyed}
use Rattle.tp_ground_joins.specs.Facts.{keyed_row, fact_of}
use Rattle.tp_syntax_ast.specs.Terms.{Fact, term_view}
use Rattle.tp_syntax_ast.specs.Conditions.{conditions}
use Rattle.tp_syntax_ast.specs.CondViews.{cond_view}
use Rattle.tp_syntax_ast.specs.declared.cond.Cond as conds
use Rattle.tp_syntax_ast.specs.declared.cond.Cond.{Cond}
use Rattle.tp_syntax_ast.specs.Parts.{parts}
use Rattle.tp_syntax_ast.specs.PartViews.{joined_view}
use Rattle.tp_syntax_ast.specs.EffectViews.{timed_view, timed_condition_view}
use Rattle.tp_syntax_ast.specs.declared.joined.Joined as joins
use Rattle.tp_syntax_ast.specs.declared.joined.Joined.{Joined}
use Rattle.tp_syntax_ast.specs.declared.timed.Timed.{Timed}
use Rattle.tp_ground.proofs.OnGreat.{cond_And, part_And}
use Rattle.tp_ground_laws.specs.Needed.{conjuncts, all_conjuncts, timed_conjuncts, all_timed_conjuncts, some_part, some_of_parts}

each_conjunct : (cs : List Cond) → all_conjuncts (conditions (map cond_view cs)) ≡ flat_map (λ c. conjuncts (cond_view c)) cs
each_conjunct [] = refl
each_conjunct (c ∷ cs) = ap (λ (fs : List Fact). conjuncts (cond_view c) ++ fs) (each_conjunct cs)

pub conjuncts_And : (c : Cond) (v : Vec Cond Global) (cs : List Cond) → c ≡ conds.And v → cs ≡ v.items → flat_map (λ c. conjuncts (cond_view c)) cs ≡ conjuncts (cond_view c)
conjuncts_And c v cs is items =
    sym (each_conjunct cs) ∙ ap (λ (ds : List Cond). all_conjuncts (conditions (map cond_view ds))) items ∙ sym (ap (λ d. conjuncts (cond_view d)) is ∙ ap conjuncts (cond_And v))

each_timed : (ps : List (Joined (Timed Cond))) → all_timed_conjuncts (parts (map timed_condition_view ps)) ≡ flat_map (λ p. timed_conjuncts (timed_condition_view p)) ps
each_timed [] = refl
each_timed (p ∷ ps) = ap (λ (fs : List Fact). timed_conjuncts (timed_condition_view p) ++ fs) (each_timed ps)

pub timed_And : (c : Joined (Timed Cond)) (v : Vec (Joined (Timed Cond)) Global) (cs : List (Joined (Timed Cond))) → c ≡ joins.And v → cs ≡ v.items → flat_map (λ p. timed_conjuncts (timed_condition_view p)) cs ≡ timed_conjuncts (timed_condition_view c)
timed_And c v cs is items =
    sym (each_timed cs) ∙ ap (λ (ds : List (Joined (Timed Cond))). all_timed_conjuncts (parts (map timed_condition_view ds))) items ∙ sym (ap (λ d. timed_conjuncts (timed_condition_view d)) is ∙ ap timed_conjuncts (part_And (timed_view cond_view) (λ _. false) v))

module _ {A B : Type 0} (seen : A → B) (test : B → Bool) where
  each_part : (ps : List (Joined A)) → some_of_parts test (parts (map (joined_view seen) ps)) ≡ list_any (λ p. some_part test (joined_view seen p)) ps
  each_part [] = refl
  each_part (p ∷ ps) = ap (λ b. some_part test (joined_view seen p) || b) (each_part ps)

  pub some_parts_And : (c : Joined A) (v : Vec (Joined A) Global) (cs : List (Joined A)) (b : Bool) → c ≡ joins.And v → cs ≡ v.items → b ≡ list_any (λ p. some_part test (joined_view seen p)) cs → b ≡ some_part test (joined_view seen c)
  some_parts_And c v cs b is items found = found ∙ sym (each_part cs) ∙ ap (λ (ds : List (Joined A)). some_of_parts test (parts (map (joined_view seen) ds))) items ∙ sym (ap (λ d. some_part test (joined_view seen d)) is ∙ ap (some_part test) (part_And seen test v))

-- an entry that says that an atom of a name holds gives one row more
pub one_fact : (e : Initial) (a : Atom) (n : Name) (rows : List (Vec Keyed Global)) (row : Vec Keyed Global) → e ≡ initials.Holds a → bytes_eq (string_bytes a.name) n ≡ true → keyed_row row ≡ map (λ t. object_for [] (term_view t)) a.terms.items → map keyed_row (rows ++ row ∷ []) ≡ map keyed_row rows ++ fact_of n (initial_view e)
one_fact e a n rows row is named same =
    map-append keyed_row rows (row ∷ [])
    ∙ ap (λ (xs : List (List Name)). map keyed_row rows ++ xs)
    (ap (λ (r : List Name). r ∷ []) (same ∙ sym (map-map (object_for []) term_view a.terms.items))
    ∙ sym (cond-true (bytes_eq (string_bytes a.name) n) (map (object_for []) (map term_view a.terms.items) ∷ []) [] named)
    ∙ sym (ap (λ (x : Initial). fact_of n (initial_view x)) is))
