-- The instances of actions, action after action, and that each binding that may be is found.
use Rattle.std.proofs.Common.{◌≡◌, ℕ, suc, ◌+◌, ◌<◌, true, List, [], ◌∷◌, ◌++◌, length, take, get_or, map, ◌⊎◌, inl, inr, ⊎_elim, sym, ap, subst, ◌∙◌, append_assoc, append-nil}
use Rattle.tp_syntax_ast.specs.Symbols.{Name, Declared}
use Rattle.tp_syntax_ast.specs.Actions.{Action}
use Rattle.tp_syntax_ast.specs.Problems.{Initial}
use Rattle.tp_syntax_ast.specs.DomainViews.{action_view}
use Rattle.tp_syntax_ast.specs.declared.action.Action as syntax
use Rattle.tp_task.specs.Bounds.{In}
use Rattle.tp_ground_bindings.specs.Bindings.{Universe, choices, bindings}
use Rattle.tp_ground_bindings.proofs.Along.{map_next}
use Rattle.tp_ground.specs.Reached.{Instance, instances}
use Rattle.tp_ground_laws.proofs.OnLists.{from_map, from_flat_map}
use Rattle.std.specs.List.{AllByRecursion}
use Rattle.std.proofs.lemmas.List.{length-map}
use Rattle.tp_syntax_ast.specs.Symbols.{typed_view}
use Rattle.tp_syntax_ast.specs.declared.symbols.Typed.{Typed}
use Rattle.tp_ground_joins.specs.Walks.{IsIn, IsAllowed}
use Rattle.tp_ground_joins.specs.declared.rows.Level.{Level}
use Rattle.tp_ground_joins.specs.declared.levels.Static.{Static}
use Rattle.tp_ground_joins.specs.Candidates.{HasAllOf}
use Rattle.tp_ground_joins.specs.Levels.{may_be, Picks, Holds, AreStatic}

pub in_as : {X : Type 0} (x : X) (xs : List X) → In x xs → IsIn x xs
in_as x [] h = h
in_as x (y ∷ xs) (inl e) = inl e
in_as x (y ∷ xs) (inr h) = inr (in_as x xs h)

pub in_again : {X : Type 0} (x : X) (xs : List X) → IsIn x xs → In x xs
in_again x [] h = h
in_again x (y ∷ xs) (inl e) = inl e
in_again x (y ∷ xs) (inr h) = inr (in_again x xs h)

in_front : {X : Type 0} (x : X) (xs ys : List X) → In x xs → In x (xs ++ ys)
in_front x [] ys h = absurd h
in_front x (y ∷ xs) ys (inl e) = inl e
in_front x (y ∷ xs) ys (inr h) = inr (in_front x xs ys h)

in_back : {X : Type 0} (x : X) (xs ys : List X) → In x ys → In x (xs ++ ys)
in_back x [] ys h = h
in_back x (y ∷ xs) ys h = inr (in_back x xs ys h)

in_either : {X : Type 0} (x : X) (xs ys : List X) → In x (xs ++ ys) → In x xs ⊎ In x ys
in_either x [] ys h = inr h
in_either x (y ∷ xs) ys (inl e) = inl (inl e)
in_either x (y ∷ xs) ys (inr h) = ⊎_elim (λ i. inl (inr i)) (λ i. inr i) (in_either x xs ys h)

in_mapped : {X Y : Type 0} (f : X → Y) (xs : List X) (x : X) → In x xs → In (f x) (map f xs)
in_mapped f [] x h = absurd h
in_mapped f (y ∷ xs) x (inl e) = inl (ap f e)
in_mapped f (y ∷ xs) x (inr h) = inr (in_mapped f xs x h)

-- a binding has one of the names of each parameter
pub binding_picks : (u : Universe) (ps : List Declared) (objects : List Name) → In objects (bindings u ps) → Picks (map (choices u) ps) objects
binding_picks u [] objects (inl e) = subst (Picks []) (sym e) tt
binding_picks u [] objects (inr h) = absurd h
binding_picks u (p ∷ ps) objects h =
    let f = from_flat_map (λ n. map (λ rest. n ∷ rest) (bindings u ps)) (choices u p) objects h in
    let g = from_map (λ rest. f.0 ∷ rest) (bindings u ps) objects f.2 in
    subst (Picks (map (choices u) (p ∷ ps))) g.2 (in_as f.0 (choices u p) f.1, binding_picks u ps g.0 g.1)

abbrev pub bound_to : Action → List Name → Instance
bound_to a ns = record { action = a; objects = ns }

of_more : (u : Universe) (some : List Action) (a : Action) → instances u (some ++ a ∷ []) ≡ instances u some ++ map (bound_to a) (bindings u a.parameters)
of_more u [] a = append-nil (map (bound_to a) (bindings u a.parameters))
of_more u (b ∷ some) a =
    ap (λ (is : List Instance). map (bound_to b) (bindings u b.parameters) ++ is) (of_more u some a)
    ∙ sym (append_assoc (map (bound_to b) (bindings u b.parameters)) (instances u some) (map (bound_to a) (bindings u a.parameters)))

pub no_candidates : (u : Universe) (as_ : List Action) (is : List Initial) (xs : List Instance) → HasAllOf u as_ is [] xs
no_candidates u as_ is xs i h may = absurd h

-- with the bindings of one action more
pub more_candidates : (u : Universe) (as_ : List Action) (is : List Initial) (all : List syntax.Action) (k : ℕ) (x : syntax.Action) (before now : List Instance) (rows : List (List Name))
    → k < length all → x ≡ get_or all k x → HasAllOf u as_ is (map action_view (take k all)) before
    → now ≡ before ++ map (bound_to (action_view x)) rows
    → ((objects : List Name) → In objects (bindings u (action_view x).parameters) → may_be as_ is (action_view x) objects ≡ true → In objects rows)
    → HasAllOf u as_ is (map action_view (take (k + 1) all)) now
more_candidates u as_ is all k x before now rows lt item has same found i h may =
    let a = action_view x in
    let split : In i (instances u (map action_view (take k all)) ++ map (bound_to a) (bindings u a.parameters)) =
    subst (In i) (ap (instances u) (map_next action_view all k x lt item) ∙ of_more u (map action_view (take k all)) a) h in
    subst (In i) (sym same)
    (⊎_elim
    (λ j. in_front i before (map (bound_to a) rows) (has i j may))
    (λ j. let f = from_map (bound_to a) (bindings u a.parameters) i j in
    in_back i before (map (bound_to a) rows) (subst (λ (z : Instance). In z (map (bound_to a) rows)) f.2 (in_mapped (bound_to a) rows f.0 (found f.0 f.1 (subst (λ (z : Instance). may_be as_ is z.action z.objects ≡ true) (sym f.2) may)))))
    (in_either i (instances u (map action_view (take k all))) (map (bound_to a) (bindings u a.parameters)) split))

binding_long : (u : Universe) (ps : List Declared) (objects : List Name) → In objects (bindings u ps) → length objects ≡ length ps
binding_long u [] objects (inl e) = ap length e
binding_long u [] objects (inr h) = absurd h
binding_long u (p ∷ ps) objects h =
    let f = from_flat_map (λ n. map (λ rest. n ∷ rest) (bindings u ps)) (choices u p) objects h in
    let g = from_map (λ rest. f.0 ∷ rest) (bindings u ps) objects f.2 in
    ap length (sym g.2) ∙ ap suc (binding_long u ps g.0 g.1)

-- levels that allow what the static conditions of an action do
pub allowed_bindings : (u : Universe) (as_ : List Action) (is : List Initial) (a : syntax.Action) (ps : List Typed) (ss : List Static) (lists : List (List Name)) (levels : List Level)
    → ps ≡ a.parameters.items → lists ≡ map (choices u) (map typed_view ps) → AreStatic as_ is (action_view a) ss
    → ((row ns : List Name) → length (row ++ ns) ≡ length ps → Picks lists ns → AllByRecursion (Holds (map typed_view ps) (row ++ ns)) ss → IsAllowed levels row ns)
    → (objects : List Name) → In objects (bindings u (action_view a).parameters) → may_be as_ is (action_view a) objects ≡ true → IsAllowed levels [] objects
allowed_bindings u as_ is a ps ss lists levels same names fixed allowed objects i may =
    let here : In objects (bindings u (map typed_view ps)) = subst (λ (qs : List Typed). In objects (bindings u (map typed_view qs))) (sym same) i in
    allowed [] objects (binding_long u (map typed_view ps) objects here ∙ length-map ps typed_view)
    (subst (λ ls. Picks ls objects) (sym names) (binding_picks u (map typed_view ps) objects here))
    (subst (λ (qs : List Typed). AllByRecursion (Holds (map typed_view qs) objects) ss) (sym same) (fixed objects may))
