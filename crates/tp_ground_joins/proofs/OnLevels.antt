-- Static conditions are among their rows under each binding under which the action may happen, and the checks that they
-- make allow each such binding.
use Rattle.std.proofs.Common.{◌≡◌, ℕ, zero, suc, ◌+◌, ◌-◌, ◌<◌, Bool, true, false, ◌||◌, nat_eq, List, [], ◌∷◌, ◌++◌, length, take, get_or, map, Option, Some, unwrap_or, inl, inr, ⊎_elim, refl, sym, ap, ap₂, subst, ◌∙◌, arith, append_assoc, Vec, Global}
use Rattle.std.specs.List.{AllByRecursion, list_all}
use Rattle.std.specs.Str.{bytes_eq}
use Rattle.std.specs.HashSet.{contains}
use Rattle.std.proofs.lemmas.Bool.{and_parts, and_from, or_cases, cases_Bool, cond-true, cond-false}
use Rattle.std.proofs.lemmas.List.{map-append, length-append, length-map, get_or-map, get_or-take, take-append-le, take_all}
use Rattle.std.proofs.lemmas.List.Folds.{list_all-append}
use Rattle.tp_syntax_ast.specs.Symbols.{Name, Declared}
use Rattle.tp_syntax_ast.specs.Terms.{Argument, object, variable, Fact, term_view}
use Rattle.tp_syntax_ast.specs.Actions.{Action}
use Rattle.tp_syntax_ast.specs.Problems as problems
use Rattle.tp_syntax_ast.specs.Problems.{Initial}
use Rattle.tp_syntax_ast.specs.declared.term.Term.{Term}
use Rattle.tp_task.specs.Bounds.{In}
use Rattle.tp_task.specs.Words.{same_words}
use Rattle.tp_task.proofs.OnWords.{same_words_are, same_words_self}
use Rattle.tp_ground_bindings.specs.Bindings.{bound, object_among, object_for, words_in}
use Rattle.tp_ground_bindings.proofs.Along.{map_next}
use Rattle.tp_ground.specs.Initially.{initial_in, is_initially_true}
use Rattle.tp_ground_laws.specs.Needed.{needed, is_added}
use Rattle.tp_ground_laws.specs.WholeTasks.{may_be_added}
use Rattle.tp_ground_joins.specs.Keys.{key_of}
use Rattle.tp_ground_joins.specs.Views.{keyed_view}
use Rattle.tp_ground_joins.specs.Checks.{has_row, allows, all_allow}
use Rattle.tp_ground_joins.specs.Walks.{IsIn, IsAllowed}
use Rattle.tp_ground_joins.specs.declared.checks.Check.{Check}
use Rattle.tp_ground_joins.specs.declared.keyed.Keyed.{Keyed}
use Rattle.tp_ground_joins.specs.declared.rows.Level.{Level}
use Rattle.tp_ground_joins.specs.Facts.{keyed_row, fact_of, facts_of}
use Rattle.tp_ground_joins.specs.Levels.{may_be, arguments_of, rows_of, IsStatic, Holds, AreStatic, place_from, place_of, AreSame, IsFair, AreFair, Picks}
use Rattle.tp_ground_joins.specs.declared.levels.Static.{Static}

-- ---- lists

in_back : {Y : Type 0} (y : Y) (xs ys : List Y) → IsIn y ys → IsIn y (xs ++ ys)
in_back y [] ys h = h
in_back y (x ∷ xs) ys h = inr (in_back y xs ys h)

of_all : {Y : Type 0} (P : Y → Type 0) (xs : List Y) (x : Y) → AllByRecursion P xs → IsIn x xs → P x
of_all P [] x a i = absurd i
of_all P (y ∷ ys) x a (inl e) = subst P (sym e) a.0
of_all P (y ∷ ys) x a (inr i) = of_all P ys x a.1 i

pub all_got : {Y : Type 0} (P : Y → Type 0) (xs : List Y) (i : ℕ) (x : Y) → AllByRecursion P xs → i < length xs → x ≡ get_or xs i x → P x
all_got P [] i x a lt is = absurd (omega arith)
all_got P (y ∷ ys) zero x a lt is = subst P (sym is) a.0
all_got P (y ∷ ys) (suc i) x a lt is = all_got P ys i x a.1 (omega arith) is

pub all_more : {Y : Type 0} (P : Y → Type 0) (xs ys : List Y) → AllByRecursion P xs → AllByRecursion P ys → AllByRecursion P (xs ++ ys)
all_more P [] ys h k = k
all_more P (x ∷ xs) ys h k = (h.0, all_more P xs ys h.1 k)

pub all_still : {Y : Type 0} (P Q : Y → Type 0) (xs : List Y) → ((x : Y) → P x → Q x) → AllByRecursion P xs → AllByRecursion Q xs
all_still P Q [] f h = tt
all_still P Q (x ∷ xs) f h = (f x h.0, all_still P Q xs f h.1)

list_all_in : {A : Type 0} (p : A → Bool) (xs : List A) (x : A) → list_all p xs ≡ true → In x xs → p x ≡ true
list_all_in p [] x h i = absurd i
list_all_in p (y ∷ ys) x h (inl e) = ap p e ∙ (and_parts (p y) (list_all p ys) h).0
list_all_in p (y ∷ ys) x h (inr i) = list_all_in p ys x (and_parts (p y) (list_all p ys) h).1 i

-- ---- what is true at first is among the rows

bytes_self : (n : Name) → bytes_eq n n ≡ true
bytes_self n = (and_parts (bytes_eq n n) true (same_words_self (n ∷ []))).0

in_facts : (is : List Initial) (n : Name) (ws : List Name) → is_initially_true (map initial_in is) (n ∷ ws) ≡ true → IsIn ws (facts_of n is)
in_facts [] n ws h = absurd (cc)
in_facts (problems.holds f ∷ is) n ws h =
    ⊎_elim
    (λ e. let same : (n ∷ ws) ≡ words_in [] f = same_words_are (n ∷ ws) (words_in [] f) e in
    let name : n ≡ f.name = cc in
    let args : ws ≡ map (object_for []) f.arguments = cc in
    let found : bytes_eq f.name n ≡ true = subst (λ m. bytes_eq m n ≡ true) name (bytes_self n) in
    subst (λ xs. IsIn ws (xs ++ facts_of n is)) (sym (cond-true (bytes_eq f.name n) (map (object_for []) f.arguments ∷ []) [] found)) (inl args))
    (λ e. in_back ws (fact_of n (problems.holds f)) (facts_of n is) (in_facts is n ws e))
    (or_cases (same_words (n ∷ ws) (words_in [] f)) _ h)
in_facts (problems.fails f ∷ is) n ws h = in_facts is n ws h
in_facts (problems.has_value f v ∷ is) n ws h = in_facts is n ws h

pub got_in : {A B : Type 0} (f : A → B) (xs : List A) (i : ℕ) (x : A) → i < length xs → x ≡ get_or xs i x → In (f x) (map f xs)
got_in f [] i x lt is = absurd (omega arith)
got_in f (y ∷ xs) zero x lt is = inl (ap f is)
got_in f (y ∷ xs) (suc i) x lt is = inr (got_in f xs i x (omega arith) is)

pub static_holds : (as_ : List Action) (is : List Initial) (a : Action) (f : Fact) (s : Static) → IsStatic as_ is f s → In f (needed a.body) → (objects : List Name) → may_be as_ is a objects ≡ true → Holds a.parameters objects s
static_holds as_ is a f s st own objects may =
    let env = bound a.parameters objects in
    let h : (may_be_added as_ (words_in env f) || is_initially_true (map initial_in is) (words_in env f)) ≡ true =
    list_all_in (λ f. may_be_added as_ (words_in env f) || is_initially_true (map initial_in is) (words_in env f)) (needed a.body) f may own in
    ⊎_elim
    (λ e. let z : true ≡ false = sym e ∙ st.never in absurd (cc))
    (λ e. subst (λ (rows : List (List Name)). IsIn (map (object_for env) (arguments_of s)) rows) (sym st.rows)
    (subst (λ (args : List Argument). IsIn (map (object_for env) args) (facts_of f.name is)) (sym st.arguments) (in_facts is f.name (map (object_for env) f.arguments) e)))
    (or_cases (is_added as_ f.name) _ h)

pub more_static : (as_ : List Action) (is : List Initial) (a : Action) (ss : List Static) (s : Static) → AreStatic as_ is a ss → ((objects : List Name) → may_be as_ is a objects ≡ true → Holds a.parameters objects s) → AreStatic as_ is a (ss ++ s ∷ [])
more_static as_ is a ss s h k = λ objects may. all_more (Holds a.parameters objects) ss (s ∷ []) (h objects may) (k objects may, tt)

-- ---- columns and places

record IsPlaced (ps : List Declared) (objects : List Name) (v : Name) (k q : ℕ) : Type 0 where
  pub j : ℕ
  pub at : q ≡ k + j
  pub stands : object_among (bound ps objects) v ≡ Some (get_or objects j [])

placed : (k : ℕ) (ps : List Declared) (objects : List Name) (v : Name) (q : ℕ) → length objects ≡ length ps → place_from k ps v ≡ Some q → IsPlaced ps objects v k q
placed k [] objects v q l h = absurd (cc)
placed k (p ∷ ps) [] v q l h = absurd (omega (arith, l))
placed k (p ∷ ps) (o ∷ os) v q l h =
    ⊎_elim
    (λ e. let same : Some k ≡ Some q = sym (cond-true (bytes_eq p.name v) (Some k) (place_from (k + 1) ps v) e) ∙ h in
    let is : k ≡ q = cc in
    record { j = 0; at = omega (arith, is); stands = cond-true (bytes_eq p.name v) (Some o) (object_among (bound ps os) v) e })
    (λ e. let r = placed (k + 1) ps os v q (omega (arith, l)) (sym (cond-false (bytes_eq p.name v) (Some k) (place_from (k + 1) ps v) e) ∙ h) in
    let at = r.at in
    record { j = suc r.j; at = omega (arith, at); stands = cond-false (bytes_eq p.name v) (Some o) (object_among (bound ps os) v) e ∙ r.stands })
    (cases_Bool (bytes_eq p.name v))

object_at : (ps : List Declared) (objects : List Name) (many : ℕ) (arg : Argument) (q : ℕ) → length objects ≡ length ps → place_of ps arg ≡ Some q → q < many → object_for (bound ps objects) arg ≡ get_or (take many objects) q []
object_at ps objects many (object n) q l h lt = absurd (cc)
object_at ps objects many (variable v) q l h lt =
    let r = placed 0 ps objects v q l h in
    let same : r.j ≡ q = let at = r.at in omega (arith, at) in
    ap (λ (o : Option Name). unwrap_or o v) r.stands ∙ ap (λ j. get_or objects j []) same ∙ sym (get_or-take many objects q [] lt)

pub no_columns : (ps : List Declared) (args : List Argument) (many : ℕ) → AreSame ps args many [] []
no_columns ps args many objects l = refl

pub more_columns : (ps : List Declared) (terms : List Term) (many : ℕ) (cs qs : List ℕ) (i q : ℕ) (x : Term) → AreSame ps (map term_view terms) many cs qs → i < length terms → x ≡ get_or terms i x → place_of ps (term_view x) ≡ Some q → q < many → AreSame ps (map term_view terms) many (cs ++ i ∷ []) (qs ++ q ∷ [])
more_columns ps terms many cs qs i q x h lt is place below objects l =
    let env = bound ps objects in
    let row = map (object_for env) (map term_view terms) in
    let there : get_or row i [] ≡ object_for env (term_view x) =
    get_or-map (object_for env) (map term_view terms) i (term_view x) [] (subst (λ n. i < n) (sym (length-map terms term_view)) lt)
    ∙ ap (object_for env) (get_or-map term_view terms i x (term_view x) lt ∙ ap term_view (sym is)) in
    map-append (λ j. get_or row j []) cs (i ∷ [])
    ∙ ap₂ (λ (a b : List Name). a ++ b) (h objects l) (ap (λ (n : Name). n ∷ []) (there ∙ object_at ps objects many (term_view x) q l place below))
    ∙ sym (map-append (λ j. get_or (take many objects) j []) qs (q ∷ []))

-- ---- checks

pub fair_of : (ps : List Declared) (s : Static) (many : ℕ) (c : Check) → AreSame ps (arguments_of s) many c.columns.items c.places.items → AllByRecursion (λ r. has_row c r ≡ true) (rows_of s) → IsFair ps s many c
fair_of ps s many c same rows objects l holds =
    subst (λ (ns : List Name). contains nat_eq c.keys (key_of 0 ns) ≡ true) (same objects l)
    (of_all (λ r. has_row c r ≡ true) (rows_of s) (map (object_for (bound ps objects)) (arguments_of s)) rows holds)

all_pass : (ps : List Declared) (s : Static) (many : ℕ) (cs : List Check) (objects : List Name) → length objects ≡ length ps → Holds ps objects s → AllByRecursion (IsFair ps s many) cs → all_allow cs (take many objects) ≡ true
all_pass ps s many [] objects l h f = refl
all_pass ps s many (c ∷ cs) objects l h f = and_from (allows c (take many objects)) _ (f.0 objects l h) (all_pass ps s many cs objects l h f.1)

pub more_fair : (ps : List Declared) (ss : List Static) (many : ℕ) (cs new : List Check) (i : ℕ) (s : Static) → AreFair ps ss many cs → i < length ss → s ≡ get_or ss i s → AllByRecursion (IsFair ps s many) new → AreFair ps ss many (cs ++ new)
more_fair ps ss many cs new i s h lt is f objects l all =
    list_all-append (λ c. allows c (take many objects)) cs new
    ∙ and_from (all_allow cs (take many objects)) _ (h objects l all) (all_pass ps s many new objects l (all_got (Holds ps objects) ss i s all lt is) f)

pub more_rows : (old new : Check) (rows : List (Vec Keyed Global)) (k : ℕ) (x : Vec Keyed Global) → k < length rows → x ≡ get_or rows k x → AllByRecursion (λ r. has_row old r ≡ true) (map keyed_row (take k rows)) → ((other : List Name) → has_row old other ≡ true → has_row new other ≡ true) → has_row new (keyed_row x) ≡ true → AllByRecursion (λ r. has_row new r ≡ true) (map keyed_row (take (k + 1) rows))
more_rows old new rows k x lt is all kept added =
    subst (AllByRecursion (λ r. has_row new r ≡ true)) (sym (map_next keyed_row rows k x lt is))
    (all_more (λ r. has_row new r ≡ true) (map keyed_row (take k rows)) (keyed_row x ∷ []) (all_still (λ r. has_row old r ≡ true) (λ r. has_row new r ≡ true) (map keyed_row (take k rows)) kept all) (added, tt))

-- ---- levels

picks_long : (ls : List (List Name)) (ns : List Name) → Picks ls ns → length ns ≡ length ls
picks_long [] [] h = refl
picks_long [] (n ∷ ns) h = absurd h
picks_long (l ∷ ls) [] h = absurd h
picks_long (l ∷ ls) (n ∷ ns) h = ap suc (picks_long ls ns h.1)

pub none_allowed : (row ns : List Name) → Picks [] ns → IsAllowed [] row ns
none_allowed row [] h = tt
none_allowed row (n ∷ ns) h = absurd h

-- what is said of the last levels is so of one level more
pub more_allowed : (ps : List Declared) (ss : List Static) (level : Level) (others : List Level) (names : List Name) (rest : List (List Name)) (many : ℕ)
    → map keyed_view level.names.items ≡ names → AreFair ps ss many level.checks.items → many ≡ length ps - length rest
    → ((row ns : List Name) → length (row ++ ns) ≡ length ps → Picks rest ns → AllByRecursion (Holds ps (row ++ ns)) ss → IsAllowed others row ns)
    → (row ns : List Name) → length (row ++ ns) ≡ length ps → Picks (names ∷ rest) ns → AllByRecursion (Holds ps (row ++ ns)) ss → IsAllowed (level ∷ others) row ns
more_allowed ps ss level others names rest many same fair count others_are row [] l pick all = absurd pick
more_allowed ps ss level others names rest many same fair count others_are row (n ∷ ns) l pick all =
    let long = picks_long rest ns pick.1 in
    let one : length (row ++ n ∷ ns) ≡ length row + suc (length ns) = length-append row (n ∷ ns) in
    let front : length (row ++ n ∷ []) ≡ length row + 1 = length-append row (n ∷ []) in
    let split : (row ++ n ∷ []) ++ ns ≡ row ++ n ∷ ns = append_assoc row (n ∷ []) ns in
    let taken : take many (row ++ n ∷ ns) ≡ row ++ n ∷ [] =
    ap (take many) (sym split) ∙ take-append-le many (row ++ n ∷ []) ns (omega (arith, long, one, front, count, l)) ∙ take_all many (row ++ n ∷ []) (omega (arith, long, one, front, count, l)) in (
      subst (IsIn n) (sym same) pick.0,
      subst (λ r. all_allow level.checks.items r ≡ true) taken (fair (row ++ n ∷ ns) l all),
      others_are (row ++ n ∷ []) ns (ap length split ∙ l) pick.1 (subst (λ r. AllByRecursion (Holds ps r) ss) (sym split) all),
    )
