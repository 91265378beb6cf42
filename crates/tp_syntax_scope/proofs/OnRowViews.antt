-- Rows of items that share their types, and of types that share their parent.
use Rattle.std.proofs.Common.{◌≡◌, ℕ, ◌+◌, ◌<◌, ◌≤◌, List, [], ◌∷◌, ◌++◌, map, take, get_or, length, Bool, true, false, not, cond, filter, append-nil, refl, sym, ap, ◌∙◌, subst, append_assoc, true≢false, arith, String, Global, string_bytes}
use Rattle.std.proofs.lemmas.List.{take_more, take_all, map-append, length-map}
use Rattle.std.proofs.lemmas.List.Elements.{filter-append}
use Rattle.tp_syntax_ast.specs.Symbols.{Name, Declared, Parent, parent_view, typed_view}
use Rattle.tp_syntax_ast.specs.TypedLists.{given}
use Rattle.tp_syntax_ast.specs.Domains.{object, is_object, above, type_below}
use Rattle.tp_syntax_ast.specs.declared.symbols.Typed.{Typed}
use Rattle.tp_syntax_ast.specs.declared.types.TypeName.{TypeName}
use Rattle.tp_syntax_ast.specs.Rows.{last_of, AreRows, is_marked}
use Rattle.tp_syntax_ast.specs.Shared.{parent_in}
use Rattle.tp_syntax_types.proofs.OnRows.{one_more, last_one, last_taken, as_before, rows_before, rows_map}
use Rattle.tp_syntax_types.proofs.OnTables.{map_twice}
use Rattle.tp_syntax_scope.specs.declared.type_reader.TypeRows.{TypeRows}
use Rattle.tp_syntax_scope.specs.RowViews.{AreTypeRows, HaveRows, AreParentRows, HaveParentRows}
use Rattle.tp_syntax_ast.specs.Shared.{ShareTypes}

-- ---- items

abbrev types_of : Declared → List Name
types_of d = d.types

pub no_rows : (ms : List Bool) (ds : List Declared) → ms ≡ [] → ds ≡ [] → HaveRows ms ds
no_rows ms ds none no_items = rw (none, no_items) (refl, record {})

length-append-one : {T : Type 0} (xs : List T) (x : T) → length (xs ++ x ∷ []) ≡ length xs + 1
length-append-one [] x = refl
length-append-one (y ∷ xs) x = let e = length-append-one xs x in omega (e, arith)

-- one more
pub as_many : {S T : Type 0} (ms new : List S) (ys zs : List T) (m : S) (y : T) → new ≡ ms ++ m ∷ [] → zs ≡ ys ++ y ∷ [] → length ms ≡ length ys → length new ≡ length zs
as_many ms new ys zs m y marked grown e =
    ap length marked ∙ length-append-one ms m ∙ ap (λ (k : ℕ). k + 1) e ∙ sym (length-append-one ys y) ∙ sym (ap length grown)

module _ {T : Type 0} (ms new : List Bool) (x : T) (ys zs : List T) (m : Bool) (y : T) (marked : new ≡ ms ++ m ∷ []) (grown : zs ≡ ys ++ y ∷ []) where
  pub one_more_row : length ms ≡ length ys → AreRows ms x ys → (m ≡ true → last_of x ys ≡ y) → AreRows new x zs
  one_more_row e rows h = rw (marked, grown) (one_more ms x ys m y e rows h)

  pub last_is : last_of x zs ≡ y
  last_is = ap (last_of x) grown ∙ last_one x ys y

module _ (ms new : List Bool) (ds es : List Declared) (m : Bool) (ts : List Name) (n : Name) (marked : new ≡ ms ++ m ∷ []) (grown : es ≡ ds ++ given ts n ∷ []) where
  types_grown : map types_of es ≡ map types_of ds ++ ts ∷ []
  types_grown = ap (map types_of) grown ∙ map-append types_of ds (given ts n ∷ [])

  pub rows_given : HaveRows ms ds → (m ≡ true → last_of [] (map types_of ds) ≡ ts) → HaveRows new es
  rows_given rows h = (
    as_many ms new ds es m (given ts n) marked grown rows.0,
    one_more_row ms new [] (map types_of ds) (map types_of es) m ts marked types_grown (rows.0 ∙ sym (length-map ds types_of)) rows.1 h,
  )

  pub last_given : last_of [] (map types_of es) ≡ ts
  last_given = last_is ms new [] (map types_of ds) (map types_of es) m ts marked types_grown

pub given_next : (ts : List Name) (old done new : List Declared) (ns : List (String Global)) (n : String Global) → done ≡ old ++ map (given ts) (map string_bytes ns) → new ≡ done ++ given ts (string_bytes n) ∷ [] → new ≡ old ++ map (given ts) (map string_bytes (ns ++ n ∷ []))
given_next ts old done new ns n made grown =
    grown
    ∙ ap (λ (ds : List Declared). ds ++ given ts (string_bytes n) ∷ []) made
    ∙ append_assoc old (map (given ts) (map string_bytes ns)) (given ts (string_bytes n) ∷ [])
    ∙ ap (λ (ds : List Declared). old ++ ds) (sym (
    ap (map (given ts)) (map-append string_bytes ns (n ∷ []))
    ∙ map-append (given ts) (map string_bytes ns) (string_bytes n ∷ [])))

same_map : {A : Type 0} (xs : List A) → map (λ (x : A). x) xs ≡ xs
same_map [] = refl
same_map (x ∷ xs) = ap (λ ys. x ∷ ys) (same_map xs)

pub given_all : (ts : List Name) (old new : List Declared) (ns all : List (String Global)) → map (λ (n : String Global). n) ns ≡ all → new ≡ old ++ map (given ts) (map string_bytes ns) → new ≡ old ++ map (given ts) (map string_bytes all)
given_all ts old new ns all is made = made ∙ ap (λ (ms : List (String Global)). old ++ map (given ts) (map string_bytes ms)) (sym (same_map ns) ∙ is)

pub share_types : (ms : List Bool) (items : List Typed) → HaveRows ms (map typed_view items) → ShareTypes ms items
share_types ms items rows = subst (AreRows ms []) (map_twice types_of typed_view items) rows.1

pub type_rows : (ms : List Bool) (items : List Typed) → ShareTypes ms items → AreTypeRows ms (map typed_view items)
type_rows ms items rows = subst (AreRows ms []) (sym (map_twice types_of typed_view items)) rows

-- ---- types

abbrev pub parent_below : Typed → Name
parent_below i = (type_below (typed_view i)).parent

pub rows_below : (ms : List Bool) (items : List Typed) → AreParentRows ms (map type_below (map typed_view items)) → AreRows ms object (map parent_below items)
rows_below ms items rows = subst (AreRows ms object) (ap (map (λ (p : Parent). p.parent)) (map_twice type_below typed_view items) ∙ map_twice (λ (p : Parent). p.parent) (λ (i : Typed). type_below (typed_view i)) items) rows

pub parent_rows : (ms : List Bool) (ts : List TypeName) → AreParentRows ms (map parent_view ts) → AreRows ms object (map parent_in ts)
parent_rows ms ts rows = subst (AreRows ms object) (map_twice (λ (p : Parent). p.parent) parent_view ts) rows

-- items with their rows give types with theirs
pub rows_given_below : (ms : List Bool) (ds : List Declared) → AreTypeRows ms ds → AreParentRows ms (map type_below ds)
rows_given_below ms ds rows = subst (AreRows ms object) (map_twice above types_of ds ∙ sym (map_twice (λ (p : Parent). p.parent) type_below ds)) (rows_map above ms [] (map types_of ds) rows)

pub same_rows : (ms ns : List Bool) (ps qs : List Parent) → ms ≡ ns → ps ≡ qs → AreParentRows ns qs → AreParentRows ms ps
same_rows ms ns ps qs same are rows = rw (same, are) rows

pub rows_mentioned : (ms : List Bool) (ps qs all : List Parent) → HaveParentRows ms ps → all ≡ ps ++ qs → AreParentRows ms all
rows_mentioned ms ps qs all rows grown =
    let up : Parent → Name = λ p. p.parent in
    subst (AreRows ms object) (sym (ap (map up) grown ∙ map-append up ps qs)) (rows_before ms object (map up ps) (map up qs) (rows.0 ∙ sym (length-map ps up)) rows.1)

pub pushed_views : (ts new : List TypeName) (t : TypeName) → new ≡ ts ++ t ∷ [] → map parent_view new ≡ map parent_view ts ++ parent_view t ∷ []
pushed_views ts new t grown = ap (map parent_view) grown ∙ map-append parent_view ts (t ∷ [])

-- ---- `object` is left out

abbrev kept : Parent → Bool
kept p = not (is_object p)

module _ (ts : List TypeName) (k : ℕ) (t : TypeName) (lt : k < length ts) (at : t ≡ get_or ts k t) where
  taken_more : map parent_view (take (k + 1) ts) ≡ map parent_view (take k ts) ++ parent_view t ∷ []
  taken_more = ap (map parent_view) (take_more ts k t lt) ∙ map-append parent_view (take k ts) (get_or ts k t ∷ []) ∙ ap (λ (u : TypeName). map parent_view (take k ts) ++ parent_view u ∷ []) (sym at)

  filtered : (b : Bool) → is_object (parent_view t) ≡ b → filter kept (parent_view t ∷ []) ≡ cond (not b) (parent_view t ∷ []) []
  filtered b is = ap (λ c. cond (not c) (parent_view t ∷ []) []) is

  pub object_passed : is_object (parent_view t) ≡ true → filter kept (map parent_view (take (k + 1) ts)) ≡ filter kept (map parent_view (take k ts))
  object_passed is =
      ap (filter kept) taken_more ∙ filter-append kept (map parent_view (take k ts)) (parent_view t ∷ [])
      ∙ ap (λ (ps : List Parent). filter kept (map parent_view (take k ts)) ++ ps) (filtered true is)
      ∙ append-nil (filter kept (map parent_view (take k ts)))

  pub type_kept : is_object (parent_view t) ≡ false → filter kept (map parent_view (take (k + 1) ts)) ≡ filter kept (map parent_view (take k ts)) ++ parent_view t ∷ []
  type_kept is =
      ap (filter kept) taken_more ∙ filter-append kept (map parent_view (take k ts)) (parent_view t ∷ [])
      ∙ ap (λ (ps : List Parent). filter kept (map parent_view (take k ts)) ++ ps) (filtered false is)

-- what is kept of the first types
pub record Kept (ts : List TypeName) (k : ℕ) (r : TypeRows) (passed : Bool) : Type 0 where
  pub types : map parent_view r.types.items ≡ filter (λ p. not (is_object p)) (map parent_view (take k ts))
  pub marks : HaveParentRows r.marks.items (map parent_view r.types.items)
  pub last : passed ≡ false → last_of object (map parent_in (take k ts)) ≡ last_of object (map (λ p. p.parent) (map parent_view r.types.items))

module _ (ts : List TypeName) (k : ℕ) (t : TypeName) (lt : k < length ts) (at : t ≡ get_or ts k t) (r : TypeRows) (passed : Bool) (so_far : Kept ts k r passed) where
  pub goes_past : is_object (parent_view t) ≡ true → Kept ts (k + 1) r true
  goes_past is = record {
    types = so_far.types ∙ sym (object_passed ts k t lt at is);
    marks = so_far.marks;
    last = λ e. absurd (true≢false e);
  }

  pub keeps : (ms : List Bool) (s : TypeRows) (m : Bool) → AreRows ms object (map parent_in ts) → is_object (parent_view t) ≡ false → (m ≡ true → (is_marked ms k ≡ true) × (passed ≡ false)) → map parent_view s.types.items ≡ map parent_view r.types.items ++ parent_view t ∷ [] → s.marks.items ≡ r.marks.items ++ m ∷ [] → Kept ts (k + 1) s false
  keeps ms s m rows other mark grown marked =
      let up : Parent → Name = λ p. p.parent in
      let before = map parent_view r.types.items in
      let parents : map up (map parent_view s.types.items) ≡ map up before ++ parent_in t ∷ [] = ap (map up) grown ∙ map-append up before (parent_view t ∷ []) in
      let same : m ≡ true → last_of object (map up before) ≡ parent_in t =
      λ is. sym (so_far.last (mark is).1) ∙ as_before parent_in ms object ts k t rows (mark is).0 lt at in
      record {
        types = grown ∙ ap (λ (ps : List Parent). ps ++ parent_view t ∷ []) so_far.types ∙ sym (type_kept ts k t lt at other);
        marks = (
          as_many r.marks.items s.marks.items before (map parent_view s.types.items) m (parent_view t) marked grown so_far.marks.0,
          one_more_row r.marks.items s.marks.items object (map up before) (map up (map parent_view s.types.items)) m (parent_in t) marked parents (so_far.marks.0 ∙ sym (length-map before up)) so_far.marks.1 same,
        );
        last = λ e. last_taken parent_in object ts k t lt at ∙ sym (last_is r.marks.items s.marks.items object (map up before) (map up (map parent_view s.types.items)) m (parent_in t) marked parents);
      }

pub kept_same : (ts : List TypeName) (k : ℕ) (r s : TypeRows) (a b : Bool) → r ≡ s → a ≡ b → Kept ts k s b → Kept ts k r a
kept_same ts k r s a b same is h = rw (same, is) h

pub none_kept : (ts : List TypeName) (r : TypeRows) → r.types.items ≡ [] → r.marks.items ≡ [] → Kept ts 0 r false
none_kept ts r none unmarked = record {
  types = ap (map parent_view) none;
  marks = rw (none, unmarked) (refl, record {});
  last = λ e. sym (ap (λ (us : List TypeName). last_of object (map (λ (p : Parent). p.parent) (map parent_view us))) none);
}

pub all_kept : (ts : List TypeName) (k : ℕ) (r : TypeRows) (passed : Bool) → length ts ≤ k → Kept ts k r passed → map parent_view r.types.items ≡ filter (λ p. not (is_object p)) (map parent_view ts)
all_kept ts k r passed le h = h.types ∙ ap (λ (us : List TypeName). filter kept (map parent_view us)) (take_all k ts le)
