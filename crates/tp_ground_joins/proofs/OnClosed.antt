-- What a set of numbers has in it, its words have in it.
use Rattle.std.proofs.Common.{◌≡◌, ℕ, zero, suc, ◌<◌, Bool, true, false, not, ◌&&◌, ◌||◌, if◌then◌else◌, List, [], ◌∷◌, map, length, get_or, ⊎_elim, refl, sym, ap, ap₂, subst, ◌∙◌, arith}
use Rattle.std.specs.List.{AllByRecursion, IsDistinct, list_all}
use Rattle.std.proofs.lemmas.Bool.{and_parts, and_from, or_cases, or_left, or_right}
use Rattle.tp_syntax_ast.specs.Conditions.{Condition}
use Rattle.tp_syntax_ast.specs.Parts.{Joined}
use Rattle.tp_syntax_ast.specs.Effects.{Timed}
use Rattle.tp_syntax_ast.specs.Actions as actions
use Rattle.tp_syntax_ast.specs.Problems.{Initial}
use Rattle.tp_syntax_ast.specs.declared.words.TimeSpecifier.{TimeSpecifier}
use Rattle.tp_syntax_ast.specs.declared.words.TimeSpecifier.TheVariants.{AtStart, OverAll, AtEnd}
use Rattle.tp_task.specs.declared.events.Cond.{Cond}
use Rattle.tp_task.specs.declared.events.Body.{Body}
use Rattle.tp_task.specs.declared.events.Body.TheVariants.{Instant, Durative}
use Rattle.tp_task.specs.Reach as numbers
use Rattle.tp_task.specs.Tables.{Tables, words_at}
use Rattle.tp_task.specs.Words.{Words, same_words}
use Rattle.tp_task.specs.Rounds.{set_of}
use Rattle.tp_ground_bindings.specs.Bindings.{Universe, Env, bound}
use Rattle.tp_ground.specs.Written.{GroundCondition, GroundBody, instant, durative, condition_in, condition_at, condition_part, conjuncts_at, conditions_from, is_specifier, body_in}
use Rattle.tp_ground.specs.ReadBack.{named_condition, named_body}
use Rattle.tp_ground.specs.Initially.{initial_in, is_initially_true, named_initial, true_at}
use Rattle.tp_ground.proofs.OnFits.{are_words, in_range, parts_ok}
use Rattle.tp_ground.specs.Reached.{Instance, action_of, met}
use Rattle.std.proofs.Common.{Vec, Global}
use Rattle.std.proofs.lemmas.Simd.{map-map}
use Rattle.tp_syntax_ast.specs.DomainViews.{initial_view}
use Rattle.tp_syntax_ast.specs.declared.problem.Initial as syntax
use Rattle.tp_task.specs.Words.{with_all}
use Rattle.tp_ground.specs.Mentions.{Mentions}
use Rattle.tp_ground.specs.declared.beginning.NumberedInitial.{NumberedInitial}
use Rattle.tp_ground_bodies.specs.Lowered.{IsLowered}
use Rattle.tp_ground_bodies.proofs.OnLowered.{notes_extend}
use Rattle.tp_ground.proofs.OnInitially.{true_there, same_words-Decides, with_all_distinct}
use Rattle.tp_ground.proofs.OnTasks.{same_extend}
use Rattle.tp_ground.proofs.OnMet.{worded, all_worded, met_same}
use Rattle.tp_ground.proofs.OnReach.{in_words, words_there, words_same}
use Rattle.tp_ground.proofs.OnWorded.{condition_worded}
use Rattle.tp_ground_laws.specs.WholeTasks.{is_whole, HasAll, IsWithin}
use Rattle.tp_ground_joins.specs.Closed.{is_within, is_whole_by, HasFirst, AreMarkedFrom, IsNumbered, AreMarked}
use Rattle.tp_ground_joins.specs.declared.numbered.Numbered.{Numbered}

-- ---- what is written out asks for words

each_worded : (cs : List GroundCondition) → all_worded (conditions_from cs) ≡ list_all worded cs
each_worded [] = refl
each_worded (c ∷ cs) = ap (λ b. worded c && b) (each_worded cs)

part_worded : (u : Universe) (m : TimeSpecifier) (env : Env) (t : Timed Condition) → list_all worded (condition_part u m env t) ≡ true
part_worded u m env t = by (is_specifier t.specifier m)
  where
    by : (b : Bool) → list_all worded (if b then condition_in u env t.what ∷ [] else []) ≡ true
    by true = and_from (worded (condition_in u env t.what)) _ (condition_worded u env t.what) refl
    by false = refl

timed_worded : (u : Universe) (m : TimeSpecifier) (env : Env) (c : Joined (Timed Condition)) → worded (condition_at u m env c) ≡ true
timed_worded u m env c = each_worded (conjuncts_at u m env c) ∙ parts_ok worded u (condition_part u m) (part_worded u m) env c

abbrev AsksWords : GroundBody → Type 0
AsksWords (instant h) = worded h.condition ≡ true
AsksWords (durative start end invariant) =
    (worded start.condition ≡ true) × (worded invariant ≡ true) × (worded end.condition ≡ true)

body_asks : (u : Universe) (env : Env) (b : actions.Body) → AsksWords (body_in u env b)
body_asks u env (actions.instant c e) = condition_worded u env c
body_asks u env (actions.durative r c e) = (timed_worded u AtStart env c, timed_worded u OverAll env c, timed_worded u AtEnd env c)

-- a truth is read within the list
set_within : (xs : List Bool) (a : ℕ) → set_of xs a ≡ true → a < length xs
set_within [] a h = absurd (cc)
set_within (x ∷ xs) zero h = omega arith
set_within (x ∷ xs) (suc a) h = let lt = set_within xs a h in omega (arith, lt)

module _ (u : Universe) (is : List Initial) (xs : List Instance) (t : Tables) (l : Numbered) (n : IsNumbered u is xs t l) (first : List Bool) (count : length first ≡ length t.atoms) (truths : (j : ℕ) → j < length t.atoms → get_or first j false ≡ true_at l.entries.items j) (new : List Bool) (has_first : HasFirst new first) where
  abbrev words_of_set : Words → Bool
  words_of_set w = is_initially_true (map initial_in is) w || in_words t.atoms (set_of new) w

  there : (a : ℕ) → set_of new a ≡ true → words_of_set (words_at t.atoms a) ≡ true
  there a h =
      let lt = set_within new a h in
      let same = has_first.0 in
      or_right (is_initially_true (map initial_in is) (words_at t.atoms a)) _ (words_there t.atoms (set_of new) a (omega (arith, lt, same, count)) h)

  read : (i : ℕ) → are_words (words_at t.atoms i) ≡ true → words_of_set (words_at t.atoms i) ≡ set_of new i
  read i w = by (is_initially_true (map initial_in is) (words_at t.atoms i)) refl
    where
      lt : i < length t.atoms
      lt = in_range t.atoms i w

      by : (b : Bool) → is_initially_true (map initial_in is) (words_at t.atoms i) ≡ b → (b || in_words t.atoms (set_of new) (words_at t.atoms i)) ≡ set_of new i
      by true e = sym (has_first.1 i (truths i lt ∙ true_there t n.distinct i lt l.entries.items is n.entries ∙ e))
      by false e = words_same t.atoms n.distinct (set_of new) i w

  same_met : (c : Cond) → worded (named_condition t c) ≡ true → met words_of_set true (named_condition t c) ≡ numbers.met (set_of new) true c
  same_met c w = met_same t (set_of new) words_of_set read c true w

  all_there : (ks : List ℕ) → list_all (set_of new) ks ≡ true → HasAll words_of_set (map (words_at t.atoms) ks)
  all_there [] h w i = absurd (cc)
  all_there (k ∷ ks) h w i =
      let p = and_parts (set_of new k) (list_all (set_of new) ks) h in
      ⊎_elim
      (λ e. subst (λ v. words_of_set v ≡ true) (sym ((same_words-Decides w (words_at t.atoms k)).0 e)) (there k p.0))
      (λ e. all_there ks p.1 w e)
      (or_cases (same_words w (words_at t.atoms k)) _ i)

  -- one of two, where the first is so
  second : (a b : Bool) → (not a || b) ≡ true → a ≡ true → b ≡ true
  second true b h e = h
  second false b h e = absurd (cc)

  body_within : (b : Body) → AsksWords (named_body t b) → is_within (set_of new) b ≡ true → IsWithin words_of_set (named_body t b)
  body_within (Instant e) w h = λ m. all_there e.adds.items (second (numbers.met (set_of new) true e.condition) _ h (sym (same_met e.condition w) ∙ m))
  body_within (Durative start end invariant) w h = λ m.
      let p = and_parts (list_all (set_of new) start.adds.items) _ (second (numbers.met (set_of new) true start.condition) _ h (sym (same_met start.condition w.0) ∙ m)) in (
        all_there start.adds.items p.0,
        λ i e. all_there end.adds.items (second (numbers.met (set_of new) true invariant && numbers.met (set_of new) true end.condition) _ p.1
            (and_from (numbers.met (set_of new) true invariant) _ (sym (same_met invariant w.1) ∙ i) (sym (same_met end.condition w.2) ∙ e))),
      )

  body_whole : (b : Body) → AsksWords (named_body t b) → is_whole_by (set_of new) b ≡ is_whole words_of_set (named_body t b)
  body_whole (Instant e) w = sym (same_met e.condition w)
  body_whole (Durative start end invariant) w =
      ap₂ ◌&&◌ (sym (same_met start.condition w.0)) (ap₂ ◌&&◌ (sym (same_met invariant w.1)) (sym (same_met end.condition w.2)))

  abbrev body : Instance → GroundBody
  body i = (action_of u i).body

  asks : (i : Instance) → AsksWords (body i)
  asks i = body_asks u (bound i.action.parameters i.objects) i.action.body

  within_all : (bs : List Body) (ys : List Instance) → map (named_body t) bs ≡ map body ys → list_all (is_within (set_of new)) bs ≡ true → AllByRecursion (λ i. IsWithin words_of_set (body i)) ys
  within_all [] [] e h = tt
  within_all [] (y ∷ ys) e h = absurd (cc)
  within_all (b ∷ bs) [] e h = tt
  within_all (b ∷ bs) (y ∷ ys) e h =
      let here : named_body t b ≡ body y = cc in
      let rest : map (named_body t) bs ≡ map body ys = cc in
      let p = and_parts (is_within (set_of new) b) (list_all (is_within (set_of new)) bs) h in
      (subst (IsWithin words_of_set) here (body_within b (subst AsksWords (sym here) (asks y)) p.0), within_all bs ys rest p.1)

  whole_all : (bs : List Body) (ys : List Instance) → map (named_body t) bs ≡ map body ys → map (is_whole_by (set_of new)) bs ≡ map (λ i. is_whole words_of_set (body i)) ys
  whole_all [] [] e = refl
  whole_all [] (y ∷ ys) e = absurd (cc)
  whole_all (b ∷ bs) [] e = absurd (cc)
  whole_all (b ∷ bs) (y ∷ ys) e =
      let here : named_body t b ≡ body y = cc in
      let rest : map (named_body t) bs ≡ map body ys = cc in
      ap₂ (λ (x : Bool) (zs : List Bool). x ∷ zs) (body_whole b (subst AsksWords (sym here) (asks y)) ∙ ap (is_whole words_of_set) here) (whole_all bs ys rest)

  pub are_marked : (marks : List Bool) → list_all (is_within (set_of new)) l.bodies.items ≡ true → marks ≡ map (is_whole_by (set_of new)) l.bodies.items → AreMarked u is xs marks
  are_marked marks within are = record {
    reach = words_of_set;
    initial = λ w h. or_left (is_initially_true (map initial_in is) w) _ h;
    within = within_all l.bodies.items xs n.bodies within;
    are = are ∙ whole_all l.bodies.items xs n.bodies;
  }

pub marked_from : (u : Universe) (is : List Initial) (xs : List Instance) (t : Tables) (l : Numbered) → IsNumbered u is xs t l → (first : List Bool) → length first ≡ length t.atoms → ((j : ℕ) → j < length t.atoms → get_or first j false ≡ true_at l.entries.items j) → (marks : List Bool) → AreMarkedFrom first l.bodies.items marks → AreMarked u is xs marks
marked_from u is xs t l n first count truths marks m = are_marked u is xs t l n first count truths m.reach m.has_first marks m.within m.are

-- what was numbered one after the other
pub are_numbered : (u : Universe) (is : List syntax.Initial) (xs : List Instance) (a b w : Tables) (es : Vec NumberedInitial Global) (bs : Vec Body Global) (m n : Mentions) → a.atoms ≡ []
    → IsLowered (λ t (v : Vec NumberedInitial Global). map (named_initial t) v.items) a b es (map (λ i. initial_in (initial_view i)) is) m
    → IsLowered (λ t (v : Vec Body Global). map (named_body t) v.items) b w bs (map (λ i. (action_of u i).body) xs) n
    → IsNumbered u (map initial_view is) xs w (record { entries = es; bodies = bs })
unfolding IsDistinct
are_numbered u is xs a b w es bs m n none first later = record {
  entries = first.says w (notes_extend b w n later.notes) ∙ sym (map-map initial_in initial_view is);
  bodies = later.says w (same_extend w w refl refl);
  distinct = subst (IsDistinct same_words) (sym later.notes.atoms)
      (with_all_distinct b.atoms n.atoms (subst (IsDistinct same_words) (sym (first.notes.atoms ∙ ap (λ ws. with_all ws m.atoms) none)) (with_all_distinct [] m.atoms tt)));
}
