-- What is said of those that are marked.
use Rattle.std.proofs.Common.{◌≡◌, ℕ, zero, suc, ◌+◌, ◌<◌, ◌≤◌, Bool, true, false, List, [], ◌∷◌, ◌++◌, length, drop, get_or, map, inl, inr, ⊎_elim, refl, sym, ap, ap₂, subst, ◌∙◌, arith, append_assoc, Vec, Bor, Global}
use Rattle.std.proofs.lemmas.Bool.{or_left, or_right, cases_lt}
use Rattle.std.proofs.lemmas.List.{drop_more, drop_all, map-append}
use Rattle.tp_task.specs.Bounds.{In}
use Rattle.tp_task.specs.Words.{Words, same_words, has_words}
use Rattle.tp_task.proofs.OnWords.{same_words_self}
use Rattle.tp_task.proofs.Lists.{all_at}
use Rattle.tp_syntax_ast.specs.Symbols.{Name}
use Rattle.tp_syntax_ast.specs.Actions.{Action}
use Rattle.tp_syntax_ast.specs.Domains.{Domain}
use Rattle.tp_syntax_ast.specs.Problems.{Initial, Problem}
use Rattle.tp_ground_bindings.specs.Bindings.{Universe, universe_of}
use Rattle.tp_ground_bindings.specs.Rows.{names_of}
use Rattle.tp_ground.specs.Reached.{Instance, action_of}
use Rattle.tp_ground.specs.Instances.{instance_view}
use Rattle.tp_ground.specs.declared.instances.Instance as code
use Rattle.tp_ground_named.specs.Named.{words_of}
use Rattle.tp_ground_laws.specs.WholeTasks.{is_whole, IsWithin, HasUseful}
use Rattle.tp_ground_joins.specs.Candidates.{HasAllOf}
use Rattle.tp_ground_joins.specs.Closed.{AreMarked}
use Rattle.tp_ground_joins.specs.Joined.{picked, words_seen, AreUseful}

module _ {A : Type 0} (f : A → Words) where
  pub picked_none : (ms : List Bool) → picked f ms [] ≡ []
  picked_none [] = refl
  picked_none (m ∷ ms) = refl

  pub picked_true : (ms : List Bool) (xs : List A) (k : ℕ) (x : A) → k < length xs → x ≡ get_or xs k x → get_or ms k false ≡ true → picked f (drop k ms) (drop k xs) ≡ f x ∷ picked f (drop (k + 1) ms) (drop (k + 1) xs)
  picked_true ms xs k x lt is marked =
      ⊎_elim
      (λ l. ap₂ (picked f) (drop_more ms k false l ∙ ap (λ b. b ∷ drop (k + 1) ms) marked) (drop_more xs k x lt ∙ ap (λ y. y ∷ drop (k + 1) xs) (sym is)))
      (λ le. absurd (let none = get_or_past ms k le in let z : true ≡ false = sym marked ∙ none in cc))
      (cases_lt k (length ms))
    where
      get_or_past : (ms : List Bool) (k : ℕ) → length ms ≤ k → get_or ms k false ≡ false
      get_or_past [] k le = refl
      get_or_past (m ∷ ms) zero le = absurd (omega arith)
      get_or_past (m ∷ ms) (suc k) le = get_or_past ms k (omega arith)

  pub picked_false : (ms : List Bool) (xs : List A) (k : ℕ) (x : A) → k < length xs → x ≡ get_or xs k x → get_or ms k false ≡ false → picked f (drop k ms) (drop k xs) ≡ picked f (drop (k + 1) ms) (drop (k + 1) xs)
  picked_false ms xs k x lt is marked =
      ⊎_elim
      (λ l. ap₂ (picked f) (drop_more ms k false l ∙ ap (λ b. b ∷ drop (k + 1) ms) marked) (drop_more xs k x lt))
      (λ le. ap (λ bs. picked f bs (drop k xs)) (drop_all k ms le) ∙ sym (ap (λ bs. picked f bs (drop (k + 1) xs)) (drop_all (k + 1) ms (omega (arith, le)))))
      (cases_lt k (length ms))

-- those that pass are said, where the marks are whether they pass
pub picked_has : {A B : Type 0} (seen : A → B) (f : B → Words) (test : B → Bool) (xs : List A) (b : B) → In b (map seen xs) → test b ≡ true → has_words (picked (λ a. f (seen a)) (map test (map seen xs)) xs) (f b) ≡ true
picked_has seen f test [] b i h = absurd i
picked_has seen f test (x ∷ xs) b (inl e) h = by (test (seen x)) (ap test (sym e) ∙ h)
  where
    by : (m : Bool) → m ≡ true → has_words (picked (λ a. f (seen a)) (m ∷ map test (map seen xs)) (x ∷ xs)) (f b) ≡ true
    by true k = or_left (same_words (f b) (f (seen x))) _ (subst (λ z. same_words (f b) (f z) ≡ true) e (same_words_self (f b)))
    by false k = absurd (cc)
picked_has seen f test (x ∷ xs) b (inr i) h = by (test (seen x)) (picked_has seen f test xs b i h)
  where
    by : (m : Bool) → has_words (picked (λ a. f (seen a)) (map test (map seen xs)) xs) (f b) ≡ true → has_words (picked (λ a. f (seen a)) (m ∷ map test (map seen xs)) (x ∷ xs)) (f b) ≡ true
    by true k = or_right (same_words (f b) (f (seen x))) _ k
    by false k = k

pub one_said : (before now : List (Vec (Bor Name) Global)) (v : Vec (Bor Name) Global) (ms : List Bool) (xs : List code.Instance) (k : ℕ) (x : code.Instance) → now ≡ before ++ v ∷ [] → names_of v ≡ words_seen x → k < length xs → x ≡ get_or xs k x → get_or ms k false ≡ true → map names_of now ++ picked words_seen (drop (k + 1) ms) (drop (k + 1) xs) ≡ map names_of before ++ picked words_seen (drop k ms) (drop k xs)
one_said before now v ms xs k x e h lt is marked =
    let rest = picked words_seen (drop (k + 1) ms) (drop (k + 1) xs) in
    ap (λ (vs : List (Vec (Bor Name) Global)). map names_of vs ++ rest) e
    ∙ ap (λ (ys : List Words). ys ++ rest) (map-append names_of before (v ∷ []))
    ∙ append_assoc (map names_of before) (names_of v ∷ []) rest
    ∙ ap (λ (w : Words). map names_of before ++ (w ∷ rest)) h
    ∙ ap (λ (ys : List Words). map names_of before ++ ys) (sym (picked_true words_seen ms xs k x lt is marked))

pub useful_of : (u : Universe) (as_ : List Action) (is : List Initial) (found : List code.Instance) (marks : List Bool) (asked : List Words) → HasAllOf u as_ is as_ (map instance_view found) → AreMarked u is (map instance_view found) marks → asked ≡ picked words_seen marks found → AreUseful u as_ is asked
useful_of u as_ is found marks asked has m said =
    let test : Instance → Bool = λ i. is_whole m.reach (action_of u i).body in
    record {
      reach = m.reach;
      initial = m.initial;
      within = λ i own may. all_at (λ i. IsWithin m.reach (action_of u i).body) (map instance_view found) m.within i (has i own may);
      useful = λ i own may w. subst (λ (ws : List Words). has_words ws (words_of i) ≡ true) (sym (said ∙ ap (λ (ms : List Bool). picked words_seen ms found) m.are)) (picked_has instance_view words_of test found i (has i own may) w);
    }

pub useful_as : (d : Domain) (p : Problem) (asked : List Words) → AreUseful (universe_of d p) d.actions p.initial asked → HasUseful d p (λ i. has_words asked (words_of i))
useful_as d p asked h = record { reach = h.reach; initial = h.initial; within = h.within; useful = h.useful }
