-- The steps of the search's loop keep what it stands for.
use Rattle.std.proofs.Common.{◌≡◌, ℕ, suc, zero, ◌<◌, ◌≤◌, true, List, [], ◌∷◌, ◌++◌, length, take, drop, inl, inr, ⊎_elim, refl, sym, ap, ap₂, subst, ◌∙◌, arith, get_or, drop-cons, drop_of_length-le, Option, Some, None, false, slice_get, nat_lt, nat_le, lt-ltb, le-leb}
use Rattle.std.specs.List.{list_all, AllByRecursion}
use Rattle.std.proofs.lemmas.Bool.{cases_lt, and_from, or_right}
use Rattle.std.specs.Option.{option_map, option_and_then}
use Rattle.std.proofs.lemmas.Bool.{not_from_false}
use Rattle.tp_happen.specs.Parts.{part_of}
use Rattle.tp_happen.specs.declared.events.Part.TheVariants.{Only}
use Rattle.tp_happen.specs.tp_plan_text.TaskWords.{is_durative}
use Rattle.tp_task.specs.Bounds.{In}
use Rattle.tp_task.specs.declared.events.Body.{Body}
use Rattle.tp_task.specs.declared.events.Body.TheVariants.{Instant, Durative}
use Rattle.tp_task.specs.declared.events.GroundEvent.{GroundEvent}
use Rattle.tp_task.specs.declared.task.Task.{Task}
use Rattle.tp_task.proofs.Lists.{all_at}
use Rattle.tp_happen.specs.tp_plan_text.Steps.{IsPlan, ends_in_time}
use Rattle.tp_validate.specs.OfTask.{IsValidPlan, IsOfTask, is_step_of, scale_of, begin}
use Rattle.tp_validate.specs.Validated.{Validated}
use Rattle.tp_task.specs.TaskReach.{GoalIs}
use Rattle.tp_search.specs.AtOnce.{Choice, IsWanted, rising, steps_of, timed_all, made_of, CanHappen}
use Rattle.tp_search.specs.Plans.{EndsBy}
use Rattle.tp_search.specs.Promised.{FindsPlan, IsExhausted, IsSpent}
use Rattle.tp_search.specs.Possible.{CanBegin, AreCandidates, both_interfere, interfere, is_apart, only_event}
use Rattle.tp_search.specs.Children.{IsNode, children_within}
use Rattle.tp_search.specs.Running.{IsRunning, numbers, step_at, steps_at}
use Rattle.tp_search.proofs.Wanted.{at_once_wanted, wanted_is_plan, next_in, Next, take_whole}
use Rattle.tp_search.proofs.Shuffled.{in_rising}
use Rattle.tp_search.proofs.Parts.{parts_happen, apart_in}
use Rattle.tp_search.proofs.Lists.{in_append_left, in_append_right, all_append, none_passes}
use Rattle.tp_search.proofs.Expanding.{children_are_nodes, in_children}

drop_append : {X : Type 0} (n : ℕ) (xs ys : List X) → n ≤ length xs → drop n (xs ++ ys) ≡ drop n xs ++ ys
drop_append zero [] ys l = refl
drop_append zero (x ∷ xs) ys l = refl
drop_append (suc n) [] ys l = absurd (omega arith)
drop_append (suc n) (x ∷ xs) ys l = drop_append n xs ys (omega arith)

numbers_more : (cs : List Choice) (c : Choice) → numbers (cs ++ c ∷ []) ≡ numbers cs ++ c.number ∷ []
numbers_more [] c = refl
numbers_more (d ∷ cs) c = ap (λ xs. d.number ∷ xs) (numbers_more cs c)

steps_are : (cs : List Choice) → steps_at (numbers cs) ≡ steps_of cs
steps_are [] = refl
steps_are (c ∷ cs) = ap (λ xs. step_at c.number ∷ xs) (steps_are cs)

numbers_length : (cs : List Choice) → length (numbers cs) ≡ length cs
numbers_length [] = refl
numbers_length (c ∷ cs) = ap suc (numbers_length cs)

take_length : (n : ℕ) (cs : List Choice) → length (take n cs) ≤ n
take_length zero [] = omega arith
take_length zero (c ∷ cs) = omega arith
take_length (suc n) [] = omega arith
take_length (suc n) (c ∷ cs) = omega (arith, take_length n cs)

take_all_of : (n : ℕ) (cs : List Choice) → length cs ≤ n → take n cs ≡ cs
take_all_of zero [] l = refl
take_all_of zero (c ∷ cs) l = absurd (omega arith)
take_all_of (suc n) [] l = refl
take_all_of (suc n) (c ∷ cs) l = ap (λ xs. c ∷ xs) (take_all_of n cs (omega arith))

below_count : (bs : List Body) (n : ℕ) (b : Body) → slice_get bs n ≡ Some b → n < length bs
below_count [] n b h = absurd (cc)
below_count (x ∷ bs) zero b h = omega arith
below_count (x ∷ bs) (suc n) b h = omega (arith, below_count bs n b h)

all_numbers : (m : ℕ) (cs : List Choice) → AllByRecursion (λ (c : Choice). c.number < m) cs → AllByRecursion (λ a. a < m) (numbers cs)
all_numbers m [] h = tt
all_numbers m (c ∷ cs) h = (h.0, all_numbers m cs h.1)

in_take : (n : ℕ) (cs : List Choice) (c : Choice) → In c (take n cs) → In c cs
in_take zero [] c i = absurd i
in_take zero (d ∷ ds) c i = absurd i
in_take (suc n) [] c i = absurd i
in_take (suc n) (d ∷ ds) c (inl e) = inl e
in_take (suc n) (d ∷ ds) c (inr i) = inr (in_take n ds c i)

-- a choice of a number
in_numbers : (cs : List Choice) (b : ℕ) → In b (numbers cs) → (c : Choice) × (In c cs × (b ≡ c.number))
in_numbers [] b i = absurd i
in_numbers (c ∷ cs) b (inl e) = (c, (inl refl, e))
in_numbers (c ∷ cs) b (inr i) = let r = in_numbers cs b i in (r.0, (inr r.1.0, r.1.1))

module _ (t : Task) (cs : List Choice) (w : IsWanted t cs) where
  whole : CanHappen (scale_of t) (begin t) (timed_all (rising cs))
  whole = subst (λ xs. CanHappen (scale_of t) (begin t) (timed_all xs)) (take_whole (rising cs)) (w.can (length (rising cs)))

  -- what is wanted can begin
  can_begin : (x : Choice) → In x (rising cs) → CanBegin t x.number
  can_begin x i = record {
    event = x.event;
    is = w.are x (in_rising cs x i);
    can = parts_happen (scale_of t) (begin t) (rising cs) (made_of (scale_of t) (begin t) (timed_all (rising cs))) whole (x ∷ []) (tt, tt) only;
  }
    where
      only : (c : Choice) → In c (x ∷ []) → In c (rising cs)
      only c (inl e) = subst (λ y. In y (rising cs)) (sym e) i
      only c (inr j) = absurd j

  -- and interferes with none that is wanted before it
  wanted_apart : (n : ℕ) (x : Choice) → In x (rising cs) → AllByRecursion (λ (c : Choice). c.number < x.number) (take n (rising cs)) → is_apart t (numbers (take n (rising cs))) x.number ≡ true
  wanted_apart n x i before = not_from_false _ (none_passes (λ b. interfere t b x.number) (numbers (take n (rising cs))) free)
    where
      event_is : (c : Choice) → In c (rising cs) → only_event t c.number ≡ Some c.event
      event_is c k = ap (option_and_then (λ b. part_of b Only)) (w.are c (in_rising cs c k))

      free : (b : ℕ) → In b (numbers (take n (rising cs))) → interfere t b x.number ≡ false
      free b j =
          let p = in_numbers (take n (rising cs)) b j in
          let d : Choice = p.0 in
          let d_in : In d (rising cs) = in_take n (rising cs) d p.1.0 in
          let below : d.number < x.number = all_at (λ (c : Choice). c.number < x.number) (take n (rising cs)) before d p.1.0 in
          ap₂ both_interfere (ap (only_event t) p.1.1 ∙ event_is d d_in) (event_is x i)
          ∙ apart_in (rising cs) whole.separate d x d_in i (λ e. absurd (omega arith))

pub start : (t : Task) → IsRunning t ([] ∷ []) 0
start t = record {
  all_nodes = (record { few = omega arith; actions = tt }, tt);
  open_for = λ cs w. (0, inl (take_none (rising cs)));
  root = λ e. refl;
  not_empty = λ l. absurd (omega arith);
}
  where
    take_none : (cs : List Choice) → numbers (take 0 cs) ≡ []
    take_none [] = refl
    take_none (c ∷ cs) = refl

module _ (t : Task) (nodes : List (List ℕ)) (i : ℕ) (run : IsRunning t nodes i) where
  pub chosen_is_node : (chosen : List ℕ) → i < length nodes → chosen ≡ get_or nodes i [] → IsNode (length t.actions.items) chosen
  chosen_is_node chosen l e = subst (IsNode (length t.actions.items)) (sym e) (node_at nodes i l run.all_nodes)
    where
      node_at : (xs : List (List ℕ)) (j : ℕ) → j < length xs → AllByRecursion (IsNode (length t.actions.items)) xs → IsNode (length t.actions.items) (get_or xs j [])
      node_at [] j l h = absurd (omega arith)
      node_at (x ∷ xs) zero l h = h.0
      node_at (x ∷ xs) (suc j) l h = node_at xs j (omega arith) h.1

  empty_not : (chosen : List ℕ) → chosen ≡ get_or nodes i [] → ¬ IsValidPlan t (steps_at chosen) → ¬ IsValidPlan t []
  empty_not chosen e unfit = go i refl
    where
      go : (j : ℕ) → i ≡ j → ¬ IsValidPlan t []
      go zero q v = unfit (subst (λ xs. IsValidPlan t (steps_at xs)) (sym (e ∙ (ap (λ n. get_or nodes n []) q ∙ ap (λ xs. get_or xs 0 []) (run.root q)))) v)
      go (suc j) q v = run.not_empty (omega arith) v

  pub spent : (budget : ℕ) (chosen : List ℕ) → GoalIs t true → chosen ≡ get_or nodes i [] → ¬ IsValidPlan t (steps_at chosen) → i ≡ budget → IsSpent t budget i
  spent budget chosen g e unfit q = record { in_reach = g; not_empty = empty_not chosen e unfit; all_of_it = q }

  none_wanted : length nodes ≤ i → (cs : List Choice) → ¬ IsWanted t cs
  none_wanted l cs w = let o = run.open_for cs w in subst (λ xs. In (numbers (take o.0 (rising cs))) xs) (drop_of_length-le nodes l) o.1

  pub exhausted : GoalIs t true → length nodes ≤ i → IsExhausted t
  exhausted g l = record {
    in_reach = g;
    not_empty = λ v. let p : (cs : List Choice) × IsWanted t cs = at_once_wanted t [] (record { plan = record { few = omega arith; ends = refl }; instant = tt; distinct = tt; valid = v }) in none_wanted l p.0 p.1;
    not_at_once = λ steps h. let p : (cs : List Choice) × IsWanted t cs = at_once_wanted t steps h in none_wanted l p.0 p.1;
  }

  module _ (chosen : List ℕ) (l : i < length nodes) (e : chosen ≡ get_or nodes i []) (unfit : ¬ IsValidPlan t (steps_at chosen)) (first : ℕ) (least : (a : ℕ) → AllByRecursion (λ b. b < a) chosen → first ≤ a) (among : List ℕ) (known : AreCandidates t (length t.actions.items) among) (new : List (List ℕ)) (is : new ≡ nodes ++ children_within t first among chosen) where
    abbrev more : List (List ℕ)
    more = children_within t first among chosen

    new_open : drop (suc i) new ≡ drop (suc i) nodes ++ more
    new_open = ap (drop (suc i)) is ∙ drop_append (suc i) nodes more (omega arith)

    goes_on : (cs : List Choice) → IsWanted t cs → (n : ℕ) → numbers (take n (rising cs)) ≡ chosen → n < length (rising cs) → (m : ℕ) × In (numbers (take m (rising cs))) more
    goes_on cs w n q k =
        let x : Next n (rising cs) = next_in n (rising cs) w.rises k in
        let a : ℕ = x.next.number in
        let few : length chosen < 512 = subst (λ ys. length ys < 512) q (subst (λ z. z < 512) (sym (numbers_length (take n (rising cs)))) (omega (arith, take_length n (rising cs), w.few))) in
        let above : AllByRecursion (λ b. b < a) chosen = subst (AllByRecursion (λ b. b < a)) q (all_numbers a (take n (rising cs)) x.after) in
        let there : a < length t.actions.items = below_count t.actions.items a (Instant x.next.event) (w.are x.next (in_rising cs x.next x.is_in)) in
        (suc n, subst (λ ys. In ys more) (ap (λ ys. ys ++ a ∷ []) (sym q) ∙ (sym (numbers_more (take n (rising cs)) x.next) ∙ ap numbers (sym x.longer))) (in_children t first chosen among a few (least a above) (known.all a there (can_begin t cs w x.next x.is_in)) (subst (λ ys. is_apart t ys a ≡ true) q (wanted_apart t cs w n x.next x.is_in x.after))))

    open_after : (cs : List Choice) → IsWanted t cs → (n : ℕ) → In (numbers (take n (rising cs))) (get_or nodes i [] ∷ drop (suc i) nodes) → (m : ℕ) × In (numbers (take m (rising cs))) (drop (suc i) nodes ++ more)
    open_after cs w n (inr j) = (n, in_append_left _ (drop (suc i) nodes) more j)
    open_after cs w n (inl q) =
        let q' : numbers (take n (rising cs)) ≡ chosen = q ∙ sym e in
        ⊎_elim
        (λ k. let r = goes_on cs w n q' k in (r.0, in_append_right _ (drop (suc i) nodes) more r.1))
        (λ k. absurd (unfit (subst (λ ys. IsValidPlan t ys) (sym (ap steps_at (sym q' ∙ ap numbers (take_all_of n (rising cs) k)) ∙ steps_are (rising cs))) (wanted_is_plan t cs w))))
        (cases_lt n (length (rising cs)))

    pub next_running : IsRunning t new (suc i)
    next_running = record {
      all_nodes = subst (AllByRecursion (IsNode (length t.actions.items))) (sym is) (all_append (IsNode (length t.actions.items)) nodes more run.all_nodes (children_are_nodes t first chosen among (length t.actions.items) (chosen_is_node chosen l e) known.known));
      open_for = λ cs w. let o = run.open_for cs w in subst (λ xs. (m : ℕ) × In (numbers (take m (rising cs))) xs) (sym new_open) (open_after cs w o.0 (subst (λ xs. In (numbers (take o.0 (rising cs))) xs) (drop-cons nodes i [] l) o.1));
      root = λ q. absurd (omega arith);
      not_empty = λ k. empty_not chosen e unfit;
    }

-- an action of which that event is the only one
pub only_is : (o : Option Body) (e : GroundEvent) → Some e ≡ option_and_then (λ b. part_of b Only) o → o ≡ Some (Instant e)
only_is None e h = absurd (cc)
only_is (Some (Instant x)) e h = ap (option_map (λ y. Instant y)) (sym h)
only_is (Some (Durative start end invariant)) e h = absurd (cc)

-- the plan of a node ends at once
pub plan_at_once : (as' : List ℕ) → length as' ≤ 512 → IsPlan (steps_at as')
plan_at_once as' l = record { few = subst (λ n. n ≤ 512) (sym (count_of_steps as')) l; ends = in_time as' }
  where
    count_of_steps : (xs : List ℕ) → length (steps_at xs) ≡ length xs
    count_of_steps [] = refl
    count_of_steps (x ∷ xs) = ap suc (count_of_steps xs)

    in_time : (xs : List ℕ) → list_all ends_in_time (steps_at xs) ≡ true
    in_time [] = refl
    in_time (x ∷ xs) = in_time xs

pub of_task : (t : Task) (as' : List ℕ) → IsNode (length t.actions.items) as' → IsOfTask t (steps_at as')
of_task t as' h = go as' h.actions
  where
    go : (xs : List ℕ) → AllByRecursion (λ a. a < length t.actions.items) xs → IsOfTask t (steps_at xs)
    go [] h = refl
    go (x ∷ xs) h = and_from (is_step_of t (step_at x)) _ (and_from (nat_lt x (length t.actions.items)) _ (lt-ltb x (length t.actions.items) h.0) (or_right (is_durative (slice_get t.actions.items x)) true refl)) (go xs h.1)

-- the plan of a node ends within any horizon
pub finds : (t : Task) (horizon : ℕ) (as' : List ℕ) (v : Validated) → GoalIs t true → (v.task ≡ t) × (v.steps ≡ steps_at as') × IsValidPlan t (steps_at as') → FindsPlan t horizon v
finds t horizon as' v g (e, q, valid) = record {
  in_reach = g;
  task = e;
  valid = subst (IsValidPlan t) (sym q) valid;
  within = subst (EndsBy horizon) (sym q) (within as');
}
  where
    within : (xs : List ℕ) → EndsBy horizon (steps_at xs)
    within [] = refl
    within (x ∷ xs) = and_from (nat_le 0 horizon) _ (le-leb 0 horizon (omega arith)) (within xs)

pub small_actions : (m : ℕ) (xs : List ℕ) → m ≤ 65535 → AllByRecursion (λ a. a < m) xs → AllByRecursion (λ a. a < 65535) xs
small_actions m [] l h = tt
small_actions m (x ∷ xs) l h = (omega (arith, h.0), small_actions m xs l h.1)
