-- Conditions of a `Vec`: what their row says, by the list of its items.
use Rattle.std.proofs.Common.{◌≡◌, Bool, true, false, cond, ◌&&◌, ◌||◌, ℕ, ◌≤◌, length, drop, drop_of_length-le, List, Some, None, Vec, Global, refl, sym, ap, ◌∙◌}
use mathlib.Core.Former.{Count}
use Rattle.tp_task.specs.declared.events.Cond.{Cond, And, And', Or, Row_of-Cond, end_of-Cond, more_of-Cond, items-the_row-Cond, items_hidden-the_row-Cond-0}
use Rattle.tp_task.specs.State.{State, truth, all_true, some_true, has_values, have_values}
use Rattle.tp_happen.specs.Small.{all_small, rows_small}
use Rattle.tp_task.specs.Truth.{and_both, or_both}
use Rattle.tp_happen.specs.Judged.{judgement, judged_all, judged_any, each_small, finding, of_condition, of_all, of_any, of_both, of_either}
use Rattle.tp_happen.specs.declared.conditions.Finding.{Finding}
use Rattle.tp_happen.specs.declared.conditions.Finding.TheVariants.{Holds, Fails, Undefined, Range}

abbrev pub row_of : Cond → (n : Count) × Row_of-Cond n
row_of (And' _ row) = (_, row)
row_of _ = (_, end_of-Cond)

join_and : (a b x y : Bool) → cond (a && b) (Some (x && y)) None ≡ and_both (cond a (Some x) None) (cond b (Some y) None)
join_and true true x y = refl
join_and true false x y = refl
join_and false b x y = refl

join_or : (a b x y : Bool) → cond (a && b) (Some (x || y)) None ≡ or_both (cond a (Some x) None) (cond b (Some y) None)
join_or true true x y = refl
join_or true false x y = refl
join_or false b x y = refl

both_holds : (x : Finding) → of_both x Holds ≡ x
both_holds Range = refl
both_holds Undefined = refl
both_holds Holds = refl
both_holds Fails = refl

either_fails : (x : Finding) → of_either x Fails ≡ x
either_fails Range = refl
either_fails Undefined = refl
either_fails Holds = refl
either_fails Fails = refl

module _ (s : State) where
  and_row : (n : _) (row : Row_of-Cond n) → cond (have_values s row) (Some (all_true s row)) None ≡ judged_all s (items-the_row-Cond n row)
  and_row n end_of-Cond = refl
  and_row n (more_of-Cond c cs) = join_and (has_values s c) (have_values s cs) (truth s c) (all_true s cs) ∙ ap (and_both (judgement s c)) (and_row _ cs)

  or_row : (n : _) (row : Row_of-Cond n) → cond (have_values s row) (Some (some_true s row)) None ≡ judged_any s (items-the_row-Cond n row)
  or_row n end_of-Cond = refl
  or_row n (more_of-Cond c cs) = join_or (has_values s c) (have_values s cs) (truth s c) (some_true s cs) ∙ ap (or_both (judgement s c)) (or_row _ cs)

  small_row : (n : _) (row : Row_of-Cond n) → rows_small s row ≡ each_small s (items-the_row-Cond n row)
  small_row n end_of-Cond = refl
  small_row n (more_of-Cond c cs) = ap (λ b. all_small s c && b) (small_row _ cs)

  judgement-And : (cs : Vec Cond Global) → judgement s (And cs) ≡ judged_all s cs.items
  judgement-And cs = let row = row_of (And cs) in and_row row.0 row.1 ∙ ap (judged_all s) (items_hidden-the_row-Cond-0 cs)

  judgement-Or : (cs : Vec Cond Global) → judgement s (Or cs) ≡ judged_any s cs.items
  judgement-Or cs = let row = row_of (And cs) in or_row row.0 row.1 ∙ ap (judged_any s) (items_hidden-the_row-Cond-0 cs)

  all_small-And : (cs : Vec Cond Global) → all_small s (And cs) ≡ each_small s cs.items
  all_small-And cs = let row = row_of (And cs) in small_row row.0 row.1 ∙ ap (each_small s) (items_hidden-the_row-Cond-0 cs)

  finding-And : (cs : Vec Cond Global) → of_condition s (And cs) ≡ of_all s cs.items
  finding-And cs = ap (λ b. finding b (judgement s (And cs))) (all_small-And cs) ∙ ap (finding (each_small s cs.items)) (judgement-And cs)

  finding-Or : (cs : Vec Cond Global) → of_condition s (Or cs) ≡ of_any s cs.items
  finding-Or cs = ap (λ b. finding b (judgement s (Or cs))) (all_small-And cs) ∙ ap (finding (each_small s cs.items)) (judgement-Or cs)

  -- the exits of a loop over the items
  pub all_ended : (c : Cond) (v : Vec Cond Global) (cs : List Cond) (i : ℕ) (all : Finding) → c ≡ And v → cs ≡ v.items → length cs ≤ i → of_both all (of_all s (drop i cs)) ≡ of_all s cs → all ≡ of_condition s c
  all_ended c v cs i all e f l h = sym (both_holds all) ∙ (ap (λ ds. of_both all (of_all s ds)) (sym (drop_of_length-le cs l)) ∙ (h ∙ (ap (of_all s) f ∙ (sym (finding-And v) ∙ ap (of_condition s) (sym e)))))

  pub any_ended : (c : Cond) (v : Vec Cond Global) (cs : List Cond) (i : ℕ) (any : Finding) → c ≡ Or v → cs ≡ v.items → length cs ≤ i → of_either any (of_any s (drop i cs)) ≡ of_any s cs → any ≡ of_condition s c
  any_ended c v cs i any e f l h = sym (either_fails any) ∙ (ap (λ ds. of_either any (of_any s ds)) (sym (drop_of_length-le cs l)) ∙ (h ∙ (ap (of_any s) f ∙ (sym (finding-Or v) ∙ ap (of_condition s) (sym e)))))
