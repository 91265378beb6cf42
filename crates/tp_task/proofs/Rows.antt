-- Conditions of a `Vec`: what is met of their row, by the list of its items.
use Rattle.std.proofs.Common.{◌≡◌, Bool, true, false, not, ◌&&◌, ◌||◌, ℕ, Vec, Global, refl, ap, ◌∙◌}
use Rattle.std.specs.List.{list_all, list_any}
use mathlib.Core.Former.{Count}
use Rattle.tp_task.specs.declared.events.Cond.{Cond, And, And', Or, Row_of-Cond, end_of-Cond, more_of-Cond, items-the_row-Cond, items_hidden-the_row-Cond-0}
use Rattle.tp_task.specs.Reach.{met, each_met, some_met}
use Rattle.tp_task.specs.Rounds.{over}

abbrev row_of : Cond → (n : Count) × Row_of-Cond n
row_of (And' _ row) = (_, row)
row_of _ = (_, end_of-Cond)

module _ (r : ℕ → Bool) (b : Bool) where
  each_row : (n : _) (row : Row_of-Cond n) → each_met r b row ≡ list_all (λ c. met r b c) (items-the_row-Cond n row)
  each_row n end_of-Cond = refl
  each_row n (more_of-Cond c cs) = ap (λ x. met r b c && x) (each_row _ cs)

  some_row : (n : _) (row : Row_of-Cond n) → some_met r b row ≡ list_any (λ c. met r b c) (items-the_row-Cond n row)
  some_row n end_of-Cond = refl
  some_row n (more_of-Cond c cs) = ap (λ x. met r b c || x) (some_row _ cs)

pub met_And : (r : ℕ → Bool) (b : Bool) (cs : Vec Cond Global) → met r b (And cs) ≡ over b (λ c. met r b c) cs.items
met_And r true cs = let row = row_of (And cs) in each_row r true row.0 row.1 ∙ ap (list_all (λ c. met r true c)) (items_hidden-the_row-Cond-0 cs)
met_And r false cs = let row = row_of (And cs) in some_row r false row.0 row.1 ∙ ap (list_any (λ c. met r false c)) (items_hidden-the_row-Cond-0 cs)

pub met_Or : (r : ℕ → Bool) (b : Bool) (cs : Vec Cond Global) → met r b (Or cs) ≡ over (not b) (λ c. met r b c) cs.items
met_Or r true cs = let row = row_of (And cs) in some_row r true row.0 row.1 ∙ ap (list_any (λ c. met r true c)) (items_hidden-the_row-Cond-0 cs)
met_Or r false cs = let row = row_of (And cs) in each_row r false row.0 row.1 ∙ ap (list_all (λ c. met r false c)) (items_hidden-the_row-Cond-0 cs)
