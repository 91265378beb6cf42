-- What a condition of conditions mentions, by the list of these.
use Rattle.std.proofs.Common.{◌≡◌, ◌++◌, refl, ap, ◌∙◌, Vec, Global}
use Rattle.std.specs.List.{flat_map}
use Rattle.tp_task.specs.declared.events.Cond.{Cond, And, Or, Row_of-Cond, end_of-Cond, more_of-Cond, items-the_row-Cond, items_hidden-the_row-Cond-0}
use Rattle.tp_task.specs.State.{atoms_in, atoms_in_row, fluents_in, fluents_in_row}
use Rattle.tp_happen.proofs.Rows.{row_of}

atoms_row : (n : _) (row : Row_of-Cond n) → atoms_in_row row ≡ flat_map atoms_in (items-the_row-Cond n row)
atoms_row n end_of-Cond = refl
atoms_row n (more_of-Cond c cs) = ap (λ xs. atoms_in c ++ xs) (atoms_row _ cs)

fluents_row : (n : _) (row : Row_of-Cond n) → fluents_in_row row ≡ flat_map fluents_in (items-the_row-Cond n row)
fluents_row n end_of-Cond = refl
fluents_row n (more_of-Cond c cs) = ap (λ xs. fluents_in c ++ xs) (fluents_row _ cs)

pub atoms_And : (cs : Vec Cond Global) → atoms_in (And cs) ≡ flat_map atoms_in cs.items
atoms_And cs = let row = row_of (And cs) in atoms_row row.0 row.1 ∙ ap (flat_map atoms_in) (items_hidden-the_row-Cond-0 cs)

pub atoms_Or : (cs : Vec Cond Global) → atoms_in (Or cs) ≡ flat_map atoms_in cs.items
atoms_Or cs = atoms_And cs

pub fluents_And : (cs : Vec Cond Global) → fluents_in (And cs) ≡ flat_map fluents_in cs.items
fluents_And cs = let row = row_of (And cs) in fluents_row row.0 row.1 ∙ ap (flat_map fluents_in) (items_hidden-the_row-Cond-0 cs)

pub fluents_Or : (cs : Vec Cond Global) → fluents_in (Or cs) ≡ flat_map fluents_in cs.items
fluents_Or cs = fluents_And cs
