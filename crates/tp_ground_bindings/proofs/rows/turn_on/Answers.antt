use Rattle.std.proofs.Common.{sym, ◌∙◌}
use Rattle.std.proofs.lemmas.List.{length-map}
use Rattle.tp_ground_bindings.specs.Rows.{lists_of, names_in}
use Rattle.tp_ground_bindings.proofs.OnRows.{none_behind, next_row}
use Rattle.tp_ground_bindings.proofs.rows.turn_on.Goals as goal

pub returns-in_default-clause-none : goal.returns-in_default-clause-none
returns-in_default-clause-none c = λ _. none_behind (lists_of c.args.lists.now) c.args.places.now c.in_default.ensures.last

pub returns-clause-some : goal.returns-clause-some
returns-clause-some c = λ _. next_row (lists_of c.args.lists.now) c.args.places.now c.turn.new.places c.in-Some.index c.requires.some (c.requires.placed ∙ sym (length-map c.args.lists.now names_in)) c.in-Some.ensures.last c.turn.ensures
