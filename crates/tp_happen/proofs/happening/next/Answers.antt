use Rattle.std.proofs.Common.{◌≡◌, ◌<◌, true, false, None, length, get_or, All, sym, ap, ◌∙◌, subst}
use Rattle.tp_task.specs.Happens.{EventOfStep}
use Rattle.tp_task.specs.InOrder.{after_events, after_deletes, after_adds}
use Rattle.tp_task.proofs.Sequence.{in_order, atoms_in_order}
use Rattle.tp_happen.specs.Bounded.{all_sums_small}
use Rattle.tp_happen.specs.Stored.{Stored, state_of}
use Rattle.tp_happen.proofs.NoFault.{fits_adds, fits_deletes, fits_writes}
use Rattle.tp_happen.proofs.happening.next.Goals as goal

pub atoms_after-requires-clause-adds : goal.atoms_after-requires-clause-adds
atoms_after-requires-clause-adds c =
    subst (λ xs. All (λ (t : EventOfStep). All (λ a. a < length xs) t.event.adds.items) c.args.events.now) (sym (c.deref.ensures.value ∙ ap (λ (s : Stored). s.atoms) c.state.view_is)) (fits_adds c.args.state.now c.args.events.now c.requires.fits)

pub atoms_after-requires-clause-deletes : goal.atoms_after-requires-clause-deletes
atoms_after-requires-clause-deletes c =
    subst (λ xs. All (λ (t : EventOfStep). All (λ a. a < length xs) t.event.deletes.items) c.args.events.now) (sym (c.deref.ensures.value ∙ ap (λ (s : Stored). s.atoms) c.state.view_is)) (fits_deletes c.args.state.now c.args.events.now c.requires.fits)

pub numbers_after-requires : goal.numbers_after-requires
numbers_after-requires c =
    subst (λ xs. All (λ (t : EventOfStep). All (λ w. w.fluent < length xs) t.event.writes.items) c.args.events.now) (sym (c.deref-2.ensures.value ∙ ap (λ (s : Stored). s.numbers) c.state.view_is)) (fits_writes c.args.state.now c.args.events.now c.requires.fits)

pub returns-clause-atoms : goal.returns-clause-atoms
returns-clause-atoms c = λ a.
    c.in_ok-atoms.ensures.ok a
    ∙ (ap (λ xs. after_adds c.args.events.now a (after_deletes c.args.events.now a (get_or xs a false))) (c.deref.ensures.value ∙ ap (λ (s : Stored). s.atoms) c.state.view_is)
    ∙ atoms_in_order (state_of c.args.state.now) c.args.events.now a)

pub returns-clause-numbers : goal.returns-clause-numbers
returns-clause-numbers c = λ f.
    c.in_ok-numbers.ensures.ok f
    ∙ (ap (λ xs. after_events c.args.state.now.scale (state_of c.args.state.now) c.args.events.now f (get_or xs f None)) (c.deref-2.ensures.value ∙ ap (λ (s : Stored). s.numbers) c.state.view_is)
    ∙ in_order c.args.state.now.scale (state_of c.args.state.now) c.args.events.now f c.requires.apart c.requires.unmixed c.requires.defined)

pub returns-clause-task : goal.returns-clause-task
returns-clause-task c =
    record {
      scale = ap (λ (s : Stored). s.scale) c.state.view_is;
      atoms = c.in_ok-atoms.ensures.count ∙ ap length (c.deref.ensures.value ∙ ap (λ (s : Stored). s.atoms) c.state.view_is);
      numbers = c.in_ok-numbers.ensures.count ∙ ap length (c.deref-2.ensures.value ∙ ap (λ (s : Stored). s.numbers) c.state.view_is);
    }

pub returns-clause-sums : goal.returns-clause-sums
returns-clause-sums c = λ f.
    subst (λ xs. all_sums_small c.args.state.now.scale (state_of c.args.state.now) c.args.events.now f (get_or xs f None) ≡ true) (c.deref-2.ensures.value ∙ ap (λ (s : Stored). s.numbers) c.state.view_is) (c.in_ok-numbers.ensures.sums f)
