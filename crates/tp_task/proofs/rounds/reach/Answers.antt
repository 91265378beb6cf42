use Rattle.std.proofs.Common.{◌≡◌, ◌++◌, length, take, drop, true, refl, sym, ap, subst, ◌∙◌}
use Rattle.std.specs.List.{list_all}
use Rattle.tp_task.specs.Reach.{IsReach}
use Rattle.tp_task.specs.Rounds.{set_of, adds_fit, acts_of_bodies}
use Rattle.tp_task.specs.Adding.{Adds, HasAdded}
use Rattle.tp_task.specs.TaskReach.{acts_of, first_state}
use Rattle.tp_task.proofs.Adding.{all_adds, reached, front}
use Rattle.tp_task.proofs.rounds.reach.Goals as goal

pub saturate-requires : goal.saturate-requires
saturate-requires c =
    let t = c.args.task.now in
    let e : c.as_mut_slice.result.now ≡ t.initial_atoms.items = c.as_mut_slice.ensures.value ∙ (c.in_ok-atoms.ensures.items ∙ c.deref.ensures.value) in
    subst (λ bs. list_all (adds_fit (length c.as_mut_slice.result.now)) bs ≡ true) (sym c.deref-2.ensures.value)
    (subst (λ xs. list_all (adds_fit (length xs)) t.actions.items ≡ true) (sym e) (all_adds _ (length t.initial_numbers.items) t.actions.items t.fits))

pub returns : goal.returns
returns c =
    let t = c.args.task.now in
    let e : c.as_mut_slice.result.now ≡ t.initial_atoms.items = c.as_mut_slice.ensures.value ∙ (c.in_ok-atoms.ensures.items ∙ c.deref.ensures.value) in
    let whole : take c.in_ok-atoms.atoms.len (c.saturate.new.reach ++ drop (length c.saturate.new.reach) c.in_ok-atoms.atoms.items) ≡ c.saturate.new.reach = front c.in_ok-atoms.atoms.len c.saturate.new.reach (drop (length c.saturate.new.reach) c.in_ok-atoms.atoms.items) (c.in_ok-atoms.atoms.ok.0 ∙ (ap length (sym c.as_mut_slice.ensures.value) ∙ sym c.saturate.auto.reach)) in
    subst (λ xs. IsReach (first_state t) (acts_of t) (set_of xs)) (sym whole)
    (reached (first_state t) (acts_of t) t.initial_atoms.items c.saturate.new.reach (λ a. refl)
    (subst (λ xs. Adds (acts_of t) xs c.saturate.new.reach) e (subst (λ bs. Adds (acts_of_bodies bs) c.as_mut_slice.result.now c.saturate.new.reach) c.deref-2.ensures.value c.in_ok-saturate.ensures.adds))
    (subst (λ bs. HasAdded (acts_of_bodies bs) (set_of c.saturate.new.reach)) c.deref-2.ensures.value c.in_ok-saturate.ensures.settled))
