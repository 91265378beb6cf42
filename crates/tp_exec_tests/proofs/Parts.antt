-- Reports of two parts.
use Rattle.std.proofs.Common.{◌≡◌, ℕ, zero, suc, List, [], ◌∷◌, length, slice_get, Option, Some, None, sym, ap, subst, ◌∙◌}
use Rattle.std.proofs.lemmas.List.{length-replicate}
use Rattle.std.proofs.lemmas.Option.{same_Some}
use Rattle.tp_bounds.specs.RunLimits.{RunLimits}
use Rattle.tp_bounds.specs.Setting.{Setting, event_count}
use Rattle.tp_bounds.specs.Changes.{fresh}
use Rattle.tp_bounds.specs.declared.plan_nets.PlanNet.{PlanNet}
use Rattle.tp_exec_machine.specs.Machine.{Machine, IsFresh, plan_machine}
use Rattle.tp_exec_machine.proofs.Ready.{fresh_new}
use Rattle.tp_agents.specs.Parts.{IsPart}
use Rattle.tp_exec_laws.specs.PartRuns.{BeginsPart}

-- an executive over the network of a part that is new
pub begins_new : (s : Setting) (owners : List ℕ) (xs : List (Option (ℕ × ℕ))) (agent : ℕ) (part : PlanNet) (net : Setting) (events horizon : ℕ) (limits : RunLimits) (m : Machine) → IsPart s owners xs agent part → net ≡ fresh events horizon → events ≡ length part.events.items → horizon ≡ part.horizon → m ≡ plan_machine net part.bounds.items limits → BeginsPart s owners xs agent m
begins_new s owners xs agent part net events horizon limits m is_part new count until is =
    record {
      part = part;
      is_part = is_part;
      net = net;
      fresh = subst IsFresh (sym new) (fresh_new events horizon);
      events = ap event_count new ∙ (length-replicate events None ∙ count);
      horizon = ap (λ (r : Setting). r.horizon) new ∙ until;
      limits = limits;
      is = is;
    }

pub each_of_two : {A : Type 0} (P : ℕ → A → Type 0) (a b : A) → P 0 a → P 1 b → (k : ℕ) (x : A) → slice_get (a ∷ b ∷ []) k ≡ Some x → P k x
each_of_two P a b p q zero x h = subst (P 0) (same_Some a x h) p
each_of_two P a b p q (suc zero) x h = subst (P 1) (same_Some b x h) q
each_of_two P a b p q (suc (suc k)) x h = absurd (let f : ⊥ = cc in f)
