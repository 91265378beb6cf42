-- Files that hold the same at two times, and what is told of a plan by them.
use Rattle.std.proofs.Common.{◌≡◌, ℕ, List, Option, inl, inr, subst, sym}
use Rattle.tp_syntax.specs.Domains.{Domain, SpellsDomain}
use Rattle.tp_syntax.specs.Problems.{Problem, SpellsProblem}
use Rattle.tp_syntax.specs.Refusals.{IsRefusedDomain}
use Rattle.tp_syntax_ast.specs.Problems.{IsRefusedProblem}
use Rattle.tp_task.specs.declared.task.Task.{Task}
use Rattle.tp_happen.specs.tp_plan_text.declared.plans.Step.{Step}
use Rattle.tp_cli_files.specs.Texts.{HoldsText, HasFault}
use Rattle.tp_cli_inputs.specs.Causes.{Explains, IsRefusedBy, IsStopped, IsUnjudged}
use Rattle.tp_cli_inputs.specs.Named.{AreNamed, IsIn, IsNamedPlan, IsTaskFor}
use Rattle.tp_cli_inputs.specs.declared.judging.JudgeFault.{JudgeFault}
use Rattle.tp_cli_inputs.specs.declared.judging.JudgeFault.TheVariants as faults
use Rattle.tp_cli_inputs.specs.declared.plan_words.PlanWords.{PlanWords}

abbrev pub Same : (List ℕ → Option (List ℕ)) → (List ℕ → Option (List ℕ)) → Type 0
Same a b = (name : List ℕ) → a name ≡ b name

pub back : (a b : List ℕ → Option (List ℕ)) → Same a b → Same b a
back a b same = λ name. sym (same name)

pub in_over : (a b : List ℕ → Option (List ℕ)) (name : List ℕ) (spells : List ℕ → Type 0) → Same a b → IsIn (a name) spells → IsIn (b name) spells
in_over a b name spells same spelled = subst (λ h. IsIn h spells) (same name) spelled

pub named_over : (a b : List ℕ → Option (List ℕ)) (w : PlanWords) (d : Domain) (p : Problem) → Same a b → AreNamed a w d p → AreNamed b w d p
named_over a b w d p same are =
    (in_over a b w.domain.now (λ text. SpellsDomain text d) same are.0, in_over a b w.problem.now (λ text. SpellsProblem d text p) same are.1)

pub plan_over : (a b : List ℕ → Option (List ℕ)) (w : PlanWords) (task : Task) (steps : List Step) → Same a b → IsNamedPlan a w task steps → IsNamedPlan b w task steps
plan_over a b w task steps same is =
    record {
      domain = is.domain;
      problem = is.problem;
      text = is.text;
      are_named = named_over a b w is.domain is.problem same is.are_named;
      plan_in = subst (λ held. HoldsText held is.text) (same w.plan.now) is.plan_in;
      task_of = is.task_of;
      spelled = is.spelled;
    }

pub explains_over : (a b : List ℕ → Option (List ℕ)) (w : PlanWords) (fault : JudgeFault) → Same a b → Explains a w fault → Explains b w fault
explains_over a b w (faults.DomainFile fault) same h = subst (λ held. HasFault held fault) (same w.domain.now) h
explains_over a b w (faults.Domain fault) same h = in_over a b w.domain.now (λ text. IsRefusedDomain text fault) same h
explains_over a b w (faults.ProblemFile fault) same h = subst (λ held. HasFault held fault) (same w.problem.now) h
explains_over a b w (faults.Problem fault) same h = (
  h.0,
  in_over a b w.domain.now (λ text. SpellsDomain text h.0) same h.1,
  in_over a b w.problem.now (λ text. IsRefusedProblem h.0 text fault) same h.2,
)
explains_over a b w (faults.Task fault) same (d, p, are, inl h) = (d, p, named_over a b w d p same are, inl h)
explains_over a b w (faults.Task fault) same (d, p, are, inr h) =
    (d, p, named_over a b w d p same are, inr (in_over a b w.plan.now (λ text. IsStopped w d p text (faults.Task fault)) same h))
explains_over a b w (faults.PlanFile fault) same h = subst (λ held. HasFault held fault) (same w.plan.now) h
explains_over a b w (faults.Plan fault) same (d, p, are, h) =
    (d, p, named_over a b w d p same are, in_over a b w.plan.now (λ text. IsStopped w d p text (faults.Plan fault)) same h)
explains_over a b w faults.Memory same h = tt
explains_over a b w faults.Range same h = (h.0, h.1, plan_over a b w h.0 h.1 same h.2, h.3)

-- ---- of a text

pub refused_by : (w : PlanWords) (d : Domain) (p : Problem) (text : List ℕ) (t : Task) (fault : JudgeFault) → IsTaskFor w d p text t → IsRefusedBy t text fault → IsStopped w d p text fault
refused_by w d p text t (faults.DomainFile fault) is h = absurd h
refused_by w d p text t (faults.Domain fault) is h = absurd h
refused_by w d p text t (faults.ProblemFile fault) is h = absurd h
refused_by w d p text t (faults.Problem fault) is h = absurd h
refused_by w d p text t (faults.Task fault) is h = absurd h
refused_by w d p text t (faults.PlanFile fault) is h = absurd h
refused_by w d p text t (faults.Plan fault) is h = (t, is, h)
refused_by w d p text t faults.Memory is h = absurd h
refused_by w d p text t faults.Range is h = absurd h

pub stopped : (held : List ℕ → Option (List ℕ)) (w : PlanWords) (d : Domain) (p : Problem) (text : List ℕ) (fault : JudgeFault) → AreNamed held w d p → HoldsText (held w.plan.now) text → IsStopped w d p text fault → Explains held w fault
stopped held w d p text (faults.DomainFile fault) are holds h = absurd h
stopped held w d p text (faults.Domain fault) are holds h = absurd h
stopped held w d p text (faults.ProblemFile fault) are holds h = absurd h
stopped held w d p text (faults.Problem fault) are holds h = absurd h
stopped held w d p text (faults.Task fault) are holds h = (d, p, are, inr (text, holds, h))
stopped held w d p text (faults.PlanFile fault) are holds h = absurd h
stopped held w d p text (faults.Plan fault) are holds h = (d, p, are, (text, holds, h))
stopped held w d p text faults.Memory are holds h = absurd h
stopped held w d p text faults.Range are holds h = absurd h

pub unjudged : (held : List ℕ → Option (List ℕ)) (w : PlanWords) (t : Task) (steps : List Step) (fault : JudgeFault) → IsNamedPlan held w t steps → IsUnjudged t steps fault → Explains held w fault
unjudged held w t steps (faults.DomainFile fault) named h = absurd h
unjudged held w t steps (faults.Domain fault) named h = absurd h
unjudged held w t steps (faults.ProblemFile fault) named h = absurd h
unjudged held w t steps (faults.Problem fault) named h = absurd h
unjudged held w t steps (faults.Task fault) named h = absurd h
unjudged held w t steps (faults.PlanFile fault) named h = absurd h
unjudged held w t steps (faults.Plan fault) named h = absurd h
unjudged held w t steps faults.Memory named h = tt
unjudged held w t steps faults.Range named h = (t, steps, named, h)
