-- Why the files of a plan gave no verdict. Out of memory, and files that can't be read, are told of nothing.
use Rattle.std.specs.Prelude.{ℕ, List, [], Option, ◌⊎◌}
use Rattle.tp_bounds.specs.RunLimits.{greatest_limits}
use Rattle.tp_syntax_ast.specs.Problems.{IsRefusedProblem}
use Rattle.tp_syntax.specs.Domains.{Domain, SpellsDomain}
use Rattle.tp_syntax.specs.Problems.{Problem}
use Rattle.tp_syntax.specs.Refusals.{IsRefusedDomain}
use Rattle.tp_ground_named.specs.Named.{chosen, HasNoTaskOf}
use Rattle.tp_task.specs.declared.task.Task as task
use Rattle.tp_happen.specs.tp_plan_text.PlanNames.{plan_names}
use Rattle.tp_happen.specs.tp_plan_text.PlanTexts.{IsRefused}
use Rattle.tp_happen.specs.tp_plan_text.TaskWords.{readable}
use Rattle.tp_happen.specs.tp_plan_text.declared.plans.Step.{Step}
use Rattle.tp_validate.specs.Verdict.{PassesIn}
use Rattle.tp_cli_files.specs.Texts.{HasFault}
use Rattle.tp_cli_inputs.specs.Named.{IsIn, AreNamed, IsTaskFor, IsNamedPlan}
use Rattle.tp_cli_inputs.specs.declared.judging.JudgeFault.{JudgeFault}
use Rattle.tp_cli_inputs.specs.declared.judging.JudgeFault.TheVariants as faults
use Rattle.tp_cli_inputs.specs.declared.plan_words.PlanWords.{PlanWords}

-- a text is no plan of a task
abbrev pub IsRefusedBy : task.Task → List ℕ → JudgeFault → Type 0
IsRefusedBy t text (faults.DomainFile fault) = ⊥
IsRefusedBy t text (faults.Domain fault) = ⊥
IsRefusedBy t text (faults.ProblemFile fault) = ⊥
IsRefusedBy t text (faults.Problem fault) = ⊥
IsRefusedBy t text (faults.Task fault) = ⊥
IsRefusedBy t text (faults.PlanFile fault) = ⊥
IsRefusedBy t text (faults.Plan fault) = IsRefused (readable t) text fault
IsRefusedBy t text faults.Memory = ⊥
IsRefusedBy t text faults.Range = ⊥

-- why a plan's text gives no task or no plan
abbrev pub IsStopped : PlanWords → Domain → Problem → List ℕ → JudgeFault → Type 0
IsStopped w d p text (faults.DomainFile fault) = ⊥
IsStopped w d p text (faults.Domain fault) = ⊥
IsStopped w d p text (faults.ProblemFile fault) = ⊥
IsStopped w d p text (faults.Problem fault) = ⊥
IsStopped w d p text (faults.Task fault) =
    HasNoTaskOf (greatest_limits w.horizon) d p (chosen d p (plan_names text)) fault
IsStopped w d p text (faults.PlanFile fault) = ⊥
IsStopped w d p text (faults.Plan fault) =
    (t : task.Task) × IsTaskFor w d p text t × IsRefused (readable t) text fault
IsStopped w d p text faults.Memory = ⊥
IsStopped w d p text faults.Range = ⊥

-- steps are not judged for want of memory, or since a number passes the limit
abbrev pub IsUnjudged : task.Task → List Step → JudgeFault → Type 0
IsUnjudged t steps (faults.DomainFile fault) = ⊥
IsUnjudged t steps (faults.Domain fault) = ⊥
IsUnjudged t steps (faults.ProblemFile fault) = ⊥
IsUnjudged t steps (faults.Problem fault) = ⊥
IsUnjudged t steps (faults.Task fault) = ⊥
IsUnjudged t steps (faults.PlanFile fault) = ⊥
IsUnjudged t steps (faults.Plan fault) = ⊥
IsUnjudged t steps faults.Memory = Unit {0}
IsUnjudged t steps faults.Range = PassesIn t steps

-- the fault is one of what the files hold
abbrev pub Explains : (List ℕ → Option (List ℕ)) → PlanWords → JudgeFault → Type 0
Explains held w (faults.DomainFile fault) = HasFault (held w.domain.now) fault
Explains held w (faults.Domain fault) =
    IsIn (held w.domain.now) (λ text. IsRefusedDomain text fault)
Explains held w (faults.ProblemFile fault) = HasFault (held w.problem.now) fault
Explains held w (faults.Problem fault) =
    (domain : Domain) × IsIn (held w.domain.now) (λ text. SpellsDomain text domain)
    × IsIn (held w.problem.now) (λ text. IsRefusedProblem domain text fault)
Explains held w (faults.Task fault) =
    (domain : Domain) × (problem : Problem) × AreNamed held w domain problem
    × (HasNoTaskOf (greatest_limits w.horizon) domain problem [] fault
    ⊎ IsIn (held w.plan.now) (λ text. IsStopped w domain problem text (faults.Task fault)))
Explains held w (faults.PlanFile fault) = HasFault (held w.plan.now) fault
Explains held w (faults.Plan fault) =
    (domain : Domain) × (problem : Problem) × AreNamed held w domain problem
    × IsIn (held w.plan.now) (λ text. IsStopped w domain problem text (faults.Plan fault))
Explains held w faults.Memory = Unit {0}
Explains held w faults.Range =
    (t : task.Task) × (steps : List Step) × IsNamedPlan held w t steps × PassesIn t steps

-- a fault of a domain or of a problem, or of their files
abbrev pub IsTextFault : JudgeFault → Type 0
IsTextFault (faults.DomainFile fault) = Unit {0}
IsTextFault (faults.Domain fault) = Unit {0}
IsTextFault (faults.ProblemFile fault) = Unit {0}
IsTextFault (faults.Problem fault) = Unit {0}
IsTextFault (faults.Task fault) = ⊥
IsTextFault (faults.PlanFile fault) = ⊥
IsTextFault (faults.Plan fault) = ⊥
IsTextFault faults.Memory = ⊥
IsTextFault faults.Range = ⊥
