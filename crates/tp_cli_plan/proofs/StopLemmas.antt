-- Why a search stops, and what was written by then.
use Rattle.std.proofs.Common.{◌≡◌, ◌≤◌, ◌∙◌, ℕ, List, [], Option, Bool, inl, inr, refl, subst, sym, arith}
use Rattle.std.specs.Prelude.{Err}
use Rattle.std.specs.Io.KnownBytes.{Appends}
use Rattle.std.proofs.KnownBytes.{Appends-nil}
use Rattle.tp_text.specs.declared.fault.TextFault.{TextFault}
use Rattle.tp_text.specs.declared.fault.TextFault.TheVariants as text_fault
use Rattle.tp_syntax_ast.specs.declared.fault.SyntaxFault.{SyntaxFault}
use Rattle.tp_syntax_ast.specs.declared.fault.SyntaxFault.TheVariants as syntax_fault
use Rattle.tp_task.specs.declared.fault.GroundFault.{GroundFault}
use Rattle.tp_task.specs.declared.fault.GroundFault.TheVariants as ground_fault
use Rattle.tp_search.specs.tp_search_frontier.declared.fault.SearchFault.{SearchFault}
use Rattle.tp_search.specs.tp_search_frontier.declared.fault.SearchFault.TheVariants as search_fault
use Rattle.tp_cli_files.specs.Causes.{raised}
use Rattle.tp_cli_files.specs.FaultLines.{Tells}
use Rattle.tp_cli_files.specs.FileFaults.{file_status}
use Rattle.tp_cli_files.specs.declared.files.FileFault.{FileFault}
use Rattle.tp_cli_files.specs.declared.files.FileFault.TheVariants as file_fault
use Rattle.tp_cli_inputs.specs.JudgeLines.{ground_status, judge_status, syntax_status, text_status}
use Rattle.tp_cli_inputs.specs.declared.judging.JudgeFault.{JudgeFault}
use Rattle.tp_cli_inputs.specs.declared.judging.JudgeFault.TheVariants as judge_fault
use Rattle.tp_cli_plan.specs.Searches.{SearchesPart, task_words}
use Rattle.tp_cli_inputs.specs.declared.plan_words.PlanWords.{PlanWords}
use Rattle.tp_cli_plan.specs.SearchTasks.{ExplainsTask}
use Rattle.tp_cli_plan.specs.SearchStops.{EndsSearch, StopsSearch, search_status, stop_failures, stop_status, stop_text, stop_unread}
use Rattle.tp_cli_plan.specs.declared.search_words.SearchWords.{SearchWords}
use Rattle.tp_cli_plan.specs.declared.stops.SearchStop.{SearchStop}
use Rattle.tp_cli_plan.specs.declared.stops.SearchStop.TheVariants.{Files, Searching, Write}

-- ---- the status of a fault

file_most : (fault : FileFault) → file_status fault ≤ 3
file_most file_fault.Memory = omega arith
file_most file_fault.Read = omega arith
file_most file_fault.Utf8 = omega arith
file_most file_fault.TooLong = omega arith

text_most : (fault : TextFault) → text_status fault ≤ 3
text_most text_fault.Memory = omega arith
text_most text_fault.TooLong = omega arith
text_most (text_fault.BadByte at) = omega arith
text_most (text_fault.Unclosed at) = omega arith
text_most (text_fault.Extra at) = omega arith
text_most (text_fault.Depth at) = omega arith
text_most text_fault.Empty = omega arith

syntax_most : (fault : SyntaxFault) → syntax_status fault ≤ 3
syntax_most syntax_fault.Memory = omega arith
syntax_most (syntax_fault.Text fault) = text_most fault
syntax_most (syntax_fault.Shape at) = omega arith
syntax_most (syntax_fault.Unknown at) = omega arith
syntax_most (syntax_fault.Twice at) = omega arith
syntax_most (syntax_fault.Types at) = omega arith
syntax_most (syntax_fault.LeftOut at what) = omega arith

ground_most : (fault : GroundFault) → ground_status fault ≤ 3
ground_most ground_fault.Memory = omega arith
ground_most (ground_fault.TooMany kind) = omega arith
ground_most ground_fault.Range = omega arith

files_most : (held : List ℕ → Option (List ℕ)) (w : PlanWords) (fault : JudgeFault) → ExplainsTask held w fault → judge_status fault ≤ 3
files_most held w (judge_fault.DomainFile fault) is = file_most fault
files_most held w (judge_fault.Domain fault) is = syntax_most fault
files_most held w (judge_fault.ProblemFile fault) is = file_most fault
files_most held w (judge_fault.Problem fault) is = syntax_most fault
files_most held w (judge_fault.Task fault) is = ground_most fault
files_most held w (judge_fault.PlanFile fault) is = absurd is
files_most held w (judge_fault.Plan fault) is = absurd is
files_most held w judge_fault.Memory is = absurd is
files_most held w judge_fault.Range is = absurd is

search_most : (fault : SearchFault) → search_status fault ≤ 3
search_most search_fault.Memory = omega arith
search_most search_fault.Range = omega arith

-- ---- how a search ends

module _ (held : List ℕ → Option (List ℕ)) (w : SearchWords) (before now : Option (List ℕ)) where
  stop_most : (stop : SearchStop) → StopsSearch held w before now stop → stop_status stop ≤ 3
  stop_most (Files fault) h = files_most held (task_words w) fault h.0
  stop_most (Searching fault) h = search_most fault
  stop_most Write h = omega arith

  pub ends_within : (status : ℕ) (stop : SearchStop) → StopsSearch held w before now stop → status ≡ stop_status stop → status ≤ 3
  ends_within status stop h is = subst (λ n. n ≤ 3) (sym is) (stop_most stop h)

  pub part_then : (stop : SearchStop) → StopsSearch held w before now stop → SearchesPart held w before now
  part_then (Files fault) h = inl (subst (λ n. Appends before n []) (sym h.1) (Appends-nil before))
  part_then (Searching fault) h = inl (subst (λ n. Appends before n []) (sym h.1) (Appends-nil before))
  part_then Write h = inr h

  kept_then : (stop : SearchStop) → StopsSearch held w before now stop → stop_status stop ≡ 2 → now ≡ before
  kept_then (Files fault) h two = h.1
  kept_then (Searching fault) h two = h.1
  kept_then Write h two = cc

  pub ends_kept : (status : ℕ) (stop : SearchStop) → StopsSearch held w before now stop → status ≡ stop_status stop → status ≡ 2 → now ≡ before
  ends_kept status stop h is refused = kept_then stop h (sym is ∙ refused)

any_type : (n : ℕ) (stop : SearchStop) → stop_failures {T = Bool} n (Err stop) ≡ stop_failures {T = Unit {0}} n (Err stop)
any_type n (Files fault) = refl
any_type n (Searching fault) = refl
any_type n Write = refl

no_write : (n : ℕ) (stop : SearchStop) → (stop_status stop ≡ 3 → ⊥) → stop_failures {T = Unit {0}} n (Err stop) ≡ n
no_write n (Files fault) other = refl
no_write n (Searching fault) other = refl
no_write n Write other = absurd (other refl)

pub ends_told : (status output output-now : ℕ) (stop : SearchStop) → status ≡ stop_status stop → output-now ≡ stop_failures {T = Bool} output (Err stop) → (status ≡ 3 → ⊥) → output-now ≡ output
ends_told status output output-now stop is write other = write ∙ (any_type output stop ∙ no_write output stop (λ broken. other (is ∙ broken)))

pub ends : (held : List ℕ → Option (List ℕ)) (w : SearchWords) (status : ℕ) (before now : Option (List ℕ)) (unread unread-now output output-now failures : ℕ) (said : Option (List ℕ)) (failures-now : ℕ) (said-now : Option (List ℕ)) (stop : SearchStop) (text : List ℕ) → StopsSearch held w before now stop → status ≡ stop_status stop → output-now ≡ stop_failures {T = Bool} output (Err stop) → unread-now ≡ raised (stop_unread stop) unread → text ≡ stop_text w stop → Tells text failures said failures-now said-now → EndsSearch held w status before now unread unread-now output output-now failures said failures-now said-now
ends held w status before now unread unread-now output output-now failures said failures-now said-now stop text cause is write opened line told =
    record {
      stop = stop;
      is = sym is;
      cause = cause;
      opened = opened;
      write = write ∙ any_type output stop;
      told = subst (λ (t : List ℕ). Tells t failures said failures-now said-now) line told;
    }
