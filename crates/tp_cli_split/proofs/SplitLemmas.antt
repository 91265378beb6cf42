-- The split of the network of the plan that the words name, and why there is none.
use Rattle.std.proofs.Common.{◌≡◌, ◌∙◌, ◌≤◌, ℕ, suc, List, [], ◌∷◌, length, Option, Bool, true, false, inl, inr, ap, refl, subst, sym}
use Rattle.std.proofs.lemmas.List.{length-replicate}
use Rattle.std.specs.Prelude.{Err, None}
use Rattle.std.specs.Io.KnownBytes.{Appends}
use Rattle.std.proofs.KnownBytes.{Appends-nil}
use Rattle.tp_bounds.specs.Changes.{fresh, with_bound}
use Rattle.tp_bounds.specs.OwnBounds.{setting_of, with_bounds}
use Rattle.tp_bounds.specs.RunLimits.{greatest_limits}
use Rattle.tp_bounds.specs.Setting.{Setting, event_count}
use Rattle.tp_bounds.specs.Schedule.{HasSchedule}
use Rattle.tp_bounds.specs.declared.Bound.{Bound}
use Rattle.tp_bounds.specs.declared.plan_nets.PlanNet.{PlanNet}
use Rattle.tp_task.specs.declared.task.Task.{Task}
use Rattle.tp_happen.specs.tp_plan_text.declared.plans.Step.{Step}
use Rattle.tp_validate.specs.OfTask.{IsValidPlan, plan_of}
use Rattle.tp_validate.specs.declared.verdicts.Verdict.{Verdict}
use Rattle.tp_validate.specs.declared.verdicts.Verdict.TheVariants.{Valid, Invalid}
use Rattle.tp_deorder.specs.Answers.{IsPlanNetOf, own_ticks}
use Rattle.tp_agents.specs.Splits.{IsUnbegun}
use Rattle.tp_agents.specs.Texts.{AreNumbers, words_of}
use Rattle.tp_exec_machine.proofs.OwnBounds.{same_events}
use Rattle.tp_exec_machine.proofs.Ready.{fresh_new}
use Rattle.tp_cli_files.specs.Causes.{raised}
use Rattle.tp_cli_files.specs.FaultLines.{Tells}
use Rattle.tp_cli_files.specs.FileFaults.{file_status}
use Rattle.tp_cli_files.specs.declared.files.FileFault.{FileFault}
use Rattle.tp_cli_files.specs.declared.files.FileFault.TheVariants as file_fault
use Rattle.tp_cli_inputs.specs.Named.{IsIn, IsNamedPlan}
use Rattle.tp_cli_inputs.specs.declared.plan_words.PlanWords.{PlanWords}
use Rattle.tp_cli_inputs.proofs.NamedLemmas.{Same, explains_over, plan_over}
use Rattle.tp_cli_run.specs.Runs.{RunsNamed}
use Rattle.tp_cli_run.proofs.RunLemmas.{Judged, invalid_over, invalid_part_over}
use Rattle.tp_cli_run.proofs.StatusLemmas.{IsStatus, judge_is, network_is, three, two}
use Rattle.tp_cli_split.specs.Divides.{IsMisread, IsMistold, StopsAmong, StopsDividing, StopsPlan, net_setting}
use Rattle.tp_cli_split.specs.Splits.{EndsSplit, Splits, SplitsPart, StopsSplit, StopsTelling, StopsWriting, TellsSplit, WritesPlan, WritesSome}
use Rattle.tp_cli_split.specs.Stops.{split_failures, split_status, split_text, split_unread}
use Rattle.tp_cli_split.specs.declared.stops.SplitStop.{SplitStop}
use Rattle.tp_cli_split.specs.declared.stops.SplitStop.TheVariants.{Judging, Network, Setting as NoSetting, OwnersFile, Owner, Agent, TooMany, Memory, Conflict, Write}

-- ---- the setting of a plan's network

unbegun_with : (s : Setting) (id : ℕ) (bs : List Bound) → IsUnbegun s → IsUnbegun (with_bounds s id bs)
unbegun_with s id [] h = h
unbegun_with s id (b ∷ bs) h =
    unbegun_with (with_bound s id b) (suc id) bs (record { start = h.start; no_past = h.no_past; asks_nothing = h.asks_nothing })

pub net_unbegun : (net : PlanNet) → IsUnbegun (net_setting net)
net_unbegun net =
    let new = fresh_new (length net.events.items) net.horizon in
    unbegun_with (fresh (length net.events.items) net.horizon) 0 net.bounds.items
    (record { start = new.start; no_past = new.no_past; asks_nothing = new.asks_nothing })

pub net_count : (net : PlanNet) → event_count (net_setting net) ≡ length net.events.items
net_count net =
    same_events (fresh (length net.events.items) net.horizon) 0 net.bounds.items ∙ length-replicate (length net.events.items) None

-- ---- from the agents to the plan's network

pub misread_stops : (part : Option ℕ) (s : Setting) (owners_held : Option (List ℕ)) (stop : SplitStop) → IsMisread owners_held stop → StopsDividing part s owners_held stop
misread_stops part s owners_held (Judging fault) h = absurd h
misread_stops part s owners_held (Network fault) h = absurd h
misread_stops part s owners_held NoSetting h = absurd h
misread_stops part s owners_held (OwnersFile fault) h = h
misread_stops part s owners_held (Owner e) h = inl h
misread_stops part s owners_held (Agent a) h = absurd h
misread_stops part s owners_held TooMany h = absurd h
misread_stops part s owners_held Memory h = tt
misread_stops part s owners_held Conflict h = absurd h
misread_stops part s owners_held Write h = absurd h

pub among_stops : (part : Option ℕ) (s : Setting) (owners_held : Option (List ℕ)) (owners : List ℕ) (stop : SplitStop) → IsIn owners_held (λ t. AreNumbers (words_of t) owners) → StopsAmong part s owners stop → StopsDividing part s owners_held stop
among_stops part s owners_held owners (Judging fault) spelled h = absurd h
among_stops part s owners_held owners (Network fault) spelled h = absurd h
among_stops part s owners_held owners NoSetting spelled h = absurd h
among_stops part s owners_held owners (OwnersFile fault) spelled h = absurd h
among_stops part s owners_held owners (Owner e) spelled h = inr (owners, spelled, h)
among_stops part s owners_held owners (Agent a) spelled h = (owners, spelled, h)
among_stops part s owners_held owners TooMany spelled h = (owners, spelled, h)
among_stops part s owners_held owners Memory spelled h = tt
among_stops part s owners_held owners Conflict spelled h = h
among_stops part s owners_held owners Write spelled h = absurd h

-- the plan's own ticks are a schedule of its network
has_schedule : (task : Task) (steps : List Step) (horizon : ℕ) (net : PlanNet) → IsPlanNetOf task steps (greatest_limits horizon) net → HasSchedule (net_setting net)
has_schedule task steps horizon net is =
    subst HasSchedule
    (ap (λ n. setting_of n horizon net.bounds.items) (sym is.events) ∙ ap (λ h. setting_of (length net.events.items) h net.bounds.items) (sym is.horizon))
    (own_ticks (plan_of task steps), is.net.own)

module _ (task : Task) (steps : List Step) (horizon : ℕ) (net : PlanNet) (is_net : IsPlanNetOf task steps (greatest_limits horizon) net) (owners_held : Option (List ℕ)) where
  pub dividing_stops : (part : Option ℕ) (stop : SplitStop) → StopsDividing part (net_setting net) owners_held stop → StopsPlan part task steps horizon owners_held stop
  dividing_stops part (Judging fault) h = absurd h
  dividing_stops part (Network fault) h = absurd h
  dividing_stops part NoSetting h = tt
  dividing_stops part (OwnersFile fault) h = h
  dividing_stops part (Owner e) h = (net, is_net, subst (λ n. IsMistold n owners_held e) (net_count net) h)
  dividing_stops part (Agent a) h = h
  dividing_stops part TooMany h = (net, is_net, h)
  dividing_stops part Memory h = tt
  dividing_stops part Conflict h = absurd (h (has_schedule task steps horizon net is_net))
  dividing_stops part Write h = absurd h

-- ---- from a verdict to the words

pub splits_named : (part : Option ℕ) (held : List ℕ → Option (List ℕ)) (w : PlanWords) (owners : List ℕ) (task : Task) (verdict : Verdict) (before now : Option (List ℕ)) (valid : Bool) → Judged held w task verdict → TellsSplit part verdict w.horizon (held owners) before now valid → Splits part held w owners before now valid
splits_named part held w owners task (Valid plan) before now valid judged h =
    subst (Splits part held w owners before now) (sym h.0) (
      task,
      judged.0,
      judged.1,
      judged.2.2,
      subst (λ (s : List Step). WritesPlan part task s w.horizon (held owners) before now) judged.2.1
          (subst (λ (t : Task). WritesPlan part t plan.steps w.horizon (held owners) before now) judged.2.0 h.1),
    )
splits_named part held w owners task (Invalid plan tick why) before now valid judged h =
    subst (Splits part held w owners before now) (sym h.0)
    (record { task = task; steps = judged.0; tick = tick; why = why; named = judged.1; first = judged.2.1; invalid = judged.2.2; written = h.1 })

stops_writing : (part : Option ℕ) (held : List ℕ → Option (List ℕ)) (w : PlanWords) (owners : List ℕ) (task : Task) (steps : List Step) (before now : Option (List ℕ)) (stop : SplitStop) → IsNamedPlan held w task steps → IsValidPlan task steps → StopsWriting part task steps w.horizon (held owners) before now stop → StopsSplit part held w owners before now stop
stops_writing part held w owners task steps before now (Judging fault) named valid h = absurd h
stops_writing part held w owners task steps before now (Network fault) named valid h = ((task, steps, named, valid, h.0), h.1)
stops_writing part held w owners task steps before now NoSetting named valid h = h
stops_writing part held w owners task steps before now (OwnersFile fault) named valid h = ((task, steps, named, valid, h.0), h.1)
stops_writing part held w owners task steps before now (Owner e) named valid h = ((task, steps, named, valid, h.0), h.1)
stops_writing part held w owners task steps before now (Agent a) named valid h = ((task, steps, named, valid, h.0), h.1)
stops_writing part held w owners task steps before now TooMany named valid h = ((task, steps, named, valid, h.0), h.1)
stops_writing part held w owners task steps before now Memory named valid h = h
stops_writing part held w owners task steps before now Conflict named valid h = h
stops_writing part held w owners task steps before now Write named valid h = inr (task, steps, named, valid, h)

pub stops_named : (part : Option ℕ) (held : List ℕ → Option (List ℕ)) (w : PlanWords) (owners : List ℕ) (task : Task) (verdict : Verdict) (before now : Option (List ℕ)) (stop : SplitStop) → Judged held w task verdict → StopsTelling part verdict w.horizon (held owners) before now stop → StopsSplit part held w owners before now stop
stops_named part held w owners task (Valid plan) before now stop judged h =
    stops_writing part held w owners task judged.0 before now stop judged.1 judged.2.2
    (subst (λ (s : List Step). StopsWriting part task s w.horizon (held owners) before now stop) judged.2.1
    (subst (λ (t : Task). StopsWriting part t plan.steps w.horizon (held owners) before now stop) judged.2.0 h))
stops_named part held w owners task (Invalid plan tick why) before now stop judged h =
    subst (StopsSplit part held w owners before now) (sym h.0)
    (inl (record { task = task; steps = judged.0; tick = tick; why = why; named = judged.1; first = judged.2.1; invalid = judged.2.2; part = h.1 }))

-- ---- the same of files that hold the same

named_over : (a b : List ℕ → Option (List ℕ)) (w : PlanWords) (owners : List ℕ) (is : Option (List ℕ) → Task → List Step → Type 0) → Same a b → RunsNamed a w (is (a owners)) → RunsNamed b w (is (b owners))
named_over a b w owners is same h = (h.0, h.1, plan_over a b w h.0 h.1 same h.2, h.3, subst (λ held. is held h.0 h.1) (same owners) h.4)

pub splits_over : (part : Option ℕ) (a b : List ℕ → Option (List ℕ)) (w : PlanWords) (owners : List ℕ) (before now : Option (List ℕ)) (valid : Bool) → Same a b → Splits part a w owners before now valid → Splits part b w owners before now valid
splits_over part a b w owners before now true same h =
    named_over a b w owners (λ held task steps. WritesPlan part task steps w.horizon held before now) same h
splits_over part a b w owners before now false same h = invalid_over a b w before now same h

pub stops_over : (part : Option ℕ) (a b : List ℕ → Option (List ℕ)) (w : PlanWords) (owners : List ℕ) (before now : Option (List ℕ)) (stop : SplitStop) → Same a b → StopsSplit part a w owners before now stop → StopsSplit part b w owners before now stop
stops_over part a b w owners before now (Judging fault) same h = (explains_over a b w fault same h.0, h.1)
stops_over part a b w owners before now (Network fault) same h =
    (named_over a b w owners (λ held task steps. StopsPlan part task steps w.horizon held (Network fault)) same h.0, h.1)
stops_over part a b w owners before now NoSetting same h = h
stops_over part a b w owners before now (OwnersFile fault) same h =
    (named_over a b w owners (λ held task steps. StopsPlan part task steps w.horizon held (OwnersFile fault)) same h.0, h.1)
stops_over part a b w owners before now (Owner e) same h =
    (named_over a b w owners (λ held task steps. StopsPlan part task steps w.horizon held (Owner e)) same h.0, h.1)
stops_over part a b w owners before now (Agent n) same h =
    (named_over a b w owners (λ held task steps. StopsPlan part task steps w.horizon held (Agent n)) same h.0, h.1)
stops_over part a b w owners before now TooMany same h =
    (named_over a b w owners (λ held task steps. StopsPlan part task steps w.horizon held TooMany) same h.0, h.1)
stops_over part a b w owners before now Memory same h = h
stops_over part a b w owners before now Conflict same h = h
stops_over part a b w owners before now Write same (inl h) = inl (invalid_part_over a b w before now same h)
stops_over part a b w owners before now Write same (inr h) =
    inr (named_over a b w owners (λ held task steps. WritesSome part task steps w.horizon held before now) same h)

-- ---- how a split ends

file_is : (fault : FileFault) → IsStatus (file_status fault)
file_is file_fault.Memory = three
file_is file_fault.Read = three
file_is file_fault.Utf8 = two
file_is file_fault.TooLong = two

stop_is : (stop : SplitStop) → IsStatus (split_status stop)
stop_is (Judging fault) = judge_is fault
stop_is (Network fault) = network_is fault
stop_is NoSetting = three
stop_is (OwnersFile fault) = file_is fault
stop_is (Owner e) = two
stop_is (Agent a) = two
stop_is TooMany = two
stop_is Memory = three
stop_is Conflict = two
stop_is Write = three

none_then : (before now : Option (List ℕ)) → now ≡ before → Appends before now []
none_then before now same = subst (λ n. Appends before n []) (sym same) (Appends-nil before)

pub part_then : (part : Option ℕ) (held : List ℕ → Option (List ℕ)) (w : PlanWords) (owners : List ℕ) (before now : Option (List ℕ)) (stop : SplitStop) → StopsSplit part held w owners before now stop → SplitsPart part held w owners before now
part_then part held w owners before now (Judging fault) h = inl (none_then before now h.1)
part_then part held w owners before now (Network fault) h = inl (none_then before now h.1)
part_then part held w owners before now NoSetting h = inl (none_then before now h)
part_then part held w owners before now (OwnersFile fault) h = inl (none_then before now h.1)
part_then part held w owners before now (Owner e) h = inl (none_then before now h.1)
part_then part held w owners before now (Agent a) h = inl (none_then before now h.1)
part_then part held w owners before now TooMany h = inl (none_then before now h.1)
part_then part held w owners before now Memory h = inl (none_then before now h)
part_then part held w owners before now Conflict h = absurd h
part_then part held w owners before now Write h = inr h

pub kept_then : (part : Option ℕ) (held : List ℕ → Option (List ℕ)) (w : PlanWords) (owners : List ℕ) (before now : Option (List ℕ)) (stop : SplitStop) → StopsSplit part held w owners before now stop → split_status stop ≡ 2 → now ≡ before
kept_then part held w owners before now (Judging fault) h two = h.1
kept_then part held w owners before now (Network fault) h two = h.1
kept_then part held w owners before now NoSetting h two = h
kept_then part held w owners before now (OwnersFile fault) h two = h.1
kept_then part held w owners before now (Owner e) h two = h.1
kept_then part held w owners before now (Agent a) h two = h.1
kept_then part held w owners before now TooMany h two = h.1
kept_then part held w owners before now Memory h two = h
kept_then part held w owners before now Conflict h two = absurd h
kept_then part held w owners before now Write h two = cc

any_type : (n : ℕ) (stop : SplitStop) → split_failures {T = Bool} n (Err stop) ≡ split_failures {T = Unit {0}} n (Err stop)
any_type n (Judging fault) = refl
any_type n (Network fault) = refl
any_type n NoSetting = refl
any_type n (OwnersFile fault) = refl
any_type n (Owner e) = refl
any_type n (Agent a) = refl
any_type n TooMany = refl
any_type n Memory = refl
any_type n Conflict = refl
any_type n Write = refl

no_write : (n : ℕ) (stop : SplitStop) → (split_status stop ≡ 3 → ⊥) → split_failures {T = Unit {0}} n (Err stop) ≡ n
no_write n (Judging fault) other = refl
no_write n (Network fault) other = refl
no_write n NoSetting other = refl
no_write n (OwnersFile fault) other = refl
no_write n (Owner e) other = refl
no_write n (Agent a) other = refl
no_write n TooMany other = refl
no_write n Memory other = refl
no_write n Conflict other = refl
no_write n Write other = absurd (other refl)

pub ends : (part : Option ℕ) (held : List ℕ → Option (List ℕ)) (w : PlanWords) (owners : List ℕ) (status : ℕ) (before now : Option (List ℕ)) (unread unread-now output output-now failures : ℕ) (said : Option (List ℕ)) (failures-now : ℕ) (said-now : Option (List ℕ)) (stop : SplitStop) (text : List ℕ) → StopsSplit part held w owners before now stop → status ≡ split_status stop → output-now ≡ split_failures {T = Bool} output (Err stop) → unread-now ≡ raised (split_unread stop) unread → text ≡ split_text w owners stop → Tells text failures said failures-now said-now → EndsSplit part held w owners status before now unread unread-now output output-now failures said failures-now said-now
ends part held w owners status before now unread unread-now output output-now failures said failures-now said-now stop text cause is write opened line told =
    record {
      stop = stop;
      is = sym is;
      cause = cause;
      opened = opened;
      write = write ∙ any_type output stop;
      told = subst (λ (t : List ℕ). Tells t failures said failures-now said-now) line told;
    }

pub ends_told : (status output output-now : ℕ) (stop : SplitStop) → status ≡ split_status stop → output-now ≡ split_failures {T = Bool} output (Err stop) → (status ≡ 3 → ⊥) → output-now ≡ output
ends_told status output output-now stop is write other = write ∙ (any_type output stop ∙ no_write output stop (λ broken. other (is ∙ broken)))

pub ends_within : (status : ℕ) (stop : SplitStop) → status ≡ split_status stop → status ≤ 3
ends_within status stop is = subst (λ n. n ≤ 3) (sym is) (stop_is stop).1
