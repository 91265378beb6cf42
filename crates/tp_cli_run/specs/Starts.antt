-- The machine in which the run of a plan's network begins, and what is read on the way there.
use Rattle.std.specs.Prelude.{◌≡◌, ℕ, List, length, Option, Result, Ok, Err, ◌⊎◌}
use Rattle.tp_bounds.specs.RunLimits.{greatest_limits}
use Rattle.tp_bounds.specs.Setting.{Setting}
use Rattle.tp_bounds.specs.declared.plan_nets.PlanNet.{PlanNet}
use Rattle.tp_exec_machine.specs.Machine.{IsFresh, Machine, plan_machine}
use Rattle.tp_script.specs.Pending.{Reading}
use Rattle.tp_script.specs.Lags.{ReadsLags}
use Rattle.tp_script.specs.Serving.{Serves}
use Rattle.tp_script.specs.declared.serving.Served.{Served}
use Rattle.tp_cli_bare.specs.Bare.{TakesAllLags, first_setting}
use Rattle.tp_cli_bare.specs.declared.bare.BareFault.{BareFault}
use Rattle.tp_cli_bare.specs.declared.bare.BareFault.TheVariants.{Network, Serving}

-- how many events a plan's network has, and its horizon
abbrev pub net_head : PlanNet → ℕ × ℕ
net_head net = (length net.events.items, net.horizon)

-- the machine in which a run begins: the network of a plan, with lags, under the greatest limits
abbrev pub run_machine : PlanNet → Setting → Machine
run_machine net setting = plan_machine setting net.bounds.items (greatest_limits net.horizon)

-- a run begins in it: the network was new but for lags
abbrev pub IsNewRun : PlanNet → Machine → Type 0
IsNewRun net m = (setting : Setting) × IsFresh setting × (m ≡ run_machine net setting)

-- what came of the lines of lags at the beginning: the machine in which the run begins, or one of them was at fault or not read, or
-- memory was wanting
abbrev pub BeginsRun : PlanNet → Reading → Reading → Result Machine BareFault → Type 0
BeginsRun net before after (Ok m) =
    (setting : Setting) × TakesAllLags (net_head net) before after setting
    × (m ≡ run_machine net setting)
BeginsRun net before after (Err (Serving fault)) =
    (setting : Setting)
    × ReadsLags before after (first_setting (net_head net)) setting (Err fault)
BeginsRun net before after (Err Network) = Unit {0}

-- what came of the commands behind the lags: the lines were answered, and this is the machine then; or not all of them
abbrev pub AnswersRun : PlanNet → Reading → Reading → Option (List ℕ) → Option (List ℕ)
    → Result Machine BareFault → Type 0
AnswersRun net before after held now (Ok last) =
    (setting : Setting) × (mid : Reading) × (served : Served)
    × TakesAllLags (net_head net) before mid setting
    × Serves (run_machine net setting) last mid after held now (Ok served)
AnswersRun net before after held now (Err (Serving fault)) =
    ((setting : Setting)
    × ReadsLags before after (first_setting (net_head net)) setting (Err fault) × (now ≡ held))
    ⊎ ((setting : Setting) × (mid : Reading) × (last : Machine) × TakesAllLags (net_head net)
    before mid setting × Serves (run_machine net setting) last mid after held now (Err fault))
AnswersRun net before after held now (Err Network) = now ≡ held
