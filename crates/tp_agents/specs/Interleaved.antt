-- Executives that share nothing, and take commands in whatever order these come in.
use Rattle.std.specs.Prelude.{◌≡◌, ℕ, nat_eq, nat_le, if◌then◌else◌, List, [], ◌∷◌, slice_index_or, Option, Some, None}
use Rattle.std.specs.List.{position_from}
use Rattle.tp_exec_machine.specs.declared.command.Command.{Command}
use Rattle.tp_exec_machine.specs.declared.command.Answer.{Answer}
use Rattle.tp_exec_machine.specs.Machine.{Machine}
use Rattle.tp_exec_machine.specs.Step.{Step}
use Rattle.tp_exec_machine.specs.Run.{Run}
use Rattle.tp_agents.specs.declared.fault.CommandFault.{CommandFault}
use Rattle.tp_agents.specs.declared.fault.CommandFault.TheVariants.{Memory, Agent}

-- the states of all agents' executives after that of one has changed
abbrev pub with_state : (ℕ → Machine) → ℕ → Machine → ℕ → Machine
with_state states agent new other = if nat_eq other agent then new else states other

-- Commands of agents come one after another; each is a step of its own agent's executive alone.
abbrev pub JointRun : (ℕ → Machine) → List (ℕ × Command) → List Answer → (ℕ → Machine) → Type 0
JointRun old [] [] new = (agent : ℕ) → new agent ≡ old agent
JointRun old [] (answer ∷ answers) new = ⊥
JointRun old (c ∷ commands) [] new = ⊥
JointRun old (c ∷ commands) (answer ∷ answers) new =
    (mid : Machine)
    × Step (old c.0) c.1 answer mid
    × JointRun (with_state old c.0 mid) commands answers new

-- the states of executives that are numbered from 0 on; behind them there may be any
abbrev pub states_of : List Machine → Machine → ℕ → Machine
states_of machines other agent = slice_index_or machines agent other

-- commands came to executives, each to that of its agent, and were answered so
abbrev pub RunsJointly : List Machine → List (ℕ × Command) → List Answer → List Machine → Type 0
RunsJointly old commands answers new =
    (other : Machine) → JointRun (states_of old other) commands answers (states_of new other)

-- the commands of one agent, in order, and the answers to them
abbrev pub commands_of : ℕ → List (ℕ × Command) → List Command
commands_of agent [] = []
commands_of agent (c ∷ commands) =
    if nat_eq agent c.0 then c.1 ∷ commands_of agent commands else commands_of agent commands

abbrev pub answers_of : ℕ → List (ℕ × Command) → List Answer → List Answer
answers_of agent [] answers = []
answers_of agent (c ∷ commands) [] = []
answers_of agent (c ∷ commands) (answer ∷ answers) =
    if nat_eq agent c.0 then answer ∷ answers_of agent commands answers
    else answers_of agent commands answers

-- each of these executives is as after its own commands alone
abbrev pub RunAlone : List Machine → List (ℕ × Command) → List Answer → List Machine → Type 0
RunAlone old commands answers new =
    (other : Machine) (agent : ℕ)
    → Run (states_of old other agent) (commands_of agent commands)
    (answers_of agent commands answers) (states_of new other agent)

-- after an interleaving each executive is as after its own commands alone
abbrev pub KeepsApart : Type 0
KeepsApart =
    (old new : ℕ → Machine) (commands : List (ℕ × Command)) (answers : List Answer)
    → JointRun old commands answers new → (agent : ℕ)
    → Run (old agent) (commands_of agent commands) (answers_of agent commands answers) (new agent)

-- the place of the first command whose agent there is not, where there are so many
abbrev pub first_stranger : ℕ → List (ℕ × Command) → Option ℕ
first_stranger agents commands = position_from (λ c. nat_le agents c.0) 0 commands

-- why none is carried out: a command's agent there is not; or all are known, and there is no memory
abbrev pub StopsCommands : ℕ → List (ℕ × Command) → CommandFault → Type 0
StopsCommands agents commands Memory = first_stranger agents commands ≡ None
StopsCommands agents commands (Agent place) = first_stranger agents commands ≡ Some place
