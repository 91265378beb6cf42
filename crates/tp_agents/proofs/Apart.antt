-- Executives that share nothing.
use Rattle.std.proofs.Common.{◌≡◌, ◌≢◌, ◌<◌, ℕ, zero, suc, length, get_or, Bool, true, false, cond, nat_eq, nat_le, ◌+◌, Some, None, List, [], ◌∷◌, ◌++◌, refl, sym, ap, ◌∙◌, subst, arith}
use Rattle.std.proofs.lemmas.Bool.{eqb-true}
use Rattle.std.proofs.lemmas.Bool.Decides.{nat_tests}
use Rattle.std.specs.List.{AllByRecursion, position_from}
use Rattle.tp_exec_machine.specs.declared.command.Command.{Command}
use Rattle.tp_exec_machine.specs.declared.command.Answer.{Answer}
use Rattle.tp_exec_machine.specs.Machine.{Machine}
use Rattle.tp_exec_machine.specs.Step.{Step}
use Rattle.tp_exec_machine.specs.Run.{Run}
use Rattle.tp_agents.specs.Interleaved.{with_state, JointRun, commands_of, answers_of}

-- a step of one executive is the next of its own run, and none of another's
one_more : (old : ℕ → Machine) (new : Machine) (agent other : ℕ) (command : Command) (answer : Answer) (mid : Machine) (commands : List Command) (answers : List Answer) → Step (old other) command answer mid → (b : Bool) → nat_eq agent other ≡ b → Run (cond b mid (old agent)) commands answers new → Run (old agent) (cond b (command ∷ commands) commands) (cond b (answer ∷ answers) answers) new
one_more old new agent other command answer mid commands answers step true is run =
    (mid, subst (λ k. Step (old k) command answer mid) (sym (eqb-true agent other is)) step, run)
one_more old new agent other command answer mid commands answers step false is run = run

pub keeps_apart : (old new : ℕ → Machine) (commands : List (ℕ × Command)) (answers : List Answer) → JointRun old commands answers new → (agent : ℕ) → Run (old agent) (commands_of agent commands) (answers_of agent commands answers) (new agent)
keeps_apart old new [] [] h agent = h agent
keeps_apart old new [] (a ∷ more) h agent = absurd h
keeps_apart old new (c ∷ cs) [] h agent = absurd h
keeps_apart old new (c ∷ cs) (a ∷ more) h agent =
    one_more old (new agent) agent c.0 c.1 a h.0 (commands_of agent cs) (answers_of agent cs more) h.1 (nat_eq agent c.0) refl
    (keeps_apart (with_state old c.0 h.0) new cs more h.2 agent)

-- ---- one more command

itself : (k : ℕ) → nat_eq k k ≡ true
itself k = grind (arith, nat_tests)

-- the states after one command, of which one is that of its agent
joint_one : (old new : ℕ → Machine) (agent : ℕ) (command : Command) (answer : Answer) → Step (old agent) command answer (new agent) → ((k : ℕ) → k ≢ agent → new k ≡ old k) → JointRun old ((agent, command) ∷ []) (answer ∷ []) new
joint_one old new agent command answer step others = (new agent, step, λ k. at k (nat_eq k agent) refl)
  where
    at : (k : ℕ) (b : Bool) → nat_eq k agent ≡ b → new k ≡ cond b (new agent) (old k)
    at k true is = ap new (eqb-true k agent is)
    at k false is = others k (λ same. (let yes : nat_eq k agent ≡ true = ap (λ z. nat_eq z agent) same ∙ itself agent in let no : ⊥ = cc in no))

pub joint_more : (commands : List (ℕ × Command)) (answers : List Answer) (old mid new : ℕ → Machine) (agent : ℕ) (command : Command) (answer : Answer) → JointRun old commands answers mid → Step (mid agent) command answer (new agent) → ((k : ℕ) → k ≢ agent → new k ≡ mid k) → JointRun old (commands ++ (agent, command) ∷ []) (answers ++ answer ∷ []) new
joint_more [] [] old mid new agent command answer same step others =
    joint_one old new agent command answer (subst (λ m. Step m command answer (new agent)) (same agent) step) (λ k ne. others k ne ∙ same k)
joint_more [] (a ∷ more) old mid new agent command answer h step others = absurd h
joint_more (c ∷ cs) [] old mid new agent command answer h step others = absurd h
joint_more (c ∷ cs) (a ∷ more) old mid new agent command answer h step others =
    (h.0, h.1, joint_more cs more (with_state old c.0 h.0) mid new agent command answer h.2 step others)

-- the agent of a command is one of so many
pub agent_below : (n : ℕ) (commands : List (ℕ × Command)) (k : ℕ) (c : ℕ × Command) → AllByRecursion (λ (x : ℕ × Command). x.0 < n) commands → k < length commands → (get_or commands k c).0 < n
agent_below n [] k c all lt = absurd (let no : ⊥ = omega (arith, lt) in no)
agent_below n (x ∷ xs) zero c all lt = all.0
agent_below n (x ∷ xs) (suc k) c all lt = agent_below n xs k c all.1 (omega (arith, lt))

-- where no command is of an agent that there is not, each is of one that there is
pub all_known : (n k : ℕ) (commands : List (ℕ × Command)) → position_from (λ c. nat_le n c.0) k commands ≡ None → AllByRecursion (λ c. c.0 < n) commands
all_known n k [] none = tt
all_known n k (c ∷ cs) none = by (nat_le n c.0) refl none (all_known n (k + 1) cs)
  where
    by : (b : Bool) → nat_le n c.0 ≡ b → cond b (Some k) (position_from (λ d. nat_le n d.0) (k + 1) cs) ≡ None → (position_from (λ d. nat_le n d.0) (k + 1) cs ≡ None → AllByRecursion (λ d. d.0 < n) cs) → AllByRecursion (λ d. d.0 < n) (c ∷ cs)
    by true is h more = absurd (let no : ⊥ = cc in no)
    by false is h more = ((let lt : c.0 < n = grind (arith, nat_tests) in lt), more h)
