use Rattle.std.proofs.Common.{rules, w64, subst}
use mir.Val.{SFits}
use Rattle.std.proofs.lemmas.Int.{to_z-of_z}
use Rattle.tp_exec_machine.specs.declared.command.Command.TheVariants.{Add}
use Rattle.tp_exec_machine.specs.declared.command.Answer.TheVariants.{Refused}
use Rattle.tp_exec_machine.specs.Step.{Step}
use Rattle.tp_exec_machine.proofs.running.perform.Goals as goal

pub returns-in-Err-add : goal.returns-in-Err-add
returns-in-Err-add g c =
    let fits : SFits w64 c.in-Add.bound.w = search rules in
    rw c.in-Add.is
    (subst (λ w. Step c.args.executive.now (Add (record { from = c.in-Add.bound.from; to = c.in-Add.bound.to; w = w })) (Refused c.in-Err-add.refusal) c.add.new.self)
    (to_z-of_z w64 c.in-Add.bound.w fits) c.in-Err-add.ensures)
