use Rattle.std.proofs.Common.{refl}
use Rattle.tp_cli_split.proofs.splitting.split_named.Goals as goal

pub returns-in-Ok-clause-said : goal.returns-in-Ok-clause-said
returns-in-Ok-clause-said g c = c.split_of.ensures.said (g.N.Files.held c.args.files.now) (c.plan_in.ensures.same c.args.owners.now) c.in-Ok.ensures.named

pub returns-in-Ok-clause-cause : goal.returns-in-Ok-clause-cause
returns-in-Ok-clause-cause g c = c.split_of.ensures.cause (g.N.Files.held c.args.files.now) (c.plan_in.ensures.same c.args.owners.now) c.in-Ok.ensures.named

pub returns-in-Err-clause-cause : goal.returns-in-Err-clause-cause
returns-in-Err-clause-cause g c = (c.in-Err.ensures.cause, refl)
