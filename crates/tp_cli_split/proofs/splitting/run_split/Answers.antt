use Rattle.std.proofs.Common.{◌∙◌, sym}
use Rattle.tp_cli_split.proofs.SplitLemmas.{ends, ends_told, ends_within, kept_then, part_then}
use Rattle.tp_cli_split.proofs.splitting.run_split.Goals as goal

pub returns-in-Err-clause-stopped : goal.returns-in-Err-clause-stopped
returns-in-Err-clause-stopped g c =
    λ two.
    ends c.args.agent (g.N.Files.held c.args.files.now) c.args.words c.args.owners.now _ _ _ _ _ _ _ _ _ _ _ c.in-Err.stop _ c.in-Err.ensures.cause (c.complain.ensures.status ∙ c.split_line.ensures.status) c.in-Err.ensures.failures c.in-Err.ensures.opened c.split_line.ensures.text c.complain.ensures.told

pub returns-in-Err-clause-kept : goal.returns-in-Err-clause-kept
returns-in-Err-clause-kept g c =
    λ two.
    kept_then c.args.agent (g.N.Files.held c.args.files.now) c.args.words c.args.owners.now _ _ c.in-Err.stop c.in-Err.ensures.cause (sym (c.complain.ensures.status ∙ c.split_line.ensures.status) ∙ two)

pub returns-in-Err-clause-part : goal.returns-in-Err-clause-part
returns-in-Err-clause-part g c =
    λ broken.
    part_then c.args.agent (g.N.Files.held c.args.files.now) c.args.words c.args.owners.now _ _ c.in-Err.stop c.in-Err.ensures.cause

pub returns-in-Err-clause-told : goal.returns-in-Err-clause-told
returns-in-Err-clause-told g c =
    λ no.
    ends_told _ _ _ c.in-Err.stop (c.complain.ensures.status ∙ c.split_line.ensures.status) c.in-Err.ensures.failures no

pub returns-in-Err-clause-within : goal.returns-in-Err-clause-within
returns-in-Err-clause-within g c = ends_within _ c.in-Err.stop (c.complain.ensures.status ∙ c.split_line.ensures.status)
