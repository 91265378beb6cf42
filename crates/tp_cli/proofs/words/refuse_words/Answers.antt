use Rattle.std.proofs.Common.{◌∙◌, ◌++◌, ℕ, List, [], append-nil, inr, refl, subst, sym}
use Rattle.tp_cli_files.specs.FaultLines.{Tells}
use Rattle.tp_cli.proofs.words.refuse_words.Goals as goal

pub returns-in-Some-clause-fault : goal.returns-in-Some-clause-fault
returns-in-Some-clause-fault g c =
    let told = subst
    (λ t. Tells (t ++ c.as_str.result.now) (g.F.Sink.failures c.args.faults.now) (g.F.Sink.held c.args.faults.now) (g.F.Sink.failures c.complain_more.new.faults) (g.F.Sink.held c.complain_more.new.faults))
    c.line-line.ensures.text
    c.complain_more.ensures.told in
    inr (c.complain_more.ensures.status ∙ c.line-line.ensures.status, (c.as_str.result.now, told))

pub returns-in-Some-clause-refused : goal.returns-in-Some-clause-refused
returns-in-Some-clause-refused g c =
    λ words nothing held n.
    record {
      two = c.complain_more.ensures.status ∙ c.line-line.ensures.status;
      kept = refl;
      same = refl;
      more = c.as_str.result.now;
      told = subst (λ (t : List ℕ). Tells (t ++ c.as_str.result.now) (g.F.Sink.failures c.args.faults.now) (g.F.Sink.held c.args.faults.now) (g.F.Sink.failures c.complain_more.new.faults) (g.F.Sink.held c.complain_more.new.faults)) c.line-line.ensures.text c.complain_more.ensures.told;
      nothing = nothing;
    }

pub returns-in-None-clause-refused : goal.returns-in-None-clause-refused
returns-in-None-clause-refused g c =
    λ words nothing held n.
    record {
      two = c.complain.ensures.status ∙ c.line-line.ensures.status;
      kept = refl;
      same = refl;
      more = [];
      told = subst (λ (t : List ℕ). Tells t (g.F.Sink.failures c.args.faults.now) (g.F.Sink.held c.args.faults.now) (g.F.Sink.failures c.complain.new.faults) (g.F.Sink.held c.complain.new.faults)) (c.line-line.ensures.text ∙ sym (append-nil _)) c.complain.ensures.told;
      nothing = nothing;
    }
