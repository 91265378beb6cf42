use Rattle.std.proofs.Common.{sym, ◌∙◌}
use Rattle.tp_syntax_types.proofs.OnTypes.{not_true}
use Rattle.tp_syntax_scope.proofs.OnTypes.{not_false, mention_kept, mention_pushed, mention_skipped, key_put}
use Rattle.tp_syntax_scope.proofs.type_reader.mention.Goals as goal

pub returns-then-mark-clause-done : goal.returns-then-mark-clause-done
returns-then-mark-clause-done c = λ p ps is. mention_skipped c.args.done.now.items c.args.known.now c.args.parent p ps is (c.requires c.if-mark.true)

pub returns-then-not-branch-clause-done : goal.returns-then-not-branch-clause-done
returns-then-not-branch-clause-done c = λ p ps is.
    mention_kept c.args.done.now.items c.args.known.now c.insert.new.self c.args.parent p ps c.in_ok-insert.ensures.keys is
    (not_false _ (sym c.in_ok-insert.ensures.added ∙ c.if-not-branch.true))

pub returns-clause-done : goal.returns-clause-done
returns-clause-done c = λ p ps is.
    mention_pushed c.args.done.now.items c.push.new.self.items c.in_ok-below_object.field-0 c.args.known.now c.insert.new.self c.args.parent p ps c.in_ok-push.ensures.items c.in_ok-below_object.ensures c.in_ok-insert.ensures.keys is
    (not_true _ (sym c.in_ok-insert.ensures.added ∙ c.if-not-branch.false))

pub returns-clause-known : goal.returns-clause-known
returns-clause-known c = key_put c.args.known.now c.insert.new.self c.args.parent c.in_ok-insert.ensures.keys
