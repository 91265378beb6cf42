use Rattle.tp_text.proofs.OnDepth.{deep_nested}
use Rattle.tp_text.proofs.law.deep_is_nested.Goals as goal

pub returns : goal.returns
returns c = deep_nested
