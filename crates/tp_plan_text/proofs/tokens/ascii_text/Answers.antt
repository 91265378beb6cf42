use Rattle.tp_plan_text.proofs.OnLexemes.{utf8_text}
use Rattle.tp_plan_text.proofs.tokens.ascii_text.Goals as goal

pub unwrap-requires : goal.unwrap-requires
unwrap-requires c = utf8_text _ _ _ _ c.requires c.from_utf8.ensures.cases
