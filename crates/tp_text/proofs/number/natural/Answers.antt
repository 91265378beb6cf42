use Rattle.std.proofs.Common.{◌∙◌, ℕ, List, subst}
use Rattle.std.specs.Str.Parse.{ParsesUnsigned}
use Rattle.tp_text.proofs.OnTimes.{natural_read}
use Rattle.tp_text.proofs.number.natural.Goals as goal

pub returns : goal.returns
returns c =
    c.ok.ensures.value
    ∙ natural_read 32 c.args.digits.now _ c.requires (subst (λ (bs : List ℕ). ParsesUnsigned 32 10 bs c.parse.result) c.ascii_text.ensures c.parse.ensures.value.0)
