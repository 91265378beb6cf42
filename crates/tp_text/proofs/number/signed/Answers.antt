use Rattle.std.proofs.Common.{ℕ, List, sym, subst, ◌∙◌, w64}
use Rattle.std.specs.Str.Parse.{ParsesSigned}
use Rattle.tp_text.proofs.OnNumbers.{natural_ascii, minus_ascii, minus_read, plain_read}
use Rattle.tp_text.proofs.number.signed.Goals as goal

pub ascii_text-requires : goal.ascii_text-requires
ascii_text-requires c = minus_ascii c.args.bytes.now c.in-len1-up.len_at_least c.if-first-eq45.true (sym c.is_natural.ensures ∙ c.if-is_natural.true)

pub ascii_text-requires-then-is_natural-2 : goal.ascii_text-requires-then-is_natural-2
ascii_text-requires-then-is_natural-2 c = natural_ascii c.args.bytes.now (sym c.is_natural-else-first-eq45.ensures ∙ c.if-is_natural-2.true)

pub returns-then-is_natural : goal.returns-then-is_natural
returns-then-is_natural c =
    c.ok.ensures.value
    ∙ minus_read c.args.bytes.now _ c.in-len1-up.len_at_least c.if-first-eq45.true (sym c.is_natural.ensures ∙ c.if-is_natural.true)
    (subst (λ (bs : List ℕ). ParsesSigned w64 10 bs c.parse.result) c.ascii_text.ensures c.parse.ensures.value.0)

pub returns-then-is_natural-2 : goal.returns-then-is_natural-2
returns-then-is_natural-2 c =
    c.ok-then-is_natural-2.ensures.value
    ∙ plain_read c.args.bytes.now _ c.in-len1-up.len_at_least c.if-first-eq45.false (sym c.is_natural-else-first-eq45.ensures ∙ c.if-is_natural-2.true)
    (subst (λ (bs : List ℕ). ParsesSigned w64 10 bs c.parse-then-is_natural-2.result) c.ascii_text-then-is_natural-2.ensures c.parse-then-is_natural-2.ensures.value.0)
