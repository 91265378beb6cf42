use Rattle.std.proofs.Common.{◌≡◌, ◌∙◌, refl, sym, subst, ap, inl, inr, take, arith, rules}
use Rattle.std.specs.Io.KnownBytes.{Keeps}
use Rattle.tp_script.specs.Pending.{Reading, rest_of}
use Rattle.tp_script.proofs.LagLemmas.{IsFirstLine, no_lag_from, takes_lag_from}
use Rattle.tp_script.proofs.lines.Lines.next_lag.Goals as goal

pub returns-in_default-clause-lag : goal.returns-in_default-clause-lag
returns-in_default-clause-lag g c =
    let first : IsFirstLine c.line_len-len.result c.ready-ready.result.now = (c.line_len-len.ensures.within, c.line_len-len.ensures.before, c.line_len-len.ensures.stop) in (
      subst (λ (l : Reading). Keeps l.rest (rest_of c.look.new.self)) c.self.view_is c.in_ok-look.ensures.bytes,
      ap (λ (l : Reading). l.taken) c.self.view_is,
      no_lag_from c.look.new.self c.ready-ready.result.now c.line_len-len.result _ c.ready-ready.ensures c.in_ok-look.ensures.sight first (inl (sym c.read_lag.ensures ∙ c.in_default.is)),
    )

pub returns-then-may-text-clause-lag : goal.returns-then-may-text-clause-lag
returns-then-may-text-clause-lag g c =
    let first : IsFirstLine c.line_len-len.result c.ready-ready.result.now = (c.line_len-len.ensures.within, c.line_len-len.ensures.before, c.line_len-len.ensures.stop) in (
      subst (λ (l : Reading). Keeps l.rest (rest_of c.look.new.self)) c.self.view_is c.in_ok-look.ensures.bytes,
      ap (λ (l : Reading). l.taken) c.self.view_is,
      no_lag_from c.look.new.self c.ready-ready.result.now c.line_len-len.result _ c.ready-ready.ensures c.in_ok-look.ensures.sight first (inr (omega (arith, c.if-may-text.true, c.min-text.ensures))),
    )

pub returns-clause-lag : goal.returns-clause-lag
returns-clause-lag g c =
    let first : IsFirstLine c.line_len-len.result c.ready-ready.result.now = (c.line_len-len.ensures.within, c.line_len-len.ensures.before, c.line_len-len.ensures.stop) in
    let keeps = subst (λ (l : Reading). Keeps l.rest (rest_of c.look.new.self)) c.self.view_is c.in_ok-look.ensures.bytes in
    let was : c.self.inside.taken ≡ c.args.self.now.taken = ap (λ (l : Reading). l.taken) c.self.view_is in
    let spelled = sym c.read_lag.ensures ∙ c.in-Some.is in (
      take c.line_len-len.result c.ready-ready.result.now,
      takes_lag_from c.args.self.now _ c.look.new.self c.skip.new.self c.ready-ready.result.now c.line_len-len.result c.min-text.result c.in-Some.lag c.ready-ready.ensures keeps refl c.skip.ensures.ready c.skip.ensures.left (omega (arith, was)) c.in_ok-look.ensures.sight c.min-text.ensures first spelled,
      spelled,
    )

pub returns-in_err-look-clause-limits : goal.returns-in_err-look-clause-limits
returns-in_err-look-clause-limits g c =
    let source : c.look.new.self.source ≡ c.args.self.now.source = c.in_err-look.ensures.source ∙ ap (λ (l : Reading). l.source) c.self.view_is in
    record {
      longest = ap (λ (l : Reading). l.longest) c.self.view_is;
      most = ap (λ (l : Reading). l.most) c.self.view_is;
      within = c.self.invariant.1;
      fits = search rules;
      source = source;
    }

pub returns-in_default-clause-limits : goal.returns-in_default-clause-limits
returns-in_default-clause-limits g c =
    let source : c.look.new.self.source ≡ c.args.self.now.source = c.in_ok-look.ensures.source ∙ ap (λ (l : Reading). l.source) c.self.view_is in
    record {
      longest = ap (λ (l : Reading). l.longest) c.self.view_is;
      most = ap (λ (l : Reading). l.most) c.self.view_is;
      within = c.self.invariant.1;
      fits = search rules;
      source = source;
    }
