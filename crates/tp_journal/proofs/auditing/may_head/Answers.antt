use Rattle.std.proofs.Common.{◌≡◌, inl, inr, subst, arith, rules, true, IsTrue}
use Rattle.tp_bounds.specs.Lawful.{IsLawful}
use Rattle.tp_journal_pairs.proofs.HeadLemmas.{head_is, head_few}
use Rattle.tp_journal.proofs.auditing.may_head.Goals as goal

pub returns-then-not-has_few : goal.returns-then-not-has_few
returns-then-not-has_few g c =
    (λ t. (let f : ⊥ = search rules in absurd f), λ h. (let yes : IsTrue c.has_few.result = c.has_few.ensures.1 (head_few c.args.executive.now c.args.version c.requires.new h) in let f : ⊥ = search rules in absurd f))

pub returns-then-version-eq2 : goal.returns-then-version-eq2
returns-then-version-eq2 g c =
    let m = c.args.executive.now in
    let lawful : IsLawful m.setting = subst IsLawful c.net.ensures c.events-count.ensures.lawful in
    let yes : IsTrue c.has_few.result = search rules in
    let two : c.args.version ≡ 2 = search rules in
    (λ t. head_is m c.args.version c.requires.new lawful (c.has_few.ensures.0 yes) c.requires.version (λ one. absurd (let f : ⊥ = omega (arith, two, one) in f)), λ h. (let t : IsTrue true = search rules in t))

pub returns : goal.returns
returns g c =
    let m = c.args.executive.now in
    let lawful : IsLawful m.setting = subst IsLawful c.net.ensures c.events-count.ensures.lawful in
    let yes : IsTrue c.has_few.result = search rules in
    let one : c.args.version ≡ 1 = elim c.requires.version [ inl is ↦ is | inr two ↦ absurd (let f : ⊥ = search rules in f) ] in
    (λ t. head_is m c.args.version c.requires.new lawful (c.has_few.ensures.0 yes) c.requires.version (λ _. c.has_no_lags.ensures.0 t), λ h. c.has_no_lags.ensures.1 (h.first_version one))
