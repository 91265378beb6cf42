use Rattle.std.proofs.Common.{◌≡◌, ◌<◌, Some, arith, sym, ap, ◌∙◌}
use Rattle.std.specs.FinMap.{get}
use Rattle.std.proofs.lemmas.Result.{err_from_is_err_and}
use Rattle.tp_journal_pairs.proofs.WriteLemmas.{own_write, own_part}
use Rattle.tp_journal_pairs.proofs.writing.write_own_bounds.Goals as goal
use Rattle.tp_journal_pairs.proofs.writing.write_own_bounds.Goals.{in-Some+in_ok-write_bound, in_default}

pub returns-in_err-write_bound-clause-bytes : goal.returns-in_err-write_bound-clause-bytes
returns-in_err-write_bound-clause-bytes g c =
    let p = err_from_is_err_and c.from_residual.result c.from_residual.ensures.1 in
    let m = c.args.executive.now in
    let lt : c.loop-id.id < m.next = omega (arith, c.next-id-end.ensures, c.loop-id-test.true) in
    let is : get m.setting.bounds c.loop-id.id ≡ Some c.in-Some.bound = ap (λ s. get s.bounds c.loop-id.id) (sym c.net.ensures) ∙ sym c.in-Some.ensures in
    rw p.1 (own_part m.setting.bounds m.next _ _ _ c.loop-id.id c.in-Some.bound lt is c.loop-id.invariant.own c.in_err-write_bound.ensures.bytes)

pub loop-id-preserved : goal.loop-id-preserved
loop-id-preserved g c =
    let m = c.args.executive.now in
    let lt : c.loop-id.id < m.next = omega (arith, c.next-id-end.ensures, c.loop-id-test.true) in
    elim c.match-bound.branch [
      | in-Some+in_ok-write_bound w ↦
          let is : get m.setting.bounds c.loop-id.id ≡ Some w.in-Some.bound = ap (λ s. get s.bounds c.loop-id.id) (sym c.net.ensures) ∙ sym w.in-Some.ensures in
          rw w.log-is (record {
            own = own_write m.setting.bounds m.next _ _ _ c.loop-id.id w.in-Some.bound lt is c.loop-id.invariant.own w.in_ok-write_bound.ensures.bytes;
            count = w.in_ok-write_bound.ensures.cause ∙ c.loop-id.invariant.count;
          })
      | in_default w ↦
          absurd (c.requires c.loop-id.id lt (ap (λ s. get s.bounds c.loop-id.id) (sym c.net.ensures) ∙ (sym c.bound.ensures ∙ w.in_default.is)))
    ]
