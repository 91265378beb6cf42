use Rattle.std.proofs.Common.{slice_get, refl}
use Rattle.std.proofs.lemmas.Result.{on_ok_weaker}
use Rattle.tp_exec_machine.proofs.InTurn.{placed, possible_with, joins_with}
use Rattle.tp_exec_machine.proofs.own_bounds.bring_at.Goals as goal

pub bring-requires-clause-possible : goal.bring-requires-clause-possible
bring-requires-clause-possible g c =
    let net = c.args.network.now in
    let b = c.requires.begun in
    possible_with b.0 b.1 (g.N.Net.seen c.args.net.now) net.bounds.items b.4 _ _ c.args.place c.index.result.now b.2 b.3 net.net.possible
    (placed net.bounds.items net.bounds.items c.args.place c.index.result.now refl c.requires.place c.index.ensures)

pub returns : goal.returns
returns g c =
    let xs = c.args.network.now.bounds.items in
    on_ok_weaker c.bring.result (λ is. joins_with (g.N.Net.seen c.args.net.now) (g.N.Net.seen c.bring.new.net) (slice_get xs) c.args.place c.index.result.now is
    (placed xs xs c.args.place c.index.result.now refl c.requires.place c.index.ensures)) c.bring.ensures
