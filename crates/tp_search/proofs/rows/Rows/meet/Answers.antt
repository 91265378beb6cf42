use Rattle.std.proofs.Common.{◌≡◌, length, Some, slice_get, refl, sym, subst}
use Rattle.std.proofs.lemmas.Option.{slice_get_read}
use Rattle.std.specs.List.Sorted.{IsNonDecreasing}
use Rattle.tp_task.specs.Event.{has}
use Rattle.tp_search.specs.Rows.{AreRows}
use Rattle.tp_search.proofs.Listed.{met_by_row}
use Rattle.tp_search.proofs.rows.Rows.meet.Goals as goal

pub returns-in-Some : goal.returns-in-Some
returns-in-Some c among h i =
    let t = c.args.task.now in
    let rows = c.deref.result.now in
    let row = c.in-Some.row.now in
    let b = c.args.candidate in
    let here : slice_get rows c.args.action ≡ Some row = slice_get_read rows (length rows) _ row refl c.in-Some.ensures.lookup.3.0 c.in-Some.ensures.lookup.1 in
    let looks : IsNonDecreasing row.apart.items → c.has.result ≡ has row.apart.items b =
    subst (λ xs. IsNonDecreasing xs → c.has.result ≡ has xs b) c.deref-in-Some.ensures.value c.has.ensures in
    met_by_row t among rows c.args.action b row c.has.result looks here c.if-row.true c.if-action-candidate.true (subst (AreRows t among) (sym c.deref.ensures.value) h) i
