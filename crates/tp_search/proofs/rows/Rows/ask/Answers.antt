use Rattle.tp_search.proofs.Listed.{rows_with, set_known, still_known}
use Rattle.tp_search.proofs.rows.Rows.ask.Goals as goal

pub returns-in_ok-self : goal.returns-in_ok-self
returns-in_ok-self c =
    let rows = c.args.self.now.rows.items in
    let row = c.in_ok-self.field-0 in
    record {
      rows = rows_with c.args.task.now c.args.candidates.now rows c.args.action row c.requires c.in_ok-self.ensures.is;
      asked = set_known rows c.args.action row c.in_ok-self.ensures.known;
      kept = λ a k. still_known rows c.args.action a row c.in_ok-self.ensures.known k;
    }
