use Rattle.std.proofs.Common.{◌≡◌, ◌-◌, take, length}
use Rattle.std.specs.Io.KnownBytes.{Appends}
use Rattle.tp_plan_text.specs.PlanPrints.{words_text}
use Rattle.tp_plan_text.specs.TaskWords.{readable}
use Rattle.tp_plan_text.proofs.printing.write_words.Given as goal

abbrev pub invariant-words : goal.invariant-words
invariant-words g l = record {
  held : Appends (g.W.Sink.held l.fn.writer) (g.W.Sink.held l.writer) (words_text (take l.place ((readable l.fn.task).words l.fn.action)));
  count : g.W.Sink.failures l.writer ≡ g.W.Sink.failures l.fn.writer;
}

abbrev pub decreases-words : goal.decreases-words
decreases-words g l = length ((readable l.fn.task).words l.fn.action) - l.place
