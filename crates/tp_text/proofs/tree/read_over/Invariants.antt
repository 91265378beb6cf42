use Rattle.std.proofs.Common.{◌≡◌, ◌+◌, drop, length}
use Rattle.tp_text.proofs.OnReading.{IsBehind}
use Rattle.tp_text.proofs.tree.read_over.Given as goal

abbrev pub invariant-lexemes : goal.invariant-lexemes
invariant-lexemes l = record {
  place : l.at + length l.rest ≡ l.fn.start + length l.fn.bytes;
  there : l.rest ≡ drop l.at l.fn.text;
  behind : IsBehind l.fn.start l.fn.bytes l.at l.rest;
}

abbrev pub decreases-lexemes : goal.decreases-lexemes
decreases-lexemes l = length l.rest
