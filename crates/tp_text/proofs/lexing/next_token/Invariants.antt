use Rattle.std.proofs.Common.{◌≡◌, ◌+◌, ◌-◌, ◌≤◌, drop, length}
use Rattle.tp_text.specs.Lexemes.{placed}
use Rattle.tp_text.proofs.lexing.next_token.Given as goal

abbrev pub invariant-blanks : goal.invariant-blanks
invariant-blanks l = record {
  place : l.at + length l.rest ≡ l.fn.start + length l.fn.bytes;
  within : length l.rest ≤ length l.fn.bytes;
  along : l.rest ≡ drop (l.at - l.fn.start) l.fn.bytes;
  behind : l.fn.start ≤ l.at;
  there : l.rest ≡ drop l.at l.fn.text;
  here : placed l.at l.rest ≡ placed l.fn.start l.fn.bytes;
}

abbrev pub decreases-blanks : goal.decreases-blanks
decreases-blanks l = length l.rest
