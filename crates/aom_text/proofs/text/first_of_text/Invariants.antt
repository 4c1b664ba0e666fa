use Rattle.std.proofs.Common.{◌≡◌, ◌≤◌, ◌+◌, ◌^◌, length}
use Rattle.aom_text.specs.Text.{left_of_text}
use Rattle.aom_text.proofs.text.first_of_text.Given as goal

abbrev pub invariant-loop-statement : goal.invariant-loop-statement
invariant-loop-statement l = record {
  same : left_of_text l.fn.text ≡ left_of_text l.rest;
  few : l.rest.line.number + length l.rest.later.now ≤ 2 ^ 20;
}

abbrev pub decreases-loop-statement : goal.decreases-loop-statement
decreases-loop-statement l = length l.rest.later.now
