-- The bytes so far are behind the ruler.
use Rattle.std.proofs.Common.{◌≡◌, ◌≤◌, ◌+◌, ◌*◌, ◌-◌, take}
use Rattle.aom_language_answers.specs.Positions.{walked}
use Rattle.aom_language_answers.proofs.position.Ruler.position.Given as goal

abbrev pub invariant-loop-self : goal.invariant-loop-self
invariant-loop-self l = record {
  text : l.self-inside.text ≡ l.initial.self-inside.text;
  within : l.self-inside.at ≤ l.end;
  walked : l.self-inside.walk ≡ walked (take l.self-inside.at l.text);
  small : l.self-inside.walk.position.line + l.self-inside.walk.position.character ≤ 2 * l.self-inside.at;
}

abbrev pub decreases-loop-self : goal.decreases-loop-self
decreases-loop-self l = l.end - l.self-inside.at
