use Rattle.std.proofs.Common.{◌≡◌, ◌≤◌, ◌^◌, length, map, take}
use Rattle.aom_source_syntax.specs.Programs.{class_of}
use Rattle.aom_source_syntax.proofs.reader.classes_of.Given as goal

abbrev pub invariant-loop-at : goal.invariant-loop-at
invariant-loop-at l = record {
  so_far : l.classes.items ≡ map (λ t. class_of t.word) (take l.at l.tokens.tokens);
  few : length l.tokens.tokens ≤ 2 ^ 20;
}
