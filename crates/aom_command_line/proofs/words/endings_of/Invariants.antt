-- The words so far say the endings so far.
use Rattle.std.proofs.Common.{◌≡◌, map, take, Some}
use Rattle.aom_fault_injection.specs.Expected.{expected_said}
use Rattle.aom_command_line.specs.CommandLine.{texts_in}
use Rattle.aom_command_line.proofs.words.endings_of.Given as goal

abbrev pub invariant-loop-word : goal.invariant-loop-word
invariant-loop-word l = map expected_said (take l.word-index (texts_in l.words)) ≡ map (λ one. Some one) l.expected.items
