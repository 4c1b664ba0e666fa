-- The words so far are those of the kinds so far.
use Rattle.std.proofs.Common.{◌≡◌, map, take}
use Rattle.aom_natives.specs.Kinds.{word_of}
use Rattle.aom_command_line.specs.CommandLine.{texts_in}
use Rattle.aom_command_line.proofs.words.kinds_of.Given as goal

abbrev pub invariant-loop-word : goal.invariant-loop-word
invariant-loop-word l = take l.word-index (texts_in l.words) ≡ map word_of l.kinds.items
