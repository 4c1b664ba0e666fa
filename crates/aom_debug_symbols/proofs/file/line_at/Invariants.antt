-- The line that is sought in the text is sought in the rest, before which the others stand.
use Rattle.std.proofs.Common.{◌≡◌, [], get_or, length}
use Rattle.aom_text.specs.Text.{lines_of}
use Rattle.aom_debug_symbols.proofs.file.line_at.Given as goal

abbrev pub invariant-loop-rest : goal.invariant-loop-rest
invariant-loop-rest l = get_or (lines_of l.fn.text) l.fn.number [] ≡ get_or (lines_of l.rest) l.left []

abbrev pub decreases-loop-rest : goal.decreases-loop-rest
decreases-loop-rest l = length l.rest
