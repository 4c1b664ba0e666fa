-- Each note so far is nothing, or a comment.
use Rattle.std.proofs.Common.{All}
use Rattle.aom_source_commands.specs.Showing.{IsNote}
use Rattle.aom_source_commands.proofs.notes.LineNotes.of.Given as goal

abbrev pub invariant-loop-line : goal.invariant-loop-line
invariant-loop-line l = All (λ note. IsNote note.items) l.notes.items
