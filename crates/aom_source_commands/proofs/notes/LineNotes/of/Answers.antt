-- One note more is of the same kind.
use Rattle.std.proofs.Common.{All, subst, sym}
use Rattle.std.proofs.lemmas.List.Elements.{All-map, All-push}
use Rattle.aom_source_commands.specs.Showing.{IsNote}
use Rattle.aom_source_commands.proofs.notes.LineNotes.of.Goals as goal

pub invariant_of-result : goal.invariant_of-result
invariant_of-result c = All-map IsNote (λ note. note.items) _ c.loop-line.invariant

pub loop-line-preserved : goal.loop-line-preserved
loop-line-preserved c =
    subst (All (λ note. IsNote note.items)) (sym c.in_ok-push.ensures.items) (All-push (λ note. IsNote note.items) _ _ c.loop-line.invariant c.in_ok-note.ensures)
