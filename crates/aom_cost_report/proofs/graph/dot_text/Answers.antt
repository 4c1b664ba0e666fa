-- The parts of the graph follow each other.
use Rattle.std.proofs.Common.{◌∷◌, [], ◌++◌, ap, append_assoc, sym}
use Rattle.std.specs.Prelude.{codes}
use Rattle.aom_cost_report.proofs.graph.dot_text.Goals as goal

pub returns : goal.returns
returns c =
    rw (c.into_text.ensures, c.in_ok-words-2.ensures, c.in_ok-write_way.ensures, c.in_ok-write_methods.ensures, c.in_ok-write_classes.ensures, c.in_ok-words.ensures, c.new-out.ensures)
    (rw (c.as_slice.ensures, c.as_slice-2.ensures, c.classes.ensures.value, c.methods.ensures.value, c.image-image.ensures)
    (ap (λ t. codes "digraph aom {" ++ 10 ∷ t) (sym (append_assoc _ (codes "}") (10 ∷ [])))))
