use Rattle.std.proofs.Common.{Some, w32, ap, ◌∙◌}
use Rattle.std.proofs.lemmas.Int.{to_z-of_z}
use Rattle.aom_cells.specs.Heap.{with_word, word_of}
use Rattle.aom_cells.proofs.Writes.{changes_written, read_written, count_written, bounded_written}
use Rattle.aom_cells.proofs.cells.Cells.set_word.Goals as goal

pub invariant_of-self : goal.invariant_of-self
invariant_of-self c = (bounded_written _ _ _ _ _ c.self.invariant.0 c.index_mut.ensures.value, c.self.invariant.1)

pub returns-clause-changed : goal.returns-clause-changed
returns-clause-changed c =
    changes_written _ _ _ _ _ _ _ (λ cell. with_word cell c.args.word c.args.value) c.self.view_is c.number.ensures.value c.index_mut.ensures.value
    (c.set_word.ensures.changed ∙ ap (with_word (Some c.index_mut.result.now) c.args.word) (to_z-of_z w32 c.args.value c.ranges.value))

pub returns-clause-here : goal.returns-clause-here
returns-clause-here c = read_written (λ cell. word_of cell c.args.word) _ c.self.inside.limit _ _ _ _ c.number.ensures.value c.index_mut.ensures.value
    ∙ c.set_word.ensures.here ∙ to_z-of_z w32 c.args.value c.ranges.value

pub returns-clause-count : goal.returns-clause-count
returns-clause-count c = count_written _ _ _ _ _ _ c.self.view_is c.index_mut.ensures.value
