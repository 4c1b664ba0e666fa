use Rattle.std.proofs.Common.{◌∙◌}
use Rattle.aom_cells.specs.Heap.{with_field, field_of}
use Rattle.aom_cells.proofs.Writes.{changes_written, read_written, count_written, bounded_written}
use Rattle.aom_cells.proofs.cells.Cells.put_field.Goals as goal

pub invariant_of-self : goal.invariant_of-self
invariant_of-self c = (bounded_written _ _ _ _ _ c.self.invariant.0 c.index_mut.ensures.value, c.self.invariant.1)

pub returns-clause-changed : goal.returns-clause-changed
returns-clause-changed c = changes_written _ _ _ _ _ _ _
    (λ cell. with_field cell c.args.field c.args.number) c.self.view_is c.number.ensures.value c.index_mut.ensures.value c.set_field.ensures.changed

pub returns-clause-here : goal.returns-clause-here
returns-clause-here c = read_written (λ cell. field_of cell c.args.field) _ c.self.inside.limit _ _ _ _ c.number.ensures.value c.index_mut.ensures.value
    ∙ c.set_field.ensures.here

pub returns-clause-count : goal.returns-clause-count
returns-clause-count c = count_written _ _ _ _ _ _ c.self.view_is c.index_mut.ensures.value
