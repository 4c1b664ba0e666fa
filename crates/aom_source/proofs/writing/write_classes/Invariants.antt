-- The classes so far have their lines, and no name is added.
use Rattle.std.proofs.Common.{◌≡◌, take}
use Rattle.aom_source.specs.Map.{Adds, class_tokens}
use Rattle.aom_source.proofs.writing.write_classes.Given as goal

abbrev pub invariant-loop-id : goal.invariant-loop-id
invariant-loop-id l = record {
  lines : Adds l.fn.written l.written (class_tokens l.program.classes.items (take l.id-index l.program.class_order.items));
  names : l.written.names ≡ l.fn.written.names;
}
