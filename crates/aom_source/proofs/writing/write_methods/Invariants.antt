-- The methods so far have their lines and names.
use Rattle.std.proofs.Common.{flat_map, length, take}
use Rattle.aom_source.specs.Map.{Adds, Names, method_names, method_tokens}
use Rattle.aom_source.proofs.writing.write_methods.Given as goal

abbrev pub invariant-loop-id : goal.invariant-loop-id
invariant-loop-id l = record {
  lines : Adds l.fn.written l.written (flat_map (method_tokens l.parts.program.now.methods.items l.parts.codes.now.items) (take l.id-index l.parts.order.now.items));
  names : Names l.fn.written l.written (method_names l.parts.codes.now.items (length l.fn.written.origins.items) (take l.id-index l.parts.order.now.items));
}
