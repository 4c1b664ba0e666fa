-- The names so far, and those that are still to come, are those of all.
use Rattle.std.proofs.Common.{◌≡◌, ◌++◌, true, drop, length}
use Rattle.aom_source_methods.specs.Lines.{names_of}
use Rattle.aom_source_methods.proofs.locals.name_locals.Given as goal

abbrev pub invariant-loop-found : goal.invariant-loop-found
invariant-loop-found l = record {
  lines : l.code.lines ≡ l.fn.code.lines;
  named : l.is_done ≡ true → l.code.names.items ++ names_of l.from (length l.fn.code.lines.items) (drop l.found-index l.bound)
      ≡ l.fn.code.names.items ++ names_of l.from (length l.fn.code.lines.items) l.bound;
}
