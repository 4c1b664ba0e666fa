use Rattle.std.proofs.Common.{◌≡◌, ◌≤◌, ◌++◌, drop, length, map, reverse}
use Rattle.aom_source_syntax.specs.Reading.{waiting}
use Rattle.aom_source_syntax.proofs.stack.push_reversed.Given as goal

abbrev pub invariant-loop-count : goal.invariant-loop-count
invariant-loop-count l = record {
  so_far : reverse l.stack.items ≡ map (waiting l.fn.token) (drop l.count l.symbols) ++ reverse l.initial.stack.items;
  within : l.count ≤ length l.symbols;
}

abbrev pub decreases-loop-count : goal.decreases-loop-count
decreases-loop-count l = l.count
