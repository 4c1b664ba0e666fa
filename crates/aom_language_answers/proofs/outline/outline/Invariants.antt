-- The symbols so far, with those of the declarations that are left, are all.
use Rattle.std.proofs.Common.{◌≡◌, ◌≤◌, ◌++◌, ◌-◌, drop, length, map}
use Rattle.serde_json.specs.View.{view}
use Rattle.aom_language_answers.specs.Outline.{symbols_of}
use Rattle.aom_language_answers.proofs.outline.outline.Given as goal

abbrev pub invariant-loop-begin : goal.invariant-loop-begin
invariant-loop-begin l = record {
  same : l.ruler ≡ l.initial.ruler;
  within : l.begin ≤ length l.found;
  so_far : map view l.symbols.items ++ symbols_of l.names l.ruler (drop l.begin l.found) ≡ symbols_of l.names l.ruler l.found;
}

abbrev pub decreases-loop-begin : goal.decreases-loop-begin
decreases-loop-begin l = length l.found - l.begin
