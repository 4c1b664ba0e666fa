-- The rows so far.
use Rattle.std.proofs.Common.{◌≡◌, ◌++◌, flat_map, take}
use Rattle.aom_source_commands.specs.Mapping.{line_row, name_row}
use Rattle.aom_source_commands.proofs.mapping.map_of.Given as goal

abbrev pub invariant-loop-origin : goal.invariant-loop-origin
invariant-loop-origin l = l.text ≡ flat_map (line_row l.tokens) (take l.origin-index l.written.origins.items)

abbrev pub invariant-loop-named : goal.invariant-loop-named
invariant-loop-named l = l.text ≡ flat_map (line_row l.tokens) l.written.origins.items ++ flat_map name_row (take l.named-index l.written.names.items)
