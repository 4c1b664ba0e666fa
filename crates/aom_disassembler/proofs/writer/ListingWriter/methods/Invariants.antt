use Rattle.std.proofs.Common.{◌≡◌, ◌++◌, flat_map, take}
use Rattle.aom_disassembler.specs.Listing.{lines_text, method_statements, placed}
use Rattle.aom_disassembler.proofs.writer.ListingWriter.methods.Given as goal

abbrev pub invariant-loop-place : goal.invariant-loop-place
invariant-loop-place l = l.self ≡ l.fn.self ++ flat_map lines_text (placed method_statements 0 (take l.place l.methods))
