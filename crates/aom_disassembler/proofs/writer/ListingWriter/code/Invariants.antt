use Rattle.std.proofs.Common.{◌≡◌, ◌++◌, take}
use Rattle.aom_disassembler.specs.Listing.{instr_words, lines_text, placed}
use Rattle.aom_disassembler.proofs.writer.ListingWriter.code.Given as goal

abbrev pub invariant-loop-place : goal.invariant-loop-place
invariant-loop-place l = l.self ≡ l.fn.self ++ lines_text (placed (instr_words l.code) 0 (take l.place l.code))
