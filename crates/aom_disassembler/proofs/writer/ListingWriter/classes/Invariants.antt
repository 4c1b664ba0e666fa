use Rattle.std.proofs.Common.{◌≡◌, ◌++◌, take}
use Rattle.aom_disassembler.specs.Classes.{class_words}
use Rattle.aom_disassembler.specs.Listing.{lines_text, placed}
use Rattle.aom_disassembler.proofs.writer.ListingWriter.classes.Given as goal

abbrev pub invariant-loop-place : goal.invariant-loop-place
invariant-loop-place l = l.self ≡ l.fn.self ++ lines_text (placed class_words 0 (take l.place l.classes))
