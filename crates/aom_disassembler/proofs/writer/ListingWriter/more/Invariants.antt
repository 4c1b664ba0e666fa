use Rattle.std.proofs.Common.{◌≡◌, ◌++◌, map, take}
use Rattle.aom_disassembler.specs.Text.{behind}
use Rattle.aom_disassembler.proofs.writer.ListingWriter.more.Given as goal

abbrev pub invariant-loop-element : goal.invariant-loop-element
invariant-loop-element g l = l.self ≡ l.fn.self ++ behind 44 (map g.E.WrittenElement.word (take l.element-index l.elements))
