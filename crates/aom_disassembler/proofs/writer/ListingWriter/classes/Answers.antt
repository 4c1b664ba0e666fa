use Rattle.std.proofs.Common.{◌≡◌, ◌∙◌, ap, ◌++◌, take, arith}
use Rattle.std.proofs.lemmas.List.{take_all}
use Rattle.aom_disassembler.specs.Classes.{class_words}
use Rattle.aom_disassembler.specs.Listing.{lines_text, placed}
use Rattle.aom_disassembler.specs.Text.{line_of}
use Rattle.aom_disassembler.proofs.Lines.{written_more}
use Rattle.aom_disassembler.proofs.writer.ListingWriter.classes.Goals as goal

pub loop-place-preserved : goal.loop-place-preserved
loop-place-preserved c = written_more line_of class_words _ _ _ _ _ _ c.loop-place-test.true c.index-classes-place.is c.loop-place.invariant c.in_ok-class.ensures

pub returns : goal.returns
returns c =
    let classes = c.args.classes.now in
    let all : take c.loop-place.place classes ≡ classes = take_all c.loop-place.place classes (omega (arith, c.loop-place-test.false)) in
    c.loop-place.invariant ∙ ap (λ cs. c.args.self.now ++ lines_text (placed class_words 0 cs)) all
