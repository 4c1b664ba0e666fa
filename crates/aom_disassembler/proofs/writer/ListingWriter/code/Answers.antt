use Rattle.std.proofs.Common.{◌≡◌, ◌∙◌, ap, ◌<◌, ◌++◌, slice_index_or, false, arith}
use Rattle.aom_disassembler.specs.Jumps.{is_target}
use Rattle.aom_disassembler.specs.Listing.{instr_words, label_words}
use Rattle.aom_disassembler.specs.Text.{line_of}
use Rattle.aom_disassembler.specs.Words.{words_statement}
use Rattle.aom_disassembler.proofs.Lines.{written_more}
use Rattle.aom_disassembler.proofs.writer.ListingWriter.code.Goals as goal

pub loop-place-preserved : goal.loop-place-preserved
loop-place-preserved c =
    let place = c.loop-place.place in
    let instr = c.index-code-place.result in
    let small : place < 1024 = omega (arith, c.loop-place-test.true, c.requires) in
    let reported : slice_index_or c.targets-targets.result place false ≡ is_target c.args.code.now place = c.targets-targets.ensures place small in
    written_more line_of (instr_words c.args.code.now) _ _ _ _ _ _ c.loop-place-test.true c.index-code-place.is c.loop-place.invariant
    (c.in_ok-instruction.ensures ∙ ap (λ b. c.loop-place.self ++ line_of (label_words b place ++ words_statement instr)) reported)
