use Rattle.std.proofs.Common.{◌++◌, ap, ◌∙◌}
use Rattle.aom_disassembler.specs.Listing.{end_words, instr_statements, lines_text}
use Rattle.aom_disassembler.specs.Methods.{heading_words}
use Rattle.aom_disassembler.proofs.Behind.{lines_behind, on_err}
use Rattle.aom_disassembler.proofs.writer.ListingWriter.method.Goals as goal

pub returns-in_err-heading : goal.returns-in_err-heading
returns-in_err-heading c = on_err _ c.from_residual.result c.from_residual.ensures.0

pub returns-in_err-code : goal.returns-in_err-code
returns-in_err-code c = on_err _ c.from_residual-in_err-code.result c.from_residual-in_err-code.ensures.0

pub returns : goal.returns
returns c =
    let m = c.args.method.now in
    lines_behind (heading_words c.args.place m) end_words (instr_statements m.code 0 m.code) c.args.self.now _ _ _ c.end.result c.in_ok-heading.ensures
    (c.in_ok-code.ensures ∙ ap (λ xs. c.heading.new.self ++ lines_text (instr_statements xs 0 xs)) c.as_slice.ensures) c.end.ensures
