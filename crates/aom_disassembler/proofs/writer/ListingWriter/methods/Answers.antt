use Rattle.std.proofs.Common.{◌≡◌, ◌∙◌, ap, ◌++◌, flat_map, take, arith}
use Rattle.std.proofs.lemmas.List.{take_all}
use Rattle.aom_disassembler.specs.Listing.{lines_text, method_statements, placed}
use Rattle.aom_disassembler.proofs.Lines.{lines_flat, written_more}
use Rattle.aom_disassembler.proofs.writer.ListingWriter.methods.Goals as goal

pub loop-place-preserved : goal.loop-place-preserved
loop-place-preserved c =
    written_more lines_text method_statements _ _ _ _ _ _ c.loop-place-test.true c.index-methods-place.is c.loop-place.invariant c.in_ok-method.ensures

pub returns : goal.returns
returns c =
    let methods = c.args.methods.now in
    let all : take c.loop-place.place methods ≡ methods = take_all c.loop-place.place methods (omega (arith, c.loop-place-test.false)) in
    c.loop-place.invariant ∙ ap (λ ms. c.args.self.now ++ flat_map lines_text (placed method_statements 0 ms)) all
    ∙ ap (λ t. c.args.self.now ++ t) (lines_flat (placed method_statements 0 methods))
