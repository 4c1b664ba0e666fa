-- The bytes that are copied are the next ones of the slice.
use Rattle.std.proofs.Common.{◌∙◌, Some, ap, arith, sym}
use Rattle.std.proofs.lemmas.List.{length-take-le}
use Rattle.aom_memory.proofs.Giving.{gives_more}
use Rattle.aom_memory.proofs.reader.SliceReaderReader.get.Goals as goal

pub returns-clause-gives : goal.returns-clause-gives
returns-clause-gives c =
    let count = c.min-count.result in
    let long = c.copy_from_slice.ensures.len ∙ length-take-le count c.args.buffer.now (omega (arith, c.min-count.ensures)) in
    rw (sym c.self.view_is) (ap (λ t. Some t) (gives_more c.self.inside.text.now c.copy_from_slice.new.self _ c.self.inside.given count c.copy_from_slice.ensures.after long))
