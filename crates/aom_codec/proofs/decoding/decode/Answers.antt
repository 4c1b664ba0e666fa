use Rattle.std.proofs.Common.{ap, ◌∙◌, arith}
use Rattle.std.proofs.lemmas.Result.{err_from_is_err_and}
use Rattle.aom_codec.specs.Format.{read_image}
use Rattle.aom_codec.proofs.Images.{read_takes, read_again, only_memory, one_image}
use Rattle.aom_codec.proofs.decoding.decode.Goals as goal

pub make-requires : goal.make-requires
make-requires c = (read_takes c.args.bytes.now _ (λ i. omega (arith, c.type_inv.bytes i)) c.in_ok-parts.ensures).0

pub returns-clause-found : goal.returns-clause-found
returns-clause-found c = rw c.make.ensures (read_takes c.args.bytes.now _ (λ i. omega (arith, c.type_inv.bytes i)) c.in_ok-parts.ensures)

pub returns-clause-only : goal.returns-clause-only
returns-clause-only c = λ i well is. c.make.ensures ∙ one_image (read_image c.args.bytes.now) _ i c.in_ok-parts.ensures (ap read_image is ∙ read_again i well)

pub returns-in_err-parts-clause-only : goal.returns-in_err-parts-clause-only
returns-in_err-parts-clause-only c = λ i well is.
    let p = err_from_is_err_and c.from_residual.result c.from_residual.ensures.1 in
    rw (p.1, p.2) (only_memory (read_image c.args.bytes.now) i c.in_err-parts.field-0.0 (ap read_image is ∙ read_again i well) c.in_err-parts.ensures)
