-- The bytes are those of the image that the text denotes. A text without an image has a fault, unless memory was wanting.
use Rattle.std.proofs.lemmas.Result.{err_from_is_err_and}
use Rattle.aom_commands.proofs.Meaning.{makes, no_image}
use Rattle.aom_commands.proofs.assembling.assemble_bytes.Goals as goal
use Rattle.std.proofs.Common.{rules}
use Rattle.aom_commands.proofs.Refusing.{no_value}

pub returns-in_err-image-clause-err : goal.returns-in_err-image-clause-err
returns-in_err-image-clause-err c =
    let e = err_from_is_err_and c.from_residual.result c.from_residual.ensures.1 in
    rw (e.1, e.2) (no_image c.args.text.now c.in_err-image.field-0.0 c.in_err-image.ensures.fault)

pub returns-clause-ok : goal.returns-clause-ok
returns-clause-ok c = makes _ _ _ c.in_ok-image.ensures.image c.in_ok-encode.ensures

pub returns-in_err-image-clause-ok : goal.returns-in_err-image-clause-ok
returns-in_err-image-clause-ok c = search (rules, no_value)

pub returns-in_err-encode-clause-ok : goal.returns-in_err-encode-clause-ok
returns-in_err-encode-clause-ok c = search (rules, no_value)
