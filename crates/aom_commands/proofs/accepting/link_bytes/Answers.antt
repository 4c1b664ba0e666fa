-- A fault of reading or of linking is told as one of the bytes, which are no image, or one that is not linked.
use Rattle.std.proofs.Common.{◌∙◌, sym, subst}
use Rattle.std.proofs.lemmas.Result.{err_from_is_err_and}
use Rattle.aom_link_conditions.specs.Linked.{IsLinked}
use Rattle.aom_commands.specs.Acceptable.{IsSerialized}
use Rattle.aom_commands.proofs.Refusing.{link_stops, load_stops}
use Rattle.aom_commands.proofs.accepting.link_bytes.Goals as goal
use Rattle.std.proofs.Common.{rules}
use Rattle.aom_commands.proofs.Refusing.{no_value}

pub returns-in_err-image-clause-err : goal.returns-in_err-image-clause-err
returns-in_err-image-clause-err c =
    let e = err_from_is_err_and c.from_residual.result c.from_residual.ensures.1 in
    rw (e.1, e.2) (load_stops c.args.bytes.now _ c.in_err-image.ensures.fault (λ p serialized. c.in_err-image.ensures.only p serialized.formed serialized.serialization))

pub returns-in_err-link-clause-err : goal.returns-in_err-link-clause-err
returns-in_err-link-clause-err c =
    let e = err_from_is_err_and c.from_residual-in_err-link.result c.from_residual-in_err-link.ensures.1 in
    let found = c.in_ok-image.ensures.found in
    rw (e.1, e.2) (link_stops c.args.bytes.now _ _
    (record { formed = found.0; serialization = found.1 }) (λ p serialized. c.in_ok-image.ensures.only p serialized.formed serialized.serialization) c.in_err-link.ensures.err)

pub returns-clause-ok : goal.returns-clause-ok
returns-clause-ok c =
    let found = c.in_ok-image.ensures.found in
    let ok = c.in_ok-link.ensures.ok in
    subst (λ p. IsSerialized c.args.bytes.now p × IsLinked p) (sym ok.0) (record { formed = found.0; serialization = found.1 }, ok.1)

pub returns-clause-only : goal.returns-clause-only
returns-clause-only c = λ p serialized. c.in_ok-link.ensures.ok.0 ∙ c.in_ok-image.ensures.only p serialized.formed serialized.serialization

pub returns-in_err-image-clause-ok : goal.returns-in_err-image-clause-ok
returns-in_err-image-clause-ok c = search (rules, no_value)

pub returns-in_err-link-clause-ok : goal.returns-in_err-link-clause-ok
returns-in_err-link-clause-ok c = search (rules, no_value)

pub returns-in_err-image-clause-only : goal.returns-in_err-image-clause-only
returns-in_err-image-clause-only c = search (rules, no_value)

pub returns-in_err-link-clause-only : goal.returns-in_err-link-clause-only
returns-in_err-link-clause-only c = search (rules, no_value)
