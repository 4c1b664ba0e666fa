-- One part after another.
use Rattle.std.proofs.Common.{◌∙◌, Some, ap, length, sym}
use Rattle.aom_debug_protocol.specs.Ways.{branches_said, fitting, further}
use Rattle.aom_debug_protocol.proofs.Between.{begins, fits_still, goes_on, onto, parts_of, shrinks}
use Rattle.aom_debug_protocol.proofs.reading.read_branches.Goals as goal

pub loop-rest-init : goal.loop-rest-init
loop-rest-init c =
    let is = c.to-path.ensures in
    let said = branches_said (parts_of c.args.rest) in
    record { way = ap (λ w. onto w said) is ∙ begins c.args.outer said; fits = ap fitting is ∙ sym (ap Some is) }

pub loop-rest-preserved : goal.loop-rest-preserved
loop-rest-preserved c =
    let w = c.loop-rest.path in
    let b = c.in_ok-branch.branch in
    let fits = sym c.further.ensures ∙ c.in_ok-path.was in
    record {
      way = sym (goes_on w c.in_ok-path.path b c.first_part.result.0.now (parts_of c.first_part.result.1) (sym c.read_branch.ensures ∙ c.in_ok-branch.was) fits)
          ∙ ap (λ ps. onto w (branches_said ps)) (sym c.first_part.ensures.parts) ∙ (rw c.in-Some.is at c.loop-rest.invariant.way);
      fits = fits_still (further w b) c.in_ok-path.path fits;
    }

pub loop-rest-smaller : goal.loop-rest-smaller
loop-rest-smaller c = rw c.in-Some.is (shrinks c.first_part.result.1 (length c.in-Some.bytes.now) c.first_part.ensures.shorter)
