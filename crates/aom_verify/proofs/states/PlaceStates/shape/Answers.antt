-- What is kept of a place is the state there, and past the last there is none.
use Rattle.std.proofs.Common.{None, Some, ap, sym, ◌∙◌, arith}
use Rattle.aom_verify.proofs.AbstractStateLemmas.{at_past}
use Rattle.aom_verify.specs.States.{shapes}
use Rattle.aom_verify.proofs.states.PlaceStates.shape.Goals as goal

pub returns-then-len-place : goal.returns-then-len-place
returns-then-len-place c = sym (at_past None (shapes c.args.self.now) c.args.place (omega (arith, c.if-len-place.true, c.len.ensures)))

pub returns-in-Some : goal.returns-in-Some
returns-in-Some c = ap Some (rw (← c.self.view_is) c.shape.ensures) ∙ rw c.in-Some.is at c.kept_at.ensures.shape
