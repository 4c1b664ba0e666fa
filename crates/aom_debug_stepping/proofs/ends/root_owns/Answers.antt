-- The root's number is null just where it owns nothing.
use Rattle.aom_debug_stepping.proofs.NextPlaces.{root_reported}
use Rattle.aom_debug_stepping.proofs.ends.root_owns.Goals as goal

pub returns : goal.returns
returns c = λ p s st. root_reported p c.args.parts.now s st
