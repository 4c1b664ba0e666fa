-- Where none overrides none is overridden twice, and where each is overridden once there is no second.
use Rattle.aom_link_conditions.proofs.Leading.{nothing_once}
use Rattle.aom_link_conditions.proofs.overriding.second_overrider.Goals as goal

pub returns-then-overrides_nothing : goal.returns-then-overrides_nothing
returns-then-overrides_nothing c = nothing_once c.args.image.now (c.overrides_nothing.ensures.0 c.if-overrides_nothing.true)
