use Rattle.std.proofs.Common.{arith}
use Rattle.aom_abstract_state.specs.declared.kind.Kind.TheVariants.{Unset}
use Rattle.aom_abstract_state.proofs.Lists.{at_within}
use Rattle.aom_abstract_state.proofs.known.Known.kind_at.Goals as goal

pub returns : goal.returns
returns c = rw (← c.self.view_is) (at_within Unset _ c.self.inside.registers c.args.index (omega (arith, c.self.invariant.0)))
