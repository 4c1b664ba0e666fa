use Rattle.std.proofs.Common.{arith}
use Rattle.aom_abstract_state.specs.declared.kind.Kind.TheVariants.{Unset}
use Rattle.aom_abstract_state.proofs.Lists.{put_written}
use Rattle.aom_abstract_state.proofs.known.Known.with_kind.Goals as goal

pub returns : goal.returns
returns c = rw (← c.self.view_is, put_written Unset c.self.inside.registers c.args.index c.args.kind (omega (arith, c.self.invariant.0)))
