use Rattle.std.proofs.Common.{arith}
use Rattle.aom_abstract_state.specs.declared.kind.FieldState.TheVariants.{Perhaps}
use Rattle.aom_abstract_state.proofs.Lists.{put_written}
use Rattle.aom_abstract_state.proofs.known.Known.with_field.Goals as goal

pub returns : goal.returns
returns c =
    rw (← c.self.view_is, ← c.number-index.ensures.value, put_written Perhaps c.self.inside.fields c.number-index.result c.args.field_state (omega (arith, c.self.invariant.1)))
