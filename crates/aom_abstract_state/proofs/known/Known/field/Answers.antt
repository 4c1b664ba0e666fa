use Rattle.std.proofs.Common.{arith}
use Rattle.aom_abstract_state.specs.declared.kind.FieldState.TheVariants.{Perhaps}
use Rattle.aom_abstract_state.proofs.Lists.{at_within}
use Rattle.aom_abstract_state.proofs.known.Known.field.Goals as goal

pub returns : goal.returns
returns c = rw (← c.self.view_is, ← c.number.ensures.value) (at_within Perhaps _ c.self.inside.fields c.number.result (omega (arith, c.self.invariant.1)))
