use Rattle.std.proofs.Common.{sym, ◌∙◌}
use Rattle.aom_abstract_state.proofs.Piling.{length_listed}
use Rattle.aom_abstract_state.proofs.shape.AbstractState.height.Goals as goal

pub returns : goal.returns
returns c = rw (← c.self.view_is) (c.height.ensures ∙ sym (length_listed c.self.inside.entry_stack.height c.self.inside.nodes.now c.self.inside.entry_stack.top))
